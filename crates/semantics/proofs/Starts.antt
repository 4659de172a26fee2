-- Windows start at the origin and each later than the one before. Only this file knows how a start is computed.
use Rattle.std.proofs.Common.{◌≡◌, ℕ, suc, ◌+◌, ◌-◌, ◌<◌, ◌≤◌, mul-le-mul_right, mul-lt-mul_of_pos_right, le-div_iff_mul-le, zero-mul, div-le_self, le-mul_of_pos_right, arith}
use Rattle.semantics.specs.declared.setup.Setup.{Setup}
use Rattle.semantics.specs.Windows.{window_start, window_end, pane}

module _ {R : Type 0} (s : Setup R) where
  pub start_zero : window_start s 0 ≡ s.origin
  unfolding window_start
  start_zero = omega (arith, zero-mul s.slide)

  pub begun_at_origin : window_start s 0 ≤ s.origin
  begun_at_origin = omega (arith, start_zero)

  pub starts_never_fall : (k l : ℕ) → k ≤ l → window_start s k ≤ window_start s l
  unfolding window_start
  starts_never_fall k l h = omega (arith, mul-le-mul_right s.slide h)

  pub starts_rise : (k l : ℕ) → k < l → window_start s k < window_start s l
  unfolding window_start
  starts_rise k l h = omega (arith, mul-lt-mul_of_pos_right h s.ranges.1)

  pub start_before_end : (k : ℕ) → window_start s k < window_end s k
  start_before_end k = starts_rise k (k + s.span) (omega (arith, s.ranges.3))

  pub next_start : (k : ℕ) → window_start s (suc k) ≤ window_end s k
  next_start k = starts_never_fall (suc k) (k + s.span) (omega (arith, s.ranges.3))

  pub ends_never_fall : (k l : ℕ) → k ≤ l → window_end s k ≤ window_end s l
  ends_never_fall k l h = starts_never_fall (k + s.span) (l + s.span) (omega arith)

  -- the windows up to the pane of a time are those that have begun by then
  pub pane_begun : (k time : ℕ) → s.origin ≤ time → k ≤ pane s time → window_start s k ≤ time
  unfolding window_start pane
  pane_begun k time from h = omega (arith, (le-div_iff_mul-le {k = s.slide} {x = k} {y = time - s.origin} s.ranges.1).0 h)

  pub begun_pane : (k time : ℕ) → window_start s k ≤ time → k ≤ pane s time
  unfolding window_start pane
  begun_pane k time h = (le-div_iff_mul-le {k = s.slide} {x = k} {y = time - s.origin} s.ranges.1).1 (omega arith)

  pub pane_at_most : (time : ℕ) → pane s time ≤ time
  unfolding pane
  pane_at_most time = omega (arith, div-le_self (time - s.origin) s.slide)

  pub number_before_start : (k : ℕ) → k ≤ window_start s k
  unfolding window_start
  number_before_start k = omega (arith, le-mul_of_pos_right k s.ranges.1)
