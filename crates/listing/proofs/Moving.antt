-- From places back to marks: the first trend after given marks, or none.
use Rattle.std.proofs.Common.{◌≡◌, ℕ, ◌-◌, ◌^◌, ◌<◌, ◌≤◌, Bool, true, false, List, length, sym, ap, ◌∙◌, subst, arith}
use native.Mathlib.Decide.{ℕ_discrete, dec_le}
use Rattle.events.specs.declared.event.Event.{Event}
use Rattle.rules.specs.Rules.{Rule}
use Rattle.semantics.specs.declared.setup.Setup.{Setup}
use Rattle.semantics.specs.Trends.{Trend}
use Rattle.listing.specs.Order.{place, Fitting, FirstAfter, NoneAfter}
use Rattle.listing.specs.Walk.{marks_at, NoTrendBetween, IsFirstBetween}
use Rattle.listing.proofs.Places.{place_below, place_of, marks_back}

module _ {R : Type 0} (rule : Rule R) (s : Setup R) (k g : ℕ) (events : List Event) (from : List Bool) (same : length from ≡ length events) (p : ℕ) (at : p ≡ place from) where
  past : (n : ℕ) → NoTrendBetween rule s k g events p n → (m : List Bool) → Trend rule s k g events m → place from < place m → n ≤ place m
  past n none m t above = elim (dec_le n (place m)) [
    | yes h ↦ h
    | no h ↦ absurd (none (place m) (omega arith) (omega arith) (subst (Trend rule s k g events) (sym (ap (λ l. marks_at l (place m)) (sym t.for_each) ∙ marks_back m)) t))
  ]

  module _ (end : ℕ) (all : end ≡ 2 ^ length from) where
    pub none_after : NoTrendBetween rule s k g events p end → NoneAfter rule s k g events from
    none_after none m t = elim (dec_le (place m) (place from)) [
      | yes h ↦ h
      | no h ↦ absurd (omega (arith, past end none m t (omega arith), place_below m, ap (λ l. 2 ^ l) (same ∙ sym t.for_each)))
    ]

    pub first_after : (n : ℕ) → IsFirstBetween rule s k g events p end n → {to : List Bool} → to ≡ marks_at (length from) n → FirstAfter rule s k g events from to
    first_after n f e =
        let is : place (marks_at (length from) n) ≡ n = place_of (length from) n (omega (arith, f.below)) in
        subst (FirstAfter rule s k g events from) (sym e)
        (record {
          trend = subst (λ l. Trend rule s k g events (marks_at l n)) (sym same) f.trend;
          above = omega (arith, f.above);
          least = λ m u h. omega (arith, past n f.none_before m u h);
        })

-- there are fewer places above the marks after a move
module _ {R : Type 0} (rule : Rule R) (s : Setup R) (k g : ℕ) (events : List Event) (from to : List Bool) where
  pub moves_up : (Fitting events from → FirstAfter rule s k g events from to) → ((Fitting events from → ⊥) → (true ≡ false) × (to ≡ from)) → 2 ^ length to - place to < 2 ^ length from - place from
  moves_up next refused = elim (dec_le (length events) 16) [
    | yes few ↦ elim (ℕ_discrete (length from) (length events)) [
      | yes same ↦ let f = next (same, few) in omega (arith, f.above, place_below to, ap (λ l. 2 ^ l) (f.trend.for_each ∙ sym same))
      | no not ↦ let r = (refused (λ fit. not fit.0)).0 in absurd (cc)
    ]
    | no many ↦ let r = (refused (λ fit. many fit.1)).0 in absurd (cc)
  ]
