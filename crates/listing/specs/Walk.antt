-- Choices as numbers, and the walk along the chosen events: tools of the proof.
use Rattle.std.specs.Prelude.{ℕ, zero, suc, ◌/◌, ◌%◌, ◌<◌, Bool, false, cond, ◌&&◌, List, [], ◌∷◌, length, Some, None, Option, ◌==◌, nat_le, nat_lt}
use Rattle.events.specs.declared.event.Event.{Event}
use Rattle.events.specs.Types.{code_of}
use Rattle.pattern.specs.declared.template.Template.{Template}
use Rattle.rules.specs.Rules.{Rule}
use Rattle.semantics.specs.declared.setup.Setup.{Setup}
use Rattle.semantics.specs.Recursion.{shape_of}
use Rattle.semantics.specs.Trends.{Trend}
use Rattle.semantics.specs.Windows.{window_start, window_end}

abbrev pub odd : ℕ → Bool
odd n = n % 2 == 1

-- so many marks at place n
abbrev pub marks_at : ℕ → ℕ → List Bool
marks_at zero n = []
marks_at (suc l) n = odd n ∷ marks_at l (n / 2)

-- what the marks at place n choose
abbrev pub picked : {X : Type 0} → ℕ → List X → List X
picked n [] = []
picked n (x ∷ xs) = cond (odd n) (x ∷ picked (n / 2) xs) (picked (n / 2) xs)

abbrev pub inside : {R : Type 0} → Setup R → ℕ → Event → Bool
inside s k e = nat_le (window_start s k) e.time && nat_lt e.time (window_end s k)

module _ {R : Type 0} (rule : Rule R) (s : Setup R) (r : Template) (k : ℕ) where
  -- after this one, or as the first
  abbrev pub may_come : Option Event → Event → Bool
  may_come None e = e.kind == code_of r.start
  may_come (Some p) e = p.lift == e.lift && (inside s k p && (nat_lt p.time e.time && ((shape_of r).steps p.kind e.kind && rule.says s.rule p e)))

  abbrev pub may_end : ℕ → Option Event → Bool
  may_end g None = false
  may_end g (Some p) = p.lift == g && (inside s k p && p.kind == code_of r.end)

  -- each may come, and the last may end
  abbrev pub leads : ℕ → Option Event → List Event → Bool
  leads g p [] = may_end g p
  leads g p (e ∷ es) = may_come p e && leads g (Some e) es

module _ {R : Type 0} (rule : Rule R) (s : Setup R) (k g : ℕ) (events : List Event) where
  -- no trend has a place between these two
  abbrev pub NoTrendBetween : ℕ → ℕ → Type 0
  NoTrendBetween from to = (n : ℕ) → from < n → n < to → Trend rule s k g events (marks_at (length events) n) → ⊥

  -- of the trends with a place between from and end, the one at n is the first
  pub record IsFirstBetween (from end n : ℕ) : Type 0 where
    pub above : from < n
    pub below : n < end
    pub trend : Trend rule s k g events (marks_at (length events) n)
    pub none_before : NoTrendBetween from n
