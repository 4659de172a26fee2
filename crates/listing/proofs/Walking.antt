-- The walk along the chosen events decides whether they are a trend.
use Rattle.std.proofs.Common.{◌≡◌, ℕ, ◌+◌, ◌/◌, ◌%◌, ◌<◌, ◌≤◌, Bool, true, false, ◌&&◌, List, [], ◌∷◌, length, get_or, drop, Some, None, Decides, MatchOption, Option, sym, refl, ap, ◌∙◌, arith}
use Rattle.events.specs.declared.event.Event.{Event}
use Rattle.pattern.specs.declared.template.Template.{Template}
use Rattle.pattern.specs.Compiled.{DecidesWords}
use Rattle.pattern.specs.Patterns.{tree}
use Rattle.rules.specs.Rules.{Rule, Decided}
use Rattle.semantics.specs.declared.setup.Setup.{Setup}
use Rattle.semantics.specs.Recursion.{shape_of}
use Rattle.semantics.specs.Trends.{Trend}
use Rattle.semantics.proofs.Shapes.{template_fits}
use Rattle.semantics.proofs.Testing.{first, last, next, trend_tested}
use Rattle.semantics.specs.Core.{goes, goes_on}
use Rattle.listing.specs.Walk.{may_come, leads, marks_at, picked, NoTrendBetween, IsFirstBetween}
use Rattle.listing.proofs.Places.{picked_chosen, picked_odd, picked_even, marks_length}

module _ {R : Type 0} (rule : Rule R) (s : Setup R) (r : Template) (k g : ℕ) where
  leads_on : (p : Event) (es : List Event) → leads rule s r k g (Some p) es ≡ goes_on (last rule s (shape_of r) k g) (next rule s (shape_of r) k) p es
  leads_on p [] = refl
  leads_on p (e ∷ es) = ap (λ b. may_come rule s r k (Some p) e && b) (leads_on e es)

  leads_goes : (es : List Event) → leads rule s r k g None es ≡ goes (first rule s (shape_of r) k) (last rule s (shape_of r) k g) (next rule s (shape_of r) k) es
  leads_goes [] = refl
  leads_goes (e ∷ es) = ap (λ b. may_come rule s r k None e && b) (leads_on e es)

  -- of the marks at place n
  pub walk_decides : Decided rule → DecidesWords (tree s.pattern) r → (events : List Event) (n : ℕ)
      → Decides (leads rule s r k g None (picked n events)) (Trend rule s k g events (marks_at (length events) n))
  walk_decides decided words events n =
      let test = trend_tested rule s (shape_of r) k decided g (template_fits s r words) events (marks_at (length events) n) in
      let same = leads_goes (picked n events) ∙ ap (goes (first rule s (shape_of r) k) (last rule s (shape_of r) k g) (next rule s (shape_of r) k)) (picked_chosen n events) in
      (λ t. test.0 (marks_length (length events) n, sym same ∙ t), λ t. same ∙ (test.1 t).1)

  -- the walk at the event at place i, which b comes of
  module _ (events : List Event) (i bits : ℕ) (p : Option Event) (e : Event) (h : i < length events) (is : e ≡ get_or events i e) (b : Bool) (from_here : leads rule s r k g p (picked bits (drop i events)) ≡ b) where
    pub refused : bits % 2 ≡ 1 → false ≡ may_come rule s r k p e → false ≡ b
    refused odd may_not = ap (λ c. c && leads rule s r k g (Some e) (picked (bits / 2) (drop (i + 1) events))) may_not ∙ sym (ap (leads rule s r k g p) (picked_odd events i bits e h is odd)) ∙ from_here

    pub taken : bits % 2 ≡ 1 → true ≡ may_come rule s r k p e → leads rule s r k g (Some e) (picked (bits / 2) (drop (i + 1) events)) ≡ b
    taken odd may = ap (λ c. c && leads rule s r k g (Some e) (picked (bits / 2) (drop (i + 1) events))) may ∙ sym (ap (leads rule s r k g p) (picked_odd events i bits e h is odd)) ∙ from_here

    pub left_out : (bits % 2 ≡ 1 → ⊥) → leads rule s r k g p (picked (bits / 2) (drop (i + 1) events)) ≡ b
    left_out even = sym (ap (leads rule s r k g p) (picked_even events i bits e h is even)) ∙ from_here

-- what `find` tells of the places that it tries
module _ {R : Type 0} (rule : Rule R) (s : Setup R) (k g : ℕ) (events : List Event) where
  abbrev At : ℕ → Type 0
  At n = Trend rule s k g events (marks_at (length events) n)

  pub first_between : (from end : ℕ) (r : Option ℕ)
      → MatchOption r ((n : ℕ) → from + 1 ≤ n → n < end → At n → ⊥) (λ n. (from + 1 ≤ n) × (n < end) × At n × ((m : ℕ) → from + 1 ≤ m → m < n → At m → ⊥))
      → MatchOption r (NoTrendBetween rule s k g events from end) (λ n. IsFirstBetween rule s k g events from end n)
  first_between from end None none = λ n above below. none n (omega arith) below
  first_between from end (Some n) h = record { above = omega arith; below = h.1; trend = h.2; none_before = λ m above below. h.3 m (omega arith) below }
