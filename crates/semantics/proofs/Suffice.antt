-- The kept events have all that the result of an open window takes.
use Rattle.std.proofs.Common.{◌≡◌, ℕ, ◌≤◌, Bool, true, false, cond, ◌&&◌, ◌||◌, eqb, leb, List, [], ◌∷◌, reverse, filter, sym, refl, ap, ◌∙◌, subst, ap₂, arith}
use mathlib.Core.List.{reverse_aux}
use Rattle.std.proofs.lemmas.Bool.{eq-eqb, le-leb}
use Rattle.std.specs.List.{list_any}
use Rattle.events.specs.declared.event.Event.{Event}
use Rattle.events.specs.Types.{code_of}
use Rattle.grammar.proofs.Paths.{Coded, start_in, step_in, word_leads}
use Rattle.grammar.specs.Templates.{end_of, Step, Onward}
use Rattle.grammar.specs.Trees.{Level, Tree, names, In, here, there}
use Rattle.grammar.specs.Words.{Word}
use Rattle.pattern.specs.Patterns.{tree}
use Rattle.rules.specs.Rules.{Rule, Decided}
use Rattle.weights.specs.Kinds.{Kind, Laws}
use Rattle.semantics.specs.declared.setup.Setup.{Setup}
use Rattle.semantics.specs.Histories.{accepted, first, in_pattern}
use Rattle.semantics.specs.Recursion.{shape_of, total}
use Rattle.semantics.specs.Theorems.{KeepsRelevant, KeptSuffice}
use Rattle.semantics.specs.Trends.{ResultIs}
use Rattle.semantics.specs.Windows.{window_start}
use Rattle.semantics.proofs.Dropping.{irrelevant_dropped_lem}
use Rattle.semantics.proofs.Results.{recursion_is_result_lem}
use Rattle.semantics.proofs.Shapes.{template_fits}
use Rattle.semantics.proofs.Starts.{starts_never_fall}

-- what stands in a word is the code of a name of the tree
module _ {l : Level} (t : Tree l) (c : ℕ) where
  onward_coded : (a : ℕ) (w : List ℕ) → Onward (Step t) (end_of t) a w → Coded (names t) a → In c (a ∷ w) → Coded (names t) c
  onward_coded a w o n here = n
  onward_coded a [] o n (there i) = elim i [ ]
  onward_coded a (b ∷ w) o n (there i) = onward_coded b w o.1 (step_in t a b o.0).1 i

  word_coded : (w : List ℕ) → Word t w → In c w → Coded (names t) c
  word_coded [] h i = elim i [ ]
  word_coded (a ∷ w) h i =
      let p = word_leads t (a ∷ w) h in
      onward_coded a w p.1 (subst (Coded (names t)) (sym p.0) (start_in t)) i

pub any_has : {X : Type 0} (test : X → Bool) {x : X} (xs : List X) → In x xs → test x ≡ true → list_any test xs ≡ true
any_has test [] i e = elim i [ ]
any_has test (y ∷ ys) here e = ap (λ b. b || list_any test ys) e
any_has test (y ∷ ys) (there i) e = elim (test y) as (λ b. (b || list_any test ys) ≡ true) [ true ↦ refl | false ↦ any_has test ys i e ]

kept_by_turned : {X : Type 0} (p : X → Bool) (xs ys : List X) → reverse_aux (filter p xs) (filter p ys) ≡ filter p (reverse_aux xs ys)
kept_by_turned p [] ys = refl
kept_by_turned p (x ∷ xs) ys =
    let us = filter p xs in
    let vs = filter p ys in
    elim (p x) as (λ b. reverse_aux (cond b (x ∷ us) us) vs ≡ reverse_aux us (cond b (x ∷ vs) vs)) [ true ↦ refl | false ↦ refl ]
    ∙ kept_by_turned p xs (x ∷ ys)

module _ {R : Type 0} (rule : Rule R) (s : Setup R) where
  word_in_pattern : (c : ℕ) (w : List ℕ) → Word (tree s.pattern) w → In c w → in_pattern s c ≡ true
  word_in_pattern c w h i =
      let n = word_coded (tree s.pattern) c w h i in
      any_has (λ k. eqb (code_of k) c) (names (tree s.pattern)) n.1 (eq-eqb (code_of n.0) c (sym n.2))

  -- with f the first open window, the test of the kept events passes all that window k, not before it, takes
  kept_relevant : (f k g : ℕ) → f ≤ k → KeepsRelevant rule s k g (λ e. in_pattern s e.kind && leb (window_start s f) e.time)
  kept_relevant f k g later e b w h i =
      ap₂ ◌&&◌ (word_in_pattern e.kind w h i) (le-leb (window_start s f) e.time (omega (arith, starts_never_fall s f k later, b.1.0)))

pub kept_suffice_lem : {V R : Type 0} (kind : Kind V) (rule : Rule R) → Laws kind → Decided rule → KeptSuffice kind rule
kept_suffice_lem kind rule laws decided s t decides h k g row opened same filled =
    let keep : Event → Bool = λ e. in_pattern s e.kind && leb (window_start s (first h)) e.time in
    irrelevant_dropped_lem rule s k g keep (kept_relevant rule s (first h) k g opened.0) (reverse (accepted h)) kind (total kind rule s (shape_of t) k g row)
    (subst (λ es. ResultIs kind rule s k g es (total kind rule s (shape_of t) k g row)) (ap reverse same ∙ kept_by_turned keep (accepted h) [])
    (recursion_is_result_lem kind rule s (shape_of t) k laws decided (template_fits s t decides) g row filled))
