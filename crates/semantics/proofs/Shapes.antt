-- Every pattern has a shape that fits it, and a template that decides its words has one.
use Rattle.std.proofs.Common.{◌≡◌, ℕ, Bool, false, ◌&&◌, ◌||◌, eqb, ltb, ◌↔◌, List, [], ◌∷◌, get_or, Decides}
use mathlib.Core.Bool.{false≢true}
use Rattle.std.proofs.lemmas.Bool.{eqb-true, eq-eqb}
use Rattle.std.proofs.lemmas.Bool.Decides.{Decides-and, Decides-or, Decides-ltb, Decides-like}
use Rattle.events.specs.Types.{code_of}
use Rattle.grammar.proofs.Paths.{words_are_paths}
use Rattle.grammar.specs.Templates.{start_of, end_of, Step, Onward, Leads}
use Rattle.grammar.specs.Trees.{Level, Tree, name, plus, seq, two, more}
use Rattle.grammar.specs.Words.{Word}
use Rattle.pattern.proofs.Held.{pattern_valid}
use Rattle.pattern.specs.declared.template.Template.{Template}
use Rattle.pattern.specs.Compiled.{HasStep, DecidesWords}
use Rattle.pattern.specs.Patterns.{tree}
use Rattle.semantics.specs.declared.setup.Setup.{Setup}
use Rattle.semantics.specs.Recursion.{Shape, OnwardBy, LeadsBy, FitsPattern, shape_of}

-- one start, one end, and tests that decide the steps
module _ (start end : ℕ) (steps : ℕ → ℕ → Bool) where
  abbrev pub shape_by : Shape
  shape_by = record { starts = λ a. eqb a start; ends = λ a. eqb a end; steps = steps }

  module _ (step : ℕ → ℕ → Type 0) (decides : (a b : ℕ) → Decides (steps a b) (step a b)) where
    onward_same : (a : ℕ) (w : List ℕ) → Onward step end a w ↔ OnwardBy shape_by a w
    onward_same a [] = (eq-eqb a end, eqb-true a end)
    onward_same a (b ∷ w) =
        let rest = onward_same b w in
        (λ h. ((decides a b).1 h.0, rest.0 h.1), λ h. ((decides a b).0 h.0, rest.1 h.1))

    pub leads_same : (w : List ℕ) → Leads start end step w ↔ LeadsBy shape_by w
    leads_same [] = (λ h. h, λ h. h)
    leads_same (a ∷ w) =
        let rest = onward_same a w in
        (λ h. (eq-eqb a start h.0, rest.0 h.1), λ h. (eqb-true a start h.0, rest.1 h.1))

    leads_fits : {R : Type 0} (s : Setup R) → ((w : List ℕ) → Word (tree s.pattern) w ↔ Leads start end step w) → FitsPattern s shape_by
    leads_fits s words w = (λ h. (leads_same w).0 ((words w).0 h), λ h. (words w).1 ((leads_same w).1 h))

pub marked_decides : (r : Template) (a b : ℕ) → Decides ((shape_of r).steps a b) (HasStep r a b)
marked_decides r a b =
    Decides-like ((shape_of r).steps a b) (λ h. (h.0, h.1.0, h.1.1)) (λ h. (h.0, (h.1, h.2)))
    (Decides-and (ltb a 10) (ltb b 10 && get_or (get_or r.marks.steps a []) b false) (Decides-ltb a 10)
    (Decides-and (ltb b 10) (get_or (get_or r.marks.steps a []) b false) (Decides-ltb b 10) (λ e. e, λ e. e)))

pub template_fits : {R : Type 0} (s : Setup R) (r : Template) → DecidesWords (tree s.pattern) r → FitsPattern s (shape_of r)
template_fits s r = leads_fits (code_of r.start) (code_of r.end) (shape_of r).steps (HasStep r) (marked_decides r) s

-- whether a tree has a step from a to b
abbrev pub has_step : {l : Level} → Tree l → ℕ → ℕ → Bool
has_step (name k) a b = false
has_step (plus t) a b = has_step t a b || (eqb a (end_of t) && eqb b (start_of t))
has_step (seq ts) a b = has_step ts a b
has_step (two t u) a b = has_step t a b || (has_step u a b || (eqb a (end_of t) && eqb b (start_of u)))
has_step (more ts u) a b = has_step ts a b || (has_step u a b || (eqb a (end_of ts) && eqb b (start_of u)))

both_decides : (a b m n : ℕ) → Decides (eqb a m && eqb b n) ((a ≡ m) × (b ≡ n))
both_decides a b m n = Decides-and (eqb a m) (eqb b n) (eqb-true a m, eq-eqb a m) (eqb-true b n, eq-eqb b n)

pub step_decides : {l : Level} (t : Tree l) (a b : ℕ) → Decides (has_step t a b) (Step t a b)
step_decides (name k) a b = (false≢true, λ h. absurd h)
step_decides (plus t) a b = Decides-or (has_step t a b) _ (step_decides t a b) (both_decides a b (end_of t) (start_of t))
step_decides (seq ts) a b = step_decides ts a b
step_decides (two t u) a b =
    Decides-or (has_step t a b) _ (step_decides t a b) (Decides-or (has_step u a b) _ (step_decides u a b) (both_decides a b (end_of t) (start_of u)))
step_decides (more ts u) a b =
    Decides-or (has_step ts a b) _ (step_decides ts a b) (Decides-or (has_step u a b) _ (step_decides u a b) (both_decides a b (end_of ts) (start_of u)))

-- the shape of a tree
abbrev pub shape_of_tree : {l : Level} → Tree l → Shape
shape_of_tree t = shape_by (start_of t) (end_of t) (has_step t)

pub tree_fits : {R : Type 0} (s : Setup R) → FitsPattern s (shape_of_tree (tree s.pattern))
tree_fits s =
    let t = tree s.pattern in
    leads_fits (start_of t) (end_of t) (has_step t) (Step t) (step_decides t) s (words_are_paths t (pattern_valid s.pattern).once)

pub pattern_shape : {R : Type 0} (s : Setup R) → (shape : Shape) × FitsPattern s shape
pattern_shape s = (shape_of_tree (tree s.pattern), tree_fits s)
