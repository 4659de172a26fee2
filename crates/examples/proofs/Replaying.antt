-- Calls answered by computing, from the pattern's tree: what comes out is as defined.
use Rattle.std.proofs.Common.{◌≡◌, ℕ, Bool, cond, not, ◌&&◌, ◌||◌, eqb, ltb, leb, List, [], ◌∷◌, reverse, length, Some, None, Ok, Err, filter, Option, Result, refl, ap, subst}
use Rattle.std.specs.List.{list_any}
use Rattle.events.specs.declared.event.Event.{Event}
use Rattle.events.specs.Types.{code_of}
use Rattle.grammar.specs.Trees.{part, Tree, names}
use Rattle.pattern.specs.Patterns.{tree}
use Rattle.rules.specs.Rules.{Rule, Decided}
use Rattle.weights.specs.Kinds.{Kind, Laws}
use Rattle.semantics.proofs.Results.{recursion_is_result_lem}
use Rattle.semantics.proofs.Shapes.{shape_of_tree, tree_fits}
use Rattle.semantics.specs.declared.refusal.CallRefusal.{CallRefusal}
use Rattle.semantics.specs.declared.refusal.CallRefusal.TheVariants as refusal
use Rattle.semantics.specs.declared.refusal.Taken.TheVariants.{Passed, Kept}
use Rattle.semantics.specs.declared.setup.Setup.{Setup}
use Rattle.semantics.specs.Histories.{take, tick, result, group, report, close, History, accepted, clock, first, Question, first_no, tick_questions, window_questions, close_questions}
use Rattle.semantics.specs.Meaning.{Answers, Defined}
use Rattle.semantics.specs.Recursion.{Valued, value_of, Filled, total, events_of}
use Rattle.semantics.specs.Trends.{ResultIs}
use Rattle.semantics.specs.Windows.{window_start, window_end}

-- refused by the question that says no, else answered so
abbrev answer : {A : Type 0} → Option CallRefusal → A → Result A CallRefusal
answer None a = Ok a
answer (Some r) a = Err r

answers : {A : Type 0} (P : A → Type 0) (o : Option CallRefusal) (a : A) → P a → Answers o (answer o a) P
answers P None a p = p
answers P (Some r) a p = refl

module _ {V R : Type 0} (kind : Kind V) (rule : Rule R) (s : Setup R) where
  -- the row of the recursion over the events, the newest first
  abbrev row : Tree part → ℕ → List Event → List (Valued V)
  row t k [] = []
  row t k (e ∷ es) = let ps = row t k es in record { event = e; value = value_of kind rule s (shape_of_tree t) k e ps } ∷ ps

  row_events : (t : Tree part) (k : ℕ) (es : List Event) → events_of (row t k es) ≡ es
  row_events t k [] = refl
  row_events t k (e ∷ es) = ap (λ xs. e ∷ xs) (row_events t k es)

  row_filled : (t : Tree part) (k : ℕ) (es : List Event) → Filled kind rule s (shape_of_tree t) k (row t k es)
  row_filled t k [] = tt
  row_filled t k (e ∷ es) = (λ i. refl, row_filled t k es)

  abbrev named : Tree part → ℕ → Bool
  named t code = list_any (λ k. eqb (code_of k) code) (names t)

  -- what take asks after the history
  abbrev taking : Tree part → History V → Event → List Question
  taking t h e =
      record { yes_to = leb e.kind 9; or_else = refusal.«Type» }
      ∷ record { yes_to = ltb e.load 4294967295; or_else = refusal.Load }
      ∷ record { yes_to = leb (clock s h) e.time; or_else = refusal.Clock }
      ∷ record { yes_to = ltb e.time (window_end s (first h)); or_else = refusal.Late }
      ∷ record {
        yes_to = not (named t e.kind) || ltb (length (filter (λ x. named t x.kind && leb (window_start s (first h)) x.time) (accepted h))) s.capacity;
        or_else = refusal.Full;
      }
      ∷ []

  -- the calls with their answers computed; groups and reports are left out
  abbrev pub replayed : Tree part → History V → History V
  replayed t [] = []
  replayed t (take e a ∷ h) = let r = replayed t h in take e (answer (first_no (taking t r e)) (cond (named t e.kind) Kept Passed)) ∷ r
  replayed t (tick n a ∷ h) = let r = replayed t h in tick n (answer (first_no (tick_questions s (clock s r) n)) tt) ∷ r
  replayed t (result k g a ∷ h) =
      let r = replayed t h in
      result k g (answer (first_no (window_questions s (first r) k)) (total kind rule s (shape_of_tree t) k g (row t k (accepted r)))) ∷ r
  replayed t (group k g a ∷ h) = replayed t h
  replayed t (report n a ∷ h) = replayed t h
  replayed t (close a ∷ h) = let r = replayed t h in close (answer (first_no (close_questions s (clock s r) (first r))) tt) ∷ r

  module _ (laws : Laws kind) (decided : Decided rule) where
    right : (k g : ℕ) (es : List Event) → let t = tree s.pattern in ResultIs kind rule s k g (reverse es) (total kind rule s (shape_of_tree t) k g (row t k es))
    right k g es =
        let t = tree s.pattern in
        subst (λ xs. ResultIs kind rule s k g (reverse xs) (total kind rule s (shape_of_tree t) k g (row t k es))) (row_events t k es)
        (recursion_is_result_lem kind rule s (shape_of_tree t) k laws decided (tree_fits s) g (row t k es) (row_filled t k es))

    own_defined : (h : History V) → Defined kind None rule s (replayed (tree s.pattern) h)
    own_defined [] = tt
    own_defined (take e a ∷ h) = (answers _ (first_no (taking (tree s.pattern) (replayed (tree s.pattern) h) e)) _ refl, own_defined h)
    own_defined (tick n a ∷ h) = (answers _ (first_no (tick_questions s (clock s (replayed (tree s.pattern) h)) n)) _ tt, own_defined h)
    own_defined (result k g a ∷ h) =
        let r = replayed (tree s.pattern) h in
        (answers _ (first_no (window_questions s (first r) k)) _ (right k g (accepted r)), own_defined h)
    own_defined (group k g a ∷ h) = own_defined h
    own_defined (report n a ∷ h) = own_defined h
    own_defined (close a ∷ h) = let r = replayed (tree s.pattern) h in (answers _ (first_no (close_questions s (clock s r) (first r))) _ tt, own_defined h)

    pub replay_defined : (t : Tree part) → tree s.pattern ≡ t → (h : History V) → Defined kind None rule s (replayed t h)
    replay_defined t e h = subst (λ u. Defined kind None rule s (replayed u h)) e (own_defined h)
