-- The value of an event: what all trends that end with it so far come to, from the values of its predecessors.
-- Under Count and BATT+ with falling levels 50, 40, 45 the values are 1, 2 and 2, and they join to 5.
use Rattle.std.specs.Prelude.{◌≡◌, ℕ, Bool, true, false, cond, ◌&&◌, ◌↔◌, List, [], ◌∷◌, map, ◌==◌, nat_le, nat_lt, slice_index_or}
use Rattle.events.specs.declared.event.Event.{Event}
use Rattle.events.specs.Types.{code_of}
use Rattle.grammar.specs.Words.{Word}
use Rattle.pattern.specs.declared.template.Template.{Template}
use Rattle.pattern.specs.Patterns.{tree}
use Rattle.rules.specs.Rules.{Rule}
use Rattle.weights.specs.Kinds.{Kind}
use Rattle.semantics.specs.declared.setup.Setup.{Setup}
use Rattle.semantics.specs.Windows.{window_start, window_end, InWindow}

-- the types by which trends start, end and go on, as tests on codes
pub record Shape : Type 0 where
  pub starts : ℕ → Bool
  pub ends : ℕ → Bool
  pub steps : ℕ → ℕ → Bool

-- the shape leads from a along w to an end
abbrev pub OnwardBy : Shape → ℕ → List ℕ → Type 0
OnwardBy shape a [] = shape.ends a ≡ true
OnwardBy shape a (b ∷ w) = (shape.steps a b ≡ true) × OnwardBy shape b w

-- w begins with a start and the shape leads along it
abbrev pub LeadsBy : Shape → List ℕ → Type 0
LeadsBy shape [] = ⊥
LeadsBy shape (a ∷ w) = (shape.starts a ≡ true) × OnwardBy shape a w

-- the words of the pattern are the lists along which the shape leads
abbrev pub FitsPattern : {R : Type 0} → Setup R → Shape → Type 0
FitsPattern s shape = (w : List ℕ) → Word (tree s.pattern) w ↔ LeadsBy shape w

-- the shape that a template marks
abbrev pub shape_of : Template → Shape
shape_of r = record {
  starts = λ a. (a == code_of r.start);
  ends = λ a. (a == code_of r.end);
  steps = λ a b. nat_lt a 10 && (nat_lt b 10 && slice_index_or (slice_index_or r.marks.steps a []) b false);
}

-- an event with its value
pub record Valued (V : Type 0) : Type 0 where
  pub event : Event
  pub value : V

-- the join of the values of the events that pass
abbrev pub gathered : {V : Type 0} → Kind V → (Event → Bool) → List (Valued V) → V
gathered kind test [] = kind.zero
gathered kind test (p ∷ ps) = cond (test p.event) (kind.join p.value (gathered kind test ps)) (gathered kind test ps)

module _ {V R : Type 0} (kind : Kind V) (rule : Rule R) (s : Setup R) (shape : Shape) (k : ℕ) where
  abbrev pub in_window : Event → Bool
  in_window e = nat_le (window_start s k) e.time && nat_lt e.time (window_end s k)

  -- p may come right before e in a trend of window k
  abbrev pub precedes : Event → Event → Bool
  precedes e p = p.lift == e.lift && (in_window p && (nat_lt p.time e.time && (shape.steps p.kind e.kind && rule.says s.rule p e)))

  -- the join of the values of the predecessors of e
  abbrev pub before : Event → List (Valued V) → V
  before e ps = gathered kind (precedes e) ps

  -- the value of e, which comes after the events of the row (the newest first)
  abbrev pub value_of : Event → List (Valued V) → V
  value_of e ps = kind.chain (kind.join (cond (shape.starts e.kind) kind.one kind.zero) (before e ps)) (kind.weigh e)

  -- each event of the row that lies in the window has its value; the others may hold anything
  abbrev pub Filled : List (Valued V) → Type 0
  Filled [] = Unit {0}
  Filled (p ∷ ps) = (InWindow s k p.event.time → p.value ≡ value_of p.event ps) × Filled ps

  -- the join of the values of the lift's events that may end a trend
  abbrev pub total : ℕ → List (Valued V) → V
  total g ps = gathered kind (λ e. e.lift == g && (in_window e && shape.ends e.kind)) ps

abbrev pub events_of : {V : Type 0} → List (Valued V) → List Event
events_of = map (λ p. p.event)
