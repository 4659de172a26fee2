-- What a compiled template says: its start, its end, and which of the ten types it names and steps between.
use Rattle.std.specs.Prelude.{◌≡◌, ℕ, ◌<◌, Bool, true, false, ◌⊎◌, ◌↔◌, List, [], ◌∷◌, reverse, Some, None, Option, slice_index_or}
use Rattle.std.specs.Borrow.{Bor}
use Rattle.events.specs.declared.EventType.{EventType}
use Rattle.events.specs.Types.{code_of}
use Rattle.grammar.specs.Templates.{start_of, end_of, Step, Leads}
use Rattle.grammar.specs.Trees.{part, Tree, names, In}
use Rattle.grammar.specs.Words.{Word}
use Rattle.pattern.specs.declared.node.Node.{Node}
use Rattle.pattern.specs.declared.template.Span.{Span}
use Rattle.pattern.specs.declared.template.Marks.{Marks}
use Rattle.pattern.specs.declared.template.Template.{Template}
use Rattle.pattern.specs.Nodes.{trees}

-- the type with code a is marked
abbrev pub Marked : List Bool → ℕ → Type 0
Marked types a = (a < 10) × (slice_index_or types a false ≡ true)

-- the step from a to b is marked
abbrev pub MarkedStep : List (List Bool) → ℕ → ℕ → Type 0
MarkedStep steps a b = (a < 10) × (b < 10) × (slice_index_or (slice_index_or steps a []) b false ≡ true)

-- a is the code of a type that the pattern names
abbrev pub Named : Tree part → ℕ → Type 0
Named t a = (k : EventType) × In k (names t) × (a ≡ code_of k)

abbrev pub HasType : Template → ℕ → Type 0
HasType t a = Marked t.marks.types a

abbrev pub HasStep : Template → ℕ → ℕ → Type 0
HasStep t a b = MarkedStep t.marks.steps a b

-- the marks have gained those of the part t, which starts and ends as r: a tool of the proof
pub record Added (s s' : Marks) (t : Tree part) (r : Span) : Type 0 where
  pub starts : code_of r.start ≡ start_of t
  pub ends : code_of r.end ≡ end_of t
  pub types : (a : ℕ) → Marked s'.types a ↔ (Marked s.types a ⊎ Named t a)
  pub steps : (a b : ℕ) → MarkedStep s'.steps a b ↔ (MarkedStep s.steps a b ⊎ Step t a b)

-- the last part was added, and the nodes of the other parts are left: a tool of the proof
abbrev pub AddsLast : List (Tree part) → Marks → Marks → Option (Span × Bor (List Node)) → Type 0
AddsLast [] s s' r = Unit {0}
AddsLast (t ∷ ts) s s' None = ⊥
AddsLast (t ∷ ts) s s' (Some p) = Added s s' t p.0 × (trees (reverse p.1.now) ≡ ts)

-- a template of this tree
pub record TemplateOf (t : Tree part) (r : Template) : Type 0 where
  pub starts : code_of r.start ≡ start_of t
  pub ends : code_of r.end ≡ end_of t
  pub types : (a : ℕ) → HasType r a ↔ Named t a
  pub steps : (a b : ℕ) → HasStep r a b ↔ Step t a b

-- the words of this tree are the lists along which the template leads from start to end
abbrev pub DecidesWords : Tree part → Template → Type 0
DecidesWords t r = (w : List ℕ) → Word t w ↔ Leads (code_of r.start) (code_of r.end) (HasStep r) w
