-- Patterns that have the trees of the examples.
use Rattle.std.proofs.Common.{◌≡◌, ◌-◌, List, [], ◌∷◌, ◌++◌, replicate, length, refl, arith}
use Rattle.events.specs.declared.EventType.TheVariants.{Test, Miss, Drop, Batt}
use Rattle.grammar.specs.Limits.{Valid}
use Rattle.grammar.specs.Trees.{part, Tree, In, there, Distinct}
use Rattle.pattern.specs.declared.node.Node.{Node}
use Rattle.pattern.specs.declared.node.Node.TheVariants.{Name, Plus, Pair}
use Rattle.pattern.specs.declared.pattern.Pattern.{Pattern}
use Rattle.pattern.specs.Patterns.{tree}
use Rattle.examples.specs.Examples.{batts, drop_miss, drop_misses}

abbrev pub HasTree : Tree part → Type 0
HasTree t = (p : Pattern) × (tree p ≡ t)

-- the trees of the examples are within the limits of a pattern
batts_valid : Valid batts
batts_valid = record { short = omega arith; shallow = omega arith; once = (λ i. elim i [ ], tt) }

apart : In Drop (Miss ∷ []) → ⊥
apart (there i) = elim i [ ]

two_once : Distinct (Drop ∷ Miss ∷ [])
two_once = (apart, (λ i. elim i [ ], tt))

drop_miss_valid : Valid drop_miss
drop_miss_valid = record { short = omega arith; shallow = omega arith; once = two_once }

drop_misses_valid : Valid drop_misses
drop_misses_valid = record { short = omega arith; shallow = omega arith; once = two_once }

-- nodes in an array of 250, the others unused
abbrev placed : List Node → List Node
placed ns = ns ++ replicate (250 - length ns) (Name Test)

pub batts_pattern : HasTree batts
batts_pattern = (record { nodes = record { items = placed (Name Batt ∷ Plus ∷ []); len = 2; sized = refl; within = omega arith }; one = refl; valid = ∣ batts_valid ∣₁ }, refl)

pub drop_miss_pattern : HasTree drop_miss
drop_miss_pattern = (record { nodes = record { items = placed (Name Drop ∷ Name Miss ∷ Pair ∷ []); len = 3; sized = refl; within = omega arith }; one = refl; valid = ∣ drop_miss_valid ∣₁ }, refl)

pub drop_misses_pattern : HasTree drop_misses
drop_misses_pattern = (record { nodes = record { items = placed (Name Drop ∷ Name Miss ∷ Plus ∷ Pair ∷ Plus ∷ []); len = 5; sized = refl; within = omega arith }; one = refl; valid = ∣ drop_misses_valid ∣₁ }, refl)
