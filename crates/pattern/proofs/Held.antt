-- A pattern's ghost facts: its tree is one that reading can give.
use mathlib.Core.HLevel.{Unit-prop, ¬_prop, ×_prop}
use Rattle.std.proofs.Common.{List, [], ◌∷◌}
use mathlib.Core.Logic.{∥∥₁_elim}
use native.Mathlib.Bridge.{le_prop}
use Rattle.grammar.specs.Limits.{Valid}
use Rattle.grammar.specs.Trees.{part, Tree, Distinct}
use Rattle.pattern.specs.declared.pattern.Pattern.{Pattern}
use Rattle.pattern.specs.Patterns.{tree}

distinct_prop : {X : Type 0} (xs : List X) → IsProp (Distinct xs)
distinct_prop [] = Unit-prop
distinct_prop (x ∷ xs) = ×_prop ¬_prop (distinct_prop xs)

valid_prop : (t : Tree part) → IsProp (Valid t)
valid_prop t v w = λ i. record { short = le_prop v.short w.short i; shallow = le_prop v.shallow w.shallow i; once = distinct_prop _ v.once w.once i }

pub pattern_valid : (p : Pattern) → Valid (tree p)
pattern_valid p = ∥∥₁_elim p.valid (valid_prop (tree p)) (λ v. v)
