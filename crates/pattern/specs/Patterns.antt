-- The tree that a pattern stands for, and the outcome that an answer to a reading stands for.
use Rattle.std.specs.Prelude.{◌≡◌, ℕ, ◌↔◌, List, Ok, Err, Result}
use Rattle.grammar.specs.Trees.{part, Tree}
use Rattle.pattern.specs.declared.pattern.Pattern.{Pattern}
use Rattle.pattern.specs.declared.refusal.ReadFault.{ReadFault}
use Rattle.pattern.specs.Accepting.{Accepts}
use Rattle.pattern.specs.Nodes.{tree_of}
use Rattle.pattern.specs.Reading.{Outcome, accepted, refused}
use Rattle.pattern.specs.Refusals.{number_of}
use Rattle.pattern.specs.Stacks.{held}

abbrev pub tree : Pattern → Tree part
tree p = tree_of (held p.nodes.items p.nodes.len)

abbrev pub outcome : Result Pattern ReadFault → Outcome
outcome (Ok p) = accepted (tree p)
outcome (Err f) = refused (number_of f.refusal) f.place

-- a text is accepted exactly if it derives a tree within the limits, and then with that tree
abbrev pub Exactly : List ℕ → Outcome → Type 0
Exactly text o = (t : Tree part) → (o ≡ accepted t) ↔ Accepts text t

-- the same where the answer is left in the caller's pattern
abbrev pub read_outcome : Result (Unit {0}) ReadFault → Pattern → Outcome
read_outcome (Ok x) p = accepted (tree p)
read_outcome (Err f) p = refused (number_of f.refusal) f.place
