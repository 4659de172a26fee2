use Rattle.std.proofs.Common.{◌≡◌, ℕ, ◌<◌, get_or}
use Rattle.events.specs.Types.{name_of}
use Rattle.events.specs.declared.EventType.TheVariants.{Test}
use Rattle.events.proofs.EventTypeTryFromRefSliceU8.try_from.Given as goal

-- none of the types so far has the name
abbrev pub invariant-loop-kind : goal.invariant-loop-kind
invariant-loop-kind l = (j : ℕ) → j < l.kind-index → name_of (get_or l.kind-items j Test) ≡ l.name → ⊥
