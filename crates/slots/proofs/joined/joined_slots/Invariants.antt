use Rattle.std.proofs.Common.{◌≡◌, reverse, take}
use Rattle.semantics.specs.Core.{gathered}
use Rattle.slots.specs.Rows.{row, ends_by}
use Rattle.slots.proofs.joined.joined_slots.Given as goal

-- the sum is that of the events passed
abbrev pub invariant-loop-i : goal.invariant-loop-i
invariant-loop-i g l = l.sum ≡ gathered g.W.Weight.kind (ends_by l.lift l.ends l.from) (row g.W.Weight.kind l.slots l.window (reverse (take l.i l.events)))
