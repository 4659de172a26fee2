use Rattle.slots.specs.Rows.{Rewritten}
use Rattle.slots.proofs.fill.write_first.Given as goal

-- the windows passed were written
abbrev pub invariant-loop-k : goal.invariant-loop-k
invariant-loop-k g l = Rewritten g.W.Weight.kind l.initial.slots l.slots l.fn.windows.first l.k (goal.F-post g l.value)
