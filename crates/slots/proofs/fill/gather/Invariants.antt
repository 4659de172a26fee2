use Rattle.std.proofs.Common.{reverse, take}
use Rattle.semantics.specs.Recursion.{shape_of, before}
use Rattle.slots.specs.Rows.{row, Written}
use Rattle.slots.proofs.fill.gather.Given as goal

-- the predecessors among the events passed are joined
abbrev pub invariant-loop-i : goal.invariant-loop-i
invariant-loop-i g l =
    Written g.W.Weight.kind l.fn.own l.own 0 l.windows.first l.windows.end
    (λ k. before g.W.Weight.kind g.R.Follow.rule l.setup (shape_of l.template) k l.event (row g.W.Weight.kind l.slots k (reverse (take l.i-counter l.older))))
