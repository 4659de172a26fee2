use Rattle.std.proofs.Common.{◌-◌, ◌^◌, length}
use Rattle.listing.specs.Order.{place, JoinsAfter}
use Rattle.listing.proofs.scope.Scope.join_after.Given as goal

-- what is joined so far, with what is met from here on, is what is met from the start
abbrev pub invariant-loop-marks : goal.invariant-loop-marks
invariant-loop-marks g l =
    (v : g.row.W.Denot) → JoinsAfter g.R.Follow.rule l.self.setup.now l.self.window l.self.lift l.self.events.now g.W.Weight.kind l.marks v
    → JoinsAfter g.R.Follow.rule l.self.setup.now l.self.window l.self.lift l.self.events.now g.W.Weight.kind l.initial.marks (g.W.Weight.kind.join l.all v)

abbrev pub decreases-loop-marks : goal.decreases-loop-marks
decreases-loop-marks g l = 2 ^ length l.marks - place l.marks
