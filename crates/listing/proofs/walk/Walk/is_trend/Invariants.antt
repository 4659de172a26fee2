use Rattle.std.proofs.Common.{◌≡◌, drop, None}
use Rattle.listing.specs.Walk.{leads, picked}
use Rattle.listing.proofs.walk.Walk.is_trend.Given as goal

abbrev pub invariant-loop-event : goal.invariant-loop-event
invariant-loop-event g l =
    let s = l.self.scope.now in
    let lead = leads g.R.Follow.rule s.setup.now l.self.template s.window s.lift in
    lead l.previous (picked l.bits (drop l.event-index s.events.now)) ≡ lead None (picked l.place s.events.now)
