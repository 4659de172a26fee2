use Rattle.std.proofs.Common.{length, refl, arith}
use Rattle.listing.proofs.Moving.{none_after, first_after}
use Rattle.listing.proofs.Places.{place_below, one_shifted}
use Rattle.listing.proofs.scope.Scope.next_trend.Goals as goal

pub first_above-requires : goal.first_above-requires
first_above-requires g c = omega (arith, c.place_of.ensures, place_below c.args.marks.now, one_shifted (length c.args.marks.now) (omega arith))

pub returns-in-Some-clause-next : goal.returns-in-Some-clause-next
returns-in-Some-clause-next g c = λ fit.
    let s = c.args.self.now in
    first_after g.R.Follow.rule s.setup.now s.window s.lift s.events.now c.args.marks.now fit.0 c.place_of.result c.place_of.ensures _ (one_shifted (length c.args.marks.now) (omega arith)) c.in-Some.place c.in-Some.ensures c.set_place.ensures

pub returns-in-None-clause-next : goal.returns-in-None-clause-next
returns-in-None-clause-next g c = λ fit.
    let s = c.args.self.now in
    (none_after g.R.Follow.rule s.setup.now s.window s.lift s.events.now c.args.marks.now fit.0 c.place_of.result c.place_of.ensures _ (one_shifted (length c.args.marks.now) (omega arith)) c.in-None.ensures, refl)
