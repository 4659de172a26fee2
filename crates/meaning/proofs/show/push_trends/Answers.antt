use Rattle.listing.proofs.Moving.{moves_up}
use Rattle.meaning.proofs.show.push_trends.Goals as goal

pub loop-marks-smaller : goal.loop-marks-smaller
loop-marks-smaller g c =
    let s = c.args.scope.now in
    moves_up g.R.Follow.rule s.setup.now s.window s.lift s.events.now c.loop-marks.marks c.next_trend.new.marks c.loop-marks-test.ensures.next c.loop-marks-test.ensures.refused
