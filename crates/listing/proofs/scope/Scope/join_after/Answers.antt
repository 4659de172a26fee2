use Rattle.std.proofs.Common.{◌∙◌}
use Rattle.listing.proofs.Joining.{one_joined, all_joined}
use Rattle.listing.proofs.Moving.{moves_up}
use Rattle.listing.proofs.scope.Scope.join_after.Goals as goal

pub loop-marks-preserved : goal.loop-marks-preserved
loop-marks-preserved g c =
    one_joined g.W.Weight.kind g.met.W.Weight.lawful g.R.Follow.rule c.args.self.now.setup.now c.args.self.now.window c.args.self.now.lift c.args.self.now.events.now c.args.marks.now c.loop-marks.marks c.next_trend.new.marks
    c.loop-marks.invariant (c.loop-marks-test.ensures.next (c.loop-marks.auto.marks ∙ c.requires.0, c.requires.1)) c.weight_of.ensures c.join-all.ensures

pub loop-marks-smaller : goal.loop-marks-smaller
loop-marks-smaller g c =
    moves_up g.R.Follow.rule c.args.self.now.setup.now c.args.self.now.window c.args.self.now.lift c.args.self.now.events.now c.loop-marks.marks c.next_trend.new.marks
    c.loop-marks-test.ensures.next c.loop-marks-test.ensures.refused

pub returns : goal.returns
returns g c =
    all_joined g.W.Weight.kind g.met.W.Weight.lawful g.R.Follow.rule c.args.self.now.setup.now c.args.self.now.window c.args.self.now.lift c.args.self.now.events.now c.args.marks.now c.loop-marks.marks
    c.loop-marks.invariant (c.loop-marks-test.ensures.next (c.loop-marks.auto.marks ∙ c.requires.0, c.requires.1)).0
