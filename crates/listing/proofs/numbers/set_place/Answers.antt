use Rattle.std.proofs.Common.{arith}
use Rattle.listing.proofs.Places.{marks_set}
use Rattle.listing.proofs.numbers.set_place.Goals as goal

pub loop-mark-preserved : goal.loop-mark-preserved
loop-mark-preserved c = marks_set c.loop-mark.marks c.loop-mark.mark-index c.args.place c.loop-mark.bits (omega arith) c.loop-mark.invariant
