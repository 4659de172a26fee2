use Rattle.std.proofs.Common.{arith}
use Rattle.slots.proofs.Writes.{rewritten_more}
use Rattle.slots.proofs.fill.write_first.Goals as goal

pub loop-k-preserved : goal.loop-k-preserved
loop-k-preserved g c =
    rewritten_more g.W.Weight.kind c.args.slots.now c.loop-k.slots c.args.windows.first c.loop-k.k c.loop-k.invariant c.slot_of-at.result c.index-slots-at.result c.value.result c.slot_of-at.ensures
    (omega arith) (omega arith) c.requires.room c.index-slots-at.is c.value.ensures
