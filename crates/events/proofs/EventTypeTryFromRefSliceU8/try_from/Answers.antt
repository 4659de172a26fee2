use Rattle.events.proofs.EventTypeTryFromRefSliceU8.try_from.Goals as goal
use Rattle.events.specs.declared.EventType.TheVariants.{Test, Miss, Drop, Back, Batt, Mains, Call, Talk, Done, Visit}
use Rattle.std.proofs.Common.{arith}

pub returns : goal.returns
returns c Test = c.loop-kind.invariant 0 (omega arith)
returns c Miss = c.loop-kind.invariant 1 (omega arith)
returns c Drop = c.loop-kind.invariant 2 (omega arith)
returns c Back = c.loop-kind.invariant 3 (omega arith)
returns c Batt = c.loop-kind.invariant 4 (omega arith)
returns c Mains = c.loop-kind.invariant 5 (omega arith)
returns c Call = c.loop-kind.invariant 6 (omega arith)
returns c Talk = c.loop-kind.invariant 7 (omega arith)
returns c Done = c.loop-kind.invariant 8 (omega arith)
returns c Visit = c.loop-kind.invariant 9 (omega arith)
