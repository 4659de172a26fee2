use Rattle.std.proofs.Common.{◌≡◌, ◌++◌, length, take, drop}
use Rattle.records.specs.Writing.{joined}
use Rattle.records.proofs.write.put.Given as goal

-- the parts so far are written
abbrev pub invariant-loop-part : goal.invariant-loop-part
invariant-loop-part l =
    (l.at ≡ length (joined (take l.part-index l.parts))) ×
    (l.out ≡ joined (take l.part-index l.parts) ++ drop l.at l.initial.out)
