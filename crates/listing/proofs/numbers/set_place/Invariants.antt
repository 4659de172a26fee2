use Rattle.std.proofs.Common.{◌≡◌, ◌-◌, ◌++◌, length, take}
use Rattle.listing.specs.Walk.{marks_at}
use Rattle.listing.proofs.numbers.set_place.Given as goal

abbrev pub invariant-loop-mark : goal.invariant-loop-mark
invariant-loop-mark l = take l.mark-index l.marks ++ marks_at (length l.marks - l.mark-index) l.bits ≡ marks_at (length l.marks) l.place
