-- The number of each refusal and of each answer that is one, and what is printed of a refusal.
use Rattle.std.specs.Prelude.{ℕ, List, codes}
use Rattle.semantics.specs.declared.refusal.CallRefusal.{CallRefusal}
use Rattle.semantics.specs.declared.refusal.CallRefusal.TheVariants.{Memory, «Type», Load, Clock, Late, Full, Window, Early, Room}
use Rattle.semantics.specs.declared.refusal.Taken.{Taken}
use Rattle.semantics.specs.declared.refusal.Taken.TheVariants.{Passed, Kept}

abbrev pub number_of : CallRefusal → ℕ
number_of Memory = 21
number_of «Type» = 22
number_of Load = 23
number_of Clock = 24
number_of Late = 25
number_of Full = 26
number_of Window = 27
number_of Early = 28
number_of Room = 29

abbrev pub text_of : CallRefusal → List ℕ
text_of Memory = codes "the memory does not fit the capacity"
text_of «Type» = codes "no event type has this code"
text_of Load = codes "the load is the largest number"
text_of Clock = codes "the time is before the clock"
text_of Late = codes "the first open window has ended by this time"
text_of Full = codes "as many events are kept as the capacity"
text_of Window = codes "the window is not open"
text_of Early = codes "the first open window has not ended"
text_of Room = codes "the bytes do not hold all records"

-- what take answers: 0 for an event passed over, 1 for one kept
abbrev pub taken_number : Taken → ℕ
taken_number Passed = 0
taken_number Kept = 1

-- what tick and close answer
abbrev pub done_number : ℕ
done_number = 0
