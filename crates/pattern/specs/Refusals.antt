-- The number of each refusal, and what is printed of it.
use Rattle.std.specs.Prelude.{ℕ, List, ◌++◌, codes, decimal}
use Rattle.pattern.specs.declared.refusal.ReadFault.{ReadFault}
use Rattle.pattern.specs.declared.refusal.ReadRefusal.{ReadRefusal}
use Rattle.pattern.specs.declared.refusal.ReadRefusal.TheVariants.{Length, Byte, Word, Grammar, Depth, Repeat}
use Rattle.pattern.specs.declared.refusal.WriteRefusal.{WriteRefusal}
use Rattle.pattern.specs.declared.refusal.WriteRefusal.TheVariants.{Room}

abbrev pub number_of : ReadRefusal → ℕ
number_of Length = 1
number_of Byte = 2
number_of Word = 3
number_of Grammar = 4
number_of Depth = 5
number_of Repeat = 6

abbrev pub write_number_of : WriteRefusal → ℕ
write_number_of Room = 7

abbrev pub text_of : ReadRefusal → List ℕ
text_of Length = codes "a pattern text has 1 to 250 bytes"
text_of Byte = codes "no pattern has this byte"
text_of Word = codes "this word is neither SEQ nor an event type"
text_of Grammar = codes "no pattern goes on or ends like this"
text_of Depth = codes "more than 16 brackets are open"
text_of Repeat = codes "this event type stands here a second time"

abbrev pub fault_text : ReadFault → List ℕ
fault_text f = codes "refused " ++ (decimal (number_of f.refusal) ++ (codes " at " ++ decimal f.place))

abbrev pub write_text_of : WriteRefusal → List ℕ
write_text_of Room = codes "the given bytes do not hold the text"
