-- The number of each refusal, and what is printed of it.
use Rattle.std.specs.Prelude.{ℕ, List, ◌++◌, codes, decimal}
use Rattle.records.specs.declared.refusal.ReadFault.{ReadFault}
use Rattle.records.specs.declared.refusal.ReadRefusal.{ReadRefusal}
use Rattle.records.specs.declared.refusal.ReadRefusal.TheVariants.{End, Mark, Short, Kind, Rule}
use Rattle.records.specs.declared.refusal.WriteRefusal.{WriteRefusal}
use Rattle.records.specs.declared.refusal.WriteRefusal.TheVariants.{Text, Room}

abbrev pub number_of : ReadRefusal → ℕ
number_of End = 31
number_of Mark = 32
number_of Short = 33
number_of Kind = 34
number_of Rule = 35

abbrev pub text_of : ReadRefusal → List ℕ
text_of End = codes "the input ends here"
text_of Mark = codes "this mark may not stand here"
text_of Short = codes "the record is cut short"
text_of Kind = codes "no weight kind has this number"
text_of Rule = codes "no follow rule has this number"

abbrev pub fault_text : ReadFault → List ℕ
fault_text f = codes "refused " ++ (decimal (number_of f.refusal) ++ (codes " at " ++ decimal f.place))

abbrev pub write_text_of : WriteRefusal → List ℕ
write_text_of Text = codes "the text has more than 255 bytes"
write_text_of Room = codes "there is no room for the header"
