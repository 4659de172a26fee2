-- What writing a header does with the given bytes: its bytes stand at the front and the others are as they were, or all are.
use Rattle.std.specs.Prelude.{◌≡◌, ℕ, ◌<◌, ◌≤◌, List, ◌++◌, length, drop, flat_map, Ok, Err, Result}
use Rattle.std.specs.Borrow.{Bor}
use Rattle.records.specs.declared.record.Header.{Header}
use Rattle.records.specs.declared.refusal.WriteRefusal.{WriteRefusal}
use Rattle.records.specs.declared.refusal.WriteRefusal.TheVariants.{Text, Room}
use Rattle.records.specs.Fields.{Fit}
use Rattle.records.specs.Formats.{header_fields, header_bytes}

-- parts in a row
abbrev pub joined : List (Bor (List ℕ)) → List ℕ
joined parts = flat_map (λ part. part.now) parts

abbrev pub WritesHeader : Header → List ℕ → List ℕ → Result ℕ WriteRefusal → Type 0
WritesHeader h before after (Ok n) = Fit (header_fields h) × (n ≡ length (header_bytes h)) × (after ≡ header_bytes h ++ drop n before)
WritesHeader h before after (Err Text) = (255 < length h.text.now) × (after ≡ before)
WritesHeader h before after (Err Room) = (length h.text.now ≤ 255) × (length before < length (header_bytes h)) × (after ≡ before)
