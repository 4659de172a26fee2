-- What follows from the definitions alone: for each input there is one answer, and what is written is read again.
use Rattle.std.specs.Prelude.{◌≡◌, ℕ, List, ◌++◌, Ok, Err}
use Rattle.records.specs.Fields.{row, Fit}
use Rattle.records.specs.Formats.{header_fields, header_bytes, input_fields, output_fields}
use Rattle.reading.specs.Reading.{Answer, SameHeader, IsAnswer, ReadsHeader, ReadsInput, ReadsOutput}

abbrev pub SameAnswer : {X : Type 0} → (X → X → Type 0) → Answer X → Answer X → Type 0
SameAnswer Same (Ok a) b = IsAnswer Same b a.0 a.1.now
SameAnswer Same (Err f) (Ok b) = ⊥
SameAnswer Same (Err f) (Err g) = f ≡ g

-- no input has two answers
abbrev pub One : {X : Type 0} → (X → X → Type 0) → (List ℕ → ℕ → Answer X → Type 0) → Type 0
One {X} Same Reads = (bs : List ℕ) (place : ℕ) (a b : Answer X) → Reads bs place a → Reads bs place b → SameAnswer Same a b

abbrev pub OneAnswer : Type 0
OneAnswer = One SameHeader ReadsHeader × One ◌≡◌ ReadsInput × One ◌≡◌ ReadsOutput

-- the bytes of a record whose numbers have room, with anything after them, are read as that record
abbrev pub Back : {X : Type 0} → (X → X → Type 0) → (List ℕ → ℕ → Answer X → Type 0) → (X → List (ℕ × ℕ)) → (X → List ℕ) → Type 0
Back {X} Same Reads fields bytes = (x : X) (rest : List ℕ) (place : ℕ) (a : Answer X) → Fit (fields x) → Reads (bytes x ++ rest) place a → IsAnswer Same a x rest

abbrev pub WrittenIsRead : Type 0
WrittenIsRead =
    Back SameHeader ReadsHeader header_fields header_bytes × Back ◌≡◌ ReadsInput input_fields (λ x. row (input_fields x)) × Back ◌≡◌ ReadsOutput output_fields (λ x. row (output_fields x))
