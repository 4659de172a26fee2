-- What a reader answers: the record that stands at the front and what is left, or the first question with the answer no.
use Rattle.std.specs.Prelude.{◌≡◌, ℕ, ◌+◌, ◌*◌, ◌≤◌, ◌⊎◌, List, ◌++◌, length, Ok, Err, Result, ◌≢◌, slice_index}
use Rattle.std.specs.Borrow.{Bor}
use Rattle.records.specs.declared.record.Header.{Header}
use Rattle.records.specs.declared.record.Input.{Input}
use Rattle.records.specs.declared.record.Output.{Output}
use Rattle.records.specs.declared.refusal.ReadFault.{ReadFault}
use Rattle.records.specs.declared.refusal.ReadRefusal.{ReadRefusal}
use Rattle.records.specs.declared.refusal.ReadRefusal.TheVariants.{End, Mark, Short, Kind, Rule}
use Rattle.records.specs.Fields.{Begins}
use Rattle.records.specs.Formats.{mark_hd, mark_ev, mark_tk, mark_rs, mark_ft, header_fields, input_fields, output_fields}

-- the questions, in their order
pub record Questions : Type 1 where
  pub two : Type 0
  pub mark : Type 0
  pub whole : Type 0
  pub kind : Type 0
  pub rule : Type 0

-- the first with the answer no
abbrev pub FirstNo : Questions → ReadRefusal → Type 0
FirstNo q End = q.two → ⊥
FirstNo q Mark = q.two × (q.mark → ⊥)
FirstNo q Short = q.two × q.mark × (q.whole → ⊥)
FirstNo q Kind = q.two × q.mark × q.whole × (q.kind → ⊥)
FirstNo q Rule = q.two × q.mark × q.whole × q.kind × (q.rule → ⊥)

-- the number that the first two bytes write
abbrev pub mark_of : List ℕ → ℕ
mark_of bs = slice_index bs 0 * 256 + slice_index bs 1

-- where records of two marks may stand, of so many bytes each; of a kind or a rule nothing is asked
abbrev pub ask_either : ℕ → ℕ → ℕ → ℕ → List ℕ → Questions
ask_either m k n l bs = record {
  two = 2 ≤ length bs;
  mark = (mark_of bs ≡ m) ⊎ (mark_of bs ≡ n);
  whole = (mark_of bs ≡ m → k ≤ length bs) × (mark_of bs ≡ n → l ≤ length bs);
  kind = Unit {0};
  rule = Unit {0};
}

-- where a header may stand: byte 11 is the kind and byte 12 the rule; at rule 2 the gap stands at 13 to 16, the text's length at 17 and the text from 18 on, else the length at 13 and the text from 14 on
abbrev pub ask_header : List ℕ → Questions
ask_header bs = record {
  two = 2 ≤ length bs;
  mark = mark_of bs ≡ mark_hd;
  whole = (slice_index bs 12 ≡ 2 → 18 + slice_index bs 17 ≤ length bs) × ((slice_index bs 12 ≢ 2) → 14 + slice_index bs 13 ≤ length bs);
  kind = (1 ≤ slice_index bs 11) × (slice_index bs 11 ≤ 4);
  rule = (slice_index bs 12 ≡ 1) ⊎ (slice_index bs 12 ≡ 2);
}

-- at the front of bs stands this record, and then rest is left
abbrev pub HeaderAt : List ℕ → Header → List ℕ → Type 0
HeaderAt bs h rest = Begins (header_fields h) bs (h.text.now ++ rest)

abbrev pub InputAt : List ℕ → Input → List ℕ → Type 0
InputAt bs x rest = Begins (input_fields x) bs rest

abbrev pub OutputAt : List ℕ → Output → List ℕ → Type 0
OutputAt bs x rest = Begins (output_fields x) bs rest

-- a record or a fault, and what is left
abbrev pub Answer : Type 0 → Type 0
Answer X = Result (X × Bor (List ℕ)) ReadFault

-- the answer of a reader: a record that stands there, or the first question with the answer no and the place
abbrev pub Reads : {X : Type 0} → (X → List ℕ → Type 0) → Questions → ℕ → Answer X → Type 0
Reads At q place (Ok x) = At x.0 x.1.now
Reads At q place (Err f) = (f.place ≡ place) × FirstNo q f.refusal

-- the same before the place is added
abbrev pub Finds : {X : Type 0} → (X → List ℕ → Type 0) → Questions → Result (X × Bor (List ℕ)) ReadRefusal → Type 0
Finds At q (Ok x) = At x.0 x.1.now
Finds At q (Err r) = FirstNo q r

-- x is made of the record of one of two kinds that stands at the front of bs, and then rest is left
abbrev pub MadeAt : {A B X : Type 0} → (A → X → Type 0) → (B → X → Type 0) → (A → List (ℕ × ℕ)) → (B → List (ℕ × ℕ)) → List ℕ → X → List ℕ → Type 0
MadeAt {A} {B} First Second first second bs x rest = ((a : A) × First a x × Begins (first a) bs rest) ⊎ ((b : B) × Second b x × Begins (second b) bs rest)

abbrev pub ReadsHeader : List ℕ → ℕ → Answer Header → Type 0
ReadsHeader bs = Reads (HeaderAt bs) (ask_header bs)

abbrev pub ReadsInput : List ℕ → ℕ → Answer Input → Type 0
ReadsInput bs = Reads (InputAt bs) (ask_either mark_ev 15 mark_tk 6 bs)

abbrev pub ReadsOutput : List ℕ → ℕ → Answer Output → Type 0
ReadsOutput bs = Reads (OutputAt bs) (ask_either mark_rs 17 mark_ft 7 bs)

-- headers with the same numbers and the same bytes of text, wherever these lie
abbrev pub SameHeader : Header → Header → Type 0
SameHeader h k = (h.origin ≡ k.origin) × (h.slide ≡ k.slide) × (h.n ≡ k.n) × (h.kind ≡ k.kind) × (h.rule ≡ k.rule) × (h.text.now ≡ k.text.now)

-- the answer is this record, with this rest
abbrev pub IsAnswer : {X : Type 0} → (X → X → Type 0) → Answer X → X → List ℕ → Type 0
IsAnswer Same (Ok a) x rest = Same a.0 x × (a.1.now ≡ rest)
IsAnswer Same (Err f) x rest = ⊥

-- a record that stands there is the answer
abbrev pub Exact : {X : Type 0} → (X → X → Type 0) → (X → List ℕ → Type 0) → Answer X → Type 0
Exact {X} Same At a = (x : X) (rest : List ℕ) → At x rest → IsAnswer Same a x rest
