-- The five formats: a mark of two letters, then fields, each a width in bytes and a number.
use Rattle.std.specs.Prelude.{◌≡◌, ℕ, ◌≤◌, List, [], ◌∷◌, ◌++◌, length, codes, Result, MatchResult}
use Rattle.records.specs.Fields.{row}
use Rattle.events.specs.declared.event.Event.{Event}
use Rattle.records.specs.declared.record.FaultRecord.{FaultRecord}
use Rattle.records.specs.declared.record.Header.{Header}
use Rattle.records.specs.declared.record.Input.{Input}
use Rattle.records.specs.declared.record.Input.TheVariants as input
use Rattle.records.specs.declared.record.KindNumber.{KindNumber}
use Rattle.records.specs.declared.record.KindNumber.TheVariants.{Count, Least, LeastWays, Most}
use Rattle.records.specs.declared.record.Output.{Output}
use Rattle.records.specs.declared.record.Output.TheVariants as output
use Rattle.records.specs.declared.record.ResultRecord.{ResultRecord}
use Rattle.records.specs.declared.record.RuleSetting.{RuleSetting}
use Rattle.records.specs.declared.record.RuleSetting.TheVariants.{Falling, Near}
use Rattle.records.specs.declared.record.Tick.{Tick}
use Rattle.records.specs.declared.record.UnknownKind.{UnknownKind}

-- the marks
abbrev pub mark_hd : ℕ
mark_hd = 0x4844

abbrev pub mark_ev : ℕ
mark_ev = 0x4556

abbrev pub mark_tk : ℕ
mark_tk = 0x544b

abbrev pub mark_rs : ℕ
mark_rs = 0x5253

abbrev pub mark_ft : ℕ
mark_ft = 0x4654

-- what follows the mark of each record
abbrev pub event_fields : Event → List (ℕ × ℕ)
event_fields e = (4, e.time) ∷ (2, e.lift) ∷ (1, e.kind) ∷ (2, e.level) ∷ (4, e.load) ∷ []

abbrev pub tick_fields : Tick → List (ℕ × ℕ)
tick_fields t = (4, t.time) ∷ []

abbrev pub result_fields : ResultRecord → List (ℕ × ℕ)
result_fields r = (1, r.kind) ∷ (4, r.window) ∷ (2, r.lift) ∷ (4, r.first) ∷ (4, r.second) ∷ []

abbrev pub fault_fields : FaultRecord → List (ℕ × ℕ)
fault_fields f = (1, f.number) ∷ (4, f.place) ∷ []

abbrev pub kind_number : KindNumber → ℕ
kind_number Count = 1
kind_number Least = 2
kind_number LeastWays = 3
kind_number Most = 4

-- the kind with this number, or that the number is not 1 to 4
abbrev pub OfNumber : ℕ → Result KindNumber UnknownKind → Type 0
OfNumber number r = MatchResult r (λ k. kind_number k ≡ number) (λ e. (1 ≤ number) × (number ≤ 4) → ⊥)

abbrev pub kind_name : KindNumber → List ℕ
kind_name Count = codes "count"
kind_name Least = codes "least"
kind_name LeastWays = codes "leastways"
kind_name Most = codes "most"

abbrev pub rule_number : RuleSetting → ℕ
rule_number Falling = 1
rule_number (Near gap) = 2

-- only Near has a gap
abbrev pub gap_fields : RuleSetting → List (ℕ × ℕ)
gap_fields Falling = []
gap_fields (Near gap) = (4, gap) ∷ []

-- the text itself follows its length
abbrev pub header_fields : Header → List (ℕ × ℕ)
header_fields h =
    (2, mark_hd) ∷ (4, h.origin) ∷ (4, h.slide) ∷ (1, h.n) ∷ (1, kind_number h.kind) ∷ (1, rule_number h.rule) ∷
    (gap_fields h.rule ++ ((1, length h.text.now) ∷ []))

abbrev pub header_bytes : Header → List ℕ
header_bytes h = row (header_fields h) ++ h.text.now

-- the records of each place, from the mark on
abbrev pub input_fields : Input → List (ℕ × ℕ)
input_fields (input.Event e) = (2, mark_ev) ∷ event_fields e
input_fields (input.Tick t) = (2, mark_tk) ∷ tick_fields t

abbrev pub output_fields : Output → List (ℕ × ℕ)
output_fields (output.Result r) = (2, mark_rs) ∷ result_fields r
output_fields (output.Fault f) = (2, mark_ft) ∷ fault_fields f
