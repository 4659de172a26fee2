-- A header as it stands, before its kind is known to be any: for the readers' inner functions.
use Rattle.std.specs.Prelude.{◌≡◌, ℕ, ◌+◌, ◌<◌, List, [], ◌∷◌, ◌++◌, length, ◌≢◌, Option, Some, None, MatchOption, slice_index}
use Rattle.records.specs.declared.record.RuleSetting.{RuleSetting}
use Rattle.records.specs.Formats.{gap_fields, rule_number}
use Rattle.reading.specs.declared.read.Front.{Front}
use Rattle.reading.specs.declared.read.Raw.{Raw}

-- a header from after its mark to its rule
abbrev pub front_fields : Front → List (ℕ × ℕ)
front_fields f = (4, f.origin) ∷ (4, f.slide) ∷ (1, f.n) ∷ (1, f.kind) ∷ (1, f.rule) ∷ []

-- the rule of this number, or that no rule has it
abbrev pub IsSetting : ℕ → Option RuleSetting → Type 0
IsSetting number s = MatchOption s ((number ≢ 1) × (number ≢ 2)) (λ r. rule_number r ≡ number)

abbrev pub setting_fields : Option RuleSetting → List (ℕ × ℕ)
setting_fields None = []
setting_fields (Some r) = gap_fields r

abbrev pub raw_fields : Raw → List (ℕ × ℕ)
raw_fields r = front_fields r.front ++ (setting_fields r.rule ++ ((1, length r.text.now) ∷ []))

-- these bytes, which stand after the mark, do not hold the whole header
abbrev pub RawShort : List ℕ → Type 0
RawShort bs = (slice_index bs 10 ≡ 2 → length bs < 16 + slice_index bs 15) × ((slice_index bs 10 ≢ 2) → length bs < 12 + slice_index bs 11)
