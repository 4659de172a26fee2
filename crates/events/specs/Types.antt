-- The event types: the code that stands for each in a record, and its name in a pattern text.
-- BATT, a reading of the battery, has code 4.
use Rattle.std.specs.Prelude.{◌≡◌, ◌≢◌, ℕ, List, codes, Result, MatchResult}
use Rattle.events.specs.declared.EventType.{EventType}
use Rattle.events.specs.declared.UnknownType.{UnknownType}
use Rattle.events.specs.declared.EventType.TheVariants.{Test, Miss, Drop, Back, Batt, Mains, Call, Talk, Done, Visit}

abbrev pub code_of : EventType → ℕ
code_of Test = 0
code_of Miss = 1
code_of Drop = 2
code_of Back = 3
code_of Batt = 4
code_of Mains = 5
code_of Call = 6
code_of Talk = 7
code_of Done = 8
code_of Visit = 9

abbrev pub name_of : EventType → List ℕ
name_of Test = codes "TEST"
name_of Miss = codes "MISS"
name_of Drop = codes "DROP"
name_of Back = codes "BACK"
name_of Batt = codes "BATT"
name_of Mains = codes "MAINS"
name_of Call = codes "CALL"
name_of Talk = codes "TALK"
name_of Done = codes "DONE"
name_of Visit = codes "VISIT"

-- the type with this code, or that no type has it
abbrev pub OfCode : ℕ → Result EventType UnknownType → Type 0
OfCode code r = MatchResult r (λ k. code_of k ≡ code) (λ e. (k : EventType) → code_of k ≢ code)

-- the type with this name, or that no type has it
abbrev pub OfName : List ℕ → Result EventType UnknownType → Type 0
OfName name r = MatchResult r (λ k. name_of k ≡ name) (λ e. (k : EventType) → name_of k ≢ name)
