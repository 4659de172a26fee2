-- Where the numbers of a header stand, and that it is whole.
use Rattle.std.proofs.Common.{◌≡◌, ℕ, ◌≤◌, Option, Some, None, List, [], ◌∷◌, ◌++◌, length, get_or, sym, subst, arith, length-append}
use Rattle.reading.specs.declared.read.Front.{Front}
use Rattle.records.specs.declared.record.KindNumber.{KindNumber}
use Rattle.records.specs.declared.record.KindNumber.TheVariants.{Count, Least, LeastWays, Most}
use Rattle.records.specs.declared.record.RuleSetting.{RuleSetting}
use Rattle.records.specs.declared.record.RuleSetting.TheVariants.{Falling, Near}
use Rattle.records.specs.Fields.{Begins}
use Rattle.records.specs.Formats.{mark_hd, kind_number}
use Rattle.reading.specs.Raw.{front_fields, setting_fields, IsSetting}
use Rattle.reading.specs.Reading.{ask_header}

-- the first three questions have the answer yes, and kind and rule stand where they are asked for
pub record Placed (f : Front) (bs : List ℕ) : Type 0 where
  pub two : (ask_header bs).two
  pub mark : (ask_header bs).mark
  pub whole : (ask_header bs).whole
  pub kind : get_or bs 11 0 ≡ f.kind
  pub rule : get_or bs 12 0 ≡ f.rule

module _ (f : Front) (t rest bs : List ℕ) where
  pub placed : (s : Option RuleSetting) → IsSetting f.rule s → Begins ((2, mark_hd) ∷ (front_fields f ++ (setting_fields s ++ ((1, length t) ∷ [])))) bs (t ++ rest) → Placed f bs
  placed None n h = let l = length-append t rest in subst (Placed f) (sym h.bytes) (omega arith)
  placed (Some Falling) n h = let l = length-append t rest in subst (Placed f) (sym h.bytes) (omega arith)
  placed (Some (Near gap)) n h = let l = length-append t rest in subst (Placed f) (sym h.bytes) (omega arith)

pub kind_range : (k : KindNumber) → (1 ≤ kind_number k) × (kind_number k ≤ 4)
kind_range Count = omega arith
kind_range Least = omega arith
kind_range LeastWays = omega arith
kind_range Most = omega arith
