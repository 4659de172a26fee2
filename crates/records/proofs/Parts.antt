-- Parts written one after the other, and the parts of a header.
use Rattle.std.proofs.Common.{◌≡◌, ℕ, zero, suc, ◌+◌, ◌%◌, ◌<◌, ◌≤◌, List, [], ◌∷◌, ◌++◌, length, take, get_or, refl, arith, length-append, append-nil, rules}
use Rattle.std.specs.Int.{w16, w32, to_be_bytes}
use Rattle.std.specs.Borrow.{Bor}
use Rattle.records.specs.declared.record.Header.{Header}
use Rattle.records.specs.declared.record.KindNumber.{KindNumber}
use Rattle.records.specs.declared.record.KindNumber.TheVariants.{Count, Least, LeastWays, Most}
use Rattle.records.specs.declared.record.RuleSetting.{RuleSetting}
use Rattle.records.specs.declared.record.RuleSetting.TheVariants.{Falling, Near}
use Rattle.records.specs.Fields.{bytes_of, row}
use Rattle.records.specs.Formats.{gap_fields, kind_number, rule_number, header_bytes}
use Rattle.records.specs.Writing.{joined}

pub next_fits : (parts : List (Bor (List ℕ))) (k : ℕ) (d : Bor (List ℕ)) → k < length parts → length (joined (take k parts)) + length (get_or parts k d).now ≤ length (joined parts)
next_fits [] k d h = absurd (omega arith)
next_fits (p ∷ ps) zero d h = simp length-append (omega arith)
next_fits (p ∷ ps) (suc k) d h = let i = next_fits ps k d (omega arith) in simp length-append (omega arith)

-- what std writes of a number
pub two_bytes : (n : ℕ) → to_be_bytes w16 n ≡ bytes_of 2 n
two_bytes n = search rules

pub four_bytes : (n : ℕ) → to_be_bytes w32 n ≡ bytes_of 4 n
four_bytes n = search rules

-- what follows a header's rule
tail_bytes : (s : RuleSetting) (n : ℕ) (t : List ℕ) → row (gap_fields s ++ ((1, n) ∷ [])) ++ t ≡ row (gap_fields s) ++ (n % 256 ∷ t)
tail_bytes Falling n t = refl
tail_bytes (Near gap) n t = refl

kind_byte : (k : KindNumber) → kind_number k % 256 ≡ kind_number k
kind_byte Count = refl
kind_byte Least = refl
kind_byte LeastWays = refl
kind_byte Most = refl

rule_byte : (s : RuleSetting) → rule_number s % 256 ≡ rule_number s
rule_byte Falling = refl
rule_byte (Near gap) = refl

pub header_parts : (h : Header) (origin slide gap : List ℕ) (kind rule : ℕ) →
    origin ≡ bytes_of 4 h.origin → slide ≡ bytes_of 4 h.slide → kind ≡ kind_number h.kind → rule ≡ rule_number h.rule → gap ≡ row (gap_fields h.rule) →
    h.n % 256 ≡ h.n → length h.text.now % 256 ≡ length h.text.now →
    72 ∷ 68 ∷ (origin ++ (slide ++ (h.n ∷ kind ∷ rule ∷ (gap ++ (length h.text.now ∷ (h.text.now ++ [])))))) ≡ header_bytes h
header_parts h origin slide gap kind rule o s k r g n l =
    rw (o, s, k, r, g, kind_byte h.kind, rule_byte h.rule, n, tail_bytes h.rule (length h.text.now) h.text.now, l, append-nil h.text.now) refl

pub header_size : (h : Header) → 14 + length (row (gap_fields h.rule)) + length h.text.now ≡ length (header_bytes h)
header_size h = rw (tail_bytes h.rule (length h.text.now) h.text.now) (simp length-append (omega arith))
