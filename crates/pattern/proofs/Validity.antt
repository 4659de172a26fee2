-- A pattern that reading gives is valid: what its own text may have of bytes, brackets and names, the text read had too.
use Rattle.std.proofs.Common.{ℕ, ◌≤◌, List, length, ap, subst, arith, length-append}
use Rattle.grammar.specs.declared.Symbol.{Symbol}
use Rattle.grammar.specs.Trees.{part, Tree, Distinct}
use Rattle.grammar.specs.Texts.{spelled, spelling}
use Rattle.grammar.specs.Limits.{Valid}
use Rattle.grammar.proofs.Derivations.{same_names, no_shorter, no_deeper}
use Rattle.pattern.specs.Accepting.{Spell, nothing, token}
use Rattle.pattern.specs.Reading.{Stretch, Cut, end, space, run, single, accepted, Reads}
use Rattle.pattern.proofs.Acceptance.{reads_accepts}

-- a text has the bytes of its tokens
bytes_within : {p : ℕ} {bs : List ℕ} {ss : List Stretch} {xs : List Symbol} → Cut p bs ss → Spell ss xs → length (spelling xs) ≤ length bs
bytes_within end nothing = omega arith
bytes_within (space c) s = omega (arith, bytes_within c s)
bytes_within (run {w = w} {bs = bs} all other c) (token {x = x} {xs = xs} e s) = omega (arith, bytes_within c s, length-append w bs, length-append (spelled x) (spelling xs), ap length e)
bytes_within (single other solid c) (token {x = x} {xs = xs} e s) = omega (arith, bytes_within c s, length-append (spelled x) (spelling xs), ap length e)

pub read_valid : (text : List ℕ) (t : Tree part) → Reads text (accepted t) → Valid t
read_valid text t r =
    let a = reads_accepts text t r in
    record {
      short = omega (arith, no_shorter a.writes, bytes_within a.cut a.spell, a.short);
      shallow = omega (arith, no_deeper a.writes, a.shallow);
      once = subst Distinct (same_names a.writes) a.once;
    }
