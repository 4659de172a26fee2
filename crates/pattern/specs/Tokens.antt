-- What one call for the next token answers, by the stretches of the text that is left.
use Rattle.std.specs.Prelude.{◌≡◌, ℕ, suc, ◌+◌, ◌<◌, ◌≤◌, List, [], ◌∷◌, length, drop, Some, None, Ok, Err, codes, Option, Result, ◌≢◌, slice_index}
use Rattle.grammar.specs.declared.Symbol.{Symbol}
use Rattle.grammar.specs.declared.Symbol.TheVariants as symbol
use Rattle.grammar.specs.Texts.{spelled}
use Rattle.pattern.specs.declared.refusal.ReadFault.{ReadFault}
use Rattle.pattern.specs.declared.refusal.ReadRefusal.TheVariants.{Byte}
use Rattle.pattern.specs.declared.token.Placed.{Placed}
use Rattle.pattern.specs.declared.token.Token.{Token}
use Rattle.pattern.specs.declared.token.Token.TheVariants.{Word, Open, Close, Comma, Plus}
use Rattle.pattern.specs.Reading.{Letter, Letters, Stretch, at, Cut, Unknown}

-- the bytes of a token
abbrev pub bytes : Token → List ℕ
bytes (Word w) = w.now
bytes Open = codes "("
bytes Close = codes ")"
bytes Comma = codes ","
bytes Plus = codes "+"

-- what a token's bytes are, if it is a word
abbrev pub Worded : Token → Type 0
Worded (Word w) = Letters w.now
Worded Open = Unit {0}
Worded Close = Unit {0}
Worded Comma = Unit {0}
Worded Plus = Unit {0}

-- the first stretch from `from` on has these bytes at this place, and the rest begins at `to`
pub record FirstIs (text : List ℕ) (from place : ℕ) (w : List ℕ) (to : ℕ) : Type 0 where
  pub inside : place < length text
  pub ahead : from ≤ place
  pub on : place < to
  pub ends : to ≡ place + length w
  pub within : to ≤ length text
  pub rest : (ss : List Stretch) × Cut to (drop to text) ss
  pub cut : (ss : List Stretch) → Cut to (drop to text) ss → Cut from (drop from text) (at place w ∷ ss)

-- a stretch that is this token
pub record IsToken (text : List ℕ) (from place : ℕ) (t : Token) (to : ℕ) : Type 0 where
  pub first : FirstIs text from place (bytes t) to
  pub letters : Worded t

-- a byte that no pattern has
pub record IsWrong (text : List ℕ) (from place : ℕ) : Type 0 where
  pub first : FirstIs text from place (slice_index text place ∷ []) (suc place)
  pub other : Letter (slice_index text place) → ⊥
  pub unknown : Unknown (slice_index text place ∷ [])

-- what stands at a place
abbrev pub Found : List ℕ → ℕ → Option (Token × ℕ) → Type 0
Found text place None = IsWrong text place place
Found text place (Some t) = IsToken text place place t.0 t.1

-- no token is left, or here is the first one, or a byte that no pattern has stands first
abbrev pub Next : List ℕ → ℕ → Result (Option Placed) ReadFault → ℕ → Type 0
Next text from (Ok None) to = Cut from (drop from text) [] × (to ≡ from)
Next text from (Ok (Some t)) to = IsToken text from t.place t.token to
Next text from (Err f) to = IsWrong text from f.place × (f.refusal ≡ Byte) × (to ≡ from)

-- a symbol that is written with letters
abbrev pub Lettered : Symbol → Type 0
Lettered (symbol.Name k) = Unit {0}
Lettered symbol.Seq = Unit {0}
Lettered symbol.Open = ⊥
Lettered symbol.Close = ⊥
Lettered symbol.Comma = ⊥
Lettered symbol.Plus = ⊥

-- the symbol that a token is, or none if it is an unknown word
abbrev pub Symbolic : Token → Option Symbol → Type 0
Symbolic (Word w) None = (x : Symbol) → Lettered x → spelled x ≢ w.now
Symbolic (Word w) (Some x) = Lettered x × (spelled x ≡ w.now)
Symbolic Open r = r ≡ Some symbol.Open
Symbolic Close r = r ≡ Some symbol.Close
Symbolic Comma r = r ≡ Some symbol.Comma
Symbolic Plus r = r ≡ Some symbol.Plus
