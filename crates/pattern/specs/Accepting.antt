-- Which texts are accepted, and as which pattern, said of the whole text at once: reading agrees with it.
-- " ( BATT ) + " is accepted as plus (name Batt).
use Rattle.std.specs.Prelude.{◌≡◌, ℕ, ◌≤◌, List, [], ◌∷◌, length}
use Rattle.grammar.specs.declared.Symbol.{Symbol}
use Rattle.grammar.specs.Trees.{part, Tree, Distinct}
use Rattle.grammar.specs.Grammar.{Writes}
use Rattle.grammar.specs.Texts.{spelled}
use Rattle.grammar.specs.Limits.{deepest, named}
use Rattle.pattern.specs.Reading.{Stretch, at, Cut}

-- the stretches are these tokens, one by one
pub data Spell : List Stretch → List Symbol → Type 0 where
  nothing : Spell [] []
  token : {p : ℕ} {w : List ℕ} {ss : List Stretch} {x : Symbol} {xs : List Symbol} → spelled x ≡ w → Spell ss xs → Spell (at p w ∷ ss) (x ∷ xs)

-- the text's tokens write the pattern, and the limits are kept
pub record Accepts (text : List ℕ) (t : Tree part) : Type 0 where
  pub stretches : List Stretch
  pub tokens : List Symbol
  pub some : 1 ≤ length text
  pub short : length text ≤ 250
  pub cut : Cut 0 text stretches
  pub spell : Spell stretches tokens
  pub writes : Writes tokens t
  pub shallow : deepest 0 tokens ≤ 16
  pub once : Distinct (named tokens)
