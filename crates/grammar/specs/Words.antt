-- The words of a pattern: lists of type codes.
-- A name has one word. A SEQ's words join one word of each part. A + joins one or more words of its part.
use Rattle.std.specs.Prelude.{◌≡◌, ℕ, List, [], ◌∷◌, ◌++◌}
use Rattle.events.specs.Types.{code_of}
use Rattle.grammar.specs.Trees.{Level, Tree, name, plus, seq, two, more}

-- a word of P and then a word of Q
pub data Joined (P Q : List ℕ → Type 0) : List ℕ → Type 0 where
  join : {v w : List ℕ} → P v → Q w → Joined P Q (v ++ w)

-- one or more words of P
pub data Repeated (P : List ℕ → Type 0) : List ℕ → Type 0 where
  once : {w : List ℕ} → P w → Repeated P w
  again : {v w : List ℕ} → P v → Repeated P w → Repeated P (v ++ w)

abbrev pub Word : {l : Level} → Tree l → List ℕ → Type 0
Word (name k) = λ w. w ≡ code_of k ∷ []
Word (plus t) = Repeated (Word t)
Word (seq ts) = Word ts
Word (two t u) = Joined (Word t) (Word u)
Word (more ts u) = Joined (Word ts) (Word u)
