-- A pattern as a tree: a type name, a part that is repeated, or a SEQ of two or more parts.
-- SEQ(DROP,MISS+)+ is plus (seq (two (name Drop) (plus (name Miss)))).
use Rattle.std.specs.Prelude.{List, [], ◌∷◌, ◌++◌}
use Rattle.events.specs.declared.EventType.{EventType}

-- one part, or the parts of a SEQ
pub data Level : Type 0 where
  part parts : Level

pub data Tree : Level → Type 0 where
  name : EventType → Tree part
  plus : Tree part → Tree part
  seq : Tree parts → Tree part
  two : Tree part → Tree part → Tree parts
  more : Tree parts → Tree part → Tree parts

-- the type names of a tree, from the left
abbrev pub names : {l : Level} → Tree l → List EventType
names (name k) = k ∷ []
names (plus t) = names t
names (seq ts) = names ts
names (two t u) = names t ++ names u
names (more ts u) = names ts ++ names u

-- x stands in a list
pub data In {X : Type 0} (x : X) : List X → Type 0 where
  here : {xs : List X} → In x (x ∷ xs)
  there : {y : X} {xs : List X} → In x xs → In x (y ∷ xs)

-- nothing stands twice in a list
abbrev pub Distinct : {X : Type 0} → List X → Type 0
Distinct [] = Unit {0}
Distinct (x ∷ xs) = (In x xs → ⊥) × Distinct xs
