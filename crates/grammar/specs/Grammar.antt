-- Which tokens write a pattern. A part is an atom, or an atom and one +. An atom is a type name, a part in brackets,
-- or SEQ with two or more parts in brackets, commas between. Plain brackets leave nothing behind in the tree.
-- (BATT+)+ derives plus (plus (name Batt)), and so does ((BATT)+)+.
use Rattle.std.specs.Prelude.{List, [], ◌∷◌, ◌++◌}
use Rattle.events.specs.declared.EventType.{EventType}
use Rattle.grammar.specs.declared.Symbol.{Symbol}
use Rattle.grammar.specs.declared.Symbol.TheVariants.{Name, Seq, Open, Close, Comma, Plus}
use Rattle.grammar.specs.Trees.{Level, part, parts, Tree, name, plus, seq, two, more}

pub data Role : Type 0 where
  an_atom a_part some_parts : Role

-- in this role, the tree is written by the tokens
pub data Derives : Role → (l : Level) → Tree l → List Symbol → Type 0 where
  named : (k : EventType) → Derives an_atom part (name k) (Name k ∷ [])
  bracketed : {t : Tree part} {xs : List Symbol} → Derives a_part part t xs → Derives an_atom part t (Open ∷ (xs ++ Close ∷ []))
  in_order : {ts : Tree parts} {xs : List Symbol} → Derives some_parts parts ts xs → Derives an_atom part (seq ts) (Seq ∷ (Open ∷ (xs ++ Close ∷ [])))
  plain : {t : Tree part} {xs : List Symbol} → Derives an_atom part t xs → Derives a_part part t xs
  repeated : {t : Tree part} {xs : List Symbol} → Derives an_atom part t xs → Derives a_part part (plus t) (xs ++ Plus ∷ [])
  first_two : {t u : Tree part} {xs ys : List Symbol} → Derives a_part part t xs → Derives a_part part u ys → Derives some_parts parts (two t u) (xs ++ Comma ∷ ys)
  one_more : {ts : Tree parts} {u : Tree part} {xs ys : List Symbol} → Derives some_parts parts ts xs → Derives a_part part u ys → Derives some_parts parts (more ts u) (xs ++ Comma ∷ ys)

-- the tokens are a pattern
abbrev pub Writes : List Symbol → Tree part → Type 0
Writes xs t = Derives a_part part t xs

-- the tokens can begin a pattern
abbrev pub Begins : List Symbol → Type 0
Begins xs = (ys : List Symbol) × (t : Tree part) × Writes (xs ++ ys) t
