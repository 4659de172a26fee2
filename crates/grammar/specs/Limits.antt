-- The limits of a pattern text besides its grammar: 250 bytes, 16 open brackets, each type name once.
use Rattle.std.specs.Prelude.{ℕ, suc, pred, ◌≤◌, max, List, [], ◌∷◌, length}
use Rattle.events.specs.declared.EventType.{EventType}
use Rattle.grammar.specs.declared.Symbol.{Symbol}
use Rattle.grammar.specs.declared.Symbol.TheVariants.{Name, Seq, Open, Close, Comma, Plus}
use Rattle.grammar.specs.Trees.{part, Tree, names, Distinct}
use Rattle.grammar.specs.Texts.{tokens, written}

-- how many brackets are open after the tokens, if d were open before them
abbrev pub opened : ℕ → List Symbol → ℕ
opened d [] = d
opened d (Name k ∷ xs) = opened d xs
opened d (Seq ∷ xs) = opened d xs
opened d (Open ∷ xs) = opened (suc d) xs
opened d (Close ∷ xs) = opened (pred d) xs
opened d (Comma ∷ xs) = opened d xs
opened d (Plus ∷ xs) = opened d xs

-- the most brackets that are open at once along the tokens
abbrev pub deepest : ℕ → List Symbol → ℕ
deepest d [] = d
deepest d (Name k ∷ xs) = deepest d xs
deepest d (Seq ∷ xs) = deepest d xs
deepest d (Open ∷ xs) = deepest (suc d) xs
deepest d (Close ∷ xs) = max d (deepest (pred d) xs)
deepest d (Comma ∷ xs) = deepest d xs
deepest d (Plus ∷ xs) = deepest d xs

-- the type names among the tokens, from the left
abbrev pub named : List Symbol → List EventType
named [] = []
named (Name k ∷ xs) = k ∷ named xs
named (Seq ∷ xs) = named xs
named (Open ∷ xs) = named xs
named (Close ∷ xs) = named xs
named (Comma ∷ xs) = named xs
named (Plus ∷ xs) = named xs

-- a pattern that reading can give, by its own written text
pub record Valid (t : Tree part) : Type 0 where
  pub short : length (written t) ≤ 250
  pub shallow : deepest 0 (tokens t) ≤ 16
  pub once : Distinct (names t)
