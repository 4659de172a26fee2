-- How a pattern is written out: no spaces, and plain brackets only round a part that ends in + and takes another +.
use Rattle.std.specs.Prelude.{ℕ, List, [], ◌∷◌, ◌++◌, codes}
use Rattle.events.specs.Types.{name_of}
use Rattle.grammar.specs.declared.Symbol.{Symbol}
use Rattle.grammar.specs.declared.Symbol.TheVariants.{Name, Seq, Open, Close, Comma, Plus}
use Rattle.grammar.specs.Trees.{Level, part, Tree, name, plus, seq, two, more}

-- a part that ends in + is put in brackets before it takes another
abbrev pub enclosed : Tree part → List Symbol → List Symbol
enclosed (name k) xs = xs
enclosed (plus t) xs = Open ∷ (xs ++ Close ∷ [])
enclosed (seq ts) xs = xs

-- the tokens of a tree
abbrev pub tokens : {l : Level} → Tree l → List Symbol
tokens (name k) = Name k ∷ []
tokens (plus t) = enclosed t (tokens t) ++ Plus ∷ []
tokens (seq ts) = Seq ∷ (Open ∷ (tokens ts ++ Close ∷ []))
tokens (two t u) = tokens t ++ Comma ∷ tokens u
tokens (more ts u) = tokens ts ++ Comma ∷ tokens u

-- the bytes of a token
abbrev pub spelled : Symbol → List ℕ
spelled (Name k) = name_of k
spelled Seq = codes "SEQ"
spelled Open = codes "("
spelled Close = codes ")"
spelled Comma = codes ","
spelled Plus = codes "+"

-- the bytes of some tokens, with nothing between them
abbrev pub spelling : List Symbol → List ℕ
spelling [] = []
spelling (x ∷ xs) = spelled x ++ spelling xs

abbrev pub written : Tree part → List ℕ
written t = spelling (tokens t)
