-- The tree that a list of nodes in postfix order stands for. The lists here have the newest node first.
-- Name Drop, Name Miss, Plus, Pair (oldest first) stand for SEQ(DROP,MISS+).
use Rattle.std.specs.Prelude.{List, [], ◌∷◌}
use Rattle.events.specs.declared.EventType.TheVariants.{Test}
use Rattle.grammar.specs.Trees.{part, Tree, name, plus, seq, two, more}
use Rattle.pattern.specs.declared.node.Node.{Node}
use Rattle.pattern.specs.declared.node.Node.TheVariants.{Name, Plus, Pair, More}

-- one more part at the end of a SEQ; what is no SEQ becomes one
abbrev pub lengthened : Tree part → Tree part → Tree part
lengthened (name k) u = seq (two (name k) u)
lengthened (plus t) u = seq (two (plus t) u)
lengthened (seq ts) u = seq (more ts u)

-- the last part is repeated
abbrev pub repeat_last : List (Tree part) → List (Tree part)
repeat_last [] = []
repeat_last (t ∷ ts) = plus t ∷ ts

-- the last two parts become one
abbrev pub join_last : (Tree part → Tree part → Tree part) → List (Tree part) → List (Tree part)
join_last f [] = []
join_last f (u ∷ []) = []
join_last f (u ∷ t ∷ ts) = f t u ∷ ts

-- the parts that nodes stand for, the last first
abbrev pub trees : List Node → List (Tree part)
trees [] = []
trees (Name k ∷ ns) = name k ∷ trees ns
trees (Plus ∷ ns) = repeat_last (trees ns)
trees (Pair ∷ ns) = join_last (λ t u. seq (two t u)) (trees ns)
trees (More ∷ ns) = join_last lengthened (trees ns)

abbrev pub last_of : List (Tree part) → Tree part
last_of [] = name Test
last_of (t ∷ ts) = t

-- the tree of a whole pattern's nodes
abbrev pub tree_of : List Node → Tree part
tree_of ns = last_of (trees ns)
