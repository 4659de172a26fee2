-- How a pattern's text is written from its end: a tool of the proof, cited by private functions only.
-- What writing answers is said in Writing.
use Rattle.std.specs.Prelude.{◌≡◌, ℕ, ◌+◌, ◌≤◌, Bool, true, false, List, [], ◌∷◌, ◌++◌, length, drop}
use Rattle.grammar.specs.declared.Symbol.{Symbol}
use Rattle.grammar.specs.declared.Symbol.TheVariants.{Seq, Open}
use Rattle.grammar.specs.Texts.{enclosed, tokens, spelling}
use Rattle.grammar.specs.Trees.{part, Tree, name, plus, seq}
use Rattle.pattern.specs.declared.draft.Draft.{Draft}
use Rattle.pattern.specs.declared.node.Node.{Node}
use Rattle.pattern.specs.declared.node.Node.TheVariants.{Name, Plus, Pair, More}

-- the text so far
abbrev pub drafted : Draft → List ℕ
drafted d = drop d.at d.bytes

-- where there is room, the tokens' bytes were put before the text
pub record Puts (xs : List Symbol) (d e : Draft) : Type 0 where
  pub front : length (spelling xs) + length (drafted d) ≤ 250 → drafted e ≡ spelling xs ++ drafted d

-- the last part was put before the text in this form, and the other parts are left
abbrev pub PutsLast : (Tree part → List Symbol) → List (Tree part) → Draft → List (Tree part) → Draft → Type 0
PutsLast form [] d us e = Unit {0}
PutsLast form (t ∷ ts) d us e = (us ≡ ts) × Puts (form t) d e

-- as it stands before a +
abbrev pub operand : Tree part → List Symbol
operand t = enclosed t (tokens t)

-- as the first part of a SEQ that goes on
abbrev pub leading : Tree part → List Symbol
leading t = Seq ∷ (Open ∷ tokens t)

-- as a SEQ that goes on: its own parts, if it is one
abbrev pub unclosed : Tree part → List Symbol
unclosed (name k) = leading (name k)
unclosed (plus t) = leading (plus t)
unclosed (seq ts) = Seq ∷ (Open ∷ tokens ts)

abbrev pub node_is_plus : Node → Bool
node_is_plus (Name k) = false
node_is_plus Plus = true
node_is_plus Pair = false
node_is_plus More = false

-- the newest node is a plus
abbrev pub newest_is_plus : List Node → Bool
newest_is_plus [] = false
newest_is_plus (n ∷ ns) = node_is_plus n
