-- What is proved of the definitions alone, with no code.
use Rattle.std.specs.Prelude.{◌≡◌, ℕ, ◌↔◌, List}
use Rattle.grammar.specs.declared.Symbol.{Symbol}
use Rattle.grammar.specs.Grammar.{Writes}
use Rattle.grammar.specs.Templates.{start_of, end_of, Step, Leads}
use Rattle.grammar.specs.Trees.{part, Tree, names, Distinct}
use Rattle.grammar.specs.Words.{Word}

-- of a pattern that names each type once, the words are the lists along which its template leads
abbrev pub TemplateDecidesWords : Type 0
TemplateDecidesWords = (t : Tree part) → Distinct (names t) → (w : List ℕ) → Word t w ↔ Leads (start_of t) (end_of t) (Step t) w

-- no list of tokens writes two patterns
abbrev pub OneTree : Type 0
OneTree = (xs : List Symbol) (t u : Tree part) → Writes xs t → Writes xs u → t ≡ u
