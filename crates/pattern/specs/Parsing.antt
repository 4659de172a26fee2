-- How the parser goes from token to token, on its lists: a tool of the proof, cited by private functions only.
-- What a reading answers is said in Reading.
use Rattle.std.specs.Prelude.{◌≡◌, Bool, true, false, cond, List, [], ◌∷◌, length, Ok, Err, Result, ◌==◌, nat_lt}
use Rattle.std.specs.List.{list_any}
use Rattle.events.specs.declared.EventType.{EventType}
use Rattle.events.specs.Types.{code_of}
use Rattle.grammar.specs.declared.Symbol.{Symbol}
use Rattle.grammar.specs.declared.Symbol.TheVariants.{Name, Seq, Open, Close, Comma, Plus}
use Rattle.pattern.specs.declared.node.Node.{Node}
use Rattle.pattern.specs.declared.node.Node.TheVariants as node
use Rattle.pattern.specs.declared.parser.Bracket.{Bracket}
use Rattle.pattern.specs.declared.parser.Bracket.TheVariants.{Group, First, Second, Later}
use Rattle.grammar.specs.Texts.{spelled}
use Rattle.pattern.specs.declared.refusal.ReadFault.{ReadFault}
use Rattle.pattern.specs.declared.token.Placed.{Placed}
use Rattle.pattern.specs.Reading.{Unknown}
use Rattle.pattern.specs.Stacks.{held}
use Rattle.pattern.specs.Tokens.{bytes, Worded}
use Rattle.pattern.specs.declared.parser.Parser.{Parser}
use Rattle.pattern.specs.declared.parser.Mode.{Mode}
use Rattle.pattern.specs.declared.parser.Mode.TheVariants as mode
use Rattle.pattern.specs.declared.refusal.ReadRefusal.{ReadRefusal}
use Rattle.pattern.specs.declared.refusal.ReadRefusal.TheVariants as refusal

-- the nodes and the open brackets, the newest first
pub record View : Type 0 where
  pub mode : Mode
  pub brackets : List Bracket
  pub nodes : List Node

abbrev pub begun : View
begun = record { mode = mode.Part; brackets = []; nodes = [] }

abbrev pub is_name : EventType → Node → Bool
is_name k (node.Name j) = code_of j == code_of k
is_name k node.Plus = false
is_name k node.Pair = false
is_name k node.More = false

-- k stands among the nodes
abbrev pub has_name : EventType → List Node → Bool
has_name k = list_any (is_name k)

abbrev pub Verdict : Type 0
Verdict = Result View ReadRefusal

abbrev pub opens : Bracket → List Bracket → List Node → Verdict
opens b bs ns = cond (nat_lt (length bs) 16) (Ok (record { mode = mode.Part; brackets = b ∷ bs; nodes = ns })) (Err refusal.Depth)

abbrev pub names_part : EventType → List Bracket → List Node → Verdict
names_part k bs ns = cond (has_name k ns) (Err refusal.Repeat) (Ok (record { mode = mode.Atom; brackets = bs; nodes = node.Name k ∷ ns }))

abbrev pub at_part : List Bracket → List Node → Symbol → Verdict
at_part bs ns (Name k) = names_part k bs ns
at_part bs ns Seq = Ok (record { mode = mode.Seq; brackets = bs; nodes = ns })
at_part bs ns Open = opens Group bs ns
at_part bs ns Close = Err refusal.Grammar
at_part bs ns Comma = Err refusal.Grammar
at_part bs ns Plus = Err refusal.Grammar

abbrev pub at_seq : List Bracket → List Node → Symbol → Verdict
at_seq bs ns (Name k) = Err refusal.Grammar
at_seq bs ns Seq = Err refusal.Grammar
at_seq bs ns Open = opens First bs ns
at_seq bs ns Close = Err refusal.Grammar
at_seq bs ns Comma = Err refusal.Grammar
at_seq bs ns Plus = Err refusal.Grammar

abbrev pub closes : List Bracket → List Node → Verdict
closes [] ns = Err refusal.Grammar
closes (Group ∷ bs) ns = Ok (record { mode = mode.Atom; brackets = bs; nodes = ns })
closes (First ∷ bs) ns = Err refusal.Grammar
closes (Second ∷ bs) ns = Ok (record { mode = mode.Atom; brackets = bs; nodes = node.Pair ∷ ns })
closes (Later ∷ bs) ns = Ok (record { mode = mode.Atom; brackets = bs; nodes = node.More ∷ ns })

abbrev pub parts : List Bracket → List Node → Verdict
parts [] ns = Err refusal.Grammar
parts (Group ∷ bs) ns = Err refusal.Grammar
parts (First ∷ bs) ns = Ok (record { mode = mode.Part; brackets = Second ∷ bs; nodes = ns })
parts (Second ∷ bs) ns = Ok (record { mode = mode.Part; brackets = Later ∷ bs; nodes = node.Pair ∷ ns })
parts (Later ∷ bs) ns = Ok (record { mode = mode.Part; brackets = Later ∷ bs; nodes = node.More ∷ ns })

abbrev pub at_end : List Bracket → List Node → Symbol → Verdict
at_end bs ns (Name k) = Err refusal.Grammar
at_end bs ns Seq = Err refusal.Grammar
at_end bs ns Open = Err refusal.Grammar
at_end bs ns Close = closes bs ns
at_end bs ns Comma = parts bs ns
at_end bs ns Plus = Err refusal.Grammar

abbrev pub at_atom : List Bracket → List Node → Symbol → Verdict
at_atom bs ns (Name k) = Err refusal.Grammar
at_atom bs ns Seq = Err refusal.Grammar
at_atom bs ns Open = Err refusal.Grammar
at_atom bs ns Close = closes bs ns
at_atom bs ns Comma = parts bs ns
at_atom bs ns Plus = Ok (record { mode = mode.Repeated; brackets = bs; nodes = node.Plus ∷ ns })

abbrev pub verdict_at : Mode → List Bracket → List Node → Symbol → Verdict
verdict_at mode.Part = at_part
verdict_at mode.Seq = at_seq
verdict_at mode.Atom = at_atom
verdict_at mode.Repeated = at_end

abbrev pub verdict : View → Symbol → Verdict
verdict v x = verdict_at v.mode v.brackets v.nodes x

abbrev pub view : Parser → View
view p = record { mode = p.mode; brackets = held p.brackets.items p.brackets.len; nodes = held p.nodes.items p.nodes.len }

-- the parser went on by the verdict, or stopped by it
abbrev pub Follows : Verdict → Result (Unit {0}) ReadRefusal → Parser → Type 0
Follows v (Ok x) p = v ≡ Ok (view p)
Follows v (Err e) p = v ≡ Err e

abbrev pub none_open : List Bracket → Bool
none_open [] = true
none_open (b ∷ bs) = false

-- the tokens so far are a pattern
abbrev pub is_whole_at : Mode → List Bracket → Bool
is_whole_at mode.Part bs = false
is_whole_at mode.Seq bs = false
is_whole_at mode.Atom bs = none_open bs
is_whole_at mode.Repeated bs = none_open bs

abbrev pub is_whole : View → Bool
is_whole v = is_whole_at v.mode v.brackets

-- one token more: an unknown word, or the verdict on its symbol
pub data Stopped (v : View) (t : Placed) : ReadFault → Type 0 where
  by_word : (Worded t.token → Unknown (bytes t.token)) → {f : ReadFault} → f.refusal ≡ refusal.Word → f.place ≡ t.place → Stopped v t f
  by_verdict : (x : Symbol) → spelled x ≡ bytes t.token → {f : ReadFault} → verdict v x ≡ Err f.refusal → f.place ≡ t.place → Stopped v t f

abbrev pub Took : View → Placed → Result (Unit {0}) ReadFault → View → Type 0
Took v t (Ok x) w = (x : Symbol) × (spelled x ≡ bytes t.token) × (verdict v x ≡ Ok w)
Took v t (Err f) w = Stopped v t f
