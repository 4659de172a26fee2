-- Whether a type stands among nodes, whichever of them comes first.
use Rattle.std.proofs.Common.{◌≡◌, Bool, eqb, List, reverse, sym, refl, ap, ap₂, ◌∙◌}
use Rattle.std.specs.List.{list_any}
use Rattle.std.proofs.lemmas.List.Sorted.{list_any-IsPermutation, IsPermutation-reverse}
use denote.Enum.Declared.{tag_of}
use Rattle.events.specs.declared.EventType.{EventType}
use Rattle.events.specs.declared.EventType.TheVariants.{Test, Miss, Drop, Back, Batt, Mains, Call, Talk, Done, Visit}
use Rattle.events.specs.contracts.EventType.{the_type}
use Rattle.events.specs.Types.{code_of}
use Rattle.pattern.specs.declared.node.Node.{Node}
use Rattle.pattern.specs.declared.node.Node.TheVariants.{Name, Plus, Pair, More}
use Rattle.pattern.specs.contracts.node.NodePartialEq.TheImpl.{ghosts}
use Rattle.pattern.specs.Parsing.{is_name, has_name}

tag_is_code : (k : EventType) → tag_of the_type k ≡ code_of k
tag_is_code Test = refl
tag_is_code Miss = refl
tag_is_code Drop = refl
tag_is_code Back = refl
tag_is_code Batt = refl
tag_is_code Mains = refl
tag_is_code Call = refl
tag_is_code Talk = refl
tag_is_code Done = refl
tag_is_code Visit = refl

-- the derived comparison with a name
equals_name : (k : EventType) (n : Node) → ghosts.eq n (Name k) ≡ is_name k n
equals_name k (Name j) = ap₂ eqb (tag_is_code j) (tag_is_code k)
equals_name k Plus = refl
equals_name k Pair = refl
equals_name k More = refl

-- whether nodes have a name, the oldest first, is whether they do with the newest first
pub names_same : (k : EventType) (ns ms : List Node) (b c : Bool) → ms ≡ ns → b ≡ list_any (λ n. ghosts.eq n (Name k)) ms → b ≡ c → has_name k (reverse ns) ≡ c
names_same k ns ms b c same found is =
    sym (list_any-IsPermutation (is_name k) ns (reverse ns) (IsPermutation-reverse ns)) ∙ ap (has_name k) (sym same) ∙ (λ i. list_any (λ n. sym (equals_name k n) i) ms) ∙ sym found ∙ is
