use Rattle.grammar.proofs.unambiguous.one_tree.Goals as goal
use Rattle.grammar.proofs.Machine.{one_tree_lem}
use Rattle.std.proofs.Common.{refl}

pub returns : goal.returns
returns c = (refl, λ xs t u. one_tree_lem)
