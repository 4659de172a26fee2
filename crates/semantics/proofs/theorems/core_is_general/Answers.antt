use Rattle.std.proofs.Common.{refl}
use Rattle.semantics.proofs.Results.{core_is_general_lem, join_laws_suffice}
use Rattle.semantics.proofs.theorems.core_is_general.Goals as goal

pub returns : goal.returns
returns g c = record { zero = refl; core = core_is_general_lem g.W.Weight.kind; joins = join_laws_suffice g.W.Weight.kind }
