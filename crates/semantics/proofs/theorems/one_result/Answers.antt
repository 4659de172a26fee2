use Rattle.std.proofs.Common.{refl}
use Rattle.semantics.proofs.Results.{one_result_lem}
use Rattle.semantics.proofs.theorems.one_result.Goals as goal

pub returns : goal.returns
returns g c = (refl, one_result_lem g.W.Weight.kind g.R.Follow.rule g.met.W.Weight.lawful g.met.R.Follow.decides)
