use Rattle.std.proofs.Common.{refl}
use Rattle.semantics.proofs.Results.{results_carried_lem}
use Rattle.semantics.proofs.theorems.results_carried.Goals as goal

pub returns : goal.returns
returns g c = (refl, λ φ carries s k lift events v. results_carried_lem g.V.Weight.kind g.W.Weight.kind φ carries)
