use Rattle.std.proofs.Common.{refl}
use Rattle.semantics.proofs.Dropping.{irrelevant_dropped_lem}
use Rattle.semantics.proofs.theorems.irrelevant_dropped.Goals as goal

pub returns : goal.returns
returns g c = (refl, λ s k lift keep keeps events. irrelevant_dropped_lem g.R.Follow.rule s k lift keep keeps events g.W.Weight.kind)
