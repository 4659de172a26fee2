use Rattle.std.proofs.Common.{refl}
use Rattle.semantics.proofs.Suffice.{kept_suffice_lem}
use Rattle.semantics.proofs.theorems.kept_suffice.Goals as goal

pub returns : goal.returns
returns g c = (refl, kept_suffice_lem g.W.Weight.kind g.R.Follow.rule g.met.W.Weight.lawful g.met.R.Follow.decides)
