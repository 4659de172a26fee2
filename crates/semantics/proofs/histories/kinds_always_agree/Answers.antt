use Rattle.std.proofs.Common.{refl}
use Rattle.semantics.proofs.Results.{result_unique, results_carried_lem}
use Rattle.semantics.proofs.TwoKinds.{two_kinds}
use Rattle.semantics.proofs.histories.kinds_always_agree.Goals as goal

pub returns : goal.returns
returns g c = (refl, λ t u s φ. two_kinds _ _ t u _ s φ (λ events w g x y. result_unique) (λ carries events w g v. results_carried_lem _ _ φ carries))
