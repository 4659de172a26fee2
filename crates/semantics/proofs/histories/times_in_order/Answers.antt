use Rattle.std.proofs.Common.{refl}
use Rattle.semantics.proofs.Times.{clock_not_behind, times_never_fall, before_the_end, taken_into_first}
use Rattle.semantics.proofs.histories.times_in_order.Goals as goal

pub returns : goal.returns
returns g c = (refl, λ telling s. (clock_not_behind _ telling _ s, times_never_fall _ telling _ s, before_the_end _ telling _ s, taken_into_first _ telling _ s))
