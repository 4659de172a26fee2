use Rattle.std.proofs.Common.{refl}
use Rattle.semantics.proofs.Times.{kept_after_take, kept_after_close, kept_otherwise, idle_changes_nothing}
use Rattle.semantics.proofs.histories.kept_as_dropped.Goals as goal

pub returns : goal.returns
returns g c = (refl, λ telling s. (kept_after_take _ telling _ s, kept_after_close _ telling _ s, kept_otherwise s, idle_changes_nothing s))
