use Rattle.std.proofs.Common.{refl}
use Rattle.examples.proofs.Marked.{marked, most_tells}
use Rattle.examples.proofs.marked_examples.Goals as goal

pub returns : goal.returns
returns c = record { zero = refl; defined = marked; told = most_tells }
