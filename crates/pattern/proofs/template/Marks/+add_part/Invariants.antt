use Rattle.std.proofs.Common.{length}
use Rattle.pattern.proofs.template.Marks.+add_part.Given as goal

abbrev pub decreases-add_part : goal.decreases-add_part
decreases-add_part l = length l.nodes.now
