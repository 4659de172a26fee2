use Rattle.std.proofs.Common.{length}
use Rattle.describe.proofs.describe.Given as goal

-- each record takes bytes
abbrev pub decreases-loop-used : goal.decreases-loop-used
decreases-loop-used l = length l.rest
