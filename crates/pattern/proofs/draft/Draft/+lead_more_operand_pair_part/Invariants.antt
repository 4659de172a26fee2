use Rattle.std.proofs.Common.{◌+◌, ◌*◌, length}
use Rattle.pattern.proofs.draft.Draft.+lead_more_operand_pair_part.Given as goal

-- by the nodes, and at the same nodes a part is below what calls it
abbrev pub decreases-part : goal.decreases-part
decreases-part l = 3 * length l.nodes.now

abbrev pub decreases-lead : goal.decreases-lead
decreases-lead l = 3 * length l.nodes.now + 1

abbrev pub decreases-operand : goal.decreases-operand
decreases-operand l = 3 * length l.nodes.now + 1

abbrev pub decreases-pair : goal.decreases-pair
decreases-pair l = 3 * length l.nodes.now + 2

abbrev pub decreases-more : goal.decreases-more
decreases-more l = 3 * length l.nodes.now + 2
