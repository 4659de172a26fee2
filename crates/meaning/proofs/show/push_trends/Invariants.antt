use Rattle.std.proofs.Common.{◌-◌, ◌^◌, length}
use Rattle.listing.specs.Order.{place}
use Rattle.meaning.proofs.show.push_trends.Given as goal

abbrev pub decreases-loop-marks : goal.decreases-loop-marks
decreases-loop-marks g l = 2 ^ length l.marks - place l.marks
