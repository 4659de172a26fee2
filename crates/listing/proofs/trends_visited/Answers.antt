use Rattle.std.proofs.Common.{refl}
use Rattle.listing.proofs.Joining.{joins_result}
use Rattle.listing.proofs.Visiting.{visits_list}
use Rattle.listing.proofs.trends_visited.Goals as goal

pub returns : goal.returns
returns g c = record {
  zero = refl;
  listed = visits_list g.R.Follow.rule;
  joined = λ s k l events v j. joins_result g.W.Weight.kind g.met.W.Weight.lawful g.R.Follow.rule s k l events j;
}
