-- The laws of LeastWays, that what it tells reads back, and that forgetting the ways carries it to Least.
use Rattle.weights.specs.Kinds.{Laws}
use Rattle.weights.specs.Least.{least_of, least_kind}
use Rattle.weights.specs.LeastWays.{least_ways_kind, least_ways_report, without_ways}
use Rattle.weights.specs.Maps.{Carries}
use Rattle.weights.specs.Reports.{Retold}
use Rattle.weights.specs.Capping.{product_assoc, distrib_left, distrib_right}
use Rattle.weights.specs.LeastLaws.{same as same_least}
use Rattle.weights.specs.LeastWaysParts.{same, own, parts, join_weight, join_ways, chain_weight, chain_ways}

ruleset ways = (parts, join_weight, chain_weight, join_ways, chain_ways)

pub least_ways_laws : Laws least_ways_kind
least_ways_laws = record {
  joining = record {
    monoid = record {
      assoc = λ x y z. same (grind ways) (grind ways);
      identity_left = λ x. same (grind ways) (grind ways);
      identity_right = λ x. same (grind ways) (grind ways);
    };
    comm = λ x y. same (grind ways) (grind ways);
  };
  chaining = record {
    assoc = λ x y z. let e = product_assoc x.ways y.ways z.ways in same (grind ways) (grind ways);
    identity_left = λ x. same (grind ways) (grind ways);
    identity_right = λ x. same (grind ways) (grind ways);
  };
  distributive = record {
    distrib_left = λ x y z. let e = distrib_left x.ways y.ways z.ways in same (grind ways) (grind ways);
    distrib_right = λ x y z. let e = distrib_right x.ways y.ways z.ways in same (grind ways) (grind ways);
  };
  annihilating = record {
    zero_left = λ x. same (grind ways) (grind ways);
    zero_right = λ x. same (grind ways) (grind ways);
  };
}

pub least_ways_retold : Retold least_ways_report
least_ways_retold = own

pub carries : Carries least_ways_kind least_kind without_ways
unfolding least_of
carries = record {
  zero = same_least (grind parts);
  one = same_least (grind parts);
  join = λ x y. same_least (grind ways);
  chain = λ x y. same_least (grind ways);
  weigh = λ e. same_least (grind parts);
}
