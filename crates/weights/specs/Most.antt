-- Most: the greatest weight of a trend, where a trend weighs the sum of its loads; nothing where there is no trend.
-- Example: joining 2 and 3 gives 3, chaining them gives 5; nothing joined with 2 is 2, chained with 2 it is nothing.
use Rattle.std.specs.Prelude.{ℕ, ◌+◌, max, cond, Some, None, Option, ◌==◌}
use Rattle.std.proofs.Math.Nat.{min-le_right}
use Rattle.std.proofs.Common.{lit≤}
use Rattle.weights.specs.declared.Told.{Told}
use Rattle.weights.specs.declared.values.Most.{Most}
use Rattle.weights.specs.Caps.{top, capped}
use Rattle.weights.specs.Kinds.{Kind}
use Rattle.weights.specs.Reports.{Report}

-- nothing, or the weight w, at most T
unfoldable pub most_of : Option ℕ → Most
most_of None = record { weight = None; fits = lit≤ tt }
most_of (Some w) = record { weight = Some (capped w); fits = min-le_right w top }

-- the larger; nothing gives way
abbrev pub larger : Option ℕ → Option ℕ → Option ℕ
larger None w = w
larger (Some v) None = Some v
larger (Some v) (Some w) = Some (max v w)

-- the smaller of sum and T; with nothing it is nothing
abbrev pub total : Option ℕ → Option ℕ → Option ℕ
total None w = None
total (Some v) None = None
total (Some v) (Some w) = Some (capped (v + w))

-- join is the larger, chain the total, an event weighs its load
abbrev pub most_kind : Kind Most
most_kind = record {
  zero = most_of None;
  one = most_of (Some 0);
  join = λ x y. most_of (larger x.weight y.weight);
  chain = λ x y. most_of (total x.weight y.weight);
  weigh = λ e. most_of (Some e.load);
}

-- a weight tells itself and 1, nothing tells 0 and 0
abbrev pub told_weight : Option ℕ → Told
told_weight None = record { first = 0; second = 0 }
told_weight (Some w) = record { first = w; second = 1 }

-- told without a second number it is nothing
abbrev pub most_report : Report Most
most_report = record {
  number = 4;
  tells = λ x. told_weight x.weight;
  reads = λ told. most_of (cond (told.second == 0) None (Some told.first));
}
