-- Least: the least weight of a trend, where a trend weighs the sum of its loads.
-- Example: joining 2 and 3 gives 2, chaining them gives 5; T, which no sum passes, stands for no trend.
use Rattle.std.specs.Prelude.{ℕ, ◌+◌, min}
use Rattle.std.proofs.Math.Nat.{min-le_right}
use Rattle.weights.specs.declared.values.Least.{Least}
use Rattle.weights.specs.Caps.{top, capped}
use Rattle.weights.specs.Kinds.{Kind}
use Rattle.weights.specs.Reports.{Report}

-- the weight w, at most T
unfoldable pub least_of : ℕ → Least
least_of w = record { weight = capped w; fits = min-le_right w top }

-- join is the smaller, chain the smaller of sum and T, an event weighs its load
abbrev pub least_kind : Kind Least
least_kind = record {
  zero = least_of top;
  one = least_of 0;
  join = λ x y. least_of (min x.weight y.weight);
  chain = λ x y. least_of (capped (x.weight + y.weight));
  weigh = λ e. least_of e.load;
}

-- a weight tells itself and 0
abbrev pub least_report : Report Least
least_report = record {
  number = 2;
  tells = λ x. record { first = x.weight; second = 0 };
  reads = λ told. least_of told.first;
}
