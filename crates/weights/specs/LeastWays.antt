-- LeastWays: the least weight of a trend, and in how many ways it is had: how many trends have it.
-- Example: (3, 2) joined with (5, 4) is (3, 2), with (3, 4) it is (3, 6); chained with (5, 4) it is (8, 8).
use Rattle.std.specs.Prelude.{ℕ, ◌+◌, ◌*◌, ◌<◌, cond, nat_lt, refl}
use Rattle.std.proofs.Math.Decide.{dec_lt}
use Rattle.std.proofs.Common.{arith}
use Rattle.weights.specs.declared.values.Least.{Least}
use Rattle.weights.specs.declared.values.LeastWays.{LeastWays}
use Rattle.weights.specs.Caps.{top, capped}
use Rattle.weights.specs.Kinds.{Kind}
use Rattle.weights.specs.Least.{least_of}
use Rattle.weights.specs.Reports.{Report}

-- zero, no trend: weight T without ways
abbrev pub zero_pair : LeastWays
zero_pair = record { weight = top; ways = 0; fits = (omega arith, omega arith); canonical = (λ e. refl, λ e. refl) }

-- n ways of weight w if w is below T and there are ways, else zero
abbrev pub pair : {w n : ℕ} → Dec (w < top) → Dec (0 < n) → LeastWays
pair {w} {n} (yes below) (yes had) = record {
  weight = w;
  ways = capped n;
  fits = (omega arith, omega arith);
  canonical = (λ e. omega arith, λ e. omega arith);
}
pair (yes below) (no without) = zero_pair
pair (no above) had = zero_pair

-- weight w in n ways, at most T; weight T or no ways is read as zero
unfoldable pub least_ways_of : ℕ → ℕ → LeastWays
least_ways_of w n = pair (dec_lt w top) (dec_lt 0 n)

-- the value of lesser weight; at equal weights the ways add up, to at most T
abbrev pub lighter : LeastWays → LeastWays → LeastWays
lighter x y = cond (nat_lt x.weight y.weight) x (cond (nat_lt y.weight x.weight) y (least_ways_of x.weight (capped (x.ways + y.ways))))

-- join is the lighter, chain adds weights and multiplies ways, to at most T, an event weighs its load in one way
abbrev pub least_ways_kind : Kind LeastWays
least_ways_kind = record {
  zero = least_ways_of top 0;
  one = least_ways_of 0 1;
  join = lighter;
  chain = λ x y. least_ways_of (capped (x.weight + y.weight)) (capped (x.ways * y.ways));
  weigh = λ e. least_ways_of e.load 1;
}

-- a value tells its weight and its ways
abbrev pub least_ways_report : Report LeastWays
least_ways_report = record {
  number = 3;
  tells = λ x. record { first = x.weight; second = x.ways };
  reads = λ told. least_ways_of told.first told.second;
}

-- the weight alone
abbrev pub without_ways : LeastWays → Least
without_ways x = least_of x.weight
