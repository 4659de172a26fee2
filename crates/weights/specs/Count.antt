-- Count: how many trends there are.
-- Example: joining 2 and 3 counts 5, chaining them counts 6; no count passes T.
use Rattle.std.specs.Prelude.{ℕ, ◌+◌, ◌*◌}
use Rattle.std.proofs.Math.Nat.{min-le_right}
use Rattle.weights.specs.declared.values.Count.{Count}
use Rattle.weights.specs.Caps.{top, capped}
use Rattle.weights.specs.Kinds.{Kind}
use Rattle.weights.specs.Reports.{Report}

-- the count n, at most T
unfoldable pub count_of : ℕ → Count
count_of n = record { number = capped n; fits = min-le_right n top }

-- join is the smaller of sum and T, chain the smaller of product and T, an event weighs 1
abbrev pub count_kind : Kind Count
count_kind = record {
  zero = count_of 0;
  one = count_of 1;
  join = λ x y. count_of (capped (x.number + y.number));
  chain = λ x y. count_of (capped (x.number * y.number));
  weigh = λ e. count_of 1;
}

-- a count tells itself and 0
abbrev pub count_report : Report Count
count_report = record {
  number = 1;
  tells = λ x. record { first = x.number; second = 0 };
  reads = λ told. count_of told.first;
}
