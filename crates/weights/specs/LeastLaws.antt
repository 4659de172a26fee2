-- The laws of Least, and that what it tells reads back.
use Rattle.std.specs.Prelude.{◌≡◌, ℕ, ◌+◌, ◌≤◌, min}
use Rattle.std.proofs.Common.{ap, subst, arith}
use Rattle.std.proofs.Math.Bridge.{le_prop}
use Rattle.weights.specs.declared.values.Least.{Least}
use Rattle.weights.specs.Caps.{top, capped}
use Rattle.weights.specs.Least.{least_of, least_kind, least_report}
use Rattle.weights.specs.Kinds.{Laws}
use Rattle.weights.specs.Reports.{Retold}

-- equal weights make equal values
pub same : {x y : Least} → x.weight ≡ y.weight → x ≡ y
same {x} {y} e =
    let P : ℕ → Type 0 = λ w. (fits : w ≤ top) → x ≡ record { weight = w; fits = fits } in
    subst P e (λ fits. ap (λ p. record { weight = x.weight; fits = p }) (le_prop x.fits fits)) y.fits

join_weight : (x y : Least) → (least_kind.join x y).weight ≡ min x.weight y.weight
unfolding least_of
join_weight x y = omega arith

chain_weight : (x y : Least) → (least_kind.chain x y).weight ≡ capped (x.weight + y.weight)
unfolding least_of
chain_weight x y = omega arith

zero_weight : least_kind.zero.weight ≡ top
unfolding least_of
zero_weight = omega arith

one_weight : least_kind.one.weight ≡ 0
unfolding least_of
one_weight = omega arith

ruleset weights = (arith, join_weight, chain_weight, zero_weight, one_weight)

pub least_laws : Laws least_kind
least_laws = record {
  joining = record {
    monoid = record {
      assoc = λ x y z. same (omega weights);
      identity_left = λ x. same (omega weights);
      identity_right = λ x. same (omega weights);
    };
    comm = λ x y. same (omega weights);
  };
  chaining = record {
    assoc = λ x y z. same (omega weights);
    identity_left = λ x. same (omega weights);
    identity_right = λ x. same (omega weights);
  };
  distributive = record {
    distrib_left = λ x y z. same (omega weights);
    distrib_right = λ x y z. same (omega weights);
  };
  annihilating = record {
    zero_left = λ x. same (omega weights);
    zero_right = λ x. same (omega weights);
  };
}

pub least_retold : Retold least_report
unfolding least_of
least_retold x = same (omega arith)
