-- The laws of Count, and that what it tells reads back.
use Rattle.std.specs.Prelude.{◌≡◌, ℕ, ◌≤◌}
use Rattle.std.proofs.Common.{ap, subst, arith}
use Rattle.std.proofs.Math.Bridge.{le_prop}
use Rattle.weights.specs.declared.values.Count.{Count}
use Rattle.weights.specs.Caps.{top}
use Rattle.weights.specs.Count.{count_of, count_kind, count_report}
use Rattle.weights.specs.Kinds.{Laws}
use Rattle.weights.specs.Reports.{Retold}
use Rattle.weights.specs.Capping.{twice, sum_assoc, product_assoc, distrib_left, distrib_right}

-- equal numbers make equal values
pub same : {x y : Count} → x.number ≡ y.number → x ≡ y
same {x} {y} e =
    let P : ℕ → Type 0 = λ n. (fits : n ≤ top) → x ≡ record { number = n; fits = fits } in
    subst P e (λ fits. ap (λ p. record { number = x.number; fits = p }) (le_prop x.fits fits)) y.fits

pub count_laws : Laws count_kind
unfolding count_of
count_laws = record {
  joining = record {
    monoid = record {
      assoc = λ x y z. same (simp twice (sum_assoc x.number y.number z.number));
      identity_left = λ x. same (omega arith);
      identity_right = λ x. same (omega arith);
    };
    comm = λ x y. same (omega arith);
  };
  chaining = record {
    assoc = λ x y z. same (simp twice (product_assoc x.number y.number z.number));
    identity_left = λ x. same (omega arith);
    identity_right = λ x. same (omega arith);
  };
  distributive = record {
    distrib_left = λ x y z. same (simp twice (distrib_left x.number y.number z.number));
    distrib_right = λ x y z. same (simp twice (distrib_right x.number y.number z.number));
  };
  annihilating = record {
    zero_left = λ x. same (omega arith);
    zero_right = λ x. same (omega arith);
  };
}

pub count_retold : Retold count_report
unfolding count_of
count_retold x = same (omega arith)
