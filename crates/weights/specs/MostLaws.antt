-- The laws of Most, and that what it tells reads back.
use Rattle.std.specs.Prelude.{◌≡◌, ℕ, ◌≤◌, Some, None, Option, refl}
use Rattle.std.proofs.Common.{ap, subst, arith}
use Rattle.std.proofs.Math.Bridge.{le_prop}
use Rattle.std.specs.Option.{unwrap_or}
use Rattle.weights.specs.declared.values.Most.{Most}
use Rattle.weights.specs.Caps.{top}
use Rattle.weights.specs.Most.{most_of, larger, total, most_kind, most_report}
use Rattle.weights.specs.Kinds.{Laws}
use Rattle.weights.specs.Reports.{Retold}

-- equal weights make equal values
pub same : {x y : Most} → x.weight ≡ y.weight → x ≡ y
same {x} {y} e =
    let P : Option ℕ → Type 0 = λ w. (fits : unwrap_or w 0 ≤ top) → x ≡ record { weight = w; fits = fits } in
    subst P e (λ fits. ap (λ p. record { weight = x.weight; fits = p }) (le_prop x.fits fits)) y.fits

pub of_weight : (w : Option ℕ) → unwrap_or w 0 ≤ top → (most_of w).weight ≡ w
unfolding most_of
of_weight None fits = refl
of_weight (Some w) fits = ap Some (omega arith)

larger_fits : (u v : Option ℕ) → unwrap_or u 0 ≤ top → unwrap_or v 0 ≤ top → unwrap_or (larger u v) 0 ≤ top
larger_fits None v low high = high
larger_fits (Some u) None low high = low
larger_fits (Some u) (Some v) low high = omega arith

total_fits : (u v : Option ℕ) → unwrap_or (total u v) 0 ≤ top
total_fits None v = omega arith
total_fits (Some u) None = omega arith
total_fits (Some u) (Some v) = omega arith

join_weight : (x y : Most) → (most_kind.join x y).weight ≡ larger x.weight y.weight
join_weight x y = of_weight _ (larger_fits x.weight y.weight x.fits y.fits)

chain_weight : (x y : Most) → (most_kind.chain x y).weight ≡ total x.weight y.weight
chain_weight x y = of_weight _ (total_fits x.weight y.weight)

zero_weight : most_kind.zero.weight ≡ None
zero_weight = of_weight None (omega arith)

one_weight : most_kind.one.weight ≡ Some 0
one_weight = of_weight (Some 0) (omega arith)

ruleset weights = (arith, join_weight, chain_weight, zero_weight, one_weight)

pub most_laws : Laws most_kind
most_laws = record {
  joining = record {
    monoid = record {
      assoc = λ x y z. same (grind weights);
      identity_left = λ x. same (grind weights);
      identity_right = λ x. same (grind weights);
    };
    comm = λ x y. same (grind weights);
  };
  chaining = record {
    assoc = λ x y z. same (grind weights);
    identity_left = λ x. same (grind weights);
    identity_right = λ x. same (grind weights);
  };
  distributive = record {
    distrib_left = λ x y z. same (grind weights);
    distrib_right = λ x y z. same (grind weights);
  };
  annihilating = record {
    zero_left = λ x. same (grind weights);
    zero_right = λ x. same (grind weights);
  };
}

told_back : (w : Option ℕ) (fits : unwrap_or w 0 ≤ top) → (most_report.reads (most_report.tells (record { weight = w; fits = fits }))).weight ≡ w
told_back None fits = of_weight None fits
told_back (Some w) fits = of_weight (Some w) fits

pub most_retold : Retold most_report
most_retold x = same (told_back x.weight x.fits)
