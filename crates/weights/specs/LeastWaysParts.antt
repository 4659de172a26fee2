-- The parts of a value of LeastWays: what the pair read, the join and the chain have for weight and ways.
use Rattle.std.proofs.Props.{props}
use Rattle.std.specs.Prelude.{◌≡◌, ℕ, ◌+◌, ◌*◌, ◌<◌, min, cond, ◌&&◌, ◌⊎◌, nat_lt}
use Rattle.std.proofs.Common.{inl, inr, ⊎_elim, ap₂, subst₂, mul-pos, arith}
use Rattle.std.proofs.Math.Decide.{dec_lt}
use Rattle.std.proofs.lemmas.Bool.{cases_lt}
use Rattle.std.proofs.lemmas.Bool.Decides.{nat_tests}
use Rattle.weights.specs.declared.values.LeastWays.{LeastWays, fits-type, canonical-type}
use Rattle.weights.specs.Caps.{top, capped}
use Rattle.weights.specs.LeastWays.{pair, least_ways_of, least_ways_kind}

module _ (w n : ℕ) where
  fits_prop : IsProp (fits-type w n)
  fits_prop = hlevel props

  canonical_prop : (fits : fits-type w n) → IsProp (canonical-type w n fits)
  canonical_prop fits = hlevel props

-- equal weights and ways make equal values
pub same : {x y : LeastWays} → x.weight ≡ y.weight → x.ways ≡ y.ways → x ≡ y
same {x} {y} e f =
    let P : ℕ → ℕ → Type 0 = λ w n. (fits : fits-type w n) (canonical : canonical-type w n fits) → x ≡ record { weight = w; ways = n; fits = fits; canonical = canonical } in
    subst₂ P e f (λ fits canonical. ap₂ (λ p q. record { weight = x.weight; ways = x.ways; fits = p; canonical = q }) (fits_prop _ _ x.fits fits) (canonical_prop _ _ fits x.canonical canonical)) y.fits y.canonical

-- a pair of weight below T with ways is read as such, any other as zero
module _ (w n : ℕ) where
  pub of_weight : (least_ways_of w n).weight ≡ cond (nat_lt w top && nat_lt 0 n) w top
  unfolding least_ways_of
  of_weight = by (dec_lt w top) (dec_lt 0 n)
    where
      by : (d : Dec (w < top)) (e : Dec (0 < n)) → (pair d e).weight ≡ cond (nat_lt w top && nat_lt 0 n) w top
      by (yes p) (yes q) = grind (arith, nat_tests)
      by (yes p) (no q) = grind (arith, nat_tests)
      by (no p) e = grind (arith, nat_tests)

  pub of_ways : (least_ways_of w n).ways ≡ cond (nat_lt w top && nat_lt 0 n) (capped n) 0
  unfolding least_ways_of
  of_ways = by (dec_lt w top) (dec_lt 0 n)
    where
      by : (d : Dec (w < top)) (e : Dec (0 < n)) → (pair d e).ways ≡ cond (nat_lt w top && nat_lt 0 n) (capped n) 0
      by (yes p) (yes q) = grind (arith, nat_tests)
      by (yes p) (no q) = grind (arith, nat_tests)
      by (no p) e = grind (arith, nat_tests)

pub ruleset parts = (arith, nat_tests, of_weight, of_ways)

-- the ways of a join: those of the lesser weight, at equal weights of both
abbrev pub joined : ℕ → ℕ → ℕ → ℕ → ℕ
joined a n b m = cond (nat_lt a b) n (cond (nat_lt b a) m (capped (n + m)))

-- the ways of a chain: their product, none where the weights reach T
abbrev pub chained : ℕ → ℕ → ℕ → ℕ → ℕ
chained a n b m = cond (nat_lt (a + b) top) (capped (n * m)) 0

module _ (x y : LeastWays) where
  pub join_weight : (least_ways_kind.join x y).weight ≡ min x.weight y.weight
  join_weight = grind parts

  pub join_ways : (least_ways_kind.join x y).ways ≡ joined x.weight x.ways y.weight y.ways
  join_ways = grind parts

  -- there are ways of both together, unless one has none
  had : (0 < x.ways * y.ways) ⊎ ((x.ways ≡ 0) ⊎ (y.ways ≡ 0))
  had = ⊎_elim (λ p. ⊎_elim (λ q. inl (mul-pos p q)) (λ q. inr (inr (omega arith))) (cases_lt 0 y.ways)) (λ p. inr (inl (omega arith))) (cases_lt 0 x.ways)

  pub chain_weight : (least_ways_kind.chain x y).weight ≡ capped (x.weight + y.weight)
  chain_weight = let h = had in grind parts

  pub chain_ways : (least_ways_kind.chain x y).ways ≡ chained x.weight x.ways y.weight y.ways
  chain_ways = let h = had in grind parts

-- its own pair is read as the value
pub own : (x : LeastWays) → least_ways_of x.weight x.ways ≡ x
own x = same (grind parts) (grind parts)
