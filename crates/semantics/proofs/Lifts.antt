-- There is at most one least lift, and one rising list of the lifts present.
use Rattle.std.proofs.Common.{◌≡◌, ℕ, ◌<◌, ◌≤◌, List, [], ◌∷◌, Some, None, Option, refl, ap, ap₂, ⊎_elim, arith}
use Rattle.std.proofs.lemmas.Bool.{cases_order}
use Rattle.events.specs.declared.event.Event.{Event}
use Rattle.grammar.specs.Trees.{In, here, there}
use Rattle.semantics.specs.Meaning.{LeastLift, Lifts}
use Rattle.semantics.specs.Trends.{Adjacent}

pub least_lift_unique : (es : List Event) (from g : ℕ) (x y : Option ℕ) → LeastLift es from g x → LeastLift es from g y → x ≡ y
least_lift_unique es from g None None p q = refl
least_lift_unique es from g None (Some m) p q = absurd (p m q.0 q.1)
least_lift_unique es from g (Some l) None p q = absurd (q l p.0 p.1)
least_lift_unique es from g (Some l) (Some m) p q =
    ap Some (⊎_elim (λ e. e) (⊎_elim (λ lt. absurd (q.2 l p.0 lt p.1)) (λ lt. absurd (p.2 m q.0 lt q.1))) (cases_order l m))

rising_tail : (x : ℕ) (xs : List ℕ) → Adjacent ◌<◌ (x ∷ xs) → Adjacent ◌<◌ xs
rising_tail x [] h = tt
rising_tail x (y ∷ ys) h = h.1

below_rest : (x : ℕ) (xs : List ℕ) → Adjacent ◌<◌ (x ∷ xs) → {g : ℕ} → In g xs → x < g
below_rest x [] h i = elim i [ ]
below_rest x (y ∷ ys) h here = h.0
below_rest x (y ∷ ys) h (there i) = omega (arith, h.0, below_rest y ys h.1 i)

in_rest : {X : Type 0} {x y : X} {ys : List X} → In x (y ∷ ys) → (x ≡ y → ⊥) → In x ys
in_rest here apart = absurd (apart refl)
in_rest (there i) apart = i

head_least : (x : ℕ) (xs : List ℕ) → Adjacent ◌<◌ (x ∷ xs) → {g : ℕ} → In g (x ∷ xs) → x ≤ g
head_least x xs h here = omega arith
head_least x xs h (there i) = omega (arith, below_rest x xs h i)

pub same_rising : (xs ys : List ℕ) → Adjacent ◌<◌ xs → Adjacent ◌<◌ ys → ((g : ℕ) → In g xs → In g ys) → ((g : ℕ) → In g ys → In g xs) → xs ≡ ys
same_rising [] [] r q f b = refl
same_rising [] (y ∷ ys) r q f b = elim (b y here) [ ]
same_rising (x ∷ xs) [] r q f b = elim (f x here) [ ]
same_rising (x ∷ xs) (y ∷ ys) r q f b =
    let e : x ≡ y = omega (arith, head_least x xs r (b y here), head_least y ys q (f x here)) in
    ap₂ (λ z zs. z ∷ zs) e (same_rising xs ys (rising_tail x xs r) (rising_tail y ys q) (λ g i. in_rest (f g (there i)) (λ is. omega (arith, below_rest x xs r i))) (λ g i. in_rest (b g (there i)) (λ is. omega (arith, below_rest y ys q i))))

pub lifts_unique : {es : List Event} {from : ℕ} {ls ms : List ℕ} → Lifts es from ls → Lifts es from ms → ls ≡ ms
lifts_unique {ls = ls} {ms} p q = same_rising ls ms p.rising q.rising (λ g i. q.each g (p.only g i)) (λ g i. p.each g (q.only g i))
