-- Where one that fails a test is followed by such alone, filtering takes a front, and from the other end drops the leading ones.
use Rattle.std.proofs.Common.{◌≡◌, ◌+◌, Bool, true, false, cond, not, ◌&&◌, List, [], ◌∷◌, reverse, length, take, drop, filter, sym, refl, ap, ◌∙◌, one-add}
use mathlib.Core.List.{reverse_aux}
use Rattle.std.proofs.lemmas.Bool.{cond-true, cond-false, cond_both, false≢true}
use Rattle.std.specs.List.{prefix_len}
use Rattle.semantics.specs.Histories.{dropped_while}
use Rattle.semantics.specs.Trends.{All}

dropped_cons : {X : Type 0} (test : X → Bool) (x : X) (xs : List X) → dropped_while test (x ∷ xs) ≡ cond (test x) (dropped_while test xs) (x ∷ xs)
dropped_cons test x xs =
    elim (test x) as (λ b. drop (cond b (1 + prefix_len test xs) 0) (x ∷ xs) ≡ cond b (dropped_while test xs) (x ∷ xs)) [ true ↦ rw one-add refl | false ↦ refl ]

-- after one that fails the test, none passes
abbrev pub Fades : {X : Type 0} → (X → Bool) → List X → Type 0
Fades keep [] = Unit {0}
Fades keep (x ∷ xs) = (keep x ≡ false → All (λ y. keep y ≡ false) xs) × Fades keep xs

pub all_filtered : {X : Type 0} (P : X → Type 0) (keep : X → Bool) (xs : List X) → All P xs → All P (filter keep xs)
all_filtered P keep [] h = tt
all_filtered P keep (x ∷ xs) h =
    cond_both (keep x) (x ∷ filter keep xs) (filter keep xs) (All P) (λ _. (h.0, all_filtered P keep xs h.1)) (λ _. all_filtered P keep xs h.1)

-- a stronger test after a weaker one
module _ {X : Type 0} (p weak strong : X → Bool) (implies : (x : X) → strong x ≡ true → weak x ≡ true) where
  pub filtered_twice : (xs : List X) → filter (λ x. p x && strong x) xs ≡ filter strong (filter (λ x. p x && weak x) xs)
  filtered_twice [] = refl
  filtered_twice (x ∷ xs) = go (p x) (weak x) (strong x) refl (implies x) _ (filtered_twice xs)
    where
      go : (a w v : Bool) → strong x ≡ v → (v ≡ true → w ≡ true) → {ys : List X} (zs : List X) → ys ≡ filter strong zs → cond (a && v) (x ∷ ys) ys ≡ filter strong (cond (a && w) (x ∷ zs) zs)
      go true true true e i zs h = ap (λ l. x ∷ l) h ∙ sym (cond-true (strong x) _ _ e)
      go true true false e i zs h = h ∙ sym (cond-false (strong x) _ _ e)
      go true false true e i zs h = absurd (false≢true (i refl))
      go true false false e i zs h = h
      go false true true e i zs h = h
      go false true false e i zs h = h
      go false false true e i zs h = h
      go false false false e i zs h = h

module _ {X : Type 0} (keep : X → Bool) where
  filtered_none : (xs : List X) → All (λ y. keep y ≡ false) xs → filter keep xs ≡ []
  filtered_none [] h = refl
  filtered_none (x ∷ xs) h = cond-false (keep x) (x ∷ filter keep xs) (filter keep xs) h.0 ∙ filtered_none xs h.1

  pub filtered_take : (xs : List X) → Fades keep xs → filter keep xs ≡ take (length (filter keep xs)) xs
  filtered_take [] h = refl
  filtered_take (x ∷ xs) h =
      cond_both (keep x) (x ∷ filter keep xs) (filter keep xs) (λ zs. zs ≡ take (length zs) (x ∷ xs)) (λ _. ap (λ zs. x ∷ zs) (filtered_take xs h.1)) (λ no. rw (filtered_none xs (h.0 no)))

  -- and none behind that front passes
  pub filtered_rest : (xs : List X) → Fades keep xs → All (λ y. keep y ≡ false) (drop (length (filter keep xs)) xs)
  filtered_rest [] h = tt
  filtered_rest (x ∷ xs) h =
      cond_both (keep x) (x ∷ filter keep xs) (filter keep xs) (λ zs. All (λ y. keep y ≡ false) (drop (length zs) (x ∷ xs))) (λ _. filtered_rest xs h.1) (λ no. rw (filtered_none xs (h.0 no)) (no, h.0 no))

  module _ (test : X → Bool) (other : (x : X) → test x ≡ not (keep x)) where
    dropped_all : (xs rest : List X) → All (λ y. keep y ≡ false) xs → dropped_while test (reverse_aux xs rest) ≡ dropped_while test rest
    dropped_all [] rest h = refl
    dropped_all (x ∷ xs) rest h = dropped_all xs (x ∷ rest) h.1 ∙ dropped_cons test x rest ∙ cond-true (test x) (dropped_while test rest) (x ∷ rest) (other x ∙ ap not h.0)

    dropped_before : (xs rest : List X) → Fades keep xs → dropped_while test rest ≡ rest → dropped_while test (reverse_aux xs rest) ≡ reverse_aux (filter keep xs) rest
    dropped_before [] rest h stop = stop
    dropped_before (x ∷ xs) rest h stop =
        cond_both (keep x) (x ∷ filter keep xs) (filter keep xs) (λ zs. dropped_while test (reverse_aux xs (x ∷ rest)) ≡ reverse_aux zs rest) (λ yes. dropped_before xs (x ∷ rest) h.1 (dropped_cons test x rest ∙ cond-false (test x) (dropped_while test rest) (x ∷ rest) (other x ∙ ap not yes))) (λ no. rw (filtered_none xs (h.0 no)) (dropped_all (x ∷ xs) rest (no, h.0 no) ∙ stop))

    pub filtered_dropped : (xs : List X) → Fades keep xs → reverse (filter keep xs) ≡ dropped_while test (reverse xs)
    filtered_dropped xs h = sym (dropped_before xs [] h refl)
