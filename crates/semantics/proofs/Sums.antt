-- The join over all choices from a list, and how it goes with the two operations.
use Rattle.std.proofs.Common.{◌≡◌, Bool, true, false, cond, List, [], ◌∷◌, ◌++◌, map, reverse, length, sym, refl, ap, ◌∙◌, ap₂}
use mathlib.Core.List.{map-append, map-map, reverse_aux}
use mathlib.Core.Path.{fun_ext}
use Rattle.weights.specs.Kinds.{Kind, CommutativeMonoid, Laws}
use Rattle.semantics.specs.Trends.{chosen, joined}
use Rattle.semantics.proofs.Flags.{flags}

-- the join of f over all choices from the list
abbrev pub sums : {V X : Type 0} → Kind V → (List X → V) → List X → V
sums kind f [] = f []
sums kind f (x ∷ xs) = kind.join (sums kind (λ c. f (x ∷ c)) xs) (sums kind f xs)

module _ {V : Type 0} (kind : Kind V) (laws : CommutativeMonoid kind.zero kind.join) where
  joined_append : (us vs : List V) → joined kind (us ++ vs) ≡ kind.join (joined kind us) (joined kind vs)
  joined_append [] vs = sym (laws.monoid.identity_left (joined kind vs))
  joined_append (u ∷ us) vs = ap (kind.join u) (joined_append us vs) ∙ sym (laws.monoid.assoc u (joined kind us) (joined kind vs))

  -- to join over the choices that pass a test is to join over all of them, zero standing for the others
  pub sum_of_flags : {X : Type 0} (test : List X → Bool) (f : List X → V) (xs : List X)
      → joined kind (map (λ m. f (chosen m xs)) (flags (length xs) (λ m. test (chosen m xs)))) ≡ sums kind (λ c. cond (test c) (f c) kind.zero) xs
  sum_of_flags test f [] = elim (test []) as (λ b. joined kind (map (λ m. f (chosen m [])) (cond b ([] ∷ []) [])) ≡ cond b (f []) kind.zero) [
    | true ↦ laws.monoid.identity_right (f [])
    | false ↦ refl
  ]
  sum_of_flags test f (x ∷ xs) =
      simp (map-append, map-map, joined_append) (ap₂ kind.join (sum_of_flags (λ c. test (x ∷ c)) (λ c. f (x ∷ c)) xs) (sum_of_flags test f xs))

  swap_middle : (a b c d : V) → kind.join (kind.join a b) (kind.join c d) ≡ kind.join (kind.join a c) (kind.join b d)
  swap_middle a b c d =
      let assoc = laws.monoid.assoc in
      assoc a b (kind.join c d) ∙ ap (kind.join a) (sym (assoc b c d) ∙ ap (λ v. kind.join v d) (laws.comm b c) ∙ assoc c b d) ∙ sym (assoc a c (kind.join b d))

  sums_join : {X : Type 0} (f g : List X → V) (xs : List X) → sums kind (λ c. kind.join (f c) (g c)) xs ≡ kind.join (sums kind f xs) (sums kind g xs)
  sums_join f g [] = refl
  sums_join f g (x ∷ xs) =
      ap₂ kind.join (sums_join (λ c. f (x ∷ c)) (λ c. g (x ∷ c)) xs) (sums_join f g xs)
      ∙ swap_middle (sums kind (λ c. f (x ∷ c)) xs) (sums kind (λ c. g (x ∷ c)) xs) (sums kind f xs) (sums kind g xs)

  sums_turned : {X : Type 0} (f : List X → V) (xs ys : List X) → sums kind f (reverse_aux xs ys) ≡ sums kind (λ c. sums kind (λ d. f (reverse_aux c d)) ys) xs
  sums_turned f [] ys = refl
  sums_turned f (x ∷ xs) ys =
      sums_turned f xs (x ∷ ys) ∙ sums_join (λ c. sums kind (λ d. f (reverse_aux c (x ∷ d))) ys) (λ c. sums kind (λ d. f (reverse_aux c d)) ys) xs

  -- the choices from a list turned round are the choices from the list, turned round
  pub sums_reverse : {X : Type 0} (f : List X → V) (xs : List X) → sums kind f (reverse xs) ≡ sums kind (λ c. f (reverse c)) xs
  sums_reverse f xs = sums_turned f xs []

  sums_zero : {X : Type 0} (xs : List X) → sums kind (λ c. kind.zero) xs ≡ kind.zero
  sums_zero [] = refl
  sums_zero (x ∷ xs) = ap₂ kind.join (sums_zero xs) (sums_zero xs) ∙ laws.monoid.identity_left kind.zero

  -- a test that does not look at the choice
  pub sums_cond : {X : Type 0} (b : Bool) (f : List X → V) (xs : List X) → sums kind (λ c. cond b (f c) kind.zero) xs ≡ cond b (sums kind f xs) kind.zero
  sums_cond true f xs = refl
  sums_cond false f xs = sums_zero xs

-- what is chained to every choice is chained to their join
pub sums_chain : {V X : Type 0} (kind : Kind V) → Laws kind → (f : List X → V) (v : V) (xs : List X) → sums kind (λ c. kind.chain (f c) v) xs ≡ kind.chain (sums kind f xs) v
sums_chain kind laws f v [] = refl
sums_chain kind laws f v (x ∷ xs) =
    ap₂ kind.join (sums_chain kind laws (λ c. f (x ∷ c)) v xs) (sums_chain kind laws f v xs)
    ∙ sym (laws.distributive.distrib_right v (sums kind (λ c. f (x ∷ c)) xs) (sums kind f xs))

pub sums_same : {V X : Type 0} (kind : Kind V) (f g : List X → V) → ((c : List X) → f c ≡ g c) → (xs : List X) → sums kind f xs ≡ sums kind g xs
sums_same kind f g e xs = ap (λ h. sums kind h xs) (fun_ext e)
