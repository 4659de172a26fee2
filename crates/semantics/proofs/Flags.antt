-- All lists of flags that pass a test, each once.
use Rattle.std.proofs.Common.{◌≡◌, ℕ, zero, suc, Bool, true, false, cond, ◌⊎◌, ◌↔◌, List, [], ◌∷◌, ◌++◌, map, length, sym, refl, ap, ◌∙◌, subst, inl, inr, ⊎_elim, arith}
use mathlib.Core.Bool.{false≢true}
use Rattle.grammar.specs.Trees.{In, here, there}
use Rattle.semantics.specs.Trends.{Listing}
use Rattle.semantics.proofs.Listings.{not_in_none, listing_iff, listing_map, listing_both}

abbrev pub flags : ℕ → (List Bool → Bool) → List (List Bool)
flags zero test = cond (test []) ([] ∷ []) []
flags (suc n) test = map (λ m. true ∷ m) (flags n (λ m. test (true ∷ m))) ++ map (λ m. false ∷ m) (flags n (λ m. test (false ∷ m)))

abbrev Passes : ℕ → (List Bool → Bool) → List Bool → Type 0
Passes n test m = (length m ≡ n) × (test m ≡ true)

none_listed : (test : List Bool → Bool) (b : Bool) → test [] ≡ b → Listing (Passes 0 test) (cond b ([] ∷ []) [])
none_listed test true e = record { only = only; each = each; once = (not_in_none, tt) }
  where
    only : (m : List Bool) → In m ([] ∷ []) → Passes 0 test m
    only m here = (refl, e)
    only m (there i) = absurd (not_in_none i)

    each : (m : List Bool) → Passes 0 test m → In m ([] ∷ [])
    each [] p = here
    each (b ∷ m) p = absurd (omega arith)
none_listed test false e = record { only = λ m i. absurd (not_in_none i); each = each; once = tt }
  where
    each : (m : List Bool) → Passes 0 test m → In m []
    each [] p = absurd (false≢true (sym e ∙ p.1))
    each (b ∷ m) p = absurd (omega arith)

-- b and then n flags, which pass
abbrev Led : ℕ → (List Bool → Bool) → Bool → List Bool → Type 0
Led n test b m = (x : List Bool) × Passes n (λ m. test (b ∷ m)) x × (m ≡ b ∷ x)

-- they are the lists of n flags that pass
flags_pass : (n : ℕ) (test : List Bool → Bool) → Listing (Passes n test) (flags n test)
flags_pass zero test = none_listed test (test []) refl
flags_pass (suc n) test =
    listing_iff (λ m. (to m, from m))
    (listing_both (map (λ m. true ∷ m) (flags n (λ m. test (true ∷ m)))) (map (λ m. false ∷ m) (flags n (λ m. test (false ∷ m))))
    (λ m p q. let z : ◌≡◌ {A = ℕ} 0 1 = cc (p.2, q.2) in omega arith)
    (listing_map (λ m. true ∷ m) (flags n (λ m. test (true ∷ m))) (λ x y p q e. cc) (flags_pass n (λ m. test (true ∷ m))))
    (listing_map (λ m. false ∷ m) (flags n (λ m. test (false ∷ m))) (λ x y p q e. cc) (flags_pass n (λ m. test (false ∷ m)))))
  where
    led : (b : Bool) (m : List Bool) → Led n test b m → Passes (suc n) test m
    led b m h = subst (Passes (suc n) test) (sym h.2) (ap suc h.1.0, h.1.1)

    to : (m : List Bool) → Led n test true m ⊎ Led n test false m → Passes (suc n) test m
    to m = ⊎_elim (led true m) (led false m)

    from : (m : List Bool) → Passes (suc n) test m → Led n test true m ⊎ Led n test false m
    from [] p = absurd (omega arith)
    from (true ∷ m) p = inl (m, (omega arith, p.1), refl)
    from (false ∷ m) p = inr (m, (omega arith, p.1), refl)

-- what a test decides of lists of n flags can be listed
pub flags_listed : (n : ℕ) (test : List Bool → Bool) {P : List Bool → Type 0} → ((m : List Bool) → Passes n test m ↔ P m) → Listing P (flags n test)
flags_listed n test e = listing_iff e (flags_pass n test)
