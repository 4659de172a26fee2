-- Places count the choices: each has its own, and each number below 2 ^ (number of marks) is one's place.
use Rattle.std.proofs.Common.{◌≡◌, ℕ, zero, suc, ◌+◌, ◌-◌, ◌*◌, ◌/◌, ◌%◌, ◌^◌, ◌<◌, ◌≤◌, Bool, true, false, cond, List, [], ◌∷◌, ◌++◌, length, get_or, take, drop, set, sym, refl, ap, ◌∙◌, ap₂, append_assoc, arith, length-append, length-set}
use mir.Val.{bool_byte}
use Rattle.std.proofs.Math.Nat.{pow-succ'}
use Rattle.std.proofs.Math.Pow.{pow_mono}
use Rattle.std.proofs.lemmas.List.{drop_more, take_more_set}
use Rattle.std.proofs.lemmas.Bool.{eq-eqb, ne_eqb, cond-true, cond-false}
use Rattle.std.proofs.lemmas.Bool.Decides.{nat_tests}
use Rattle.semantics.specs.Trends.{chosen}
use Rattle.listing.specs.Order.{place}
use Rattle.listing.specs.Walk.{odd, marks_at, picked}

pub place_below : (m : List Bool) → place m < 2 ^ length m
place_below [] = omega arith
place_below (true ∷ m) = omega (arith, place_below m, pow-succ' 2 (length m))
place_below (false ∷ m) = omega (arith, place_below m, pow-succ' 2 (length m))

pub marks_length : (l n : ℕ) → length (marks_at l n) ≡ l
marks_length zero n = refl
marks_length (suc l) n = ap suc (marks_length l (n / 2))

bit_of : (n : ℕ) → cond (odd n) 1 0 ≡ n % 2
bit_of n = grind (arith, nat_tests)

pub place_of : (l n : ℕ) → n < 2 ^ l → place (marks_at l n) ≡ n
place_of zero n h = omega arith
place_of (suc l) n h = let e = place_of l (n / 2) (omega (arith, pow-succ' 2 l)) in omega (arith, bit_of n)

-- the marks are had back from their place
pub marks_back : (m : List Bool) → marks_at (length m) (place m) ≡ m
marks_back [] = refl
marks_back (true ∷ m) =
    ap₂ (λ b bs. b ∷ bs) (eq-eqb ((1 + 2 * place m) % 2) 1 (omega arith)) (ap (marks_at (length m)) (omega arith) ∙ marks_back m)
marks_back (false ∷ m) =
    ap₂ (λ b bs. b ∷ bs) (grind (arith, nat_tests)) (ap (marks_at (length m)) (omega arith) ∙ marks_back m)

pub same_place : (m n : List Bool) → length m ≡ length n → place m ≡ place n → m ≡ n
same_place m n e p = sym (marks_back m) ∙ ap₂ marks_at e p ∙ marks_back n

pub picked_chosen : {X : Type 0} (n : ℕ) (xs : List X) → picked n xs ≡ chosen (marks_at (length xs) n) xs
picked_chosen n [] = refl
picked_chosen n (x ∷ xs) =
    elim (odd n) as (λ b. cond b (x ∷ picked (n / 2) xs) (picked (n / 2) xs) ≡ chosen (b ∷ marks_at (length xs) (n / 2)) (x ∷ xs)) [ true ↦ ap (λ c. x ∷ c) (picked_chosen (n / 2) xs) | false ↦ picked_chosen (n / 2) xs ]

marks_more : (l n : ℕ) → 0 < l → marks_at l n ≡ odd n ∷ marks_at (l - 1) (n / 2)
marks_more zero n h = absurd (omega arith)
marks_more (suc l) n h = ap (λ j. odd n ∷ marks_at j (n / 2)) (omega arith)

-- one more mark is set
pub marks_set : (m : List Bool) (i n bits : ℕ) → i < length m → take i m ++ marks_at (length m - i) bits ≡ marks_at (length m) n
    → take (i + 1) (set m i (odd bits)) ++ marks_at (length (set m i (odd bits)) - (i + 1)) (bits / 2) ≡ marks_at (length (set m i (odd bits))) n
marks_set m i n bits h e =
    rw (length-set m i (odd bits), take_more_set m i (odd bits) h)
    (append_assoc (take i m) (odd bits ∷ []) (marks_at (length m - (i + 1)) (bits / 2))
    ∙ ap (λ j. take i m ++ (odd bits ∷ marks_at j (bits / 2))) (omega arith)
    ∙ ap (λ l. take i m ++ l) (sym (marks_more (length m - i) bits (omega arith)))
    ∙ e)

-- the next event is picked, or not
module _ {X : Type 0} (xs : List X) (i bits : ℕ) (x : X) (h : i < length xs) (is : x ≡ get_or xs i x) where
  next_picked : picked bits (drop i xs) ≡ cond (odd bits) (x ∷ picked (bits / 2) (drop (i + 1) xs)) (picked (bits / 2) (drop (i + 1) xs))
  next_picked = ap (picked bits) (drop_more xs i x h ∙ ap (λ y. y ∷ drop (i + 1) xs) (sym is))

  pub picked_odd : bits % 2 ≡ 1 → picked bits (drop i xs) ≡ x ∷ picked (bits / 2) (drop (i + 1) xs)
  picked_odd o = next_picked ∙ cond-true (odd bits) (x ∷ picked (bits / 2) (drop (i + 1) xs)) (picked (bits / 2) (drop (i + 1) xs)) (eq-eqb (bits % 2) 1 o)

  pub picked_even : (bits % 2 ≡ 1 → ⊥) → picked bits (drop i xs) ≡ picked (bits / 2) (drop (i + 1) xs)
  picked_even o = next_picked ∙ cond-false (odd bits) (x ∷ picked (bits / 2) (drop (i + 1) xs)) (picked (bits / 2) (drop (i + 1) xs)) (ne_eqb (bits % 2) 1 o)

byte_of : (b : Bool) → bool_byte b ≡ cond b 1 0
byte_of true = refl
byte_of false = refl

-- one more mark before those that are done
pub one_more_done : (rest done : List Bool) (b : Bool) (marks : List Bool) → length marks ≤ 16 → (rest ++ b ∷ []) ++ done ≡ marks
    → (rest ++ (b ∷ done) ≡ marks) × (2 * place done + bool_byte b ≡ place (b ∷ done)) × (place (b ∷ done) < 65536)
one_more_done rest done b marks few is =
    let split : rest ++ (b ∷ done) ≡ marks = sym (append_assoc rest (b ∷ []) done) ∙ is in
    let short : length (b ∷ done) ≤ 16 = omega (arith, length-append rest (b ∷ done), ap length split) in
    (split, omega (arith, byte_of b), omega (arith, place_below (b ∷ done), pow_mono short))

-- so many choices there are
pub one_shifted : (n : ℕ) → n ≤ 16 → (1 * 2 ^ n) % 4294967296 ≡ 2 ^ n
one_shifted n few = omega (arith, pow_mono few)
