-- Sums and products that stop at T: capping a part first changes nothing.
use Rattle.std.proofs.Common.{⊎_elim, sym, ap, ◌∙◌, add-mul, le-mul_of_pos_right, mul-add, mul_assoc, mul_comm, mul-zero, arith}
use Rattle.std.specs.Prelude.{◌≡◌, ℕ, zero, suc, ◌+◌, ◌*◌, ◌≤◌}
use Rattle.std.proofs.lemmas.Bool.{cases_lt}
use Rattle.weights.specs.Caps.{top, capped}

pub twice : (n : ℕ) → capped (capped n) ≡ capped n
twice n = omega arith

pub sum_assoc : (a b c : ℕ) → capped (capped (a + b) + c) ≡ capped (a + capped (b + c))
sum_assoc a b c = omega arith

pub product_left : (a b : ℕ) → capped (capped a * b) ≡ capped (a * b)
product_left a zero = simp mul-zero
product_left a (suc b) = ⊎_elim (λ h. at a (omega arith)) (λ h. at top (omega arith) ∙ omega (arith, grows top, grows a)) (cases_lt a top)
  where
    grows : (c : ℕ) → c ≤ c * suc b
    grows c = le-mul_of_pos_right c (omega arith)

    at : (c : ℕ) → capped a ≡ c → capped (capped a * suc b) ≡ capped (c * suc b)
    at c = ap (λ n. capped (n * suc b))

pub product_right : (a b : ℕ) → capped (a * capped b) ≡ capped (a * b)
product_right a b = ap capped (mul_comm a (capped b)) ∙ product_left b a ∙ ap capped (mul_comm b a)

pub product_assoc : (a b c : ℕ) → capped (capped (a * b) * c) ≡ capped (a * capped (b * c))
product_assoc a b c = product_left (a * b) c ∙ ap capped (mul_assoc a b c) ∙ sym (product_right a (b * c))

pub distrib_left : (a b c : ℕ) → capped (a * capped (b + c)) ≡ capped (capped (a * b) + capped (a * c))
distrib_left a b c = product_right a (b + c) ∙ omega (arith, mul-add a b c)

pub distrib_right : (a b c : ℕ) → capped (capped (b + c) * a) ≡ capped (capped (b * a) + capped (c * a))
distrib_right a b c = product_left (b + c) a ∙ omega (arith, add-mul b c a)
