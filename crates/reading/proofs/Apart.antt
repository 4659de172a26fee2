-- Equal bytes come from equal numbers.
use Rattle.std.proofs.Common.{◌≡◌, ℕ, zero, suc, ◌*◌, ◌/◌, ◌%◌, ◌^◌, ◌<◌, List, [], ◌∷◌, ◌++◌, map, length, take, drop, sym, refl, ap, ◌∙◌, append_assoc, pow-suc, arith}
use Rattle.std.proofs.lemmas.List.{take_at, drop_at}
use Rattle.records.specs.Fields.{bytes_of, row, Fit}

-- over the width
pub number_same : (w m n : ℕ) (r s : List ℕ) → m < 256 ^ w → n < 256 ^ w → bytes_of w m ++ r ≡ bytes_of w n ++ s → (m ≡ n) × (r ≡ s)
number_same zero m n r s a b e = (omega arith, e)
number_same (suc w) m n r s a b e =
    let p : 256 ^ suc w ≡ 256 ^ w * 256 = pow-suc 256 w in
    let i = number_same w (m / 256) (n / 256) (m % 256 ∷ r) (n % 256 ∷ s) (omega arith) (omega arith) (simp append_assoc at e) in
    let high : m / 256 ≡ n / 256 = i.0 in
    let low : m % 256 ≡ n % 256 = cc i.1 in
    (omega arith, cc i.1)

-- over a row of fields of the same widths
pub row_same : (fs gs : List (ℕ × ℕ)) (r s : List ℕ) → map (λ f. f.0) fs ≡ map (λ f. f.0) gs → Fit fs → Fit gs → row fs ++ r ≡ row gs ++ s → (map (λ f. f.1) fs ≡ map (λ f. f.1) gs) × (r ≡ s)
row_same [] [] r s w a b e = (refl, e)
row_same [] (g ∷ gs) r s w a b e = let z : ◌≡◌ {A = ℕ} 0 1 = cc in absurd (omega arith)
row_same (f ∷ fs) [] r s w a b e = let z : ◌≡◌ {A = ℕ} 0 1 = cc in absurd (omega arith)
row_same (f ∷ fs) (g ∷ gs) r s w a b e =
    let width : f.0 ≡ g.0 = cc in
    let i = number_same g.0 f.1 g.1 (row fs ++ r) (row gs ++ s) (rw width at a.0) b.0 (rw width at (simp append_assoc at e)) in
    let j = row_same fs gs r s (cc) a.1 b.1 i.1 in
    (cc (i.0, j.0), j.1)

-- over a stretch of a known length
pub stretch_same : (t u r s : List ℕ) → length t ≡ length u → t ++ r ≡ u ++ s → (t ≡ u) × (r ≡ s)
stretch_same t u r s l e =
    let n = length t in
    (sym (take_at t r n refl) ∙ ap (take n) e ∙ take_at u s n (sym l), sym (drop_at t r n refl) ∙ ap (drop n) e ∙ drop_at u s n (sym l))
