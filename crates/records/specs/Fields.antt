-- Numbers as bytes, the most significant first, and rows of such numbers.
use Rattle.std.specs.Prelude.{◌≡◌, ℕ, zero, suc, ◌/◌, ◌%◌, ◌^◌, ◌<◌, List, [], ◌∷◌, ◌++◌}

-- a number in so many bytes
abbrev pub bytes_of : ℕ → ℕ → List ℕ
bytes_of zero n = []
bytes_of (suc w) n = bytes_of w (n / 256) ++ (n % 256 ∷ [])

-- the bytes of fields in a row, each a width in bytes and a number
abbrev pub row : List (ℕ × ℕ) → List ℕ
row [] = []
row (f ∷ fs) = bytes_of f.0 f.1 ++ row fs

-- each number has room in its width
abbrev pub Fit : List (ℕ × ℕ) → Type 0
Fit [] = Unit {0}
Fit (f ∷ fs) = (f.1 < 256 ^ f.0) × Fit fs

-- bs begins with the bytes of these fields, and then rest is left
pub record Begins (fs : List (ℕ × ℕ)) (bs rest : List ℕ) : Type 0 where
  pub fit : Fit fs
  pub bytes : bs ≡ row fs ++ rest
