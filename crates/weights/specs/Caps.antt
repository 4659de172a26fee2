-- Numbers that stop at T, the largest of 32 bits.
-- Example: T and 1 make T.
use Rattle.std.specs.Prelude.{ℕ, min}

-- T
abbrev pub top : ℕ
top = 4294967295

-- the smaller of n and T
abbrev pub capped : ℕ → ℕ
capped n = min n top
