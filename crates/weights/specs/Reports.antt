-- What a value of a reported kind tells: two numbers of 32 bits, under the kind's own number.
-- Example: seven trends, of the kind Count (1), tell 7 and 0.
use Rattle.std.specs.Prelude.{◌≡◌, ℕ}
use Rattle.weights.specs.declared.Told.{Told}

pub record Report (V : Type 0) : Type 0 where
  -- the number that stands for the kind
  pub number : ℕ
  -- what a value tells
  pub tells : V → Told
  -- the value had back from what is told
  pub reads : Told → V

-- reading what a value tells gives the value back
abbrev pub Retold : {V : Type 0} → Report V → Type 0
Retold {V} report = (value : V) → report.reads (report.tells value) ≡ value
