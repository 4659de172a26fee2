-- What a stack holds: the first len of its places, the newest first.
use Rattle.std.specs.Prelude.{ℕ, List, reverse, take}

abbrev pub held : {X : Type 0} → List X → ℕ → List X
held items len = reverse (take len items)
