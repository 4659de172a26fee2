-- What writing a text to given bytes answers, and what it leaves in them.
-- BATT+ written to 6 bytes answers 5, and the sixth stays.
use Rattle.std.specs.Prelude.{◌≡◌, ℕ, ◌<◌, ◌≤◌, List, ◌++◌, length, drop, Ok, Err, Result}
use Rattle.pattern.specs.declared.refusal.WriteRefusal.{WriteRefusal}
use Rattle.pattern.specs.Refusals.{write_number_of}

-- the text stands in front of what was behind it
pub record PlacedIn (w before : List ℕ) (n : ℕ) (after : List ℕ) : Type 0 where
  pub count : n ≡ length w
  pub room : length w ≤ length before
  pub bytes : after ≡ w ++ drop (length w) before

-- the bytes are too few, and stay
pub record TooFew (w before : List ℕ) (e : WriteRefusal) (after : List ℕ) : Type 0 where
  pub number : write_number_of e ≡ 7
  pub room : length before < length w
  pub bytes : after ≡ before

abbrev pub Written : List ℕ → List ℕ → Result ℕ WriteRefusal → List ℕ → Type 0
Written w before (Ok n) after = PlacedIn w before n after
Written w before (Err e) after = TooFew w before e after
