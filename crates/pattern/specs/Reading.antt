-- What reading a pattern text answers: the pattern, or the first question from the left that says no, with its place.
-- BATT++ is refused by Grammar at 5, SEQ(DROP,DROP) by Repeat at 9.
use Rattle.std.specs.Prelude.{◌≡◌, ℕ, suc, ◌+◌, ◌<◌, ◌≤◌, List, [], ◌∷◌, ◌++◌, length, ◌≢◌}
use Rattle.grammar.specs.declared.Symbol.{Symbol}
use Rattle.grammar.specs.declared.Symbol.TheVariants.{Name, Seq, Open, Close, Comma, Plus}
use Rattle.grammar.specs.Trees.{part, Tree, In}
use Rattle.grammar.specs.Grammar.{Writes, Begins}
use Rattle.grammar.specs.Texts.{spelled}
use Rattle.grammar.specs.Limits.{opened, named}
use Rattle.pattern.specs.declared.refusal.ReadRefusal.{ReadRefusal}
use Rattle.pattern.specs.declared.refusal.ReadRefusal.TheVariants.{Length, Byte, Word, Grammar, Depth, Repeat}
use Rattle.pattern.specs.Refusals.{number_of}

-- a byte from A to Z
abbrev pub Letter : ℕ → Type 0
Letter b = (65 ≤ b) × (b ≤ 90)

abbrev pub Letters : List ℕ → Type 0
Letters [] = Unit {0}
Letters (b ∷ bs) = Letter b × Letters bs

-- no letter stands first
abbrev pub OtherFirst : List ℕ → Type 0
OtherFirst [] = Unit {0}
OtherFirst (b ∷ bs) = Letter b → ⊥

-- some bytes of a text, with the count of bytes before them
pub data Stretch : Type 0 where
  at : ℕ → List ℕ → Stretch

-- a text that begins at a place has these stretches: longest runs of letters, and other bytes singly; spaces mean nothing
pub data Cut : ℕ → List ℕ → List Stretch → Type 0 where
  end : {p : ℕ} → Cut p [] []
  space : {p : ℕ} {bs : List ℕ} {ss : List Stretch} → Cut (suc p) bs ss → Cut p (32 ∷ bs) ss
  run : {p b : ℕ} {w bs : List ℕ} {ss : List Stretch} → Letters (b ∷ w) → OtherFirst bs → Cut (p + length (b ∷ w)) bs ss → Cut p (b ∷ (w ++ bs)) (at p (b ∷ w) ∷ ss)
  single : {p b : ℕ} {bs : List ℕ} {ss : List Stretch} → (Letter b → ⊥) → (b ≢ 32) → Cut (suc p) bs ss → Cut p (b ∷ bs) (at p (b ∷ []) ∷ ss)

-- no token is spelled so
abbrev pub Unknown : List ℕ → Type 0
Unknown w = (x : Symbol) → spelled x ≢ w

-- x is no type name that stands among xs
abbrev pub Fresh : List Symbol → Symbol → Type 0
Fresh xs (Name k) = In k (named xs) → ⊥
Fresh xs Seq = Unit {0}
Fresh xs Open = Unit {0}
Fresh xs Close = Unit {0}
Fresh xs Comma = Unit {0}
Fresh xs Plus = Unit {0}

-- after the tokens xs, the stretch w is the token x and no question says no
pub record Passes (xs : List Symbol) (w : List ℕ) (x : Symbol) : Type 0 where
  pub known : spelled x ≡ w
  pub begins : Begins (xs ++ x ∷ [])
  pub shallow : opened 0 (xs ++ x ∷ []) ≤ 16
  pub fresh : Fresh xs x

-- after the tokens xs, the first question that says no at the stretch w
pub data Stops (xs : List Symbol) : List ℕ → ReadRefusal → Type 0 where
  byte : {b : ℕ} → (Letter b → ⊥) → Unknown (b ∷ []) → Stops xs (b ∷ []) Byte
  word : {w : List ℕ} → Letters w → Unknown w → Stops xs w Word
  grammar : {w : List ℕ} (x : Symbol) → spelled x ≡ w → (Begins (xs ++ x ∷ []) → ⊥) → Stops xs w Grammar
  depth : {w : List ℕ} (x : Symbol) → spelled x ≡ w → Begins (xs ++ x ∷ []) → 16 < opened 0 (xs ++ x ∷ []) → Stops xs w Depth
  repeat : {w : List ℕ} (x : Symbol) → spelled x ≡ w → Begins (xs ++ x ∷ []) → opened 0 (xs ++ x ∷ []) ≤ 16 → (Fresh xs x → ⊥) → Stops xs w Repeat

pub data Outcome : Type 0 where
  accepted : Tree part → Outcome
  -- by number and place
  refused : ℕ → ℕ → Outcome

-- after the tokens xs, the stretches that are left lead to this outcome, in a text of n bytes
pub data LeadsTo (n : ℕ) : List Symbol → List Stretch → Outcome → Type 0 where
  whole : {xs : List Symbol} {t : Tree part} → Writes xs t → LeadsTo n xs [] (accepted t)
  broken_off : {xs : List Symbol} → ((t : Tree part) → Writes xs t → ⊥) → LeadsTo n xs [] (refused (number_of Grammar) n)
  next : {xs : List Symbol} {p : ℕ} {w : List ℕ} {ss : List Stretch} {o : Outcome} (x : Symbol) → Passes xs w x → LeadsTo n (xs ++ x ∷ []) ss o → LeadsTo n xs (at p w ∷ ss) o
  stop : {xs : List Symbol} {p : ℕ} {w : List ℕ} {ss : List Stretch} {r : ReadRefusal} → Stops xs w r → LeadsTo n xs (at p w ∷ ss) (refused (number_of r) p)

pub data Reads (text : List ℕ) : Outcome → Type 0 where
  bad_length : (1 ≤ length text → length text ≤ 250 → ⊥) → Reads text (refused (number_of Length) 0)
  by_stretches : {ss : List Stretch} {o : Outcome} → 1 ≤ length text → length text ≤ 250 → Cut 0 text ss → LeadsTo (length text) [] ss o → Reads text o
