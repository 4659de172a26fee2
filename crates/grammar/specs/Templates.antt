-- The template of a pattern: a start type, an end type and a set of steps between types.
-- BATT+ starts and ends with BATT and has the step from BATT to BATT.
use Rattle.std.specs.Prelude.{◌≡◌, ℕ, ◌⊎◌, List, [], ◌∷◌}
use Rattle.events.specs.Types.{code_of}
use Rattle.grammar.specs.Trees.{Level, Tree, name, plus, seq, two, more}

-- a name is its own start, a SEQ starts as its first part
abbrev pub start_of : {l : Level} → Tree l → ℕ
start_of (name k) = code_of k
start_of (plus t) = start_of t
start_of (seq ts) = start_of ts
start_of (two t u) = start_of t
start_of (more ts u) = start_of ts

-- a name is its own end, a SEQ ends as its last part
abbrev pub end_of : {l : Level} → Tree l → ℕ
end_of (name k) = code_of k
end_of (plus t) = end_of t
end_of (seq ts) = end_of ts
end_of (two t u) = end_of u
end_of (more ts u) = end_of u

-- there is a step from a to b: a SEQ has one from each part's end to the next one's start, a + one from its part's end to its start
abbrev pub Step : {l : Level} → Tree l → ℕ → ℕ → Type 0
Step (name k) a b = ⊥
Step (plus t) a b = Step t a b ⊎ ((a ≡ end_of t) × (b ≡ start_of t))
Step (seq ts) a b = Step ts a b
Step (two t u) a b = Step t a b ⊎ (Step u a b ⊎ ((a ≡ end_of t) × (b ≡ start_of u)))
Step (more ts u) a b = Step ts a b ⊎ (Step u a b ⊎ ((a ≡ end_of ts) × (b ≡ start_of u)))

-- steps lead from a along w to the end
abbrev pub Onward : (ℕ → ℕ → Type 0) → ℕ → ℕ → List ℕ → Type 0
Onward step end a [] = a ≡ end
Onward step end a (b ∷ w) = step a b × Onward step end b w

-- w begins with the start and steps lead along it to the end
abbrev pub Leads : ℕ → ℕ → (ℕ → ℕ → Type 0) → List ℕ → Type 0
Leads start end step [] = ⊥
Leads start end step (a ∷ w) = (a ≡ start) × Onward step end a w
