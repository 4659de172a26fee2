-- Slots: eight a place, and window k uses slot k mod 8.
-- The slot of window 9 at place 2 is the one at 8 × 2 + 1.
use Rattle.std.specs.Prelude.{◌≡◌, ℕ, ◌+◌, ◌*◌, ◌%◌, ◌<◌, ◌≤◌, Bool, cond, ◌&&◌, List, [], ◌∷◌, length, ◌==◌, ◌≢◌, nat_le, nat_lt, slice_index_or}
use Rattle.events.specs.declared.event.Event.{Event}
use Rattle.rules.specs.Rules.{Rule}
use Rattle.semantics.specs.declared.setup.Setup.{Setup}
use Rattle.semantics.specs.Recursion.{Shape, Valued}
use Rattle.semantics.specs.Windows.{window_start}
use Rattle.weights.specs.Kinds.{Kind}

-- which slot window k uses at this place
abbrev pub slot_index : (place k : ℕ) → ℕ
slot_index place k = 8 * place + k % 8

module _ {V : Type 0} (kind : Kind V) where
  -- the slot of window k at this place
  abbrev pub slot : List V → (place k : ℕ) → V
  slot slots place k = slice_index_or slots (slot_index place k) kind.zero

  -- each event, the newest first, with its slot of window k: its place is the number of events before it
  abbrev pub row : List V → (k : ℕ) → List Event → List (Valued V)
  row slots k [] = []
  row slots k (e ∷ es) = record { event = e; value = slot slots (length es) k } ∷ row slots k es

  -- the place's slots of the windows from first up to, without, end were written, that of window k with f k; all others stay
  pub record Written (before after : List V) (place first end : ℕ) (f : ℕ → V) : Type 0 where
    pub long : length after ≡ length before
    pub new : (k : ℕ) → first ≤ k → k < end → slot after place k ≡ f k
    pub others : (i : ℕ) → ((k : ℕ) → first ≤ k → k < end → i ≢ slot_index place k) → slice_index_or after i kind.zero ≡ slice_index_or before i kind.zero

  -- the first place's slots of those windows were written: gives holds of k, the slot before and the slot after; all others stay
  pub record Rewritten (before after : List V) (first end : ℕ) (gives : ℕ → V → V → Type 0) : Type 0 where
    pub long : length after ≡ length before
    pub new : (k : ℕ) → first ≤ k → k < end → gives k (slot before 0 k) (slot after 0 k)
    pub others : (i : ℕ) → ((k : ℕ) → first ≤ k → k < end → i ≢ slot_index 0 k) → slice_index_or after i kind.zero ≡ slice_index_or before i kind.zero

-- the sum, joined by the slot of window k of an older event if the window has begun at its time
abbrev pub joined_slot : {V R : Type 0} → Kind V → Setup R → List V → (older time k : ℕ) → V → V
joined_slot kind s slots older time k sum = cond (nat_le (window_start s k) time) (kind.join (slot kind slots older k) sum) sum

-- p may come right before e in the windows that hold both
abbrev pub may_come_before : {R : Type 0} → Rule R → Setup R → Shape → Event → Event → Bool
may_come_before rule s shape e p = p.lift == e.lift && (nat_lt p.time e.time && (shape.steps p.kind e.kind && rule.says s.rule p e))

-- of lift g, not before this time, and with the type that ends trends
abbrev pub ends_by : (g ends from : ℕ) → Event → Bool
ends_by g ends from e = e.lift == g && (nat_le from e.time && e.kind == ends)
