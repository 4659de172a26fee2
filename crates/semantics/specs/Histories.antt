-- A history: the calls of an engine with their answers, the newest first, and what stands in it.
-- After take(e) kept, tick(200) and close, the accepted events are e alone, the clock is 200 and the first open window is 1.
use Rattle.std.specs.Prelude.{ℕ, suc, ◌+◌, Bool, cond, not, ◌&&◌, ◌||◌, List, [], ◌∷◌, Some, None, Ok, Err, drop, filter, Option, Result, nat_eq, nat_le, nat_lt}
use Rattle.std.specs.List.{list_any, prefix_len}
use Rattle.events.specs.declared.event.Event.{Event}
use Rattle.events.specs.Types.{code_of}
use Rattle.grammar.specs.Trees.{names}
use Rattle.pattern.specs.Patterns.{tree}
use Rattle.semantics.specs.declared.refusal.CallRefusal.{CallRefusal}
use Rattle.semantics.specs.declared.refusal.CallRefusal.TheVariants as refusal
use Rattle.semantics.specs.declared.refusal.Taken.{Taken}
use Rattle.semantics.specs.declared.setup.Setup.{Setup}
use Rattle.semantics.specs.Windows.{window_start, window_end}

-- a call with its answer, where results are of the type V
pub data Entry (V : Type 0) : Type 0 where
  take : Event → Result Taken CallRefusal → Entry V
  tick : ℕ → Result (Unit {0}) CallRefusal → Entry V
  result : ℕ → ℕ → Result V CallRefusal → Entry V
  group : ℕ → ℕ → Result (Option ℕ) CallRefusal → Entry V
  -- into so many bytes; the answer is what was written
  report : ℕ → Result (List ℕ) CallRefusal → Entry V
  close : Result (Unit {0}) CallRefusal → Entry V

abbrev pub History : Type 0 → Type 0
History V = List (Entry V)

-- the events that take did not refuse, the newest first
abbrev pub accepted : {V : Type 0} → History V → List Event
accepted [] = []
accepted (take e (Ok a) ∷ h) = e ∷ accepted h
accepted (take e (Err r) ∷ h) = accepted h
accepted (tick t a ∷ h) = accepted h
accepted (result k g a ∷ h) = accepted h
accepted (group k g a ∷ h) = accepted h
accepted (report n a ∷ h) = accepted h
accepted (close a ∷ h) = accepted h

-- the time of the last accepted take or tick, the origin before that
abbrev pub clock : {V R : Type 0} → Setup R → History V → ℕ
clock s [] = s.origin
clock s (take e (Ok a) ∷ h) = e.time
clock s (take e (Err r) ∷ h) = clock s h
clock s (tick t (Ok a) ∷ h) = t
clock s (tick t (Err r) ∷ h) = clock s h
clock s (result k g a ∷ h) = clock s h
clock s (group k g a ∷ h) = clock s h
clock s (report n a ∷ h) = clock s h
clock s (close a ∷ h) = clock s h

-- the first open window: how many closes were accepted
abbrev pub first : {V : Type 0} → History V → ℕ
first [] = 0
first (take e a ∷ h) = first h
first (tick t a ∷ h) = first h
first (result k g a ∷ h) = first h
first (group k g a ∷ h) = first h
first (report n a ∷ h) = first h
first (close (Ok a) ∷ h) = suc (first h)
first (close (Err r) ∷ h) = first h

abbrev pub earlier_than : ℕ → Event → Bool
earlier_than from e = nat_lt e.time from

-- what is left without the leading ones that pass the test
abbrev pub dropped_while : {X : Type 0} → (X → Bool) → List X → List X
dropped_while test xs = drop (prefix_len test xs) xs

-- the pattern names the type with this code
abbrev pub in_pattern : {R : Type 0} → Setup R → ℕ → Bool
in_pattern s code = list_any (λ k. nat_eq (code_of k) code) (names (tree s.pattern))

-- the accepted events whose type is in the pattern and that are not before the first open window, the newest first
abbrev pub kept : {V R : Type 0} → Setup R → History V → List Event
kept s h = filter (λ e. in_pattern s e.kind && nat_le (window_start s (first h)) e.time) (accepted h)

-- a question's answer, and the refusal that a no gives
pub record Question : Type 0 where
  pub yes_to : Bool
  pub or_else : CallRefusal

-- the refusal of the first question that says no
abbrev pub first_no : List Question → Option CallRefusal
first_no [] = None
first_no (q ∷ qs) = cond q.yes_to (first_no qs) (Some q.or_else)

module _ {R : Type 0} (s : Setup R) where
  -- with this clock, first open window and number of events kept: what take asks of an event
  abbrev pub take_questions : (clock first kept : ℕ) → Event → List Question
  take_questions now f n e =
      record { yes_to = nat_le e.kind 9; or_else = refusal.«Type» }
      ∷ record { yes_to = nat_lt e.load 4294967295; or_else = refusal.Load }
      ∷ record { yes_to = nat_le now e.time; or_else = refusal.Clock }
      ∷ record { yes_to = nat_lt e.time (window_end s f); or_else = refusal.Late }
      ∷ record { yes_to = not (in_pattern s e.kind) || nat_lt n s.capacity; or_else = refusal.Full }
      ∷ []

  abbrev pub tick_questions : (clock : ℕ) → ℕ → List Question
  tick_questions now t = record { yes_to = nat_le now t; or_else = refusal.Clock } ∷ []

  -- result and group ask whether the window is open
  abbrev pub window_questions : (first : ℕ) → ℕ → List Question
  window_questions f k = record { yes_to = nat_le f k && nat_lt k (f + s.span); or_else = refusal.Window } ∷ []

  abbrev pub close_questions : (clock first : ℕ) → List Question
  close_questions now f = record { yes_to = nat_le (window_end s f) now; or_else = refusal.Early } ∷ []

abbrev pub report_questions : (needed given : ℕ) → List Question
report_questions needed given = record { yes_to = nat_le needed given; or_else = refusal.Room } ∷ []
