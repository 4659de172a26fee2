-- Laws of every history whose answers are as defined.
use Rattle.std.specs.Prelude.{◌≡◌, ℕ, suc, ◌<◌, ◌≤◌, cond, ◌∷◌, map, reverse, Ok, Err, Option, Result}
use Rattle.events.specs.declared.event.Event.{Event}
use Rattle.grammar.specs.Trees.{In}
use Rattle.rules.specs.Rules.{Rule}
use Rattle.weights.specs.Kinds.{Kind}
use Rattle.weights.specs.Maps.{Carries}
use Rattle.semantics.specs.declared.refusal.CallRefusal.{CallRefusal}
use Rattle.semantics.specs.declared.refusal.Taken.{Taken}
use Rattle.semantics.specs.declared.setup.Setup.{Setup}
use Rattle.semantics.specs.Agreement.{call_of, Agrees, SameSize}
use Rattle.semantics.specs.Histories.{Entry, take, tick, result, group, report, close, History, accepted, clock, first, kept, in_pattern, earlier_than, dropped_while}
use Rattle.semantics.specs.Meaning.{Telling, Defined}
use Rattle.semantics.specs.Trends.{Adjacent}
use Rattle.semantics.specs.Windows.{window_start, window_end, InWindow}

-- the same events, clock and first open window stand in both histories
abbrev pub StandsAlike : {V W R : Type 0} → Setup R → History V → History W → Type 0
StandsAlike s h i = (accepted h ≡ accepted i) × (clock s h ≡ clock s i) × (first h ≡ first i)

-- a call that only asks, or was refused
abbrev pub Idle : {V : Type 0} → Entry V → Type 0
Idle (take e (Ok a)) = ⊥
Idle (take e (Err r)) = Unit {0}
Idle (tick t (Ok a)) = ⊥
Idle (tick t (Err r)) = Unit {0}
Idle (result k g a) = Unit {0}
Idle (group k g a) = Unit {0}
Idle (report n a) = Unit {0}
Idle (close (Ok a)) = ⊥
Idle (close (Err r)) = Unit {0}

-- such a call changes nothing
abbrev pub IdleChangesNothing : {R : Type 0} → Type 0 → Setup R → Type 0
IdleChangesNothing V s = (d : Entry V) (h : History V) → Idle d → StandsAlike s (d ∷ h) h

-- a tick, accepted or not, leaves the kept events, and so does each such call
abbrev pub KeptOtherwise : {R : Type 0} → Type 0 → Setup R → Type 0
KeptOtherwise V s =
    ((t : ℕ) (a : Result (Unit {0}) CallRefusal) (h : History V) → kept s (tick t a ∷ h) ≡ kept s h)
    × ((d : Entry V) (h : History V) → Idle d → kept s (d ∷ h) ≡ kept s h)

module _ {V R : Type 0} (kind : Kind V) (telling : Option (Telling V)) (rule : Rule R) (s : Setup R) where
  -- the first open window has begun
  abbrev pub ClockNotBehind : Type 0
  ClockNotBehind = (h : History V) → Defined kind telling rule s h → window_start s (first h) ≤ clock s h

  -- in the order taken the times never fall, and none is after the clock
  abbrev pub TimesNeverFall : Type 0
  TimesNeverFall =
      (h : History V) → Defined kind telling rule s h
      → Adjacent (λ later earlier. earlier.time ≤ later.time) (accepted h) × ((e : Event) → In e (accepted h) → e.time ≤ clock s h)

  -- every event is before the end of the first open window
  abbrev pub BeforeTheEnd : Type 0
  BeforeTheEnd = (h : History V) → Defined kind telling rule s h → (e : Event) → In e (accepted h) → e.time < window_end s (first h)

  -- an event is taken into the first open window
  abbrev pub TakenIntoFirst : Type 0
  TakenIntoFirst = (h : History V) (e : Event) (a : Taken) → Defined kind telling rule s (take e (Ok a) ∷ h) → InWindow s (first h) e.time

  -- an accepted take keeps an event whose type is in the pattern
  abbrev pub KeptByTaking : Type 0
  KeptByTaking =
      (h : History V) (e : Event) (a : Taken) → Defined kind telling rule s (take e (Ok a) ∷ h)
      → kept s (take e (Ok a) ∷ h) ≡ cond (in_pattern s e.kind) (e ∷ kept s h) (kept s h)

  -- an accepted close drops, in the order taken, the leading events before the next window
  abbrev pub KeptByDropping : Type 0
  KeptByDropping =
      (h : History V) (a : Unit {0}) → Defined kind telling rule s (close (Ok a) ∷ h)
      → reverse (kept s (close (Ok a) ∷ h)) ≡ dropped_while (earlier_than (window_start s (suc (first h)))) (reverse (kept s h))

-- two kinds, one carried to the other: equal calls have agreeing answers
abbrev pub KindsAgree : {V W R : Type 0} → Kind V → Kind W → Option (Telling V) → Option (Telling W) → Rule R → Setup R → (V → W) → Type 0
KindsAgree {V} {W} j k t u rule s φ =
    Carries j k φ → SameSize t u → (h : History V) (i : History W) → Defined j t rule s h → Defined k u rule s i
    → map call_of h ≡ map call_of i → Agrees s t u φ h i
