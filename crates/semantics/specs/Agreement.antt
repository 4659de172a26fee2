-- When two histories of two kinds agree: the second's results are the first's, mapped.
use Rattle.std.specs.Prelude.{◌≡◌, ℕ, List, [], ◌∷◌, Some, None, Ok, Err, Option, Result}
use Rattle.events.specs.declared.event.Event.{Event}
use Rattle.semantics.specs.declared.refusal.CallRefusal.{CallRefusal}
use Rattle.semantics.specs.declared.refusal.Taken.{Taken}
use Rattle.semantics.specs.declared.setup.Setup.{Setup}
use Rattle.semantics.specs.Histories.{Entry, take, tick, result, group, report, close, History, first, kept}
use Rattle.semantics.specs.Meaning.{Lifts, Telling, Tells}
use Rattle.semantics.specs.Windows.{window_start}

-- a call without its answer
pub data Call : Type 0 where
  takes : Event → Call
  ticks : ℕ → Call
  results groups : ℕ → ℕ → Call
  reports : ℕ → Call
  closes : Call

abbrev pub call_of : {V : Type 0} → Entry V → Call
call_of (take e a) = takes e
call_of (tick t a) = ticks t
call_of (result k g a) = results k g
call_of (group k g a) = groups k g
call_of (report n a) = reports n
call_of (close a) = closes

-- the bytes tell these lifts of a window, whatever their values
abbrev pub NamesLifts : {V : Type 0} → Telling V → ℕ → List ℕ → List ℕ → Type 0
NamesLifts {V} t window ls bs = Tells t (λ g v. Unit {0}) window ls bs

-- after the history, both reports tell the lifts present in its first open window
abbrev pub SameLifts : {V W R : Type 0} → Setup R → Option (Telling V) → Option (Telling W) → History V → List ℕ → List ℕ → Type 0
SameLifts s None u h bs cs = ⊥
SameLifts s (Some t) None h bs cs = ⊥
SameLifts s (Some t) (Some u) h bs cs =
    (ls : List ℕ) × Lifts (kept s h) (window_start s (first h)) ls × NamesLifts t (first h) ls bs × NamesLifts u (first h) ls cs

module _ {V W R : Type 0} (s : Setup R) (t : Option (Telling V)) (u : Option (Telling W)) (φ : V → W) where
  -- after the history, equal calls with equal answers, but for results, which are mapped, and reports, which are of the same lifts
  pub data AgreeAt (h : History V) : Entry V → Entry W → Type 0 where
    both_take : (e : Event) (a : Result Taken CallRefusal) → AgreeAt h (take e a) (take e a)
    both_tick : (time : ℕ) (a : Result (Unit {0}) CallRefusal) → AgreeAt h (tick time a) (tick time a)
    both_result : (k g : ℕ) (v : V) → AgreeAt h (result k g (Ok v)) (result k g (Ok (φ v)))
    no_result : (k g : ℕ) (r : CallRefusal) → AgreeAt h (result k g (Err r)) (result k g (Err r))
    both_group : (k g : ℕ) (a : Result (Option ℕ) CallRefusal) → AgreeAt h (group k g a) (group k g a)
    both_report : (n : ℕ) (bs cs : List ℕ) → SameLifts s t u h bs cs → AgreeAt h (report n (Ok bs)) (report n (Ok cs))
    no_report : (n : ℕ) (r : CallRefusal) → AgreeAt h (report n (Err r)) (report n (Err r))
    both_close : (a : Result (Unit {0}) CallRefusal) → AgreeAt h (close a) (close a)

  -- entry by entry, each after what came before it
  abbrev pub Agrees : History V → History W → Type 0
  Agrees [] [] = Unit {0}
  Agrees [] (e ∷ i) = ⊥
  Agrees (d ∷ h) [] = ⊥
  Agrees (d ∷ h) (e ∷ i) = AgreeAt h d e × Agrees h i

-- what is told of a lift is as long for both, where both tell
abbrev pub SameSize : {V W : Type 0} → Option (Telling V) → Option (Telling W) → Type 0
SameSize None u = Unit {0}
SameSize (Some t) None = Unit {0}
SameSize (Some t) (Some u) = t.size ≡ u.size
