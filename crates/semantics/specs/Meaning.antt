-- What each answer means, from the history before it alone, and when a whole history is as defined.
-- A result is right if nobody who lists the trends of the accepted events comes to another value.
use Rattle.std.specs.Prelude.{◌≡◌, ℕ, ◌*◌, ◌<◌, ◌≤◌, cond, List, [], ◌∷◌, ◌++◌, reverse, length, Some, None, Ok, Err, Option, Result}
use Rattle.events.specs.declared.event.Event.{Event}
use Rattle.grammar.specs.Trees.{In}
use Rattle.rules.specs.Rules.{Rule}
use Rattle.weights.specs.Kinds.{Kind}
use Rattle.semantics.specs.declared.refusal.CallRefusal.{CallRefusal}
use Rattle.semantics.specs.declared.refusal.Taken.TheVariants.{Passed, Kept}
use Rattle.semantics.specs.declared.setup.Setup.{Setup}
use Rattle.semantics.specs.Histories.{Entry, take, tick, result, group, report, close, History, accepted, clock, first, kept, in_pattern, first_no, take_questions, tick_questions, window_questions, close_questions, report_questions}
use Rattle.semantics.specs.Trends.{Adjacent, ResultIs}
use Rattle.semantics.specs.Windows.{window_start}

-- refused with the first question's refusal, or answered so
abbrev pub Answers : {A : Type 0} → Option CallRefusal → Result A CallRefusal → (A → Type 0) → Type 0
Answers None (Ok a) P = P a
Answers None (Err r) P = ⊥
Answers (Some q) (Ok a) P = ⊥
Answers (Some q) (Err r) P = r ≡ q

-- lift g has one of the events, not before this time
abbrev pub Present : List Event → ℕ → ℕ → Type 0
Present es from g = (e : Event) × In e es × (e.lift ≡ g) × (from ≤ e.time)

-- the least lift present at or above g, or none
abbrev pub LeastLift : List Event → ℕ → ℕ → Option ℕ → Type 0
LeastLift es from g None = (l : ℕ) → g ≤ l → Present es from l → ⊥
LeastLift es from g (Some l) = (g ≤ l) × Present es from l × ((m : ℕ) → g ≤ m → m < l → Present es from m → ⊥)

-- the lifts present, rising
pub record Lifts (es : List Event) (from : ℕ) (ls : List ℕ) : Type 0 where
  pub rising : Adjacent ◌<◌ ls
  pub only : (g : ℕ) → In g ls → Present es from g
  pub each : (g : ℕ) → Present es from g → In g ls

-- how a result of a window and lift is told: in so many bytes
pub record Telling (V : Type 0) : Type 0 where
  pub size : ℕ
  pub bytes : (window lift : ℕ) → V → List ℕ
  pub sized : (window lift : ℕ) (v : V) → length (bytes window lift v) ≡ size

-- the bytes tell a value that is right of each lift, in order
pub data Tells {V : Type 0} (t : Telling V) (right : ℕ → V → Type 0) (window : ℕ) : List ℕ → List ℕ → Type 0 where
  none : Tells t right window [] []
  one_more : {ls bs : List ℕ} (g : ℕ) (v : V) → right g v → Tells t right window ls bs → Tells t right window (g ∷ ls) (t.bytes window g v ++ bs)

module _ {V R : Type 0} (kind : Kind V) (telling : Option (Telling V)) (rule : Rule R) (s : Setup R) where
  -- of window k and a lift, a right result
  abbrev pub Right : History V → ℕ → ℕ → V → Type 0
  Right h k g = ResultIs kind rule s k g (reverse (accepted h))

  -- a report of the first open window into n bytes
  abbrev pub Reports : Telling V → History V → ℕ → Result (List ℕ) CallRefusal → Type 0
  Reports t h n a =
      (ls : List ℕ) × Lifts (kept s h) (window_start s (first h)) ls
      × Answers (first_no (report_questions (t.size * length ls) n)) a (Tells t (Right h (first h)) (first h) ls)

  -- only a kind that tells its results has reports
  abbrev pub ReportsIf : Option (Telling V) → History V → ℕ → Result (List ℕ) CallRefusal → Type 0
  ReportsIf None h n a = ⊥
  ReportsIf (Some t) h n a = Reports t h n a

  -- the answer is the one defined from the history before it
  abbrev pub Answered : History V → Entry V → Type 0
  Answered h (take e a) = Answers (first_no (take_questions s (clock s h) (first h) (length (kept s h)) e)) a (λ t. t ≡ cond (in_pattern s e.kind) Kept Passed)
  Answered h (tick t a) = Answers (first_no (tick_questions s (clock s h) t)) a (λ _. Unit {0})
  Answered h (result k g a) = Answers (first_no (window_questions s (first h) k)) a (Right h k g)
  Answered h (group k g a) = Answers (first_no (window_questions s (first h) k)) a (LeastLift (kept s h) (window_start s k) g)
  Answered h (report n a) = ReportsIf telling h n a
  Answered h (close a) = Answers (first_no (close_questions s (clock s h) (first h))) a (λ _. Unit {0})

  -- every answer of the history is the one defined from what came before it
  abbrev pub Defined : History V → Type 0
  Defined [] = Unit {0}
  Defined (d ∷ h) = Answered h d × Defined h
