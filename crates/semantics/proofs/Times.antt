-- Times in a history that is as defined: they never fall, the first open window has begun, and what a close drops are the oldest events.
use Rattle.std.proofs.Common.{◌≡◌, ℕ, suc, ◌<◌, ◌≤◌, Bool, true, false, cond, ◌&&◌, leb, List, [], ◌∷◌, reverse, length, take as front, drop, Some, Ok, Err, filter, Option, sym, refl, ap, ◌∙◌, arith}
use Rattle.std.proofs.lemmas.Bool.{leb-true, leb-false, ltb-true, le-leb, lt-leb}
use Rattle.std.proofs.lemmas.Bool.Decides.{nat_tests}
use Rattle.events.specs.declared.event.Event.{Event}
use Rattle.grammar.specs.Trees.{In, here, there}
use Rattle.rules.specs.Rules.{Rule}
use Rattle.weights.specs.Kinds.{Kind}
use Rattle.semantics.specs.declared.refusal.Taken.TheVariants.{Passed, Kept}
use Rattle.semantics.specs.declared.setup.Setup.{Setup}
use Rattle.semantics.specs.Histories.{take, tick, result, group, report, close, History, accepted, clock, first, kept, in_pattern, earlier_than, Question, first_no, take_questions, tick_questions, close_questions}
use Rattle.semantics.specs.Laws.{StandsAlike, IdleChangesNothing, KeptOtherwise, TimesNeverFall, ClockNotBehind, BeforeTheEnd, TakenIntoFirst, KeptByTaking, KeptByDropping}
use Rattle.semantics.specs.Meaning.{Answers, Telling, Defined}
use Rattle.semantics.specs.Trends.{All, Adjacent}
use Rattle.semantics.specs.Windows.{window_start, window_end}
use Rattle.semantics.proofs.Fronts.{Fades, all_filtered, filtered_twice, filtered_take, filtered_rest, filtered_dropped}
use Rattle.semantics.proofs.Starts.{start_zero, starts_never_fall, next_start, ends_never_fall}

-- what is not refused has passed every question
pub passed : {A : Type 0} (qs : List Question) (a : A) (P : A → Type 0) → Answers (first_no qs) (Ok a) P → All (λ q. q.yes_to ≡ true) qs × P a
passed [] a P p = (tt, p)
passed (q ∷ qs) a P p = go q.yes_to refl p (passed qs a P)
  where
    go : (b : Bool) → q.yes_to ≡ b → Answers (cond b (first_no qs) (Some q.or_else)) (Ok a) P → (Answers (first_no qs) (Ok a) P → All (λ q. q.yes_to ≡ true) qs × P a) → ((q.yes_to ≡ true) × All (λ q. q.yes_to ≡ true) qs) × P a
    go true e p rest = ((e, (rest p).0), (rest p).1)
    go false e p rest = elim p [ ]

pub all_weaker : {X : Type 0} {P Q : X → Type 0} → ((x : X) → P x → Q x) → (xs : List X) → All P xs → All Q xs
all_weaker f [] h = tt
all_weaker f (x ∷ xs) h = (f x h.0, all_weaker f xs h.1)

pub all_in : {X : Type 0} (P : X → Type 0) {x : X} (xs : List X) → All P xs → In x xs → P x
all_in P [] h i = elim i [ ]
all_in P (y ∷ ys) h here = h.0
all_in P (y ∷ ys) h (there i) = all_in P ys h.1 i

-- the newest first: none is later than one before it
abbrev pub NewestFirst : List Event → Type 0
NewestFirst [] = Unit {0}
NewestFirst (e ∷ es) = All (λ x. x.time ≤ e.time) es × NewestFirst es

pub newest_adjacent : (es : List Event) → NewestFirst es → Adjacent (λ later earlier. earlier.time ≤ later.time) es
newest_adjacent [] h = tt
newest_adjacent (e ∷ []) h = tt
newest_adjacent (e ∷ d ∷ es) h = (h.0.0, newest_adjacent (d ∷ es) h.1)

newest_filtered : (test : Event → Bool) (es : List Event) → NewestFirst es → NewestFirst (filter test es)
newest_filtered test [] h = tt
newest_filtered test (e ∷ es) h =
    elim (test e) as (λ b. NewestFirst (cond b (e ∷ filter test es) (filter test es))) [ true ↦ (all_filtered (λ x. x.time ≤ e.time) test es h.0, newest_filtered test es h.1) | false ↦ newest_filtered test es h.1 ]

abbrev since : ℕ → Event → Bool
since from e = leb from e.time

and_yes : (x y : Bool) → y ≡ true → (x && y) ≡ x
and_yes true y e = e
and_yes false y e = refl

-- the events from a time on are a front
newest_fade : (from : ℕ) (es : List Event) → NewestFirst es → Fades (since from) es
newest_fade from [] h = tt
newest_fade from (e ∷ es) h = (λ no. all_weaker (λ x le. lt-leb from x.time (omega (arith, leb-false from e.time no))) es h.0, newest_fade from es h.1)

-- of the events, the newest first, the clock and the first open window
pub record Timely {R : Type 0} (s : Setup R) (es : List Event) (now f : ℕ) : Type 0 where
  pub begun : window_start s f ≤ now
  pub newest : NewestFirst es
  pub not_after : All (λ e. e.time ≤ now) es
  pub before_end : All (λ e. e.time < window_end s f) es

module _ {R : Type 0} (s : Setup R) where
  pub timely_none : Timely s [] s.origin 0
  timely_none = record { begun = omega (arith, start_zero s); newest = tt; not_after = tt; before_end = tt }

  module _ {es : List Event} {now f : ℕ} (h : Timely s es now f) where
    pub timely_take : (e : Event) → now ≤ e.time → e.time < window_end s f → Timely s (e ∷ es) e.time f
    timely_take e le lt =
        let older : All (λ x. x.time ≤ e.time) es = all_weaker (λ x old. omega arith) es h.not_after in
        record { begun = omega arith; newest = (older, h.newest); not_after = (omega arith, older); before_end = (lt, h.before_end) }

    pub timely_tick : (t : ℕ) → now ≤ t → Timely s es t f
    timely_tick t le = record { begun = omega arith; newest = h.newest; not_after = all_weaker (λ x old. omega arith) es h.not_after; before_end = h.before_end }

    pub timely_close : window_end s f ≤ now → Timely s es now (suc f)
    timely_close le = record { begun = omega (arith, next_start s f); newest = h.newest; not_after = h.not_after; before_end = all_weaker (λ x lt. omega (arith, ends_never_fall s f (suc f) (omega arith))) es h.before_end }

pub same_kept : {V W R : Type 0} (s : Setup R) (h : History V) (i : History W) → StandsAlike s h i → kept s h ≡ kept s i
same_kept s h i st = λ x. filter (λ e. in_pattern s e.kind && since (window_start s (st.2 x)) e) (st.0 x)

module _ {V R : Type 0} (s : Setup R) where
  pub idle_changes_nothing : IdleChangesNothing V s
  idle_changes_nothing (take e (Ok a)) h i = elim i [ ]
  idle_changes_nothing (take e (Err r)) h i = (refl, refl, refl)
  idle_changes_nothing (tick t (Ok a)) h i = elim i [ ]
  idle_changes_nothing (tick t (Err r)) h i = (refl, refl, refl)
  idle_changes_nothing (result k g a) h i = (refl, refl, refl)
  idle_changes_nothing (group k g a) h i = (refl, refl, refl)
  idle_changes_nothing (report n a) h i = (refl, refl, refl)
  idle_changes_nothing (close (Ok a)) h i = elim i [ ]
  idle_changes_nothing (close (Err r)) h i = (refl, refl, refl)

  pub kept_otherwise : KeptOtherwise V s
  kept_otherwise = (λ t a h. refl, λ d h i. same_kept s (d ∷ h) h (idle_changes_nothing d h i))

module _ {V R : Type 0} (kind : Kind V) (telling : Option (Telling V)) (rule : Rule R) (s : Setup R) where
  pub timely : (h : History V) → Defined kind telling rule s h → Timely s (accepted h) (clock s h) (first h)
  timely [] d = timely_none s
  timely (take e (Ok a) ∷ h) d =
      let yes = passed (take_questions s (clock s h) (first h) (length (kept s h)) e) a (λ t. t ≡ cond (in_pattern s e.kind) Kept Passed) d.0 in
      timely_take s (timely h d.1) e (leb-true (clock s h) e.time yes.0.1.1.0) (ltb-true e.time (window_end s (first h)) yes.0.1.1.1.0)
  timely (take e (Err r) ∷ h) d = timely h d.1
  timely (tick t (Ok a) ∷ h) d =
      let yes = passed (tick_questions s (clock s h) t) a (λ _. Unit {0}) d.0 in
      timely_tick s (timely h d.1) t (leb-true (clock s h) t yes.0.0)
  timely (tick t (Err r) ∷ h) d = timely h d.1
  timely (result k g a ∷ h) d = timely h d.1
  timely (group k g a ∷ h) d = timely h d.1
  timely (report n a ∷ h) d = timely h d.1
  timely (close (Ok a) ∷ h) d =
      let yes = passed (close_questions s (clock s h) (first h)) a (λ _. Unit {0}) d.0 in
      timely_close s (timely h d.1) (leb-true (window_end s (first h)) (clock s h) yes.0.0)
  timely (close (Err r) ∷ h) d = timely h d.1

  pub clock_not_behind : ClockNotBehind kind telling rule s
  clock_not_behind h d = (timely h d).begun

  pub times_never_fall : TimesNeverFall kind telling rule s
  times_never_fall h d = let t = timely h d in (newest_adjacent (accepted h) t.newest, λ e i. all_in (λ x. x.time ≤ clock s h) (accepted h) t.not_after i)

  pub before_the_end : BeforeTheEnd kind telling rule s
  before_the_end h d e i = all_in (λ x. x.time < window_end s (first h)) (accepted h) (timely h d).before_end i

  pub taken_into_first : TakenIntoFirst kind telling rule s
  taken_into_first h e a d = let t = timely (take e (Ok a) ∷ h) d in (t.begun, t.before_end.0)

  pub kept_after_take : KeptByTaking kind telling rule s
  kept_after_take h e a d =
      ap (λ b. cond b (e ∷ kept s h) (kept s h)) (and_yes (in_pattern s e.kind) (since (window_start s (first h)) e) (le-leb (window_start s (first h)) e.time (timely (take e (Ok a) ∷ h) d).begun))

  -- a close filters once more, and what it keeps is a front of the newest first
  kept_again : (h : History V) (a : Unit {0}) → kept s (close (Ok a) ∷ h) ≡ filter (since (window_start s (suc (first h)))) (kept s h)
  kept_again h a =
      let risen = starts_never_fall s (first h) (suc (first h)) (omega arith) in
      filtered_twice (λ e. in_pattern s e.kind) (since (window_start s (first h))) (since (window_start s (suc (first h)))) (λ e yes. le-leb (window_start s (first h)) e.time (omega (arith, leb-true (window_start s (suc (first h))) e.time yes))) (accepted h)

  kept_fades : (h : History V) → Defined kind telling rule s h → (from : ℕ) → Fades (since from) (kept s h)
  kept_fades h d from = newest_fade from (kept s h) (newest_filtered (λ e. in_pattern s e.kind && since (window_start s (first h)) e) (accepted h) (timely h d).newest)

  pub kept_after_close : KeptByDropping kind telling rule s
  kept_after_close h a d =
      let next = window_start s (suc (first h)) in
      ap reverse (kept_again h a) ∙ filtered_dropped (since next) (earlier_than next) (λ e. grind (arith, nat_tests)) (kept s h) (kept_fades h d.1 next)

  -- the same by how many are left
  pub kept_by_take : (h : History V) (a : Unit {0}) → Defined kind telling rule s (close (Ok a) ∷ h) → kept s (close (Ok a) ∷ h) ≡ front (length (kept s (close (Ok a) ∷ h))) (kept s h)
  kept_by_take h a d =
      let next = window_start s (suc (first h)) in
      kept_again h a ∙ filtered_take (since next) (kept s h) (kept_fades h d.1 next) ∙ ap (λ es. front (length es) (kept s h)) (sym (kept_again h a))

  -- the others are before the next window
  pub dropped_early : (h : History V) (a : Unit {0}) → Defined kind telling rule s (close (Ok a) ∷ h) → All (λ e. e.time < window_start s (suc (first h))) (drop (length (kept s (close (Ok a) ∷ h))) (kept s h))
  dropped_early h a d =
      let next = window_start s (suc (first h)) in
      rw (kept_again h a) (all_weaker (λ e no. leb-false next e.time no) (drop (length (filter (since next) (kept s h))) (kept s h)) (filtered_rest (since next) (kept s h) (kept_fades h d.1 next)))

  -- and what is left is before the end of the window that was closed
  pub left_early : (h : History V) (a : Unit {0}) → Defined kind telling rule s (close (Ok a) ∷ h) → All (λ e. e.time < window_end s (first h)) (kept s (close (Ok a) ∷ h))
  left_early h a d = all_filtered (λ e. e.time < window_end s (first h)) (λ e. in_pattern s e.kind && since (window_start s (suc (first h))) e) (accepted h) (timely h d.1).before_end
