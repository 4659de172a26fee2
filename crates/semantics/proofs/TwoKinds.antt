-- Two histories of equal calls, each as defined by its own kind: if one kind is carried to the other, so are the answers.
use Rattle.std.proofs.Common.{◌≡◌, ℕ, suc, ◌*◌, cond, List, [], ◌∷◌, reverse, length, Some, None, Ok, Err, Option, Result, sym, refl, ap, ◌∙◌, subst, subst₂, arith}
use Rattle.events.specs.declared.event.Event.{Event}
use Rattle.rules.specs.Rules.{Rule}
use Rattle.weights.specs.Kinds.{Kind}
use Rattle.weights.specs.Maps.{Carries}
use Rattle.semantics.specs.declared.refusal.CallRefusal.{CallRefusal}
use Rattle.semantics.specs.declared.refusal.Taken.{Taken}
use Rattle.semantics.specs.declared.refusal.Taken.TheVariants.{Passed, Kept}
use Rattle.semantics.specs.declared.setup.Setup.{Setup}
use Rattle.semantics.specs.Agreement.{Call, takes, ticks, results, groups, reports, closes, call_of, NamesLifts, AgreeAt, both_take, both_tick, both_result, no_result, both_group, both_report, no_report, both_close, Agrees, SameSize}
use Rattle.semantics.specs.Histories.{Entry, take, tick, result, group, report, close, History, accepted, first, kept, in_pattern, first_no, take_questions, tick_questions, window_questions, close_questions, report_questions}
use Rattle.semantics.specs.Laws.{StandsAlike, KindsAgree}
use Rattle.semantics.specs.Meaning.{Answers, LeastLift, Lifts, Telling, Tells, none, one_more, Right, ReportsIf, Answered}
use Rattle.semantics.specs.Trends.{ResultIs}
use Rattle.semantics.specs.Windows.{window_start}
use Rattle.semantics.proofs.Lifts.{least_lift_unique, lifts_unique}
use Rattle.semantics.proofs.Times.{same_kept}

-- an entry is its call with an answer
abbrev Answer : Type 0 → Call → Type 0
Answer V (takes e) = Result Taken CallRefusal
Answer V (ticks t) = Result (Unit {0}) CallRefusal
Answer V (results k g) = Result V CallRefusal
Answer V (groups k g) = Result (Option ℕ) CallRefusal
Answer V (reports n) = Result (List ℕ) CallRefusal
Answer V closes = Result (Unit {0}) CallRefusal

abbrev entry : {V : Type 0} (c : Call) → Answer V c → Entry V
entry (takes e) a = take e a
entry (ticks t) a = tick t a
entry (results k g) a = result k g a
entry (groups k g) a = group k g a
entry (reports n) a = report n a
entry closes a = close a

answer_of : {V : Type 0} (d : Entry V) → (a : Answer V (call_of d)) × (entry (call_of d) a ≡ d)
answer_of (take e a) = (a, refl)
answer_of (tick t a) = (a, refl)
answer_of (result k g a) = (a, refl)
answer_of (group k g a) = (a, refl)
answer_of (report n a) = (a, refl)
answer_of (close a) = (a, refl)

-- two answers to the same questions are refused alike
module _ {A B : Type 0} (P : A → Type 0) (Q : B → Type 0) (T : Result A CallRefusal → Result B CallRefusal → Type 0) (refused : (r : CallRefusal) → T (Err r) (Err r)) (answered : (x : A) (y : B) → P x → Q y → T (Ok x) (Ok y)) where
  same_question : (o : Option CallRefusal) (a : Result A CallRefusal) (b : Result B CallRefusal) → Answers o a P → Answers o b Q → T a b
  same_question None (Ok x) (Ok y) p q = answered x y p q
  same_question None (Ok x) (Err r) p q = elim q [ ]
  same_question None (Err r) b p q = elim p [ ]
  same_question (Some z) (Ok x) b p q = elim p [ ]
  same_question (Some z) (Err r) (Ok y) p q = elim q [ ]
  same_question (Some z) (Err r) (Err r') p q = subst (λ x. T (Err x) (Err r')) (q ∙ sym p) (refused r')

  both_answer : {o o' : Option CallRefusal} → o ≡ o' → (a : Result A CallRefusal) (b : Result B CallRefusal) → Answers o a P → Answers o' b Q → T a b
  both_answer {o} same a b p q = same_question o a b p (subst (λ x. Answers x b Q) (sym same) q)

-- and where the answer is the only one, answered alike
only_answer : {A : Type 0} (P Q : A → Type 0) (T : Result A CallRefusal → Result A CallRefusal → Type 0) → ((a : Result A CallRefusal) → T a a) → ((x y : A) → P x → Q y → x ≡ y) → {o o' : Option CallRefusal} → o ≡ o' → (a b : Result A CallRefusal) → Answers o a P → Answers o' b Q → T a b
only_answer P Q T alike only = both_answer P Q T (λ r. alike (Err r)) (λ x y p q. subst (λ z. T (Ok x) (Ok z)) (only x y p q) (alike (Ok x)))

-- whatever values are told, their lifts are
names : {V : Type 0} {t : Telling V} {right : ℕ → V → Type 0} {window : ℕ} {ls bs : List ℕ} → Tells t right window ls bs → NamesLifts t window ls bs
names none = none
names (one_more g v r more) = one_more g v tt (names more)

module _ {V W R : Type 0} (s : Setup R) (t : Option (Telling V)) (u : Option (Telling W)) (φ : V → W) where
  step_alike : (h : History V) (i : History W) {d : Entry V} {e : Entry W} → AgreeAt s t u φ h d e → StandsAlike s h i → StandsAlike s (d ∷ h) (e ∷ i)
  step_alike h i (both_take e (Ok a)) st = (ap (λ es. e ∷ es) st.0, refl, st.2)
  step_alike h i (both_take e (Err r)) st = st
  step_alike h i (both_tick time (Ok a)) st = (st.0, refl, st.2)
  step_alike h i (both_tick time (Err r)) st = st
  step_alike h i (both_result k g v) st = st
  step_alike h i (no_result k g r) st = st
  step_alike h i (both_group k g a) st = st
  step_alike h i (both_report n bs cs same) st = st
  step_alike h i (no_report n r) st = st
  step_alike h i (both_close (Ok a)) st = (st.0, st.1, ap suc st.2)
  step_alike h i (both_close (Err r)) st = st

  -- histories that agree stand alike
  pub agree_alike : (h : History V) (i : History W) → Agrees s t u φ h i → StandsAlike s h i
  agree_alike [] [] p = (refl, refl, refl)
  agree_alike [] (e ∷ i) p = elim p [ ]
  agree_alike (d ∷ h) [] p = elim p [ ]
  agree_alike (d ∷ h) (e ∷ i) p = step_alike h i p.0 (agree_alike h i p.1)

module _ {V W R : Type 0} (j : Kind V) (k : Kind W) (rule : Rule R) (s : Setup R) (φ : V → W) (unique : (events : List Event) (w g : ℕ) (x y : W) → ResultIs k rule s w g events x → ResultIs k rule s w g events y → x ≡ y) (carried : (events : List Event) (w g : ℕ) (v : V) → ResultIs j rule s w g events v → ResultIs k rule s w g events (φ v)) (h : History V) (i : History W) (st : StandsAlike s h i) where
  kept_alike : kept s h ≡ kept s i
  kept_alike = same_kept s h i st

  report_agrees : (t : Option (Telling V)) (u : Option (Telling W)) → SameSize t u → (n : ℕ) (a b : Result (List ℕ) CallRefusal)
      → ReportsIf j t rule s t h n a → ReportsIf k u rule s u i n b → AgreeAt s t u φ h (report n a) (report n b)
  report_agrees None u size n a b p q = elim p [ ]
  report_agrees (Some t) None size n a b p q = elim q [ ]
  report_agrees (Some t) (Some u) size n a b p q =
      let same : p.0 ≡ q.0 = lifts_unique p.1 (subst₂ (λ es f. Lifts es (window_start s f) q.0) (sym kept_alike) (sym st.2) q.1) in
      both_answer (Tells t (Right j (Some t) rule s h (first h)) (first h) p.0)
      (Tells u (Right k (Some u) rule s i (first i)) (first i) q.0)
      (λ a b. AgreeAt s (Some t) (Some u) φ h (report n a) (report n b)) (no_report n)
      (λ bs cs p' q'. both_report n bs cs (p.0, p.1, names p', subst₂ (λ f ls. NamesLifts u f ls cs) (sym st.2) (sym same) (names q')))
      (λ x. first_no (report_questions (size x * length (same x)) n)) a b p.2 q.2

  module _ (t : Option (Telling V)) (u : Option (Telling W)) (size : SameSize t u) where
    answers_agree : (c : Call) (a : Answer V c) (b : Answer W c)
        → Answered j t rule s h (entry c a) → Answered k u rule s i (entry c b) → AgreeAt s t u φ h (entry c a) (entry c b)
    answers_agree (takes e) =
        only_answer (λ x. x ≡ cond (in_pattern s e.kind) Kept Passed) (λ x. x ≡ cond (in_pattern s e.kind) Kept Passed)
        (λ a b. AgreeAt s t u φ h (take e a) (take e b)) (both_take e) (λ x y p q. p ∙ sym q)
        (λ x. first_no (take_questions s (st.1 x) (st.2 x) (length (kept_alike x)) e))
    answers_agree (ticks time) =
        only_answer (λ _. Unit {0}) (λ _. Unit {0}) (λ a b. AgreeAt s t u φ h (tick time a) (tick time b)) (both_tick time) (λ x y p q. refl)
        (λ x. first_no (tick_questions s (st.1 x) time))
    answers_agree (results w g) =
        both_answer (Right j t rule s h w g) (Right k u rule s i w g)
        (λ a b. AgreeAt s t u φ h (result w g a) (result w g b)) (no_result w g)
        (λ v v' p q. subst (λ x. AgreeAt s t u φ h (result w g (Ok v)) (result w g (Ok x)))
        (unique (reverse (accepted i)) w g (φ v) v' (subst (λ es. ResultIs k rule s w g (reverse es) (φ v)) st.0 (carried (reverse (accepted h)) w g v p)) q) (both_result w g v))
        (λ x. first_no (window_questions s (st.2 x) w))
    answers_agree (groups w g) =
        only_answer (LeastLift (kept s h) (window_start s w) g) (LeastLift (kept s i) (window_start s w) g)
        (λ a b. AgreeAt s t u φ h (group w g a) (group w g b)) (both_group w g)
        (λ x y p q. least_lift_unique (kept s h) (window_start s w) g x y p (subst (λ es. LeastLift es (window_start s w) g y) (sym kept_alike) q))
        (λ x. first_no (window_questions s (st.2 x) w))
    answers_agree (reports n) = report_agrees t u size n
    answers_agree closes =
        only_answer (λ _. Unit {0}) (λ _. Unit {0}) (λ a b. AgreeAt s t u φ h (close a) (close b)) both_close (λ x y p q. refl)
        (λ x. first_no (close_questions s (st.1 x) (st.2 x)))

    entries_agree : (d : Entry V) (e : Entry W) → call_of d ≡ call_of e → Answered j t rule s h d → Answered k u rule s i e → AgreeAt s t u φ h d e
    entries_agree d e same p q =
        let a = answer_of d in
        let b = subst (λ c. (b : Answer W c) × (entry c b ≡ e)) (sym same) (answer_of e) in
        subst₂ (AgreeAt s t u φ h) a.1 b.1
        (answers_agree (call_of d) a.0 b.0 (subst (Answered j t rule s h) (sym a.1) p) (subst (Answered k u rule s i) (sym b.1) q))

module _ {V W R : Type 0} (j : Kind V) (k : Kind W) (t : Option (Telling V)) (u : Option (Telling W)) (rule : Rule R) (s : Setup R) (φ : V → W) (unique : (events : List Event) (w g : ℕ) (x y : W) → ResultIs k rule s w g events x → ResultIs k rule s w g events y → x ≡ y) (carried : Carries j k φ → (events : List Event) (w g : ℕ) (v : V) → ResultIs j rule s w g events v → ResultIs k rule s w g events (φ v)) where
  pub two_kinds : KindsAgree j k t u rule s φ
  two_kinds c size [] [] p q same = tt
  two_kinds c size [] (e ∷ i) p q same = let z : ◌≡◌ {A = ℕ} 0 1 = cc in omega arith
  two_kinds c size (d ∷ h) [] p q same = let z : ◌≡◌ {A = ℕ} 0 1 = cc in omega arith
  two_kinds c size (d ∷ h) (e ∷ i) p q same =
      let calls : call_of d ≡ call_of e = cc in
      let rest : Agrees s t u φ h i = two_kinds c size h i p.1 q.1 (cc) in
      (entries_agree j k rule s φ unique (carried c) h i (agree_alike s t u φ h i rest) t u size d e calls p.0 q.0, rest)
