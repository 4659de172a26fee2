-- One answer for each input, if a record that stands there is the only one and leaves no question with the answer no.
use Rattle.std.proofs.Common.{◌≡◌, ℕ, ◌⊎◌, List, [], ◌∷◌, Ok, Err, sym, refl, ◌∙◌, inl, inr}
use Rattle.records.specs.declared.refusal.ReadRefusal.{ReadRefusal}
use Rattle.records.specs.declared.refusal.ReadRefusal.TheVariants.{End, Mark, Short, Kind, Rule}
use Rattle.reading.specs.Reading.{Questions, FirstNo, Answer, Reads, Exact}
use Rattle.reading.specs.Theorems.{SameAnswer}

-- every question is answered yes
pub record Yes (q : Questions) : Type 0 where
  pub two : q.two
  pub mark : q.mark
  pub whole : q.whole
  pub kind : q.kind
  pub rule : q.rule

none_no : (q : Questions) (r : ReadRefusal) → Yes q → FirstNo q r → ⊥
none_no q End y h = h y.two
none_no q Mark y h = h.1 y.mark
none_no q Short y h = h.2 y.whole
none_no q Kind y h = h.3 y.kind
none_no q Rule y h = h.4 y.rule

-- the walk over questions and their refusals to the first no
Walk : List (ReadRefusal × Type 0) → ReadRefusal → Type 0
Walk [] r = ⊥
Walk (q ∷ qs) r = ((r ≡ q.0) × (q.1 → ⊥)) ⊎ (q.1 × Walk qs r)

in_order : Questions → List (ReadRefusal × Type 0)
in_order q = (End, q.two) ∷ (Mark, q.mark) ∷ (Short, q.whole) ∷ (Kind, q.kind) ∷ (Rule, q.rule) ∷ []

walk : (q : Questions) (r : ReadRefusal) → FirstNo q r → Walk (in_order q) r
unfolding Walk in_order
walk q End h = inl (refl, h)
walk q Mark h = inr (h.0, inl (refl, h.1))
walk q Short h = inr (h.0, inr (h.1, inl (refl, h.2)))
walk q Kind h = inr (h.0, inr (h.1, inr (h.2, inl (refl, h.3))))
walk q Rule h = inr (h.0, inr (h.1, inr (h.2, inr (h.3, inl (refl, h.4)))))

one_walk : (qs : List (ReadRefusal × Type 0)) (a b : ReadRefusal) → Walk qs a → Walk qs b → a ≡ b
unfolding Walk
one_walk [] a b v w = absurd v
one_walk (q ∷ qs) a b (inl v) (inl w) = v.0 ∙ sym w.0
one_walk (q ∷ qs) a b (inl v) (inr w) = absurd (v.1 w.0)
one_walk (q ∷ qs) a b (inr v) (inl w) = absurd (w.1 v.0)
one_walk (q ∷ qs) a b (inr v) (inr w) = one_walk qs a b v.1 w.1

module _ {X : Type 0} (Same : X → X → Type 0) (At : X → List ℕ → Type 0) (q : Questions)
    (same : (x y : X) (r s : List ℕ) → At x r → At y s → Same x y × (r ≡ s))
    (yes_all : (x : X) (r : List ℕ) → At x r → Yes q) where
  pub exact : (place : ℕ) (a : Answer X) → Reads At q place a → Exact Same At a
  exact place (Ok a) h x rest k = same a.0 x a.1.now rest h k
  exact place (Err f) h x rest k = none_no q f.refusal (yes_all x rest k) h.1

  pub one_answer : (place : ℕ) (a b : Answer X) → Reads At q place a → Reads At q place b → SameAnswer Same a b
  one_answer place (Ok a) b h k = exact place b k a.0 a.1.now h
  one_answer place (Err f) (Ok b) h k = exact place (Err f) h b.0 b.1.now k
  one_answer place (Err f) (Err g) h k =
      let r = one_walk (in_order q) f.refusal g.refusal (walk q f.refusal h.1) (walk q g.refusal k.1) in
      let p = h.0 ∙ sym k.0 in
      λ i. record { refusal = r i; place = p i }
