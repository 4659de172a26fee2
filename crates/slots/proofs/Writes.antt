-- Slots written window by window, of at most eight in a row, one writing after another, and behind the slots of older events.
use Rattle.std.proofs.Common.{◌≡◌, ℕ, ◌+◌, ◌*◌, ◌-◌, ◌<◌, ◌≤◌, List, ◌++◌, length, get_or, set, sym, ap, ◌∙◌, subst, ⊎_elim, arith}
use Rattle.std.proofs.lemmas.List.{length-set, length-append, get_or-set_same, get_or-set_other, get_or_read, get_or_append_left, get_or-append_right}
use Rattle.std.proofs.lemmas.Bool.{cases_eq, cases_lt}
use Rattle.weights.specs.Kinds.{Kind}
use Rattle.slots.specs.Rows.{slot_index, slot, Written, Rewritten}

-- what is read at a slot
pub read_slot : {V : Type 0} (kind : Kind V) (xs : List V) (place k at : ℕ) (v : V) → at < length xs → v ≡ get_or xs at v → at ≡ slot_index place k → v ≡ slot kind xs place k
read_slot kind xs place k at v lt is here = get_or_read xs at v lt is kind.zero ∙ ap (λ i. get_or xs i kind.zero) here

module _ {V : Type 0} (kind : Kind V) (xs ys : List V) (first end : ℕ) where
  -- one more window, written in its slot
  pub rewritten_more : {gives : ℕ → V → V → Type 0} → Rewritten kind xs ys first end gives → (at : ℕ) (was v : V) → at ≡ slot_index 0 end → first ≤ end → end < first + 8 → 8 ≤ length xs
      → was ≡ get_or ys at was → gives end was v → Rewritten kind xs (set ys at v) first (end + 1) gives
  rewritten_more {gives} h at was v here fk small room is given = record {
    long = length-set ys at v ∙ h.long;
    new = λ j fj jk.
        ⊎_elim
        (λ e. subst (λ i. gives i (slot kind xs 0 i) (slot kind (set ys at v) 0 i)) (sym e)
        (subst (λ w. gives end w (slot kind (set ys at v) 0 end)) (read_slot kind ys 0 end at was (omega (arith, h.long)) is here ∙ h.others (slot_index 0 end) (λ i fi ie e. omega arith))
        (subst (gives end was) (sym (get_or-set_same ys at v kind.zero (omega (arith, h.long))) ∙ ap (λ i. get_or (set ys at v) i kind.zero) here) given)))
        (λ apart. subst (gives j (slot kind xs 0 j)) (sym (get_or-set_other ys at (slot_index 0 j) v kind.zero (λ e. apart (omega arith)))) (h.new j fj (omega arith)))
        (cases_eq j end);
    others = λ i out. get_or-set_other ys at i v kind.zero (λ e. out end fk (omega arith) (e ∙ here)) ∙ h.others i (λ j fj jk. out j fj (omega arith));
  }

  -- written with what gives says
  pub written_by : {gives : ℕ → V → V → Type 0} (f : ℕ → V) → Rewritten kind xs ys first end gives → ((k : ℕ) → first ≤ k → k < end → (v : V) → gives k (slot kind xs 0 k) v → v ≡ f k) → Written kind xs ys 0 first end f
  written_by {gives} f h is = record { long = h.long; new = λ k fk ke. is k fk ke _ (h.new k fk ke); others = h.others }

  module _ (place : ℕ) (f g : ℕ → V) (h : Written kind xs ys place first end f) where
    -- written alike
    pub written_as : ((k : ℕ) → first ≤ k → k < end → f k ≡ g k) → Written kind xs ys place first end g
    written_as same = record { long = h.long; new = λ k fk ke. h.new k fk ke ∙ same k fk ke; others = h.others }

    -- written once more
    pub written_again : (zs : List V) → Written kind ys zs place first end g → Written kind xs zs place first end g
    written_again zs i = record { long = i.long ∙ h.long; new = i.new; others = λ j out. i.others j out ∙ h.others j out }

  -- behind the slots of so many places
  pub written_behind : (front : List V) (place : ℕ) (f : ℕ → V) → length front ≡ 8 * place → Written kind xs ys 0 first end f → Written kind (front ++ xs) (front ++ ys) place first end f
  written_behind front place f long h = record {
    long = omega (arith, h.long, length-append front xs, length-append front ys);
    new = λ k fk ke. slot_behind ys k ∙ h.new k fk ke;
    others = λ i out.
        ⊎_elim
        (λ lt. get_or_append_left front ys kind.zero i lt ∙ sym (get_or_append_left front xs kind.zero i lt))
        (λ le. get_or-append_right front ys (8 * place) i kind.zero long (omega arith) ∙ h.others (i - 8 * place) (λ k fk ke e. out k fk ke (omega arith)) ∙ sym (get_or-append_right front xs (8 * place) i kind.zero long (omega arith)))
        (cases_lt i (length front));
  }
    where
      slot_behind : (zs : List V) (k : ℕ) → slot kind (front ++ zs) place k ≡ slot kind zs 0 k
      slot_behind zs k =
          let same : slot_index place k - 8 * place ≡ slot_index 0 k = omega arith in
          get_or-append_right front zs (8 * place) (slot_index place k) kind.zero long (omega arith) ∙ ap (λ i. get_or zs i kind.zero) same
