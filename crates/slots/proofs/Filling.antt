-- How a new event's slots are filled: predecessors by one test for all windows and then the window's start, and the steps of the loop.
use Rattle.std.proofs.Common.{◌≡◌, ℕ, zero, suc, ◌+◌, ◌*◌, ◌<◌, ◌≤◌, Bool, true, false, cond, ◌&&◌, eqb, ltb, leb, List, [], ◌∷◌, ◌++◌, reverse, length, get_or, take, sym, refl, ap, ◌∙◌, subst, ap₂, arith}
use Rattle.std.proofs.lemmas.List.{length-reverse, get_or_append_left}
use Rattle.std.proofs.lemmas.Bool.{false≢true, lt-ltb, ltb-true}
use Rattle.events.specs.declared.event.Event.{Event}
use Rattle.grammar.specs.Trees.{In, here, there}
use Rattle.rules.specs.Rules.{Rule}
use Rattle.weights.specs.Kinds.{Kind}
use Rattle.semantics.specs.declared.setup.Setup.{Setup}
use Rattle.semantics.specs.Recursion.{Shape, precedes, before, value_of}
use Rattle.semantics.specs.Windows.{window_start, window_end}
use Rattle.semantics.proofs.Starts.{ends_never_fall}
use Rattle.slots.specs.Rows.{slot_index, slot, row, Written, Rewritten, joined_slot, may_come_before}
use Rattle.slots.proofs.Rows.{row_more}
use Rattle.slots.proofs.Writes.{written_as, written_again, written_by, written_behind}

regroup : (a b c t d : Bool) → (t ≡ true → c ≡ true) → (a && ((b && c) && (t && d))) ≡ ((a && (t && d)) && b)
regroup false b c t d h = refl
regroup true false c false d h = refl
regroup true false c true false h = refl
regroup true false c true true h = refl
regroup true true false false d h = refl
regroup true true true false d h = refl
regroup true true false true d h = absurd (false≢true (h refl))
regroup true true true true false h = refl
regroup true true true true true h = refl

-- where p is before the end of an earlier window if it is before e, it precedes e in those that have begun
precedes_begun : {V R : Type 0} (kind : Kind V) (rule : Rule R) (s : Setup R) (shape : Shape) (first k : ℕ) (e p : Event) → first ≤ k → (p.time < e.time → p.time < window_end s first)
    → precedes kind rule s shape k e p ≡ (may_come_before rule s shape e p && leb (window_start s k) p.time)
precedes_begun kind rule s shape first k e p fk early =
    regroup (eqb p.lift e.lift) (leb (window_start s k) p.time) (ltb p.time (window_end s k)) (ltb p.time e.time) _
    (λ sooner. lt-ltb p.time (window_end s k) (omega (arith, early (ltb-true p.time e.time sooner), ends_never_fall s first k fk)))

in_getD : {X : Type 0} (xs : List X) (i : ℕ) (d : X) → i < length xs → In (get_or xs i d) xs
in_getD [] i d lt = absurd (omega arith)
in_getD (x ∷ xs) zero d lt = here
in_getD (x ∷ xs) (suc i) d lt = there (in_getD xs i d (omega arith))

-- a row looks at the places of its events alone
pub row_same : {V : Type 0} (kind : Kind V) (xs ys : List V) (k : ℕ) (es : List Event) → ((i : ℕ) → i < length es → slot kind xs i k ≡ slot kind ys i k) → row kind xs k es ≡ row kind ys k es
row_same kind xs ys k [] same = refl
row_same kind xs ys k (e ∷ es) same = ap₂ (λ v ps. record { event = e; value = v } ∷ ps) (same (length es) (omega arith)) (row_same kind xs ys k es (λ i lt. same i (omega arith)))

module _ {V R : Type 0} (kind : Kind V) (rule : Rule R) (s : Setup R) (shape : Shape) (slots : List V) (older : List Event) (e : Event) (first end : ℕ) where
  -- what the first n events come to
  abbrev pub gained : ℕ → ℕ → V
  gained n k = before kind rule s shape k e (row kind slots k (reverse (take n older)))

  module _ (early : (p : Event) → In p older → p.time < e.time → p.time < window_end s first) (i : ℕ) (p : Event) (lt : i < length older) (is : p ≡ get_or older i p) where
    gained_more : (k : ℕ) → first ≤ k → gained (i + 1) k ≡ cond (may_come_before rule s shape e p && leb (window_start s k) p.time) (kind.join (slot kind slots i k) (gained i k)) (gained i k)
    gained_more k fk =
        ap (before kind rule s shape k e) (row_more kind slots k older i p lt is)
        ∙ ap (λ t. cond t (kind.join (slot kind slots i k) (gained i k)) (gained i k)) (precedes_begun kind rule s shape first k e p fk (early p (subst (λ x. In x older) (sym is) (in_getD older i p lt))))

    module _ (own now then : List V) (h : Written kind own now 0 first end (gained i)) where
      pub gained_joined : {gives : ℕ → V → V → Type 0} (last : List V) → then ≡ last → true ≡ may_come_before rule s shape e p → Rewritten kind now last first end gives
          → ((k : ℕ) (u v : V) → gives k u v → v ≡ joined_slot kind s slots i p.time k u) → Written kind own then 0 first end (gained (i + 1))
      gained_joined {gives} last same may r is =
          subst (λ zs. Written kind own zs 0 first end (gained (i + 1))) (sym same)
          (written_again kind own now first end 0 (gained i) (gained (i + 1)) h last
          (written_by kind now last first end (gained (i + 1)) r
          (λ k fk ke v given.
          is k _ v given
          ∙ ap (λ u. cond (leb (window_start s k) p.time) (kind.join (slot kind slots i k) u) u) (h.new k fk ke)
          ∙ ap (λ t. cond (t && leb (window_start s k) p.time) (kind.join (slot kind slots i k) (gained i k)) (gained i k)) may
          ∙ sym (gained_more k fk))))

      pub gained_passed : then ≡ now → false ≡ may_come_before rule s shape e p → Written kind own then 0 first end (gained (i + 1))
      gained_passed same never =
          subst (λ zs. Written kind own zs 0 first end (gained (i + 1))) (sym same)
          (written_as kind own now first end 0 (gained i) (gained (i + 1)) h
          (λ k fk ke. ap (λ t. cond (t && leb (window_start s k) p.time) (kind.join (slot kind slots i k) (gained i k)) (gained i k)) never ∙ sym (gained_more k fk)))

  -- gathered and chained, behind the slots of the older events
  pub filled : {gives : ℕ → V → V → Type 0} (all own gathered final : List V) (start weight : V) → all ≡ slots ++ own → length slots ≡ 8 * length older → start ≡ cond (shape.starts e.kind) kind.one kind.zero → weight ≡ kind.weigh e
      → Written kind own gathered 0 first end (λ k. before kind rule s shape k e (row kind slots k (reverse older)))
      → Rewritten kind gathered final first end gives → ((k : ℕ) (u v : V) → gives k u v → v ≡ kind.chain (kind.join start u) weight)
      → Written kind all (slots ++ final) (length older) first end (λ k. value_of kind rule s shape k e (row kind all k (reverse older)))
  filled {gives} all own gathered final start weight parts long begins weighs b r is =
      subst (λ xs. Written kind xs (slots ++ final) (length older) first end (λ k. value_of kind rule s shape k e (row kind xs k (reverse older)))) (sym parts)
      (written_behind kind own final first end slots (length older) _ long
      (written_again kind own gathered first end 0 _ _ b final
      (written_by kind gathered final first end _ r
      (λ k fk ke v given.
      is k _ v given
      ∙ ap₂ (λ a w. kind.chain (kind.join a (slot kind gathered 0 k)) w) begins weighs
      ∙ ap (λ u. kind.chain (kind.join (cond (shape.starts e.kind) kind.one kind.zero) u) (kind.weigh e))
      (b.new k fk ke
      ∙ ap (before kind rule s shape k e) (row_same kind slots (slots ++ own) k (reverse older) (λ i lt. sym (get_or_append_left slots own kind.zero (slot_index i k) (omega (arith, length-reverse older))))))))))
