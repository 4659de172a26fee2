-- The least of the lifts that are found is the least lift.
use Rattle.std.proofs.Common.{◌≡◌, ℕ, ◌≤◌, ◌<◌, ◌&&◌, Bool, true, false, ◌⊎◌, List, [], ◌∷◌, nat_le, min, map, filter, Option, Some, None, refl, sym, ◌∙◌, inl, inr, ⊎_elim, arith}
use Rattle.std.proofs.lemmas.Bool.{cond_both, cases_lt, leb-true, le-leb, and_parts, and_from, both_ways}
use Rattle.std.specs.List.{fold, reduce}
use Rattle.events.specs.declared.event.Event.{Event}
use Rattle.grammar.specs.Trees.{here, there}
use Rattle.semantics.specs.Meaning.{Present, LeastLift}

module _ (from g : ℕ) where
  abbrev pub found : Event → Bool
  found e = nat_le g e.lift && nat_le from e.time

  -- the least of x and the lifts found
  abbrev least_from : ℕ → List Event → ℕ
  least_from x es = fold min x (map (λ e. e.lift) es)

  abbrev NoneBelow : List Event → ℕ → Type 0
  NoneBelow es l = (m : ℕ) → g ≤ m → m < l → Present es from m → ⊥

  module _ (e : Event) (es : List Event) where
    newer : (m : ℕ) → Present es from m → Present (e ∷ es) from m
    newer m p = (p.0, there p.1, p.2, p.3)

    either : (m : ℕ) → Present (e ∷ es) from m → ((e.lift ≡ m) × (from ≤ e.time)) ⊎ Present es from m
    either m (d, here, l, t) = inl (l, t)
    either m (d, there i, l, t) = inr (d, i, l, t)

    in_it : found e ≡ true → (g ≤ e.lift) × (from ≤ e.time)
    in_it h = let t = and_parts (nat_le g e.lift) (nat_le from e.time) h in (leb-true g e.lift t.0, leb-true from e.time t.1)

    past_it : found e ≡ false → (m : ℕ) → g ≤ m → Present (e ∷ es) from m → Present es from m
    past_it out m gm p =
        ⊎_elim (λ q. absurd (both_ways (found e) out (and_from (nat_le g e.lift) (nat_le from e.time) (le-leb g e.lift (omega (arith, q.0))) (le-leb from e.time q.1)))) (λ q. q) (either m p)

    none_more : (l : ℕ) → l ≤ e.lift → NoneBelow es l → NoneBelow (e ∷ es) l
    none_more l small none m gm lt p = ⊎_elim (λ q. omega (arith, q.0)) (none m gm lt) (either m p)

  min_is : (a b : ℕ) → (min a b ≡ a) ⊎ (min a b ≡ b)
  min_is a b = ⊎_elim (λ h. inl (omega arith)) (λ h. inr (omega arith)) (cases_lt a b)

  fold_least : (es : List Event) (x : ℕ) → let l = least_from x (filter found es) in (l ≤ x) × ((l ≡ x) ⊎ ((g ≤ l) × Present es from l)) × NoneBelow es l
  fold_least [] x = (omega arith, inl refl, λ m gm lt p. elim p.1 [ ])
  fold_least (e ∷ es) x =
      cond_both (found e) (e ∷ filter found es) (filter found es) (λ ds. let l = least_from x ds in (l ≤ x) × ((l ≡ x) ⊎ ((g ≤ l) × Present (e ∷ es) from l)) × NoneBelow (e ∷ es) l)
      (λ is.
      let h = fold_least es (min x e.lift) in
      let t = in_it e es is in (
        omega (arith, h.0),
        ⊎_elim (λ same. ⊎_elim (λ it. inl (same ∙ it)) (λ it. inr (omega (arith, same, it, t.0), (e, here, sym (same ∙ it), t.1))) (min_is x e.lift)) (λ q. inr (q.0, newer e es _ q.1)) h.1,
        none_more e es _ (omega (arith, h.0)) h.2,
      ))
      (λ out. let h = fold_least es x in (h.0, ⊎_elim inl (λ q. inr (q.0, newer e es _ q.1)) h.1, λ m gm lt p. h.2 m gm lt (past_it e es out m gm p)))

  pub least_is : (es : List Event) → LeastLift es from g (reduce min (map (λ e. e.lift) (filter found es)))
  least_is [] = λ l h p. elim p.1 [ ]
  least_is (e ∷ es) =
      cond_both (found e) (e ∷ filter found es) (filter found es) (λ ds. LeastLift (e ∷ es) from g (reduce min (map (λ d. d.lift) ds)))
      (λ is.
      let h = fold_least es e.lift in
      let t = in_it e es is in
      let least : (g ≤ least_from e.lift (filter found es)) × Present (e ∷ es) from (least_from e.lift (filter found es)) = ⊎_elim (λ same. (omega (arith, same, t.0), (e, here, sym same, t.1))) (λ q. (q.0, newer e es _ q.1)) h.1 in
      (least.0, least.1, none_more e es _ h.0 h.2))
      (λ out.
      let keep : (r : Option ℕ) → LeastLift es from g r → LeastLift (e ∷ es) from g r = λ r. elim r as (λ o. LeastLift es from g o → LeastLift (e ∷ es) from g o) [
        | None ↦ λ h l gl p. h l gl (past_it e es out l gl p)
        | Some l ↦ λ h. (h.0, newer e es l h.1, λ m gm lt p. h.2 m gm lt (past_it e es out m gm p))
      ] in
      keep _ (least_is es))
