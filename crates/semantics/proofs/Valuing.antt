-- The recursion over predecessors, for any tests of what starts, ends and may come next, comes to the join over all choices.
-- Choices from the row are the newest first; each is turned round to be weighed.
use Rattle.std.proofs.Common.{◌≡◌, Bool, true, false, cond, ◌&&◌, List, [], ◌∷◌, map, reverse, length, sym, refl, ap, ◌∙◌, ap₂}
use mathlib.Core.List.{reverse_aux}
use Rattle.events.specs.declared.event.Event.{Event}
use Rattle.weights.specs.Kinds.{Kind, Laws}
use Rattle.semantics.specs.Core.{gathered, goes_on, goes, start_value, FilledBy}
use Rattle.semantics.specs.Recursion.{Valued, events_of}
use Rattle.semantics.specs.Trends.{chosen, weight, joined}
use Rattle.semantics.proofs.Flags.{flags}
use Rattle.semantics.proofs.Sums.{sums, sum_of_flags, sums_reverse, sums_cond, sums_chain, sums_same}

module _ {V : Type 0} (kind : Kind V) (starts : Event → Bool) (may : Event → Event → Bool) where
  -- what chosen events, the newest first, weigh if the newest passes and the others lead to it; none come to v
  abbrev led : V → (Event → Bool) → List Event → V
  led v test [] = v
  led v test (p ∷ c) = cond (test p) (kind.chain (led (start_value kind starts p) (may p) c) (kind.weigh p)) kind.zero

  -- each event inside has the join over all choices that lead to it
  abbrev Summed : (Event → Bool) → List (Valued V) → Type 0
  Summed inside [] = Unit {0}
  Summed inside (p ∷ ps) =
      (inside p.event ≡ true → p.value ≡ kind.chain (sums kind (led (start_value kind starts p.event) (may p.event)) (events_of ps)) (kind.weigh p.event))
      × Summed inside ps

  -- what the events weigh if they start, go on and end well, else zero
  abbrev weighed : (Event → Bool) → List Event → V
  weighed ends c = cond (goes starts ends may c) (weight kind c) kind.zero

  module _ (laws : Laws kind) where
    cut_first : (b t : Bool) (u : V) → cond (b && t) u kind.zero ≡ kind.chain (cond b kind.one kind.zero) (cond t u kind.zero)
    cut_first true t u = sym (laws.chaining.identity_left (cond t u kind.zero))
    cut_first false t u = sym (laws.annihilating.zero_left (cond t u kind.zero))

    cut_next : (b t : Bool) (a w u : V) → kind.chain a (cond (b && t) (kind.chain w u) kind.zero) ≡ kind.chain (cond b (kind.chain a w) kind.zero) (cond t u kind.zero)
    cut_next true true a w u = sym (laws.chaining.assoc a w u)
    cut_next true false a w u = laws.annihilating.zero_right a ∙ sym (laws.annihilating.zero_right (kind.chain a w))
    cut_next false t a w u = laws.annihilating.zero_right a ∙ sym (laws.annihilating.zero_left (cond t u kind.zero))

    cut_last : (b : Bool) (a w : V) → kind.chain a (cond b (kind.chain w kind.one) kind.zero) ≡ cond b (kind.chain a w) kind.zero
    cut_last true a w = ap (kind.chain a) (laws.chaining.identity_right w)
    cut_last false a w = laws.annihilating.zero_right a

    -- cut before e, which comes after c and before es
    cut : (ends : Event → Bool) (c : List Event) (e : Event) (es : List Event)
        → weighed ends (reverse_aux c (e ∷ es)) ≡ kind.chain (led (start_value kind starts e) (may e) c) (cond (goes_on ends may e es) (weight kind (e ∷ es)) kind.zero)
    cut ends [] e es = cut_first (starts e) (goes_on ends may e es) (weight kind (e ∷ es))
    cut ends (p ∷ c) e es = cut ends c p (e ∷ es) ∙ cut_next (may e p) (goes_on ends may e es) (led (start_value kind starts p) (may p) c) (kind.weigh p) (weight kind (e ∷ es))

    led_weighs : (ends : Event → Bool) (c : List Event) → weighed ends (reverse c) ≡ led kind.zero ends c
    led_weighs ends [] = refl
    led_weighs ends (e ∷ c) = cut ends c e [] ∙ cut_last (ends e) (led (start_value kind starts e) (may e) c) (kind.weigh e)

    regroup : (b : Bool) (u w v g : V) → (b ≡ true → w ≡ u) → kind.join (cond b u kind.zero) (kind.join v g) ≡ kind.join v (cond b (kind.join w g) g)
    regroup true u w v g e =
        let assoc = laws.joining.monoid.assoc in
        sym (assoc u v g) ∙ ap (λ x. kind.join x g) (laws.joining.comm u v) ∙ assoc v u g ∙ ap (λ x. kind.join v (kind.join x g)) (sym (e refl))
    regroup false u w v g e = laws.joining.monoid.identity_left (kind.join v g)

    module _ (inside : Event → Bool) where
      gather : (v : V) (test : Event → Bool) → ((e : Event) → test e ≡ true → inside e ≡ true) → (ps : List (Valued V)) → Summed inside ps
          → sums kind (led v test) (events_of ps) ≡ kind.join v (gathered kind test ps)
      gather v test within [] h = sym (laws.joining.monoid.identity_right v)
      gather v test within (p ∷ ps) h =
          let e = p.event in
          let lead = led (start_value kind starts e) (may e) in
          ap₂ kind.join
          (sums_cond kind laws.joining (test e) (λ c. kind.chain (lead c) (kind.weigh e)) (events_of ps)
          ∙ ap (λ u. cond (test e) u kind.zero) (sums_chain kind laws lead (kind.weigh e) (events_of ps)))
          (gather v test within ps h.1)
          ∙ regroup (test e) (kind.chain (sums kind lead (events_of ps)) (kind.weigh e)) p.value v (gathered kind test ps) (λ t. h.0 (within e t))

      module _ (may_within : (e p : Event) → may e p ≡ true → inside p ≡ true) where
        filled_summed : (ps : List (Valued V)) → FilledBy kind starts may inside ps → Summed inside ps
        filled_summed [] f = tt
        filled_summed (p ∷ ps) f =
            let rest = filled_summed ps f.1 in
            let e = p.event in
            (λ i. f.0 i ∙ ap (λ v. kind.chain v (kind.weigh e)) (sym (gather (start_value kind starts e) (may e) (may_within e) ps rest)), rest)

        -- what is gathered at the end is the join over all lists of flags that choose well, of what they choose
        pub gathered_is_join : (ends : Event → Bool) → ((e : Event) → ends e ≡ true → inside e ≡ true) → (ps : List (Valued V)) → FilledBy kind starts may inside ps
            → let events = reverse (events_of ps) in
            gathered kind ends ps ≡ joined kind (map (λ m. weight kind (chosen m events)) (flags (length events) (λ m. goes starts ends may (chosen m events))))
        gathered_is_join ends within ps f =
            sym (laws.joining.monoid.identity_left (gathered kind ends ps))
            ∙ sym (gather kind.zero ends within ps (filled_summed ps f))
            ∙ sym (sums_same kind (λ c. weighed ends (reverse c)) (led kind.zero ends) (led_weighs ends) (events_of ps))
            ∙ sym (sums_reverse kind laws.joining (weighed ends) (events_of ps))
            ∙ sym (sum_of_flags kind laws.joining (goes starts ends may) (weight kind) (reverse (events_of ps)))
