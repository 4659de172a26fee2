-- Moving on from no choice at all meets every trend, each once.
use Rattle.std.proofs.Common.{◌≡◌, ℕ, zero, suc, ◌<◌, Bool, true, false, List, [], ◌∷◌, map, length, replicate, sym, refl, ap, ◌∙◌, subst, arith}
use native.Mathlib.Decide.{dec_lt}
use Rattle.events.specs.declared.event.Event.{Event}
use Rattle.grammar.specs.Trees.{In, here, there}
use Rattle.rules.specs.Rules.{Rule}
use Rattle.semantics.specs.declared.setup.Setup.{Setup}
use Rattle.semantics.specs.Trends.{chosen, Listing, Trend}
use Rattle.semantics.specs.Recursion.{LeadsBy}
use Rattle.semantics.proofs.Listings.{not_in_none}
use Rattle.semantics.proofs.Shapes.{pattern_shape}
use Rattle.listing.specs.Order.{place, FirstAfter, Visits}
use Rattle.listing.specs.Theorems.{none_chosen, VisitsList}
use Rattle.listing.proofs.Places.{same_place}

place_none : (n : ℕ) → place (replicate n false) ≡ 0
place_none zero = refl
place_none (suc n) = omega (arith, place_none n)

chosen_none : {X : Type 0} (m : List Bool) (xs : List X) → place m ≡ 0 → chosen m xs ≡ []
chosen_none [] xs e = refl
chosen_none (b ∷ m) [] e = refl
chosen_none (true ∷ m) (x ∷ xs) e = absurd (omega arith)
chosen_none (false ∷ m) (x ∷ xs) e = chosen_none m xs (omega arith)

module _ {R : Type 0} (rule : Rule R) (s : Setup R) (k g : ℕ) (events : List Event) where
  -- no word is empty
  trend_place : (m : List Bool) → Trend rule s k g events m → place m ≡ 0 → ⊥
  trend_place m t e =
      subst (LeadsBy (pattern_shape s).0) (ap (map (λ e. e.kind)) (chosen_none m events e)) (((pattern_shape s).1 (map (λ e. e.kind) (chosen m events))).0 t.word)

  visits_above : (from : List Bool) (ts : List (List Bool)) → Visits rule s k g events from ts → Listing (λ m. Trend rule s k g events m × (place from < place m)) ts
  visits_above from [] none = record { only = λ m i. absurd (not_in_none i); each = λ m h. absurd (omega (arith, none m h.0, h.1)); once = tt }
  visits_above from (to ∷ ts) v =
      let l = visits_above to ts v.1 in
      record { only = only l; each = each l; once = (λ i. absurd (omega (arith, (l.only to i).1)), l.once) }
    where
      first : FirstAfter rule s k g events from to
      first = v.0

      only : Listing (λ m. Trend rule s k g events m × (place to < place m)) ts → (m : List Bool) → In m (to ∷ ts) → Trend rule s k g events m × (place from < place m)
      only l m here = (first.trend, first.above)
      only l m (there i) = let h = l.only m i in (h.0, omega (arith, h.1, first.above))

      each : Listing (λ m. Trend rule s k g events m × (place to < place m)) ts → (m : List Bool) → Trend rule s k g events m × (place from < place m) → In m (to ∷ ts)
      each l m h = elim (dec_lt (place to) (place m)) [
        | yes above ↦ there (l.each m (h.0, above))
        | no not ↦ subst (λ x. In x (to ∷ ts)) (same_place to m (first.trend.for_each ∙ sym h.0.for_each) (omega (arith, first.least m h.0 h.1))) here
      ]

pub visits_list : {R : Type 0} (rule : Rule R) → VisitsList rule
visits_list rule s k g events ts v =
    let l = visits_above rule s k g events (none_chosen events) ts v in
    record {
      only = λ m i. (l.only m i).0;
      each = λ m t. l.each m (t, above m t);
      once = l.once;
    }
  where
    above : (m : List Bool) → Trend rule s k g events m → place (none_chosen events) < place m
    above m t = elim (dec_lt (place (none_chosen events)) (place m)) [ yes h ↦ h | no h ↦ absurd (trend_place rule s k g events m t (omega (arith, place_none (length events)))) ]
