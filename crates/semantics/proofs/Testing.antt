-- Whether marks choose a trend can be tested, so the trends can be listed.
use Rattle.std.proofs.Common.{◌≡◌, ℕ, ◌<◌, Bool, true, ◌&&◌, eqb, ltb, leb, ◌↔◌, List, [], ◌∷◌, map, length, Decides, sym, ◌∙◌}
use mathlib.Core.Bool.{false≢true}
use Rattle.std.proofs.lemmas.Bool.{eqb-true, eq-eqb, leb-true, le-leb}
use Rattle.std.proofs.lemmas.Bool.Decides.{Decides-and, Decides-ltb, Decides-like}
use Rattle.events.specs.declared.event.Event.{Event}
use Rattle.rules.specs.Rules.{Rule, Decided}
use Rattle.semantics.specs.declared.setup.Setup.{Setup}
use Rattle.semantics.specs.Recursion.{Shape, OnwardBy, LeadsBy, FitsPattern}
use Rattle.semantics.specs.Trends.{chosen, All, Adjacent, Listing, Follows, Belongs, Trend}
use Rattle.semantics.specs.Windows.{window_start, window_end, InWindow}
use Rattle.semantics.proofs.Flags.{flags, flags_listed}
use Rattle.semantics.specs.Core.{goes_on, goes}

module _ {R : Type 0} (rule : Rule R) (s : Setup R) (shape : Shape) (k : ℕ) where
  abbrev pub within : Event → Bool
  within e = leb (window_start s k) e.time && ltb e.time (window_end s k)

  abbrev pub first : Event → Bool
  first e = shape.starts e.kind

  abbrev pub last : ℕ → Event → Bool
  last g e = eqb e.lift g && (within e && shape.ends e.kind)

  -- the later of two, and the earlier
  abbrev pub next : Event → Event → Bool
  next e p = eqb p.lift e.lift && (within p && (ltb p.time e.time && (shape.steps p.kind e.kind && rule.says s.rule p e)))

  pub within_decides : (e : Event) → Decides (within e) (InWindow s k e.time)
  within_decides e =
      Decides-and (leb (window_start s k) e.time) (ltb e.time (window_end s k))
      (leb-true (window_start s k) e.time, le-leb (window_start s k) e.time) (Decides-ltb e.time (window_end s k))

  module _ (decided : Decided rule) where
    next_decides : (e p : Event) → Decides (next e p) ((p.lift ≡ e.lift) × (InWindow s k p.time × ((p.time < e.time) × ((shape.steps p.kind e.kind ≡ true) × rule.meaning s.rule p e))))
    next_decides e p =
        Decides-and (eqb p.lift e.lift) _ (eqb-true p.lift e.lift, eq-eqb p.lift e.lift)
        (Decides-and (within p) _ (within_decides p)
        (Decides-and (ltb p.time e.time) _ (Decides-ltb p.time e.time)
        (Decides-and (shape.steps p.kind e.kind) _ (λ t. t, λ t. t) (decided s.rule p e))))

    module _ (g : ℕ) where
      on_decides : (p : Event) (es : List Event)
          → Decides (goes_on (last g) next p es) (All (Belongs rule s k g) (p ∷ es) × OnwardBy shape p.kind (map (λ e. e.kind) es) × Adjacent (Follows rule s) (p ∷ es))
      on_decides p [] =
          Decides-like (last g p) (λ h. (((h.0, h.1.0), tt), h.1.1, tt)) (λ h. (h.0.0.0, (h.0.0.1, h.1)))
          (Decides-and (eqb p.lift g) _ (eqb-true p.lift g, eq-eqb p.lift g) (Decides-and (within p) _ (within_decides p) (λ t. t, λ t. t)))
      on_decides p (e ∷ es) =
          Decides-like (goes_on (last g) next p (e ∷ es))
          (λ h. (((h.0.0 ∙ h.1.0.0.0, h.0.1.0), h.1.0), (h.0.1.1.1.0, h.1.1), (record { later_in_time = h.0.1.1.0; by_rule = h.0.1.1.1.1 }, h.1.2)))
          (λ h. ((h.0.0.0 ∙ sym h.0.1.0.0, (h.0.0.1, (h.2.0.later_in_time, (h.1.0, h.2.0.by_rule)))), (h.0.1, h.1.1, h.2.1)))
          (Decides-and (next e p) (goes_on (last g) next e es) (next_decides e p) (on_decides e es))

      goes_decides : (es : List Event)
          → Decides (goes first (last g) next es) (All (Belongs rule s k g) es × LeadsBy shape (map (λ e. e.kind) es) × Adjacent (Follows rule s) es)
      goes_decides [] = (λ t. absurd (false≢true t), λ h. absurd h.1)
      goes_decides (e ∷ es) =
          Decides-like (goes first (last g) next (e ∷ es)) (λ h. (h.1.0, (h.0, h.1.1), h.1.2)) (λ h. (h.1.0, (h.0, h.1.1, h.2)))
          (Decides-and (first e) (goes_on (last g) next e es) (λ t. t, λ t. t) (on_decides e es))

      -- a flag for each event, by which the chosen ones pass the test: that is a trend
      pub trend_tested : FitsPattern s shape → (events : List Event) (m : List Bool) → ((length m ≡ length events) × (goes first (last g) next (chosen m events) ≡ true)) ↔ Trend rule s k g events m
      trend_tested fits events m =
          let test = goes_decides (chosen m events) in
          let word = fits (map (λ e. e.kind) (chosen m events)) in (
            λ p. let h = test.0 p.1 in record { for_each = p.0; belong = h.0; word = word.1 h.1; follow = h.2 },
            λ t. (t.for_each, test.1 (t.belong, word.0 t.word, t.follow)),
          )

      -- the trends, as those that pass the test among all lists of flags
      pub trends_flagged : FitsPattern s shape → (events : List Event) → Listing (Trend rule s k g events) (flags (length events) (λ m. goes first (last g) next (chosen m events)))
      trends_flagged fits events = flags_listed (length events) (λ m. goes first (last g) next (chosen m events)) (trend_tested fits events)

-- the trends of any events can be listed
pub trends_listed : {R : Type 0} (rule : Rule R) (s : Setup R) (shape : Shape) → Decided rule → FitsPattern s shape → (k g : ℕ) (events : List Event) → (ts : List (List Bool)) × Listing (Trend rule s k g events) ts
trends_listed rule s shape decided fits k g events =
    (flags (length events) (λ m. goes (first rule s shape k) (last rule s shape k g) (next rule s shape k) (chosen m events)), trends_flagged rule s shape k decided g fits events)
