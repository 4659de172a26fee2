-- Choices in counting order, and the trends met on the way.
-- The first flag counts 1, the second 2, the third 4: so of three events the first alone has place 1, and all three place 7.
use Rattle.std.specs.Prelude.{◌≡◌, ℕ, ◌+◌, ◌*◌, ◌<◌, ◌≤◌, Bool, true, false, cond, List, [], ◌∷◌, map, length}
use Rattle.events.specs.declared.event.Event.{Event}
use Rattle.rules.specs.Rules.{Rule}
use Rattle.semantics.specs.declared.setup.Setup.{Setup}
use Rattle.semantics.specs.Trends.{chosen, Trend, weight, joined}
use Rattle.weights.specs.Kinds.{Kind}

abbrev pub place : List Bool → ℕ
place [] = 0
place (b ∷ m) = cond b 1 0 + 2 * place m

-- a flag for each event, and few enough events
abbrev pub Fitting : List Event → List Bool → Type 0
Fitting events marks = (length marks ≡ length events) × (length events ≤ 16)

module _ {R : Type 0} (rule : Rule R) (s : Setup R) (k g : ℕ) (events : List Event) where
  -- of the trends above from, to is the least
  pub record FirstAfter (from to : List Bool) : Type 0 where
    pub trend : Trend rule s k g events to
    pub above : place from < place to
    pub least : (m : List Bool) → Trend rule s k g events m → place from < place m → place to ≤ place m

  -- no trend is above
  abbrev pub NoneAfter : List Bool → Type 0
  NoneAfter from = (m : List Bool) → Trend rule s k g events m → place m ≤ place from

  -- the move from these marks, whether there is one, and the marks after it
  abbrev pub NextTrend : List Bool → Bool → List Bool → Type 0
  NextTrend from true to = FirstAfter from to
  NextTrend from false to = NoneAfter from × (to ≡ from)

  -- these are the marks met by moving on until no trend is above
  abbrev pub Visits : List Bool → List (List Bool) → Type 0
  Visits from [] = NoneAfter from
  Visits from (to ∷ ts) = FirstAfter from to × Visits to ts

  -- v is the join of the weights of the trends so met
  abbrev pub JoinsAfter : {V : Type 0} → Kind V → List Bool → V → Type 0
  JoinsAfter kind from v = (ts : List (List Bool)) × Visits from ts × (v ≡ joined kind (map (λ m. weight kind (chosen m events)) ts))
