-- Moving on from no choice at all meets every trend, each once, and their weights join to the result.
use Rattle.std.specs.Prelude.{ℕ, Bool, false, List, length, replicate}
use Rattle.events.specs.declared.event.Event.{Event}
use Rattle.rules.specs.Rules.{Rule}
use Rattle.semantics.specs.declared.setup.Setup.{Setup}
use Rattle.semantics.specs.Trends.{Listing, Trend, ResultIs}
use Rattle.weights.specs.Kinds.{Kind}
use Rattle.listing.specs.Order.{Visits, JoinsAfter}

-- for each event the flag that does not choose it
abbrev pub none_chosen : List Event → List Bool
none_chosen events = replicate (length events) false

abbrev pub VisitsList : {R : Type 0} → Rule R → Type 0
VisitsList {R} rule =
    (s : Setup R) (k g : ℕ) (events : List Event) (ts : List (List Bool))
    → Visits rule s k g events (none_chosen events) ts → Listing (Trend rule s k g events) ts

abbrev pub JoinsResult : {V R : Type 0} → Kind V → Rule R → Type 0
JoinsResult {V} {R} kind rule =
    (s : Setup R) (k g : ℕ) (events : List Event) (v : V) → JoinsAfter rule s k g events kind (none_chosen events) v → ResultIs kind rule s k g events v
