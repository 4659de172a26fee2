-- Trends and what they weigh. A trend is a choice among the accepted events, marked by a flag for each of them.
-- Falling levels 50, 40, 45 under BATT+ have five trends: each reading alone, 50 40, and 50 45.
use Rattle.std.specs.Prelude.{◌≡◌, ℕ, ◌<◌, Bool, List, [], ◌∷◌, map, length}
use Rattle.std.specs.List.{AllByRecursion, items_where_true}
use Rattle.events.specs.declared.event.Event.{Event}
use Rattle.grammar.specs.Trees.{In, Distinct}
use Rattle.grammar.specs.Words.{Word}
use Rattle.pattern.specs.Patterns.{tree}
use Rattle.rules.specs.Rules.{Rule}
use Rattle.weights.specs.Kinds.{Kind}
use Rattle.semantics.specs.declared.setup.Setup.{Setup}
use Rattle.semantics.specs.Windows.{InWindow}

-- the chosen ones, in their order
abbrev pub chosen : {X : Type 0} → List Bool → List X → List X
chosen = items_where_true

-- P holds of each element, as pairs
abbrev pub All : {X : Type 0} → (X → Type 0) → List X → Type 0
All = AllByRecursion

-- each but the first has this relation to the one before
abbrev pub Adjacent : {X : Type 0} → (X → X → Type 0) → List X → Type 0
Adjacent R [] = Unit {0}
Adjacent R (x ∷ []) = Unit {0}
Adjacent R (x ∷ y ∷ xs) = R x y × Adjacent R (y ∷ xs)

-- the list has just what satisfies P, each once
pub record Listing {X : Type 0} (P : X → Type 0) (xs : List X) : Type 0 where
  pub only : (x : X) → In x xs → P x
  pub each : (x : X) → P x → In x xs
  pub once : Distinct xs

module _ {R : Type 0} (rule : Rule R) (s : Setup R) where
  -- the later event may come right after the earlier one
  pub record Follows (earlier later : Event) : Type 0 where
    pub later_in_time : earlier.time < later.time
    pub by_rule : rule.meaning s.rule earlier later

  -- of window k and lift g
  abbrev pub Belongs : ℕ → ℕ → Event → Type 0
  Belongs k g e = (e.lift ≡ g) × InWindow s k e.time

  -- the marks choose a trend of window k and lift g among the events, which are in the order taken
  pub record Trend (k g : ℕ) (events : List Event) (marks : List Bool) : Type 0 where
    pub for_each : length marks ≡ length events
    pub belong : All (Belongs k g) (chosen marks events)
    pub word : Word (tree s.pattern) (map (λ e. e.kind) (chosen marks events))
    pub follow : Adjacent Follows (chosen marks events)

module _ {V : Type 0} (kind : Kind V) where
  -- the chain of the events' weights in order
  abbrev pub weight : List Event → V
  weight [] = kind.one
  weight (e ∷ es) = kind.chain (kind.weigh e) (weight es)

  abbrev pub joined : List V → V
  joined [] = kind.zero
  joined (v ∷ vs) = kind.join v (joined vs)

-- nobody who lists the trends comes to another value than v, and they can be listed
pub record ResultIs {V R : Type 0} (kind : Kind V) (rule : Rule R) (s : Setup R) (k g : ℕ) (events : List Event) (v : V) : Type 0 where
  pub listed : (ts : List (List Bool)) × Listing (Trend rule s k g events) ts
  pub all_join : (ts : List (List Bool)) → Listing (Trend rule s k g events) ts → v ≡ joined kind (map (λ marks. weight kind (chosen marks events)) ts)
