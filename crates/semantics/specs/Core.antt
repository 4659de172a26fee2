-- The recursion for any tests of what starts, ends, lies inside and may come next: it knows nothing of windows, lifts or words.
-- With tests that always say yes it joins the weights of all choices of one or more events.
use Rattle.std.specs.Prelude.{◌≡◌, Bool, true, false, cond, ◌&&◌, List, [], ◌∷◌, length}
use Rattle.events.specs.declared.event.Event.{Event}
use Rattle.weights.specs.Kinds.{Kind}
use Rattle.semantics.specs.Recursion.{Valued}
pub use Rattle.semantics.specs.Recursion.{gathered}
use Rattle.semantics.specs.Trends.{chosen}

-- of events in the order taken: from p on each may come next, and the last may end
abbrev pub goes_on : (Event → Bool) → (Event → Event → Bool) → Event → List Event → Bool
goes_on ends may p [] = ends p
goes_on ends may p (e ∷ es) = may e p && goes_on ends may e es

abbrev pub goes : (Event → Bool) → (Event → Bool) → (Event → Event → Bool) → List Event → Bool
goes starts ends may [] = false
goes starts ends may (e ∷ es) = starts e && goes_on ends may e es

-- one where a trend may start, else zero
abbrev pub start_value : {V : Type 0} → Kind V → (Event → Bool) → Event → V
start_value kind starts e = cond (starts e) kind.one kind.zero

-- each event inside has the value of the recursion over those that it may come after; the others may hold anything
abbrev pub FilledBy : {V : Type 0} → Kind V → (Event → Bool) → (Event → Event → Bool) → (Event → Bool) → List (Valued V) → Type 0
FilledBy kind starts may inside [] = Unit {0}
FilledBy kind starts may inside (p ∷ ps) =
    (inside p.event ≡ true → p.value ≡ kind.chain (kind.join (start_value kind starts p.event) (gathered kind (may p.event) ps)) (kind.weigh p.event))
    × FilledBy kind starts may inside ps

-- the marks, one for each event, choose events that start, go on and end well
abbrev pub GoesBy : (Event → Bool) → (Event → Bool) → (Event → Event → Bool) → List Event → List Bool → Type 0
GoesBy starts ends may events marks = (length marks ≡ length events) × (goes starts ends may (chosen marks events) ≡ true)
