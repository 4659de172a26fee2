-- Joining the weights of the trends on the way, one by one.
use Rattle.std.proofs.Common.{◌≡◌, ℕ, Bool, List, [], ◌∷◌, sym, refl, ap, ◌∙◌, subst, ap₂}
use Rattle.events.specs.declared.event.Event.{Event}
use Rattle.rules.specs.Rules.{Rule}
use Rattle.weights.specs.Kinds.{Kind, Laws}
use Rattle.semantics.proofs.Results.{listed_result}
use Rattle.semantics.specs.declared.setup.Setup.{Setup}
use Rattle.semantics.specs.Trends.{chosen, weight, ResultIs}
use Rattle.listing.specs.Order.{FirstAfter, NoneAfter, JoinsAfter}
use Rattle.listing.specs.Theorems.{none_chosen}
use Rattle.listing.proofs.Visiting.{visits_list}

module _ {V R : Type 0} (kind : Kind V) (laws : Laws kind) (rule : Rule R) (s : Setup R) (k g : ℕ) (events : List Event) where
  -- all, joined with what is met from these marks on, is what is met from the start
  abbrev Owes : (start from : List Bool) → V → Type 0
  Owes start from all = (v : V) → JoinsAfter rule s k g events kind from v → JoinsAfter rule s k g events kind start (kind.join all v)

  pub one_joined : (start from to : List Bool) {all more w : V} → Owes start from all → FirstAfter rule s k g events from to → w ≡ weight kind (chosen to events) → more ≡ kind.join all w → Owes start to more
  one_joined start from to {all} {more} {w} owes f e sum v j =
      subst (JoinsAfter rule s k g events kind start) (sym (ap (λ a. kind.join a v) sum ∙ laws.joining.monoid.assoc all w v))
      (owes (kind.join w v) (to ∷ j.0, (f, j.1), ap₂ kind.join e j.2))

  pub all_joined : (start from : List Bool) {all : V} → Owes start from all → NoneAfter rule s k g events from → JoinsAfter rule s k g events kind start all
  all_joined start from {all} owes none =
      subst (JoinsAfter rule s k g events kind start) (laws.joining.monoid.identity_right all) (owes kind.zero ([], none, refl))

  -- and from no choice at all, it is the result
  pub joins_result : {v : V} → JoinsAfter rule s k g events kind (none_chosen events) v → ResultIs kind rule s k g events v
  joins_result j = subst (ResultIs kind rule s k g events) (sym j.2) (listed_result kind rule s k g events laws j.0 (visits_list rule s k g events j.0 j.1))
