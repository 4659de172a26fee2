-- There is one result; the recursion comes to it; a lawful map carries it.
use Rattle.std.proofs.Common.{◌≡◌, ℕ, Bool, eqb, List, [], ◌∷◌, map, reverse, length, sym, ap, ◌∙◌, subst, ap₂}
use Rattle.std.proofs.lemmas.Bool.{and_parts}
use Rattle.events.specs.declared.event.Event.{Event}
use Rattle.rules.specs.Rules.{Rule, Decided}
use Rattle.weights.specs.Kinds.{Kind, Laws}
use Rattle.weights.specs.Maps.{Carries}
use Rattle.semantics.specs.declared.setup.Setup.{Setup}
use Rattle.semantics.specs.Recursion.{Shape, Valued, FitsPattern, Filled, total, events_of}
use Rattle.semantics.specs.Theorems.{OneResult, CoreIsGeneral, JoinLawsSuffice}
use Rattle.semantics.specs.Trends.{chosen, Listing, Trend, weight, joined, ResultIs}
use Rattle.semantics.proofs.Flags.{flags, flags_listed}
use Rattle.semantics.proofs.Listings.{same_join}
use Rattle.semantics.proofs.Shapes.{pattern_shape}
use Rattle.semantics.proofs.Testing.{within, within_decides, first, last, next, trends_flagged, trends_listed}
use Rattle.semantics.specs.Core.{goes, FilledBy}
use Rattle.semantics.proofs.Valuing.{gathered_is_join}

pub result_unique : {V R : Type 0} {kind : Kind V} {rule : Rule R} {s : Setup R} {k g : ℕ} {events : List Event} {v w : V} → ResultIs kind rule s k g events v → ResultIs kind rule s k g events w → v ≡ w
result_unique p q = let l = p.listed in p.all_join l.0 l.1 ∙ sym (q.all_join l.0 l.1)

-- what one listing comes to is the result
pub listed_result : {V R : Type 0} (kind : Kind V) (rule : Rule R) (s : Setup R) (k g : ℕ) (events : List Event) → Laws kind
    → (ts : List (List Bool)) → Listing (Trend rule s k g events) ts → ResultIs kind rule s k g events (joined kind (map (λ m. weight kind (chosen m events)) ts))
listed_result kind rule s k g events laws ts l = record {
  listed = (ts, l);
  all_join = λ us m. same_join kind laws.joining (λ m. weight kind (chosen m events)) ts us l m;
}

pub one_result_lem : {V R : Type 0} (kind : Kind V) (rule : Rule R) → Laws kind → Decided rule → OneResult kind rule
one_result_lem kind rule laws decided s k g events =
    let (shape, fits) = pattern_shape s in
    let (ts, l) = trends_listed rule s shape decided fits k g events in
    let r = listed_result kind rule s k g events laws ts l in
    (joined kind (map (λ m. weight kind (chosen m events)) ts), r, λ w q. result_unique q r)

module _ {V R : Type 0} (kind : Kind V) (rule : Rule R) (s : Setup R) (shape : Shape) (k : ℕ) where
  filled_by : (ps : List (Valued V)) → Filled kind rule s shape k ps → FilledBy kind (first rule s shape k) (next rule s shape k) (within rule s shape k) ps
  filled_by [] f = tt
  filled_by (p ∷ ps) f =
      (λ t. f.0 ((within_decides rule s shape k p.event).0 t), filled_by ps f.1)

  -- the recursion over predecessors comes to the result
  pub recursion_is_result_lem : Laws kind → Decided rule → FitsPattern s shape → (g : ℕ) (row : List (Valued V)) → Filled kind rule s shape k row → ResultIs kind rule s k g (reverse (events_of row)) (total kind rule s shape k g row)
  recursion_is_result_lem laws decided fits g row f =
      subst (ResultIs kind rule s k g events) (sym same) (listed_result kind rule s k g events laws _ (trends_flagged rule s shape k decided g fits events))
    where
      events : List Event
      events = reverse (events_of row)

      same : total kind rule s shape k g row ≡ joined kind (map (λ m. weight kind (chosen m events)) (flags (length events) (λ m. goes (first rule s shape k) (last rule s shape k g) (next rule s shape k) (chosen m events))))
      same =
          gathered_is_join kind (first rule s shape k) (next rule s shape k) laws (within rule s shape k)
          (λ e p t. (and_parts (within rule s shape k p) _ (and_parts (eqb p.lift e.lift) _ t).1).0)
          (last rule s shape k g)
          (λ e t. (and_parts (within rule s shape k e) _ (and_parts (eqb e.lift g) _ t).1).0)
          row (filled_by row f)

module _ {V W : Type 0} (j : Kind V) (k : Kind W) (φ : V → W) (c : Carries j k φ) where
  carried_weight : (es : List Event) → φ (weight j es) ≡ weight k es
  carried_weight [] = c.one
  carried_weight (e ∷ es) = c.chain (j.weigh e) (weight j es) ∙ ap₂ k.chain (c.weigh e) (carried_weight es)

  carried_join : {X : Type 0} (f : X → V) (g : X → W) → ((x : X) → φ (f x) ≡ g x) → (xs : List X) → φ (joined j (map f xs)) ≡ joined k (map g xs)
  carried_join f g same [] = c.zero
  carried_join f g same (x ∷ xs) = c.join (f x) (joined j (map f xs)) ∙ ap₂ k.join (same x) (carried_join f g same xs)

  -- the result by the first kind is carried to that by the second
  pub results_carried_lem : {R : Type 0} {rule : Rule R} {s : Setup R} {w g : ℕ} {events : List Event} {v : V} → ResultIs j rule s w g events v → ResultIs k rule s w g events (φ v)
  results_carried_lem {events = events} r = record {
    listed = r.listed;
    all_join = λ ts l. ap φ (r.all_join ts l) ∙ carried_join (λ m. weight j (chosen m events)) (λ m. weight k (chosen m events)) (λ m. carried_weight (chosen m events)) ts;
  }

pub core_is_general_lem : {V : Type 0} (kind : Kind V) → CoreIsGeneral kind
core_is_general_lem kind laws starts ends inside may from within row filled ts listed =
    let events = reverse (events_of row) in
    gathered_is_join kind starts may laws inside from ends within row filled
    ∙ same_join kind laws.joining (λ marks. weight kind (chosen marks events)) _ ts (flags_listed (length events) (λ m. goes starts ends may (chosen m events)) (λ m. (λ p. p, λ p. p))) listed

pub join_laws_suffice : {V : Type 0} (kind : Kind V) → JoinLawsSuffice kind
join_laws_suffice kind laws test value ts us l m = same_join kind laws value ts us l m
