use Rattle.std.proofs.Common.{◌≡◌, Bool, true, false, List, [], ◌∷◌, fold, filter, sym, ap, ◌∙◌, rules}
use Rattle.std.proofs.lemmas.Iterator.{YieldsList-from_slice, YieldsList-from_zip}
use Rattle.std.proofs.lemmas.Iterator.Consumers.{YieldsList-from_filter, fold_from_yields_List}
use Rattle.std.specs.List.{zip}
use Rattle.events.specs.declared.event.Event.{Event}
use Rattle.semantics.specs.Trends.{chosen, weight}
use Rattle.weights.specs.Kinds.{Kind, Monoid}
use Rattle.listing.proofs.weighing.weight_of.Goals as goal

-- the chain of a and the weights of the chosen events
chained : {V : Type 0} (kind : Kind V) → Monoid kind.one kind.chain → (events : List Event) (marks : List Bool) (a : V)
    → fold (λ all (pair : Event × Bool). kind.chain all (kind.weigh pair.0)) a (filter (λ pair. pair.1) (zip events marks)) ≡ kind.chain a (weight kind (chosen marks events))
chained kind monoid [] [] a = sym (monoid.identity_right a)
chained kind monoid [] (b ∷ marks) a = sym (monoid.identity_right a)
chained kind monoid (e ∷ events) [] a = sym (monoid.identity_right a)
chained kind monoid (e ∷ events) (true ∷ marks) a = chained kind monoid events marks (kind.chain a (kind.weigh e)) ∙ monoid.assoc a (kind.weigh e) (weight kind (chosen marks events))
chained kind monoid (e ∷ events) (false ∷ marks) a = chained kind monoid events marks a

pub returns : goal.returns
returns g c =
    let kind = g.W.Weight.kind in
    let monoid = g.met.W.Weight.lawful.chaining in
    fold_from_yields_List _ (λ all (pair : Event × Bool). kind.chain all (kind.weigh pair.0)) c.one.result c.fold.result c.fold.ensures.ran
    (YieldsList-from_filter _ (λ (pair : Event × Bool). pair.1) (YieldsList-from_zip (YieldsList-from_slice c.args.events.now (cc)) (YieldsList-from_slice c.args.marks.now (cc))) c.filter.ensures.closure (λ x b q k. search rules))
    (λ a x b q k. search rules)
    ∙ chained kind monoid c.args.events.now c.args.marks.now c.one.result
    ∙ ap (λ one. kind.chain one (weight kind (chosen c.args.marks.now c.args.events.now))) c.one.ensures
    ∙ monoid.identity_left (weight kind (chosen c.args.marks.now c.args.events.now))
