use Rattle.std.proofs.Common.{rules, sym, ◌∙◌, subst}
use borrow.Author.Tests.{tests}
use Rattle.std.proofs.lemmas.Iterator.{YieldsList-from_slice, YieldsList-from_map}
use Rattle.std.proofs.lemmas.Iterator.Consumers.{min_from_yields_List, YieldsList-from_filter, YieldsList-at}
use Rattle.std.proofs.lemmas.Iterator.Adapters.{option_map_id}
use Rattle.semantics.specs.Meaning.{LeastLift}
use Rattle.slots.proofs.Lifts.{found, least_is}
use Rattle.slots.proofs.scan.least_lift.Goals as goal

pub returns : goal.returns
returns c =
    let is =
    min_from_yields_List {v = λ x. x} c.map.result c.min.result c.min.ensures.ran
    (YieldsList-from_map _ (λ e. e.lift)
    (YieldsList-at c.map.ensures.source
    (YieldsList-from_filter _ (found c.args.from c.args.lift) (YieldsList-from_slice c.args.events.now cc) c.filter.ensures.closure (λ x r q k. (search (rules, tests), search (rules, tests)))))
    c.map.ensures.closure (λ x r q k. search (rules, tests)))
    in subst (LeastLift c.args.events.now c.args.from c.args.lift) (sym is ∙ option_map_id c.min.result) (least_is c.args.from c.args.lift c.args.events.now)
