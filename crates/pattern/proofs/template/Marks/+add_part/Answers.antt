use Rattle.std.proofs.Common.{reverse, refl, ⊎_elim}
use Rattle.grammar.specs.Trees.{seq, two}
use Rattle.pattern.specs.declared.node.Node.TheVariants.{Name, Plus, Pair, More}
use Rattle.pattern.specs.Nodes.{lengthened, trees}
use Rattle.pattern.proofs.Compiling.{added_last, adds_name, adds_plus, adds_join, paired, longer}
use Rattle.pattern.proofs.template.Marks.+add_part.Goals as goal

pub returns-in-Name-clause-adds : goal.returns-in-Name-clause-adds
returns-in-Name-clause-adds t c =
    added_last c.args.nodes.now c.in_ok-node.before.now c.in_ok-node.node.now (Name c.in-Name.kind) _ _ _ c.in_ok-node.ensures.cases.0 c.in-Name.is
    (adds_name c.in-Name.kind _ _ c.add_type.ensures.types c.add_type.ensures.steps, refl)

pub returns-in_ok-span-in-Plus-clause-adds : goal.returns-in_ok-span-in-Plus-clause-adds
returns-in_ok-span-in-Plus-clause-adds t c =
    added_last c.args.nodes.now c.in_ok-node.before.now c.in_ok-node.node.now Plus _ _ _ c.in_ok-node.ensures.cases.0 c.in-Plus.is
    (adds_plus (trees (reverse c.in_ok-node.before.now)) _ _ _ _ c.in_ok-span-in-Plus.ensures.adds c.add_step.ensures.steps c.add_step.ensures.types)

pub returns-in_ok-left-in-Pair-clause-adds : goal.returns-in_ok-left-in-Pair-clause-adds
returns-in_ok-left-in-Pair-clause-adds t c =
    let ns = c.in_ok-node.before.now in
    let right = c.in_ok-right-in-Pair.ensures.adds in
    let left = c.in_ok-left-in-Pair.ensures.adds in
    let step = c.add_step-in-Pair.ensures in
    ⊎_elim
    (λ is. added_last c.args.nodes.now ns c.in_ok-node.node.now Pair _ _ _ c.in_ok-node.ensures.cases.0 is (adds_join (λ x y. seq (two x y)) paired (trees (reverse ns)) _ _ _ _ _ _ right left step.steps step.types))
    (λ is. added_last c.args.nodes.now ns c.in_ok-node.node.now More _ _ _ c.in_ok-node.ensures.cases.0 is (adds_join lengthened longer (trees (reverse ns)) _ _ _ _ _ _ right left step.steps step.types))
    c.in-Pair.is
