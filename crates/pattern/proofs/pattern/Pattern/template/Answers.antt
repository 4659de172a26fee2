use Rattle.std.proofs.Common.{reverse, subst}
use Rattle.pattern.specs.Compiled.{AddsLast}
use Rattle.pattern.specs.Nodes.{trees}
use Rattle.pattern.specs.Patterns.{tree}
use Rattle.pattern.specs.Stacks.{held}
use Rattle.pattern.proofs.Compiling.{there_is, template_from, decides_words}
use Rattle.pattern.proofs.Held.{pattern_valid}
use Rattle.pattern.proofs.pattern.Pattern.template.Goals as goal

pub returns : goal.returns
returns c =
    let p = c.args.self.now in
    let adds = subst (λ ns. AddsLast (trees (reverse ns)) c.none-marks.result c.add_part.new.self c.add_part.result) c.as_slice.ensures c.add_part.ensures.adds in
    let template = template_from (trees (held p.nodes.items p.nodes.len)) c.none-marks.result c.add_part.new.self c.unwrap.result p.one c.none-marks.ensures.types c.none-marks.ensures.steps (rw c.unwrap.ensures at adds) in
    record { template = template; words = decides_words (tree p) _ (pattern_valid p).once template }
