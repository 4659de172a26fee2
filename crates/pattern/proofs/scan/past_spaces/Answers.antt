use Rattle.std.proofs.Common.{◌==◌, ap, ◌∙◌, arith}
use Rattle.std.proofs.lemmas.List.{take_rest}
use Rattle.std.specs.List.{prefix_len}
use Rattle.pattern.proofs.Cutting.{count_within, spaces_counted, solid_behind}
use Rattle.pattern.proofs.scan.past_spaces.Goals as goal

pub overflow_add-result : goal.overflow_add-result
overflow_add-result c =
    let found = c.in-Some.ensures.lookup.0 in
    let n = c.leading_spaces.ensures ∙ ap (prefix_len (λ b. b == 32)) (found.2 ∙ take_rest c.args.text.now c.args.from) in
    let within = count_within (λ b. b == 32) c.args.text.now c.args.from c.leading_spaces.result found.0 n in
    omega arith

pub returns-in-Some-clause-cut : goal.returns-in-Some-clause-cut
returns-in-Some-clause-cut c =
    let found = c.in-Some.ensures.lookup.0 in
    spaces_counted c.args.text.now c.args.from c.leading_spaces.result found.0 (c.leading_spaces.ensures ∙ ap (prefix_len (λ b. b == 32)) (found.2 ∙ take_rest c.args.text.now c.args.from))

pub returns-in-Some-clause-stops : goal.returns-in-Some-clause-stops
returns-in-Some-clause-stops c =
    let found = c.in-Some.ensures.lookup.0 in
    solid_behind c.args.text.now c.args.from c.leading_spaces.result found.0 (c.leading_spaces.ensures ∙ ap (prefix_len (λ b. b == 32)) (found.2 ∙ take_rest c.args.text.now c.args.from))
