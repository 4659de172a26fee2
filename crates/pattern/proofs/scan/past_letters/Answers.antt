use Rattle.std.proofs.Common.{ap, ◌∙◌, arith}
use Rattle.std.proofs.lemmas.List.{take_rest}
use Rattle.std.specs.Char.{is_ascii_uppercase}
use Rattle.std.specs.List.{prefix_len}
use Rattle.pattern.proofs.Cutting.{count_within, letters_counted, other_behind}
use Rattle.pattern.proofs.scan.past_letters.Goals as goal

pub overflow_add-result : goal.overflow_add-result
overflow_add-result c =
    let n = c.leading_letters.ensures ∙ ap (prefix_len is_ascii_uppercase) (take_rest c.args.text.now c.args.from) in
    let within = count_within is_ascii_uppercase c.args.text.now c.args.from c.leading_letters.result c.requires n in
    omega arith

pub returns : goal.returns
returns c =
    let text = c.args.text.now in
    let n = c.leading_letters.ensures ∙ ap (prefix_len is_ascii_uppercase) (take_rest text c.args.from) in
    record {
      ahead = omega arith;
      within = count_within is_ascii_uppercase text c.args.from c.leading_letters.result c.requires n;
      letters = letters_counted text c.args.from c.leading_letters.result c.requires n;
      stops = other_behind text c.args.from c.leading_letters.result c.requires n;
    }
