use Rattle.std.proofs.Common.{get_or, arith}
use Rattle.pattern.proofs.Cutting.{word_first, single_first, sign_first, unknown_single, run_some}
use Rattle.pattern.specs.Reading.{Letter}
use Rattle.pattern.proofs.scan.token_at.Goals as goal

pub returns-in-40 : goal.returns-in-40
returns-in-40 c = record { first = sign_first c.args.text.now c.args.place 40 c.requires.inside (omega arith) (λ h. omega arith) c.requires.solid; letters = tt }

pub returns-in-41 : goal.returns-in-41
returns-in-41 c = record { first = sign_first c.args.text.now c.args.place 41 c.requires.inside (omega arith) (λ h. omega arith) c.requires.solid; letters = tt }

pub returns-in-44 : goal.returns-in-44
returns-in-44 c = record { first = sign_first c.args.text.now c.args.place 44 c.requires.inside (omega arith) (λ h. omega arith) c.requires.solid; letters = tt }

pub returns-in-43 : goal.returns-in-43
returns-in-43 c = record { first = sign_first c.args.text.now c.args.place 43 c.requires.inside (omega arith) (λ h. omega arith) c.requires.solid; letters = tt }

pub returns-in-65-to-90 : goal.returns-in-65-to-90
returns-in-65-to-90 c =
    let run = c.past_letters-end.ensures in
    let one : Letter (get_or c.args.text.now c.args.place 0) = omega arith in
    let on = run_some c.args.text.now c.args.place c.past_letters-end.result c.requires.inside one run.ahead run.stops in
    record { first = word_first c.args.text.now c.args.place c.past_letters-end.result on run.within run.letters run.stops; letters = run.letters }

pub returns-in_default : goal.returns-in_default
returns-in_default c = record { first = single_first c.args.text.now c.args.place c.requires.inside (λ h. omega arith) c.requires.solid; other = λ h. omega arith; unknown = unknown_single _ (λ h. omega arith) (λ h. omega arith) (λ h. omega arith) (λ h. omega arith) }
