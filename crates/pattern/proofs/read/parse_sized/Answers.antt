use Rattle.std.proofs.Common.{◌≡◌, length, sym, ◌∙◌, ⊎_elim, arith}
use Rattle.std.proofs.lemmas.Bool.{eqb-true}
use Rattle.pattern.specs.Reading.{bad_length}
use Rattle.pattern.proofs.read.parse_sized.Goals as goal

pub returns-then-is_empty : goal.returns-then-is_empty
returns-then-is_empty c =
    bad_length (λ some few. ⊎_elim (λ e. let none : length c.args.text.now ≡ 0 = eqb-true _ 0 (sym c.is_empty.ensures ∙ e) in omega arith) (λ far. omega arith) c.then-is_empty.either)
