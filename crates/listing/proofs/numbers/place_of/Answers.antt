use Rattle.std.proofs.Common.{◌∷◌, ◌++◌, ap, sym, ◌∙◌, arith}
use Rattle.listing.proofs.Places.{one_more_done}
use Rattle.listing.proofs.numbers.place_of.Goals as goal

pub overflow_mul-place : goal.overflow_mul-place
overflow_mul-place c =
    let (done, is, at) = c.loop-mark.invariant.2 in
    let m = one_more_done _ done c.in-Some.field-0.now c.args.marks.now c.requires (ap (λ l. l ++ done) (sym c.in-Some.ensures.steps) ∙ is) in
    omega (arith, at, m.1, m.2)

pub overflow_add-place : goal.overflow_add-place
overflow_add-place c =
    let (done, is, at) = c.loop-mark.invariant.2 in
    let m = one_more_done _ done c.in-Some.field-0.now c.args.marks.now c.requires (ap (λ l. l ++ done) (sym c.in-Some.ensures.steps) ∙ is) in
    omega (arith, at, c.from.ensures, m.1, m.2)
