use Rattle.std.proofs.Common.{arith}
use Rattle.pattern.proofs.Scanning.{names_same}
use Rattle.pattern.proofs.parser.Parser.name.Goals as goal

pub returns-then-contains : goal.returns-then-contains
returns-then-contains c =
    let known = names_same c.args.kind _ _ _ _ c.as_slice.ensures c.contains.ensures.value c.if-contains.true in
    record { grown = omega arith; verdict = simp known }

pub returns : goal.returns
returns c =
    let known = names_same c.args.kind _ _ _ _ c.as_slice.ensures c.contains.ensures.value c.if-contains.false in
    record { grown = omega (arith, c.push.ensures.len); verdict = simp (known, c.push.ensures.items) }
