use Rattle.std.proofs.Common.{subst}
use Rattle.pattern.specs.Patterns.{tree}
use Rattle.pattern.specs.Writing.{Written}
use Rattle.pattern.proofs.Held.{pattern_valid}
use Rattle.pattern.proofs.RoundTrip.{written_reads}
use Rattle.pattern.proofs.pattern.Pattern.write.Goals as goal

pub returns : goal.returns
returns c =
    let p = c.args.self.now in
    record { text = subst (λ w. Written w c.args.out.now c.copy_to.result c.copy_to.new.out) c.whole.ensures c.copy_to.ensures; reads = written_reads (tree p) (pattern_valid p) }
