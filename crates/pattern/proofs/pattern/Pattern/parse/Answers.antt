use Rattle.pattern.proofs.Acceptance.{exactly}
use Rattle.pattern.proofs.OneOutcome.{one_outcome}
use Rattle.pattern.proofs.pattern.Pattern.parse.Goals as goal

pub returns : goal.returns
returns c = record {
  reads = c.parse_sized.ensures;
  only = λ o r. one_outcome c.args.text.now o _ r c.parse_sized.ensures;
  accepts = exactly c.args.text.now _ c.parse_sized.ensures;
}
