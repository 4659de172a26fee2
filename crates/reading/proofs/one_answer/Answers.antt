use Rattle.std.proofs.Common.{◌≡◌, refl}
use Rattle.reading.specs.Reading.{SameHeader}
use Rattle.reading.proofs.Instances.{header_same, header_yes, input_same, input_yes, output_same, output_yes}
use Rattle.reading.proofs.Unique.{one_answer}
use Rattle.reading.proofs.one_answer.Goals as goal

pub returns : goal.returns
returns c = (
  refl,
  (
    λ bs. one_answer SameHeader _ _ (header_same bs) (header_yes bs),
    λ bs. one_answer ◌≡◌ _ _ (input_same bs) (input_yes bs),
    λ bs. one_answer ◌≡◌ _ _ (output_same bs) (output_yes bs),
  ),
)
