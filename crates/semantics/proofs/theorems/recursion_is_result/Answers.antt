use Rattle.std.proofs.Common.{refl}
use Rattle.semantics.specs.Recursion.{shape_of}
use Rattle.semantics.proofs.Results.{recursion_is_result_lem}
use Rattle.semantics.proofs.Shapes.{template_fits}
use Rattle.semantics.proofs.theorems.recursion_is_result.Goals as goal

pub returns : goal.returns
returns g c = (
  refl,
  λ s t decides k. recursion_is_result_lem g.W.Weight.kind g.R.Follow.rule s (shape_of t) k
      g.met.W.Weight.lawful g.met.R.Follow.decides (template_fits s t decides),
)
