use Rattle.std.proofs.Common.{refl}
use Rattle.pattern.proofs.Cutting.{none_left}
use Rattle.pattern.proofs.scan.Tokens.next.Goals as goal

pub returns-then-place-text : goal.returns-then-place-text
returns-then-place-text c = record { text = refl; next = (c.past_spaces-place.ensures.cut _ (none_left _ _ c.if-place-text.true), refl) }
