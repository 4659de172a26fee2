use Rattle.std.proofs.Common.{false, length, subst}
use Rattle.std.proofs.lemmas.List.{take-replicate}
use Rattle.listing.specs.Order.{JoinsAfter}
use Rattle.listing.proofs.Joining.{joins_result}
use Rattle.listing.proofs.scope.Scope.result.Goals as goal

pub returns : goal.returns
returns g c =
    joins_result g.W.Weight.kind g.met.W.Weight.lawful g.R.Follow.rule c.args.self.now.setup.now c.args.self.now.window c.args.self.now.lift c.args.self.now.events.now
    (subst (λ m. JoinsAfter g.R.Follow.rule c.args.self.now.setup.now c.args.self.now.window c.args.self.now.lift c.args.self.now.events.now g.W.Weight.kind m c.join_after.result) (take-replicate (length c.args.self.now.events.now) 16 false c.if-count-gt16.false) c.join_after.ensures)
