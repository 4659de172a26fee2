use Rattle.std.proofs.Common.{rules}
use Rattle.semantics.specs.Recursion.{shape_of}
use Rattle.slots.proofs.Filling.{filled}
use Rattle.slots.proofs.fill.fill_slots.Goals as goal

pub returns : goal.returns
returns g c =
    let parts = c.split_at_mut-before in
    filled g.W.Weight.kind g.R.Follow.rule c.args.setup.now (shape_of c.args.template.now) parts.result.0.now c.args.older.now c.args.event c.args.windows.first c.args.windows.end
    c.args.slots.now parts.result.1.now c.gather.new.own c.write_first.new.slots c.start_value-start.result c.weigh-weight.result
    parts.ensures.value parts.ensures.front_len c.start_value-start.ensures c.weigh-weight.ensures c.gather.ensures c.write_first.ensures (λ k u v given. search rules)
