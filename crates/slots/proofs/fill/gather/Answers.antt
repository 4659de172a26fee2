use Rattle.std.proofs.Common.{rules, arith}
use Rattle.semantics.specs.Recursion.{shape_of}
use Rattle.slots.proofs.Filling.{gained_joined, gained_passed}
use Rattle.slots.proofs.Writes.{written_by}
use Rattle.slots.proofs.fill.gather.Goals as goal
use Rattle.slots.proofs.fill.gather.Goals.{then-may_precede, else-may_precede}

pub loop-i-init : goal.loop-i-init
loop-i-init g c =
    written_by g.W.Weight.kind c.args.own.now c.write_first.new.slots c.args.windows.first c.args.windows.end _ c.write_first.ensures (λ k fk ke v given. search rules)

pub loop-i-preserved : goal.loop-i-preserved
loop-i-preserved g c =
    let kind = g.W.Weight.kind in
    let rule = g.R.Follow.rule in
    let s = c.args.setup.now in
    let shape = shape_of c.args.template.now in
    let slots = c.args.slots.now in
    let older = c.args.older.now in
    let e = c.args.event in
    let first = c.args.windows.first in
    let end = c.args.windows.end in
    let own = c.args.own.now in
    let i = c.loop-i.i-counter in
    let p = c.index-older-i.result in
    elim c.if-may_precede.branch [
      | then-may_precede w ↦
          gained_joined kind rule s shape slots older e first end c.requires.early i p (omega arith) c.index-older-i.is own c.loop-i.own _ c.loop-i.invariant
          w.write_first-then-may_precede.new.slots w.own-is w.if-may_precede.ensures w.write_first-then-may_precede.ensures (λ k u v given. search rules)
      | else-may_precede w ↦
          gained_passed kind rule s shape slots older e first end c.requires.early i p (omega arith) c.index-older-i.is own c.loop-i.own _ c.loop-i.invariant w.own-is w.if-may_precede.ensures
    ]
