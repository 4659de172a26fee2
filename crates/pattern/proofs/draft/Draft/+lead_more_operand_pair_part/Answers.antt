-- Each way puts its tokens before what the calls on it put.
use Rattle.std.proofs.Common.{ℕ, List, ◌∷◌, reverse, sym, refl, arith}
use Rattle.grammar.specs.Texts.{tokens}
use Rattle.grammar.specs.Trees.{part, Tree, seq, two}
use Rattle.pattern.specs.declared.draft.Draft.{Draft}
use Rattle.pattern.specs.declared.node.Node.TheVariants.{Name, Plus, Pair, More}
use Rattle.pattern.specs.Drafts.{PutsLast, leading, unclosed}
use Rattle.pattern.specs.Nodes.{lengthened, trees}
use Rattle.pattern.proofs.Drafting.{ended_by, no_node, plus_puts, lead_puts, close_puts, join_puts, plain_operand, enclosed_operand, closed_more, joined_more, lead_other}
use Rattle.pattern.proofs.draft.Draft.+lead_more_operand_pair_part.Goals as goal
use Rattle.pattern.proofs.draft.Draft.+lead_more_operand_pair_part.Goals.{more-After-put}

pub lead-returns : goal.lead-returns
lead-returns t c = record {
  fewer = c.part-before.ensures.fewer;
  puts = lead_puts (trees (reverse c.args.nodes.now)) _ c.args.self.now c.part-before.ensures.puts c.put.ensures c.put-2.ensures;
}

-- a SEQ that goes on, whatever it ends with
module _ (t : ℕ) (c : more-After-put t) where
  goes_on : (us : List (Tree part)) (e : Draft) → PutsLast unclosed (trees (reverse c.part-seq.result.now)) c.put.new.self us e → PutsLast unclosed (trees (More ∷ reverse c.args.nodes.now)) c.args.self.now us e
  goes_on us e h = join_puts lengthened unclosed joined_more (trees (reverse c.args.nodes.now)) (trees (reverse c.part-seq.result.now)) us c.args.self.now e c.part-seq.ensures.puts c.put.ensures h

pub more-returns-in-Pair : goal.more-returns-in-Pair
more-returns-in-Pair t c = record {
  fewer = omega (arith, c.part-seq.ensures.fewer, c.pair.ensures.fewer, c.in-Some.ensures.cases.1);
  puts = goes_on t (goal.at.more-returns-in-Pair t c).After-put _ _ (ended_by unclosed c.part-seq.result.now _ _ _ c.in-Some.before.now c.in-Some.node.now Pair c.in-Some.ensures.cases.0 c.in-Pair.is c.pair.ensures.puts);
}

pub more-returns-in-More : goal.more-returns-in-More
more-returns-in-More t c = record {
  fewer = omega (arith, c.part-seq.ensures.fewer, c.more.ensures.fewer, c.in-Some.ensures.cases.1);
  puts = goes_on t (goal.at.more-returns-in-More t c).After-put _ _ (ended_by unclosed c.part-seq.result.now _ _ _ c.in-Some.before.now c.in-Some.node.now More c.in-Some.ensures.cases.0 c.in-More.is c.more.ensures.puts);
}

pub more-returns-in-Name : goal.more-returns-in-Name
more-returns-in-Name t c = record {
  fewer = omega (arith, c.part-seq.ensures.fewer, c.lead.ensures.fewer);
  puts = goes_on t (goal.at.more-returns-in-Name t c).After-put _ _ (lead_other _ _ _ c.part-seq.result.now c.in-Some.before.now c.in-Some.node.now c.in-Some.ensures.cases.0 c.in-Name.is c.lead.ensures.puts);
}

pub operand-returns-then-not-ends_in_plus : goal.operand-returns-then-not-ends_in_plus
operand-returns-then-not-ends_in_plus t c = record {
  fewer = c.part.ensures.fewer;
  puts = plain_operand (reverse c.args.nodes.now) _ c.args.self.now _ (sym c.if-not-ends_in_plus.ensures) c.part.ensures.puts;
}

pub operand-returns : goal.operand-returns
operand-returns t c = record {
  fewer = c.part-before.ensures.fewer;
  puts = enclosed_operand (reverse c.args.nodes.now) _ (sym c.if-not-ends_in_plus.ensures) c.put.ensures c.part-before.ensures.puts c.put-2.ensures;
}

pub pair-returns : goal.pair-returns
pair-returns t c = record {
  fewer = omega (arith, c.lead.ensures.fewer, c.part-first.ensures.fewer);
  puts = join_puts (λ a b. seq (two a b)) leading (λ a b. refl) (trees (reverse c.args.nodes.now)) (trees (reverse c.part-first.result.now)) _ c.args.self.now _ c.part-first.ensures.puts c.put.ensures c.lead.ensures.puts;
}

pub part-returns-in-Plus : goal.part-returns-in-Plus
part-returns-in-Plus t c = record {
  fewer = omega (arith, c.operand.ensures.fewer, c.in-Some.ensures.cases.1);
  puts = ended_by tokens c.args.nodes.now _ _ _ c.in-Some.before.now c.in-Some.node.now Plus c.in-Some.ensures.cases.0 c.in-Plus.is (plus_puts (trees (reverse c.in-Some.before.now)) _ _ c.put-in-Plus.ensures c.operand.ensures.puts);
}

pub part-returns-in-Pair : goal.part-returns-in-Pair
part-returns-in-Pair t c = record {
  fewer = omega (arith, c.pair.ensures.fewer, c.in-Some.ensures.cases.1);
  puts = ended_by tokens c.args.nodes.now _ _ _ c.in-Some.before.now c.in-Some.node.now Pair c.in-Some.ensures.cases.0 c.in-Pair.is (close_puts (λ a b. seq (two a b)) (λ a b. refl) (trees (reverse c.in-Some.before.now)) _ _ c.put-in-Pair.ensures c.pair.ensures.puts);
}

pub part-returns-in-More : goal.part-returns-in-More
part-returns-in-More t c = record {
  fewer = omega (arith, c.more.ensures.fewer, c.in-Some.ensures.cases.1);
  puts = ended_by tokens c.args.nodes.now _ _ _ c.in-Some.before.now c.in-Some.node.now More c.in-Some.ensures.cases.0 c.in-More.is (close_puts lengthened closed_more (trees (reverse c.in-Some.before.now)) _ _ c.put-in-More.ensures c.more.ensures.puts);
}
