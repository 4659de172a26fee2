use Rattle.std.proofs.Common.{[], drop, Ok, sym, ◌∙◌, subst, arith}
use Rattle.std.proofs.lemmas.Result.{err_from_is_err_and}
use Rattle.pattern.specs.Nodes.{tree_of}
use Rattle.pattern.specs.Parsing.{view}
use Rattle.pattern.specs.Reading.{Cut, Reads, accepted, refused}
use Rattle.pattern.specs.Refusals.{number_of}
use Rattle.pattern.specs.Tokens.{IsToken, IsWrong, Next}
use Rattle.pattern.proofs.Parsed.{Sofar, begun_so, wrong_byte, one_more, one_stop, at_end, one_part, cut_short, nodes_within}
use Rattle.pattern.proofs.Validity.{read_valid}
use Rattle.pattern.proofs.read.parse_tokens.Goals as goal
use Rattle.pattern.proofs.read.parse_tokens.Goals.{In-Some, In_default}

-- the token that a turn takes
token : (c : In-Some) → IsToken c.args.text.now c.loop-placed.tokens.at c.in-Some.placed.place c.in-Some.placed.token c.next.new.self.at
token c =
    subst (λ r. Next c.args.text.now c.loop-placed.tokens.at (Ok r) c.next.new.self.at) c.in-Some.is
    (subst (λ s. Next s c.loop-placed.tokens.at (Ok c.in_ok-placed.field-0) c.next.new.self.at) c.loop-placed.invariant.0 c.in_ok-placed.ensures.next)

-- nothing is left
none : (c : In_default) → Cut c.loop-placed.tokens.at (drop c.loop-placed.tokens.at c.args.text.now) []
none c =
    (subst (λ r. Next c.args.text.now c.loop-placed.tokens.at (Ok r) c.next.new.self.at) c.in_default.is
    (subst (λ s. Next s c.loop-placed.tokens.at (Ok c.in_ok-placed.field-0) c.next.new.self.at) c.loop-placed.invariant.0 c.in_ok-placed.ensures.next)
    ).0

pub loop-placed-init : goal.loop-placed-init
loop-placed-init c =
    let at-start = c.new-tokens.ensures in
    (at-start.text, omega (arith, at-start.place), subst (λ n. Sofar c.args.text.now n c.new-parser.result) (sym at-start.place) (begun_so c.args.text.now c.new-parser.result c.requires.some c.requires.few c.new-parser.ensures))

pub returns-in_err-placed : goal.returns-in_err-placed
returns-in_err-placed c =
    let p = err_from_is_err_and c.from_residual.result c.from_residual.ensures.1 in
    let inv = c.loop-placed.invariant in
    let wrong = c.in_err-placed.ensures.next in
    rw (p.1, p.2) (subst (λ r. Reads c.args.text.now (refused (number_of r) c.in_err-placed.field-0.0.place)) (sym wrong.1) (wrong_byte c.args.text.now c.loop-placed.tokens.at c.loop-placed.parser inv.2 _ (subst (λ s. IsWrong s c.loop-placed.tokens.at c.in_err-placed.field-0.0.place) inv.0 wrong.0)))

pub loop-placed-preserved : goal.loop-placed-preserved
loop-placed-preserved c =
    let inv = c.loop-placed.invariant in
    let is = token (goal.at.loop-placed-preserved c).In-Some in
    let took = c.in_ok-take.ensures.took in
    (c.next.ensures.text ∙ inv.0, is.first.within, one_more c.args.text.now c.loop-placed.tokens.at c.loop-placed.parser inv.2 c.take.new.self c.in-Some.placed c.next.new.self.at took.0 is took.1 took.2)

pub returns-in_err-take : goal.returns-in_err-take
returns-in_err-take c =
    let p = err_from_is_err_and c.from_residual-in_err-take.result c.from_residual-in_err-take.ensures.1 in
    rw (p.1, p.2) (one_stop c.args.text.now c.loop-placed.tokens.at c.loop-placed.parser c.loop-placed.invariant.2 c.in-Some.placed c.next.new.self.at c.in_err-take.field-0.0 (token (goal.at.returns-in_err-take c).In-Some) c.in_err-take.ensures.took)

pub returns-then-not-is_whole : goal.returns-then-not-is_whole
returns-then-not-is_whole c = cut_short c.args.text.now c.loop-placed.tokens.at c.loop-placed.parser c.loop-placed.invariant.2 (none (goal.at.returns-then-not-is_whole c).In_default) (sym c.if-not-is_whole.ensures)

pub into_pattern-requires : goal.into_pattern-requires
into_pattern-requires c =
    let whole = sym c.if-not-is_whole.ensures in
    let end = none (goal.at.into_pattern-requires c).In_default in
    let text = c.args.text.now in
    record {
      one = one_part text c.loop-placed.tokens.at c.loop-placed.parser c.loop-placed.invariant.2 end whole;
      valid = read_valid text (tree_of (view c.loop-placed.parser).nodes) (at_end text c.loop-placed.tokens.at c.loop-placed.parser c.loop-placed.invariant.2 end whole);
    }

pub returns : goal.returns
returns c = subst (λ t. Reads c.args.text.now (accepted t)) (sym c.into_pattern.ensures) (at_end c.args.text.now c.loop-placed.tokens.at c.loop-placed.parser c.loop-placed.invariant.2 (none (goal.at.returns c).In_default) (sym c.if-not-is_whole.ensures))
