use Rattle.std.proofs.Common.{rules, refl, arith}
use Rattle.pattern.specs.Parsing.{by_word}
use Rattle.pattern.proofs.Symbols.{known_symbol, unknown_symbol, took_by}
use Rattle.pattern.proofs.parser.Parser.take.Goals as goal

pub returns-in_default : goal.returns-in_default
returns-in_default c = record { grown = omega arith; took = by_word (unknown_symbol c.args.placed.token c.in_default.ensures) refl refl }

pub returns : goal.returns
returns c =
    record {
      grown = c.accept.ensures.grown;
      took = took_by _ c.args.placed _ c.in-Some.symbol c.accept.result c.map_err.result (known_symbol c.args.placed.token c.in-Some.symbol c.in-Some.ensures) c.accept.ensures.verdict c.map_err.ensures.cases (λ e f h. search rules);
    }
