-- The marked examples are as defined: replayed, they come out the same.
use Rattle.std.proofs.Common.{◌≡◌, ◌-◌, leb, List, [], ◌∷◌, map, reverse, None, sym, refl, subst}
use native.Mathlib.Decide.{dec_lt}
use Rattle.std.proofs.lemmas.List.{reverse-reverse}
use Rattle.std.proofs.lemmas.Bool.{leb-true, le-leb}
use Rattle.std.proofs.lemmas.Bool.Decides.{Decides-and, Decides-ltb}
use Rattle.pattern.specs.declared.pattern.Pattern.{Pattern}
use Rattle.pattern.specs.Patterns.{tree}
use Rattle.rules.specs.Rules.{Decided}
use Rattle.weights.specs.CountLaws.{count_laws}
use Rattle.weights.specs.LeastLaws.{least_laws}
use Rattle.weights.specs.LeastWaysLaws.{least_ways_laws}
use Rattle.weights.specs.MostLaws.{most_laws}
use Rattle.weights.specs.Count.{count_of}
use Rattle.weights.specs.Kinds.{Laws}
use Rattle.weights.specs.Least.{least_of}
use Rattle.weights.specs.LeastWays.{least_ways_of}
use Rattle.weights.specs.Most.{most_of}
use Rattle.semantics.specs.Meaning.{Defined}
use Rattle.semantics.specs.Trends.{All}
use Rattle.semantics.specs.Windows.{window_start}
use Rattle.examples.specs.Examples.{KindName, count, least, least_ways, most, kind_of, RuleName, falls, gap, rule_of, Example, setup, AsDefined, MostTells, examples}
use Rattle.examples.proofs.Patterns.{HasTree, batts_pattern, drop_miss_pattern, drop_misses_pattern}
use Rattle.examples.proofs.Replaying.{replayed, replay_defined}

laws_of : (k : KindName) → Laws (kind_of k)
laws_of count = count_laws
laws_of least = least_laws
laws_of least_ways = least_ways_laws
laws_of most = most_laws

decided_of : (r : RuleName) → Decided (rule_of r)
decided_of falls settings earlier later = Decides-ltb later.level earlier.level
decided_of (gap n) settings earlier later =
    Decides-and (leb earlier.time later.time) (leb (later.time - earlier.time) settings.gap)
    (leb-true earlier.time later.time, le-leb earlier.time later.time)
    (leb-true (later.time - earlier.time) settings.gap, le-leb (later.time - earlier.time) settings.gap)

-- the example with its answers computed, whatever pattern has the tree
abbrev replay : Pattern → Example → Example
replay p x = record {
  pattern = x.pattern;
  kind = x.kind;
  rule = x.rule;
  span = x.span;
  spans = x.spans;
  calls = reverse (replayed (kind_of x.kind) (rule_of x.rule) (setup x p) x.pattern (reverse x.calls));
}

-- of every example just the answers that stand in it come out
come_out : (p : Pattern) → map (replay p) examples ≡ examples
unfolding count_of least_of least_ways_of most_of window_start dec_lt
come_out p = refl

module _ (p : Pattern) where
  abbrev DefinedBy : Example → Type 0
  DefinedBy x = tree p ≡ x.pattern → Defined (kind_of x.kind) None (rule_of x.rule) (setup x p) (reverse x.calls)

  replay_right : (xs : List Example) → All DefinedBy (map (replay p) xs)
  replay_right [] = tt
  replay_right (x ∷ xs) =
      let kind = kind_of x.kind in
      let rule = rule_of x.rule in
      let h = replayed kind rule (setup x p) x.pattern (reverse x.calls) in
      (λ e. subst (Defined kind None rule (setup x p)) (sym (reverse-reverse h)) (replay_defined kind rule (setup x p) (laws_of x.kind) (decided_of x.rule) x.pattern e (reverse x.calls)), replay_right xs)

abbrev HasPattern : Example → Type 0
HasPattern x = HasTree x.pattern

each : (xs : List Example) → All HasPattern xs → ((p : Pattern) → All (DefinedBy p) xs) → All AsDefined xs
each [] ps f = tt
each (x ∷ xs) ps f = (record { pattern = ps.0; answers = λ p. (f p).0 }, each xs ps.1 (λ p. (f p).1))

patterns : All HasPattern examples
patterns =
    let b = batts_pattern in
    let d = drop_miss_pattern in
    let m = drop_misses_pattern in
    (b, (b, (b, (b, (b, (b, (b, (b, (b, (b, (m, (d, (d, (d, (d, (d, (b, (b, tt))))))))))))))))))

pub marked : All AsDefined examples
marked = each examples patterns (λ p. subst (All (DefinedBy p)) (come_out p) (replay_right p examples))

pub most_tells : MostTells
unfolding most_of
most_tells = (refl, refl)
