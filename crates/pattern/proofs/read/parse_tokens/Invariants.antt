use Rattle.std.proofs.Common.{◌≡◌, ◌-◌, ◌≤◌, length}
use Rattle.pattern.proofs.Parsed.{Sofar}
use Rattle.pattern.proofs.read.parse_tokens.Given as goal

abbrev pub invariant-loop-placed : goal.invariant-loop-placed
invariant-loop-placed l = (l.tokens.text.now ≡ l.text) × (l.tokens.at ≤ length l.text) × Sofar l.text l.tokens.at l.parser

abbrev pub decreases-loop-placed : goal.decreases-loop-placed
decreases-loop-placed l = length l.text - l.tokens.at
