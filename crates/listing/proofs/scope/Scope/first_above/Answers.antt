use Rattle.std.proofs.Common.{◌≡◌, true, false, None, ℕ, length, rules}
use borrow.Author.Tests.{tests}
use Rattle.std.proofs.lemmas.Iterator.{first_from_Range}
use Rattle.std.proofs.lemmas.Bool.Decides.{not_from_Decides}
use Rattle.semantics.specs.Trends.{Trend}
use Rattle.listing.specs.Walk.{leads, marks_at, picked}
use Rattle.listing.proofs.Walking.{walk_decides, first_between}
use Rattle.listing.proofs.scope.Scope.first_above.Goals as goal

pub returns : goal.returns
returns g c =
    let s = c.args.self.now in
    let leads_at = λ (n : ℕ). leads g.R.Follow.rule s.setup.now c.template.result s.window s.lift None (picked n s.events.now) in
    let trend_at = λ (n : ℕ). Trend g.R.Follow.rule s.setup.now s.window s.lift s.events.now (marks_at (length s.events.now) n) in
    let decides = walk_decides g.R.Follow.rule s.setup.now c.template.result s.window s.lift g.met.R.Follow.decides c.template.ensures.words s.events.now in
    first_between g.R.Follow.rule s.setup.now s.window s.lift s.events.now c.args.from c.args.end c.find.result
    (first_from_Range _ _ _ c.find.result trend_at (λ n. trend_at n → ⊥) c.find.ensures.ran
    (λ n q called. let yes : leads_at n ≡ true = search (rules, tests) in (decides n).0 yes)
    (λ n q called. let no : leads_at n ≡ false = search (rules, tests) in (search rules, not_from_Decides _ (decides n) no)))
