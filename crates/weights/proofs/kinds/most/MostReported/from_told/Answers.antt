use Rattle.std.proofs.Common.{◌≡◌, ap, ◌∙◌, rules}
use Rattle.weights.specs.Most.{most_report}
use Rattle.weights.specs.MostLaws.{most_retold}
use Rattle.weights.proofs.kinds.most.MostReported.from_told.Goals as goal

pub returns-clause-back : goal.returns-clause-back
returns-clause-back c =
    let reads : c.new.result ≡ most_report.reads c.args.told = search rules in
    λ value e. reads ∙ ap most_report.reads e ∙ most_retold value
