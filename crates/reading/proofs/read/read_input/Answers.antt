use Rattle.std.proofs.Common.{rules}
use Rattle.reading.proofs.Instances.{input_exact}
use Rattle.reading.proofs.read.read_input.Goals as goal

pub returns-clause-exact : goal.returns-clause-exact
returns-clause-exact c = input_exact c.args.bytes.now c.args.place c.map_err.result (search rules)
