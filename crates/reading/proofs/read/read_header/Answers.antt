use Rattle.std.proofs.Common.{rules}
use Rattle.reading.proofs.Instances.{header_exact}
use Rattle.reading.proofs.read.read_header.Goals as goal

pub returns-clause-exact : goal.returns-clause-exact
returns-clause-exact c = header_exact c.args.bytes.now c.args.place c.map_err.result (search rules)
