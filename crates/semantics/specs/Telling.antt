-- How a reported kind tells a result: in the 17 bytes of an RS record.
-- Example: 7 trends of the kind Count (1), window 0 and lift 3 are told as 52 53 01 00000000 0003 00000007 00000000.
use Rattle.std.specs.Prelude.{refl}
use Rattle.records.specs.declared.record.Output.TheVariants as output
use Rattle.records.specs.Fields.{row}
use Rattle.records.specs.Formats.{output_fields}
use Rattle.weights.specs.Reports.{Report}
use Rattle.semantics.specs.Meaning.{Telling}

-- the kind's number, the window, the lift and the two numbers that the value tells
abbrev pub record_telling : {V : Type 0} → Report V → Telling V
record_telling report = record {
  size = 17;
  bytes = λ window lift v. row (output_fields (output.Result (record {
    kind = report.number;
    window = window;
    lift = lift;
    first = (report.tells v).first;
    second = (report.tells v).second;
  })));
  sized = λ window lift v. refl;
}
