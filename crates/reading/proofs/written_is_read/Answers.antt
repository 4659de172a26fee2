use Rattle.std.proofs.Common.{◌++◌, refl, append_assoc}
use Rattle.records.specs.Fields.{row}
use Rattle.records.specs.Formats.{header_fields, header_bytes, input_fields, output_fields}
use Rattle.reading.proofs.Instances.{header_exact, input_exact, output_exact}
use Rattle.reading.proofs.written_is_read.Goals as goal

pub returns : goal.returns
returns c = (
  refl,
  (
    λ h rest place a fit k. header_exact (header_bytes h ++ rest) place a k h rest (record { fit = fit; bytes = append_assoc (row (header_fields h)) h.text.now rest }),
    λ x rest place a fit k. input_exact (row (input_fields x) ++ rest) place a k x rest (record { fit = fit; bytes = refl }),
    λ x rest place a fit k. output_exact (row (output_fields x) ++ rest) place a k x rest (record { fit = fit; bytes = refl }),
  ),
)
