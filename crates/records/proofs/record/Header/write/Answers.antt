use Rattle.std.proofs.Common.{◌≡◌, ◌%◌, ◌+◌, ◌++◌, ◌∙◌, length, drop, sym, ap, arith, rules}
use Rattle.records.specs.Formats.{header_bytes}
use Rattle.records.proofs.Parts.{four_bytes, header_parts, header_size}
use Rattle.records.proofs.record.Header.write.Goals as goal

pub returns : goal.returns
returns c =
    let h = c.args.self in
    let n : h.n % 256 ≡ h.n = omega arith in
    let l : length h.text.now % 256 ≡ length h.text.now = omega arith in
    let e = header_parts h c.to_be_bytes.result c.to_be_bytes-2.result c.deref.result.now c.from.result c.from-2.result (c.to_be_bytes.ensures ∙ four_bytes h.origin) (c.to_be_bytes-2.ensures ∙ four_bytes h.slide) c.from.ensures c.from-2.ensures (c.deref.ensures.0 ∙ c.gap_bytes-gap.ensures) n l in
    let size : 14 + c.len.result + length h.text.now ≡ length (header_bytes h) = rw (c.len.ensures.value, c.gap_bytes-gap.ensures) (header_size h) in
    (search rules, size, c.put.ensures ∙ ap (λ j. j ++ drop (length j) c.args.out.now) e ∙ ap (λ k. header_bytes h ++ drop k c.args.out.now) (sym size))
