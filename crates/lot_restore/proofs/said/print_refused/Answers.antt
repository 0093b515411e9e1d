-- The entry is named, and then it is said why it was refused.
use Rattle.std.proofs.Common.{List, ℕ, Err, subst}
use Rattle.std.specs.Io.KnownBytes.{Appends}
use Rattle.std.proofs.lemmas.Result.{err_from_is_err_and}
use Rattle.lot_report.specs.Printed.{line, refusal_text}
use Rattle.lot_report.specs.Written.{WritesLine}
use Rattle.lot_restore.specs.Lines.{entry_text}
use Rattle.lot_restore.proofs.SaidLemmas.{cut_in_front, entry_texts, in_two}
use Rattle.lot_restore.proofs.said.print_refused.Goals as goal

pub returns-in_err-print_texts-clause-bytes : goal.returns-in_err-print_texts-clause-bytes
returns-in_err-print_texts-clause-bytes g c =
    let fault = err_from_is_err_and c.from_residual.result c.from_residual.ensures.1 in
    let dumped = c.args.dumped.now in
    rw (fault.1, fault.2)
    (cut_in_front (g.W.CountedWrite.contents c.args.writer.now) (g.W.CountedWrite.contents c.print_texts.new.writer)
    (entry_text dumped.number dumped.key) (line (refusal_text c.args.refusal.now)) c.in_err-print_texts.field-0.0
    c.in_err-print_texts.ensures.fault
    (subst (λ (t : List ℕ). WritesLine (g.W.CountedWrite.contents c.args.writer.now) (g.W.CountedWrite.contents c.print_texts.new.writer) (Err c.in_err-print_texts.field-0.0) t)
    (entry_texts dumped.number dumped.key c.format.result.now c.as_str.result.now c.as_str-2.result.now c.format.ensures.text c.as_str.ensures.value c.as_str-2.ensures.value)
    c.in_err-print_texts.ensures.bytes))

pub returns-clause-bytes : goal.returns-clause-bytes
returns-clause-bytes g c =
    let dumped = c.args.dumped.now in
    in_two (g.W.CountedWrite.contents c.args.writer.now) (g.W.CountedWrite.contents c.print_texts.new.writer)
    (g.W.CountedWrite.contents c.print_refusal.new.writer) (entry_text dumped.number dumped.key) (line (refusal_text c.args.refusal.now))
    c.print_refusal.result
    (subst (λ (t : List ℕ). Appends (g.W.CountedWrite.contents c.args.writer.now) (g.W.CountedWrite.contents c.print_texts.new.writer) t)
    (entry_texts dumped.number dumped.key c.format.result.now c.as_str.result.now c.as_str-2.result.now c.format.ensures.text c.as_str.ensures.value c.as_str-2.ensures.value)
    c.in_ok-print_texts.ensures.bytes)
    c.print_refusal.ensures.fault c.print_refusal.ensures.bytes
