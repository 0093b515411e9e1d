use Rattle.std.proofs.Common.{subst, sym}
use Rattle.lot_sheet.specs.Reading.{HasNoText, records_left}
use Rattle.lot_sheet.proofs.LineLemmas.{handed, no_text_line}
use Rattle.lot_sheet.proofs.lines.next_line.Goals as goal

pub returns-in_err-next-clause-fault : goal.returns-in_err-next-clause-fault
returns-in_err-next-clause-fault c =
    handed c.from_residual.result c.in_err-next.field-0.0 _ c.from_residual.ensures.1
    (λ is. subst HasNoText (sym c.loop-line.invariant.same) (no_text_line (records_left c.loop-line.reader) (c.in_err-next.ensures.fault is)))
