use Rattle.std.proofs.Common.{append-nil, subst}
use Rattle.lot_report.specs.Written.{WritesLine}
use Rattle.lot_page_report.proofs.list.put_text.Goals as goal

pub returns-clause-bytes : goal.returns-clause-bytes
returns-clause-bytes g c =
    subst (WritesLine (g.W.CountedWrite.contents c.args.writer.now) (g.W.CountedWrite.contents c.print_texts.new.writer) c.print_texts.result)
    (append-nil c.args.text.now) c.print_texts.ensures.bytes
