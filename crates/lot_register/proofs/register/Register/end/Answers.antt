use Rattle.std.specs.Prelude.{ℕ, List}
use Rattle.std.proofs.Common.{◌∙◌, subst, sym}
use Rattle.lot_report.specs.Written.{WritesEach}
use Rattle.lot_register.specs.Register.{foot_lines, written_rows}
use Rattle.lot_register.proofs.RowLemmas.{foot_csv}
use Rattle.lot_register.proofs.register.Register.end.Goals as goal

pub returns-in-Text-clause-lines : goal.returns-in-Text-clause-lines
returns-in-Text-clause-lines g c terms legs taken =
    subst (λ form. WritesEach (λ (t : List ℕ). t) (foot_lines form (written_rows terms.1 legs)) (g.W.CountedWrite.contents c.args.writer.now)
    (g.W.CountedWrite.contents c.end_text.new.writer) c.end_text.result)
    (sym c.in-Text.is ∙ taken.0) (c.end_text.ensures.lines (written_rows terms.1 legs) taken.4)

pub returns-in-Csv-clause-lines : goal.returns-in-Csv-clause-lines
returns-in-Csv-clause-lines g c terms legs taken = foot_csv terms.0 (written_rows terms.1 legs) _ (sym taken.0 ∙ c.in-Csv.is)
