use Rattle.std.proofs.Common.{◌≡◌, ◌∙◌, [], ◌∷◌, ◌++◌, Err, Ok, ap, append_assoc, inr, subst, sym}
use Rattle.std.specs.Prelude.{codes, decimal}
use Rattle.lot_report.specs.Written.{WritesLine}
use Rattle.lot_store.specs.Run.{fault_line}
use Rattle.lot_store.proofs.OutputLemmas.{line_out}
use Rattle.lot_store.proofs.RunLemmas.{line_cut}
use Rattle.lot_store.proofs.run.stop.Goals as goal

pub returns-in-Err-clause-line : goal.returns-in-Err-clause-line
returns-in-Err-clause-line g c =
    let digits = c.format.result.now in
    let name = c.name.result.now in
    let is : digits ++ (codes " fault " ++ (name ++ 10 ∷ [])) ≡ fault_line c.args.number c.args.fault =
    sym (append_assoc digits (codes " fault " ++ name) (10 ∷ []))
    ∙ ap (λ d. (d ++ (codes " fault " ++ name)) ++ 10 ∷ []) c.format.ensures.text
    ∙ ap (λ n. (decimal c.args.number ++ (codes " fault " ++ n)) ++ 10 ∷ []) c.name.ensures in
    let written : WritesLine (g.W.CountedWrite.contents c.args.writer.now) (g.W.CountedWrite.contents c.print_texts-printed.new.writer) c.print_texts-printed.result (fault_line c.args.number c.args.fault) =
    subst (WritesLine (g.W.CountedWrite.contents c.args.writer.now) (g.W.CountedWrite.contents c.print_texts-printed.new.writer) c.print_texts-printed.result) is c.print_texts-printed.ensures.bytes in
    inr (line_cut c.print_texts-printed.result _ _ _ (fault_line c.args.number c.args.fault) c.in-Err.ending written c.in-Err.ensures.line)

pub returns-in-Ok-clause-output : goal.returns-in-Ok-clause-output
returns-in-Ok-clause-output g c =
    line_out (g.W.CountedWrite.calls c.args.writer.now) (g.W.CountedWrite.calls c.print_texts-printed.new.writer) (g.W.CountedWrite.calls c.flush_line.new.writer)
    c.print_texts-printed.result _ _ (Ok tt) c.print_texts-printed.ensures.none_failed c.in-Ok.ensures.line (c.in-Ok.ensures.output c.print_texts-printed.ensures.cause)

pub returns-in-Err-clause-output : goal.returns-in-Err-clause-output
returns-in-Err-clause-output g c =
    line_out (g.W.CountedWrite.calls c.args.writer.now) (g.W.CountedWrite.calls c.print_texts-printed.new.writer) (g.W.CountedWrite.calls c.flush_line.new.writer)
    c.print_texts-printed.result _ _ (Err c.in-Err.ending) c.print_texts-printed.ensures.none_failed c.in-Err.ensures.line (c.in-Err.ensures.output c.print_texts-printed.ensures.cause)
