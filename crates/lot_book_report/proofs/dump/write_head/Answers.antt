-- The pieces are those of the first line.
use Rattle.std.proofs.Common.{List, ℕ, ◌++◌, ◌∙◌, ap, subst}
use Rattle.std.specs.Prelude.{codes, decimal}
use Rattle.sha2.specs.Hashers.{Holds256}
use Rattle.lot_report.specs.Printed.{line}
use Rattle.lot_report.specs.Written.{WritesLine}
use Rattle.lot_book_report.proofs.DumpLemmas.{head_pieces}
use Rattle.lot_book_report.proofs.dump.write_head.Goals as goal

abbrev text : List ℕ → List ℕ → List ℕ
text place entries = line (codes "; lotbook dump 1 edition 2 migrated " ++ place ++ codes " entries " ++ entries)

pub returns-clause-bytes : goal.returns-clause-bytes
returns-clause-bytes g c =
    subst (WritesLine (g.W.CountedWrite.contents c.args.writer.now) (g.W.CountedWrite.contents c.print_texts.new.writer) c.print_texts.result)
    (head_pieces c.format.result.now c.format-2.result.now
    ∙ ap (λ (place : List ℕ). text place c.format-2.result.now) c.format.ensures.text
    ∙ ap (λ (entries : List ℕ). text (decimal c.args.extent.now.place) entries) c.format-2.ensures.text)
    c.print_texts.ensures.bytes

pub returns-clause-heard : goal.returns-clause-heard
returns-clause-heard g c message was =
    subst (λ (heard : List ℕ). Holds256 c.add_texts.new.hasher (message ++ heard))
    (head_pieces c.format.result.now c.format-2.result.now
    ∙ ap (λ (place : List ℕ). text place c.format-2.result.now) c.format.ensures.text
    ∙ ap (λ (entries : List ℕ). text (decimal c.args.extent.now.place) entries) c.format-2.ensures.text)
    (c.add_texts.ensures message was)
