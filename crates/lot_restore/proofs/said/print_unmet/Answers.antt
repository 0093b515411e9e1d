-- The option is named, with its value.
use Rattle.std.proofs.Common.{List, ℕ, subst}
use Rattle.lot_report.specs.Written.{WritesLine}
use Rattle.lot_restore.proofs.SaidLemmas.{batch_texts, entries_texts, key_texts}
use Rattle.lot_restore.proofs.said.print_unmet.Goals as goal

pub returns-in-Key-clause-bytes : goal.returns-in-Key-clause-bytes
returns-in-Key-clause-bytes g c =
    rw c.in-Key.is
    (subst (λ (t : List ℕ). WritesLine (g.W.CountedWrite.contents c.args.writer.now) (g.W.CountedWrite.contents c.print_texts.new.writer) c.print_texts.result t)
    (key_texts c.in-Key.key.source c.in-Key.key.name c.as_str.result.now c.as_str-in-Key.result.now c.as_str.ensures.value c.as_str-in-Key.ensures.value)
    c.print_texts.ensures.bytes)

pub returns-in-Batch-clause-bytes : goal.returns-in-Batch-clause-bytes
returns-in-Batch-clause-bytes g c =
    rw c.in-Batch.is
    (subst (λ (t : List ℕ). WritesLine (g.W.CountedWrite.contents c.args.writer.now) (g.W.CountedWrite.contents c.print_texts-in-Batch.new.writer) c.print_texts-in-Batch.result t)
    (batch_texts c.in-Batch.source c.as_str-in-Batch.result.now c.as_str-in-Batch.ensures.value)
    c.print_texts-in-Batch.ensures.bytes)

pub returns-in-Entries-clause-bytes : goal.returns-in-Entries-clause-bytes
returns-in-Entries-clause-bytes g c =
    rw c.in-Entries.is
    (subst (λ (t : List ℕ). WritesLine (g.W.CountedWrite.contents c.args.writer.now) (g.W.CountedWrite.contents c.print_texts-in-Entries.new.writer) c.print_texts-in-Entries.result t)
    (entries_texts c.in-Entries.first c.in-Entries.last c.format.result.now c.format-in-Entries.result.now c.format.ensures.text c.format-in-Entries.ensures.text)
    c.print_texts-in-Entries.ensures.bytes)
