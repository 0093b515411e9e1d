use Rattle.std.specs.Prelude.{option_copied}
use Rattle.std.proofs.Common.{◌∙◌, ap, sym}
use Rattle.lot_recall.proofs.EntryLemmas.{unfound, was_noted}
use Rattle.lot_recall.proofs.notes.EntryNotes.narration.Goals as goal

pub returns-in-Some-clause-notes : goal.returns-in-Some-clause-notes
returns-in-Some-clause-notes c =
    was_noted c.args.number c.args.self.now.rows.items c.in-Some.row.now (sym c.at.ensures ∙ ap option_copied c.in-Some.is) c.narration.result
    (rw c.as_str.ensures at c.narration.ensures.says) (rw c.as_str.ensures at c.narration.ensures.damaged)

pub returns-in-None-clause-notes : goal.returns-in-None-clause-notes
returns-in-None-clause-notes c =
    unfound c.args.number c.args.self.now.rows.items (sym c.at.ensures ∙ ap option_copied c.in-None.is)
