-- A part is the escape of one text at most.
use Rattle.std.proofs.Common.{ap, ◌∙◌}
use Rattle.lot_base.specs.Name.{is_note}
use Rattle.lot_read.proofs.EscapeLemmas.{quotes, quotes_none, note_length}
use Rattle.lot_read.proofs.note.unescapes_to_note.Goals as goal

pub returns-in-Some-clause-yes : goal.returns-in-Some-clause-yes
returns-in-Some-clause-yes c =
    quotes c.args.part.now c.in-Some.text.bytes c.is_name.result
    c.in-Some.ensures (c.is_name.ensures ∙ ap is_note c.as_str.ensures.value)

pub returns-in-Some-clause-no : goal.returns-in-Some-clause-no
returns-in-Some-clause-no c =
    quotes_none c.args.part.now c.in-Some.text.bytes c.is_name.result
    c.in-Some.ensures (c.is_name.ensures ∙ ap is_note c.as_str.ensures.value)

pub returns-in-None-clause-no : goal.returns-in-None-clause-no
returns-in-None-clause-no c = λ e note q. c.in-None.ensures note q.spelled (note_length note q.good)
