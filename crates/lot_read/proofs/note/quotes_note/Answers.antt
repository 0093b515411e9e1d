-- A plain part is its own escape.
use Rattle.std.proofs.Common.{sym, ◌∙◌}
use Rattle.lot_read.proofs.EscapeLemmas.{plain_escaped, quotes, quotes_none}
use Rattle.lot_read.proofs.note.quotes_note.Goals as goal

pub returns-then-is_plain-clause-yes : goal.returns-then-is_plain-clause-yes
returns-then-is_plain-clause-yes c =
    quotes c.args.part.now c.args.part.now c.is_name.result
    (plain_escaped c.args.part.now (sym c.is_plain.ensures ∙ c.if-is_plain.true)) c.is_name.ensures

pub returns-then-is_plain-clause-no : goal.returns-then-is_plain-clause-no
returns-then-is_plain-clause-no c =
    quotes_none c.args.part.now c.args.part.now c.is_name.result
    (plain_escaped c.args.part.now (sym c.is_plain.ensures ∙ c.if-is_plain.true)) c.is_name.ensures
