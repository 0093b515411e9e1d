-- A control byte is a blank, and no other character is changed.
use Rattle.std.proofs.Common.{rules, sym, ◌∙◌}
use Rattle.lot_roles.proofs.TextLemmas.{written_control, written_plain}
use Rattle.lot_roles.proofs.narrations.push_written.Goals as goal

pub returns-then-is_written : goal.returns-then-is_written
returns-then-is_written c = rw (written_plain c.args.character (sym c.is_written.ensures ∙ c.if-is_written.true)) (search rules)

pub returns-else-is_written : goal.returns-else-is_written
returns-else-is_written c = rw (written_control c.args.character (sym c.is_written.ensures ∙ c.if-is_written.false)) (search rules)
