-- By what the digits write.
use Rattle.std.proofs.Common.{sym, ap, ◌∙◌}
use Rattle.lot_profile_text.specs.Conditions.{counted}
use Rattle.lot_profile_text.proofs.TextLemmas.{counted-none, counted-ok}
use Rattle.lot_profile_text.proofs.condition.counted.Goals as goal

pub returns-in-Ok : goal.returns-in-Ok
returns-in-Ok c = c.column.ensures ∙ ap counted (counted-ok c.args.digits.now c.parse.result c.in-Ok.number c.in-Ok.is c.parse.ensures.value.0 c.requires)

pub returns-in-Err : goal.returns-in-Err
returns-in-Err c = sym (counted-none c.args.digits.now c.parse.result c.in-Err.field-0 c.in-Err.is c.parse.ensures.value.0 c.requires)
