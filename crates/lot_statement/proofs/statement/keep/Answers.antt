use Rattle.std.specs.Prelude.{is_some}
use Rattle.std.proofs.Common.{◌∙◌, ap, sym}
use Rattle.lot_statement.proofs.LineLemmas.{kept, not_some}
use Rattle.lot_statement.proofs.statement.keep.Goals as goal

pub returns-then-contains_key : goal.returns-then-contains_key
returns-then-contains_key c lines has =
    sym (ap is_some (has.each c.args.commodity)) ∙ sym c.contains_key.ensures ∙ c.if-contains_key.true

pub returns-else-contains_key : goal.returns-else-contains_key
returns-else-contains_key c lines has =
    kept lines (c.args.commodity, c.args.units) c.args.said.now c.set.new.said c.set.result has
    (sym (has.each c.args.commodity) ∙ not_some _ (sym c.contains_key.ensures ∙ c.if-contains_key.false))
    c.set.ensures.entries c.set.ensures.cause
