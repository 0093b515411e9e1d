use Rattle.std.proofs.Common.{◌∙◌}
use Rattle.lot_statement.proofs.record.line_with.Goals as goal

pub returns-in-Ok : goal.returns-in-Ok
returns-in-Ok c = record {
  whole = c.requires.whole;
  commodity = (c.requires.commodity.0, c.requires.commodity.1, c.in-Ok.ensures.ok ∙ c.requires.commodity.2);
  units = c.in-Some.ensures;
}

pub returns-in-Err : goal.returns-in-Err
returns-in-Err c =
    ((c.args.name.now, c.in-Some.units), record { whole = c.requires.whole; commodity = c.requires.commodity; units = c.in-Some.ensures })
