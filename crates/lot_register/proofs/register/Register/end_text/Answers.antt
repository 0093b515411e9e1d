use Rattle.lot_register.proofs.RowLemmas.{foot_none, foot_some}
use Rattle.lot_register.proofs.register.Register.end_text.Goals as goal

pub returns-then-self-clause-lines : goal.returns-then-self-clause-lines
returns-then-self-clause-lines g c rows are = foot_some rows c.args.self.now.has_rows _ are c.if-self.true

pub returns-clause-lines : goal.returns-clause-lines
returns-clause-lines g c rows are = foot_none rows c.args.self.now.has_rows _ _ _ are c.if-self.false c.print_line.ensures.bytes
