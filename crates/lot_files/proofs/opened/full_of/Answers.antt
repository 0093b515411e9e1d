-- What can't be opened to be written is copied, by the opener behind that.
use Rattle.std.proofs.Common.{inl, rules}
use Rattle.std.specs.Prelude.{Err}
use Rattle.lot_files.proofs.opened.full_of.Goals as goal

pub returns-in-Err-clause-opens : goal.returns-in-Err-clause-opens
returns-in-Err-clause-opens g c = record {
  opened = Err c.in-Err.cause;
  opens = c.in-Err.ensures.opens;
  behind = c.open.new.self;
  told = inl (search rules, c.copy_of.ensures.opens);
}
