-- A copy of the files of a book is opened.
use Rattle.std.proofs.Common.{inl, inr, rules}
use Rattle.lot_files.proofs.copy.open_copy.Goals as goal

pub returns-in-Some-clause-opens : goal.returns-in-Some-clause-opens
returns-in-Some-clause-opens g c = record {
  original = c.original.result;
  is_original = c.original.ensures;
  told = inr (inl (c.in-Some.located, c.open_copy_of.ensures.opens, search rules));
}
