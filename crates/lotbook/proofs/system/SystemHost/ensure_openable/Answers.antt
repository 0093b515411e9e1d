-- The path can't be that of a book.
use Rattle.std.proofs.Common.{inl, inr}
use Rattle.lot_files.specs.Shown.{AllowsBook}
use Rattle.lotbook.proofs.OpenLemmas.{where_err}
use Rattle.lotbook.proofs.system.SystemHost.ensure_openable.Goals as goal

pub returns-clause-fault : goal.returns-clause-fault
returns-clause-fault c =
    where_err (AllowsBook _ c.args.self.now.rt.now c.args.path.now) _ (λ cause is. inr (inl (c.args.self.now.rt.now, is)))
    c.ensure_openable.result c.ensure_openable.ensures.allows
