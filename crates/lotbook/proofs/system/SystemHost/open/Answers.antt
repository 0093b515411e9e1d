-- The files of the path aren't opened so.
use Rattle.std.proofs.Common.{inr}
use Rattle.lot_files.specs.Opener.{OpensFor}
use Rattle.lotbook.proofs.OpenLemmas.{where_err, where_ok_so}
use Rattle.lotbook.proofs.system.SystemHost.open.Goals as goal

pub returns-clause-opens : goal.returns-clause-opens
returns-clause-opens c =
    where_ok_so (OpensFor _ c.args.self.now.rt.now c.args.access c.args.path.now) _ (λ opened is. (c.args.self.now.rt.now, is))
    c.open_book-found.result c.open_book-found.ensures.opens

pub returns-clause-fault : goal.returns-clause-fault
returns-clause-fault c =
    where_err (OpensFor _ c.args.self.now.rt.now c.args.access c.args.path.now) _
    (λ cause is. inr (inr (c.args.access, (c.args.self.now.rt.now, is)))) c.open_book-found.result c.open_book-found.ensures.opens
