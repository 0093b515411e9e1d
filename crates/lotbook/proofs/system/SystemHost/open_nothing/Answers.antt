-- What opening an empty database comes to, by whether there is one.
use Rattle.lot_files.specs.Opening.{OpensNothing}
use Rattle.lot_files.specs.declared.opened.Database.{Database}
use Rattle.lotbook.proofs.OpenLemmas.{where_err, where_ok}
use Rattle.lotbook.proofs.system.SystemHost.open_nothing.Goals as goal

pub returns-clause-empty : goal.returns-clause-empty
returns-clause-empty c =
    where_ok (OpensNothing (λ (database : Database). database.conn)) c.open_nothing-found.result c.open_nothing-found.ensures.opens

pub returns-clause-fault : goal.returns-clause-fault
returns-clause-fault c =
    where_err (OpensNothing (λ (database : Database). database.conn)) _ (λ cause is. is) c.open_nothing-found.result
    c.open_nothing-found.ensures.opens
