use Rattle.std.proofs.Common.{map}
use Rattle.lot_page.proofs.StepLemmas.{begins}
use Rattle.lot_page.proofs.cursor.Cursor.new.Goals as goal

pub returns : goal.returns
returns g c = record { start = λ rows. begins g.R.PagedRow.width (map g.R.TableRow.encode rows) c.new.result.items c.new.ensures.items }
