use Rattle.std.proofs.Common.{take}
use Rattle.lot_migrate.proofs.FoldLemmas.{Posts}
use Rattle.lot_migrate.proofs.fold.post_page.Given as goal

-- the legs so far are posted
abbrev pub invariant-rows : goal.invariant-rows
invariant-rows l = Posts (take l.row-index l.page) l.fn.lots l.lots
