-- The statements ask for all rows.
use Rattle.lot_audit.proofs.WholeLemmas.{lot_all, opening_all, plain_all, price_all}
use Rattle.lot_audit.proofs.compare.amounts_agree.Goals as goal

pub are_told-requires : goal.are_told-requires
are_told-requires g c = price_all

pub are_told-requires-2 : goal.are_told-requires-2
are_told-requires-2 g c = lot_all

pub are_told-requires-3 : goal.are_told-requires-3
are_told-requires-3 g c = plain_all

pub are_told-requires-4 : goal.are_told-requires-4
are_told-requires-4 g c = opening_all
