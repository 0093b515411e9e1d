use Rattle.std.proofs.Common.{take}
use Rattle.std.specs.List.{AllByRecursion}
use Rattle.lot_base.specs.Name.{IsName, is_commodity}
use Rattle.lot_command.proofs.sayable.are_commodities.Given as goal

abbrev pub invariant-loop-commodity : goal.invariant-loop-commodity
invariant-loop-commodity l = AllByRecursion (IsName is_commodity) (take l.commodity-index l.commodities)
