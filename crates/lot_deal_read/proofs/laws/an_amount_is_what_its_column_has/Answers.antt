use Rattle.std.proofs.Common.{ap}
use Rattle.std.specs.Prelude.{Bool}
use Rattle.lot_deal_read.specs.TradeRow.{amount_by}
use Rattle.lot_deal_read.proofs.laws.an_amount_is_what_its_column_has.Goals as goal

pub returns : goal.returns
returns c = λ rules row said named. ap (λ (test : Bool). amount_by test rules row said) named
