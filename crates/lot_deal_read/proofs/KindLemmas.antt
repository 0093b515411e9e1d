-- What stands alone is of its kind.
use Rattle.std.proofs.Common.{None}
use Rattle.lot_deal.specs.declared.deal.Deal.{Deal}
use Rattle.lot_profile.specs.declared.kind.Kind.{Kind}
use Rattle.lot_profile.specs.declared.kind.Kind.TheVariants as kind
use Rattle.lot_deal_read.specs.Kinds.{AreTermsOf, SaidByKind}
use Rattle.lot_deal_read.specs.declared.says.Saying.TheVariants as saying

pub alone : (k : Kind) (deal : Deal) → AreTermsOf k deal.terms → SaidByKind k (saying.Deal deal None)
alone kind.Buy deal h = absurd h
alone kind.CancelBuy deal h = absurd h
alone kind.CancelSell deal h = absurd h
alone kind.Split deal h = absurd h
alone kind.ByHand deal h = absurd h
alone kind.Skip deal h = absurd h
alone other deal h = h
