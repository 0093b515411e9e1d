-- What a row of an export asks for (docs/FORMATS.md, Profiles).
use Rattle.std.specs.Prelude.{◌≡◌, ℕ, ⊤, List, Option, Some, None, ℤ}
use Rattle.lot_command.specs.declared.command.Command.{Command}
use Rattle.lot_command.specs.declared.transaction.Narration.{Narration}
use Rattle.lot_deal.specs.declared.deal.Deal.{Deal}
use Rattle.lot_deal.specs.declared.deal.Terms.TheVariants.{CancelBuy}
use Rattle.lot_deal.specs.declared.trade.Trade.{Trade}
use Rattle.lot_deal_command.specs.Deal.{HasCommand, IsCommandOf}
use Rattle.lot_deal_read.specs.declared.says.Dated.{Dated}
use Rattle.lot_deal_read.specs.declared.says.Saying.{Saying}
use Rattle.lot_deal_read.specs.declared.says.Saying.TheVariants as saying
use Rattle.lot_rounding.specs.Asked.{plain, splitting}
use Rattle.lot_rounding.specs.declared.asked.Asked.{Asked}
use Rattle.lot_export.specs.declared.fault.ExportFault.{ExportFault}
use Rattle.lot_export.specs.declared.fault.ExportFault.TheVariants as fault

-- the deal of a row of that day that takes back a purchase of another
abbrev pub cancelling : ℤ → List ℕ → Trade → ℤ → Deal
cancelling day note trade bought =
    record { day = day; note = note; terms = CancelBuy (record { trade = trade; bought = bought }) }

abbrev pub cancelling_on : ℤ → List ℕ → Trade → Option ℤ → Option Deal
cancelling_on day note trade None = None
cancelling_on day note trade (Some bought) = Some (cancelling day note trade bought)

abbrev pub deal_by : ℤ → Option ℤ → Saying → Option Deal
deal_by day bought saying.ByHand = None
deal_by day bought (saying.Deal deal compared) = Some deal
deal_by day bought (saying.CancelBuy note trade compared) = cancelling_on day note trade bought
deal_by day bought (saying.Split note account symbol change) = None

-- the deal of a row, which takes back a purchase of that day if it takes one back
abbrev pub deal_of : Dated → Option ℤ → Option Deal
deal_of dated bought = deal_by dated.day bought dated.saying

-- the command of a deal
pub record IsAskedFor (deal : Deal) (asked : Asked) : Type 0 where
  pub command : Command
  pub is : IsCommandOf deal command
  pub asked_is : asked ≡ plain command

-- a row asks for the command of its deal
abbrev pub HasCommandOf : Dated → Option ℤ → Asked → Type 0
HasCommandOf dated bought asked = (deal : Deal) × (deal_of dated bought ≡ Some deal) × IsAskedFor deal asked

-- the narration of a split, which is its note
abbrev pub narrated : List ℕ → Narration
narrated note = record { payee = None; text = note }

abbrev pub HasAskedBy : Dated → Option ℤ → Saying → Asked → Type 0
HasAskedBy dated bought saying.ByHand asked = ⊥
HasAskedBy dated bought (saying.Deal deal compared) asked = HasCommandOf dated bought asked
HasAskedBy dated bought (saying.CancelBuy note trade compared) asked = HasCommandOf dated bought asked
HasAskedBy dated bought (saying.Split note account symbol change) asked =
    asked ≡ splitting dated.day (Some (narrated note)) account symbol change

-- what a row that isn't posted by hand asks for: the command of its deal, or a split
abbrev pub HasAsked : Dated → Option ℤ → Asked → Type 0
HasAsked dated bought asked = HasAskedBy dated bought dated.saying asked

-- ---- Faults.

-- the deal of the row of that number has no command
abbrev pub FailsFor : ℕ → Deal → ExportFault → Type 0
FailsFor number deal (fault.TooLarge row) = (row ≡ number) × (HasCommand deal → ⊥)
FailsFor number deal fault.Memory = ⊤
FailsFor number deal _ = ⊥

abbrev pub IsCancelling : Saying → Type 0
IsCancelling (saying.CancelBuy note trade compared) = ⊤
IsCancelling _ = ⊥

-- the row of that number asks for nothing: it takes back a purchase that isn't there, or a sum that would be posted is too large
abbrev pub HasNone : ℕ → Dated → Option ℤ → ExportFault → Type 0
HasNone number dated bought (fault.NothingLeft row) = (row ≡ number) × IsCancelling dated.saying × (bought ≡ None)
HasNone number dated bought (fault.TooLarge row) =
    (row ≡ number) × (deal : Deal) × (deal_of dated bought ≡ Some deal) × (HasCommand deal → ⊥)
HasNone number dated bought fault.Memory = ⊤
HasNone number dated bought _ = ⊥
