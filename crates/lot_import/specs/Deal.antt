-- The command that a row of a broker file stands for (docs/FORMATS.md, Broker files).
use Rattle.std.specs.Prelude.{◌≡◌, ℕ, ◌==◌, if◌then◌else◌, List, [], ◌∷◌, ◌++◌, Option, Some, None, IfSome, ◌≤◌, ℤ, pos, ◌+ℤ◌, ◌-ℤ◌, ◌*ℤ◌, neg_ℤ}
use Rattle.lot_num.specs.Amount.{one, IsUnits}
use Rattle.lot_cost.specs.declared.cost_spec.CostSpec.{CostSpec}
use Rattle.lot_cost.specs.declared.cost.Cost.TheVariants as Costs
use Rattle.lot_command.specs.declared.command.Command.{Command}
use Rattle.lot_command.specs.declared.command.Command.TheVariants as Commands
use Rattle.lot_command.specs.declared.price.Price.TheVariants as Prices
use Rattle.lot_command.specs.declared.transaction.Flag.TheVariants.{Complete}
use Rattle.lot_command.specs.declared.transaction.Posting.{Posting}
use Rattle.lot_command.specs.declared.transaction.Transaction.{Transaction as TransactionOf}
use Rattle.lot_import.specs.declared.accounts.Accounts.{Accounts}
use Rattle.lot_import.specs.declared.row.Action.{Action}
use Rattle.lot_import.specs.declared.row.Action.TheVariants.{Buy, Sell}
use Rattle.lot_import.specs.declared.row.Row.{Row}
use Rattle.lot_rounding.specs.Nearest.{IsRounded, most_decimals}
use Rattle.lot_rounding.specs.declared.asked.Asked.{Asked}
use Rattle.lot_rounding.specs.declared.asked.RowCash.{RowCash}

-- ---- The cash that a deal moves.

-- what is paid for units of that worth beside the fee, or received for them less the fee
abbrev pub moved : Action → ℤ → ℤ → ℤ
moved Buy worth fee = neg_ℤ (worth +ℤ fee)
moved Sell worth fee = worth -ℤ fee

-- the cash that a row moves, at scale 16
abbrev pub cash_weight : Row → ℤ
cash_weight row = moved row.action (row.units *ℤ pos row.price) (pos row.fee *ℤ pos one)

-- decimals that may be given are at most eight
abbrev pub MayBeGiven : Option ℕ → Type 0
MayBeGiven decimals = IfSome decimals (λ d. d ≤ most_decimals)

-- what an amount is kept as: itself, or where decimals are given, rounded to so many
abbrev pub IsKept : Option ℕ → ℤ → ℤ → Type 0
IsKept None amount kept = kept ≡ amount
IsKept (Some decimals) amount kept = IsRounded decimals amount kept

-- the cash that a row moves as units, where what it is kept as is exactly units
pub record IsCash (decimals : Option ℕ) (row : Row) (cash : ℤ) : Type 0 where
  pub in_range : IsUnits cash
  pub kept : IsKept decimals (cash_weight row) (cash *ℤ pos one)

-- a row has cash: what it moves, as it is kept, is units
abbrev pub HasCash : Option ℕ → Row → Type 0
HasCash decimals row = (cash : ℤ) × IsCash decimals row cash

-- ---- Its postings.

-- without braces and without a price
abbrev pub plain : List ℕ → ℤ → List ℕ → Posting
plain account units commodity =
    record { account = account; amount = Some (record { units = units; commodity = commodity; cost = None; price = None }) }

-- the elided posting to an account
abbrev pub elided : List ℕ → Posting
elided account = record { account = account; amount = None }

-- the lot that a purchase opens
abbrev pub opened : Row → CostSpec
opened row = record { number = Some row.price; currency = Some row.currency; day = None; label = row.lot }

-- the lots that a sale may take from
abbrev pub taken : Row → CostSpec
taken row = record { number = None; currency = None; day = None; label = row.lot }

-- the units of a purchase at their cost
abbrev pub bought : Accounts → Row → Posting
bought accounts row =
    record { account = accounts.invest; amount = Some (record { units = row.units; commodity = row.symbol; cost = Some (Costs.Each (opened row)); price = None }) }

-- the units of a sale, with the other sign, at their price
abbrev pub sold : Accounts → Row → Posting
sold accounts row =
    record { account = accounts.invest; amount = Some (record { units = neg_ℤ row.units; commodity = row.symbol; cost = Some (Costs.Each (taken row)); price = Some (Prices.Each (record { rate = row.price; currency = row.currency })) }) }

-- the fee, unless it is zero
abbrev pub fee_posting : Accounts → Row → List Posting
fee_posting accounts row = if row.fee == 0 then [] else plain accounts.fees (pos row.fee) row.currency ∷ []

abbrev pub cash_posting : Accounts → Row → ℤ → Posting
cash_posting accounts row cash = plain accounts.cash cash row.currency

abbrev pub postings : Action → Accounts → Row → ℤ → List Posting
postings Buy accounts row cash = bought accounts row ∷ (fee_posting accounts row ++ cash_posting accounts row cash ∷ [])
postings Sell accounts row cash =
    sold accounts row ∷ (fee_posting accounts row ++ cash_posting accounts row cash ∷ elided accounts.gains ∷ [])

-- ---- The command.

-- the transaction of a row that moves that cash
abbrev pub transaction_with : Accounts → Row → ℤ → TransactionOf
transaction_with accounts row cash = record {
  day = row.day;
  flag = Complete;
  narration = Some (record { payee = None; text = row.name });
  postings = postings row.action accounts row cash;
}

abbrev pub command_with : Accounts → Row → ℤ → Command
command_with accounts row cash = Commands.Transaction (transaction_with accounts row cash)

-- the command of a row: there is one where the row has cash
pub record IsCommandOf (accounts : Accounts) (decimals : Option ℕ) (row : Row) (command : Command) : Type 0 where
  pub cash : ℤ
  pub moves : IsCash decimals row cash
  pub is : command ≡ command_with accounts row cash

-- ---- The command as it is handed in.

-- the place of the cash among the postings of a row, from 0
abbrev pub cash_place : Row → ℕ
cash_place row = if row.fee == 0 then 1 else 2

-- of a row whose cash is rounded, what it is exactly
abbrev pub exact_cash : Option ℕ → Row → Option RowCash
exact_cash None row = None
exact_cash (Some decimals) row = Some (record { place = cash_place row; exact = cash_weight row })

-- a row as it is handed in
pub record IsAskedOf (accounts : Accounts) (decimals : Option ℕ) (row : Row) (asked : Asked) : Type 0 where
  pub command : IsCommandOf accounts decimals row asked.command
  pub cash : asked.cash ≡ exact_cash decimals row
  pub split : asked.split ≡ None
