-- The words that stand for values of a few kinds (docs/FORMATS.md, Profiles).
use Rattle.std.specs.Prelude.{ℕ, List, [], ◌∷◌, codes}
use Rattle.lot_profile.specs.declared.file.Encoding.{Encoding}
use Rattle.lot_profile.specs.declared.file.Encoding.TheVariants as encoding
use Rattle.lot_profile.specs.declared.file.Delimiter.{Delimiter}
use Rattle.lot_profile.specs.declared.file.Delimiter.TheVariants as delimiter
use Rattle.lot_field.specs.declared.numbers.DecimalMark.{DecimalMark}
use Rattle.lot_field.specs.declared.numbers.DecimalMark.TheVariants as decimal_mark
use Rattle.lot_profile.specs.declared.table.Order.{Order}
use Rattle.lot_profile.specs.declared.table.Order.TheVariants as order
use Rattle.lot_profile.specs.declared.basis.CostBasis.{CostBasis}
use Rattle.lot_profile.specs.declared.basis.CostBasis.TheVariants as cost_basis
use Rattle.lot_profile.specs.declared.basis.Rewards.{Rewards}
use Rattle.lot_profile.specs.declared.basis.Rewards.TheVariants as rewards
use Rattle.lot_profile.specs.declared.kind.Kind.{Kind}
use Rattle.lot_profile.specs.declared.kind.Kind.TheVariants as kind
use Rattle.lot_profile.specs.declared.account.AccountRole.{AccountRole}
use Rattle.lot_profile.specs.declared.account.AccountRole.TheVariants as account_role
use Rattle.lot_profile.specs.declared.role.Role.{Role}
use Rattle.lot_profile.specs.declared.role.Role.TheVariants as role

-- how bytes are read as text
abbrev pub encoding_word : Encoding → List ℕ
encoding_word encoding.Utf8 = codes "utf-8"
encoding_word encoding.Latin1 = codes "latin-1"

abbrev pub encoding_all : List Encoding
encoding_all = encoding.Utf8 ∷ encoding.Latin1 ∷ []

-- what stands between fields
abbrev pub delimiter_word : Delimiter → List ℕ
delimiter_word delimiter.Comma = codes ","
delimiter_word delimiter.Semicolon = codes ";"
delimiter_word delimiter.Tab = 9 ∷ []

abbrev pub delimiter_all : List Delimiter
delimiter_all = delimiter.Comma ∷ delimiter.Semicolon ∷ delimiter.Tab ∷ []

-- what stands before decimals
abbrev pub decimal_mark_word : DecimalMark → List ℕ
decimal_mark_word decimal_mark.Point = codes "."
decimal_mark_word decimal_mark.Comma = codes ","

abbrev pub decimal_mark_all : List DecimalMark
decimal_mark_all = decimal_mark.Point ∷ decimal_mark.Comma ∷ []

-- the order of rows
abbrev pub order_word : Order → List ℕ
order_word order.OldestFirst = codes "oldest-first"
order_word order.NewestFirst = codes "newest-first"
order_word order.ByDay = codes "by-day"
order_word order.ByDayNewestFirst = codes "by-day-newest-first"

abbrev pub order_all : List Order
order_all = order.OldestFirst ∷ order.NewestFirst ∷ order.ByDay ∷ order.ByDayNewestFirst ∷ []

-- what counts as cost
abbrev pub cost_basis_word : CostBasis → List ℕ
cost_basis_word cost_basis.Amount = codes "amount"
cost_basis_word cost_basis.Price = codes "price"

abbrev pub cost_basis_all : List CostBasis
cost_basis_all = cost_basis.Amount ∷ cost_basis.Price ∷ []

-- what rewards count as
abbrev pub rewards_word : Rewards → List ℕ
rewards_word rewards.Value = codes "value"
rewards_word rewards.Zero = codes "zero"

abbrev pub rewards_all : List Rewards
rewards_all = rewards.Value ∷ rewards.Zero ∷ []

-- what a row is
abbrev pub kind_word : Kind → List ℕ
kind_word kind.Buy = codes "buy"
kind_word kind.Sell = codes "sell"
kind_word kind.CancelBuy = codes "cancel-buy"
kind_word kind.CancelSell = codes "cancel-sell"
kind_word kind.Dividend = codes "dividend"
kind_word kind.Interest = codes "interest"
kind_word kind.Tax = codes "tax"
kind_word kind.Fee = codes "fee"
kind_word kind.Deposit = codes "deposit"
kind_word kind.Withdrawal = codes "withdrawal"
kind_word kind.Exchange = codes "exchange"
kind_word kind.Reward = codes "reward"
kind_word kind.TransferIn = codes "transfer-in"
kind_word kind.Split = codes "split"
kind_word kind.Price = codes "price"
kind_word kind.ByHand = codes "by-hand"
kind_word kind.Skip = codes "skip"

abbrev pub kind_all : List Kind
kind_all = kind.Buy ∷ kind.Sell ∷ kind.CancelBuy ∷ kind.CancelSell ∷ kind.Dividend ∷ kind.Interest ∷ kind.Tax ∷ kind.Fee ∷ kind.Deposit ∷ kind.Withdrawal ∷ kind.Exchange ∷ kind.Reward ∷ kind.TransferIn ∷ kind.Split ∷ kind.Price ∷ kind.ByHand ∷ kind.Skip ∷ []

-- what an account is for
abbrev pub account_role_word : AccountRole → List ℕ
account_role_word account_role.Invest = codes "invest"
account_role_word account_role.Cash = codes "cash"
account_role_word account_role.Fees = codes "fees"
account_role_word account_role.Gains = codes "gains"
account_role_word account_role.Dividends = codes "dividends"
account_role_word account_role.Interest = codes "interest"
account_role_word account_role.Rewards = codes "rewards"
account_role_word account_role.Tax = codes "tax"
account_role_word account_role.Transfers = codes "transfers"
account_role_word account_role.Rounding = codes "rounding"

abbrev pub account_role_all : List AccountRole
account_role_all = account_role.Invest ∷ account_role.Cash ∷ account_role.Fees ∷ account_role.Gains ∷ account_role.Dividends ∷ account_role.Interest ∷ account_role.Rewards ∷ account_role.Tax ∷ account_role.Transfers ∷ account_role.Rounding ∷ []

-- what a column holds
abbrev pub role_word : Role → List ℕ
role_word role.Account = codes "account"
role_word role.Amount = codes "amount"
role_word role.Booked = codes "booked"
role_word role.BookedCurrency = codes "booked-currency"
role_word role.Cost = codes "cost"
role_word role.CostDay = codes "cost-day"
role_word role.Currency = codes "currency"
role_word role.Day = codes "day"
role_word role.Fee = codes "fee"
role_word role.FeeCurrency = codes "fee-currency"
role_word role.Note = codes "note"
role_word role.Other = codes "other"
role_word role.OtherCurrency = codes "other-currency"
role_word role.Price = codes "price"
role_word role.PriceCurrency = codes "price-currency"
role_word role.Rate = codes "rate"
role_word role.Ratio = codes "ratio"
role_word role.Ref = codes "ref"
role_word role.Symbol = codes "symbol"
role_word role.Tax = codes "tax"
role_word role.TaxCurrency = codes "tax-currency"
role_word role.Time = codes "time"
role_word role.Units = codes "units"

abbrev pub role_all : List Role
role_all = role.Account ∷ role.Amount ∷ role.Booked ∷ role.BookedCurrency ∷ role.Cost ∷ role.CostDay ∷ role.Currency ∷ role.Day ∷ role.Fee ∷ role.FeeCurrency ∷ role.Note ∷ role.Other ∷ role.OtherCurrency ∷ role.Price ∷ role.PriceCurrency ∷ role.Rate ∷ role.Ratio ∷ role.Ref ∷ role.Symbol ∷ role.Tax ∷ role.TaxCurrency ∷ role.Time ∷ role.Units ∷ []
