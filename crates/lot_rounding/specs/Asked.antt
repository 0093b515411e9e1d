-- Commands as they are handed in, what a row's command says at other decimals (its cash is rounded to those), and splits.
use Rattle.std.specs.Prelude.{◌≡◌, ℕ, suc, ◌≤◌, List, [], ◌∷◌, map, take, drop, ◌++◌, Option, None, Some, ℤ, pos, ◌*ℤ◌}
use Rattle.std.specs.Option.{option_map}
use Rattle.lot_num.specs.Amount.{IsUnits, one}
use Rattle.lot_command.specs.declared.command.Command.{Command}
use Rattle.lot_command.specs.declared.command.Command.TheVariants.{Transaction}
use Rattle.lot_command.specs.declared.transaction.Amount.{Amount}
use Rattle.lot_command.specs.declared.transaction.Flag.TheVariants.{Complete}
use Rattle.lot_command.specs.declared.transaction.Narration.{Narration}
use Rattle.lot_command.specs.declared.transaction.Posting.{Posting}
use Rattle.lot_command.specs.declared.transaction.Transaction.{Transaction as TransactionOf}
use Rattle.lot_rounding.specs.Nearest.{IsRounded, most_decimals}
use Rattle.lot_rounding.specs.declared.asked.Asked.{Asked}
use Rattle.lot_rounding.specs.declared.asked.RowCash.{RowCash}
use Rattle.lot_rounding.specs.declared.ratio.Change.{Change}

-- ---- Commands as they are handed in.

-- a command of which nothing was rounded
abbrev pub plain : Command → Asked
plain command = record { command = command; cash = None; split = None }

-- ---- Splits.

-- one unit that comes in without a cost
abbrev pub one_more : List ℕ → List ℕ → Posting
one_more account commodity =
    record { account = account; amount = Some (record { units = pos one; commodity = commodity; cost = None; price = None }) }

-- The command that stands for a split before its turn. It doesn't balance, so no book accepts it.
abbrev pub unsplit : ℤ → Option Narration → List ℕ → List ℕ → Command
unsplit day narration account commodity =
    Transaction (record { day = day; flag = Complete; narration = narration; postings = one_more account commodity ∷ [] })

-- a split of that day, of the lots of a commodity in an account
abbrev pub splitting : ℤ → Option Narration → List ℕ → List ℕ → Change → Asked
splitting day narration account commodity change =
    record { command = unsplit day narration account commodity; cash = None; split = Some change }

-- ---- The cash of a row.

-- a posting with other units, if it has an amount
abbrev pub with_units : ℤ → Posting → Posting
with_units units posting =
    record posting { amount = option_map (λ (a : Amount). record a { units = units }) posting.amount }

-- postings with other units at that place, from 0
abbrev pub with_units_at : ℕ → ℤ → List Posting → List Posting
with_units_at place units postings =
    take place postings ++ map (with_units units) (take 1 (drop place postings)) ++ drop (suc place) postings

-- the transaction of a row with its cash rounded to so many decimals
pub record HasCashAt (cash : RowCash) (decimals : ℕ) (t written : TransactionOf) : Type 0 where
  pub units : ℤ
  pub in_range : IsUnits units
  pub rounds : IsRounded decimals cash.exact (units *ℤ pos one)
  pub is : written ≡ record t { postings = with_units_at cash.place units t.postings }

-- the same at some decimals; a transaction that isn't of a row has no cash, and is itself alone
abbrev pub IsAtSomeDecimals : Option RowCash → TransactionOf → TransactionOf → Type 0
IsAtSomeDecimals None t written = written ≡ t
IsAtSomeDecimals (Some cash) t written = (decimals : ℕ) × (decimals ≤ most_decimals) × HasCashAt cash decimals t written
