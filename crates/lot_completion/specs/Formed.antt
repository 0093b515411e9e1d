-- The parts of the way to a completion by form, for the code alone.
use Rattle.std.specs.Prelude.{◌≡◌, ℕ, if◌then◌else◌, List, [], ◌∷◌, ◌++◌, flat_map, Option, None, Some, ℤ, pos, ◌*ℤ◌, nat_le, unsigned_abs}
use Rattle.std.specs.List.{list_any}
use Rattle.lot_num.specs.Amount.{one}
use Rattle.lot_base.specs.Text.{same_text}
use Rattle.lot_book.specs.Balance.{residuals}
use Rattle.lot_command.specs.Canonical.{canonical}
use Rattle.lot_command.specs.Sayable.{IsSayable}
use Rattle.lot_command.specs.declared.command.Command.TheVariants.{Transaction}
use Rattle.lot_command.specs.declared.price.Price.{Price}
use Rattle.lot_command.specs.declared.price.Price.TheVariants.{Each, Whole}
use Rattle.lot_command.specs.declared.transaction.Amount.{Amount}
use Rattle.lot_command.specs.declared.transaction.Posting.{Posting}
use Rattle.lot_command.specs.declared.transaction.Transaction.{Transaction as TransactionOf}
use Rattle.lot_completion.specs.Crumbs.{crumb_postings}
use Rattle.lot_completion.specs.Rates.{RatesAll, postings_of}
use Rattle.lot_completion.specs.declared.rates.RatedPosting.{RatedPosting}
use Rattle.lot_rounding.specs.Asked.{HasCashAt, IsAtSomeDecimals}
use Rattle.lot_rounding.specs.declared.asked.RowCash.{RowCash}

-- ---- Crumbs, read back from the postings that make up for them.

-- how much units at a price make up for, of a crumb of at most one; for nothing, where they are too many
abbrev pub part_of : ℤ → Option Price → ℤ
part_of units None = if nat_le (unsigned_abs units) one then units *ℤ pos one else pos 0
part_of units (Some (Each price)) = if nat_le (unsigned_abs units) 1 then units *ℤ pos price.rate else pos 0
part_of units (Some (Whole price)) = pos 0

abbrev pub part_at : Option Amount → List (List ℕ × ℤ)
part_at None = []
part_at (Some amount) = (amount.commodity, part_of amount.units amount.price) ∷ []

abbrev pub parts_in : List Posting → List (List ℕ × ℤ)
parts_in postings = flat_map (λ (p : Posting). part_at p.amount) postings

-- the crumbs that postings make up for, if they do so for some: in each currency what they make up for together
abbrev pub crumbs_behind : List Posting → List (List ℕ × ℤ)
crumbs_behind postings = residuals (parts_in postings)

-- crumbs with one more behind, unless there is one in its currency
abbrev pub with_new : List (List ℕ × ℤ) → List ℕ × ℤ → List (List ℕ × ℤ)
with_new crumbs crumb = if list_any (λ (c : List ℕ × ℤ). same_text crumb.0 c.0) crumbs then crumbs else crumbs ++ crumb ∷ []

-- the postings of the account of the first of some that make up for crumbs
abbrev pub made_by : List Posting → List (List ℕ × ℤ) → List Posting
made_by [] crumbs = []
made_by (p ∷ ps) crumbs = flat_map (crumb_postings p.account) crumbs

-- ---- Transactions with postings behind.

-- a transaction with the rates of another, and these postings behind
abbrev pub formed : TransactionOf → List RatedPosting → List Posting → TransactionOf
formed written rated crumbs = record written { postings = postings_of rated ++ crumbs }

-- such a transaction has that text
pub record IsFormed (text : List ℕ) (written : TransactionOf) (crumbs : List Posting) : Type 0 where
  pub rated : List RatedPosting
  pub rates : RatesAll written.postings rated
  pub sayable : IsSayable (Transaction (formed written rated crumbs))
  pub says : text ≡ canonical (Transaction (formed written rated crumbs))

-- the same of a transaction with the cash of a row at so many decimals
abbrev pub IsFormedAt : List ℕ → RowCash → ℕ → TransactionOf → List Posting → Type 0
IsFormedAt text cash decimals t crumbs =
    (written : TransactionOf) × HasCashAt cash decimals t written × IsFormed text written crumbs

-- and at some decimals
abbrev pub IsFormedAtSome : List ℕ → Option RowCash → TransactionOf → List Posting → Type 0
IsFormedAtSome text cash t crumbs =
    (written : TransactionOf) × IsAtSomeDecimals cash t written × IsFormed text written crumbs
