-- The laws of books.
use Rattle.std.specs.Prelude.{◌≡◌, ℕ, ◌&&◌, Bool, false, not, if◌then◌else◌, List, [], ◌++◌, map, filter, Option, None, Some, ℤ, pos, ◌*ℤ◌, int_lt, neg_ℤ}
use Rattle.std.specs.List.{AllByRecursion, IsDistinct}
use Rattle.lot_num.specs.Sum.{sum_of}
use Rattle.lot_base.specs.Text.{same_text}
use Rattle.lot_cost.specs.declared.lot_key.LotKey.{LotKey}
use Rattle.lot_inv.specs.Inventory.{other_sign}
use Rattle.lot_command.specs.declared.command.Command.{Command}
use Rattle.lot_command.specs.declared.command.Command.TheVariants.{Opening, Closing, Declaring, Quoting, Transaction}
use Rattle.lot_command.specs.declared.key.Key.{Key}
use Rattle.lot_command.specs.declared.transaction.Amount.{Amount}
use Rattle.lot_command.specs.declared.transaction.Posting.{Posting}
use Rattle.lot_command.specs.declared.transaction.Transaction.{Transaction as TransactionOf}
use Rattle.lot_book.specs.declared.leg.Leg.{Leg}
use Rattle.lot_book.specs.declared.leg.Position.{Position}
use Rattle.lot_book.specs.declared.verdict.Verdict.{Verdict}
use Rattle.lot_book.specs.Balance.{weight_of, weights_in}
use Rattle.lot_book.specs.Booking.{All, Booked, BooksAllUnder, TieRule, legs_in}
use Rattle.lot_book.specs.Currencies.{sum_in}
use Rattle.lot_book.specs.Edition.{Edition, Migration, edition_on, ties_in}
use Rattle.lot_book.specs.Facts.{Entry, Facts, facts_of, is_at_cost, posts_at_cost, same_key}
use Rattle.lot_book.specs.Judged.{JudgesBy, JudgesEach}
use Rattle.lot_book.specs.Leg.{sum_at}
use Rattle.lot_book.specs.Step.{all_legs, fill_legs}
use Rattle.lot_laws.specs.Collects.{Collects}

-- ---- Balance.

-- in every currency the weights of what is booked of a transaction, and of the elided posting's legs, sum to zero
abbrev pub Balances : Facts → TransactionOf → List Booked → Type 0
Balances facts t booked =
    (currency : List ℕ) → sum_in (weights_in booked ++ map weight_of (fill_legs facts t booked)) currency ≡ pos 0

-- the legs are those of a transaction on what a book says, where ties are decided so, which balances
pub record IsBalanced (ties : TieRule) (facts : Facts) (t : TransactionOf) (legs : List Leg) : Type 0 where
  pub booked : List Booked
  pub books : BooksAllUnder ties facts t.day [] 1 t.postings (All booked)
  pub all : legs ≡ all_legs facts t booked
  pub balances : Balances facts t booked

-- ---- What was bought and sold: of the commands alone, which know neither legs nor lots.

-- the units that an amount writes
abbrev pub units_of : Option Amount → ℤ
units_of None = pos 0
units_of (Some amount) = amount.units

-- the units of a posting with braces, of the account and the commodity; none of another posting
abbrev pub units_at_cost : List ℕ → List ℕ → Posting → ℤ
units_at_cost account commodity posting = if posts_at_cost account commodity posting then units_of posting.amount else pos 0

-- units above zero
abbrev pub above_zero : ℤ → ℤ
above_zero units = if int_lt (pos 0) units then units else pos 0

-- units below zero, without their sign
abbrev pub below_zero : ℤ → ℤ
below_zero units = if int_lt units (pos 0) then neg_ℤ units else pos 0

-- the sum over the postings of a command
abbrev pub over_postings : (Posting → ℤ) → Command → ℤ
over_postings f (Opening o) = pos 0
over_postings f (Closing c) = pos 0
over_postings f (Declaring d) = pos 0
over_postings f (Quoting q) = pos 0
over_postings f (Transaction t) = sum_of (map f t.postings)

-- the sum over all postings of a book
abbrev pub over_entries : (Posting → ℤ) → List Entry → ℤ
over_entries f entries = sum_of (map (λ (entry : Entry). over_postings f entry.command) entries)

-- what was ever bought of a commodity into an account, and what was sold out of it
abbrev pub bought : List Entry → List ℕ → List ℕ → ℤ
bought entries account commodity =
    over_entries (λ (posting : Posting). above_zero (units_at_cost account commodity posting)) entries

abbrev pub sold : List Entry → List ℕ → List ℕ → ℤ
sold entries account commodity =
    over_entries (λ (posting : Posting). below_zero (units_at_cost account commodity posting)) entries

-- ---- Signs.

-- no two of the lots have other signs
abbrev pub HaveOneSign : List (LotKey × ℤ) → Type 0
HaveOneSign lots =
    AllByRecursion (λ (lot : LotKey × ℤ). AllByRecursion (λ (other : LotKey × ℤ). other_sign lot.1 other.1 ≡ false) lots) lots

-- ---- Keys.

-- no two entries have one key
abbrev pub HaveOneKeyEach : List Entry → Type 0
HaveOneKeyEach entries = IsDistinct same_key (map (λ (entry : Entry). entry.key) entries)

-- ---- Judging.

-- Commands with their keys, judged one after another, each by the edition that this says of the book before it. By edition 2
-- on every book it is `JudgesAll`, and by the edition of a book with that migration `JudgesAllIn`.
abbrev pub JudgesAllBy : (List Entry → Edition) → List Entry → List (Key × Command) → List Verdict → List Entry → Type 0
JudgesAllBy edition before commands verdicts after =
    JudgesEach (λ book key command verdict next. JudgesBy (edition book) book key command verdict next) before commands verdicts after

-- ---- The cost of lots.

-- the currency of a lot, and its cost there: units times number
abbrev pub cost_of : LotKey × ℤ → List ℕ × ℤ
cost_of lot = (lot.0.currency, lot.1 *ℤ pos lot.0.number)

-- the cost of lots in a currency
abbrev pub cost_in : List (LotKey × ℤ) → List ℕ → ℤ
cost_in lots currency = sum_in (map cost_of lots) currency

-- what is booked of the postings of a command, which has these legs, where ties are decided so
abbrev pub BooksCommand : TieRule → Facts → Command → List Leg → List Booked → Type 0
BooksCommand ties facts (Opening o) legs booked = (legs ≡ []) × (booked ≡ [])
BooksCommand ties facts (Closing c) legs booked = (legs ≡ []) × (booked ≡ [])
BooksCommand ties facts (Declaring d) legs booked = (legs ≡ []) × (booked ≡ [])
BooksCommand ties facts (Quoting q) legs booked = (legs ≡ []) × (booked ≡ [])
BooksCommand ties facts (Transaction t) legs booked =
    (legs ≡ all_legs facts t booked) × BooksAllUnder ties facts t.day [] 1 t.postings (All booked)

-- what is booked of the postings of an entry behind those before it, by the edition there
abbrev pub BooksEntry : Migration → List Entry → Entry → List Booked → Type 0
BooksEntry migration before entry booked =
    BooksCommand (ties_in (edition_on migration before) before) (facts_of before entry.key) entry.command entry.legs booked

-- what is booked of the postings of all entries behind those before them
abbrev pub BooksEntries : Migration → List Entry → List Entry → List Booked → Type 0
BooksEntries migration before entries booked = Collects (BooksEntry migration) before entries booked

-- whether a booked posting has braces, of the account and the commodity
abbrev pub is_booked_at_cost : List ℕ → List ℕ → Booked → Bool
is_booked_at_cost account commodity booked = same_text account booked.account && is_at_cost commodity (Some booked.amount)

-- the weights of the booked postings with braces, of the account and the commodity
abbrev pub weights_at_cost : List ℕ → List ℕ → List Booked → List (List ℕ × ℤ)
weights_at_cost account commodity booked = weights_in (filter (is_booked_at_cost account commodity) booked)

-- ---- What becomes of a lot. A booked posting takes lots away, and is a sale, or it adds to a lot, or it is plain.

-- the position of a lot
abbrev pub lot_at : List ℕ → List ℕ → LotKey → Position
lot_at account commodity lot = record { account = account; commodity = commodity; lot = Some lot }

-- what was ever bought into a lot: the units of the legs there of all postings that take no lots away
abbrev pub bought_into : List Booked → Position → ℤ
bought_into booked lot = sum_at (legs_in (filter (λ (b : Booked). not b.reduces) booked)) lot

-- What was ever sold of it: the units of the legs there of all postings that take lots away. They have their sign, which is
-- below zero where what they take is above it.
abbrev pub sold_of : List Booked → Position → ℤ
sold_of booked lot = sum_at (legs_in (filter (λ (b : Booked). b.reduces) booked)) lot
