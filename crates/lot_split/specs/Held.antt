-- The lots that an account holds of a commodity, and the split of them on what a book says.
use Rattle.std.specs.Prelude.{◌≡◌, ℕ, ⊤, List, [], ◌∷◌, map, Option, None, Some, ℤ}
use Rattle.std.specs.declared.cmp.Ordering.{Ordering}
use Rattle.std.specs.List.Sorted.{IsPermutation, IsStrictlySortedBy}
use Rattle.std.specs.Ordering.{nat_cmp, ordering_then}
use Rattle.lot_cost.specs.declared.lot_key.LotKey.{LotKey}
use Rattle.lot_cost.specs.LotKey.{lot_cmp}
use Rattle.lot_command.specs.declared.command.Command.{Command}
use Rattle.lot_command.specs.declared.command.Command.TheVariants.{Opening, Closing, Declaring, Quoting, Transaction}
use Rattle.lot_command.specs.declared.transaction.Amount.{Amount}
use Rattle.lot_command.specs.declared.transaction.Posting.{Posting}
use Rattle.lot_command.specs.declared.transaction.Transaction.{Transaction as TransactionOf}
use Rattle.lot_inv.specs.Inventory.{Held, lots_of}
use Rattle.lot_booking.specs.Method.{Ties, ByKey, ByOpening}
use Rattle.lot_book.specs.Booking.{TieRule}
use Rattle.lot_book.specs.Facts.{Facts}
use Rattle.lot_book.specs.declared.standing.Standing.{Standing}
use Rattle.lot_rounding.specs.declared.ratio.Change.{Change}
use Rattle.lot_split.specs.Split.{HasFault, IsSplit}
use Rattle.lot_split.specs.declared.fault.SplitFault.{SplitFault}
use Rattle.lot_split.specs.declared.fault.SplitFault.TheVariants as fault
use Rattle.lot_split.specs.declared.lot.HeldLot.{HeldLot}
use Rattle.lot_split.specs.declared.transaction.Split.{Split}

-- ---- Lots in the order in which they were opened.

-- the order of opening numbers; of keys, where these are equal or unknown
abbrev pub opened_cmp : Ties → LotKey → LotKey → Ordering
opened_cmp ByKey a b = lot_cmp a b
opened_cmp (ByOpening opening) a b = ordering_then (nat_cmp (opening a) (opening b)) (lot_cmp a b)

abbrev pub key_of : HeldLot → LotKey
key_of lot = lot.key

abbrev pub key_and_units : HeldLot → LotKey × ℤ
key_and_units lot = (lot.key, lot.units)

-- all lots of a commodity that are held, each once, the one that was opened first before the others
pub record AreHeld (ties : Ties) (held : Held) (commodity : List ℕ) (lots : List HeldLot) : Type 0 where
  pub all : IsPermutation (lots_of held commodity) (map key_and_units lots)
  pub in_order : IsStrictlySortedBy (opened_cmp ties) (map key_of lots)

-- ---- What is asked for.

abbrev pub split_at : List ℕ → Change → TransactionOf → List ℕ → Option Amount → Option Split
split_at rounding change t account None = None
split_at rounding change t account (Some amount) = Some (record {
  day = t.day;
  narration = t.narration;
  account = account;
  commodity = amount.commodity;
  rounding = rounding;
  change = change;
})

abbrev pub split_in : List ℕ → Change → TransactionOf → List Posting → Option Split
split_in rounding change t [] = None
split_in rounding change t (posting ∷ []) = split_at rounding change t posting.account posting.amount
split_in rounding change t (posting ∷ other ∷ more) = None

-- the split that a command asks for: of the lots of the commodity in the account that its only posting names
abbrev pub split_of : List ℕ → Change → Command → Option Split
split_of rounding change (Transaction t) = split_in rounding change t t.postings
split_of rounding change (Opening opening) = None
split_of rounding change (Closing closing) = None
split_of rounding change (Declaring declaring) = None
split_of rounding change (Quoting quoting) = None

-- ---- Splits on what a book says.

-- the account is opened with that method, and holds these lots of the commodity
pub record Holds (ties : TieRule) (facts : Facts) (asked : Split) (standing : Standing) (lots : List HeldLot) : Type 0 where
  pub opened : facts.standing asked.account ≡ Some standing
  pub held : AreHeld (ties [] asked.account asked.commodity) (facts.held asked.account) asked.commodity lots

-- a transaction splits all lots of the commodity that the account holds
pub record IsSplitOn (ties : TieRule) (facts : Facts) (asked : Split) (t : TransactionOf) : Type 0 where
  pub standing : Standing
  pub lots : List HeldLot
  pub holds : Holds ties facts asked standing lots
  pub is : IsSplit asked standing.method lots t

-- there is none, for that fault of the lots that the account holds
pub record FailsOn (ties : TieRule) (facts : Facts) (asked : Split) (given : SplitFault) : Type 0 where
  pub standing : Standing
  pub lots : List HeldLot
  pub holds : Holds ties facts asked standing lots
  pub fails : HasFault asked standing.method lots given

-- why there is none; memory may run out at any time
abbrev pub HasFaultOn : TieRule → Facts → Split → SplitFault → Type 0
HasFaultOn ties facts asked fault.NotOpened = facts.standing asked.account ≡ None
HasFaultOn ties facts asked fault.Memory = ⊤
HasFaultOn ties facts asked given = FailsOn ties facts asked given
