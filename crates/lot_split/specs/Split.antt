-- The transaction that splits lots, and why there is none.
use Rattle.std.specs.Prelude.{◌≡◌, ◌≢◌, ◌≤◌, ◌<◌, ℕ, true, false, not, List, [], ◌∷◌, ◌++◌, length, map, flat_map, position, None, Some, ℤ, neg_ℤ}
use Rattle.std.specs.List.{AllZip}
use Rattle.lot_num.specs.Amount.{IsUnits}
use Rattle.lot_cost.specs.declared.cost.Cost.TheVariants.{Each}
use Rattle.lot_cost.specs.declared.cost_spec.CostSpec.{CostSpec}
use Rattle.lot_cost.specs.declared.lot_key.LotKey.{LotKey}
use Rattle.lot_cost.specs.declared.method.Method.{Method}
use Rattle.lot_cost.specs.declared.method.Method.TheVariants.{Strict, Fifo, Lifo, Hifo, Unmatched}
use Rattle.lot_command.specs.declared.transaction.Flag.TheVariants.{Complete}
use Rattle.lot_command.specs.declared.transaction.Posting.{Posting}
use Rattle.lot_command.specs.declared.transaction.Transaction.{Transaction}
use Rattle.lot_split.specs.Crumbs.{crumb_postings}
use Rattle.lot_split.specs.Lots.{Becomes, OneBecomesNone, can_be_taken, crumb_in, currencies_of, divides, held_of}
use Rattle.lot_rounding.specs.Ratio.{AreInRatio, IsLowest, amounts_of}
use Rattle.lot_split.specs.declared.fault.SplitFault.{SplitFault}
use Rattle.lot_split.specs.declared.fault.SplitFault.TheVariants as fault
use Rattle.lot_split.specs.declared.lot.HeldLot.{HeldLot}
use Rattle.lot_rounding.specs.declared.ratio.Ratio.{Ratio}
use Rattle.lot_split.specs.declared.transaction.Split.{Split}

-- ---- Limits (docs/RULES.md, Limits).

-- The most lots that are split at once. One posting takes them, as many open them again, and three are left for crumbs.
abbrev pub most_divided : ℕ
most_divided = 60

-- the most postings of a transaction
abbrev pub most_postings : ℕ
most_postings = 64

-- ---- The postings.

-- no part of a lot: it fits each
abbrev pub each_lot : CostSpec
each_lot = record { number = None; currency = None; day = None; label = None }

-- all parts of a lot
abbrev pub parts_of : LotKey → CostSpec
parts_of key = record { number = Some key.number; currency = Some key.currency; day = Some key.day; label = key.label }

-- a posting of so many units to the account that is split, with braces
abbrev pub braced : Split → ℤ → CostSpec → Posting
braced asked units spec = record {
  account = asked.account;
  amount = Some (record { units = units; commodity = asked.commodity; cost = Some (Each spec); price = None });
}

-- One posting takes all lots: `{}` fits them, and there are no others. So each is taken whole under STRICT, where it is their sum,
-- and under FIFO, LIFO and HIFO, whatever their order. Under NONE, where nothing is taken, each lot has its units with the other
-- sign added, at its own key.
abbrev pub takings : Split → Method → List HeldLot → List Posting
takings asked Strict lots = braced asked (neg_ℤ (held_of lots)) each_lot ∷ []
takings asked Fifo lots = braced asked (neg_ℤ (held_of lots)) each_lot ∷ []
takings asked Lifo lots = braced asked (neg_ℤ (held_of lots)) each_lot ∷ []
takings asked Hifo lots = braced asked (neg_ℤ (held_of lots)) each_lot ∷ []
takings asked Unmatched lots = map (λ (l : HeldLot). braced asked (neg_ℤ l.units) (parts_of l.key)) lots

-- Each lot is opened again, at its key. Lots of one day, currency and label whose numbers become the same are one lot then.
abbrev pub openings : Split → List HeldLot → List Posting
openings asked split = map (λ (l : HeldLot). braced asked l.units (parts_of l.key)) split

-- the account for crumbs takes that of each currency
abbrev pub crumbs : Split → List HeldLot → List HeldLot → List Posting
crumbs asked lots split =
    flat_map (λ (currency : List ℕ). crumb_postings asked.rounding currency (crumb_in lots split currency)) (currencies_of lots)

-- All lots are taken before the first is opened again. So no lot that is opened is taken, and the lots have opening numbers in
-- the order in which they stand. It balances: in each currency the takings weigh what the lots cost, with the other sign, the
-- openings what they cost once they are split, and the crumb what is between.
abbrev pub postings_of : Split → Method → List HeldLot → List HeldLot → List Posting
postings_of asked method lots split = takings asked method lots ++ openings asked split ++ crumbs asked lots split

-- ---- Splits.

-- there are lots, not too many of them, and all can be taken
pub record CanBeSplit (method : Method) (lots : List HeldLot) : Type 0 where
  pub some : lots ≢ []
  pub few : length lots ≤ most_divided
  pub taken : can_be_taken method lots ≡ true
  pub in_range : IsUnits (held_of lots)

-- they can be, in that ratio in lowest terms
pub record CanBeSplitIn (asked : Split) (method : Method) (lots : List HeldLot) (ratio : Ratio) : Type 0 where
  pub can : CanBeSplit method lots
  pub lowest : IsLowest (amounts_of asked.change (held_of lots)) ratio

-- the lots, in the order of their opening numbers, become others
pub record Splits (asked : Split) (method : Method) (lots split : List HeldLot) : Type 0 where
  pub ratio : Ratio
  pub can : CanBeSplitIn asked method lots ratio
  pub become : AllZip (Becomes ratio) lots split

-- the transaction that splits them
pub record IsSplit (asked : Split) (method : Method) (lots : List HeldLot) (t : Transaction) : Type 0 where
  pub split : List HeldLot
  pub splits : Splits asked method lots split
  pub few : length (postings_of asked method lots split) ≤ most_postings
  pub is : t ≡ record {
    day = asked.day;
    flag = Complete;
    narration = asked.narration;
    postings = postings_of asked method lots split;
  }

-- ---- Faults.

-- when a fault of what is held comes, behind those before it
abbrev pub IsHoldingFault : Method → List HeldLot → SplitFault → Type 0
IsHoldingFault method lots fault.NothingHeld = lots ≡ []
IsHoldingFault method lots fault.TooManyLots = most_divided < length lots
IsHoldingFault method lots fault.BothSigns =
    (lots ≢ []) × (length lots ≤ most_divided) × (can_be_taken method lots ≡ false)
IsHoldingFault method lots fault.SumOutOfRange =
    (lots ≢ []) × (length lots ≤ most_divided) × (can_be_taken method lots ≡ true) × (IsUnits (held_of lots) → ⊥)
IsHoldingFault method lots _ = ⊥

-- when each fault comes, behind those before it; memory may run out at any time
abbrev pub HasFault : Split → Method → List HeldLot → SplitFault → Type 0
HasFault asked method lots fault.NotOpened = ⊥
HasFault asked method lots fault.NothingHeld = IsHoldingFault method lots fault.NothingHeld
HasFault asked method lots fault.TooManyLots = IsHoldingFault method lots fault.TooManyLots
HasFault asked method lots fault.BothSigns = IsHoldingFault method lots fault.BothSigns
HasFault asked method lots fault.SumOutOfRange = IsHoldingFault method lots fault.SumOutOfRange
HasFault asked method lots fault.BadRatio =
    CanBeSplit method lots × ((ratio : Ratio) → AreInRatio (amounts_of asked.change (held_of lots)) ratio → ⊥)
HasFault asked method lots (fault.Undivided place) =
    (ratio : Ratio) × CanBeSplitIn asked method lots ratio
    × (position (λ (l : HeldLot). not (divides ratio l.units)) lots ≡ Some place)
HasFault asked method lots fault.OutOfRange =
    (ratio : Ratio) × CanBeSplitIn asked method lots ratio
    × (position (λ (l : HeldLot). not (divides ratio l.units)) lots ≡ None) × OneBecomesNone ratio lots
HasFault asked method lots fault.TooManyPostings =
    (split : List HeldLot) × Splits asked method lots split × (most_postings < length (postings_of asked method lots split))
HasFault asked method lots fault.Memory = Unit {0}
