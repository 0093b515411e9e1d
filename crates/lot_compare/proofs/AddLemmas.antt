-- The rows that a walk has given are added to the sums.
use Rattle.std.proofs.Common.{◌≡◌, ◌≢◌, [], ◌∷◌, ◌++◌, List, Some, None, Ok, map, refl, sym, ap, subst}
use Rattle.std.specs.Prelude.{false, flat_map}
use Rattle.sqlite.specs.Store.{Ghosts}
use Rattle.lot_book.specs.Facts.{Entry}
use Rattle.lot_book.specs.declared.holding.Holding.{Holding}
use Rattle.lot_rows.specs.Tables.{Tables}
use Rattle.lot_report.proofs.EachLemmas.{text_more}
use Rattle.lot_report.specs.declared.fault.RowFault.{RowFault}
use Rattle.lot_report.specs.declared.fault.RowFault.TheVariants.{Report, Spent}
use Rattle.lot_report.specs.declared.fault.ReportFault.TheVariants as report
use Rattle.lot_store.specs.Walk.{Walks}
use Rattle.lot_store.specs.declared.book.Book.{Book}
use Rattle.lot_store.specs.declared.walk.Walk.{Walk}
use Rattle.lot_walk.specs.Gains.{AreSalesWithin}
use Rattle.lot_walk.specs.Holdings.{AreHoldings}
use Rattle.lot_walk.specs.declared.gains.NumberedSale.{NumberedSale}
use Rattle.lot_book_report.proofs.GivenLemmas.{Gave, GivesMore, gave_all, gave_more}
use Rattle.lot_book_report.specs.Fault.{is_of_writer}
use Rattle.lot_book_report.specs.Show.{HoldsOfBook}
use Rattle.lot_book_report.specs.declared.fault.ShowFault.TheVariants.{Row as AtRow}
use Rattle.lot_compare.proofs.SumLemmas.{adds_both, adds_none}
use Rattle.lot_compare.specs.Amounts.{IsOfSum, gain_amounts, held_amount, year_amounts}
use Rattle.lot_compare.specs.Books.{AddsGains, AddsHeld}
use Rattle.lot_compare.specs.Sums.{AddsAmounts, Amount}
use Rattle.lot_compare.specs.declared.subject.Subject.{Subject}
use Rattle.lot_compare.specs.declared.sums.Side.{Side}
use Rattle.lot_compare.specs.declared.sums.Sides.{Sides}

-- ---- the fault of a sum

pub sum_not_of_writer : (fault : RowFault) → IsOfSum fault → is_of_writer (AtRow fault) ≡ false
sum_not_of_writer (Report report.Range) of_sum = refl
sum_not_of_writer (Report report.Write) of_sum = absurd of_sum
sum_not_of_writer (Report report.Memory) of_sum = refl
sum_not_of_writer Spent of_sum = absurd of_sum

pub sum_unspent : (fault : RowFault) → IsOfSum fault → fault ≢ Spent
sum_unspent (Report fault) of_sum is = cc
sum_unspent Spent of_sum is = absurd of_sum

-- ---- the rows of a walk

module _ {S Place Row Asked Shown : Type 0} (g : Ghosts S) (shown : Row → Shown) (IsGood : Row → Type 0) (AreAll : Asked → List Entry → List Shown → Type 0)
    (IsBehind : Place → Tables → Asked → List Entry → List Shown → Type 0) (IsBehindRows : Place → Tables → Asked → List Shown → Type 0)
    (amounts_of : Shown → List Amount) (side : Side) (book : Book S g) (asked : Asked) (before : List (Subject × Sides)) where
  -- the amounts of the rows that a walk has given are in the sums
  pub record HasAdded (walk : Walk S Place g) (now : List (Subject × Sides)) : Type 0 where
    pub given : List Shown
    pub gave : Gave g AreAll IsBehind IsBehindRows book asked walk given
    pub adds : AddsAmounts side (flat_map amounts_of given) before now

  pub added_none : (walk : Walk S Place g) → Gave g AreAll IsBehind IsBehindRows book asked walk [] → HasAdded walk before
  added_none walk gave = record { given = []; gave = gave; adds = adds_none side before }

  pub added_more : (walk after : Walk S Place g) (mid now : List (Subject × Sides)) (row : Row) → (has : HasAdded walk mid)
      → Walks g shown IsGood AreAll IsBehind walk after (Ok (Some row)) → GivesMore g shown IsBehindRows walk after row
      → AddsAmounts side (amounts_of (shown row)) mid now → HasAdded after now
  added_more walk after mid now row has walks rows adds = record {
    given = has.given ++ shown row ∷ [];
    gave = gave_more has.gave row walks rows;
    adds = subst (λ (all : List Amount). AddsAmounts side all before now) (sym (text_more amounts_of has.given (shown row)))
        (adds_both side (flat_map amounts_of has.given) (amounts_of (shown row)) before mid now has.adds adds);
  }

  -- at its end those of all rows are
  pub added_all : (walk after : Walk S Place g) (now : List (Subject × Sides)) → HasAdded walk now
      → Walks g shown IsGood AreAll IsBehind walk after (Ok None)
      → HoldsOfBook g book after.book.now (λ entries. (all : List Shown) × AreAll asked entries all × AddsAmounts side (flat_map amounts_of all) before now)
  added_all walk after now has walks = record {
    holds = λ clean entries stands. (has.given, gave_all has.gave walks clean entries stands, has.adds);
  }

-- ---- sales

pub gains_added : {S : Type 0} (g : Ghosts S) (old new : Book S g) (side : Side) (before now : List (Subject × Sides))
    → HoldsOfBook g old new (λ entries. (all : List NumberedSale) × AreSalesWithin (None, None) entries all
    × AddsAmounts side (flat_map (λ (sold : NumberedSale). year_amounts sold.sale) all) before now)
    → HoldsOfBook g old new (λ entries. AddsGains side entries before now)
gains_added g old new side before now holds = record {
  holds = λ clean entries stands. let (all, are, adds) = holds.holds clean entries stands in (gain_amounts all, (all, are, refl), adds);
}

-- ---- holdings

each_held : (holdings : List Holding) → flat_map (λ (h : Holding). held_amount h ∷ []) holdings ≡ map held_amount holdings
each_held [] = refl
each_held (h ∷ holdings) = ap (λ (all : List Amount). held_amount h ∷ all) (each_held holdings)

pub held_added : {S : Type 0} (g : Ghosts S) (old new : Book S g) (side : Side) (before now : List (Subject × Sides))
    → HoldsOfBook g old new (λ entries. (all : List Holding) × AreHoldings tt entries all
    × AddsAmounts side (flat_map (λ (h : Holding). held_amount h ∷ []) all) before now)
    → HoldsOfBook g old new (λ entries. AddsHeld side entries before now)
held_added g old new side before now holds = record {
  holds = λ clean entries stands.
      let (all, are, adds) = holds.holds clean entries stands in
      (map held_amount all, (all, are, refl), subst (λ (amounts : List Amount). AddsAmounts side amounts before now) (each_held all) adds);
}
