-- What a book gained in each year and holds in each account, and where two books differ.
use Rattle.std.specs.Prelude.{◌≡◌, ℕ, ℤ, List, ◌++◌, map, filter, flat_map, None, ⊤}
use Rattle.lot_num.specs.Sum.{sum_of}
use Rattle.lot_base.specs.Day.{four_digits, year_of}
use Rattle.lot_book.specs.Facts.{Entry, legs_of}
use Rattle.lot_book.specs.Sale.{SaleParts}
use Rattle.lot_book.specs.declared.holding.Holding.{Holding}
use Rattle.lot_book.specs.declared.leg.Leg.{Leg}
use Rattle.lot_book.specs.declared.leg.Position.{Position}
use Rattle.lot_report.specs.Gains.{amounts_in, gained}
use Rattle.lot_report.specs.declared.fault.ReportFault.TheVariants as report
use Rattle.lot_report.specs.declared.fault.RowFault.{RowFault}
use Rattle.lot_report.specs.declared.fault.RowFault.TheVariants.{Report, Spent}
use Rattle.lot_walk.specs.Gains.{AreSalesWithin}
use Rattle.lot_walk.specs.Holdings.{IsHoldings}
use Rattle.lot_walk.specs.declared.gains.NumberedSale.{NumberedSale}
use Rattle.lot_compare.specs.Lines.{Difference, of_kind}
use Rattle.lot_compare.specs.Sums.{Amount, AreDifferences, same_subject}
use Rattle.lot_compare.specs.declared.lines.Kind.TheVariants.{Gained, Held}
use Rattle.lot_compare.specs.declared.subject.Subject.{Subject}
use Rattle.lot_compare.specs.declared.sums.Sides.{Sides}

-- ---- what one book gained

-- the year of a day in four digits
abbrev pub year_text : ℤ → List ℕ
year_text day = four_digits (year_of day)

-- the gain of a sale, in its year and its currency; an unpriced sale has none
abbrev pub year_amounts : SaleParts → List Amount
year_amounts sale =
    map (λ (amount : List ℕ × ℤ). (record { what = year_text sale.day; commodity = amount.0 }, amount.1)) (amounts_in (gained sale))

abbrev pub gain_amounts : List NumberedSale → List Amount
gain_amounts sales = flat_map (λ (sold : NumberedSale). year_amounts sold.sale) sales

-- the gains of a book: those of all its sales
abbrev pub AreGains : List Entry → List Amount → Type 0
AreGains entries amounts = (sales : List NumberedSale) × AreSalesWithin (None, None) entries sales × (amounts ≡ gain_amounts sales)

-- ---- what one book holds

-- the units of a position, in its account and its commodity
abbrev pub held_amount : Holding → Amount
held_amount holding = (record { what = holding.account; commodity = holding.commodity }, holding.units)

-- what a book holds: the units of all positions, plain ones and lots
abbrev pub AreHeld : List Entry → List Amount → Type 0
AreHeld entries amounts = (holdings : List Holding) × IsHoldings entries holdings × (amounts ≡ map held_amount holdings)

-- the account and the commodity of a position
abbrev pub subject_of : Position → Subject
subject_of position = record { what = position.account; commodity = position.commodity }

-- what a book holds of one: the sum of the units of all legs there
abbrev pub held_of : List Entry → Subject → ℤ
held_of entries subject =
    sum_of (map (λ (leg : Leg). leg.units) (filter (λ (leg : Leg). same_subject subject (subject_of leg.position)) (legs_of entries)))

-- ---- where two books differ

abbrev pub AreGainDifferences : List Entry → List Entry → List (Subject × Sides) → Type 0
AreGainDifferences new old found =
    (in_new : List Amount) × AreGains new in_new × (in_old : List Amount) × AreGains old in_old
    × AreDifferences (record { new = in_new; old = in_old }) found

abbrev pub AreHeldDifferences : List Entry → List Entry → List (Subject × Sides) → Type 0
AreHeldDifferences new old found =
    (in_new : List Amount) × AreHeld new in_new × (in_old : List Amount) × AreHeld old in_old
    × AreDifferences (record { new = in_new; old = in_old }) found

-- the differences in what two books gained, and then those in what they hold
abbrev pub AreAllDifferences : List Entry → List Entry → List Difference → Type 0
AreAllDifferences new old found =
    (gains : List (Subject × Sides)) × AreGainDifferences new old gains
    × (held : List (Subject × Sides)) × AreHeldDifferences new old held
    × (found ≡ of_kind Gained gains ++ of_kind Held held)

-- ---- faults

-- the fault is that of a sum: out of range, or out of memory
abbrev pub IsOfSum : RowFault → Type 0
IsOfSum (Report report.Range) = ⊤
IsOfSum (Report report.Write) = ⊥
IsOfSum (Report report.Memory) = ⊤
IsOfSum Spent = ⊥
