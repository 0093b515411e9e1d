-- The sales of a book on the days of a range are one list, which is empty where the range ends before it begins.
use Rattle.std.proofs.Common.{◌≡◌, ◌∙◌, ◌&&◌, [], ◌∷◌, ℕ, ℤ, Bool, true, false, not, List, Some, refl, sym, ap, arith}
use Rattle.std.specs.Prelude.{◌<ℤ◌, int_lt}
use Rattle.std.proofs.lemmas.Int.{ints}
use Rattle.lot_book.specs.Edition.{After}
use Rattle.lot_book.specs.Facts.{Entry}
use Rattle.lot_book.specs.Sale.{SaleParts}
use Rattle.lot_walk.specs.Gains.{AreSalesWithin, Range, is_within, sold_within}
use Rattle.lot_walk.specs.declared.gains.NumberedSale.{NumberedSale}
use Rattle.lot_walk.proofs.OneSalesLemmas.{one_sales_of_book}

-- ---- one list

pub one_within : (entries : List Entry) (range : Range) (a b : List NumberedSale) → AreSalesWithin range entries a → AreSalesWithin range entries b → a ≡ b
one_within entries range a b is other =
    is.3
    ∙ ap (sold_within range)
    (one_sales_of_book (After is.0.place) (After other.0.place) entries is.1 other.1 is.0.is other.0.is is.2 other.2)
    ∙ sym other.3

-- ---- an empty range

on_no_day : (first last day : ℤ) → last <ℤ first → is_within (Some first, Some last) day ≡ false
on_no_day first last day less = by (int_lt day first) refl
  where
    by : (b : Bool) → int_lt day first ≡ b → (not b && not (int_lt last day)) ≡ false
    by true early = refl
    by false from = let late : int_lt last day ≡ true = grind (arith, ints) in ap not late

no_sales : (first last : ℤ) (sales : List (ℕ × (ℕ × SaleParts))) → last <ℤ first → sold_within (Some first, Some last) sales ≡ []
no_sales first last [] less = refl
no_sales first last (sold ∷ sales) less = rw (on_no_day first last sold.1.1.day less, no_sales first last sales less) refl

pub none_within : (entries : List Entry) (first last : ℤ) (sales : List NumberedSale) → last <ℤ first → AreSalesWithin (Some first, Some last) entries sales → sales ≡ []
none_within entries first last sales less are = are.3 ∙ no_sales first last are.1 less
