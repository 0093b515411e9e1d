-- What is written of a day that no entry is behind is what is written of what the book holds.
use Rattle.std.proofs.Common.{◌≡◌, ◌↔◌, ◌∙◌, [], ◌∷◌, ◌++◌, List, ℕ, ℤ, Option, None, Some, Ok, map, refl, sym, ap, subst}
use Rattle.std.proofs.lemmas.Cmp.{nat_list_cmp_total}
use Rattle.std.proofs.lemmas.Map.Lookups.{exact_bytes}
use Rattle.std.specs.Io.KnownBytes.{Appends}
use Rattle.lot_base.proofs.MapLemmas.{one_map}
use Rattle.lot_base.specs.Text.{text_cmp}
use Rattle.lot_book.specs.Book.{IsBook}
use Rattle.lot_book.specs.Facts.{Entry}
use Rattle.lot_book.specs.declared.holding.Holding.{Holding}
use Rattle.lot_book_report.specs.Csv.{record_of_holding}
use Rattle.lot_book_report.specs.Holdings.{valued_by}
use Rattle.lot_book_report.specs.Show.{WritesWhole}
use Rattle.lot_csv.specs.Holdings.{holdings_header}
use Rattle.lot_csv.specs.declared.holdings.Columns.TheVariants.{Values}
use Rattle.lot_position.proofs.LawLemmas.{book_in_range, held_by_book}
use Rattle.lot_position.specs.Held.{IsPastAll}
use Rattle.lot_report.specs.Fed.{joined, text_of}
use Rattle.lot_report.specs.Holdings.{IsEnd, end_lines, fits, row_lines}
use Rattle.lot_report.specs.Report.{AreSums, is_nil}
use Rattle.lot_report.specs.declared.holdings.ValuedHolding.{ValuedHolding}
use Rattle.lot_sums.proofs.HeldLemmas.{at_listed}
use Rattle.lot_sums.specs.Held.{ShowsHoldingsAt, ShowsHoldingsOn, ShowsRows}
use Rattle.lot_tally.specs.declared.key.TableForm.{TableForm}
use Rattle.lot_tally.specs.declared.key.TableForm.TheVariants.{Csv, Text}
use Rattle.lot_walk.proofs.LawLemmas.{one_holdings, one_prices}
use Rattle.lot_walk.specs.Holdings.{IsHoldings}
use Rattle.lot_walk.specs.Prices.{ArePrices}
use Rattle.lot_walk.specs.declared.price.PairPrice.{PairPrice}

-- ---- both reports

-- what the book holds, each lot at its price at a day
record Written (form : TableForm) (day : ℤ) (entries : List Entry) (start now : Option (List ℕ)) : Type 0 where
  prices : List PairPrice
  are : ArePrices entries day prices
  holdings : List Holding
  is : IsHoldings entries holdings
  shows : ShowsRows form Values (map (valued_by (Some prices)) holdings) start now (Ok tt)

module _ (day : ℤ) (entries : List Entry) (start now : Option (List ℕ)) where
  of_now : (form : TableForm) → ShowsHoldingsAt form day entries start now (Ok tt) → Written form day entries start now
  of_now Text (None, are, holdings, is, shows) = absurd are
  of_now Text (Some prices, are, holdings, is, shows) = record { prices = prices; are = are; holdings = holdings; is = is; shows = shows }
  of_now Csv (None, are, holdings, is, shows) = absurd are
  of_now Csv (Some prices, are, holdings, is, shows) = record { prices = prices; are = are; holdings = holdings; is = is; shows = shows }

  to_now : (form : TableForm) → Written form day entries start now → ShowsHoldingsAt form day entries start now (Ok tt)
  to_now Text w = (Some w.prices, w.are, w.holdings, w.is, w.shows)
  to_now Csv w = (Some w.prices, w.are, w.holdings, w.is, w.shows)

  module _ (form : TableForm) (on : ℤ) (past : IsPastAll on entries) where
    of_then : ShowsHoldingsOn form on day entries start now (Ok tt) → Written form day entries start now
    of_then (prices, are, (range, rows, lists, shows)) = record {
      prices = prices;
      are = are;
      holdings = rows;
      is = (held_by_book entries on rows past).0 lists;
      shows = subst (λ (all : List ValuedHolding). ShowsRows form Values all start now (Ok tt)) (sym (at_listed prices rows)) shows;
    }

    to_then : IsBook entries → Written form day entries start now → ShowsHoldingsOn form on day entries start now (Ok tt)
    to_then book w = (
      w.prices,
      w.are,
      (
        book_in_range entries on book past,
        w.holdings,
        (held_by_book entries on w.holdings past).1 w.is,
        subst (λ (all : List ValuedHolding). ShowsRows form Values all start now (Ok tt)) (at_listed w.prices w.holdings) w.shows,
      ),
    )

pub same_report : (form : TableForm) (entries : List Entry) (on day : ℤ) (start now : Option (List ℕ)) → IsBook entries → IsPastAll on entries
    → ShowsHoldingsOn form on day entries start now (Ok tt) ↔ ShowsHoldingsAt form day entries start now (Ok tt)
same_report form entries on day start now book past = (
  λ shows. to_now day entries start now form (of_then day entries start now form on past shows),
  λ shows. to_then day entries start now form on past book (of_now day entries start now form shows),
)

-- ---- their bytes

one_sums : (amounts sums others : List (List ℕ × ℤ)) → AreSums amounts sums → AreSums amounts others → sums ≡ others
one_sums amounts sums others h k =
    one_map text_cmp nat_list_cmp_total exact_bytes sums others h.in_order k.in_order (λ name. h.each name ∙ sym (k.each name))

one_end : (rows : List ValuedHolding) (end other : List (List ℕ)) → IsEnd rows end → IsEnd rows other → end ≡ other
one_end rows end other (costs, are, values, worth, is) (costs2, are2, values2, worth2, is2) =
    let same_costs = one_sums _ costs costs2 are are2 in
    let same_values = one_sums _ values values2 worth worth2 in
    is ∙ (λ i. end_lines (is_nil rows) (same_costs i) (same_values i)) ∙ sym is2

one_output : (start : List ℕ) (now other : Option (List ℕ)) (text same : List ℕ) → text ≡ same → Appends (Some start) now text → Appends (Some start) other same
    → now ≡ other
one_output start None other text same is wrote wrote2 = absurd wrote
one_output start (Some xs) None text same is wrote wrote2 = absurd wrote2
one_output start (Some xs) (Some ys) text same is wrote wrote2 =
    ap (λ (bytes : List ℕ). Some bytes) (wrote ∙ ap (λ (t : List ℕ). start ++ t) is ∙ sym wrote2)

one_whole : (rows : List ValuedHolding) (start : List ℕ) (now other : Option (List ℕ)) → WritesWhole row_lines fits IsEnd rows (Some start) now
    → WritesWhole row_lines fits IsEnd rows (Some start) other → now ≡ other
one_whole rows start now other (text, (fit, end, is, e), wrote) (text2, (fit2, end2, is2, e2), wrote2) =
    let ends = one_end rows end end2 is is2 in
    one_output start now other text text2 (e ∙ ap (λ (lines : List (List ℕ)). text_of row_lines rows ++ joined lines) ends ∙ sym e2) wrote wrote2

one_rows : (form : TableForm) (rows : List ValuedHolding) (start : List ℕ) (now other : Option (List ℕ)) → ShowsRows form Values rows (Some start) now (Ok tt)
    → ShowsRows form Values rows (Some start) other (Ok tt) → now ≡ other
one_rows Text rows start now other wrote wrote2 = one_whole rows start now other wrote wrote2
one_rows Csv rows start now other wrote wrote2 =
    let text = holdings_header Values ++ text_of (record_of_holding Values) rows in one_output start now other text text refl wrote wrote2

one_text : (form : TableForm) (day : ℤ) (entries : List Entry) (start : List ℕ) (now other : Option (List ℕ)) → Written form day entries (Some start) now
    → Written form day entries (Some start) other → now ≡ other
one_text form day entries start now other w v =
    let prices = one_prices entries day v.prices w.prices v.are w.are in
    let holdings = one_holdings entries v.holdings w.holdings v.is w.is in
    one_rows form (map (valued_by (Some w.prices)) w.holdings) start now other w.shows
    (subst (λ (all : List ValuedHolding). ShowsRows form Values all (Some start) other (Ok tt)) (λ i. map (valued_by (Some (prices i))) (holdings i)) v.shows)

pub same_bytes : (form : TableForm) (entries : List Entry) (on day : ℤ) (start : List ℕ) (now other : Option (List ℕ)) → IsPastAll on entries
    → ShowsHoldingsOn form on day entries (Some start) now (Ok tt) → ShowsHoldingsAt form day entries (Some start) other (Ok tt) → now ≡ other
same_bytes form entries on day start now other past then held =
    one_text form day entries start now other (of_then day entries (Some start) now form on past then) (of_now day entries (Some start) other form held)
