-- Holdings that are valued and added up one by one.
use Rattle.std.specs.Prelude.{Bool, IsTrue, cond, false, not, true}
use Rattle.std.specs.BTreeMap.{BTreeMap, IsOrdered, get}
use Rattle.std.specs.Option.{unwrap_or}
use Rattle.std.specs.Ordering.{is_eq}
use Rattle.std.proofs.Common.{◌≡◌, ℕ, List, [], ◌∷◌, ◌++◌, map, Option, None, Some, ap, refl, sym, ◌∙◌, append-nil, append_assoc, subst}
use Rattle.std.proofs.lemmas.List.{map-append}
use Rattle.lot_base.proofs.TextLemmas.{one_text, same_text-ordered, same_text-turned}
use Rattle.lot_base.specs.Text.{same_text, text_cmp}
use Rattle.lot_book.specs.declared.holding.Holding.{Holding}
use Rattle.lot_book_report.specs.Holdings.{valued_with}
use Rattle.lot_book_report.specs.declared.prices.DayPrices.{DayPrices}
use Rattle.lot_cells.specs.Holdings.{has_room, totals_with}
use Rattle.lot_cells.specs.declared.holdings.LotTotals.{LotTotals}
use Rattle.lot_cost.specs.declared.lot_key.LotKey.{LotKey}
use Rattle.lot_report.specs.declared.holdings.ValuedHolding.{ValuedHolding}
use Rattle.lot_page_report.specs.Held.{IsHeld, Totalled, TotalsLeaveRange}
use Rattle.lot_page_report.specs.Parts.{no_lots, with_lot, with_row, with_rows}
use Rattle.lot_page_report.specs.Sections.{account_front, row_html, rows_behind}
use Rattle.lot_page_report.specs.declared.held.Held.{Held}

rows_more : (currency : List ℕ) (total : Option LotTotals) (rows : List ValuedHolding) (row : ValuedHolding)
    → with_rows currency total (rows ++ row ∷ []) ≡ with_row currency (with_rows currency total rows) row
rows_more currency total [] row = refl
rows_more currency total (first ∷ rows) row = rows_more currency (with_row currency total first) rows row

-- some holdings are valued and added up, and these are left
pub record HeldSoFar (prices : DayPrices) (holdings left : List Holding) (rows : List ValuedHolding) (totals : BTreeMap (List ℕ) LotTotals) : Type 0 where
  pub given : List Holding
  pub all : given ++ left ≡ holdings
  pub rows_are : rows ≡ map (valued_with (Some prices)) given
  pub each : (currency : List ℕ) → get text_cmp totals currency ≡ with_rows currency None rows
  pub ordered : IsOrdered text_cmp totals

pub held_none : (prices : DayPrices) (holdings left : List Holding) (rows : List ValuedHolding) (totals : BTreeMap (List ℕ) LotTotals)
    → left ≡ holdings → rows ≡ [] → totals.entries ≡ [] → IsOrdered text_cmp totals → HeldSoFar prices holdings left rows totals
held_none prices holdings left rows totals is none empty ordered = record {
  given = [];
  all = is;
  rows_are = none;
  each = λ currency. rw (empty, none) refl;
  ordered = ordered;
}

pub held_more : (prices : DayPrices) (holdings left rest : List Holding) (holding : Holding) (row : ValuedHolding) (rows later : List ValuedHolding)
    (old new : BTreeMap (List ℕ) LotTotals) → HeldSoFar prices holdings left rows old → left ≡ holding ∷ rest → row ≡ valued_with (Some prices) holding
    → later ≡ rows ++ row ∷ [] → Totalled row old new → (IsOrdered text_cmp old → IsOrdered text_cmp new) → HeldSoFar prices holdings rest later new
held_more prices holdings left rest holding row rows later old new had is same pushed totalled ordered = record {
  given = had.given ++ holding ∷ [];
  all = append_assoc had.given (holding ∷ []) rest ∙ ap (λ (hs : List Holding). had.given ++ hs) (sym is) ∙ had.all;
  rows_are = pushed
      ∙ (λ i. had.rows_are i ++ same i ∷ [])
      ∙ sym (map-append (valued_with (Some prices)) had.given (holding ∷ []));
  each = λ currency.
      totalled currency
      ∙ ap (λ (total : Option LotTotals). with_row currency total row) (had.each currency)
      ∙ sym (rows_more currency None rows row)
      ∙ ap (λ (rs : List ValuedHolding). with_rows currency None rs) (sym pushed);
  ordered = ordered had.ordered;
}

-- the totals have no room for the next one
pub held_out : (prices : DayPrices) (holdings left rest : List Holding) (holding : Holding) (row : ValuedHolding) (rows : List ValuedHolding)
    (totals : BTreeMap (List ℕ) LotTotals) → HeldSoFar prices holdings left rows totals → left ≡ holding ∷ rest → row ≡ valued_with (Some prices) holding
    → ((lot : LotKey) × (row.holding.lot ≡ Some lot)
    × IsTrue (not (has_room (unwrap_or (get text_cmp totals lot.currency) no_lots) lot row.holding.units row.valuation)))
    → TotalsLeaveRange (map (valued_with (Some prices)) holdings)
held_out prices holdings left rest holding row rows totals had is same (lot, is_lot, out) = record {
  given = rows;
  row = row;
  rest = map (valued_with (Some prices)) rest;
  split = ap (map (valued_with (Some prices))) (sym had.all ∙ ap (λ (hs : List Holding). had.given ++ hs) is)
      ∙ map-append (valued_with (Some prices)) had.given (holding ∷ rest)
      ∙ (λ i. sym had.rows_are i ++ sym same i ∷ map (valued_with (Some prices)) rest);
  lot = lot;
  is_lot = is_lot;
  out = subst (λ (total : Option LotTotals). IsTrue (not (has_room (unwrap_or total no_lots) lot row.holding.units row.valuation)))
      (had.each lot.currency) out;
}

pub held_all : (prices : DayPrices) (holdings left : List Holding) (held : Held) → left ≡ []
    → HeldSoFar prices holdings left held.rows.items held.totals → IsHeld (Some prices) holdings held
held_all prices holdings left held none had =
    let all : had.given ≡ holdings = sym (append-nil had.given) ∙ ap (λ (hs : List Holding). had.given ++ hs) (sym none) ∙ had.all in
    record {
      rows = had.rows_are ∙ ap (map (valued_with (Some prices))) all;
      totals = record { in_order = had.ordered; each = had.each };
    }

-- ---- one holding

pub no_room : (b : Bool) → ¬ IsTrue b → IsTrue (not b)
no_room true none = absurd (none refl)
no_room false none = refl

text_tells : (a b : List ℕ) → is_eq (text_cmp a b) ≡ same_text a b
text_tells a b = same_text-ordered a b ∙ same_text-turned a b (same_text a b) refl

module _ (row : ValuedHolding) (old new : BTreeMap (List ℕ) LotTotals) where
  module _ (lot : LotKey) (copied : List ℕ) (after : LotTotals) (is : row.holding.lot ≡ Some lot) (same : copied ≡ lot.currency)
      (are : after ≡ totals_with (unwrap_or (get text_cmp old lot.currency) no_lots) lot row.holding.units row.valuation) where
    -- by whether the currency is that of the lot
    of_one : (currency : List ℕ) (b : Bool) → is_eq (text_cmp lot.currency currency) ≡ b
        → cond b (Some after) (get text_cmp old currency)
        ≡ cond b (Some (totals_with (unwrap_or (get text_cmp old currency) no_lots) lot row.holding.units row.valuation)) (get text_cmp old currency)
    of_one currency true at =
        ap Some
        (are
        ∙ ap (λ (key : List ℕ). totals_with (unwrap_or (get text_cmp old key) no_lots) lot row.holding.units row.valuation)
        (one_text lot.currency currency (sym (text_tells lot.currency currency) ∙ at)))
    of_one currency false at = refl

    pub totalled_some : ((currency : List ℕ) → get text_cmp new currency ≡ cond (is_eq (text_cmp copied currency)) (Some after) (get text_cmp old currency))
        → Totalled row old new
    totalled_some sets currency =
        sets currency
        ∙ ap (λ (key : List ℕ). cond (is_eq (text_cmp key currency)) (Some after) (get text_cmp old currency)) same
        ∙ of_one currency (is_eq (text_cmp lot.currency currency)) refl
        ∙ ap (λ (l : Option LotKey). with_lot currency (get text_cmp old currency) l row.holding.units row.valuation) (sym is)

-- ---- the rows of a table

-- one more row is appended
pub row_behind : (totals : List (List ℕ × LotTotals)) (before : Option (List ℕ)) (row : ValuedHolding) (left later : List ValuedHolding)
    (text front now all : List ℕ) → left ≡ row ∷ later → front ≡ text ++ account_front before row.holding.account → now ≡ front ++ row_html totals row
    → text ++ rows_behind totals before left ≡ all → now ++ rows_behind totals (Some row.holding.account) later ≡ all
row_behind totals before row left later text front now all is fronted written had =
    let account = account_front before row.holding.account in
    let cells = row_html totals row in
    let rest = rows_behind totals (Some row.holding.account) later in
    ap (λ (t : List ℕ). t ++ rest) (written ∙ ap (λ (t : List ℕ). t ++ cells) fronted)
    ∙ append_assoc (text ++ account) cells rest
    ∙ append_assoc text account (cells ++ rest)
    ∙ ap (λ (l : List ValuedHolding). text ++ rows_behind totals before l) (sym is)
    ∙ had
