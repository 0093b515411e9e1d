-- Rows with one more lot, and with the lots of one more sale.
use Rattle.std.specs.Prelude.{◌≡◌, ◌⊎◌, ℕ, ℤ, ◌+ℤ◌, Bool, true, false, IsTrue, not, cond, ◌&&◌, ◌||◌, if◌then◌else◌, List, [], ◌∷◌, ◌++◌, flat_map, map, filter, zip, Option, None, Some, Result, Ok, Err, IsErrAnd, IfErr, OnOk, SomeIff, String}
use Rattle.std.specs.BTreeMap.{BTreeMap, insert_entry}
use Rattle.std.specs.Cmp.{Equal-is, IsTotalOrder}
use Rattle.std.specs.List.{list_any}
use Rattle.std.specs.List.Sorted.{IsStrictlySortedBy}
use Rattle.std.specs.Map.{keys_of, lookup}
use Rattle.std.specs.Option.{unwrap_or}
use Rattle.std.specs.Ordering.{is_eq, ordering_then}
use Rattle.std.specs.String.{string_bytes}
use Rattle.std.specs.declared.cmp.Ordering.{Ordering}
use Rattle.std.proofs.Common.{refl, sym, ap, subst, ◌∙◌, append_assoc, append-nil, inl, inr}
use Rattle.std.proofs.lemmas.Bool.{cases_Bool, true≢false}
use Rattle.std.proofs.lemmas.Cmp.{nat_list_cmp_total, on_total, then_total}
use Rattle.std.proofs.lemmas.List.Folds.{list_any-append}
use Rattle.std.proofs.lemmas.Map.Lookups.{CmpEqualImpliesEq, exact_bytes, exact_pairs}
use Rattle.std.proofs.Math.Bool.{or-false, or-true}
use Rattle.lot_base.specs.Text.{text_cmp}
use Rattle.lot_base.proofs.TextLemmas.{same_text-itself}
use Rattle.lot_book.specs.Currencies.{sum_in}
use Rattle.lot_book.specs.Sale.{SaleParts}
use Rattle.lot_book.specs.declared.gain.Gain.{Gain}
use Rattle.lot_book.proofs.SumLemmas.{sum_in-push_here}
use Rattle.lot_report.specs.Gains.{amounts_in, amounts_of, gained}
use Rattle.lot_report.specs.Gains as gains
use Rattle.lot_report.specs.Report.{AreSums, EachFits, is_wide, stay_wide}
use Rattle.lot_report.specs.declared.fault.ReportFault.{ReportFault}
use Rattle.lot_report.specs.declared.fault.ReportFault.TheVariants.{Range, Write, Memory}
use Rattle.lot_report.proofs.EachLemmas.{text_more}
use Rattle.lot_report.proofs.FedLemmas.{fit_more}
use Rattle.lot_tally.specs.Lots.{CountedLot, RowKey, all_lots, sale_lots}
use Rattle.lot_tally.specs.Rows.{Adds, AddsFitting, AreRows, has_room, is_in_row, lot_fits, lots_fit, lots_in_row, row_cmp, sums_of, with_lot}
use Rattle.lot_tally.specs.Table.{HasCounted, HasRows, IsEnd, IsTable, fits, kept_cmp, seen, shown, table_lines}
use Rattle.lot_tally.specs.declared.counted.Counted.{Counted}
use Rattle.lot_tally.specs.declared.key.GainKey.{GainKey}
use Rattle.lot_tally.specs.declared.key.TableForm.{TableForm}
use Rattle.lot_tally.specs.declared.sums.RowSums.{RowSums}
use Rattle.lot_tally.specs.declared.table.GainsTable.{GainsTable}
use Rattle.lot_tally.proofs.InsertLemmas.{insert_seen, lookup_seen, lookup_with, sorted_with}
use Rattle.lot_tally.proofs.SumLemmas.{both_so, filter_push, lot_with, rest_so, sums_push}

-- ---- the order of rows

pub rows_total : IsTotalOrder row_cmp
rows_total = then_total (on_total (λ (p : RowKey). p.0) nat_list_cmp_total) (on_total (λ (p : RowKey). p.1) nat_list_cmp_total)

pub exact_row : CmpEqualImpliesEq row_cmp
exact_row = exact_pairs text_cmp text_cmp exact_bytes exact_bytes

-- ---- no lot

start : AreRows [] []
unfolding IsStrictlySortedBy
start = record { in_order = tt; each = λ row. refl }

pub none_yet : {A : Type 0} (rows : BTreeMap (String A × List ℕ) RowSums) → rows.entries ≡ [] → HasRows [] rows
none_yet {A} rows none = subst (λ (es : List ((String A × List ℕ) × RowSums)). AreRows [] (map shown es)) (sym none) start

-- ---- one more lot

none_in : (row : RowKey) (lots : List CountedLot) → list_any (is_in_row row) lots ≡ false → lots_in_row row lots ≡ []
none_in row [] none = refl
none_in row (lot ∷ lots) none = by (is_in_row row lot) refl none (none_in row lots)
  where
    by : (b : Bool) → is_in_row row lot ≡ b → (b || list_any (is_in_row row) lots) ≡ false
        → (list_any (is_in_row row) lots ≡ false → lots_in_row row lots ≡ []) → lots_in_row row (lot ∷ lots) ≡ []
    by true here some rest = absurd (true≢false some)
    by false here some rest = ap (λ b. cond b (lot ∷ lots_in_row row lots) (lots_in_row row lots)) here ∙ rest some

-- what is kept of a row, or nothing, are the sums over its lots
pub kept_is : (lots : List CountedLot) (rows : List (RowKey × RowSums)) (row : RowKey) → AreRows lots rows
    → unwrap_or (lookup (λ other. is_eq (row_cmp row other)) rows) (sums_of []) ≡ sums_of (lots_in_row row lots)
kept_is lots rows row are = ap (λ o. unwrap_or o (sums_of [])) (are.each row) ∙ by (list_any (is_in_row row) lots) refl
  where
    by : (b : Bool) → list_any (is_in_row row) lots ≡ b
        → unwrap_or (if b then Some (sums_of (lots_in_row row lots)) else None) (sums_of []) ≡ sums_of (lots_in_row row lots)
    by true some = refl
    by false none = ap sums_of (sym (none_in row lots none))

any_push : (row : RowKey) (lots : List CountedLot) (lot : CountedLot)
    → list_any (is_in_row row) (lots ++ lot ∷ []) ≡ (list_any (is_in_row row) lots || is_in_row row lot)
any_push row lots lot =
    list_any-append (is_in_row row) lots (lot ∷ []) ∙ ap (λ b. list_any (is_in_row row) lots || b) (or-false (is_in_row row lot))

abbrev with_one : List CountedLot → RowKey → ℤ → Option Gain → List CountedLot
with_one lots row cost gain = lots ++ lot_with row cost gain ∷ []

pub row_set : (lots : List CountedLot) (rows : List (RowKey × RowSums)) (row : RowKey) (cost : ℤ) (gain : Option Gain) (sums : RowSums) → AreRows lots rows
    → sums ≡ with_lot (sums_of (lots_in_row row lots)) cost gain
    → AreRows (with_one lots row cost gain) (insert_entry row_cmp rows row sums)
row_set lots rows row cost gain sums are is = record {
  in_order = sorted_with rows_total row sums rows are.in_order;
  each = λ other. lookup_with rows_total row sums other rows ∙ by other (is_eq (row_cmp other row)) refl;
}
  where
    by : (other : RowKey) (b : Bool) → is_eq (row_cmp other row) ≡ b
        → cond (is_eq (row_cmp other row)) (Some sums) (lookup (λ name. is_eq (row_cmp other name)) rows)
        ≡ (if list_any (is_in_row other) (with_one lots row cost gain) then Some (sums_of (lots_in_row other (with_one lots row cost gain))) else None)
    by other true here =
        let one : other ≡ row = exact_row other row ((Equal-is (row_cmp other row)).0 here) in
        let more : lots_in_row other (with_one lots row cost gain) ≡ with_one (lots_in_row row lots) row cost gain =
        filter_push (is_in_row other) lots (lot_with row cost gain)
        ∙ ap (λ b. cond b (lots_in_row other lots ++ lot_with row cost gain ∷ []) (lots_in_row other lots)) here
        ∙ ap (λ r. lots_in_row r lots ++ lot_with row cost gain ∷ []) one in
        let some : list_any (is_in_row other) (with_one lots row cost gain) ≡ true =
        any_push other lots (lot_with row cost gain) ∙ ap (λ b. list_any (is_in_row other) lots || b) here ∙ or-true (list_any (is_in_row other) lots) in
        ap (λ b. cond b (Some sums) (lookup (λ name. is_eq (row_cmp other name)) rows)) here
        ∙ ap Some (is ∙ sym (sums_push (lots_in_row row lots) row cost gain) ∙ ap sums_of (sym more))
        ∙ ap (λ b. if b then Some (sums_of (lots_in_row other (with_one lots row cost gain))) else None) (sym some)
    by other false here =
        let same : lots_in_row other (with_one lots row cost gain) ≡ lots_in_row other lots =
        filter_push (is_in_row other) lots (lot_with row cost gain)
        ∙ ap (λ b. cond b (lots_in_row other lots ++ lot_with row cost gain ∷ []) (lots_in_row other lots)) here in
        let any : list_any (is_in_row other) (with_one lots row cost gain) ≡ list_any (is_in_row other) lots =
        any_push other lots (lot_with row cost gain) ∙ ap (λ b. list_any (is_in_row other) lots || b) here ∙ or-false (list_any (is_in_row other) lots) in
        ap (λ b. cond b (Some sums) (lookup (λ name. is_eq (row_cmp other name)) rows)) here
        ∙ are.each other
        ∙ (λ i. if sym any i then Some (sums_of (sym same i)) else None)

-- ---- the rows as they are kept

-- what is kept of the row of a key
pub kept_sums : {A : Type 0} (lots : List CountedLot) (rows : BTreeMap (String A × List ℕ) RowSums) (key : String A × List ℕ) (found : Option RowSums) (none : RowSums)
    → HasRows lots rows → found ≡ lookup (λ other. is_eq (kept_cmp key other)) rows.entries → none ≡ sums_of []
    → unwrap_or found none ≡ sums_of (lots_in_row (seen key) lots)
kept_sums lots rows key found none has is empty =
    (λ i. unwrap_or ((is ∙ lookup_seen seen (λ name. is_eq (row_cmp (seen key) name)) rows.entries) i) (empty i))
    ∙ kept_is lots (map shown rows.entries) (seen key) has

-- a lot whose row is set
pub lot_set : {A : Type 0} (lots : List CountedLot) (lot : CountedLot) (rows new : BTreeMap (String A × List ℕ) RowSums) (key : String A × List ℕ) (cost : ℤ)
    (gain : Option Gain) (kept sums : RowSums)
    → lot ≡ lot_with (seen key) cost gain → HasRows lots rows → kept ≡ sums_of (lots_in_row (seen key) lots)
    → IsTrue (has_room kept cost gain) × (sums ≡ with_lot kept cost gain)
    → new.entries ≡ insert_entry kept_cmp rows.entries key sums
    → IsTrue (lot_fits lots lot) × HasRows (lots ++ lot ∷ []) new
lot_set lots lot rows new key cost gain kept sums own has is (room, more) set =
    rw (own) (
      subst (λ (s : RowSums). IsTrue (has_room s cost gain)) is room,
      subst (AreRows (lots ++ lot_with (seen key) cost gain ∷ [])) (sym (ap (map shown) set ∙ insert_seen seen row_cmp rows.entries key sums))
          (row_set lots (map shown rows.entries) (seen key) cost gain sums has (more ∙ ap (λ s. with_lot s cost gain) is)),
    )

-- the same, where there may be no memory for the row
pub lot_added : {A : Type 0} (lots : List CountedLot) (lot : CountedLot) (rows new : BTreeMap (String A × List ℕ) RowSums) (key : String A × List ℕ) (cost : ℤ)
    (gain : Option Gain) (kept sums : RowSums) (result : Result (Unit {0}) ReportFault)
    → lot ≡ lot_with (seen key) cost gain → HasRows lots rows → kept ≡ sums_of (lots_in_row (seen key) lots)
    → IsTrue (has_room kept cost gain) × (sums ≡ with_lot kept cost gain)
    → OnOk result (new.entries ≡ insert_entry kept_cmp rows.entries key sums) → IfErr result (λ fault. fault ≡ Memory)
    → AddsFitting (lot_fits lots lot) (HasRows (lots ++ lot ∷ []) new) result
lot_added lots lot rows new key cost gain kept sums (Ok done) own has is more set cause =
    lot_set lots lot rows new key cost gain kept sums own has is more set
lot_added lots lot rows new key cost gain kept sums (Err fault) own has is more set cause =
    rw (cause) (rw (own) (subst (λ (s : RowSums). IsTrue (has_room s cost gain)) is more.0))

-- a lot that doesn't fit
pub lot_unfit : {A : Type 0} (lots : List CountedLot) (lot : CountedLot) (key : String A × List ℕ) (cost : ℤ) (gain : Option Gain) (kept : RowSums)
    → lot ≡ lot_with (seen key) cost gain → kept ≡ sums_of (lots_in_row (seen key) lots) → (IsTrue (has_room kept cost gain) → ⊥)
    → IsTrue (not (lot_fits lots lot))
lot_unfit lots lot key cost gain kept own is never =
    rw (own) (subst (λ (s : RowSums). IsTrue (not (has_room s cost gain))) is (unfit (has_room kept cost gain) never))
  where
    unfit : (b : Bool) → (IsTrue b → ⊥) → IsTrue (not b)
    unfit true never = absurd (never refl)
    unfit false never = refl

-- ---- the lots of a sale

-- these lots of all are in their rows, and the others are left; what is left fits exactly where all do
abbrev pub LotsSoFar : {A : Type 0} → List CountedLot → List CountedLot → BTreeMap (String A × List ℕ) RowSums → BTreeMap (String A × List ℕ) RowSums → Type 0
LotsSoFar all left old rows =
    (lots : List CountedLot) → HasRows lots old
    → (done : List CountedLot) × (all ≡ done ++ left) × (lots_fit lots all ≡ lots_fit (lots ++ done) left) × HasRows (lots ++ done) rows

pub no_lot_yet : {A : Type 0} (all left : List CountedLot) (rows : BTreeMap (String A × List ℕ) RowSums) → all ≡ left → LotsSoFar all left rows rows
no_lot_yet all left rows same lots has =
    let none = sym (append-nil lots) in
    ([], same, (λ i. lots_fit (none i) (same i)), subst (λ (ls : List CountedLot). HasRows ls rows) none has)

pub one_lot_more : {A : Type 0} (all left rest : List CountedLot) (lot : CountedLot) (old rows new : BTreeMap (String A × List ℕ) RowSums)
    → LotsSoFar all left old rows → left ≡ lot ∷ rest
    → ((lots : List CountedLot) → HasRows lots rows → IsTrue (lot_fits lots lot) × HasRows (lots ++ lot ∷ []) new)
    → LotsSoFar all rest old new
one_lot_more all left rest lot old rows new so_far is added lots has =
    let (done, split, fit, kept) = so_far lots has in
    let one = added (lots ++ done) kept in
    let more = append_assoc lots done (lot ∷ []) in (
      done ++ lot ∷ [],
      split ∙ ap (λ ls. done ++ ls) is ∙ sym (append_assoc done (lot ∷ []) rest),
      fit ∙ ap (lots_fit (lots ++ done)) is ∙ ap (λ b. b && lots_fit ((lots ++ done) ++ lot ∷ []) rest) one.0 ∙ ap (λ ls. lots_fit ls rest) more,
      subst (λ (ls : List CountedLot). HasRows ls new) more one.1,
    )

-- a list that is paired with none
pub none_zipped : {X Y : Type 0} (xs : List X) (ys : List Y) → (xs ≡ []) ⊎ (ys ≡ []) → zip xs ys ≡ []
none_zipped xs ys (inl none) = ap (λ l. zip l ys) none
none_zipped [] ys (inr none) = refl
none_zipped (x ∷ xs) ys (inr none) = ap (λ l. zip (x ∷ xs) l) none

-- all lots are in their rows
pub all_lots_in : {A : Type 0} (all left lots : List CountedLot) (old rows : BTreeMap (String A × List ℕ) RowSums)
    → LotsSoFar all left old rows → left ≡ [] → HasRows lots old → IsTrue (lots_fit lots all) × HasRows (lots ++ all) rows
all_lots_in all left lots old rows so_far none has =
    let (done, split, fit, kept) = so_far lots has in (
      fit ∙ ap (lots_fit (lots ++ done)) none,
      subst (λ (ls : List CountedLot). HasRows (lots ++ ls) rows) (sym (split ∙ ap (λ ls. done ++ ls) none ∙ append-nil done)) kept,
    )

-- a lot isn't added
pub lot_stops : {A : Type 0} (all left rest lots : List CountedLot) (lot : CountedLot) (old rows : BTreeMap (String A × List ℕ) RowSums) (IsAdded : List CountedLot → Type 0) (Done : Type 0)
    (fault : ReportFault)
    → LotsSoFar all left old rows → left ≡ lot ∷ rest → HasRows lots old
    → ((before : List CountedLot) → HasRows before rows → AddsFitting (lot_fits before lot) (IsAdded before) (Err fault))
    → Adds (lots_fit lots all) Done (Err fault)
lot_stops all left rest lots lot old rows IsAdded Done Range so_far is has added =
    let (done, split, fit, kept) = so_far lots has in
    ap not (fit ∙ ap (lots_fit (lots ++ done)) is ∙ ap (λ b. b && lots_fit ((lots ++ done) ++ lot ∷ []) rest) (is_not _ (added (lots ++ done) kept)))
  where
    is_not : (b : Bool) → IsTrue (not b) → b ≡ false
    is_not true unfit = absurd (true≢false (sym unfit))
    is_not false unfit = refl
lot_stops all left rest lots lot old rows IsAdded Done Write so_far is has added =
    let (done, split, fit, kept) = so_far lots has in added (lots ++ done) kept
lot_stops all left rest lots lot old rows IsAdded Done Memory so_far is has added = tt

-- ---- sales

amounts_with : (sales : List SaleParts) (sale : SaleParts) (priced : Option (List ℕ × Gain)) → gained sale ≡ priced
    → amounts_of (sales ++ sale ∷ []) ≡ amounts_of sales ++ amounts_in priced
amounts_with sales sale priced is = text_more (λ (s : SaleParts). amounts_in (gained s)) sales sale ∙ ap (λ p. amounts_of sales ++ amounts_in p) is

fits_as : (sales : List SaleParts) (sale : SaleParts) (currency : List ℕ) (gain : Gain) → gained sale ≡ Some (currency, gain)
    → gains.fits sales sale ≡ is_wide (sum_in (amounts_of sales) currency +ℤ gain.gain)
fits_as sales sale currency gain is =
    ap (λ p. stay_wide (amounts_of (sales ++ sale ∷ [])) (amounts_in p)) is
    ∙ alone (is_wide (sum_in (amounts_of (sales ++ sale ∷ [])) currency))
    ∙ ap is_wide
    (ap (λ amounts. sum_in amounts currency) (amounts_with sales sale (Some (currency, gain)) is)
    ∙ sum_in-push_here (amounts_of sales) (currency, gain.gain) currency (same_text-itself currency))
  where
    alone : (b : Bool) → (b && true) ≡ b
    alone true = refl
    alone false = refl

-- a priced sale, whose lots are in their rows
pub priced_in : (lots more : List CountedLot) (sales : List SaleParts) (sale : SaleParts) (currency : List ℕ) (gain : Gain) (counted : Counted)
    (result : Result (Unit {0}) ReportFault)
    → gained sale ≡ Some (currency, gain) → IsTrue (lots_fit lots more) × HasRows (lots ++ more) counted.rows
    → AddsFitting (is_wide (sum_in (amounts_of sales) currency +ℤ gain.gain))
    (AreSums (amounts_of sales ++ (currency, gain.gain) ∷ []) counted.totals.sums.entries) result
    → Adds (lots_fit lots more && gains.fits sales sale) (HasCounted (lots ++ more) (sales ++ sale ∷ []) counted) result
priced_in lots more sales sale currency gain counted (Ok done) is (fit, rows) (wide, sums) = (
  both_so (lots_fit lots more) (gains.fits sales sale) fit (fits_as sales sale currency gain is ∙ wide),
  (rows, subst (λ amounts. AreSums amounts counted.totals.sums.entries) (sym (amounts_with sales sale (Some (currency, gain)) is)) sums),
)
priced_in lots more sales sale currency gain counted (Err Range) is (fit, rows) wide =
    ap not (ap (λ b. b && gains.fits sales sale) fit ∙ fits_as sales sale currency gain is) ∙ wide
priced_in lots more sales sale currency gain counted (Err Write) is (fit, rows) never = never
priced_in lots more sales sale currency gain counted (Err Memory) is (fit, rows) says = tt

-- an unpriced one
pub unpriced_in : (lots more : List CountedLot) (sales : List SaleParts) (sale : SaleParts) (counted : Counted)
    → gained sale ≡ None → IsTrue (lots_fit lots more) × HasRows (lots ++ more) counted.rows → AreSums (amounts_of sales) counted.totals.sums.entries
    → IsTrue (lots_fit lots more && gains.fits sales sale) × HasCounted (lots ++ more) (sales ++ sale ∷ []) counted
unpriced_in lots more sales sale counted is (fit, rows) sums = (
  both_so (lots_fit lots more) (gains.fits sales sale) fit (ap (λ p. stay_wide (amounts_of (sales ++ sale ∷ [])) (amounts_in p)) is),
  (
    rows,
    subst (λ amounts. AreSums amounts counted.totals.sums.entries)
        (sym (amounts_with sales sale None is ∙ append-nil (amounts_of sales))) sums,
  ),
)

-- a sale whose lots aren't all added
pub lots_stop : (lots more : List CountedLot) (sales : List SaleParts) (sale : SaleParts) (IsAdded Done : Type 0) (fault : ReportFault)
    (result : Result (Unit {0}) ReportFault)
    → Adds (lots_fit lots more) IsAdded (Err fault) → IsErrAnd result (λ e. e ≡ fault)
    → Adds (lots_fit lots more && gains.fits sales sale) Done result
lots_stop lots more sales sale IsAdded Done fault (Ok done) added fails = absurd fails
lots_stop lots more sales sale IsAdded Done Range (Err e) added fails = rw (fails) (unfit (lots_fit lots more) (gains.fits sales sale) added)
  where
    unfit : (a b : Bool) → IsTrue (not a) → IsTrue (not (a && b))
    unfit true b says = absurd (true≢false (sym says))
    unfit false b says = refl
lots_stop lots more sales sale IsAdded Done Write (Err e) added fails = rw (fails) added
lots_stop lots more sales sale IsAdded Done Memory (Err e) added fails = rw (fails) tt

-- ---- the table

-- a table with one more sale
pub sale_added : (by : List GainKey) (form : TableForm) (sales : List SaleParts) (sale : SaleParts) (old new : GainsTable) (result : Result (Unit {0}) ReportFault)
    → IsTable by form sales old → new.by ≡ old.by → new.form ≡ old.form
    → Adds (fits by form sales sale) (HasCounted (all_lots by form sales ++ sale_lots by form sale) (sales ++ sale ∷ []) new.counted) result
    → Adds (fits by form sales sale) (IsTable by form (sales ++ sale ∷ []) new) result
sale_added by form sales sale old new (Ok done) (keys, form_is, each, has) same_keys same_form (fit, counted) = (
  fit,
  (
    ap (λ k. k.now) same_keys ∙ keys,
    same_form ∙ form_is,
    fit_more (fits by form) [] sales sale each fit,
    (
      subst (λ (ls : List CountedLot). HasRows ls new.counted.rows) (sym (text_more (sale_lots by form) sales sale)) counted.0,
      counted.1,
    ),
  ),
)
sale_added by form sales sale old new (Err Range) table same_keys same_form unfit = unfit
sale_added by form sales sale old new (Err Write) table same_keys same_form never = never
sale_added by form sales sale old new (Err Memory) table same_keys same_form says = tt

-- the same, from what the addition says of any lots and sales
pub sale_counted : (by : List GainKey) (form : TableForm) (sales : List SaleParts) (sale : SaleParts) (old new : GainsTable) (result : Result (Unit {0}) ReportFault)
    (keys : List GainKey) → keys ≡ old.by.now
    → IsTable by form sales old → new.by ≡ old.by → new.form ≡ old.form
    → ((lots : List CountedLot) (before : List SaleParts) → HasCounted lots before old.counted
    → Adds (lots_fit lots (sale_lots keys old.form sale) && gains.fits before sale)
    (HasCounted (lots ++ sale_lots keys old.form sale) (before ++ sale ∷ []) new.counted) result)
    → Adds (fits by form sales sale) (IsTable by form (sales ++ sale ∷ []) new) result
sale_counted by form sales sale old new result keys same (own, form_is, each, has) same_keys same_form added =
    sale_added by form sales sale old new result (own, form_is, each, has) same_keys same_form
    (subst (λ (asked : List GainKey × TableForm).
    Adds (lots_fit (all_lots by form sales) (sale_lots asked.0 asked.1 sale) && gains.fits sales sale)
    (HasCounted (all_lots by form sales ++ sale_lots asked.0 asked.1 sale) (sales ++ sale ∷ []) new.counted) result)
    (λ i. ((same ∙ own) i, form_is i)) (added (all_lots by form sales) sales has))

-- the lines of a table are those of its sales
pub table_end : (by : List GainKey) (form : TableForm) (sales : List SaleParts) (table : GainsTable) (keys : List GainKey) → keys ≡ table.by.now
    → IsTable by form sales table
    → IsEnd by form sales (table_lines keys table.form (map shown table.counted.rows.entries) table.counted.totals.sums.entries)
table_end by form sales table keys same (own, form_is, each, has) = (
  map shown table.counted.rows.entries,
  has.0,
  table.counted.totals.sums.entries,
  has.1,
  (λ i. table_lines ((same ∙ own) i) (form_is i) (map shown table.counted.rows.entries) table.counted.totals.sums.entries),
)
