-- Rows with one more leg.
use Rattle.std.specs.Prelude.{◌≡◌, ℤ, Bool, true, false, IsTrue, not, cond, ◌||◌, if◌then◌else◌, List, [], ◌∷◌, ◌++◌, map, Option, None, Some, Result, Ok, Err, IfErr, OnOk, String}
use Rattle.std.specs.BTreeMap.{BTreeMap, insert_entry}
use Rattle.std.specs.Cmp.{Equal-is, IsTotalOrder}
use Rattle.std.specs.List.{list_any}
use Rattle.std.specs.List.Sorted.{IsStrictlySortedBy}
use Rattle.std.specs.Map.{lookup}
use Rattle.std.specs.Option.{unwrap_or}
use Rattle.std.specs.Ordering.{is_eq}
use Rattle.std.proofs.Common.{refl, sym, ap, subst, ◌∙◌}
use Rattle.std.proofs.lemmas.Bool.{true≢false}
use Rattle.std.proofs.lemmas.Cmp.{nat_list_cmp_total, on_total, then_total}
use Rattle.std.proofs.lemmas.List.Folds.{list_any-append}
use Rattle.std.proofs.lemmas.Map.Lookups.{CmpEqualImpliesEq, exact_bytes, exact_pairs}
use Rattle.std.proofs.Math.Bool.{or-false, or-true}
use Rattle.lot_base.specs.Text.{text_cmp}
use Rattle.lot_book.specs.Change.{pair_cmp}
use Rattle.lot_book.specs.declared.change.Pair.{Pair}
use Rattle.lot_legs.specs.declared.leg.DatedLeg.{DatedLeg}
use Rattle.lot_period.specs.declared.period.PeriodLength.{PeriodLength}
use Rattle.lot_report.specs.Report.{EachFits}
use Rattle.lot_report.specs.declared.fault.ReportFault.{ReportFault}
use Rattle.lot_report.specs.declared.fault.ReportFault.TheVariants.{Range, Write, Memory}
use Rattle.lot_report.proofs.FedLemmas.{fit_more}
use Rattle.lot_tally.specs.Rows.{Adds, AddsFitting}
use Rattle.lot_tally.proofs.InsertLemmas.{insert_seen, lookup_seen, lookup_with, sorted_with}
use Rattle.lot_tally.proofs.SumLemmas.{filter_push}
use Rattle.lot_activity.specs.Rows.{AreRows, RowKey, counted_legs, flow_of, has_room, is_counted, is_in_row, leg_fits, legs_in_row, row_cmp, row_of, with_units}
use Rattle.lot_activity.specs.Table.{HasRows, IsEnd, IsTable, Terms, fits, kept_cmp, seen, shown, table_lines, terms_in}
use Rattle.lot_activity.specs.declared.flow.Flow.{Flow}
use Rattle.lot_activity.specs.declared.table.ActivityTable.{ActivityTable}
use Rattle.lot_activity.proofs.SumLemmas.{flow_push}

-- ---- the order of rows

pairs_total : IsTotalOrder pair_cmp
pairs_total = then_total (on_total (λ (p : Pair). p.account) nat_list_cmp_total) (on_total (λ (p : Pair). p.commodity) nat_list_cmp_total)

pub exact_pair : CmpEqualImpliesEq pair_cmp
exact_pair p q e =
    let same = exact_pairs text_cmp text_cmp exact_bytes exact_bytes (p.account, p.commodity) (q.account, q.commodity) e in
    λ i. record { account = (same i).0; commodity = (same i).1 }

pub rows_total : IsTotalOrder row_cmp
rows_total = then_total (on_total (λ (p : RowKey). p.0) nat_list_cmp_total) (on_total (λ (p : RowKey). p.1) pairs_total)

pub exact_row : CmpEqualImpliesEq row_cmp
exact_row = exact_pairs text_cmp pair_cmp exact_bytes exact_pair

module _ (length : PeriodLength) where
  -- ---- no leg

  start : AreRows length [] []
  unfolding IsStrictlySortedBy
  start = record { in_order = tt; each = λ row. refl }

  pub none_yet : {A : Type 0} (rows : BTreeMap (String A × Pair) Flow) → rows.entries ≡ [] → HasRows length [] rows
  none_yet {A} rows none = subst (λ (es : List ((String A × Pair) × Flow)). AreRows length [] (map shown es)) (sym none) start

  -- ---- one more leg

  none_in : (row : RowKey) (legs : List DatedLeg) → list_any (is_in_row length row) legs ≡ false → legs_in_row length row legs ≡ []
  none_in row [] none = refl
  none_in row (leg ∷ legs) none = by (is_in_row length row leg) refl none (none_in row legs)
    where
      by : (b : Bool) → is_in_row length row leg ≡ b → (b || list_any (is_in_row length row) legs) ≡ false
          → (list_any (is_in_row length row) legs ≡ false → legs_in_row length row legs ≡ []) → legs_in_row length row (leg ∷ legs) ≡ []
      by true here some rest = absurd (true≢false some)
      by false here some rest = ap (λ b. cond b (leg ∷ legs_in_row length row legs) (legs_in_row length row legs)) here ∙ rest some

  -- what is kept of a row, or nothing, are the sums over its legs
  kept_is : (legs : List DatedLeg) (rows : List (RowKey × Flow)) (row : RowKey) → AreRows length legs rows
      → unwrap_or (lookup (λ other. is_eq (row_cmp row other)) rows) (flow_of []) ≡ flow_of (legs_in_row length row legs)
  kept_is legs rows row are = ap (λ o. unwrap_or o (flow_of [])) (are.each row) ∙ by (list_any (is_in_row length row) legs) refl
    where
      by : (b : Bool) → list_any (is_in_row length row) legs ≡ b
          → unwrap_or (if b then Some (flow_of (legs_in_row length row legs)) else None) (flow_of []) ≡ flow_of (legs_in_row length row legs)
      by true some = refl
      by false none = ap flow_of (sym (none_in row legs none))

  any_push : (row : RowKey) (legs : List DatedLeg) (leg : DatedLeg)
      → list_any (is_in_row length row) (legs ++ leg ∷ []) ≡ (list_any (is_in_row length row) legs || is_in_row length row leg)
  any_push row legs leg =
      list_any-append (is_in_row length row) legs (leg ∷ [])
      ∙ ap (λ b. list_any (is_in_row length row) legs || b) (or-false (is_in_row length row leg))

  abbrev with_one : List DatedLeg → DatedLeg → List DatedLeg
  with_one legs leg = legs ++ leg ∷ []

  row_set : (legs : List DatedLeg) (leg : DatedLeg) (rows : List (RowKey × Flow)) (flow : Flow) → AreRows length legs rows
      → flow ≡ with_units (flow_of (legs_in_row length (row_of length leg) legs)) leg.units
      → AreRows length (with_one legs leg) (insert_entry row_cmp rows (row_of length leg) flow)
  row_set legs leg rows flow are is = record {
    in_order = sorted_with rows_total (row_of length leg) flow rows are.in_order;
    each = λ other. lookup_with rows_total (row_of length leg) flow other rows ∙ by other (is_in_row length other leg) refl;
  }
    where
      by : (other : RowKey) (b : Bool) → is_in_row length other leg ≡ b
          → cond (is_in_row length other leg) (Some flow) (lookup (λ name. is_eq (row_cmp other name)) rows)
          ≡ (if list_any (is_in_row length other) (with_one legs leg) then Some (flow_of (legs_in_row length other (with_one legs leg))) else None)
      by other true here =
          let one : other ≡ row_of length leg = exact_row other (row_of length leg) ((Equal-is (row_cmp other (row_of length leg))).0 here) in
          let all : legs_in_row length other (with_one legs leg) ≡ with_one (legs_in_row length (row_of length leg) legs) leg =
          filter_push (is_in_row length other) legs leg
          ∙ ap (λ b. cond b (legs_in_row length other legs ++ leg ∷ []) (legs_in_row length other legs)) here
          ∙ ap (λ r. legs_in_row length r legs ++ leg ∷ []) one in
          let some : list_any (is_in_row length other) (with_one legs leg) ≡ true =
          any_push other legs leg ∙ ap (λ b. list_any (is_in_row length other) legs || b) here ∙ or-true (list_any (is_in_row length other) legs) in
          ap (λ b. cond b (Some flow) (lookup (λ name. is_eq (row_cmp other name)) rows)) here
          ∙ ap Some (is ∙ sym (flow_push (legs_in_row length (row_of length leg) legs) leg) ∙ ap flow_of (sym all))
          ∙ ap (λ b. if b then Some (flow_of (legs_in_row length other (with_one legs leg))) else None) (sym some)
      by other false here =
          let same : legs_in_row length other (with_one legs leg) ≡ legs_in_row length other legs =
          filter_push (is_in_row length other) legs leg
          ∙ ap (λ b. cond b (legs_in_row length other legs ++ leg ∷ []) (legs_in_row length other legs)) here in
          let any : list_any (is_in_row length other) (with_one legs leg) ≡ list_any (is_in_row length other) legs =
          any_push other legs leg ∙ ap (λ b. list_any (is_in_row length other) legs || b) here ∙ or-false (list_any (is_in_row length other) legs) in
          ap (λ b. cond b (Some flow) (lookup (λ name. is_eq (row_cmp other name)) rows)) here
          ∙ are.each other
          ∙ (λ i. if sym any i then Some (flow_of (sym same i)) else None)

  -- ---- the rows as they are kept

  -- what is kept of the row of a key
  pub kept_flow : {A : Type 0} (legs : List DatedLeg) (rows : BTreeMap (String A × Pair) Flow) (key : String A × Pair) (row : RowKey) (found : Option Flow) (none : Flow)
      → seen key ≡ row → HasRows length legs rows → found ≡ lookup (λ other. is_eq (kept_cmp key other)) rows.entries → none ≡ flow_of []
      → unwrap_or found none ≡ flow_of (legs_in_row length row legs)
  kept_flow legs rows key row found none own has is empty =
      (λ i. unwrap_or ((is ∙ lookup_seen seen (λ name. is_eq (row_cmp (seen key) name)) rows.entries) i) (empty i))
      ∙ kept_is legs (map shown rows.entries) (seen key) has
      ∙ ap (λ r. flow_of (legs_in_row length r legs)) own

  -- a leg whose row is set
  leg_set : {A : Type 0} (legs : List DatedLeg) (leg : DatedLeg) (rows new : BTreeMap (String A × Pair) Flow) (key : String A × Pair) (kept flow : Flow)
      → seen key ≡ row_of length leg → HasRows length legs rows → kept ≡ flow_of (legs_in_row length (row_of length leg) legs)
      → IsTrue (has_room kept leg.units) × (flow ≡ with_units kept leg.units)
      → new.entries ≡ insert_entry kept_cmp rows.entries key flow
      → IsTrue (leg_fits length legs leg) × HasRows length (legs ++ leg ∷ []) new
  leg_set legs leg rows new key kept flow own has is (room, more) set = (
    subst (λ (f : Flow). IsTrue (has_room f leg.units)) is room,
    subst (AreRows length (legs ++ leg ∷ []))
        (sym (ap (map shown) set ∙ insert_seen seen row_cmp rows.entries key flow ∙ ap (λ r. insert_entry row_cmp (map shown rows.entries) r flow) own))
        (row_set legs leg (map shown rows.entries) flow has (more ∙ ap (λ f. with_units f leg.units) is)),
  )

  -- the same, where there may be no memory for the row
  pub leg_added : {A : Type 0} (legs : List DatedLeg) (leg : DatedLeg) (rows new : BTreeMap (String A × Pair) Flow) (key : String A × Pair) (units : ℤ) (kept flow : Flow)
      (result : Result (Unit {0}) ReportFault)
      → seen key ≡ row_of length leg → units ≡ leg.units → HasRows length legs rows → kept ≡ flow_of (legs_in_row length (row_of length leg) legs)
      → IsTrue (has_room kept units) × (flow ≡ with_units kept units)
      → OnOk result (new.entries ≡ insert_entry kept_cmp rows.entries key flow) → IfErr result (λ fault. fault ≡ Memory)
      → AddsFitting (leg_fits length legs leg) (HasRows length (legs ++ leg ∷ []) new) result
  leg_added legs leg rows new key units kept flow (Ok done) own of_leg has is more set cause =
      leg_set legs leg rows new key kept flow own has is (subst (λ u. IsTrue (has_room kept u) × (flow ≡ with_units kept u)) of_leg more) set
  leg_added legs leg rows new key units kept flow (Err fault) own of_leg has is more set cause =
      rw (cause) (subst IsTrue (λ i. has_room (is i) (of_leg i)) more.0)

  -- a leg that doesn't fit
  pub leg_unfit : (legs : List DatedLeg) (leg : DatedLeg) (units : ℤ) (kept : Flow)
      → units ≡ leg.units → kept ≡ flow_of (legs_in_row length (row_of length leg) legs) → (IsTrue (has_room kept units) → ⊥)
      → IsTrue (not (leg_fits length legs leg))
  leg_unfit legs leg units kept of_leg is never =
      subst IsTrue (λ i. not (has_room (is i) (of_leg i))) (unfit (has_room kept units) never)
    where
      unfit : (b : Bool) → (IsTrue b → ⊥) → IsTrue (not b)
      unfit true never = absurd (never refl)
      unfit false never = refl

-- ---- the table

-- a table takes a leg that is counted
counted_in : (legs : List DatedLeg) (leg : DatedLeg) (old new : ActivityTable) (result : Result (Unit {0}) ReportFault)
    → terms_in new ≡ terms_in old → is_counted (terms_in old).asked leg ≡ true → EachFits (fits (terms_in old)) [] legs
    → Adds (leg_fits old.length (counted_legs (terms_in old).asked legs) leg)
    (HasRows old.length (counted_legs (terms_in old).asked legs ++ leg ∷ []) new.rows) result
    → Adds (fits (terms_in old) legs leg) (IsTable (terms_in old) (legs ++ leg ∷ []) new) result
counted_in legs leg old new (Ok done) same here each (room, rows) =
    let fit : fits (terms_in old) legs leg ≡ true = ap (λ b. not b || leg_fits old.length (counted_legs (terms_in old).asked legs) leg) here ∙ room in (
      fit,
      (
        same,
        fit_more (fits (terms_in old)) [] legs leg each fit,
        subst (λ (ls : List DatedLeg). HasRows old.length ls new.rows)
            (sym
            (filter_push (is_counted (terms_in old).asked) legs leg
            ∙ ap (λ b. cond b (counted_legs (terms_in old).asked legs ++ leg ∷ []) (counted_legs (terms_in old).asked legs)) here))
            rows,
      ),
    )
counted_in legs leg old new (Err Range) same here each unfit =
    ap not (ap (λ b. not b || leg_fits old.length (counted_legs (terms_in old).asked legs) leg) here) ∙ unfit
counted_in legs leg old new (Err Write) same here each never = never
counted_in legs leg old new (Err Memory) same here each says = tt

pub leg_counted : (terms : Terms) (legs : List DatedLeg) (leg : DatedLeg) (old new : ActivityTable) (result : Result (Unit {0}) ReportFault)
    → IsTable terms legs old → terms_in new ≡ terms_in old → is_counted (terms_in old).asked leg ≡ true
    → ((before : List DatedLeg) → HasRows old.length before old.rows
    → Adds (leg_fits old.length before leg) (HasRows old.length (before ++ leg ∷ []) new.rows) result)
    → Adds (fits terms legs leg) (IsTable terms (legs ++ leg ∷ []) new) result
leg_counted terms legs leg old new result (own, fit, rows) same here added =
    let each = subst (λ (t : Terms). EachFits (fits t) [] legs) (sym own) fit in
    let has = subst (λ (t : Terms). HasRows t.length (counted_legs t.asked legs) old.rows) (sym own) rows in
    subst (λ (t : Terms). Adds (fits t legs leg) (IsTable t (legs ++ leg ∷ []) new) result) own
    (counted_in legs leg old new result same here each (added (counted_legs (terms_in old).asked legs) has))

-- a table passes over a leg that isn't
pub leg_passed : (terms : Terms) (legs : List DatedLeg) (leg : DatedLeg) (table : ActivityTable)
    → IsTable terms legs table → is_counted (terms_in table).asked leg ≡ false
    → IsTrue (fits terms legs leg) × IsTable terms (legs ++ leg ∷ []) table
leg_passed terms legs leg table (own, each, has) apart =
    let passed : is_counted terms.asked leg ≡ false = subst (λ (t : Terms). is_counted t.asked leg ≡ false) own apart in
    let fit : fits terms legs leg ≡ true = ap (λ b. not b || leg_fits terms.length (counted_legs terms.asked legs) leg) passed in (
      fit,
      (
        own,
        fit_more (fits terms) [] legs leg each fit,
        subst (λ (ls : List DatedLeg). HasRows terms.length ls table.rows)
            (sym
            (filter_push (is_counted terms.asked) legs leg
            ∙ ap (λ b. cond b (counted_legs terms.asked legs ++ leg ∷ []) (counted_legs terms.asked legs)) passed))
            has,
      ),
    )

-- the lines of a table are those of its legs
pub table_end : (terms : Terms) (legs : List DatedLeg) (table : ActivityTable) → IsTable terms legs table
    → IsEnd terms legs (table_lines table.form (map shown table.rows.entries))
table_end terms legs table (own, each, has) =
    (map shown table.rows.entries, has, ap (λ (t : Terms). table_lines t.form (map shown table.rows.entries)) own)
