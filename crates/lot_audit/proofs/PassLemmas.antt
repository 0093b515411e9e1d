-- The entries, one after another, and their end.
use Rattle.std.specs.Prelude.{◌≡◌, ℕ, List, [], ◌∷◌, ◌++◌, map, Option, None, Some, Ok, Err, Result}
use Rattle.std.specs.Result.{IsErrAnd}
use Rattle.std.proofs.Common.{sym, ap, subst, ◌∙◌, append_assoc}
use Rattle.std.proofs.lemmas.List.{append-nil, append_cancel_left}
use Rattle.sqlite.specs.State.{State}
use Rattle.lot_book.specs.Edition.{After}
use Rattle.lot_page.specs.Cursor.{Place, Steps}
use Rattle.lot_page.proofs.BehindLemmas.{all_rows, behind_rows}
use Rattle.lot_rows.specs.Entry.{IsEntryRow, entry_cells}
use Rattle.lot_rows.specs.Sale.{IsSaleRow, sale_cells}
use Rattle.lot_rows.specs.Tables.{Tables}
use Rattle.lot_rows.specs.declared.entry.EntryRow.{EntryRow}
use Rattle.lot_rows.specs.declared.sale.SaleRow.{SaleRow}
use Rattle.lot_rows.proofs.EntryLemmas.{same_row}
use Rattle.lot_stored.specs.Kept.{SalesOf}
use Rattle.lot_stored.specs.Rows.{entry_rows, sale_row}
use Rattle.lot_stored.specs.StandFor.{AreOfBook}
use Rattle.lot_table.specs.declared.fault.Fault.{Fault}
use Rattle.lot_table.specs.declared.fault.Fault.TheVariants.{Damaged}
use Rattle.lot_walk.proofs.OneSalesLemmas.{one_sales_of_book}
use Rattle.lot_walk.proofs.SaleRowLemmas.{one_sale_row}
use Rattle.lot_audit.specs.Checks.{ChecksWhere}
use Rattle.lot_audit.specs.Pass.{HasJudged, HasJudgedAll, HasRead, HasReadAll, SaysPlace}
use Rattle.lot_audit.specs.declared.pass.Replayed.{Replayed}
use Rattle.lot_audit.specs.declared.pass.Pass.{Pass}
use Rattle.lot_audit.proofs.NextLemmas.{is_whole}
use Rattle.lot_audit.proofs.SeenLemmas.{Seen, passed_on, refuted, seen_done, seen_none, step_fails, step_gives}

abbrev entries_in : Tables → List EntryRow
entries_in tables = tables.entry

abbrev sales_in : Tables → List SaleRow
sales_in tables = tables.sale

-- ---- the next entry

abbrev pub behind_next : Pass → Place → Pass
behind_next pass after = record { known = pass.known; entries = after; sales = pass.sales }

module _ (place : ℕ) (pass : Pass) (after : Place) (old mid new : State) (seen : Seen (SaysPlace place) (HasJudged pass) old mid) where
  abbrev Reads : Result (Option EntryRow) Fault → Type 0
  Reads = Steps entry_cells IsEntryRow entries_in pass.entries after mid new

  pub entry_read : (row : EntryRow) → Reads (Ok (Some row)) → Seen (SaysPlace place) (HasRead (behind_next pass after) row) old new
  entry_read row reads =
      step_gives (SaysPlace place) entry_cells IsEntryRow entries_in pass.entries after old mid new (HasJudged pass) seen
      (HasRead (behind_next pass after) row) (Some row) reads
      (λ tables has was gives good. (was.0, was.1, was.2, gives (entry_rows 1 was.0) was.3, was.4, good))

  pub entries_read : Reads (Ok None) → Seen (SaysPlace place) (HasReadAll (behind_next pass after)) old new
  entries_read reads =
      step_gives (SaysPlace place) entry_cells IsEntryRow entries_in pass.entries after old mid new (HasJudged pass) seen
      (HasReadAll (behind_next pass after)) None reads
      (λ tables has was gives good. (
        was.0,
        was.1,
        was.2,
        sym (all_rows entry_cells same_row (entry_rows 1 was.0) tables.entry (gives (entry_rows 1 was.0) was.3)),
        was.4,
      ))

  pub entry_unread : (fault : Fault) (result : Result Replayed Fault) → IsErrAnd result (λ e. e ≡ fault) → Reads (Err fault)
      → ChecksWhere (SaysPlace place) HasJudgedAll old new result
  entry_unread fault result is reads =
      passed_on (SaysPlace place) HasJudgedAll old new fault result is
      (step_fails (SaysPlace place) entry_cells IsEntryRow entries_in pass.entries after old mid new (HasJudged pass) seen HasJudgedAll
      fault reads (λ tables has was. (entry_rows 1 was.0, was.3)) (λ tables of. of.2.good.entry))

-- ---- the end

module _ (pass : Pass) (after : Place) (old new : State) where
  abbrev Where : Tables → Type 0
  Where = HasReadAll pass

  abbrev ReadsSale : Result (Option SaleRow) Fault → Type 0
  ReadsSale = Steps sale_cells IsSaleRow sales_in pass.sales after old new

  pub ended : ReadsSale (Ok None) → ChecksWhere Where HasJudgedAll old new (Ok pass.known)
  ended reads =
      seen_done Where HasJudgedAll old new pass.known
      (step_gives Where sale_cells IsSaleRow sales_in pass.sales after old old new Where (seen_none Where old)
      (HasJudgedAll pass.known) None reads
      (λ tables has was gives good. (
        was.0,
        was.1,
        was.2,
        was.3,
        sym (all_rows sale_cells one_sale_row (map sale_row was.1) tables.sale (gives (map sale_row was.1) was.4)),
      )))

  -- a sale is left
  abbrev SaleLeft : SaleRow → Tables → Type 0
  SaleLeft row tables = (read : HasReadAll pass tables)
      × (rest : List SaleRow) × ((map sale_row read.1 ++ row ∷ []) ++ rest ≡ tables.sale)

  no_sale_left : (row : SaleRow) (tables : Tables) → SaleLeft row tables → ¬ AreOfBook tables
  no_sale_left row tables (read, rest, split) of =
      let judged = read.2 in
      let place = pass.known.replay.place in
      let it = is_whole place tables read.0 judged.migration judged.replays.book judged.said read.3 of in
      let sold : SalesOf (After place) read.0 it.0.sales = subst (λ (p : ℕ). SalesOf (After p) read.0 it.0.sales) it.1 it.0.sold in
      let same : it.0.sales ≡ read.1 =
      one_sales_of_book (After place) (After place) read.0 it.0.sales read.1 judged.replays.book judged.replays.book sold judged.sold in
      let sales = map sale_row read.1 in
      let whole : sales ++ [] ≡ sales ++ (row ∷ rest) =
      append-nil sales ∙ sym (ap (map sale_row) same) ∙ sym it.0.sale ∙ sym split ∙ append_assoc sales (row ∷ []) rest in
      let none : [] ≡ row ∷ rest = append_cancel_left sales [] (row ∷ rest) whole in
      cc

  pub not_ended : (row : SaleRow) → ReadsSale (Ok (Some row)) → ChecksWhere Where HasJudgedAll old new (Err Damaged)
  not_ended row reads =
      refuted Where HasJudgedAll (SaleLeft row) old new
      (step_gives Where sale_cells IsSaleRow sales_in pass.sales after old old new Where (seen_none Where old) (SaleLeft row) (Some row) reads
      (λ tables has was gives good.
      let it = behind_rows sale_cells one_sale_row (map sale_row was.1 ++ row ∷ []) tables.sale after (gives (map sale_row was.1) was.4) in
      (was, it.0, it.1)))
      (λ tables has left. no_sale_left row tables left)

  pub end_unread : (fault : Fault) (result : Result Replayed Fault) → IsErrAnd result (λ e. e ≡ fault) → ReadsSale (Err fault)
      → ChecksWhere Where HasJudgedAll old new result
  end_unread fault result is reads =
      passed_on Where HasJudgedAll old new fault result is
      (step_fails Where sale_cells IsSaleRow sales_in pass.sales after old old new Where (seen_none Where old) HasJudgedAll fault reads
      (λ tables has was. (map sale_row was.1, was.4)) (λ tables of. of.2.good.sale))
