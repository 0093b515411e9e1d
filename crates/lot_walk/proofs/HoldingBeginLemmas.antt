-- A walk over holdings begins: the rows of plain units are read, and the first lot.
use Rattle.std.proofs.Common.{◌≡◌, ◌∙◌, ◌++◌, [], ◌∷◌, false, true, List, length, Option, None, Result, Ok, Err, refl, sym, ap, subst, arith, inl, inr}
use Rattle.std.specs.Vec.Iter.{into_iter_items}
use Rattle.std.specs.Global.{Vec}
use Rattle.std.proofs.lemmas.List.Elements.{recursion_from_All}
use Rattle.sqlite.specs.State.{HasCleanDisk, State}
use Rattle.lot_book.specs.declared.holding.Holding.{Holding}
use Rattle.lot_table.specs.Book.{IsUndone}
use Rattle.lot_table.specs.Call.{Lists}
use Rattle.lot_table.specs.declared.fault.Fault.{Fault}
use Rattle.lot_table.specs.declared.fault.Fault.TheVariants.{Damaged, Device}
use Rattle.lot_rows.specs.Lot.{IsLotRow, lot_cells}
use Rattle.lot_rows.specs.Plain.{IsPlainRow}
use Rattle.lot_rows.specs.Tables.{Tables, layout}
use Rattle.lot_rows.specs.declared.lot.LotRow.{LotRow}
use Rattle.lot_rows.specs.declared.plain.PlainRow.{PlainRow}
use Rattle.lot_page.specs.Cursor.{Stays, Steps as CursorSteps}
use Rattle.lot_walk.specs.Holdings.{Begins, HasNotBegun, IsAt, IsAtStage, IsBehindHoldings, IsNext, IsReadAhead, merged, plain_left}
use Rattle.lot_walk.specs.Place.{Went}
use Rattle.lot_walk.specs.Step.{StaysOrGoesBack}
use Rattle.lot_walk.specs.declared.holdings.HoldingsPlace.{HoldingsPlace}
use Rattle.lot_walk.proofs.HoldingStepLemmas.{StepsOver, lot_ahead}
use Rattle.lot_rows.proofs.StateLemmas.{early, survives_both, survives_same}
use Rattle.lot_walk.proofs.PlaceLemmas.{failed_after, has_still, stays_itself, stays_then, unchanged_stays}
use Rattle.lot_walk.proofs.StepLemmas.{left_then, undone_left}

at_first : (place : HoldingsPlace) (tables : Tables) (given : List Holding) → place.has_begun ≡ false → IsAt place tables given → HasNotBegun place tables given
at_first place tables given e at = subst (λ b. IsAtStage b place tables given) e at

pub no_rows : (rows : List PlainRow) → length rows ≡ 0 → rows ≡ []
no_rows [] e = refl
no_rows (row ∷ rows) e = absurd (omega arith)

undone_as : (old new : State) → IsUndone old new → StaysOrGoesBack old new
undone_as old new (inl same) = undone_left old new (inl (unchanged_stays old new same))
undone_as old new (inr back) = undone_left old new (inr back)

abbrev unlisted : Fault → Result (Vec PlainRow) Fault
unlisted fault = Err fault

abbrev unread : Fault → Result (Option LotRow) Fault
unread fault = Err fault

abbrev not_begun : Fault → Result (Unit {0}) Fault
not_begun fault = Err fault

-- ---- nothing is to be read

pub begin_idle : (place : HoldingsPlace) (s : State) → place.has_begun ≡ true → Begins place place s s (Ok tt)
begin_idle place s begun = record {
  begun = begun;
  keeps = λ clean tables entries has stand given at. at;
  same = λ clean. stays_itself s;
  damaged = λ clean is. cc;
  failed = λ clean is. cc;
  left = λ clean. tt;
  crash = survives_same s _;
}

-- ---- the rows of plain units

abbrev pub ListsPlain : State → State → Result (Vec PlainRow) Fault → Type 0
ListsPlain = Lists layout IsPlainRow (λ (b : Tables). b.plain)

pub begin_unlisted : (before after : HoldingsPlace) (old new : State) (fault : Fault) → ListsPlain old new (Err fault) → Begins before after old new (Err fault)
begin_unlisted before after old new fault lists = record {
  begun = tt;
  keeps = λ clean. tt;
  same = λ clean. tt;
  damaged = λ clean is limit tables entries has stand given at.
      let of : unlisted fault ≡ Err Damaged = cc in lists.damaged clean of limit tables has stand.good.plain;
  failed = λ clean is. let of : unlisted fault ≡ Err Device = cc in lists.device clean of;
  left = λ clean. undone_as old new (lists.undone clean);
  crash = lists.crash;
}

-- ---- the first lot

module _ (before after : HoldingsPlace) (old now new : State) (listed : Vec PlainRow) (fresh : before.has_begun ≡ false) (lists : ListsPlain old now (Ok listed)) where
  abbrev pub ReadsFirst : Result (Option LotRow) Fault → Type 0
  ReadsFirst = CursorSteps lot_cells IsLotRow (λ (b : Tables). b.lot) before.lots after.lots now new

  listed_stays : HasCleanDisk now → Stays old now
  listed_stays clean = unchanged_stays old now (lists.same clean)

  pub begin_unread : (fault : Fault) → ReadsFirst (Err fault) → Begins before after old new (Err fault)
  begin_unread fault reads = record {
    begun = tt;
    keeps = λ clean. tt;
    same = λ clean. tt;
    damaged = λ clean is limit tables entries has stand given at.
        let was = early now new reads.crash clean in
        let of : unread fault ≡ Err Damaged = cc in
        reads.damaged clean of (lists.crash.limit ∙ limit) tables (has_still old now tables (listed_stays was) has) []
        (at_first before tables given fresh at).first stand.good.lot;
    failed = λ clean is.
        let was = early now new reads.crash clean in
        let of : unread fault ≡ Err Device = cc in
        failed_after old now new (listed_stays was) lists.crash (reads.device clean of);
    left = λ clean. left_then old now new (listed_stays (early now new reads.crash clean)) (undone_left now new (reads.undone clean));
    crash = survives_both old now new lists.crash reads.crash;
  }

  pub begin_done : (found : Option LotRow) → ReadsFirst (Ok found) → after.has_begun ≡ true → plain_left after ≡ listed.items
      → (after.plain ≡ None → into_iter_items after.more ≡ []) → after.lot ≡ found → Begins before after old new (Ok tt)
  begin_done found reads begun plain read_all at_lot = record {
    begun = begun;
    keeps = λ clean tables entries has stand given at.
        let was = early now new reads.crash clean in
        let first = at_first before tables given fresh at in
        let rows : plain_left after ≡ tables.plain = plain ∙ lists.says was tables has in
        let gives = reads.gives clean tables (has_still old now tables (listed_stays was) has) [] first.first in
        let next = lot_ahead [] tables.lot tables.lot after.lots found refl (recursion_from_All IsLotRow tables.lot stand.good.lot) reads.good gives in
        subst (λ b. IsAtStage b after tables given) (sym begun) (record {
          passed = [];
          taken = [];
          left = tables.lot;
          plain = rows;
          read_all = read_all;
          lots = refl;
          next = subst (λ o. IsNext o tables.lot) (sym at_lot) next.0;
          ahead = subst (λ o. IsReadAhead o [] tables.lot after.lots) (sym at_lot) next.1;
          rows = ap (λ front. front ++ merged (plain_left after) tables.lot) first.none ∙ ap (λ left. merged left tables.lot) rows;
        });
    same = λ clean. stays_then old now new (listed_stays (early now new reads.crash clean)) (reads.same clean);
    damaged = λ clean is. cc;
    failed = λ clean is. cc;
    left = λ clean. tt;
    crash = survives_both old now new lists.crash reads.crash;
  }

-- ---- what that is to a step

pub begun_went : (before mid : HoldingsPlace) (old now : State) → Begins before mid old now (Ok tt)
    → Went IsBehindHoldings before mid old now
begun_went before mid old now begins = record {
  keeps = λ clean tables entries has book stand asked given behind. begins.keeps clean tables entries has stand given behind;
  same = begins.same;
  survives = begins.crash;
}

pub begin_failed : (before mid : HoldingsPlace) (old new : State) (fault : Fault) → Begins before mid old new (Err fault) → StepsOver before mid old new (Err fault)
begin_failed before mid old new fault begins = record {
  gives = λ clean. tt;
  good = tt;
  same = λ clean. tt;
  damaged = λ clean is limit tables entries has book stand asked given behind.
      let of : not_begun fault ≡ Err Damaged = cc in begins.damaged clean of limit tables entries has stand given behind;
  failed = λ clean is. let of : not_begun fault ≡ Err Device = cc in begins.failed clean of;
  crash = begins.crash;
}
