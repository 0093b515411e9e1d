-- Steps of a walk over holdings whose tables may be those of no book.
use Rattle.std.proofs.Common.{◌≡◌, ◌∙◌, ◌++◌, [], ◌∷◌, true, false, filter, List, map, Option, Some, None, Result, Ok, option_map, refl, sym, ap, subst}
use Rattle.std.specs.Option.{option_to_list}
use Rattle.std.specs.Vec.Iter.{into_iter_items}
use Rattle.std.specs.Global.{Vec}
use Rattle.std.proofs.lemmas.Bool.{true≢false}
use Rattle.std.proofs.lemmas.List.{append-nil, append_assoc, map-append}
use Rattle.std.proofs.lemmas.List.Elements.{filter-append}
use Rattle.sqlite.specs.State.{State}
use Rattle.lot_book.specs.declared.holding.Holding.{Holding}
use Rattle.lot_table.specs.declared.fault.Fault.{Fault}
use Rattle.lot_rows.specs.Lot.{lot_cells}
use Rattle.lot_rows.specs.Tables.{Tables}
use Rattle.lot_rows.specs.declared.lot.LotRow.{LotRow}
use Rattle.lot_rows.specs.declared.plain.PlainRow.{PlainRow}
use Rattle.lot_page.specs.Cursor.{Gives, Place}
use Rattle.lot_walk.specs.Holdings.{AreAllHoldingRows, BeginsOverRows, HasGivenRows, HasNotBegun, IsAtRowsStage, IsBehindHoldingRows, Takes, is_at_lot, is_lot_next, is_plain, lot_holding, plain_holding, plain_left, shown_holding}
use Rattle.lot_walk.specs.Place.{KeepsRows}
use Rattle.lot_walk.specs.Step.{StepsOverRows}
use Rattle.lot_walk.specs.declared.holdings.HoldingsPlace.{HoldingsPlace}
use Rattle.lot_walk.proofs.HoldingBeginLemmas.{ListsPlain, ReadsFirst}
use Rattle.lot_walk.proofs.HoldingStepLemmas.{ReadsLot, lot_there}
use Rattle.lot_rows.proofs.StateLemmas.{early}
use Rattle.lot_walk.proofs.PlaceLemmas.{has_still, unchanged_stays}

-- ---- what a place has given

begun_rows : (place : HoldingsPlace) (tables : Tables) (given : List Holding) → place.has_begun ≡ true → IsBehindHoldingRows place tables tt given → HasGivenRows place tables given
begun_rows place tables given e behind = subst (λ b. IsAtRowsStage b place tables given) e behind

behind_rows : (place : HoldingsPlace) (tables : Tables) (given : List Holding) → place.has_begun ≡ true → HasGivenRows place tables given → IsBehindHoldingRows place tables tt given
behind_rows place tables given e has = subst (λ b. IsAtRowsStage b place tables given) (sym e) has

-- a row of plain units more
plain_more : (given : List Holding) (passed : List PlainRow) (holding : Holding) (row : PlainRow) → holding ≡ plain_holding row → filter is_plain given ≡ map plain_holding passed
    → filter is_plain (given ++ holding ∷ []) ≡ map plain_holding (passed ++ row ∷ [])
plain_more given passed holding row is e =
    ap (λ h. filter is_plain (given ++ h ∷ [])) is
    ∙ filter-append is_plain given (plain_holding row ∷ [])
    ∙ ap (λ l. l ++ plain_holding row ∷ []) e
    ∙ sym (map-append plain_holding passed (row ∷ []))

plain_no_lot : (given : List Holding) (lots : List LotRow) (holding : Holding) (row : PlainRow) → holding ≡ plain_holding row → filter is_at_lot given ≡ map lot_holding lots
    → filter is_at_lot (given ++ holding ∷ []) ≡ map lot_holding lots
plain_no_lot given lots holding row is e =
    ap (λ h. filter is_at_lot (given ++ h ∷ [])) is ∙ filter-append is_at_lot given (plain_holding row ∷ []) ∙ append-nil (filter is_at_lot given) ∙ e

-- a lot more
lot_more : (given : List Holding) (taken : List LotRow) (lot : LotRow) → filter is_at_lot given ≡ map lot_holding taken
    → filter is_at_lot (given ++ lot_holding lot ∷ []) ≡ map lot_holding (taken ++ lot ∷ [])
lot_more given taken lot e =
    filter-append is_at_lot given (lot_holding lot ∷ []) ∙ ap (λ l. l ++ lot_holding lot ∷ []) e ∙ sym (map-append lot_holding taken (lot ∷ []))

lot_no_plain : (given : List Holding) (passed : List PlainRow) (lot : LotRow) → filter is_plain given ≡ map plain_holding passed
    → filter is_plain (given ++ lot_holding lot ∷ []) ≡ map plain_holding passed
lot_no_plain given passed lot e = filter-append is_plain given (lot_holding lot ∷ []) ∙ append-nil (filter is_plain given) ∙ e

no_lot_left : (lot : Option LotRow) → is_lot_next None lot ≡ false → lot ≡ None
no_lot_left None e = refl
no_lot_left (Some lot) e = absurd (true≢false e)

-- ---- steps

abbrev pub StepsRows : HoldingsPlace → HoldingsPlace → State → State → Result (Option Holding) Fault → Type 0
StepsRows = StepsOverRows shown_holding AreAllHoldingRows IsBehindHoldingRows

pub plain_rows : (mid after : HoldingsPlace) (s : State) (result : Option Holding) → mid.has_begun ≡ true → is_lot_next mid.plain mid.lot ≡ false
    → after.has_begun ≡ mid.has_begun → after.lot ≡ mid.lot → after.lots ≡ mid.lots → Takes mid after result → StepsRows mid after s s (Ok result)
plain_rows mid after s None begun e still lot lots takes = λ clean tables held asked given behind.
    let has = begun_rows mid tables given begun behind in
    let none = no_lot_left mid.lot (ap (λ p. is_lot_next p mid.lot) (sym takes) ∙ e) in
    let left : plain_left mid ≡ [] = ap (λ p. option_to_list p ++ into_iter_items mid.more) takes ∙ has.read_all takes in
    record {
      lots = has.taken;
      of_lot = subst (λ o. Gives lot_cells has.taken tables.lot mid.lots o) none has.ahead;
      at_lots = has.of_lot;
      plain = has.of_plain ∙ ap (map plain_holding) (sym (append-nil has.passed) ∙ ap (λ rows. has.passed ++ rows) (sym left) ∙ has.plain);
    }
plain_rows mid after s (Some holding) begun e still lot lots takes = λ clean tables held asked given behind.
    let has = begun_rows mid tables given begun behind in
    let row = takes.0 in
    let first : plain_left mid ≡ row ∷ plain_left after =
    ap (λ p. option_to_list p ++ into_iter_items mid.more) takes.1 ∙ ap (λ rows. row ∷ rows) (sym takes.3) in
    behind_rows after tables (given ++ holding ∷ []) (still ∙ begun) (record {
      passed = has.passed ++ row ∷ [];
      taken = has.taken;
      plain = append_assoc has.passed (row ∷ []) (plain_left after) ∙ ap (λ rows. has.passed ++ rows) (sym first) ∙ has.plain;
      read_all = takes.4;
      ahead = subst (λ (c : Place). Gives lot_cells has.taken tables.lot c after.lot) (sym lots) (subst (λ o. Gives lot_cells has.taken tables.lot mid.lots o) (sym lot) has.ahead);
      of_plain = plain_more given has.passed holding row takes.2 has.of_plain;
      of_lot = plain_no_lot given has.taken holding row takes.2 has.of_lot;
    })

pub lot_rows : (mid after : HoldingsPlace) (old new : State) (found : Option LotRow) (result : Option Holding) → mid.has_begun ≡ true
    → is_lot_next mid.plain mid.lot ≡ true → after.has_begun ≡ mid.has_begun → after.plain ≡ mid.plain → after.more ≡ mid.more → after.lot ≡ found
    → ReadsLot mid after old new (Ok found) → result ≡ option_map lot_holding mid.lot → StepsRows mid after old new (Ok result)
lot_rows mid after old new found result begun e still plain more at reads is =
    let lot = lot_there mid.plain mid.lot e in
    let one : result ≡ Some (lot_holding lot.0) = is ∙ ap (option_map lot_holding) lot.1 in
    subst (λ r. StepsRows mid after old new (Ok r)) (sym one) (λ clean tables held asked given behind.
    let has = begun_rows mid tables given begun behind in
    let taken : List LotRow = has.taken ++ lot.0 ∷ [] in
    let same : plain_left after ≡ plain_left mid = λ i. option_to_list (plain i) ++ into_iter_items (more i) in
    behind_rows after tables (given ++ lot_holding lot.0 ∷ []) (still ∙ begun) (record {
      passed = has.passed;
      taken = taken;
      plain = ap (λ rows. has.passed ++ rows) same ∙ has.plain;
      read_all = λ none. ap into_iter_items more ∙ has.read_all (sym plain ∙ none);
      ahead = subst (λ o. Gives lot_cells taken tables.lot after.lots o) (sym at)
          (reads.gives clean tables held taken (subst (λ o. Gives lot_cells has.taken tables.lot mid.lots o) lot.1 has.ahead));
      of_plain = lot_no_plain given has.passed lot.0 has.of_plain;
      of_lot = lot_more given has.taken lot.0 has.of_lot;
    }))

-- ---- the beginning

pub begun_over : (before after : HoldingsPlace) (old now new : State) (listed : Vec PlainRow) (fresh : before.has_begun ≡ false) (lists : ListsPlain old now (Ok listed))
    (found : Option LotRow) → ReadsFirst before after old now new listed fresh lists (Ok found) → after.has_begun ≡ true → plain_left after ≡ listed.items
    → (after.plain ≡ None → into_iter_items after.more ≡ []) → after.lot ≡ found → BeginsOverRows before after old new (Ok tt)
begun_over before after old now new listed fresh lists found reads begun plain read_all at = λ clean tables has asked given behind.
    let was = early now new reads.crash clean in
    let first : HasNotBegun before tables given = subst (λ b. IsAtRowsStage b before tables given) fresh behind in
    behind_rows after tables given begun (record {
      passed = [];
      taken = [];
      plain = plain ∙ lists.says was tables has;
      read_all = read_all;
      ahead = subst (λ o. Gives lot_cells [] tables.lot after.lots o) (sym at)
          (reads.gives clean tables (has_still old now tables (unchanged_stays old now (lists.same was)) has) [] first.first);
      of_plain = ap (filter is_plain) first.none;
      of_lot = ap (filter is_at_lot) first.none;
    })

pub begun_keeps : (before mid : HoldingsPlace) (old now : State) → BeginsOverRows before mid old now (Ok tt) → KeepsRows IsBehindHoldingRows before mid old now
begun_keeps before mid old now begins = begins
