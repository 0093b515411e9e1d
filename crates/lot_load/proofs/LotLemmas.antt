-- What the rows of lots and of opening numbers of an account and a commodity say: all lots there, each with its units and its
-- number.
use Rattle.std.specs.Prelude.{◌≡◌, ◌⊎◌, ℕ, true, List, [], ◌∷◌, drop, map, take, Option, Some, pos, All}
use Rattle.std.specs.List.{AllByRecursion}
use Rattle.std.proofs.Common.{refl, sym, ap, subst, ◌∙◌, inl, inr}
use Rattle.std.proofs.lemmas.Bool.{and_parts}
use Rattle.std.proofs.lemmas.List.Elements.{recursion_from_All}
use Rattle.sqlite.specs.Order.{Row}
use Rattle.sqlite.specs.declared.types.Value.TheVariants.{Int, Text}
use Rattle.sqlite_trees.proofs.ListLemmas.{map-map}
use Rattle.sqlite_rules.proofs.ListLemmas.{all_from, all_has, has_filtered, has_kept}
use Rattle.lot_base.specs.Text.{same_text}
use Rattle.lot_base.proofs.TextLemmas.{one_text}
use Rattle.lot_cost.specs.declared.lot_key.LotKey.{LotKey}
use Rattle.lot_book.specs.Facts.{Entry, Facts, legs_of}
use Rattle.lot_book.specs.Leg.{same_position}
use Rattle.lot_book.specs.OpeningNumber.{opening_in}
use Rattle.lot_book.specs.Openings.{FactsWithOpenings}
use Rattle.lot_book.specs.Recorded.{facts_in}
use Rattle.lot_book.specs.declared.change.Pair.{Pair}
use Rattle.lot_book.specs.declared.leg.Position.{Position}
use Rattle.lot_book.proofs.OrderLemmas.{one_position}
use Rattle.lot_table.specs.Rows.{has_key}
use Rattle.lot_rows.specs.Lot.{IsLotRow, lot_cells}
use Rattle.lot_rows.specs.LotKey.{IsLotKey, lot_columns, lot_key}
use Rattle.lot_rows.specs.Opening.{IsOpeningRow, opening_cells}
use Rattle.lot_rows.specs.Tables.{Tables}
use Rattle.lot_rows.specs.declared.lot.LotRow.{LotRow}
use Rattle.lot_rows.specs.declared.opening.OpeningRow.{OpeningRow}
use Rattle.lot_stored.specs.Rows.{lot_row, pair_key}
use Rattle.lot_stored.specs.StandFor.{StandFor}
use Rattle.lot_stored.proofs.HeldLemmas.{by_option, held_in_book, lot_there, lot_true, opening_in_true}
use Rattle.lot_stored.proofs.KeyLemmas.{at_lot, has_lot, has_pair}
use Rattle.lot_stored.proofs.LookupLemmas.{has_own_key}
use Rattle.lot_stored.proofs.PairLemmas.{lots_at, openings_at, same_lots}
use Rattle.lot_load.specs.Known.{IsPart, IsTrueLot, IsTrueOpening, KnowsEach, KnowsLot, KnowsLots, Learns, said_by}
use Rattle.lot_load.specs.Paired.{ArePaired, HavePaired}
use Rattle.lot_load.proofs.LearnLemmas.{IsLeft, at_stays, left_all, left_more, left_none}
use Rattle.lot_load.proofs.PutLemmas.{nothing_held}
use Rattle.lot_load.proofs.RowLemmas.{good_filtered}

-- ---- rows with the same columns

-- they are of one lot, where each is of a lot that a book can have
one_place : (account commodity other what : List ℕ) (lot there : LotKey) (rest behind : Row) → IsLotKey lot → IsLotKey there
    → lot_columns account commodity lot rest ≡ lot_columns other what there behind
    → at_lot account commodity lot ≡ at_lot other what there
one_place account commodity other what lot there rest behind good other_good e =
    let same : same_position (at_lot account commodity lot) (at_lot other what there) ≡ true =
    sym (has_lot account commodity other what lot there behind good.label other_good.label)
    ∙ subst (λ (row : Row). has_key 6 (lot_columns account commodity lot rest) row ≡ true) e
    (has_own_key 6 (lot_columns account commodity lot rest)) in
    one_position _ _ same

one_lot_row : (x y : LotRow) → IsLotRow x → IsLotRow y → lot_cells x ≡ lot_cells y → x ≡ y
one_lot_row x y good other e =
    let at = one_place x.account x.commodity y.account y.commodity x.lot y.lot (Int x.units ∷ []) (Int y.units ∷ []) good.lot other.lot e in
    let lots : ◌≡◌ {A = Option LotKey} (Some x.lot) (Some y.lot) = ap (λ (p : Position). p.lot) at in
    let lot : x.lot ≡ y.lot = cc in
    let units : x.units ≡ y.units = cc in
    λ i. record { account = (at i).account; commodity = (at i).commodity; lot = lot i; units = units i }

one_opening_row : (x y : OpeningRow) → IsOpeningRow x → IsOpeningRow y → opening_cells x ≡ opening_cells y → x ≡ y
one_opening_row x y good other e =
    let at = one_place x.account x.commodity y.account y.commodity x.lot y.lot (Int (pos x.opening) ∷ []) (Int (pos y.opening) ∷ [])
    good.lot other.lot e in
    let lots : ◌≡◌ {A = Option LotKey} (Some x.lot) (Some y.lot) = ap (λ (p : Position). p.lot) at in
    let lot : x.lot ≡ y.lot = cc in
    let opening : x.opening ≡ y.opening = cc in
    λ i. record { account = (at i).account; commodity = (at i).commodity; lot = lot i; opening = opening i }

one_list : {X : Type 0} (encode : X → Row) (IsGood : X → Type 0) → ((x y : X) → IsGood x → IsGood y → encode x ≡ encode y → x ≡ y)
    → (xs ys : List X) → AllByRecursion IsGood xs → AllByRecursion IsGood ys → map encode xs ≡ map encode ys → xs ≡ ys
one_list encode IsGood one [] [] p q e = refl
one_list encode IsGood one [] (y ∷ ys) p q e = cc
one_list encode IsGood one (x ∷ xs) [] p q e = cc
one_list encode IsGood one (x ∷ xs) (y ∷ ys) p q e =
    let first : encode x ≡ encode y = cc in
    let more : map encode xs ≡ map encode ys = cc in
    let head = one x y p.0 q.0 first in
    let rest = one_list encode IsGood one xs ys p.1 q.1 more in
    λ i. head i ∷ rest i

-- ---- rows of an account and a commodity

of_pair : (account commodity other what : List ℕ) (lot : LotKey) (rest : Row)
    → has_key 2 (pair_key account commodity) (lot_columns other what lot rest) ≡ true → (other ≡ account) × (what ≡ commodity)
of_pair account commodity other what lot rest own =
    let same = and_parts (same_text account other) (same_text commodity what)
    (sym (has_pair account commodity other what (drop 2 (lot_columns other what lot rest))) ∙ own) in
    (sym (one_text account other same.0), sym (one_text commodity what same.1))

-- the rows are of the same lots, say what the book says, and are all lots there once they are known
pub record AreAllLots (pair : Pair) (lots : List LotRow) (openings : List OpeningRow) (entries : List Entry) : Type 0 where
  pub units : AllByRecursion (IsTrueLot pair (facts_in entries)) lots
  pub numbers : AllByRecursion (IsTrueOpening pair (said_by entries)) openings
  pub all : (known : Facts) → IsPart (facts_in entries) known → KnowsEach (KnowsLot pair) lots (facts_in entries) known
      → KnowsLots pair.account pair.commodity (facts_in entries) known

module _ (tables : Tables) (entries : List Entry) (stand : StandFor tables entries) (pair : Pair) where
  abbrev key : Row
  key = pair_key pair.account pair.commodity

  abbrev lots : List LotRow
  lots = lots_at tables pair.account pair.commodity

  abbrev openings : List OpeningRow
  openings = openings_at tables pair.account pair.commodity

  good_lots : AllByRecursion IsLotRow lots
  good_lots =
      recursion_from_All IsLotRow lots (good_filtered IsLotRow (λ (row : LotRow). has_key 2 key (lot_cells row)) tables.lot stand.good.lot)

  good_openings : AllByRecursion IsOpeningRow openings
  good_openings =
      recursion_from_All IsOpeningRow openings
      (good_filtered IsOpeningRow (λ (row : OpeningRow). has_key 2 key (opening_cells row)) tables.opening stand.good.opening)

  true_lots : AllByRecursion (IsTrueLot pair (facts_in entries)) lots
  true_lots =
      all_from (IsTrueLot pair (facts_in entries)) lots (λ row has.
      let found = has_filtered (λ (r : LotRow). has_key 2 key (lot_cells r)) tables.lot row has in
      let of = of_pair pair.account pair.commodity row.account row.commodity row.lot (Int row.units ∷ []) found.1 in
      (λ i. held_in_book entries (sym of.0 i) (sym of.1 i, Some row.lot))
      ∙ lot_true tables entries stand row (all_has IsLotRow lots row good_lots has) found.0)

  true_openings : AllByRecursion (IsTrueOpening pair (said_by entries)) openings
  true_openings =
      all_from (IsTrueOpening pair (said_by entries)) openings (λ row has.
      let found = has_filtered (λ (r : OpeningRow). has_key 2 key (opening_cells r)) tables.opening row has in
      let of = of_pair pair.account pair.commodity row.account row.commodity row.lot (Int (pos row.opening) ∷ []) found.1 in
      (λ i. opening_in (legs_of entries) (sym of.0 i) (sym of.1 i) row.lot)
      ∙ opening_in_true tables entries stand row (all_has IsOpeningRow openings row good_openings has) found.0)

  lots_known : (known : Facts) → IsPart (facts_in entries) known → KnowsEach (KnowsLot pair) lots (facts_in entries) known
      → KnowsLots pair.account pair.commodity (facts_in entries) known
  lots_known known part each lot =
      by_option (held_in_book entries pair.account (pair.commodity, Some lot))
      (λ none. nothing_held pair.account (pair.commodity, Some lot) (facts_in entries) known part none)
      (λ units held.
      let row = lot_row pair.account pair.commodity lot units in
      all_has (λ (r : LotRow). KnowsLot pair r (facts_in entries) known) lots row each
      (has_kept (λ (r : LotRow). has_key 2 key (lot_cells r)) tables.lot row
      (lot_there tables entries stand pair.account pair.commodity lot units held) (has_own_key 2 (lot_cells row))))

  -- rows with their columns
  pub all_lots : (found : List LotRow) (numbered : List OpeningRow) → All IsLotRow found → map lot_cells found ≡ map lot_cells lots
      → All IsOpeningRow numbered → map opening_cells numbered ≡ map opening_cells openings
      → ArePaired found numbered × AreAllLots pair found numbered entries
  all_lots found numbered good are good_numbered are_numbered =
      let same : found ≡ lots = one_list lot_cells IsLotRow one_lot_row found lots (recursion_from_All IsLotRow found good) good_lots are in
      let same_numbered : numbered ≡ openings =
      one_list opening_cells IsOpeningRow one_opening_row numbered openings (recursion_from_All IsOpeningRow numbered good_numbered)
      good_openings are_numbered in (
        ap (map (λ (row : LotRow). row.lot)) same
            ∙ same_lots tables entries stand pair.account pair.commodity
            ∙ ap (map (λ (row : OpeningRow). row.lot)) (sym same_numbered),
        record {
          units = subst (AllByRecursion (IsTrueLot pair (facts_in entries))) (sym same) true_lots;
          numbers = subst (AllByRecursion (IsTrueOpening pair (said_by entries))) (sym same_numbered) true_openings;
          all = λ known part each.
              lots_known known part (subst (λ (rows : List LotRow). KnowsEach (KnowsLot pair) rows (facts_in entries) known) same each);
        },
      )

-- ---- the lots of a pair by their columns

-- the key of a lot in columns, made of the columns of a row
abbrev of_lot : Pair → Row → Row
of_lot pair row = Text pair.account ∷ Text pair.commodity ∷ take 4 (drop 2 row)

-- those of rows that are found
lots_by_columns : {X : Type 0} (encode : X → Row) (lot_of : X → LotKey) (pair : Pair) (found rows : List X)
    → ((x : X) → lot_key pair.account pair.commodity (lot_of x) ≡ of_lot pair (encode x)) → map encode found ≡ map encode rows
    → map (λ x. lot_key pair.account pair.commodity (lot_of x)) rows ≡ map (lot_key pair.account pair.commodity) (map lot_of found)
lots_by_columns encode lot_of pair found rows is are =
    ap (λ f. map f rows) (λ i x. is x i)
    ∙ sym (map-map (of_lot pair) encode rows) ∙ ap (map (of_lot pair)) (sym are) ∙ map-map (of_lot pair) encode found
    ∙ ap (λ f. map f found) (λ i x. sym (is x) i)
    ∙ sym (map-map (lot_key pair.account pair.commodity) lot_of found)

-- rows with the same lots tell that the tables have the same
pub have_paired : (tables : Tables) (pair : Pair) (found : List LotRow) (numbered : List OpeningRow)
    → map lot_cells found ≡ map lot_cells (lots_at tables pair.account pair.commodity)
    → map opening_cells numbered ≡ map opening_cells (openings_at tables pair.account pair.commodity)
    → ArePaired found numbered → HavePaired pair tables
have_paired tables pair found numbered are are_numbered paired =
    lots_by_columns lot_cells (λ (row : LotRow). row.lot) pair found (lots_at tables pair.account pair.commodity) (λ row. refl) are
    ∙ ap (map (lot_key pair.account pair.commodity)) paired
    ∙ sym (lots_by_columns opening_cells (λ (row : OpeningRow). row.lot) pair numbered (openings_at tables pair.account pair.commodity)
    (λ row. refl) are_numbered)

-- ---- rows one after another

-- The rows that are left are of the same lots and say what the book says, and once they are known all are.
pub record AreLeft (pair : Pair) (lots left : List LotRow) (numbered : List OpeningRow) (book before now : FactsWithOpenings) : Type 0 where
  pub paired : ArePaired left numbered
  pub units : AllByRecursion (IsTrueLot pair book.facts) left
  pub numbers : AllByRecursion (IsTrueOpening pair book) numbered
  pub rest : IsLeft (KnowsLot pair) lots left book before now

module _ (pair : Pair) (rows : List LotRow) where
  pub left_all_lots : (left : List LotRow) (all numbered : List OpeningRow) (book before : FactsWithOpenings)
      → left ≡ rows → numbered ≡ all → ArePaired rows all → AllByRecursion (IsTrueLot pair book.facts) rows
      → AllByRecursion (IsTrueOpening pair book) all → AreLeft pair rows left numbered book before before
  left_all_lots left all numbered book before is are paired units numbers =
      subst (λ (some : List LotRow). AreLeft pair rows some numbered book before before) (sym is)
      (subst (λ (some : List OpeningRow). AreLeft pair rows rows some book before before) (sym are)
      (record { paired = paired; units = units; numbers = numbers; rest = left_all (KnowsLot pair) rows book before }))

  -- one more row, whose lot is put with the number of the other row
  pub left_lot : (left : List LotRow) (numbered : List OpeningRow) (rest : List LotRow) (others : List OpeningRow) (row : LotRow)
      (opened : OpeningRow) (book before now next : FactsWithOpenings)
      → left ≡ row ∷ rest → numbered ≡ opened ∷ others → AreLeft pair rows left numbered book before now
      → (IsTrueLot pair book.facts row → book.opening pair.account pair.commodity row.lot ≡ opened.opening
      → Learns (KnowsLot pair row) book now next)
      → AreLeft pair rows rest others book before next
  left_lot left numbered rest others row opened book before now next turn turned was step =
      let is : AreLeft pair rows (row ∷ rest) (opened ∷ others) book before now =
      subst (λ (some : List LotRow). AreLeft pair rows some (opened ∷ others) book before now) turn
      (subst (λ (some : List OpeningRow). AreLeft pair rows left some book before now) turned was) in
      let one : map (λ (r : LotRow). r.lot) (row ∷ rest) ≡ map (λ (r : OpeningRow). r.lot) (opened ∷ others) = is.paired in
      let lot : row.lot ≡ opened.lot = cc in
      let more : ArePaired rest others = cc in record {
        paired = more;
        units = is.units.1;
        numbers = is.numbers.1;
        rest = left_more (KnowsLot pair) (λ (r : LotRow). at_stays pair.account (pair.commodity, Some r.lot)) rows rest row book before now next
            is.rest (step is.units.0 (ap (book.opening pair.account pair.commodity) lot ∙ is.numbers.0));
      }

  pub left_no_lots : (left : List LotRow) (numbered : List OpeningRow) (book before now : FactsWithOpenings)
      → (left ≡ []) ⊎ (numbered ≡ []) → AreLeft pair rows left numbered book before now
      → Learns (KnowsEach (KnowsLot pair) rows) book before now
  left_no_lots [] numbered book before now none was = left_none (KnowsLot pair) rows book before now was.rest
  left_no_lots (row ∷ rest) numbered book before now (inl none) was = absurd (cc)
  left_no_lots (row ∷ rest) [] book before now none was =
      let paired : map (λ (r : LotRow). r.lot) (row ∷ rest) ≡ map (λ (r : OpeningRow). r.lot) [] = was.paired in absurd (cc)
  left_no_lots (row ∷ rest) (opened ∷ others) book before now (inr none) was = absurd (cc)
