-- Steps of a walk over holdings, from one place to the next.
use Rattle.std.proofs.Common.{◌≡◌, ◌∙◌, ◌++◌, [], ◌∷◌, true, false, List, Option, Some, None, Result, Ok, Err, IfSome, option_map, refl, sym, ap, subst, inl}
use Rattle.std.specs.List.{AllByRecursion}
use Rattle.std.specs.Option.{option_to_list}
use Rattle.std.specs.Ordering.{is_gt, is_lt, ordering_reverse}
use Rattle.std.specs.Vec.Iter.{into_iter_items}
use Rattle.std.specs.declared.cmp.Ordering.{Ordering}
use Rattle.std.specs.declared.cmp.Ordering.TheVariants.{Less, Equal, Greater}
use Rattle.std.proofs.lemmas.Bool.{true≢false}
use Rattle.std.proofs.lemmas.Cmp.{tied_itself}
use Rattle.std.proofs.lemmas.List.{append-nil, append_assoc}
use Rattle.std.proofs.lemmas.List.Elements.{recursion_from_All}
use Rattle.sqlite.specs.State.{State}
use Rattle.sqlite_rules.specs.Lists.{Has as HasRow}
use Rattle.sqlite_rules.proofs.ListLemmas.{all_has, has_right}
use Rattle.lot_book.specs.Facts.{Entry}
use Rattle.lot_book.specs.Holding.{position_of}
use Rattle.lot_book.specs.declared.holding.Holding.{Holding}
use Rattle.lot_book.specs.declared.leg.Position.{Position}
use Rattle.lot_book.proofs.OrderLemmas.{exact_positions}
use Rattle.lot_cost.specs.declared.lot_key.LotKey.{LotKey}
use Rattle.lot_table.specs.Rows.{key_order}
use Rattle.lot_table.specs.declared.fault.Fault.{Fault}
use Rattle.lot_table.specs.declared.fault.Fault.TheVariants.{Damaged, Device}
use Rattle.lot_rows.specs.Lot.{IsLotRow, lot_cells}
use Rattle.lot_rows.specs.Tables.{Tables}
use Rattle.lot_rows.specs.declared.lot.LotRow.{LotRow}
use Rattle.lot_rows.specs.declared.plain.PlainRow.{PlainRow}
use Rattle.lot_stored.specs.StandFor.{StandFor}
use Rattle.lot_stored.proofs.OrderLemmas.{key_order-total}
use Rattle.lot_page.specs.Cursor.{Gives, IsBehind, Place, Steps as CursorSteps}
use Rattle.lot_walk.specs.Holdings.{AreHoldings, HasGiven, IsAnyHolding, IsAt, IsAtStage, IsBehindHoldings, IsHoldings, IsNext, IsReadAhead, Takes, holding_cmp, is_lot_next, lot_holding, merged, plain_holding, plain_left, shown_holding}
use Rattle.lot_walk.specs.Step.{IsPrefix, Steps}
use Rattle.lot_walk.specs.declared.holdings.HoldingsPlace.{HoldingsPlace}
use Rattle.lot_walk.proofs.CursorLemmas.{next_left, none_left, suffix_up}
use Rattle.lot_walk.proofs.HoldingLemmas.{lot_order, lots_up, merged_holdings, plain_up}
use Rattle.lot_walk.proofs.MergeLemmas.{AreLotsUp, ArePlainUp, below_all, holdings_total, merged_lot_first, merged_plain}
use Rattle.lot_rows.proofs.StateLemmas.{survives_same}
use Rattle.lot_walk.proofs.PlaceLemmas.{stays_itself}

-- ---- rows of lots

-- the columns of rows that a book can have tell them
one_lot : (x y : LotRow) → IsLotRow x → IsLotRow y → lot_cells x ≡ lot_cells y → x ≡ y
one_lot x y good other e =
    let tied : holding_cmp (lot_holding x) (lot_holding y) ≡ Equal =
    sym (lot_order x y good.lot.label other.lot.label)
    ∙ ap (λ cells. key_order 6 (lot_cells x) cells) (sym e)
    ∙ tied_itself (key_order-total 6) (lot_cells x) in
    let at : position_of (lot_holding x) ≡ position_of (lot_holding y) = exact_positions _ _ tied in
    let lots : ◌≡◌ {A = Option LotKey} (Some x.lot) (Some y.lot) = ap (λ (p : Position). p.lot) at in
    let lot : x.lot ≡ y.lot = cc in
    let units : x.units ≡ y.units = cc in
    λ i. record { account = (at i).account; commodity = (at i).commodity; lot = lot i; units = units i }

-- what a cursor gives is the next of the lots that were left, and it is behind that
pub lot_ahead : (taken left lots : List LotRow) (cursor : Place) (found : Option LotRow) → taken ++ left ≡ lots → AllByRecursion IsLotRow lots
    → IfSome found IsLotRow → Gives lot_cells taken lots cursor found → IsNext found left × IsReadAhead found taken lots cursor
lot_ahead taken left lots cursor None e goods good gives = (none_left lot_cells taken left lots e gives, tt)
lot_ahead taken left lots cursor (Some row) e goods good gives =
    let next = next_left lot_cells taken left lots row cursor e gives in
    let among : HasRow lots next.0 =
    subst (λ all. HasRow all next.0) e (has_right taken left next.0 (subst (λ rows. HasRow rows next.0) (sym next.2) (inl refl))) in
    let same : row ≡ next.0 = one_lot row next.0 good (all_has IsLotRow lots next.0 goods among) next.3 in
    ((next.1, next.2 ∙ ap (λ x. x ∷ next.1) (sym same)), gives)

-- ---- which row is the next

turned : (o : Ordering) → is_gt (ordering_reverse o) ≡ is_lt o
turned Less = refl
turned Equal = refl
turned Greater = refl

-- plain units come after a lot where the lot comes before them
after_lot : (row : PlainRow) (lot : LotRow) → is_gt (holding_cmp (plain_holding row) (lot_holding lot)) ≡ is_lt (holding_cmp (lot_holding lot) (plain_holding row))
after_lot row lot = ap is_gt (holdings_total.antisymm (plain_holding row) (lot_holding lot)) ∙ turned (holding_cmp (lot_holding lot) (plain_holding row))

-- a lot
lot_first : (plain : Option PlainRow) (more : List PlainRow) (lot : LotRow) (rest : List LotRow) → (plain ≡ None → more ≡ [])
    → ArePlainUp (option_to_list plain ++ more) → is_lot_next plain (Some lot) ≡ true
    → merged (option_to_list plain ++ more) (lot ∷ rest) ≡ lot_holding lot ∷ merged (option_to_list plain ++ more) rest
lot_first None more lot rest read up e =
    ap (λ rows. merged rows (lot ∷ rest)) (read refl) ∙ ap (λ rows. lot_holding lot ∷ merged rows rest) (sym (read refl))
lot_first (Some row) more lot rest read up e = merged_lot_first row more lot rest up (after_lot row lot ∙ e)

-- plain units
plain_first : (row : PlainRow) (more : List PlainRow) (lot : Option LotRow) (left : List LotRow) → ArePlainUp (row ∷ more) → AreLotsUp left → IsNext lot left
    → is_lot_next (Some row) lot ≡ false → merged (row ∷ more) left ≡ plain_holding row ∷ merged more left
plain_first row more None left up lots next e =
    merged_plain row more left up (subst (λ rows. AllByRecursion (λ (other : LotRow). is_gt (holding_cmp (plain_holding row) (lot_holding other)) ≡ false) rows) (sym next) tt)
plain_first row more (Some lot) left up lots next e =
    merged_plain row more left up
    (subst (λ rows. AllByRecursion (λ (other : LotRow). is_gt (holding_cmp (plain_holding row) (lot_holding other)) ≡ false) rows) (sym next.1)
    (below_all row lot next.0 (subst AreLotsUp next.1 lots) (after_lot row lot ∙ e)))

-- none
no_lot : (lot : Option LotRow) (left : List LotRow) → IsNext lot left → is_lot_next None lot ≡ false → left ≡ []
no_lot None left next e = next
no_lot (Some lot) left next e = absurd (true≢false e)

-- ---- rows that are left

module _ (tables : Tables) (entries : List Entry) (stand : StandFor tables entries) where
  lots_good : AllByRecursion IsLotRow tables.lot
  lots_good = recursion_from_All IsLotRow tables.lot stand.good.lot

  plain_suffix : (passed left : List PlainRow) → passed ++ left ≡ tables.plain → ArePlainUp left
  plain_suffix passed left e = suffix_up (λ a b. holding_cmp (plain_holding a) (plain_holding b) ≡ Less) passed left tables.plain e (plain_up tables.plain stand.ordered.plain)

  lot_suffix : (taken left : List LotRow) → taken ++ left ≡ tables.lot → AreLotsUp left
  lot_suffix taken left e =
      suffix_up (λ a b. holding_cmp (lot_holding a) (lot_holding b) ≡ Less) taken left tables.lot e (lots_up tables.lot lots_good stand.ordered.lot)

  all_given : (given : List Holding) → given ≡ merged tables.plain tables.lot → IsHoldings entries given
  all_given given e = subst (IsHoldings entries) (sym e) (merged_holdings tables entries stand)

  prefix_given : (place : HoldingsPlace) (given : List Holding) → HasGiven place tables given → IsPrefix AreHoldings tt entries given
  prefix_given place given has = (merged (plain_left place) has.left, all_given (given ++ merged (plain_left place) has.left) has.rows)

  -- what comes of a step over plain units
  plain_gives : (mid after : HoldingsPlace) (given : List Holding) (result : Option Holding) → HasGiven mid tables given
      → is_lot_next mid.plain mid.lot ≡ false → after.lot ≡ mid.lot → after.lots ≡ mid.lots → Takes mid after result
      → elim result as (λ _. Type 0) [ None ↦ IsHoldings entries given | Some holding ↦ HasGiven after tables (given ++ holding ∷ []) ]
  plain_gives mid after given None has e lot lots takes =
      let left : has.left ≡ [] = no_lot mid.lot has.left has.next (ap (λ p. is_lot_next p mid.lot) (sym takes) ∙ e) in
      let plain : plain_left mid ≡ [] = ap (λ p. option_to_list p ++ into_iter_items mid.more) takes ∙ has.read_all takes in
      all_given given
      (sym (append-nil given)
      ∙ ap (λ rows. given ++ rows) (sym (ap (merged (plain_left mid)) left ∙ ap (λ rows. merged rows []) plain))
      ∙ has.rows)
  plain_gives mid after given (Some holding) has e lot lots takes =
      let row = takes.0 in
      let first : plain_left mid ≡ row ∷ plain_left after =
      ap (λ p. option_to_list p ++ into_iter_items mid.more) takes.1 ∙ ap (λ rows. row ∷ rows) (sym takes.3) in
      let up : ArePlainUp (row ∷ plain_left after) = subst ArePlainUp first (plain_suffix has.passed (plain_left mid) has.plain) in
      let merges : merged (plain_left mid) has.left ≡ holding ∷ merged (plain_left after) has.left =
      ap (λ rows. merged rows has.left) first
      ∙ plain_first row (plain_left after) mid.lot has.left up (lot_suffix has.taken has.left has.lots) has.next (ap (λ p. is_lot_next p mid.lot) (sym takes.1) ∙ e)
      ∙ ap (λ h. h ∷ merged (plain_left after) has.left) (sym takes.2) in
      record {
        passed = has.passed ++ row ∷ [];
        taken = has.taken;
        left = has.left;
        plain = append_assoc has.passed (row ∷ []) (plain_left after) ∙ ap (λ rows. has.passed ++ rows) (sym first) ∙ has.plain;
        read_all = takes.4;
        lots = has.lots;
        next = subst (λ o. IsNext o has.left) (sym lot) has.next;
        ahead = subst (λ (c : Place). IsReadAhead after.lot has.taken tables.lot c) (sym lots) (subst (λ o. IsReadAhead o has.taken tables.lot mid.lots) (sym lot) has.ahead);
        rows = append_assoc given (holding ∷ []) (merged (plain_left after) has.left) ∙ ap (λ rows. given ++ rows) (sym merges) ∙ has.rows;
      }

  -- and of one over a lot
  lot_gives : (mid after : HoldingsPlace) (given : List Holding) (lot : LotRow) (found : Option LotRow) → HasGiven mid tables given
      → mid.lot ≡ Some lot → is_lot_next mid.plain mid.lot ≡ true → after.plain ≡ mid.plain → after.more ≡ mid.more → after.lot ≡ found
      → ((taken : List LotRow) → IsBehind lot_cells taken tables.lot mid.lots → Gives lot_cells taken tables.lot after.lots found) → IfSome found IsLotRow
      → HasGiven after tables (given ++ lot_holding lot ∷ [])
  lot_gives mid after given lot found has is e plain more at gives good =
      let next : IsNext (Some lot) has.left = subst (λ o. IsNext o has.left) is has.next in
      let rest = next.0 in
      let taken : List LotRow = has.taken ++ lot ∷ [] in
      let lots : taken ++ rest ≡ tables.lot = append_assoc has.taken (lot ∷ []) rest ∙ ap (λ rows. has.taken ++ rows) (sym next.1) ∙ has.lots in
      let behind : IsBehind lot_cells taken tables.lot mid.lots = subst (λ o. IsReadAhead o has.taken tables.lot mid.lots) is has.ahead in
      let new = lot_ahead taken rest tables.lot after.lots found lots lots_good good (gives taken behind) in
      let same : plain_left after ≡ plain_left mid = λ i. option_to_list (plain i) ++ into_iter_items (more i) in
      let merges : merged (plain_left mid) has.left ≡ lot_holding lot ∷ merged (plain_left mid) rest =
      ap (merged (plain_left mid)) next.1
      ∙ lot_first mid.plain (into_iter_items mid.more) lot rest has.read_all (plain_suffix has.passed (plain_left mid) has.plain) (ap (is_lot_next mid.plain) (sym is) ∙ e) in
      record {
        passed = has.passed;
        taken = taken;
        left = rest;
        plain = ap (λ rows. has.passed ++ rows) same ∙ has.plain;
        read_all = λ none. ap into_iter_items more ∙ has.read_all (sym plain ∙ none);
        lots = lots;
        next = subst (λ o. IsNext o rest) (sym at) new.0;
        ahead = subst (λ o. IsReadAhead o taken tables.lot after.lots) (sym at) new.1;
        rows =
            append_assoc given (lot_holding lot ∷ []) (merged (plain_left after) rest)
            ∙ ap (λ rows. given ++ lot_holding lot ∷ merged rows rest) same
            ∙ ap (λ rows. given ++ rows) (sym merges)
            ∙ has.rows;
      }

-- ---- steps

at_begun : (place : HoldingsPlace) (tables : Tables) (given : List Holding) → place.has_begun ≡ true → IsAt place tables given → HasGiven place tables given
at_begun place tables given e at = subst (λ b. IsAtStage b place tables given) e at

is_at : (place : HoldingsPlace) (tables : Tables) (given : List Holding) → place.has_begun ≡ true → HasGiven place tables given → IsAt place tables given
is_at place tables given e has = subst (λ b. IsAtStage b place tables given) (sym e) has

abbrev pub StepsOver : HoldingsPlace → HoldingsPlace → State → State → Result (Option Holding) Fault → Type 0
StepsOver = Steps shown_holding IsAnyHolding AreHoldings IsBehindHoldings Damaged Device

pub plain_steps : (mid after : HoldingsPlace) (s : State) (result : Option Holding) → mid.has_begun ≡ true → is_lot_next mid.plain mid.lot ≡ false
    → after.has_begun ≡ mid.has_begun → after.lot ≡ mid.lot → after.lots ≡ mid.lots → Takes mid after result → StepsOver mid after s s (Ok result)
plain_steps mid after s None begun e still lot lots takes = record {
  gives = λ clean tables entries has book stand asked given behind.
      plain_gives tables entries stand mid after given None (at_begun mid tables given begun behind) e lot lots takes;
  good = tt;
  same = λ clean. stays_itself s;
  damaged = λ clean is. cc;
  failed = λ clean is. cc;
  crash = survives_same s _;
}
plain_steps mid after s (Some holding) begun e still lot lots takes = record {
  gives = λ clean tables entries has book stand asked given behind.
      let next = plain_gives tables entries stand mid after given (Some holding) (at_begun mid tables given begun behind) e lot lots takes in
      (is_at after tables (given ++ holding ∷ []) (still ∙ begun) next, prefix_given tables entries stand after (given ++ holding ∷ []) next);
  good = tt;
  same = λ clean. stays_itself s;
  damaged = λ clean is. cc;
  failed = λ clean is. cc;
  crash = survives_same s _;
}

abbrev pub ReadsLot : HoldingsPlace → HoldingsPlace → State → State → Result (Option LotRow) Fault → Type 0
ReadsLot before after = CursorSteps lot_cells IsLotRow (λ (b : Tables). b.lot) before.lots after.lots

abbrev unread : Fault → Result (Option LotRow) Fault
unread fault = Err fault

pub lot_there : (plain : Option PlainRow) (lot : Option LotRow) → is_lot_next plain lot ≡ true → (row : LotRow) × (lot ≡ Some row)
lot_there plain None e = absurd (true≢false (sym e))
lot_there plain (Some row) e = (row, refl)

pub lot_steps : (mid after : HoldingsPlace) (old new : State) (found : Option LotRow) (result : Option Holding) → mid.has_begun ≡ true
    → is_lot_next mid.plain mid.lot ≡ true → after.has_begun ≡ mid.has_begun → after.plain ≡ mid.plain → after.more ≡ mid.more → after.lot ≡ found
    → ReadsLot mid after old new (Ok found) → result ≡ option_map lot_holding mid.lot → StepsOver mid after old new (Ok result)
lot_steps mid after old new found result begun e still plain more at reads is =
    let lot = lot_there mid.plain mid.lot e in
    let one : result ≡ Some (lot_holding lot.0) = is ∙ ap (option_map lot_holding) lot.1 in
    subst (λ r. StepsOver mid after old new (Ok r)) (sym one) (record {
      gives = λ clean tables entries has book stand asked given behind.
          let next =
          lot_gives tables entries stand mid after given lot.0 found (at_begun mid tables given begun behind) lot.1 e plain more at
          (λ taken was. reads.gives clean tables has taken was) reads.good in (
            is_at after tables (given ++ lot_holding lot.0 ∷ []) (still ∙ begun) next,
            prefix_given tables entries stand after (given ++ lot_holding lot.0 ∷ []) next,
          );
      good = tt;
      same = reads.same;
      damaged = λ clean is. cc;
      failed = λ clean is. cc;
      crash = reads.crash;
    })

pub lot_unread : (mid after : HoldingsPlace) (old new : State) (fault : Fault) → mid.has_begun ≡ true → is_lot_next mid.plain mid.lot ≡ true
    → ReadsLot mid after old new (Err fault) → StepsOver mid after old new (Err fault)
lot_unread mid after old new fault begun e reads = record {
  gives = λ clean. tt;
  good = tt;
  same = λ clean. tt;
  damaged = λ clean is limit tables entries has book stand asked given behind.
      let at = at_begun mid tables given begun behind in
      let lot = lot_there mid.plain mid.lot e in
      let of : unread fault ≡ Err Damaged = cc in
      reads.damaged clean of limit tables has (at.taken ++ lot.0 ∷ []) (subst (λ o. IsReadAhead o at.taken tables.lot mid.lots) lot.1 at.ahead) stand.good.lot;
  failed = λ clean is. let of : unread fault ≡ Err Device = cc in reads.device clean of;
  crash = reads.crash;
}
