-- What the posting comes to on an inventory with the same lots of its commodity, of the same numbers, it comes to on what its
-- account holds.
use Rattle.std.proofs.Common.{◌≡◌, ℕ, Bool, true, false, ◌&&◌, List, Option, None, Some, Result, Ok, Err, inl, inr, ℤ, pos, refl, sym, ap, subst, ◌∙◌}
use Rattle.std.proofs.lemmas.Bool.{true≢false}
use Rattle.std.specs.List.{list_any}
use Rattle.std.specs.Map.{values_of}
use Rattle.std.specs.FinMap.{get-empty}
use Rattle.std.specs.Option.{unwrap_or}
use Rattle.std.specs.Result.{IfOk, IfErr, OnOk}
use Rattle.lot_cost.specs.declared.cost.Cost.{Cost}
use Rattle.lot_cost.specs.declared.lot_key.LotKey.{LotKey}
use Rattle.lot_cost.specs.declared.method.Method.{Method}
use Rattle.lot_inv.specs.Inventory.{Held, Stock, lots_of, nothing, opening_at, other_sign, position_cmp as place_cmp, reduces, units_at}
use Rattle.lot_inv.proofs.LotLemmas.{lots_of-empty}
use Rattle.lot_booking.specs.declared.booking.Booked.{Booked}
use Rattle.lot_booking.specs.declared.edition.Edition.{Edition}
use Rattle.lot_booking.specs.declared.edition.Edition.TheVariants.{First, Second}
use Rattle.lot_booking.specs.declared.fault.BookingFault.TheVariants as fault
use Rattle.lot_booking.specs.Booking.{Augments, Braced, ComesTo, ComesToLegs, Legs, Outcome, Reduces, Refused as Rejected, is_reducing, posting_on}
use Rattle.lot_booking.specs.Method.{may_reduce, ties_by}
use Rattle.lot_booking.proofs.SameTies.{IsHeldLot, SameOrders, comes_alike, same_by_opening}
use Rattle.lot_book.specs.declared.change.Pair.{Pair}
use Rattle.lot_book.specs.declared.leg.Leg.{Leg}
use Rattle.lot_book.specs.declared.refusal.Stop.{Stop}
use Rattle.lot_book.specs.declared.refusal.Stop.TheVariants.{Refused, Memory}
use Rattle.lot_book.specs.Booking.{HasNoLegs, Line, braced}
use Rattle.lot_book.specs.Openings.{FactsWithOpenings, opening_after, ties_for}
use Rattle.lot_posting.specs.declared.kept.KeptLots.{KeptLots}
use Rattle.lot_posting.specs.declared.posting.Site.{Site}
use Rattle.lot_posting.specs.declared.tally.Tally.{Tally}
use Rattle.lot_posting.specs.Posting.{CopiesLots, StopsOn, StopsWithoutLegs, StoresFor, line_at}
use Rattle.lot_posting.specs.Tally.{HasLotsAfter, ListsTally}
use Rattle.lot_view.specs.View.{known_with_openings}
use Rattle.lot_posting.proofs.posting.book_lots.Goals as goal

and_false : (b : Bool) → (b && false) ≡ false
and_false true = refl
and_false false = refl

-- the posting of a site, on the legs so far, and the same on an inventory by a method
module _ (known : FactsWithOpenings) (site : Site) (before : List Leg) (cost : Cost) (method : Method) (stock : Stock) where
  abbrev line : Line
  line = line_at known site before

  abbrev commodity : List ℕ
  commodity = site.amount.now.commodity

  -- under a method
  abbrev under : Method → Braced
  under m = posting_on (record { edition = site.edition; method = m }) stock commodity site.amount.now.units cost site.day

  -- what it comes to on the inventory it comes to on what its account holds
  abbrev ComesAlike : Type 0
  ComesAlike = (outcome : Outcome) → ComesTo (under method) outcome → ComesTo (braced line cost) outcome

  module _ (comes_to : ComesAlike) where
    booked_on : (r : Result Booked Stop) → IfOk r (λ booked. ComesTo (under method) (Legs booked.reduces booked.legs.items))
        → IfOk r (λ booked. ComesTo (braced line cost) (Legs booked.reduces booked.legs.items))
    booked_on (Ok booked) comes = comes_to (Legs booked.reduces booked.legs.items) comes
    booked_on (Err stop) comes = tt

    stops_at : line.amount.cost ≡ Some cost → (stop : Stop) → StopsOn (under method) line.place stop → StopsWithoutLegs line stop
    stops_at braces (Refused refusal) stops =
        subst (λ (c : Option Cost). HasNoLegs line c refusal) (sym braces)
        (stops.0, comes_to (Rejected stops.0) stops.1, stops.2)
    stops_at braces Memory stops = tt

    stops_on : line.amount.cost ≡ Some cost → (r : Result Booked Stop) → IfErr r (λ stop. StopsOn (under method) line.place stop)
        → IfErr r (λ stop. StopsWithoutLegs line stop)
    stops_on braces (Ok booked) stops = tt
    stops_on braces (Err stop) stops = stops_at braces stop stops

    legs_on : line.amount.cost ≡ Some cost → ComesToLegs (under method) → StoresFor line line.amount.cost
    legs_on braces legs = subst (StoresFor line) (sym braces) (legs.0, legs.1, comes_to (Legs legs.0 legs.1) legs.2)

  -- so it is on an inventory with its lots
  module _ (is : method ≡ line.method) (has : HasLotsAfter known before site.account.now commodity stock) where
    -- an edition decides ties alike on both
    same_orders : (edition : Edition)
        → SameOrders (IsHeldLot stock.held commodity) (ties_by edition (opening_at stock commodity))
        (ties_for edition known before site.account.now commodity)
    same_orders First = λ method x y held other. refl
    same_orders Second =
        same_by_opening (IsHeldLot stock.held commodity) (opening_at stock commodity)
        (opening_after known before site.account.now commodity) has.openings

    with_its_lots : ComesAlike
    with_its_lots outcome comes =
        comes_alike (ties_by site.edition (opening_at stock commodity)) line.ties line.method stock.held line.held commodity
        site.amount.now.units cost site.day has.lots (same_orders site.edition) outcome
        (subst (λ (m : Method). ComesTo (under m) outcome) is comes)

  -- and on one that holds nothing, where the posting takes no lots away
  module _ (is : method ≡ line.method) (nothing_held : stock ≡ nothing)
      (never : (may_reduce method && reduces line.held commodity site.amount.now.units) ≡ false) where
    never_there : is_reducing (under method) ≡ false
    never_there =
        ap (λ (lots : List (LotKey × ℤ)). may_reduce method && list_any (λ held. other_sign held site.amount.now.units) (values_of lots))
        (ap (λ (s : Stock). lots_of s.held commodity) nothing_held ∙ lots_of-empty commodity)
        ∙ and_false (may_reduce method)

    never_here : is_reducing (braced line cost) ≡ false
    never_here = ap (λ m. may_reduce m && reduces line.held commodity site.amount.now.units) (sym is) ∙ never

    augments : Augments (under method) → Augments (braced line cost)
    augments there = (there.0, there.1, never_here)

    reduces_not : {P : Type 0} → Reduces (under method) → P
    reduces_not there = absurd (true≢false (sym there.2 ∙ never_there))

    where_none_goes : ComesAlike
    where_none_goes (Legs false legs) comes = (augments comes.0, comes.1)
    where_none_goes (Legs true legs) comes = reduces_not comes.0
    where_none_goes (Rejected fault.ZeroUnits) comes = comes
    where_none_goes (Rejected fault.InexactCost) comes = comes
    where_none_goes (Rejected fault.IncompleteCost) comes = (augments comes.0, comes.1)
    where_none_goes (Rejected fault.NoMatch) comes = reduces_not comes.0
    where_none_goes (Rejected fault.Ambiguous) comes = reduces_not comes.0
    where_none_goes (Rejected fault.NotEnough) comes = reduces_not comes.0
    where_none_goes (Rejected fault.Memory) comes = comes

-- ---- it takes no lots away

alike_on_none : (c : goal.After-drop-new)
    → ComesAlike (known_with_openings c.args.view.now) c.args.site.now c.args.tally.now.legs c.args.cost.now c.method_of.result
    c.new.result
alike_on_none c =
    where_none_goes (known_with_openings c.args.view.now) c.args.site.now c.args.tally.now.legs c.args.cost.now c.method_of.result
    c.new.result c.method_of.ensures c.new.ensures (c.if-not-may_reduce.ensures.never refl)

pub returns-then-not-may_reduce-clause-booked : goal.returns-then-not-may_reduce-clause-booked
returns-then-not-may_reduce-clause-booked c =
    booked_on (known_with_openings c.args.view.now) c.args.site.now c.args.tally.now.legs c.args.cost.now c.method_of.result
    c.new.result (alike_on_none c) c.book_on.result c.book_on.ensures.booked

pub returns-then-not-may_reduce-clause-stops : goal.returns-then-not-may_reduce-clause-stops
returns-then-not-may_reduce-clause-stops c =
    stops_on (known_with_openings c.args.view.now) c.args.site.now c.args.tally.now.legs c.args.cost.now c.method_of.result
    c.new.result (alike_on_none c) c.requires.cost c.book_on.result
    c.book_on.ensures.stops

pub returns-then-not-may_reduce-clause-memory : goal.returns-then-not-may_reduce-clause-memory
returns-then-not-may_reduce-clause-memory c = λ lacks.
    inl
    (legs_on (known_with_openings c.args.view.now) c.args.site.now c.args.tally.now.legs c.args.cost.now c.method_of.result
    c.new.result (alike_on_none c) c.requires.cost (c.book_on.ensures.memory lacks))

-- ---- some lot of the commodity has changed

-- a tally from which lots are taken lists its legs, and keeps the lots that are put back
keeps : (known : FactsWithOpenings) (old taken : Tally) (kept : KeptLots) (pair : Pair) → ListsTally known old
    → taken ≡ record old { kept = None } → kept.pair ≡ pair → HasLotsAfter known old.legs pair.account pair.commodity kept.lots
    → ListsTally known (record taken { kept = Some kept })
keeps known old taken kept pair lists same is has =
    subst (λ (t : Tally). ListsTally known (record t { kept = Some kept })) (sym same)
    (record {
      sums = lists.sums;
      openings = lists.openings;
      kept = subst (λ (p : Pair). HasLotsAfter known old.legs p.account p.commodity kept.lots) (sym is) has;
    })

always : {T E P : Type 0} (r : Result T E) → P → OnOk r P
always (Ok x) is = is
always (Err e) is = tt

pub returns-then-has_changed-clause-booked : goal.returns-then-has_changed-clause-booked
returns-then-has_changed-clause-booked c =
    booked_on (known_with_openings c.args.view.now) c.args.site.now c.args.tally.now.legs c.args.cost.now c.method_of.result
    c.in_ok-kept.kept.lots
    (with_its_lots (known_with_openings c.args.view.now) c.args.site.now c.args.tally.now.legs c.args.cost.now c.method_of.result
    c.in_ok-kept.kept.lots c.method_of.ensures c.in_ok-kept.ensures.lots)
    c.book_on-booked.result c.book_on-booked.ensures.booked

pub returns-then-has_changed-clause-stops : goal.returns-then-has_changed-clause-stops
returns-then-has_changed-clause-stops c =
    stops_on (known_with_openings c.args.view.now) c.args.site.now c.args.tally.now.legs c.args.cost.now c.method_of.result
    c.in_ok-kept.kept.lots
    (with_its_lots (known_with_openings c.args.view.now) c.args.site.now c.args.tally.now.legs c.args.cost.now c.method_of.result
    c.in_ok-kept.kept.lots c.method_of.ensures c.in_ok-kept.ensures.lots)
    c.requires.cost c.book_on-booked.result c.book_on-booked.ensures.stops

pub returns-then-has_changed-clause-lists : goal.returns-then-has_changed-clause-lists
returns-then-has_changed-clause-lists c =
    always c.book_on-booked.result
    (keeps (known_with_openings c.args.view.now) c.args.tally.now c.take_lots.new.self c.in_ok-kept.kept
    (record { account = c.args.site.now.account.now; commodity = c.args.site.now.amount.now.commodity }) c.requires.lists c.in_ok-kept.ensures.others c.in_ok-kept.ensures.pair
    c.in_ok-kept.ensures.lots)

pub returns-in_err-kept-clause-memory : goal.returns-in_err-kept-clause-memory
returns-in_err-kept-clause-memory c = λ _.
    inr (subst (CopiesLots c.args.tally.now.legs) (sym c.requires.cost) (c.if-has_changed.ensures.begun refl))

pub returns-then-has_changed-clause-memory : goal.returns-then-has_changed-clause-memory
returns-then-has_changed-clause-memory c = λ _.
    inr (subst (CopiesLots c.args.tally.now.legs) (sym c.requires.cost) (c.if-has_changed.ensures.begun refl))

-- ---- none has, and the account holds something

has_in-Some : (c : goal.After-book_on-in-Some)
    → HasLotsAfter (known_with_openings c.args.view.now) c.args.tally.now.legs c.args.site.now.account.now
    c.args.site.now.amount.now.commodity c.in-Some.held.now
has_in-Some c =
    let site = c.args.site.now in
    let commodity = site.amount.now.commodity in
    let known = known_with_openings c.args.view.now in
    let held = known.facts.held site.account.now in
    let opening = known.opening site.account.now commodity in
    record {
      lots =
          ap (λ (h : Held). lots_of h commodity) c.in-Some.ensures.value
          ∙ sym (c.if-has_changed.ensures.lots refl held);
      openings = λ lot some.
          ap (λ (f : LotKey → ℕ). f lot) (c.in-Some.ensures.openings commodity)
          ∙ sym (c.if-has_changed.ensures.openings refl held opening lot);
    }

alike_in-Some : (c : goal.After-book_on-in-Some)
    → ComesAlike (known_with_openings c.args.view.now) c.args.site.now c.args.tally.now.legs c.args.cost.now c.method_of.result c.in-Some.held.now
alike_in-Some c =
    with_its_lots (known_with_openings c.args.view.now) c.args.site.now c.args.tally.now.legs c.args.cost.now c.method_of.result
    c.in-Some.held.now c.method_of.ensures (has_in-Some c)

pub returns-in-Some-clause-booked : goal.returns-in-Some-clause-booked
returns-in-Some-clause-booked c =
    booked_on (known_with_openings c.args.view.now) c.args.site.now c.args.tally.now.legs c.args.cost.now c.method_of.result
    c.in-Some.held.now (alike_in-Some c) c.book_on-in-Some.result c.book_on-in-Some.ensures.booked

pub returns-in-Some-clause-stops : goal.returns-in-Some-clause-stops
returns-in-Some-clause-stops c =
    stops_on (known_with_openings c.args.view.now) c.args.site.now c.args.tally.now.legs c.args.cost.now c.method_of.result
    c.in-Some.held.now (alike_in-Some c) c.requires.cost c.book_on-in-Some.result c.book_on-in-Some.ensures.stops

pub returns-in-Some-clause-memory : goal.returns-in-Some-clause-memory
returns-in-Some-clause-memory c = λ lacks.
    inl
    (legs_on (known_with_openings c.args.view.now) c.args.site.now c.args.tally.now.legs c.args.cost.now c.method_of.result
    c.in-Some.held.now (alike_in-Some c) c.requires.cost (c.book_on-in-Some.ensures.memory lacks))

-- ---- none has, and the account holds nothing

has_in-None : (c : goal.After-drop-new-in-None)
    → HasLotsAfter (known_with_openings c.args.view.now) c.args.tally.now.legs c.args.site.now.account.now
    c.args.site.now.amount.now.commodity c.new-in-None.result
has_in-None c =
    let site = c.args.site.now in
    let commodity = site.amount.now.commodity in
    let held = (known_with_openings c.args.view.now).facts.held site.account.now in
    record {
      lots =
          ap (λ (stock : Stock). lots_of stock.held commodity) c.new-in-None.ensures
          ∙ ap (λ (h : Held). lots_of h commodity) (sym c.in-None.ensures.value)
          ∙ sym (c.if-has_changed.ensures.lots refl held);
      openings = λ lot some.
          absurd
          (some
          (ap (λ (stock : Stock). units_at stock.held (commodity, Some lot)) c.new-in-None.ensures
          ∙ ap (λ (found : Option ℤ). unwrap_or found (pos 0)) (get-empty place_cmp (commodity, Some lot))));
    }

alike_in-None : (c : goal.After-drop-new-in-None)
    → ComesAlike (known_with_openings c.args.view.now) c.args.site.now c.args.tally.now.legs c.args.cost.now c.method_of.result c.new-in-None.result
alike_in-None c =
    with_its_lots (known_with_openings c.args.view.now) c.args.site.now c.args.tally.now.legs c.args.cost.now c.method_of.result
    c.new-in-None.result c.method_of.ensures (has_in-None c)

pub returns-in-None-clause-booked : goal.returns-in-None-clause-booked
returns-in-None-clause-booked c =
    booked_on (known_with_openings c.args.view.now) c.args.site.now c.args.tally.now.legs c.args.cost.now c.method_of.result
    c.new-in-None.result (alike_in-None c) c.book_on-in-None.result c.book_on-in-None.ensures.booked

pub returns-in-None-clause-stops : goal.returns-in-None-clause-stops
returns-in-None-clause-stops c =
    stops_on (known_with_openings c.args.view.now) c.args.site.now c.args.tally.now.legs c.args.cost.now c.method_of.result
    c.new-in-None.result (alike_in-None c) c.requires.cost c.book_on-in-None.result c.book_on-in-None.ensures.stops

pub returns-in-None-clause-memory : goal.returns-in-None-clause-memory
returns-in-None-clause-memory c = λ lacks.
    inl
    (legs_on (known_with_openings c.args.view.now) c.args.site.now c.args.tally.now.legs c.args.cost.now c.method_of.result
    c.new-in-None.result (alike_in-None c) c.requires.cost (c.book_on-in-None.ensures.memory lacks))
