-- A posting is refused where its lots don't suffice, and has legs where they do, or where it opens a lot.
use Rattle.std.proofs.Common.{◌≡◌, Bool, true, List, [], ◌∷◌, ℤ, rules, refl, ap, subst, sym, ◌∙◌, unsigned_abs}
use Rattle.std.proofs.lemmas.Bool.{and_parts}
use Rattle.std.proofs.lemmas.Result.{err_from_is_err_and}
use Rattle.lot_cost.specs.declared.lot_key.LotKey.{LotKey}
use Rattle.lot_inv.specs.Foremost.{AreLentOf, Counts, numbered, only_of}
use Rattle.lot_inv.specs.declared.foremost.Foremost.{Foremost}
use Rattle.lot_inv.specs.declared.lot.Lot.{Lot}
use Rattle.lot_inv.specs.Inventory.{fitting, opening_at, with_number}
use Rattle.lot_inv.proofs.LawLemmas.{sorted_matching}
use Rattle.lot_booking.specs.Booking.{AreTaken, ComesTo, Legs, Reduces, candidates, posting_on}
use Rattle.lot_booking.specs.Method.{may_reduce}
use Rattle.lot_booking.proofs.BookingLaws.{candidates_distinct}
use Rattle.lot_booking.proofs.EnoughLemmas.{legs_where_enough, lots_for, refused_where_short, stops_opening, suffice_all}
use Rattle.lot_booking.proofs.OnlyLemmas.{takes_only}
use Rattle.lot_booking.proofs.booking.book.Goals as goal

pub returns-in_err-legs-clause-stops : goal.returns-in_err-legs-clause-stops
returns-in_err-legs-clause-stops c =
    let posting = posting_on c.args.selection c.args.inventory.now c.args.commodity.now c.args.units c.args.cost.now c.args.day in
    let is = err_from_is_err_and c.from_residual-in_err-legs.result c.from_residual-in_err-legs.ensures.1 in
    rw (is.1, is.2) (stops_opening posting (search rules, search rules, search rules) c.in_err-legs.field-0.0 (search rules))

pub returns-in_err-ensure_enough-clause-stops : goal.returns-in_err-ensure_enough-clause-stops
returns-in_err-ensure_enough-clause-stops c =
    let posting = posting_on c.args.selection c.args.inventory.now c.args.commodity.now c.args.units c.args.cost.now c.args.day in
    let available = c.available-available.result in
    let all : fitting c.args.inventory.now.held c.args.commodity.now c.args.units (with_number c.in_ok-number.number c.given-spec.result.now) ≡ candidates posting =
    lots_for posting c.in_ok-number.number c.given-spec.result.now c.in_ok-number.ensures.number c.given-spec.ensures.value in
    let counted = subst (Counts (unsigned_abs c.args.units) available.lots available.held) all c.available-available.ensures.counted in
    let is = err_from_is_err_and c.from_residual-in_err-ensure_enough.result c.from_residual-in_err-ensure_enough.ensures.1 in
    rw (is.1, is.2)
    (refused_where_short posting available.lots available.held (search rules, search rules, search rules) counted
    c.in_err-ensure_enough.field-0.0 c.in_err-ensure_enough.ensures.short)

pub returns-in_err-lots-clause-stops : goal.returns-in_err-lots-clause-stops
returns-in_err-lots-clause-stops c =
    let posting = posting_on c.args.selection c.args.inventory.now c.args.commodity.now c.args.units c.args.cost.now c.args.day in
    let available = c.available-available.result in
    let all : fitting c.args.inventory.now.held c.args.commodity.now c.args.units (with_number c.in_ok-number.number c.given-spec.result.now) ≡ candidates posting =
    lots_for posting c.in_ok-number.number c.given-spec.result.now c.in_ok-number.ensures.number c.given-spec.ensures.value in
    let counted = subst (Counts (unsigned_abs c.args.units) available.lots available.held) all c.available-available.ensures.counted in
    let is = err_from_is_err_and c.from_residual-in_err-lots.result c.from_residual-in_err-lots.ensures.1 in
    rw (is.1, is.2)
    (legs_where_enough posting available.lots available.held (search rules, search rules, search rules) counted
    (c.in_ok-ensure_enough.ensures.suffice refl))

pub returns-in_err-legs-2-clause-stops : goal.returns-in_err-legs-2-clause-stops
returns-in_err-legs-2-clause-stops c =
    let posting = posting_on c.args.selection c.args.inventory.now c.args.commodity.now c.args.units c.args.cost.now c.args.day in
    let available = c.available-available.result in
    let all : fitting c.args.inventory.now.held c.args.commodity.now c.args.units (with_number c.in_ok-number.number c.given-spec.result.now) ≡ candidates posting =
    lots_for posting c.in_ok-number.number c.given-spec.result.now c.in_ok-number.ensures.number c.given-spec.ensures.value in
    let counted = subst (Counts (unsigned_abs c.args.units) available.lots available.held) all c.available-available.ensures.counted in
    let is = err_from_is_err_and c.from_residual-in_err-legs-2.result c.from_residual-in_err-legs-2.ensures.1 in
    rw (is.1, is.2)
    (legs_where_enough posting available.lots available.held (search rules, search rules, search rules) counted
    (c.in_ok-ensure_enough.ensures.suffice refl))

pub returns-in_err-legs-3-clause-stops : goal.returns-in_err-legs-3-clause-stops
returns-in_err-legs-3-clause-stops c =
    let posting = posting_on c.args.selection c.args.inventory.now c.args.commodity.now c.args.units c.args.cost.now c.args.day in
    let available = c.available-available.result in
    let all : fitting c.args.inventory.now.held c.args.commodity.now c.args.units (with_number c.in_ok-number.number c.given-spec.result.now) ≡ candidates posting =
    lots_for posting c.in_ok-number.number c.given-spec.result.now c.in_ok-number.ensures.number c.given-spec.ensures.value in
    let counted = subst (Counts (unsigned_abs c.args.units) available.lots available.held) all c.available-available.ensures.counted in
    let is = err_from_is_err_and c.from_residual-in_err-legs-3.result c.from_residual-in_err-legs-3.ensures.1 in
    rw (is.1, is.2)
    (legs_where_enough posting available.lots available.held (search rules, search rules, search rules) counted
    (c.in_ok-ensure_enough.ensures.suffice refl))

pub returns-clause-booked : goal.returns-clause-booked
returns-clause-booked c =
    let posting = posting_on c.args.selection c.args.inventory.now c.args.commodity.now c.args.units c.args.cost.now c.args.day in
    let available = c.available-available.result in
    let amount = unsigned_abs c.args.units in
    let opening = opening_at c.args.inventory.now c.args.commodity.now in
    let legs = c.in_ok-legs-3.legs.items in
    let lots = c.in_ok-lots.lots.items in
    let all : fitting c.args.inventory.now.held c.args.commodity.now c.args.units (with_number c.in_ok-number.number c.given-spec.result.now) ≡ candidates posting =
    lots_for posting c.in_ok-number.number c.given-spec.result.now c.in_ok-number.ensures.number c.given-spec.ensures.value in
    let counted = subst (Counts amount available.lots available.held) all c.available-available.ensures.counted in
    let suffice = suffice_all c.args.selection.method amount available.lots available.held (candidates posting) counted (c.in_ok-ensure_enough.ensures.suffice refl) in
    let lent = subst (λ (foremost : Foremost). AreLentOf foremost amount (numbered opening (candidates posting)) lots) c.foremost_of-foremost.ensures
    (subst (λ (ls : List (LotKey × ℤ)). AreLentOf c.foremost_of-foremost.result amount (numbered opening ls) lots) all c.in_ok-lots.ensures) in
    let taken = c.in_ok-legs-3.ensures opening (candidates posting) (candidates_distinct sorted_matching posting) suffice lent in
    let reducing : c.if-ne.reduces ≡ true = search rules in
    subst (λ (b : Bool). ComesTo posting (Legs b legs)) (sym reducing) ((search rules, search rules, search rules), taken)

pub returns-in-Some-clause-booked : goal.returns-in-Some-clause-booked
returns-in-Some-clause-booked c =
    let posting = posting_on c.args.selection c.args.inventory.now c.args.commodity.now c.args.units c.args.cost.now c.args.day in
    let available = c.available-available.result in
    let amount = unsigned_abs c.args.units in
    let opening = opening_at c.args.inventory.now c.args.commodity.now in
    let legs = c.in_ok-legs-2.legs.items in
    let lot : Lot = c.in-Some.lot in
    let all : fitting c.args.inventory.now.held c.args.commodity.now c.args.units (with_number c.in_ok-number.number c.given-spec.result.now) ≡ candidates posting =
    lots_for posting c.in_ok-number.number c.given-spec.result.now c.in_ok-number.ensures.number c.given-spec.ensures.value in
    let counted = subst (Counts amount available.lots available.held) all c.available-available.ensures.counted in
    let suffice = suffice_all c.args.selection.method amount available.lots available.held (candidates posting) counted (c.in_ok-ensure_enough.ensures.suffice refl) in
    let only = sym c.in-Some.is ∙ c.available-available.ensures.only ∙ ap (λ ls. only_of (numbered opening ls)) all in
    let leg : legs ≡ (lot.key, c.args.units) ∷ [] = rw c.in-Some.is at c.in_ok-legs-2.ensures in
    let reducing : c.if-ne.reduces ≡ true = search rules in
    let reduces : Reduces posting = (search rules, search rules, search rules) in
    let taken = takes_only posting.ties posting.method (and_parts (may_reduce posting.method) _ reduces.2).0 opening (candidates posting) lot c.args.units reduces.0
    suffice.enough only in
    subst (λ (b : Bool). ComesTo posting (Legs b legs)) (sym reducing)
    (reduces, subst (AreTaken posting) (sym leg) taken)
