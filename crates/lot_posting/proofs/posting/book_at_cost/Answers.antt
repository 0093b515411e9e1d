-- The legs are those at the lots that the posting comes to; they move as much as the posting.
use Rattle.std.proofs.Common.{◌≡◌, ◌++◌, ◌∷◌, [], Bool, ℕ, Err, Result, List, ℤ, sym, ap, subst, ◌∙◌, arith}
use Rattle.std.proofs.lemmas.Result.{err_from_is_err_and}
use Rattle.std.specs.Result.{IsErrAnd}
use Rattle.lot_cost.specs.declared.lot_key.LotKey.{LotKey}
use Rattle.lot_inv.specs.Inventory.{held_in}
use Rattle.lot_booking.specs.Booking.{ComesTo, Legs}
use Rattle.lot_posting.specs.declared.draft.Draft.{Draft}
use Rattle.lot_book.specs.declared.leg.Leg.{Leg}
use Rattle.lot_book.specs.declared.refusal.Stop.{Stop}
use Rattle.lot_book.specs.declared.refusal.Stop.TheVariants.{Memory}
use Rattle.lot_book.specs.Booking.{Booked, TieRule, braced}
use Rattle.lot_book.specs.Leg.{legs_at_lots, units_moved, with_legs}
use Rattle.lot_book.specs.Sale.{lots_in_legs}
use Rattle.lot_posting.specs.Posting.{Books, line_at}
use Rattle.lot_book.specs.Openings.{ties_for}
use Rattle.lot_view.specs.View.{known, known_with_openings}
use Rattle.lot_posting.specs.Tally.{AreOf, HaveNumbers, ListsTally, StopsAt}
use Rattle.lot_book.proofs.SaleLemmas.{lots_in_legs-lots}
use Rattle.lot_posting.proofs.PostingLemmas.{Adds, AreLegsOf-taken, adds_after, HaveNumbers-lots, books, has_lots, held_in-legs, no_sale, one_sale, stops_with, units_moved-lots}
use Rattle.lot_posting.proofs.posting.book_at_cost.Goals as goal
use Rattle.lot_posting.proofs.posting.book_at_cost.Goals.{then-reduces+in_ok-sale+in_ok-push, else-reduces}

pub add-requires-clause-numbers : goal.add-requires-clause-numbers
add-requires-clause-numbers c =
    let site = c.args.site.now in
    subst HaveNumbers (sym c.in_ok-legs.ensures)
    (HaveNumbers-lots site.entry site.posting site.account.now site.amount.now.commodity 0 c.deref.result.now c.requires.number)

pub add-requires-clause-moved : goal.add-requires-clause-moved
add-requires-clause-moved c =
    let site = c.args.site.now in
    let line = line_at (known_with_openings c.args.view.now) site c.args.draft.now.tally.legs in
    let lots : List (LotKey × ℤ) = c.in_ok-reduces.field-0.legs.items in
    let moved : units_moved c.in_ok-legs.legs.items ≡ held_in lots =
    ap units_moved (c.in_ok-legs.ensures ∙ ap (legs_at_lots site.entry site.posting site.account.now site.amount.now.commodity 0) c.deref.ensures.value)
    ∙ units_moved-lots site.entry site.posting site.account.now site.amount.now.commodity 0 lots in
    let size = held_in-legs (braced line c.args.cost.now) c.in_ok-reduces.field-0.reduces lots c.in_ok-reduces.ensures.booked in
    omega (arith, moved, size, c.mantissa-in_range.ensures.in_range)

pub sale_of-requires : goal.sale_of-requires
sale_of-requires c =
    let site = c.args.site.now in
    let line = line_at (known_with_openings c.args.view.now) site c.args.draft.now.tally.legs in
    let lots : List (LotKey × ℤ) = c.in_ok-reduces.field-0.legs.items in
    AreLegsOf-taken (braced line c.args.cost.now) lots
    (subst (λ (reduces : Bool). ComesTo (braced line c.args.cost.now) (Legs reduces lots)) c.if-reduces.true c.in_ok-reduces.ensures.booked)

pub returns-in_err-add-clause-stops : goal.returns-in_err-add-clause-stops
returns-in_err-add-clause-stops c =
    let facts = known c.args.view.now in
    let site = c.args.site.now in
    let amount = site.amount.now in
    let before = c.args.draft.now.tally.legs in
    let line = line_at (known_with_openings c.args.view.now) site before in
    let reduces = c.in_ok-reduces.field-0.reduces in
    let has = has_lots line c.args.cost.now site.entry reduces c.in_ok-reduces.field-0.legs.items c.deref.result.now c.in_ok-legs.legs.items
    c.requires.cost c.requires.entry c.in_ok-reduces.ensures.booked c.deref.ensures.value c.in_ok-legs.ensures in
    let p = err_from_is_err_and c.from_residual-in_err-add.result c.from_residual-in_err-add.ensures.1 in
    rw (p.1, p.2)
    (stops_with (ties_for site.edition (known_with_openings c.args.view.now)) facts site.day before site.posting site.account.now amount reduces c.in_ok-legs.legs.items c.in_err-add.field-0.0 has
    (subst
    (λ (legs : List Leg). (other : List ℕ) (posting : ℕ) → AreOf other posting c.in_ok-legs.legs.items
    → StopsAt (with_legs other (facts.held other) legs) posting c.in_ok-legs.legs.items c.in_err-add.field-0.0)
    c.in_ok-reduces.ensures.legs c.in_err-add.ensures.stops))

pub returns-clause-books : goal.returns-clause-books
returns-clause-books c =
    let facts = known c.args.view.now in
    let site = c.args.site.now in
    let account = site.account.now in
    let amount = site.amount.now in
    let old = c.args.draft.now in
    let ties : TieRule = ties_for site.edition (known_with_openings c.args.view.now) in
    let line = line_at (known_with_openings c.args.view.now) site old.tally.legs in
    let reduces = c.in_ok-reduces.field-0.reduces in
    let lots : List (LotKey × ℤ) = c.in_ok-reduces.field-0.legs.items in
    let legs : List Leg = c.in_ok-legs.legs.items in
    let has = has_lots line c.args.cost.now site.entry reduces lots c.deref.result.now legs
    c.requires.cost c.requires.entry c.in_ok-reduces.ensures.booked c.deref.ensures.value c.in_ok-legs.ensures in
    let taken : lots_in_legs legs ≡ lots =
    ap lots_in_legs (c.in_ok-legs.ensures ∙ ap (legs_at_lots site.entry site.posting account amount.commodity 0) c.deref.ensures.value)
    ∙ lots_in_legs-lots site.entry site.posting account amount.commodity 0 lots in
    let booked : Booked = record { place = site.posting; account = account; amount = amount; reduces = reduces; legs = legs } in
    let added = c.in_ok-add.ensures in
    let adds = λ (new : Draft) (adds : Adds facts amount legs (record old { tally = c.book_lots.new.tally }) new).
    adds_after facts amount legs old c.book_lots.new.tally new c.in_ok-reduces.ensures.legs adds in
    elim c.if-reduces.branch [
      | then-reduces+in_ok-sale+in_ok-push w ↦
          subst (λ (new : Draft). Books ties facts site.day site.posting account amount old new) (sym w.draft-is)
          (books ties facts site.day site.posting account amount old _ reduces legs has
          (adds _ (record { legs = added.legs; sum = added.sum; within = added.within; in_range = added.in_range }))
          (one_sale site.day booked old.sales w.push.new.self lots w.if-reduces.true taken
          (w.in_ok-push.ensures.ok ∙ (λ i. added.sales i ++ (site.posting, w.in_ok-sale.ensures i) ∷ []))))
      | else-reduces w ↦
          subst (λ (new : Draft). Books ties facts site.day site.posting account amount old new) (sym w.draft-is)
          (books ties facts site.day site.posting account amount old c.add.new.self reduces legs has
          (adds c.add.new.self (record { legs = added.legs; sum = added.sum; within = added.within; in_range = added.in_range }))
          (no_sale site.day booked old.sales c.add.new.self.sales w.if-reduces.false added.sales))
    ]

pub returns-clause-lists : goal.returns-clause-lists
returns-clause-lists c =
    let known = known_with_openings c.args.view.now in
    elim c.if-reduces.branch [
      | then-reduces+in_ok-sale+in_ok-push w ↦
          subst (λ (new : Draft). ListsTally known new.tally) (sym w.draft-is) c.in_ok-add.ensures.lists
      | else-reduces w ↦ subst (λ (new : Draft). ListsTally known new.tally) (sym w.draft-is) c.in_ok-add.ensures.lists
    ]

pub returns-in_err-reduces-clause-memory : goal.returns-in_err-reduces-clause-memory
returns-in_err-reduces-clause-memory c = λ lacks.
    let stop = c.in_err-reduces.field-0.0 in
    let memory : Memory ≡ stop = subst (λ (r : Result _ Stop). IsErrAnd r (λ e. e ≡ stop)) lacks c.from_residual.ensures.1 in
    c.in_err-reduces.ensures.memory (ap Err (sym memory))
