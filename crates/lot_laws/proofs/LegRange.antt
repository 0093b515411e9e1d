-- However many legs of a book are booked, what they leave at a position is in the range of units.
use Rattle.std.specs.Prelude.{◌≡◌, ℕ, suc, zero, nat_lt, Bool, true, false, cond, List, [], ◌∷◌, ◌++◌, take, Option, None, Some, ℤ, ◌+ℤ◌, unsigned_abs}
use Rattle.std.specs.FinMap.{empty}
use Rattle.std.specs.List.{AllByRecursion}
use Rattle.std.proofs.Common.{refl, sym, ap, subst, ◌∙◌, append_assoc, lit<}
use Rattle.std.proofs.lemmas.Bool.{ltb-true}
use Rattle.std.proofs.lemmas.List.{append-nil}
use Rattle.lot_num.specs.Amount.{IsUnits, units_limit}
use Rattle.lot_cost.specs.declared.cost.Cost.{Cost}
use Rattle.lot_cost.specs.declared.lot_key.LotKey.{LotKey}
use Rattle.lot_inv.specs.Inventory.{Held, added, units_at}
use Rattle.lot_command.specs.declared.command.Command.{Command}
use Rattle.lot_command.specs.declared.command.Command.TheVariants.{Opening, Closing, Declaring, Quoting, Transaction}
use Rattle.lot_command.specs.declared.key.Key.{Key}
use Rattle.lot_command.specs.declared.transaction.Posting.{Posting}
use Rattle.lot_book.specs.declared.leg.Leg.{Leg}
use Rattle.lot_book.specs.declared.leg.Position.{Position}
use Rattle.lot_book.specs.declared.refusal.Refusal.TheVariants.{Range}
use Rattle.lot_book.specs.Balance.{elided_postings, fill_from, fill_of, left_over, residuals, weights_in}
use Rattle.lot_book.specs.Book.{ContinuesIn, IsBookIn}
use Rattle.lot_book.specs.Booking.{All, Booked, BooksAllUnder, HasLegs, Line, TieRule, legs_in, line_under}
use Rattle.lot_book.specs.Edition.{Edition, Migration, edition_on, ties_in}
use Rattle.lot_book.specs.Facts.{Entry, facts_of, legs_of}
use Rattle.lot_book.specs.Leg.{inventory_of, leave_range, legs_at_lots, same_position, sum_at, with_legs}
use Rattle.lot_book.specs.OpeningNumber.{StayInRange}
use Rattle.lot_book.specs.Refusals.{fill_not_allowed, fill_out_of_range, inexact_fill, not_balanced, too_many_lots, book_full}
use Rattle.lot_book.specs.Step.{Accept, StepIn, all_legs, fill_legs}
use Rattle.lot_book.proofs.CaseLemmas.{by_bool}
use Rattle.lot_book.proofs.LegLemmas.{with_legs-append, with_legs-push}
use Rattle.lot_book.proofs.OrderLemmas.{one_position}
use Rattle.lot_laws.proofs.LawBalance.{accepted_unrefused, command_booked}
use Rattle.lot_laws.proofs.LawBooks.{over_booked}
use Rattle.lot_laws.proofs.LawHoldings.{holds_sum}
use Rattle.lot_laws.proofs.LawNone.{first_none, others_none}
use Rattle.lot_laws.proofs.OpeningBooks.{not_held}
use Rattle.lot_laws.proofs.OpeningLemmas.{sum_at-push}
use Rattle.lot_laws.proofs.RecordedBook.{legs_of-append}

-- what legs leave at each position is in range
abbrev InRange : List Leg → Type 0
InRange legs = (position : Position) → IsUnits (sum_at legs position)

-- behind some legs, as further ones are booked one after another
abbrev StayBehind : List Leg → List Leg → Type 0
StayBehind before [] = InRange before
StayBehind before (leg ∷ legs) = InRange before × StayBehind (before ++ leg ∷ []) legs

at_end : (before legs : List Leg) → StayBehind before legs → InRange (before ++ legs)
at_end before [] stay = subst InRange (sym (append-nil before)) stay
at_end before (leg ∷ legs) stay = subst InRange (append_assoc before (leg ∷ []) legs) (at_end (before ++ leg ∷ []) legs stay.1)

stay-append : (before legs more : List Leg) → StayBehind before legs → StayBehind (before ++ legs) more → StayBehind before (legs ++ more)
stay-append before [] more stay rest = subst (λ (ls : List Leg). StayBehind ls more) (append-nil before) rest
stay-append before (leg ∷ legs) more stay rest = (
  stay.0,
  stay-append (before ++ leg ∷ []) legs more stay.1
      (subst (λ (ls : List Leg). StayBehind ls more) (sym (append_assoc before (leg ∷ []) legs)) rest),
)

at_first : (before legs : List Leg) → StayBehind before legs → InRange before
at_first before [] stay = stay
at_first before (leg ∷ legs) stay = stay.0

so_far : (before legs : List Leg) (count : ℕ) → StayBehind before legs → InRange (before ++ take count legs)
so_far before legs zero stay = subst InRange (sym (append-nil before)) (at_first before legs stay)
so_far before [] (suc count) stay = subst InRange (sym (append-nil before)) stay
so_far before (leg ∷ legs) (suc count) stay =
    subst InRange (append_assoc before (leg ∷ []) (take count legs)) (so_far (before ++ leg ∷ []) legs count stay.1)

-- ---- Legs of one account that don't leave the range.

abbrev IsOwn : List ℕ → Leg → Type 0
IsOwn account leg = leg.position.account ≡ account

one_more : (before : List Leg) (leg : Leg) → InRange before → IsUnits (sum_at before leg.position +ℤ leg.units)
    → InRange (before ++ leg ∷ [])
one_more before leg within fits p =
    let here = same_position p leg.position in
    let Fits : Bool → Type 0 = λ b. IsUnits (cond b (sum_at before p +ℤ leg.units) (sum_at before p)) in
    subst IsUnits (sym (sum_at-push before leg p))
    (by_bool {P = Fits here} here
    (λ e. subst Fits (sym e)
    (subst (λ (q : Position). IsUnits (sum_at before q +ℤ leg.units)) (sym (one_position p leg.position e)) fits))
    (λ e. subst Fits (sym e) (within p)))

passes : (b rest : Bool) → cond b rest true ≡ false → (b ≡ true) × (rest ≡ false)
passes true rest e = (refl, e)
passes false rest e = absurd cc

legs_stay : (account : List ℕ) (held : Held) (before legs : List Leg) → held ≡ inventory_of before account
    → AllByRecursion (IsOwn account) legs → leave_range held legs ≡ false → InRange before → StayBehind before legs
legs_stay account held before [] is own range within = within
legs_stay account held before (leg ∷ legs) is own range within =
    let at : List ℕ × Option LotKey = (leg.position.commodity, leg.position.lot) in
    let units = units_at held at +ℤ leg.units in
    let next = added held at leg.units in
    let first = passes (nat_lt (unsigned_abs units) units_limit) (leave_range next legs) range in
    let sum : units_at held at ≡ sum_at before leg.position =
    ap (λ (h : Held). units_at h at) (is ∙ ap (inventory_of before) (sym own.0)) ∙ holds_sum before leg.position in
    let fits : IsUnits (sum_at before leg.position +ℤ leg.units) =
    subst (λ z. IsUnits (z +ℤ leg.units)) sum (ltb-true (unsigned_abs units) units_limit first.0) in (
      within,
      legs_stay account next (before ++ leg ∷ []) legs
          (ap (λ (h : Held). added h at leg.units) is ∙ sym (with_legs-push account empty before leg own.0)) own.1 first.1
          (one_more before leg within fits),
    )

-- ---- The legs of a posting are of its account.

own_lots : (entry posting place : ℕ) (account commodity : List ℕ) (lots : List (LotKey × ℤ))
    → AllByRecursion (IsOwn account) (legs_at_lots entry posting account commodity place lots)
own_lots entry posting place account commodity [] = tt
own_lots entry posting place account commodity (lot ∷ lots) = (refl, own_lots entry posting (suc place) account commodity lots)

own_legs : (line : Line) (cost : Option Cost) (reduces : Bool) (legs : List Leg) → HasLegs line cost reduces legs
    → AllByRecursion (IsOwn line.account) legs
own_legs line None reduces legs h = subst (AllByRecursion (IsOwn line.account)) (sym h.1) (refl, tt)
own_legs line (Some cost) reduces legs h =
    subst (AllByRecursion (IsOwn line.account)) (sym h.2)
    (own_lots line.entry line.place 0 line.account line.amount.commodity h.0)

own_fill : (entry posting : ℕ) (account : List ℕ) (place : ℕ) (rs : List (List ℕ × ℤ))
    → AllByRecursion (IsOwn account) (fill_from entry posting account place rs)
own_fill entry posting account place [] = tt
own_fill entry posting account place (r ∷ rs) = (refl, own_fill entry posting account (suc place) rs)

-- ---- The legs of a transaction.

postings_stay : (ties : TieRule) (book : List Entry) (key : Key) (day : ℤ) (postings : List Posting) (booked : List Booked)
    → BooksAllUnder ties (facts_of book key) day [] 1 postings (All booked) → InRange (legs_of book)
    → StayBehind (legs_of book) (legs_in booked)
postings_stay ties book key day postings booked books within =
    let facts = facts_of book key in
    let all = legs_of book in
    subst (λ (ls : List Leg). StayBehind ls (legs_in booked)) (append-nil all)
    (over_booked ties facts day
    (λ before postings booked. InRange (all ++ before) → StayBehind (all ++ before) (legs_in booked))
    (λ before within. within)
    (λ before account postings booked rest. rest)
    (λ before place account amount postings first more is rest within.
    let line = line_under ties facts day before place account amount in
    let own : StayBehind (all ++ before) first.legs =
    legs_stay account line.held (all ++ before) first.legs (sym (with_legs-append account empty all before))
    (own_legs line amount.cost first.reduces first.legs is.legs) is.range within in
    let end : InRange (all ++ (before ++ first.legs)) =
    subst InRange (append_assoc all before first.legs) (at_end (all ++ before) first.legs own) in
    stay-append (all ++ before) first.legs (legs_in more) own
    (subst (λ (ls : List Leg). StayBehind ls (legs_in more)) (sym (append_assoc all before first.legs)) (rest end)))
    1 postings [] booked books (subst InRange (sym (append-nil all)) within))

fill_stays : (book : List Entry) (key : Key) (entry : ℕ) (elided : List (ℕ × List ℕ)) (rs : List (List ℕ × ℤ)) (before : List Leg)
    → fill_out_of_range (facts_of book key) elided before (fill_of entry elided rs) ≡ None → InRange (legs_of book ++ before)
    → StayBehind (legs_of book ++ before) (fill_of entry elided rs)
fill_stays book key entry [] rs before none within = within
fill_stays book key entry (first ∷ more) rs before none within =
    let account = first.1 in
    let legs = fill_from entry first.0 account 0 (left_over rs) in
    let held = with_legs account (inventory_of (legs_of book) account) before in
    legs_stay account held (legs_of book ++ before) legs (sym (with_legs-append account empty (legs_of book) before))
    (own_fill entry first.0 account 0 (left_over rs)) (not_held (leave_range held legs) (Range first.0) none) within

-- ---- The legs of a book.

nothing_leaves : (book : List Entry) (legs : List Leg) → legs ≡ [] → InRange (legs_of book) → StayBehind (legs_of book) legs
nothing_leaves book legs none within = subst (StayBehind (legs_of book)) (sym none) within

command_stays : (edition : Edition) (book : List Entry) (key : Key) (command : Command) (legs : List Leg)
    → StepIn edition book key command (Accept legs) → InRange (legs_of book) → StayBehind (legs_of book) legs
command_stays edition book key (Opening o) legs step within =
    nothing_leaves book legs (command_booked edition book key (Opening o) legs step).1.0 within
command_stays edition book key (Closing c) legs step within =
    nothing_leaves book legs (command_booked edition book key (Closing c) legs step).1.0 within
command_stays edition book key (Declaring d) legs step within =
    nothing_leaves book legs (command_booked edition book key (Declaring d) legs step).1.0 within
command_stays edition book key (Quoting q) legs step within =
    nothing_leaves book legs (command_booked edition book key (Quoting q) legs step).1.0 within
command_stays edition book key (Transaction t) legs step within =
    let facts = facts_of book key in
    let is = accepted_unrefused edition book key t legs step in
    let elided = elided_postings 1 t.postings in
    let rs = residuals (weights_in is.booked) in
    let from_balance = not_balanced elided rs ∷ too_many_lots facts (all_legs facts t is.booked) t.postings ∷ book_full facts ∷ [] in
    let out = fill_out_of_range facts elided (legs_in is.booked) (fill_legs facts t is.booked) in
    let in_fill : out ≡ None =
    first_none out from_balance
    (others_none (fill_not_allowed facts elided rs) (out ∷ from_balance)
    (others_none (inexact_fill elided rs) (fill_not_allowed facts elided rs ∷ out ∷ from_balance) is.none)) in
    let own = postings_stay (ties_in edition book) book key t.day t.postings is.booked is.books within in
    subst (StayBehind (legs_of book)) (sym is.all)
    (stay-append (legs_of book) (legs_in is.booked) (fill_legs facts t is.booked) own
    (fill_stays book key (suc facts.entries) elided rs (legs_in is.booked) in_fill (at_end (legs_of book) (legs_in is.booked) own)))

entries_stay : (migration : Migration) (before entries : List Entry) → ContinuesIn migration before entries → InRange (legs_of before)
    → StayBehind (legs_of before) (legs_of entries)
entries_stay migration before [] h within = within
entries_stay migration before (entry ∷ entries) h within =
    let book = before ++ entry ∷ [] in
    let own = command_stays (edition_on migration before) before entry.key entry.command entry.legs h.0 within in
    let legs : legs_of book ≡ legs_of before ++ entry.legs = legs_of-append before entry in
    stay-append (legs_of before) entry.legs (legs_of entries) own
    (subst (λ (ls : List Leg). StayBehind ls (legs_of entries)) legs
    (entries_stay migration book entries h.1 (subst InRange (sym legs) (at_end (legs_of before) entry.legs own))))

pub stay_in_range : (migration : Migration) (entries : List Entry) → IsBookIn migration entries → StayInRange (legs_of entries)
stay_in_range migration entries book count =
    so_far [] (legs_of entries) count (entries_stay migration [] entries book (λ position. lit< tt))
