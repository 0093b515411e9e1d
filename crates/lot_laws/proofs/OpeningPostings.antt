-- The legs of an entry have its number, and the places of its postings; all legs of a book are numbered.
use Rattle.std.specs.Prelude.{◌≡◌, ℕ, suc, ◌+◌, ◌-◌, ◌*◌, ◌≤◌, ◌<◌, Bool, true, false, cond, is_none, List, [], ◌∷◌, ◌++◌, length, Option, None, Some, ℤ}
use Rattle.std.specs.List.{AllByRecursion, Contains}
use Rattle.std.proofs.Common.{refl, sym, ap, subst, ◌∙◌, arith}
use Rattle.lot_cost.specs.declared.cost.Cost.{Cost}
use Rattle.lot_cost.specs.declared.lot_key.LotKey.{LotKey}
use Rattle.lot_cost.proofs.ListLemmas.{all_weaker}
use Rattle.lot_booking.proofs.ListLemmas.{at_member}
use Rattle.lot_command.specs.declared.command.Command.{Command}
use Rattle.lot_command.specs.declared.command.Command.TheVariants.{Opening, Closing, Declaring, Quoting, Transaction}
use Rattle.lot_command.specs.declared.key.Key.{Key}
use Rattle.lot_command.specs.declared.transaction.Posting.{Posting}
use Rattle.lot_book.specs.declared.leg.Leg.{Leg}
use Rattle.lot_book.specs.Balance.{elided_postings, fill_from, fill_of, left_over, residuals, weights_in}
use Rattle.lot_book.specs.Book.{ContinuesIn, IsBookIn}
use Rattle.lot_book.specs.Booking.{All, Booked, BooksAllUnder, HasLegs, Line, TieRule, legs_in, line_under}
use Rattle.lot_book.specs.Edition.{Edition, Migration, edition_on, ties_in}
use Rattle.lot_book.specs.Facts.{Entry, Facts, facts_of, legs_of}
use Rattle.lot_book.specs.Leg.{legs_at_lots}
use Rattle.lot_book.specs.Refusals.{most_entries, most_postings}
use Rattle.lot_book.specs.Step.{Accept, StepIn, fill_legs}
use Rattle.lot_laws.specs.Laws.{BooksCommand}
use Rattle.lot_book.specs.OpeningNumber.{IsNumbered, posting_number}
use Rattle.lot_laws.proofs.LawBalance.{command_booked}
use Rattle.lot_laws.proofs.LawBooks.{accepted, continued, over_placed}
use Rattle.lot_laws.proofs.OpeningBooks.{few, number_at}
use Rattle.lot_laws.proofs.RecordedBook.{room_where_accepted}

-- the leg is of the entry, and of a posting from one place to below another
record IsOf (entry low high : ℕ) (leg : Leg) : Type 0 where
  of_entry : leg.entry ≡ entry
  from_low : low ≤ leg.posting
  below_high : leg.posting < high

wider : (entry low high lower higher : ℕ) → lower ≤ low → high ≤ higher → (leg : Leg) → IsOf entry low high leg → IsOf entry lower higher leg
wider entry low high lower higher less more leg is = record {
  of_entry = is.of_entry;
  from_low = omega (arith, less, is.from_low);
  below_high = omega (arith, more, is.below_high);
}

all_wider : (entry low high lower higher : ℕ) → lower ≤ low → high ≤ higher → (legs : List Leg)
    → AllByRecursion (IsOf entry low high) legs → AllByRecursion (IsOf entry lower higher) legs
all_wider entry low high lower higher less more legs all =
    all_weaker (IsOf entry low high) (IsOf entry lower higher) (wider entry low high lower higher less more) legs all

each-append : {X : Type 0} (P : X → Type 0) (xs ys : List X) → AllByRecursion P xs → AllByRecursion P ys → AllByRecursion P (xs ++ ys)
each-append P [] ys all more = more
each-append P (x ∷ xs) ys all more = (all.0, each-append P xs ys all.1 more)

-- ---- The legs of a posting.

lots_of_posting : (entry posting place : ℕ) (account commodity : List ℕ) (lots : List (LotKey × ℤ))
    → AllByRecursion (IsOf entry posting (suc posting)) (legs_at_lots entry posting account commodity place lots)
lots_of_posting entry posting place account commodity [] = tt
lots_of_posting entry posting place account commodity (lot ∷ lots) = (
  record { of_entry = refl; from_low = omega arith; below_high = omega arith },
  lots_of_posting entry posting (suc place) account commodity lots,
)

legs_of_line : (line : Line) (cost : Option Cost) (reduces : Bool) (legs : List Leg) → HasLegs line cost reduces legs
    → AllByRecursion (IsOf line.entry line.place (suc line.place)) legs
legs_of_line line None reduces legs h =
    subst (AllByRecursion (IsOf line.entry line.place (suc line.place))) (sym h.1)
    (record { of_entry = refl; from_low = omega arith; below_high = omega arith }, tt)
legs_of_line line (Some cost) reduces legs h =
    subst (AllByRecursion (IsOf line.entry line.place (suc line.place))) (sym h.2)
    (lots_of_posting line.entry line.place 0 line.account line.amount.commodity h.0)

fill_of_posting : (entry posting : ℕ) (account : List ℕ) (place : ℕ) (rs : List (List ℕ × ℤ))
    → AllByRecursion (IsOf entry posting (suc posting)) (fill_from entry posting account place rs)
fill_of_posting entry posting account place [] = tt
fill_of_posting entry posting account place (r ∷ rs) = (
  record { of_entry = refl; from_low = omega arith; below_high = omega arith },
  fill_of_posting entry posting account (suc place) rs,
)

-- ---- The legs of a transaction.

abbrev IsPlaced : ℕ → ℕ → ℕ × List ℕ → Type 0
IsPlaced low high elided = (low ≤ elided.0) × (elided.0 < high)

elided_within : (place : ℕ) (postings : List Posting)
    → AllByRecursion (IsPlaced place (place + length postings)) (elided_postings place postings)
elided_within place [] = tt
elided_within place (posting ∷ postings) =
    let others = elided_postings (suc place) postings in
    let rest : AllByRecursion (IsPlaced place (place + suc (length postings))) others =
    all_weaker (IsPlaced (suc place) (suc place + length postings)) (IsPlaced place (place + suc (length postings)))
    (λ elided is. (omega (arith, is.0), omega (arith, is.1))) others (elided_within (suc place) postings) in
    elim (is_none posting.amount) as (λ b. AllByRecursion (IsPlaced place (place + suc (length postings)))
    (cond b ((place, posting.account) ∷ others) others)) [
      | true ↦ ((omega arith, omega arith), rest)
      | false ↦ rest
    ]

legs_of_fill : (entry low high : ℕ) (elided : List (ℕ × List ℕ)) (rs : List (List ℕ × ℤ)) → AllByRecursion (IsPlaced low high) elided
    → AllByRecursion (IsOf entry low high) (fill_of entry elided rs)
legs_of_fill entry low high [] rs placed = tt
legs_of_fill entry low high (first ∷ more) rs placed =
    all_wider entry first.0 (suc first.0) low high placed.0.0 placed.0.1 (fill_from entry first.0 first.1 0 (left_over rs))
    (fill_of_posting entry first.0 first.1 0 (left_over rs))

legs_of_postings : (ties : TieRule) (facts : Facts) (day : ℤ) (postings : List Posting) (booked : List Booked)
    → BooksAllUnder ties facts day [] 1 postings (All booked) → AllByRecursion (IsOf (suc facts.entries) 1 (1 + length postings)) (legs_in booked)
legs_of_postings ties facts day postings booked books =
    let entry = suc facts.entries in
    over_placed ties facts day (λ place before postings booked. AllByRecursion (IsOf entry place (place + length postings)) (legs_in booked))
    (λ place before. tt)
    (λ place before account postings booked rest.
    all_wider entry (suc place) (suc place + length postings) place (place + suc (length postings)) (omega arith) (omega arith)
    (legs_in booked) rest)
    (λ before place account amount postings first more is rest.
    each-append (IsOf entry place (place + suc (length postings))) first.legs (legs_in more)
    (all_wider entry place (suc place) place (place + suc (length postings)) (omega arith) (omega arith) first.legs
    (legs_of_line (line_under ties facts day before place account amount) amount.cost first.reduces first.legs is.legs))
    (all_wider entry (suc place) (suc place + length postings) place (place + suc (length postings)) (omega arith) (omega arith)
    (legs_in more) rest))
    1 postings [] booked books

-- ---- The legs of an entry.

none_of : (entry low high : ℕ) (legs : List Leg) → legs ≡ [] → AllByRecursion (IsOf entry low high) legs
none_of entry low high legs none = subst (AllByRecursion (IsOf entry low high)) (sym none) tt

legs_of_command : (edition : Edition) (book : List Entry) (key : Key) (command : Command) (legs : List Leg) (booked : List Booked)
    → StepIn edition book key command (Accept legs) → BooksCommand (ties_in edition book) (facts_of book key) command legs booked
    → AllByRecursion (IsOf (suc (length book)) 1 (suc most_postings)) legs
legs_of_command edition book key (Opening o) legs booked step h = none_of (suc (length book)) 1 (suc most_postings) legs h.0
legs_of_command edition book key (Closing c) legs booked step h = none_of (suc (length book)) 1 (suc most_postings) legs h.0
legs_of_command edition book key (Declaring d) legs booked step h = none_of (suc (length book)) 1 (suc most_postings) legs h.0
legs_of_command edition book key (Quoting q) legs booked step h = none_of (suc (length book)) 1 (suc most_postings) legs h.0
legs_of_command edition book key (Transaction t) legs booked step h =
    let facts = facts_of book key in
    let entry = suc (length book) in
    let most = few edition book key t legs step in
    let end : 1 + length t.postings ≤ suc most_postings = omega (arith, most) in
    let fill = fill_legs facts t booked in
    subst (AllByRecursion (IsOf entry 1 (suc most_postings))) (sym h.0)
    (each-append (IsOf entry 1 (suc most_postings)) (legs_in booked) fill
    (all_wider entry 1 (1 + length t.postings) 1 (suc most_postings) (omega arith) end (legs_in booked)
    (legs_of_postings (ties_in edition book) facts t.day t.postings booked h.1))
    (all_wider entry 1 (1 + length t.postings) 1 (suc most_postings) (omega arith) end fill
    (legs_of_fill entry 1 (1 + length t.postings) (elided_postings 1 t.postings) (residuals (weights_in booked)) (elided_within 1 t.postings))))

module _ (migration : Migration) (before more : List Entry) (entry : Entry) (leg : Leg) (book : IsBookIn migration (before ++ entry ∷ more)) (among : Contains entry.legs leg) where
  leg_of_entry : IsOf (suc (length before)) 1 (suc most_postings) leg
  leg_of_entry =
      let step = (continued migration [] before (entry ∷ more) book).0 in
      let booked = command_booked (edition_on migration before) before entry.key entry.command entry.legs step in
      at_member (IsOf (suc (length before)) 1 (suc most_postings)) entry.legs leg
      (legs_of_command (edition_on migration before) before entry.key entry.command entry.legs booked.0 step booked.1) among

  pub numbered : posting_number leg ≡ most_postings * length before + leg.posting
  numbered =
      ap (λ n. most_postings * (n - 1) + leg.posting) leg_of_entry.of_entry ∙ number_at (length before) leg.posting

  pub least_place : 1 ≤ leg.posting
  least_place = leg_of_entry.from_low

  pub most_place : leg.posting ≤ most_postings
  most_place = omega (arith, leg_of_entry.below_high)

-- ---- The legs of a book.

numbered_in : (book : List Entry) → length book < most_entries → (leg : Leg) → IsOf (suc (length book)) 1 (suc most_postings) leg
    → IsNumbered leg
numbered_in book room leg is = record {
  entry_from_one = omega (arith, is.of_entry);
  entry_in_book = omega (arith, is.of_entry, room);
  posting_from_one = is.from_low;
  posting_in_entry = omega (arith, is.below_high);
}

pub all_numbered : (migration : Migration) (before entries : List Entry) → ContinuesIn migration before entries
    → AllByRecursion IsNumbered (legs_of entries)
all_numbered migration before [] h = tt
all_numbered migration before (entry ∷ entries) h =
    let edition = edition_on migration before in
    let booked = command_booked edition before entry.key entry.command entry.legs h.0 in
    let room : length before < most_entries =
    room_where_accepted (ties_in edition before) (facts_of before entry.key) entry.command entry.legs
    (accepted edition before entry.key entry.command entry.legs h.0).1 in
    each-append IsNumbered entry.legs (legs_of entries)
    (all_weaker (IsOf (suc (length before)) 1 (suc most_postings)) IsNumbered (numbered_in before room) entry.legs
    (legs_of_command edition before entry.key entry.command entry.legs booked.0 h.0 booked.1))
    (all_numbered migration (before ++ entry ∷ []) entries h.1)
