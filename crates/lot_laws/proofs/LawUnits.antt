-- What a book holds in lots is what its commands bought, less what they sold.
use Rattle.std.specs.Prelude.{◌≡◌, ℕ, ◌&&◌, Bool, true, false, cond, List, [], ◌∷◌, Option, None, Some, is_some, ℤ, pos, ◌+ℤ◌, neg_ℤ}
use Rattle.std.specs.Map.{values_of}
use Rattle.std.proofs.Common.{refl, sym, ap, ◌∙◌, arith}
use Rattle.std.proofs.Math.IntN.{*ℤ-one, +ℤ_idl, one}
use Rattle.std.proofs.lemmas.Int.{ints}
use Rattle.lot_num.specs.Sum.{sum_of}
use Rattle.lot_base.specs.Text.{same_text}
use Rattle.lot_cost.specs.declared.lot_key.LotKey.{LotKey}
use Rattle.lot_inv.specs.Inventory.{sum, lots_of}
use Rattle.lot_inv.proofs.LotLemmas.{sum_at}
use Rattle.lot_cost.specs.declared.cost.Cost.{Cost}
use Rattle.lot_booking.proofs.BookingLaws.{units_of_legs}
use Rattle.lot_command.specs.declared.command.Command.{Command}
use Rattle.lot_command.specs.declared.command.Command.TheVariants.{Opening, Closing, Declaring, Quoting, Transaction}
use Rattle.lot_command.specs.declared.transaction.Posting.{Posting}
use Rattle.lot_command.specs.declared.transaction.Transaction.{Transaction as TransactionOf}
use Rattle.lot_book.specs.declared.leg.Leg.{Leg}
use Rattle.lot_book.specs.Book.{IsBookIn}
use Rattle.lot_book.specs.Booking.{All, Booked, BooksAllUnder, HasLegs, Line, TieRule, braced, legs_in, line_under}
use Rattle.lot_book.specs.Edition.{Migration}
use Rattle.lot_book.specs.Facts.{Entry, Facts, legs_of}
use Rattle.lot_laws.specs.Laws.{above_zero, below_zero, bought, over_entries, over_postings, sold, units_at_cost}
use Rattle.lot_book.specs.Leg.{inventory_of}
use Rattle.lot_laws.proofs.LawBooks.{over_booked, posted}
use Rattle.lot_laws.proofs.LawLots.{book_puts, lots_put, lots_worth, put, total, total-append}

-- ---- A posting puts the units that it writes.

-- each unit counts as one
abbrev as_one : LotKey → ℤ
as_one key = pos 1

sum_as_one : (lots : List (LotKey × ℤ)) → sum_at as_one lots ≡ sum_of (values_of lots)
unfolding one
sum_as_one [] = refl
sum_as_one (lot ∷ lots) = ap (λ z. z +ℤ sum_at as_one lots) (*ℤ-one lot.1) ∙ ap (λ z. lot.1 +ℤ z) (sum_as_one lots)

plain_posts_nothing : (here : Bool) (units : ℤ) → pos 0 ≡ cond (here && false) units (pos 0)
plain_posts_nothing true units = refl
plain_posts_nothing false units = refl

legs_put_units : (account commodity : List ℕ) (line : Line) (cost : Option Cost) (reduces : Bool) (legs : List Leg) → HasLegs line cost reduces legs
    → total (put as_one account commodity) legs
    ≡ cond (same_text account line.account && (is_some cost && same_text commodity line.amount.commodity)) line.amount.units (pos 0)
legs_put_units account commodity line None reduces legs h =
    ap (total (put as_one account commodity)) h.1 ∙ plain_posts_nothing (same_text account line.account) line.amount.units
legs_put_units account commodity line (Some cost) reduces legs h =
    ap (total (put as_one account commodity)) h.2
    ∙ lots_put as_one account commodity line.entry line.place 0 line.account line.amount.commodity h.0
    ∙ ap (λ z. cond (same_text account line.account && same_text commodity line.amount.commodity) z (pos 0))
    (sum_as_one h.0 ∙ units_of_legs (braced line cost) reduces h.0 h.1)

none_posts_nothing : (b : Bool) → cond b (pos 0) (pos 0) ≡ pos 0
none_posts_nothing true = refl
none_posts_nothing false = refl

postings_put : (account commodity : List ℕ) (ties : TieRule) (facts : Facts) (t : TransactionOf) (booked : List Booked)
    → BooksAllUnder ties facts t.day [] 1 t.postings (All booked)
    → total (put as_one account commodity) (legs_in booked) ≡ total (units_at_cost account commodity) t.postings
postings_put account commodity ties facts t booked books =
    over_booked ties facts t.day (λ before postings booked. total (put as_one account commodity) (legs_in booked) ≡ total (units_at_cost account commodity) postings)
    (λ before. refl)
    (λ before other postings booked rest.
    rest ∙ sym (+ℤ_idl (total (units_at_cost account commodity) postings))
    ∙ ap (λ z. z +ℤ total (units_at_cost account commodity) postings) (sym (none_posts_nothing (same_text account other && false))))
    (λ before place other amount postings first more is rest.
    total-append (put as_one account commodity) first.legs (legs_in more)
    ∙ ap (λ z. z +ℤ total (put as_one account commodity) (legs_in more))
    (legs_put_units account commodity (line_under ties facts t.day before place other amount) amount.cost first.reduces first.legs is.legs)
    ∙ ap (λ z. units_at_cost account commodity (posted other (Some amount)) +ℤ z) rest)
    1 t.postings [] booked books

-- ---- Units are bought or sold.

bought_or_sold : (units : ℤ) → units ≡ above_zero units +ℤ neg_ℤ (below_zero units)
bought_or_sold units = grind (arith, ints)

sums_apart : (a b c d : ℤ) → (a +ℤ neg_ℤ b) +ℤ (c +ℤ neg_ℤ d) ≡ (a +ℤ c) +ℤ neg_ℤ (b +ℤ d)
sums_apart a b c d = omega (arith, ints)

total_apart : {X : Type 0} (u a b : X → ℤ) → ((x : X) → u x ≡ a x +ℤ neg_ℤ (b x)) → (xs : List X) → total u xs ≡ total a xs +ℤ neg_ℤ (total b xs)
total_apart u a b each [] = refl
total_apart u a b each (x ∷ xs) =
    ap (λ z. z +ℤ total u xs) (each x) ∙ ap (λ z. (a x +ℤ neg_ℤ (b x)) +ℤ z) (total_apart u a b each xs)
    ∙ sums_apart (a x) (b x) (total a xs) (total b xs)

module _ (u a b : Posting → ℤ) (each : (posting : Posting) → u posting ≡ a posting +ℤ neg_ℤ (b posting)) where
  command_apart : (command : Command) → over_postings u command ≡ over_postings a command +ℤ neg_ℤ (over_postings b command)
  command_apart (Opening o) = refl
  command_apart (Closing c) = refl
  command_apart (Declaring d) = refl
  command_apart (Quoting q) = refl
  command_apart (Transaction t) = total_apart u a b each t.postings

  entries_apart : (entries : List Entry) → over_entries u entries ≡ over_entries a entries +ℤ neg_ℤ (over_entries b entries)
  entries_apart entries =
      total_apart (λ (entry : Entry). over_postings u entry.command) (λ (entry : Entry). over_postings a entry.command)
      (λ (entry : Entry). over_postings b entry.command) (λ entry. command_apart entry.command) entries

pub held_as_bought : (migration : Migration) (entries : List Entry) (account commodity : List ℕ) → IsBookIn migration entries
    → sum (inventory_of (legs_of entries) account) commodity ≡ bought entries account commodity +ℤ neg_ℤ (sold entries account commodity)
held_as_bought migration entries account commodity book =
    sym (sum_as_one (lots_of (inventory_of (legs_of entries) account) commodity))
    ∙ lots_worth as_one account commodity (legs_of entries)
    ∙ book_puts as_one account commodity (units_at_cost account commodity) (postings_put account commodity) migration [] entries book
    ∙ entries_apart (units_at_cost account commodity)
    (λ posting. above_zero (units_at_cost account commodity posting)) (λ posting. below_zero (units_at_cost account commodity posting))
    (λ posting. bought_or_sold (units_at_cost account commodity posting)) entries
