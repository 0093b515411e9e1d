-- Under NONE nothing is sold.
use Rattle.std.specs.Prelude.{◌≡◌, ◌<◌, ℕ, suc, Bool, true, false, cond, is_none, List, [], ◌∷◌, ◌++◌, filter, length, get_or, position, Option, None, Some, ℤ, pos, ◌+ℤ◌}
use Rattle.std.specs.List.{AllByRecursion}
use Rattle.std.proofs.Common.{refl, sym, ap, subst, ◌∙◌, arith, append_assoc}
use Rattle.std.proofs.Math.IntN.{+ℤ_idl}
use Rattle.std.proofs.lemmas.Bool.{and_parts, true≢false}
use Rattle.lot_base.specs.Text.{same_text}
use Rattle.lot_base.proofs.TextLemmas.{one_text, same_text-itself}
use Rattle.lot_cost.specs.declared.lot_key.LotKey.{LotKey}
use Rattle.lot_inv.specs.Inventory.{reduces}
use Rattle.lot_cost.specs.declared.cost.Cost.{Cost}
use Rattle.lot_cost.specs.declared.method.Method.TheVariants.{Unmatched}
use Rattle.lot_booking.specs.Method.{may_reduce}
use Rattle.lot_command.specs.declared.command.Command.{Command}
use Rattle.lot_command.specs.declared.command.Command.TheVariants.{Opening, Closing, Declaring, Quoting, Transaction}
use Rattle.lot_command.specs.declared.key.Key.{Key}
use Rattle.lot_command.specs.declared.transaction.Posting.{Posting}
use Rattle.lot_command.specs.declared.transaction.Transaction.{Transaction as TransactionOf}
use Rattle.lot_book.specs.declared.leg.Leg.{Leg}
use Rattle.lot_book.specs.declared.leg.Position.{Position}
use Rattle.lot_book.specs.declared.refusal.Refusal.{Refusal}
use Rattle.lot_book.specs.declared.refusal.Refusal.TheVariants.{UnknownAccount}
use Rattle.lot_book.specs.Balance.{elided_postings}
use Rattle.lot_book.specs.Book.{ContinuesIn, IsBookIn}
use Rattle.lot_book.specs.Booking.{All, Booked, BooksAllUnder, HasLegs, IsBooked, Line, TieRule, line_under, method_of}
use Rattle.lot_book.specs.Edition.{Edition, Migration, edition_on, ties_in}
use Rattle.lot_book.specs.Facts.{Entry, closing_of, facts_of, opening_of, standing_of}
use Rattle.lot_book.specs.Leg.{leg_at, legs_at_lots, same_position, sum_at}
use Rattle.lot_book.specs.Refusals.{back_dated, closed, currency_not_allowed, not_open_yet, place_of, too_many_postings, two_elided, unknown_account}
use Rattle.lot_book.specs.Step.{Accept, StepIn, first_conditions, first_of}
use Rattle.lot_book.proofs.CaseLemmas.{by_bool}
use Rattle.lot_book.proofs.OrderLemmas.{one_position}
use Rattle.lot_base.proofs.OptionLemmas.{not_mapped}
use Rattle.lot_book.proofs.SumLemmas.{sum_where_apart}
use Rattle.lot_laws.specs.Laws.{BooksCommand, BooksEntries, BooksEntry, lot_at, sold_of}
use Rattle.lot_laws.proofs.CollectLemmas.{over_collected}
use Rattle.lot_laws.proofs.LawBooks.{accepted, over_booked}
use Rattle.lot_laws.proofs.LawLeft.{sold-append, sum_if}
use Rattle.lot_laws.proofs.LawOneSign.{method_by, method_is, opening_then, stays_unmatched}
use Rattle.lot_laws.proofs.LawSales.{booked_sale}
use Rattle.lot_laws.proofs.RecordedDays.{none_passes, none_refused}

-- ---- The accounts of an accepted transaction are open.

all_fail : {X : Type 0} (p : X → Bool) (xs : List X) → ((k : ℕ) (x : X) → k < length xs → p (get_or xs k x) ≡ false)
    → AllByRecursion (λ x. p x ≡ false) xs
all_fail p [] each = tt
all_fail p (x ∷ xs) each = (each 0 x (omega arith), all_fail p xs (λ k y below. each (suc k) y (omega (arith, below))))

pub first_none : (condition : Option Refusal) (conditions : List (Option Refusal)) → first_of (condition ∷ conditions) ≡ None → condition ≡ None
first_none None conditions e = refl
first_none (Some refusal) conditions e = cc

pub others_none : (condition : Option Refusal) (conditions : List (Option Refusal)) → first_of (condition ∷ conditions) ≡ None
    → first_of conditions ≡ None
others_none None conditions e = e
others_none (Some refusal) conditions e = absurd cc

abbrev IsKnown : List Entry → Posting → Type 0
IsKnown book posting = is_none (standing_of book posting.account) ≡ false

known : (edition : Edition) (book : List Entry) (key : Key) (t : TransactionOf) (legs : List Leg) → StepIn edition book key (Transaction t) (Accept legs)
    → AllByRecursion (IsKnown book) t.postings
known edition book key t legs step =
    let facts = facts_of book key in
    let missing : Posting → Bool = λ p. is_none (facts.standing p.account) in
    let none : first_of (first_conditions facts t) ≡ None =
    none_refused (ties_in edition book) facts t legs (first_of (first_conditions facts t)) (accepted edition book key (Transaction t) legs step).1 in
    let others : List (Option Refusal) =
    not_open_yet facts t.day t.postings ∷ closed facts t.day t.postings ∷ currency_not_allowed facts t.postings
    ∷ too_many_postings t.postings ∷ two_elided (elided_postings 1 t.postings) ∷ back_dated facts t.day t.postings ∷ [] in
    let first : unknown_account facts t.postings ≡ None = first_none (unknown_account facts t.postings) others none in
    let place : position missing t.postings ≡ None =
    not_mapped suc (position missing t.postings) (not_mapped (λ (place : ℕ). UnknownAccount (Some place)) (place_of missing t.postings) first) in
    all_fail missing t.postings (λ k p below. none_passes missing t.postings k p place below)

-- ---- The method of an open account doesn't change.

never_reduces : (book more : List Entry) (account : List ℕ) → is_none (standing_of book account) ≡ false
    → method_by (opening_of (book ++ more) account) ≡ Unmatched → may_reduce (method_of (standing_of book account)) ≡ false
never_reduces book more account opened none =
    stays_unmatched (closing_of book account) (opening_of book account) (opening_of more account) opened
    (ap method_by (sym (opening_then book more account)) ∙ none)

-- ---- A posting.

takes_by_method : (line : Line) (cost : Option Cost) (legs : List Leg) → HasLegs line cost true legs → may_reduce line.method ≡ true
takes_by_method line None legs h = absurd (true≢false h.0)
takes_by_method line (Some cost) legs h =
    (and_parts (may_reduce line.method) (reduces line.held line.amount.commodity line.amount.units) h.1.0.2).0

module _ (account commodity : List ℕ) (lot : LotKey) where
  abbrev there : Position
  there = lot_at account commodity lot

  elsewhere : (other name : List ℕ) (key : LotKey) → same_text account other ≡ false → same_position there (lot_at other name key) ≡ false
  elsewhere other name key apart = by_bool (same_position there (lot_at other name key))
      (λ e.
      let is : account ≡ other = ap (λ (p : Position). p.account) (one_position there (lot_at other name key) e) in
      absurd (true≢false (sym (ap (same_text account) (sym is) ∙ same_text-itself account) ∙ apart)))
      (λ e. e)

  legs_apart : (entry posting place : ℕ) (other name : List ℕ) (lots : List (LotKey × ℤ)) → same_text account other ≡ false
      → sum_at (legs_at_lots entry posting other name place lots) there ≡ pos 0
  legs_apart entry posting place other name [] apart = refl
  legs_apart entry posting place other name (first ∷ lots) apart =
      sum_where_apart (λ (leg : Leg). same_position there leg.position) (λ (leg : Leg). leg.units)
      (leg_at entry posting place other name (Some first.0) first.1) (legs_at_lots entry posting other name (suc place) lots)
      (elsewhere other name first.0 apart)
      ∙ legs_apart entry posting (suc place) other name lots apart

  posting_sells_none : (line : Line) (booked : Booked) → IsBooked line booked → (account ≡ line.account → may_reduce line.method ≡ false)
      → cond booked.reduces (sum_at booked.legs there) (pos 0) ≡ pos 0
  posting_sells_none line booked is none = by_bool booked.reduces
      (λ e. rw e (by_bool (same_text account line.account)
      (λ own. absurd (true≢false
      (sym (takes_by_method line line.amount.cost booked.legs (subst (λ b. HasLegs line line.amount.cost b booked.legs) e is.legs))
      ∙ none (one_text account line.account own))))
      (λ apart.
      let sale = booked_sale line booked is e in
      ap (λ legs. sum_at legs there) sale.2
      ∙ legs_apart line.entry line.place 0 line.account line.amount.commodity sale.0 apart)))
      (λ e. rw e refl)

  -- ---- A transaction.

  postings_sell_none : (ties : TieRule) (book : List Entry) (key : Key) (day : ℤ) (postings : List Posting) (booked : List Booked)
      → BooksAllUnder ties (facts_of book key) day [] 1 postings (All booked) → AllByRecursion (IsKnown book) postings
      → (is_none (standing_of book account) ≡ false → may_reduce (method_of (standing_of book account)) ≡ false)
      → sold_of booked there ≡ pos 0
  postings_sell_none ties book key day postings booked books opened never =
      over_booked ties (facts_of book key) day (λ before postings booked. AllByRecursion (IsKnown book) postings → sold_of booked there ≡ pos 0)
      (λ before all. refl)
      (λ before other postings booked rest all. rest all.1)
      (λ before place other amount postings first more is rest all.
      sum_if first.reduces first (filter (λ (b : Booked). b.reduces) more) there
      ∙ ap (λ z. z +ℤ sold_of more there)
      (posting_sells_none (line_under ties (facts_of book key) day before place other amount) first is
      (λ own. subst (λ (a : List ℕ). is_none (standing_of book a) ≡ false → may_reduce (method_of (standing_of book a)) ≡ false) own never all.0))
      ∙ +ℤ_idl (sold_of more there) ∙ rest all.1)
      1 postings [] booked books opened

  none_of : (booked : List Booked) → booked ≡ [] → sold_of booked there ≡ pos 0
  none_of booked e = ap (λ (bs : List Booked). sold_of bs there) e

  command_sells_none : (edition : Edition) (book : List Entry) (key : Key) (command : Command) (legs : List Leg) (booked : List Booked)
      → StepIn edition book key command (Accept legs) → BooksCommand (ties_in edition book) (facts_of book key) command legs booked
      → (is_none (standing_of book account) ≡ false → may_reduce (method_of (standing_of book account)) ≡ false)
      → sold_of booked there ≡ pos 0
  command_sells_none edition book key (Opening o) legs booked step h never = none_of booked h.1
  command_sells_none edition book key (Closing c) legs booked step h never = none_of booked h.1
  command_sells_none edition book key (Declaring d) legs booked step h never = none_of booked h.1
  command_sells_none edition book key (Quoting q) legs booked step h never = none_of booked h.1
  command_sells_none edition book key (Transaction t) legs booked step h never =
      postings_sell_none (ties_in edition book) book key t.day t.postings booked h.1 (known edition book key t legs step) never

  -- ---- A book.

  entries_sell_none : (migration : Migration) (before entries : List Entry) (booked : List Booked)
      → BooksEntries migration before entries booked → ContinuesIn migration before entries
      → method_by (opening_of (before ++ entries) account) ≡ Unmatched → sold_of booked there ≡ pos 0
  entries_sell_none migration = over_collected (BooksEntry migration)
      (λ before entries booked. ContinuesIn migration before entries → method_by (opening_of (before ++ entries) account) ≡ Unmatched
      → sold_of booked there ≡ pos 0)
      (λ before continues none. refl)
      (λ before entry entries first more is rest continues none.
      sold-append first more there
      ∙ ap (λ z. z +ℤ sold_of more there)
      (command_sells_none (edition_on migration before) before entry.key entry.command entry.legs first continues.0 is
      (λ opened. never_reduces before (entry ∷ entries) account opened none))
      ∙ +ℤ_idl (sold_of more there)
      ∙ rest continues.1 (ap (λ (es : List Entry). method_by (opening_of es account)) (append_assoc before (entry ∷ []) entries) ∙ none))

pub none_sells : (migration : Migration) (entries : List Entry) (booked : List Booked) (account commodity : List ℕ) (lot : LotKey)
    → IsBookIn migration entries → BooksEntries migration [] entries booked → method_of (standing_of entries account) ≡ Unmatched → sold_of booked (lot_at account commodity lot) ≡ pos 0
none_sells migration entries booked account commodity lot book h none =
    entries_sell_none account commodity lot migration [] entries booked h book
    (sym (method_is (closing_of entries account) (opening_of entries account)) ∙ none)
