-- The cost of lots is the weight of the postings with braces.
use Rattle.std.specs.Prelude.{◌≡◌, ℕ, suc, ◌&&◌, Bool, true, false, cond, List, [], ◌∷◌, ◌++◌, map, filter, Option, None, Some, is_some, ℤ, pos, ◌+ℤ◌, ◌*ℤ◌}
use Rattle.std.proofs.Common.{refl, sym, ap, ◌∙◌}
use Rattle.std.proofs.Math.IntN.{*ℤ-zero, +ℤ_idl}
use Rattle.std.proofs.lemmas.Grind.{flat_map-append}
use Rattle.std.proofs.lemmas.List.Elements.{filter-append}
use Rattle.lot_base.specs.Text.{same_text}
use Rattle.lot_cost.specs.declared.lot_key.LotKey.{LotKey}
use Rattle.lot_inv.specs.Inventory.{lots_of}
use Rattle.lot_inv.proofs.LotLemmas.{sum_at}
use Rattle.lot_cost.specs.declared.cost.Cost.{Cost}
use Rattle.lot_command.specs.declared.command.Command.{Command}
use Rattle.lot_command.specs.declared.command.Command.TheVariants.{Opening, Closing, Declaring, Quoting, Transaction}
use Rattle.lot_command.specs.declared.transaction.Amount.{Amount}
use Rattle.lot_command.specs.declared.transaction.Posting.{Posting}
use Rattle.lot_book.specs.declared.leg.Leg.{Leg}
use Rattle.lot_book.specs.Balance.{weight_of, weights_by, weights_in, weights_of}
use Rattle.lot_book.specs.Book.{ContinuesIn, IsBookIn}
use Rattle.lot_book.specs.Booking.{All, Booked, BooksAllUnder, HasLegs, IsBooked, Line, TieRule, legs_in, line_under}
use Rattle.lot_book.specs.Currencies.{sum_in}
use Rattle.lot_book.specs.Edition.{Migration, edition_on, ties_in}
use Rattle.lot_book.specs.Facts.{Entry, Facts, facts_of, is_at_cost, legs_of}
use Rattle.lot_laws.specs.Laws.{BooksCommand, BooksEntries, BooksEntry, cost_in, cost_of, is_booked_at_cost, weights_at_cost}
use Rattle.lot_book.specs.Leg.{inventory_of, legs_at_lots}
use Rattle.lot_laws.proofs.CollectLemmas.{over_collected}
use Rattle.lot_laws.proofs.LawBalance.{command_booked}
use Rattle.lot_laws.proofs.LawBooks.{over_booked}
use Rattle.lot_laws.proofs.LawLots.{all_put, lots_put, lots_worth, put, total, total-append}
use Rattle.lot_book.proofs.SumLemmas.{sum_in-append, sum_in-cons}

-- ---- Lots.

-- the number of a key in a currency
abbrev number_in : List ℕ → LotKey → ℤ
number_in currency key = cond (same_text currency key.currency) (pos key.number) (pos 0)

-- a weight is in the currency, or counts nothing
counted : (b : Bool) (units n s : ℤ) → cond b (units *ℤ n +ℤ s) s ≡ units *ℤ cond b n (pos 0) +ℤ s
counted true units n s = refl
counted false units n s = sym (ap (λ z. z +ℤ s) (*ℤ-zero units) ∙ +ℤ_idl s)

cost_as_sum : (currency : List ℕ) (lots : List (LotKey × ℤ)) → cost_in lots currency ≡ sum_at (number_in currency) lots
cost_as_sum currency [] = refl
cost_as_sum currency (lot ∷ lots) =
    sum_in-cons (cost_of lot) (map cost_of lots) currency
    ∙ counted (same_text currency lot.0.currency) lot.1 (pos lot.0.number) (cost_in lots currency)
    ∙ ap (λ z. lot.1 *ℤ number_in currency lot.0 +ℤ z) (cost_as_sum currency lots)

-- legs at lots weigh what the lots cost
lots_weigh : (entry posting place : ℕ) (other name : List ℕ) (lots : List (LotKey × ℤ))
    → map weight_of (legs_at_lots entry posting other name place lots) ≡ map cost_of lots
lots_weigh entry posting place other name [] = refl
lots_weigh entry posting place other name (lot ∷ lots) = ap (λ ws. cost_of lot ∷ ws) (lots_weigh entry posting (suc place) other name lots)

-- ---- Postings.

sum_if : (b : Bool) (ws : List (List ℕ × ℤ)) (currency : List ℕ) → sum_in (cond b ws []) currency ≡ cond b (sum_in ws currency) (pos 0)
sum_if true ws currency = refl
sum_if false ws currency = refl

none_if : (b : Bool) (ws : List (List ℕ × ℤ)) (currency : List ℕ) → sum_in (cond (b && false) ws []) currency ≡ pos 0
none_if true ws currency = refl
none_if false ws currency = refl

module _ (account commodity currency : List ℕ) where
  abbrev puts : List Leg → ℤ
  puts legs = total (put (number_in currency) account commodity) legs

  legs_weigh : (line : Line) (cost : Option Cost) (reduces : Bool) (legs : List Leg) → HasLegs line cost reduces legs
      → sum_in (cond (same_text account line.account && (is_some cost && same_text commodity line.amount.commodity))
      (weights_by cost line.amount legs) []) currency ≡ puts legs
  legs_weigh line None reduces legs h =
      none_if (same_text account line.account) (weights_by None line.amount legs) currency ∙ sym (ap puts h.1)
  legs_weigh line (Some cost) reduces legs h =
      let there = same_text account line.account && same_text commodity line.amount.commodity in
      sum_if there (map weight_of legs) currency
      ∙ ap (λ (ls : List Leg). cond there (sum_in (map weight_of ls) currency) (pos 0)) h.2
      ∙ ap (λ ws. cond there (sum_in ws currency) (pos 0)) (lots_weigh line.entry line.place 0 line.account line.amount.commodity h.0)
      ∙ ap (λ z. cond there z (pos 0)) (cost_as_sum currency h.0)
      ∙ sym (ap puts h.2 ∙ lots_put (number_in currency) account commodity line.entry line.place 0 line.account line.amount.commodity h.0)

  -- a booked posting
  one_weighs : (line : Line) (booked : Booked) → IsBooked line booked
      → sum_in (cond (is_booked_at_cost account commodity booked) (weights_of booked) []) currency ≡ puts booked.legs
  one_weighs line booked is =
      ap (λ (a : List ℕ). sum_in (cond (same_text account a && is_at_cost commodity (Some booked.amount)) (weights_of booked) []) currency) is.account
      ∙ ap (λ (m : Amount). sum_in (cond (same_text account line.account && is_at_cost commodity (Some m)) (weights_by m.cost m booked.legs) []) currency) is.amount
      ∙ legs_weigh line line.amount.cost booked.reduces booked.legs is.legs

  first_apart : (b : Bool) (first : Booked) (more : List Booked)
      → sum_in (weights_in (cond b (first ∷ more) more)) currency ≡ sum_in (cond b (weights_of first) []) currency +ℤ sum_in (weights_in more) currency
  first_apart true first more = sum_in-append (weights_of first) (weights_in more) currency
  first_apart false first more = sym (+ℤ_idl (sum_in (weights_in more) currency))

  postings_weigh : (ties : TieRule) (facts : Facts) (day : ℤ) (postings : List Posting) (booked : List Booked) → BooksAllUnder ties facts day [] 1 postings (All booked)
      → sum_in (weights_at_cost account commodity booked) currency ≡ puts (legs_in booked)
  postings_weigh ties facts day postings booked books =
      over_booked ties facts day (λ before postings booked. sum_in (weights_at_cost account commodity booked) currency ≡ puts (legs_in booked))
      (λ before. refl) (λ before other postings booked rest. rest)
      (λ before place other amount postings first more is rest.
      first_apart (is_booked_at_cost account commodity first) first (filter (is_booked_at_cost account commodity) more)
      ∙ ap (λ z. z +ℤ sum_in (weights_at_cost account commodity more) currency) (one_weighs (line_under ties facts day before place other amount) first is)
      ∙ ap (λ z. puts first.legs +ℤ z) rest
      ∙ sym (total-append (put (number_in currency) account commodity) first.legs (legs_in more)))
      1 postings [] booked books

  -- ---- Books.

  nothing_weighs : (legs : List Leg) (booked : List Booked) → (legs ≡ []) × (booked ≡ [])
      → sum_in (weights_at_cost account commodity booked) currency ≡ puts legs
  nothing_weighs legs booked h = ap (λ (bs : List Booked). sum_in (weights_at_cost account commodity bs) currency) h.1 ∙ sym (ap puts h.0)

  command_weighs : (ties : TieRule) (facts : Facts) (command : Command) (legs : List Leg) (booked : List Booked)
      → BooksCommand ties facts command legs booked
      → sum_in (weights_at_cost account commodity booked) currency ≡ puts legs
  command_weighs ties facts (Opening o) legs booked h = nothing_weighs legs booked h
  command_weighs ties facts (Closing c) legs booked h = nothing_weighs legs booked h
  command_weighs ties facts (Declaring d) legs booked h = nothing_weighs legs booked h
  command_weighs ties facts (Quoting q) legs booked h = nothing_weighs legs booked h
  command_weighs ties facts (Transaction t) legs booked h =
      postings_weigh ties facts t.day t.postings booked h.1 ∙ sym (ap puts h.0 ∙ all_put (number_in currency) account commodity facts t booked)

  entries_weigh : (migration : Migration) (before entries : List Entry) (booked : List Booked) → BooksEntries migration before entries booked
      → sum_in (weights_at_cost account commodity booked) currency ≡ puts (legs_of entries)
  entries_weigh migration = over_collected (BooksEntry migration)
      (λ before entries booked. sum_in (weights_at_cost account commodity booked) currency ≡ puts (legs_of entries)) (λ before. refl)
      (λ before entry entries first more is rest.
      let there = is_booked_at_cost account commodity in
      ap (λ bs. sum_in (weights_in bs) currency) (filter-append there first more)
      ∙ ap (λ ws. sum_in ws currency) (flat_map-append weights_of (filter there first) (filter there more))
      ∙ sum_in-append (weights_at_cost account commodity first) (weights_at_cost account commodity more) currency
      ∙ ap (λ z. z +ℤ sum_in (weights_at_cost account commodity more) currency)
      (command_weighs (ties_in (edition_on migration before) before) (facts_of before entry.key) entry.command entry.legs first is)
      ∙ ap (λ z. puts entry.legs +ℤ z) rest
      ∙ sym (total-append (put (number_in currency) account commodity) entry.legs (legs_of entries)))

pub lots_cost : (migration : Migration) (entries : List Entry) (booked : List Booked) (account commodity currency : List ℕ)
    → BooksEntries migration [] entries booked
    → cost_in (lots_of (inventory_of (legs_of entries) account) commodity) currency ≡ sum_in (weights_at_cost account commodity booked) currency
lots_cost migration entries booked account commodity currency h =
    cost_as_sum currency (lots_of (inventory_of (legs_of entries) account) commodity)
    ∙ lots_worth (number_in currency) account commodity (legs_of entries)
    ∙ sym (entries_weigh account commodity currency migration [] entries booked h)

-- ---- Each book has its booked postings.

entries_booked : (migration : Migration) (before entries : List Entry) → ContinuesIn migration before entries
    → (booked : List Booked) × BooksEntries migration before entries booked
entries_booked migration before [] h = ([], refl)
entries_booked migration before (entry ∷ entries) h =
    let first = command_booked (edition_on migration before) before entry.key entry.command entry.legs h.0 in
    let more = entries_booked migration (before ++ entry ∷ []) entries h.1 in
    (first.0 ++ more.0, (first.0, more.0, first.1, more.1, refl))

pub book_booked : (migration : Migration) (entries : List Entry) → IsBookIn migration entries
    → (booked : List Booked) × BooksEntries migration [] entries booked
book_booked migration entries book = entries_booked migration [] entries book
