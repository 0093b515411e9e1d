-- The conditions of the refusals (docs/RULES.md, Order of refusals).
use Rattle.std.specs.Prelude.{◌≡◌, ℕ, suc, Bool, false, not, nat_lt, nat_le, if◌then◌else◌, List, [], ◌∷◌, length, find, Option, None, Some, ℤ, int_lt, position, ⊤}
use Rattle.std.specs.Option.{option_map, is_none, is_some}
use Rattle.lot_inv.specs.Inventory.{Held, lots_of}
use Rattle.lot_command.specs.Currencies.{allows}
use Rattle.lot_command.specs.declared.transaction.Amount.{Amount}
use Rattle.lot_command.specs.declared.transaction.Posting.{Posting}
use Rattle.lot_book.specs.declared.leg.Leg.{Leg}
use Rattle.lot_book.specs.declared.refusal.Refusal.{Refusal}
use Rattle.lot_book.specs.declared.refusal.Refusal.TheVariants.{AlreadyOpen, UnknownAccount, NotOpenYet, Closed, AlreadyDeclared, CurrencyNotAllowed, TooManyPostings, TwoElided, BackDated, Range, InexactFill, FillNotAllowed, NotBalanced, TooManyLots, BookFull}
use Rattle.lot_book.specs.declared.refusal.Stop.{Stop}
use Rattle.lot_book.specs.declared.refusal.Stop.TheVariants.{Refused, Memory}
use Rattle.lot_book.specs.declared.standing.Standing.{Standing}
use Rattle.lot_book.specs.Facts.{Facts}
use Rattle.lot_book.specs.Leg.{leave_range, with_legs}
use Rattle.lot_book.specs.Balance.{fits_units, is_zero, left_over}

-- ---- limits

-- a transaction has at most so many postings
abbrev pub most_postings : ℕ
most_postings = 64

-- an account holds at most so many lots of one commodity
abbrev pub most_lots : ℕ
most_lots = 10000

-- a book has at most so many entries
abbrev pub most_entries : ℕ
most_entries = 2000000000

-- ---- how an account stands to a day and a commodity

-- it is opened, but after the day
abbrev pub opens_after : ℤ → Option Standing → Bool
opens_after day None = false
opens_after day (Some standing) = int_lt day standing.opened

-- the day is after that of its closing
abbrev pub is_past : ℤ → Option ℤ → Bool
is_past day None = false
is_past day (Some closed) = int_lt closed day

abbrev pub closed_before : ℤ → Option Standing → Bool
closed_before day None = false
closed_before day (Some standing) = is_past day standing.closed

abbrev pub was_closed : Option Standing → Bool
was_closed None = false
was_closed (Some standing) = is_some standing.closed

-- it is opened with currencies, and the commodity isn't among them
abbrev pub bars : Option Standing → List ℕ → Bool
bars None commodity = false
bars (Some standing) commodity = not (allows standing.allowed commodity)

-- ---- of openings, closings and declarings

abbrev pub holds_as : Bool → Refusal → Option Refusal
holds_as holds refusal = if holds then Some refusal else None

abbrev pub already_open : Facts → List ℕ → Option Refusal
already_open facts account = holds_as (is_some (facts.standing account)) AlreadyOpen

abbrev pub closing_unknown : Facts → List ℕ → Option Refusal
closing_unknown facts account = holds_as (is_none (facts.standing account)) (UnknownAccount None)

abbrev pub closing_too_early : Facts → List ℕ → ℤ → Option Refusal
closing_too_early facts account day = holds_as (opens_after day (facts.standing account)) (NotOpenYet None)

abbrev pub closing_again : Facts → List ℕ → Option Refusal
closing_again facts account = holds_as (was_closed (facts.standing account)) (Closed None)

abbrev pub already_declared : Facts → List ℕ → Option Refusal
already_declared facts commodity = holds_as (facts.is_declared commodity) AlreadyDeclared

-- ---- of transactions, before they are booked

-- the place, from 1, of the first item that passes
abbrev pub place_of : {X : Type 0} → (X → Bool) → List X → Option ℕ
place_of passes items = option_map suc (position passes items)

-- an account that no opening names, at the first posting with one
abbrev pub unknown_account : Facts → List Posting → Option Refusal
unknown_account facts postings =
    option_map (λ place. UnknownAccount (Some place)) (place_of (λ (p : Posting). is_none (facts.standing p.account)) postings)

-- an account that is opened after the day
abbrev pub not_open_yet : Facts → ℤ → List Posting → Option Refusal
not_open_yet facts day postings =
    option_map (λ place. NotOpenYet (Some place)) (place_of (λ (p : Posting). opens_after day (facts.standing p.account)) postings)

-- an account that is closed before the day
abbrev pub closed : Facts → ℤ → List Posting → Option Refusal
closed facts day postings =
    option_map (λ place. Closed (Some place)) (place_of (λ (p : Posting). closed_before day (facts.standing p.account)) postings)

-- whether the commodity of an amount is barred from an account
abbrev pub bars_amount : Option Standing → Option Amount → Bool
bars_amount standing None = false
bars_amount standing (Some amount) = bars standing amount.commodity

-- an account that was opened with other currencies
abbrev pub currency_not_allowed : Facts → List Posting → Option Refusal
currency_not_allowed facts postings =
    option_map CurrencyNotAllowed (place_of (λ (p : Posting). bars_amount (facts.standing p.account) p.amount) postings)

abbrev pub too_many_postings : List Posting → Option Refusal
too_many_postings postings = holds_as (nat_lt most_postings (length postings)) TooManyPostings

abbrev pub two_elided : List (ℕ × List ℕ) → Option Refusal
two_elided elided = holds_as (nat_le 2 (length elided)) TwoElided

-- whether the day is before another, if there is one
abbrev pub is_before : ℤ → Option ℤ → Bool
is_before day None = false
is_before day (Some other) = int_lt day other

-- whether an amount has braces, and the day is before the latest such day of its account and commodity
abbrev pub dates_back : Facts → ℤ → List ℕ → Option Amount → Bool
dates_back facts day account None = false
dates_back facts day account (Some amount) =
    if is_some amount.cost then is_before day (facts.latest_at_cost account amount.commodity) else false

abbrev pub back_dated : Facts → ℤ → List Posting → Option Refusal
back_dated facts day postings =
    option_map BackDated (place_of (λ (p : Posting). dates_back facts day p.account p.amount) postings)

-- ---- of transactions, on the legs of the postings with amounts

-- the first currency whose residual fails the test
abbrev pub first_currency : (List ℕ × ℤ → Bool) → List (List ℕ × ℤ) → Option (List ℕ)
first_currency fails rs = option_map (λ (r : List ℕ × ℤ). r.0) (find fails rs)

-- there is an elided posting, and a residual that isn't that of units
abbrev pub inexact_fill : List (ℕ × List ℕ) → List (List ℕ × ℤ) → Option Refusal
inexact_fill [] rs = None
inexact_fill (elided ∷ more) rs = option_map InexactFill (first_currency (λ (r : List ℕ × ℤ). not (fits_units r.1)) rs)

-- the account of the elided posting was opened with other currencies than that of a leg of the fill
abbrev pub fill_not_allowed : Facts → List (ℕ × List ℕ) → List (List ℕ × ℤ) → Option Refusal
fill_not_allowed facts [] rs = None
fill_not_allowed facts (elided ∷ more) rs =
    option_map FillNotAllowed (first_currency (λ (r : List ℕ × ℤ). bars (facts.standing elided.1) r.0) (left_over rs))

-- a leg of the fill leaves a sum out of range, on the legs so far
abbrev pub fill_out_of_range : Facts → List (ℕ × List ℕ) → List Leg → List Leg → Option Refusal
fill_out_of_range facts [] before legs = None
fill_out_of_range facts (elided ∷ more) before legs =
    holds_as (leave_range (with_legs elided.1 (facts.held elided.1) before) legs) (Range elided.0)

-- there is no elided posting, and a residual that isn't zero
abbrev pub not_balanced : List (ℕ × List ℕ) → List (List ℕ × ℤ) → Option Refusal
not_balanced [] rs = option_map NotBalanced (first_currency (λ (r : List ℕ × ℤ). not (is_zero r.1)) rs)
not_balanced (elided ∷ more) rs = None

-- whether an amount has braces, and its account then holds too many lots of its commodity
abbrev pub holds_too_many : Held → Option Amount → Bool
holds_too_many held None = false
holds_too_many held (Some amount) = if is_some amount.cost then nat_lt most_lots (length (lots_of held amount.commodity)) else false

-- after all legs an account holds too many lots of a commodity that is posted to it with braces
abbrev pub too_many_lots : Facts → List Leg → List Posting → Option Refusal
too_many_lots facts legs postings =
    option_map TooManyLots (place_of (λ (p : Posting). holds_too_many (with_legs p.account (facts.held p.account) legs) p.amount) postings)

-- ---- of every command

abbrev pub book_full : Facts → Option Refusal
book_full facts = holds_as (nat_le most_entries facts.entries) BookFull

-- ---- where a part of the judgement stops

-- at the refusal that it found, or out of memory
abbrev pub Stops : Option Refusal → Stop → Type 0
Stops found (Refused refusal) = found ≡ Some refusal
Stops found Memory = ⊤
