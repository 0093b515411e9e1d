-- In an account whose method isn't NONE the lots of a commodity have one sign.
use Rattle.std.specs.Prelude.{◌≡◌, ◌≢◌, ℕ, suc, ◌&&◌, Bool, true, false, cond, is_none, List, [], ◌∷◌, ◌++◌, Option, None, Some, ℤ, pos}
use Rattle.std.specs.FinMap.{empty, get-empty}
use Rattle.std.specs.List.{All as AllOf, Contains}
use Rattle.std.specs.Option.{option_map, option_or, unwrap_or}
use Rattle.std.proofs.Common.{refl, sym, ap, subst, ◌∙◌, append_assoc}
use Rattle.std.proofs.lemmas.Grind.{flat_map-append}
use Rattle.std.proofs.lemmas.List.{append-nil}
use Rattle.std.proofs.lemmas.List.Elements.{All-contains, All-filter, All-from_recursion}
use Rattle.std.proofs.lemmas.Map.Views.{Contains-from_lookup}
use Rattle.lot_base.specs.Text.{same_text}
use Rattle.lot_base.proofs.TextLemmas.{one_text, same_text-itself}
use Rattle.lot_cost.specs.CostSpec.{fits}
use Rattle.lot_cost.specs.declared.lot_key.LotKey.{LotKey}
use Rattle.lot_inv.specs.Inventory.{Held, added, lots_of, matching, other_sign, position_cmp, reduces, units_at}
use Rattle.lot_cost.specs.LotKey.{lot_cmp}
use Rattle.lot_cost.proofs.OrderLemmas.{is_equal}
use Rattle.lot_inv.proofs.LawLemmas.{sorted_matching}
use Rattle.lot_cost.proofs.OrderLemmas.{exact_lots}
use Rattle.lot_cost.specs.declared.cost.Cost.{Cost}
use Rattle.lot_cost.specs.declared.method.Method.{Method}
use Rattle.lot_cost.specs.declared.method.Method.TheVariants.{Strict, Fifo, Lifo, Hifo, Unmatched}
use Rattle.lot_booking.specs.Booking.{Braced, ComesTo, Legs, TakesFrom, candidates, spec_of}
use Rattle.lot_booking.specs.Method.{may_reduce}
use Rattle.lot_booking.proofs.BookingLaws.{taken_distinct, taken_from}
use Rattle.lot_cost.proofs.ListLemmas.{all_weaker}
use Rattle.lot_booking.proofs.ListLemmas.{each_member}
use Rattle.lot_booking.proofs.SameTies.{held_lot}
use Rattle.lot_command.specs.declared.command.Command.{Command}
use Rattle.lot_command.specs.declared.command.Command.TheVariants.{Opening, Closing, Declaring, Quoting, Transaction}
use Rattle.lot_command.specs.declared.command.Opening.{Opening as OpeningOf}
use Rattle.lot_command.specs.declared.transaction.Transaction.{Transaction as TransactionOf}
use Rattle.lot_book.specs.declared.leg.Leg.{Leg}
use Rattle.lot_book.specs.Balance.{elided_postings, fill_from, fill_of, left_over, residuals, weights_in}
use Rattle.lot_book.specs.Book.{ContinuesIn, IsBookIn}
use Rattle.lot_book.specs.Booking.{All, Booked, BooksAllUnder, HasLegs, Line, TieRule, braced, legs_in, line_under, method_of}
use Rattle.lot_book.specs.Edition.{Migration, edition_on, ties_in}
use Rattle.lot_book.specs.Facts.{Entry, Facts, closing_of, facts_of, legs_of, opening_by, opening_of, standing_by, standing_of}
use Rattle.lot_laws.specs.Laws.{BooksCommand, HaveOneSign}
use Rattle.lot_book.specs.Leg.{inventory_of, leg_at, legs_at_lots, with_leg, with_legs}
use Rattle.lot_book.specs.Step.{fill_legs}
use Rattle.lot_laws.proofs.LawBalance.{command_booked}
use Rattle.lot_laws.proofs.LawBooks.{over_booked}
use Rattle.lot_laws.proofs.LawSigns.{IsSigned, TakesHeld, adding, one_sign, signed_less, signed_more, signed_plain}
use Rattle.lot_book.proofs.LegLemmas.{with_legs-append}
use Rattle.lot_book.proofs.CaseLemmas.{by_bool}

-- ---- The legs of a posting.

-- a leg that is taken is taken from what is held
pub takes_held : (posting : Braced) (leg : LotKey × ℤ) → TakesFrom (candidates posting) leg → TakesHeld posting.held posting.commodity leg
takes_held posting leg takes =
    let held = posting.held in
    let name = posting.commodity in
    let IsHeld : LotKey × ℤ → Type 0 = λ lot. units_at held (name, Some lot.0) ≡ lot.1 in
    let member : Contains (candidates posting) (leg.0, takes.held) =
    Contains-from_lookup (λ a b e. exact_lots a b (is_equal (lot_cmp a b) e)) leg.0 takes.held (candidates posting) takes.is_held in
    let all : AllOf IsHeld (candidates posting) =
    All-filter (λ (lot : LotKey × ℤ). other_sign lot.1 posting.units) IsHeld (matching held name (spec_of posting.units posting.cost))
    (All-filter (λ (lot : LotKey × ℤ). fits (spec_of posting.units posting.cost) lot.0) IsHeld (lots_of held name)
    (All-from_recursion IsHeld (lots_of held name) (each_member IsHeld (lots_of held name) (λ lot among. held_lot held name lot among)))) in
    let is : units_at held (name, Some leg.0) ≡ takes.held = All-contains IsHeld (candidates posting) (leg.0, takes.held) all member in
    record { sign = rw is takes.sign; bound = rw is takes.bound }

-- legs at lots of an account are added to what it holds
lots_here : (account : List ℕ) (held : Held) (entry posting place : ℕ) (name : List ℕ) (lots : List (LotKey × ℤ))
    → with_legs account held (legs_at_lots entry posting account name place lots) ≡ adding held name lots
lots_here account held entry posting place name [] = refl
lots_here account held entry posting place name (lot ∷ lots) =
    ap (λ b. with_legs account (cond b (added held (name, Some lot.0) lot.1) held) (legs_at_lots entry posting account name (suc place) lots)) (same_text-itself account)
    ∙ lots_here account (added held (name, Some lot.0) lot.1) entry posting (suc place) name lots

lots_apart : (account : List ℕ) (held : Held) (entry posting place : ℕ) (other name : List ℕ) (lots : List (LotKey × ℤ))
    → same_text account other ≡ false
    → with_legs account held (legs_at_lots entry posting other name place lots) ≡ held
lots_apart account held entry posting place other name [] e = refl
lots_apart account held entry posting place other name (lot ∷ lots) e =
    ap (λ b. with_legs account (cond b (added held (name, Some lot.0) lot.1) held) (legs_at_lots entry posting other name (suc place) lots)) e
    ∙ lots_apart account held entry posting (suc place) other name lots e

-- what the legs of a posting with braces add
lots_signed : (posting : Braced) (reduces : Bool) (lots : List (LotKey × ℤ)) → may_reduce posting.method ≡ true → ComesTo posting (Legs reduces lots)
    → IsSigned posting.held → IsSigned (adding posting.held posting.commodity lots)
lots_signed posting false lots may h signed =
    let none = sym (ap (λ b. b && reduces posting.held posting.commodity posting.units) may) ∙ h.0.2 in
    subst (λ (ls : List (LotKey × ℤ)). IsSigned (adding posting.held posting.commodity ls)) (sym h.1.leg)
    (signed_more posting.held posting.commodity _ posting.units h.0.0 none signed)
lots_signed posting true lots may h signed =
    signed_less posting.held posting.commodity lots (taken_distinct sorted_matching posting lots h.1)
    (all_weaker (TakesFrom (candidates posting)) (TakesHeld posting.held posting.commodity) (takes_held posting) lots
    (taken_from sorted_matching posting lots h.1)) signed

plain_signed : (account : List ℕ) (held : Held) (entry posting place : ℕ) (other name : List ℕ) (units : ℤ) → IsSigned held
    → IsSigned (with_leg account held (leg_at entry posting place other name None units))
plain_signed account held entry posting place other name units signed =
    elim (same_text account other) as (λ b. IsSigned (cond b (added held (name, None) units) held)) [
      | true ↦ signed_plain held name units signed
      | false ↦ signed
    ]

legs_signed : (account : List ℕ) (line : Line) (cost : Option Cost) (reduces : Bool) (legs : List Leg) (held : Held) → HasLegs line cost reduces legs
    → (account ≡ line.account → (line.held ≡ held) × (may_reduce line.method ≡ true)) → IsSigned held → IsSigned (with_legs account held legs)
legs_signed account line None reduces legs held h own signed =
    subst (λ (ls : List Leg). IsSigned (with_legs account held ls)) (sym h.1)
    (plain_signed account held line.entry line.place 0 line.account line.amount.commodity line.amount.units signed)
legs_signed account line (Some cost) reduces legs held h own signed =
    let name = line.amount.commodity in
    subst (λ (ls : List Leg). IsSigned (with_legs account held ls)) (sym h.2)
    (by_bool (same_text account line.account)
    (λ e.
    let is : account ≡ line.account = one_text account line.account e in
    let at = own is in
    subst (λ (a : List ℕ). IsSigned (with_legs a held (legs_at_lots line.entry line.place line.account name 0 h.0))) (sym is)
    (subst IsSigned (sym (ap (λ (x : Held). with_legs line.account x (legs_at_lots line.entry line.place line.account name 0 h.0)) (sym at.0)
    ∙ lots_here line.account line.held line.entry line.place 0 name h.0))
    (lots_signed (braced line cost) reduces h.0 at.1 h.1 (subst IsSigned (sym at.0) signed))))
    (λ e. subst IsSigned (sym (lots_apart account held line.entry line.place 0 line.account name h.0 e)) signed))

-- ---- The legs of a transaction.

postings_signed : (account : List ℕ) (ties : TieRule) (facts : Facts) (t : TransactionOf) (booked : List Booked)
    → may_reduce (method_of (facts.standing account)) ≡ true
    → BooksAllUnder ties facts t.day [] 1 t.postings (All booked) → IsSigned (facts.held account) → IsSigned (with_legs account (facts.held account) (legs_in booked))
postings_signed account ties facts t booked may books signed =
    over_booked ties facts t.day
    (λ before postings booked. IsSigned (with_legs account (facts.held account) before) → IsSigned (with_legs account (facts.held account) (before ++ legs_in booked)))
    (λ before first. subst (λ (ls : List Leg). IsSigned (with_legs account (facts.held account) ls)) (sym (append-nil before)) first)
    (λ before other postings booked rest. rest)
    (λ before place other amount postings first more is rest signed.
    subst (λ (ls : List Leg). IsSigned (with_legs account (facts.held account) ls)) (append_assoc before first.legs (legs_in more))
    (rest (subst IsSigned (sym (with_legs-append account (facts.held account) before first.legs))
    (legs_signed account (line_under ties facts t.day before place other amount) amount.cost first.reduces first.legs (with_legs account (facts.held account) before) is.legs
    (λ own. (ap (λ (a : List ℕ). with_legs a (facts.held a) before) (sym own), ap (λ (a : List ℕ). may_reduce (method_of (facts.standing a))) (sym own) ∙ may))
    signed))))
    1 t.postings [] booked books signed

fill_signed : (account : List ℕ) (held : Held) (entry posting : ℕ) (other : List ℕ) (place : ℕ) (rs : List (List ℕ × ℤ)) → IsSigned held
    → IsSigned (with_legs account held (fill_from entry posting other place rs))
fill_signed account held entry posting other place [] signed = signed
fill_signed account held entry posting other place (r ∷ rs) signed =
    let leg = leg_at entry posting place other r.0 None _ in
    fill_signed account (with_leg account held leg) entry posting other (suc place) rs (plain_signed account held entry posting place other r.0 _ signed)

filled_signed : (account : List ℕ) (held : Held) (entry : ℕ) (elided : List (ℕ × List ℕ)) (rs : List (List ℕ × ℤ)) → IsSigned held
    → IsSigned (with_legs account held (fill_of entry elided rs))
filled_signed account held entry [] rs signed = signed
filled_signed account held entry (first ∷ more) rs signed = fill_signed account held entry first.0 first.1 0 (left_over rs) signed

-- ---- The method of an account doesn't change.

pub method_by : Option OpeningOf → Method
method_by None = Strict
method_by (Some o) = o.method

pub method_is : (closed : Option ℤ) (opening : Option OpeningOf) → method_of (option_map (standing_by closed) opening) ≡ method_by opening
unfolding method_by
method_is closed None = refl
method_is closed (Some o) = refl

or_then : {X : Type 0} (a b c : Option X) → option_or a (option_or b c) ≡ option_or (option_or a b) c
or_then None b c = refl
or_then (Some x) b c = refl

pub opening_then : (before more : List Entry) (account : List ℕ)
    → opening_of (before ++ more) account ≡ option_or (opening_of before account) (opening_of more account)
opening_then [] more account = refl
opening_then (entry ∷ before) more account =
    ap (option_or (opening_by account entry.command)) (opening_then before more account)
    ∙ or_then (opening_by account entry.command) (opening_of before account) (opening_of more account)

may_match : (method : Method) → method ≢ Unmatched → may_reduce method ≡ true
may_match Strict other = refl
may_match Fifo other = refl
may_match Lifo other = refl
may_match Hifo other = refl
may_match Unmatched other = absurd (other refl)

may_before : (first then : Option OpeningOf) → method_by (option_or first then) ≢ Unmatched → may_reduce (method_by first) ≡ true
unfolding method_by
may_before None then other = refl
may_before (Some o) then other = may_match o.method other

-- what was opened under NONE takes no lots away
pub stays_unmatched : (closed : Option ℤ) (first then : Option OpeningOf) → is_none (option_map (standing_by closed) first) ≡ false
    → method_by (option_or first then) ≡ Unmatched → may_reduce (method_of (option_map (standing_by closed) first)) ≡ false
unfolding method_by
stays_unmatched closed None then known none = cc
stays_unmatched closed (Some o) then known none = ap may_reduce none

-- ---- Books.

still_signed : (account : List ℕ) (held : Held) (legs : List Leg) → legs ≡ [] → IsSigned held → IsSigned (with_legs account held legs)
still_signed account held legs none signed = subst (λ (ls : List Leg). IsSigned (with_legs account held ls)) (sym none) signed

step_signed : (account : List ℕ) (ties : TieRule) (facts : Facts) (command : Command) (legs : List Leg) (booked : List Booked)
    → BooksCommand ties facts command legs booked
    → may_reduce (method_of (facts.standing account)) ≡ true → IsSigned (facts.held account) → IsSigned (with_legs account (facts.held account) legs)
step_signed account ties facts (Opening o) legs booked h may signed = still_signed account (facts.held account) legs h.0 signed
step_signed account ties facts (Closing c) legs booked h may signed = still_signed account (facts.held account) legs h.0 signed
step_signed account ties facts (Declaring d) legs booked h may signed = still_signed account (facts.held account) legs h.0 signed
step_signed account ties facts (Quoting q) legs booked h may signed = still_signed account (facts.held account) legs h.0 signed
step_signed account ties facts (Transaction t) legs booked h may signed =
    let held = facts.held account in
    let rs = residuals (weights_in booked) in
    subst (λ (ls : List Leg). IsSigned (with_legs account held ls)) (sym h.0)
    (subst IsSigned (sym (with_legs-append account held (legs_in booked) (fill_legs facts t booked)))
    (filled_signed account (with_legs account held (legs_in booked)) (suc facts.entries) (elided_postings 1 t.postings) rs
    (postings_signed account ties facts t booked may h.1 signed)))

continues_signed : (migration : Migration) (account : List ℕ) (before entries : List Entry) → ContinuesIn migration before entries
    → method_by (opening_of (before ++ entries) account) ≢ Unmatched
    → IsSigned (inventory_of (legs_of before) account) → IsSigned (inventory_of (legs_of (before ++ entries)) account)
continues_signed migration account before [] h other signed = subst (λ (es : List Entry). IsSigned (inventory_of (legs_of es) account)) (sym (append-nil before)) signed
continues_signed migration account before (entry ∷ entries) h other signed =
    let first = command_booked (edition_on migration before) before entry.key entry.command entry.legs h.0 in
    let all : (before ++ entry ∷ []) ++ entries ≡ before ++ entry ∷ entries = append_assoc before (entry ∷ []) entries in
    let may : may_reduce (method_of (standing_of before account)) ≡ true =
    ap may_reduce (method_is (closing_of before account) (opening_of before account))
    ∙ may_before (opening_of before account) (opening_of (entry ∷ entries) account)
    (λ e. other (ap method_by (opening_then before (entry ∷ entries) account) ∙ e)) in
    let legs : legs_of (before ++ entry ∷ []) ≡ legs_of before ++ entry.legs =
    flat_map-append (λ (e : Entry). e.legs) before (entry ∷ []) ∙ ap (λ ls. legs_of before ++ ls) (append-nil entry.legs) in
    subst (λ (es : List Entry). IsSigned (inventory_of (legs_of es) account)) all
    (continues_signed migration account (before ++ entry ∷ []) entries h.1
    (λ e. other (ap (λ (es : List Entry). method_by (opening_of es account)) (sym all) ∙ e))
    (subst (λ (ls : List Leg). IsSigned (inventory_of ls account)) (sym legs)
    (subst IsSigned (sym (with_legs-append account empty (legs_of before) entry.legs))
    (step_signed account (ties_in (edition_on migration before) before) (facts_of before entry.key) entry.command entry.legs first.0 first.1 may signed))))

nothing_signed : IsSigned empty
nothing_signed = record {
  each = λ name a b.
      ap (λ (found : Option ℤ). other_sign (unwrap_or found (pos 0)) (units_at empty (name, Some b))) (get-empty position_cmp (name, Some a))
      ∙ ap (λ (found : Option ℤ). other_sign (pos 0) (unwrap_or found (pos 0))) (get-empty position_cmp (name, Some b));
}

pub book_signed : (migration : Migration) (entries : List Entry) (account commodity : List ℕ) → IsBookIn migration entries → method_of (standing_of entries account) ≢ Unmatched
    → HaveOneSign (lots_of (inventory_of (legs_of entries) account) commodity)
book_signed migration entries account commodity book other =
    one_sign (inventory_of (legs_of entries) account)
    (continues_signed migration account [] entries book (λ e. other (method_is (closing_of entries account) (opening_of entries account) ∙ e)) nothing_signed) commodity
