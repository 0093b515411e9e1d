-- What legs put into the lots of a commodity in an account: of the legs of a posting, of a transaction, of a book.
use Rattle.std.specs.Prelude.{◌≡◌, ◌≢◌, ℕ, suc, ◌&&◌, true, false, cond, List, [], ◌∷◌, ◌++◌, map, Option, None, Some, ℤ, pos, ◌+ℤ◌, ◌*ℤ◌}
use Rattle.std.specs.FinMap.{empty}
use Rattle.std.proofs.Common.{refl, sym, ap, subst, ◌∙◌}
use Rattle.std.proofs.Math.IntN.{+ℤ_assoc, +ℤ_idl, +ℤ_idr}
use Rattle.std.proofs.lemmas.Bool.{true≢false}
use Rattle.lot_num.specs.Sum.{sum_of}
use Rattle.lot_base.specs.Text.{same_text}
use Rattle.lot_base.proofs.TextLemmas.{one_text, same_text-itself}
use Rattle.lot_cost.specs.declared.lot_key.LotKey.{LotKey}
use Rattle.lot_inv.specs.Inventory.{Held, added, lots_of, units_at}
use Rattle.lot_inv.proofs.LotLemmas.{lots_of-empty, lots_of-other, lots_of-plain, sum_at, sum_at-added}
use Rattle.lot_command.specs.declared.command.Command.{Command}
use Rattle.lot_command.specs.declared.command.Command.TheVariants.{Opening, Closing, Declaring, Quoting, Transaction}
use Rattle.lot_command.specs.declared.transaction.Posting.{Posting}
use Rattle.lot_command.specs.declared.transaction.Transaction.{Transaction as TransactionOf}
use Rattle.lot_book.specs.declared.leg.Leg.{Leg}
use Rattle.lot_book.specs.Balance.{elided_postings, fill_from, fill_of, left_over, residuals, weights_in}
use Rattle.lot_book.specs.Book.{ContinuesIn}
use Rattle.lot_book.specs.Booking.{All, Booked, BooksAllUnder, TieRule, legs_in}
use Rattle.lot_book.specs.Edition.{Migration, edition_on, ties_in}
use Rattle.lot_book.specs.Facts.{Entry, Facts, facts_of, legs_of}
use Rattle.lot_laws.specs.Laws.{BooksCommand, over_entries, over_postings}
use Rattle.lot_book.specs.Leg.{inventory_of, legs_at_lots, with_leg, with_legs}
use Rattle.lot_book.specs.Step.{fill_legs}
use Rattle.lot_laws.proofs.LawBalance.{command_booked}
use Rattle.lot_book.proofs.CaseLemmas.{by_bool}

pub sum_of-append : (xs ys : List ℤ) → sum_of (xs ++ ys) ≡ sum_of xs +ℤ sum_of ys
sum_of-append [] ys = sym (+ℤ_idl (sum_of ys))
sum_of-append (x ∷ xs) ys = ap (λ z. x +ℤ z) (sum_of-append xs ys) ∙ sym (+ℤ_assoc x (sum_of xs) (sum_of ys))

-- the sum over items
abbrev pub total : {X : Type 0} → (X → ℤ) → List X → ℤ
total f xs = sum_of (map f xs)

pub total-append : {X : Type 0} (f : X → ℤ) (xs ys : List X) → total f (xs ++ ys) ≡ total f xs +ℤ total f ys
total-append f [] ys = sym (+ℤ_idl (total f ys))
total-append f (x ∷ xs) ys = ap (λ z. f x +ℤ z) (total-append f xs ys) ∙ sym (+ℤ_assoc (f x) (total f xs) (total f ys))

-- a number for each key, an account and a commodity
module _ (f : LotKey → ℤ) (account commodity : List ℕ) where
  -- what units at a position of some account put into the lots there, by the number for each key
  abbrev pub put_at : List ℕ → List ℕ → Option LotKey → ℤ → ℤ
  put_at other name None units = pos 0
  put_at other name (Some key) units = cond (same_text account other && same_text commodity name) (units *ℤ f key) (pos 0)

  abbrev pub put : Leg → ℤ
  put leg = put_at leg.position.account leg.position.commodity leg.position.lot leg.units

  abbrev worth : Held → ℤ
  worth held = sum_at f (lots_of held commodity)

  not_named : (name : List ℕ) → same_text commodity name ≡ false → name ≢ commodity
  not_named name e same = true≢false (sym (ap (same_text commodity) same ∙ same_text-itself commodity) ∙ e)

  added_puts : (held : Held) (name : List ℕ) (lot : Option LotKey) (units : ℤ)
      → worth (added held (name, lot) units) ≡ worth held +ℤ put_at account name lot units
  added_puts held name None units =
      ap (sum_at f) (lots_of-plain held name (units_at held (name, None) +ℤ units) commodity) ∙ sym (+ℤ_idr (worth held))
  added_puts held name (Some key) units = rw (same_text-itself account)
      (by_bool (same_text commodity name)
      (λ e. rw e (subst (λ (n : List ℕ). worth (added held (n, Some key) units) ≡ worth held +ℤ units *ℤ f key)
      (one_text commodity name e) (sum_at-added f held commodity key units)))
      (λ e. rw e (ap (sum_at f) (lots_of-other held name (Some key) (units_at held (name, Some key) +ℤ units) commodity (not_named name e))
      ∙ sym (+ℤ_idr (worth held)))))

  puts_nothing : (other name : List ℕ) (lot : Option LotKey) (units : ℤ) → same_text account other ≡ false → put_at other name lot units ≡ pos 0
  puts_nothing other name None units e = refl
  puts_nothing other name (Some key) units e = ap (λ b. cond (b && same_text commodity name) (units *ℤ f key) (pos 0)) e

  leg_puts : (held : Held) (leg : Leg) → worth (with_leg account held leg) ≡ worth held +ℤ put leg
  leg_puts held leg =
      let p = leg.position in
      by_bool (same_text account p.account)
      (λ e. rw e (subst (λ (other : List ℕ). worth (added held (p.commodity, p.lot) leg.units) ≡ worth held +ℤ put_at other p.commodity p.lot leg.units)
      (one_text account p.account e) (added_puts held p.commodity p.lot leg.units)))
      (λ e. ap (λ b. worth (cond b (added held (p.commodity, p.lot) leg.units) held)) e ∙ sym (+ℤ_idr (worth held))
      ∙ ap (λ z. worth held +ℤ z) (sym (puts_nothing p.account p.commodity p.lot leg.units e)))

  legs_put : (held : Held) (legs : List Leg) → worth (with_legs account held legs) ≡ worth held +ℤ total put legs
  legs_put held [] = sym (+ℤ_idr (worth held))
  legs_put held (leg ∷ legs) =
      legs_put (with_leg account held leg) legs ∙ ap (λ z. z +ℤ total put legs) (leg_puts held leg) ∙ +ℤ_assoc (worth held) (put leg) (total put legs)

  -- what an account holds in lots is what all legs put there
  pub lots_worth : (legs : List Leg) → worth (inventory_of legs account) ≡ total put legs
  lots_worth legs = legs_put empty legs ∙ ap (λ lots. sum_at f lots +ℤ total put legs) (lots_of-empty commodity) ∙ +ℤ_idl (total put legs)

  -- ---- The legs of a posting.

  -- legs at lots
  pub lots_put : (entry posting place : ℕ) (other name : List ℕ) (lots : List (LotKey × ℤ))
      → total put (legs_at_lots entry posting other name place lots) ≡ cond (same_text account other && same_text commodity name) (sum_at f lots) (pos 0)
  lots_put entry posting place other name lots = by_bool (same_text account other && same_text commodity name)
      (λ e. rw e (here e place lots)) (λ e. rw e (apart e place lots))
    where
      here : (same_text account other && same_text commodity name) ≡ true → (place : ℕ) (lots : List (LotKey × ℤ))
          → total put (legs_at_lots entry posting other name place lots) ≡ sum_at f lots
      here e place [] = refl
      here e place (lot ∷ lots) = ap (λ b. cond b (lot.1 *ℤ f lot.0) (pos 0) +ℤ total put (legs_at_lots entry posting other name (suc place) lots)) e
          ∙ ap (λ z. lot.1 *ℤ f lot.0 +ℤ z) (here e (suc place) lots)

      apart : (same_text account other && same_text commodity name) ≡ false → (place : ℕ) (lots : List (LotKey × ℤ))
          → total put (legs_at_lots entry posting other name place lots) ≡ pos 0
      apart e place [] = refl
      apart e place (lot ∷ lots) = ap (λ b. cond b (lot.1 *ℤ f lot.0) (pos 0) +ℤ total put (legs_at_lots entry posting other name (suc place) lots)) e
          ∙ +ℤ_idl (total put (legs_at_lots entry posting other name (suc place) lots)) ∙ apart e (suc place) lots

  -- the elided posting has plain legs
  fill_puts_nothing : (entry posting : ℕ) (other : List ℕ) (place : ℕ) (rs : List (List ℕ × ℤ))
      → total put (fill_from entry posting other place rs) ≡ pos 0
  fill_puts_nothing entry posting other place [] = refl
  fill_puts_nothing entry posting other place (r ∷ rs) =
      +ℤ_idl (total put (fill_from entry posting other (suc place) rs)) ∙ fill_puts_nothing entry posting other (suc place) rs

  filled_puts_nothing : (entry : ℕ) (elided : List (ℕ × List ℕ)) (rs : List (List ℕ × ℤ)) → total put (fill_of entry elided rs) ≡ pos 0
  filled_puts_nothing entry [] rs = refl
  filled_puts_nothing entry (first ∷ more) rs = fill_puts_nothing entry first.0 first.1 0 (left_over rs)

  pub all_put : (facts : Facts) (t : TransactionOf) (booked : List Booked)
      → total put (legs_in booked ++ fill_legs facts t booked) ≡ total put (legs_in booked)
  all_put facts t booked =
      total-append put (legs_in booked) (fill_legs facts t booked)
      ∙ ap (λ z. total put (legs_in booked) +ℤ z) (filled_puts_nothing (suc facts.entries) (elided_postings 1 t.postings) (residuals (weights_in booked)))
      ∙ +ℤ_idr (total put (legs_in booked))

  -- ---- The legs of a book.

  -- where each transaction puts what its postings do, so does the book
  module _ (of : Posting → ℤ)
      (each : (ties : TieRule) (facts : Facts) (t : TransactionOf) (booked : List Booked) → BooksAllUnder ties facts t.day [] 1 t.postings (All booked)
      → total put (legs_in booked) ≡ total of t.postings) where
    step_puts : (ties : TieRule) (facts : Facts) (command : Command) (legs : List Leg) (booked : List Booked) → BooksCommand ties facts command legs booked
        → total put legs ≡ over_postings of command
    step_puts ties facts (Opening o) legs booked h = ap (total put) h.0
    step_puts ties facts (Closing c) legs booked h = ap (total put) h.0
    step_puts ties facts (Declaring d) legs booked h = ap (total put) h.0
    step_puts ties facts (Quoting q) legs booked h = ap (total put) h.0
    step_puts ties facts (Transaction t) legs booked h = ap (total put) h.0 ∙ all_put facts t booked ∙ each ties facts t booked h.1

    pub book_puts : (migration : Migration) (before entries : List Entry) → ContinuesIn migration before entries
        → total put (legs_of entries) ≡ over_entries of entries
    book_puts migration before [] h = refl
    book_puts migration before (entry ∷ entries) h =
        let edition = edition_on migration before in
        let first = command_booked edition before entry.key entry.command entry.legs h.0 in
        total-append put entry.legs (legs_of entries)
        ∙ ap (λ z. z +ℤ total put (legs_of entries)) (step_puts (ties_in edition before) (facts_of before entry.key) entry.command entry.legs first.0 first.1)
        ∙ ap (λ z. over_postings of entry.command +ℤ z) (book_puts migration (before ++ entry ∷ []) entries h.1)
