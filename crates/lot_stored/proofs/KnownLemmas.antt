-- Facts that agree with those of a book on what a transaction looks at: its legs stand where both say the same.
use Rattle.std.specs.Prelude.{◌≡◌, ℕ, suc, List, [], ◌∷◌, ◌++◌, None, Some, ℤ, pos}
use Rattle.std.specs.FinMap as finite
use Rattle.std.specs.List.{AllByRecursion}
use Rattle.std.specs.Option.{unwrap_or}
use Rattle.std.proofs.Common.{refl, sym, ap, subst, ◌∙◌}
use Rattle.sqlite_keyed.proofs.ListLemmas.{all-append, all_weaker}
use Rattle.lot_inv.specs.Inventory.{Position as Place, units_at}
use Rattle.lot_command.specs.declared.command.Command.{Command}
use Rattle.lot_command.specs.declared.key.Key.{Key}
use Rattle.lot_command.specs.declared.transaction.Posting.{Posting}
use Rattle.lot_command.specs.declared.transaction.Transaction.{Transaction as TransactionOf}
use Rattle.lot_book.specs.Agree.{HaveSameOf, HaveSamePlain}
use Rattle.lot_book.specs.Balance.{elided_postings, fill_from, fill_of, left_over, residuals, weights_in}
use Rattle.lot_book.specs.Booking.{Booked, TieRule, legs_in}
use Rattle.lot_book.specs.Book.{entry_of}
use Rattle.lot_book.specs.Change.{ListsSums, units_after, units_before}
use Rattle.lot_book.specs.Facts.{Entry, Facts, facts_of, legs_of}
use Rattle.lot_book.specs.declared.leg.Leg.{Leg}
use Rattle.lot_book.specs.declared.leg.Position.{Position}
use Rattle.lot_stored.specs.StandFor.{sum_in}
use Rattle.lot_laws.proofs.LawHoldings.{holds_sum}
use Rattle.lot_laws.proofs.RecordedBook.{inventory_of-append}
use Rattle.lot_laws.proofs.StepAgree.{Alike, AlikeElided, AlikeIn, alike_elided}
use Rattle.lot_laws.proofs.StepHeld.{HaveSame, same_with_legs}
use Rattle.lot_stored.proofs.BookedLemmas.{IsBookedAs, IsOf, IsPlainOf, Walks, WalksOn, fill_plain, walks}

module _ (a b : Facts) where
  -- the facts say the same of what is held at a leg's position
  abbrev pub IsSameAt : Leg → Type 0
  IsSameAt leg =
      finite.get (a.held leg.position.account) (leg.position.commodity, leg.position.lot)
      ≡ finite.get (b.held leg.position.account) (leg.position.commodity, leg.position.lot)

  same_of : (account commodity : List ℕ) → HaveSameOf commodity (a.held account) (b.held account) → (leg : Leg)
      → IsOf account commodity leg → IsSameAt leg
  same_of account commodity same leg is =
      (λ i. finite.get (a.held (is.0 i)) (is.1 i, leg.position.lot))
      ∙ same leg.position.lot
      ∙ (λ i. finite.get (b.held (sym is.0 i)) (sym is.1 i, leg.position.lot))

  same_plain : (account : List ℕ) → HaveSamePlain (a.held account) (b.held account) → (leg : Leg)
      → IsPlainOf account leg → IsSameAt leg
  same_plain account same leg is =
      (λ i. finite.get (a.held (is.0 i)) (leg.position.commodity, is.1 i))
      ∙ same leg.position.commodity
      ∙ (λ i. finite.get (b.held (sym is.0 i)) (leg.position.commodity, sym is.1 i))

  same_booked : (entry place : ℕ) (postings : List Posting) (booked : List Booked) → AllByRecursion (Alike a b) postings
      → Walks entry place postings booked → AllByRecursion IsSameAt (legs_in booked)
  same_booked entry place [] booked alike walk = subst (λ bs. AllByRecursion IsSameAt (legs_in bs)) (sym walk) tt
  same_booked entry place (posting ∷ postings) booked alike walk =
      elim posting.amount as (λ amount. AlikeIn a b posting.account amount
      → WalksOn (Walks entry (suc place) postings) entry place posting.account amount booked
      → AllByRecursion IsSameAt (legs_in booked)) [
        | None ↦ λ plain rest. same_booked entry (suc place) postings booked alike.1 rest
        | Some amount ↦ λ both all.
            subst (λ bs. AllByRecursion IsSameAt (legs_in bs)) (sym all.2)
            (all-append IsSameAt all.0.legs (legs_in all.1)
            (all_weaker (IsOf posting.account amount.commodity) IsSameAt
            (same_of posting.account amount.commodity both.1) all.0.legs all.3.of)
            (same_booked entry (suc place) postings all.1 alike.1 all.4))
      ] alike.0.1 walk

  same_fill : (entry : ℕ) (elided : List (ℕ × List ℕ)) (rs : List (List ℕ × ℤ)) → AllByRecursion (AlikeElided a b) elided
      → AllByRecursion IsSameAt (fill_of entry elided rs)
  same_fill entry [] rs alike = tt
  same_fill entry (elided ∷ more) rs alike =
      all_weaker (IsPlainOf elided.1) IsSameAt (same_plain elided.1 alike.0.1)
      (fill_from entry elided.0 elided.1 0 (left_over rs)) (fill_plain entry elided.0 elided.1 0 (left_over rs))

  -- what it holds after legs, they say alike
  same_after : (legs : List Leg) (leg : Leg) → IsSameAt leg → units_after a legs leg.position ≡ units_after b legs leg.position
  same_after legs leg same =
      let account = leg.position.account in
      let here : Place = (leg.position.commodity, leg.position.lot) in
      let IsHere : Place → Type 0 = λ (at : Place). at ≡ here in
      let start : HaveSame IsHere (a.held account) (b.held account) =
      λ at is. ap (finite.get (a.held account)) is ∙ same ∙ ap (finite.get (b.held account)) (sym is) in
      ap (λ found. unwrap_or found (pos 0))
      (same_with_legs IsHere account (a.held account) (b.held account) legs start here refl)

-- where a transaction is booked on facts that agree with others on what it looks at, its legs stand where both say the same
pub same_at_legs : (ties : TieRule) (a b : Facts) (t : TransactionOf) (legs : List Leg) → AllByRecursion (Alike a b) t.postings
    → IsBookedAs ties a t legs → AllByRecursion (IsSameAt a b) legs
same_at_legs ties a b t legs alike is =
    let elided = elided_postings 1 t.postings in
    let rs = residuals (weights_in is.booked) in
    subst (AllByRecursion (IsSameAt a b)) (sym is.same)
    (all-append (IsSameAt a b) (legs_in is.booked) (fill_of (suc a.entries) elided rs)
    (same_booked a b (suc a.entries) 1 t.postings is.booked alike (walks ties a t.day 1 t.postings [] is.booked is.all))
    (same_fill a b (suc a.entries) elided rs (alike_elided a b 1 t.postings alike)))

-- what the book with one more entry has at a position is what it held after the entry's legs
after_is_sum : (entries : List Entry) (key : Key) (command : Command) (legs : List Leg) (p : Position)
    → units_after (facts_of entries key) legs p ≡ sum_in (entries ++ entry_of key command legs ∷ []) p
after_is_sum entries key command legs p =
    let book = entries ++ entry_of key command legs ∷ [] in
    ap (λ held. units_at held (p.commodity, p.lot)) (sym (inventory_of-append entries (entry_of key command legs) p.account))
    ∙ holds_sum (legs_of book) p

-- what a change lists of a leg's position, or else what it held, is the sum of the book with the entry
pub listed_sum : (known : Facts) (entries : List Entry) (key : Key) (command : Command) (legs : List Leg) (listed : List (Position × ℤ)) (leg : Leg)
    → ListsSums known legs listed → IsSameAt known (facts_of entries key) leg
    → units_after known legs leg.position ≡ sum_in (entries ++ entry_of key command legs ∷ []) leg.position
listed_sum known entries key command legs listed leg lists same =
    same_after known (facts_of entries key) legs leg same ∙ after_is_sum entries key command legs leg.position

-- and what it held is the sum of the book
pub before_sum : (known : Facts) (entries : List Entry) (key : Key) (leg : Leg) → IsSameAt known (facts_of entries key) leg
    → units_before known leg.position ≡ sum_in entries leg.position
before_sum known entries key leg same =
    ap (λ found. unwrap_or found (pos 0)) same ∙ holds_sum (legs_of entries) leg.position
