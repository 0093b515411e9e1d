-- Where judging a command may lack memory on what is known of a book, it may on the book.
use Rattle.std.specs.Prelude.{◌≡◌, ℕ, suc, List, [], ◌∷◌, Option, None, Some, ℤ}
use Rattle.std.proofs.Common.{refl, subst, inl, inr}
use Rattle.lot_cost.specs.declared.cost.Cost.{Cost}
use Rattle.lot_cost.specs.declared.lot_key.LotKey.{LotKey}
use Rattle.lot_booking.specs.Booking.{Legs}
use Rattle.lot_booking.specs.Method.{ByOpening}
use Rattle.lot_booking.proofs.SameTies.{IsHeldLot, comes_alike, same_by_opening}
use Rattle.lot_command.specs.declared.command.Command.{Command}
use Rattle.lot_command.specs.declared.command.Command.TheVariants.{Opening, Closing, Declaring, Quoting, Transaction}
use Rattle.lot_command.specs.declared.key.Key.{Key}
use Rattle.lot_command.specs.declared.transaction.Amount.{Amount}
use Rattle.lot_command.specs.declared.transaction.Posting.{Posting}
use Rattle.lot_book.specs.declared.change.Change.{Change}
use Rattle.lot_book.specs.Booking.{line_under, method_of}
use Rattle.lot_book.specs.Facts.{Entry, Facts, facts_of, legs_of}
use Rattle.lot_book.specs.OpeningNumber.{opening_in}
use Rattle.lot_book.specs.Openings.{AreOpeningsOf, DecidesByOpening, FactsWithOpenings, facts_with_openings, ties_on}
use Rattle.lot_book.specs.Step.{Accept}
use Rattle.lot_laws.proofs.StepOpenings.{step_on_book, step_on_known}
use Rattle.lot_ledger.specs.Decide.{JudgingMayLackMemory, StoresAt, StoresFirst}
use Rattle.lot_posting.specs.Posting.{StoresFor}
use Rattle.lot_check.specs.Answer.{JudgingMayLackMemory as MayLackMemory}

-- facts and opening numbers that are those of a book
module _ (book : List Entry) (key : Key) (openings : List ℕ → List ℕ → LotKey → ℕ) (are : AreOpeningsOf book openings) where
  abbrev facts : Facts
  facts = facts_of book key

  abbrev known : FactsWithOpenings
  known = record { facts = facts; opening = openings }

  abbrev said : FactsWithOpenings
  said = facts_with_openings book key

  still_stores : (day : ℤ) (place : ℕ) (account : List ℕ) (amount : Amount) (cost : Option Cost)
      → StoresFor (line_under (ties_on known) facts day [] place account amount) cost
      → StoresFor (line_under (ties_on said) facts day [] place account amount) cost
  still_stores day place account amount None h = h
  still_stores day place account amount (Some cost) (reduces, lots, comes) =
      let held = facts.held account in
      let commodity = amount.commodity in
      let here = openings account commodity in
      let there = opening_in (legs_of book) account commodity in (
        reduces,
        lots,
        comes_alike (ByOpening here) (ByOpening there) (method_of (facts.standing account)) held held commodity amount.units cost day refl
            (same_by_opening (IsHeldLot held commodity) here there (are account commodity)) (Legs reduces lots) comes,
      )

  still_at : (day : ℤ) (place : ℕ) (account : List ℕ) (amount : Option Amount) (Others More : Type 0) → (Others → More)
      → StoresAt (ties_on known) facts day place account amount Others → StoresAt (ties_on said) facts day place account amount More
  still_at day place account None Others More on h = on h
  still_at day place account (Some amount) Others More on h = still_stores day place account amount amount.cost h

  still_first : (day : ℤ) (place : ℕ) (postings : List Posting) → StoresFirst (ties_on known) facts day place postings
      → StoresFirst (ties_on said) facts day place postings
  still_first day place [] h = h
  still_first day place (p ∷ ps) h =
      still_at day place p.account p.amount (StoresFirst (ties_on known) facts day (suc place) ps)
      (StoresFirst (ties_on said) facts day (suc place) ps) (still_first day (suc place) ps) h

  still_judging : (command : Command) → JudgingMayLackMemory (ties_on known) facts command
      → JudgingMayLackMemory (ties_on said) facts command
  still_judging (Opening o) h = h
  still_judging (Closing c) h = h
  still_judging (Declaring d) h = h
  still_judging (Quoting q) h = h
  still_judging (Transaction t) h = (h.0, still_first t.day 1 t.postings h.1)

  still_decides : (command : Command) (change : Change) → DecidesByOpening known command (Accept change.legs)
      → DecidesByOpening said command (Accept change.legs)
  still_decides command change h =
      (step_on_book book key command (Accept change.legs)).0 ((step_on_known known book key command (Accept change.legs) refl are).1 h)

  still_may_lack : (command : Command) → MayLackMemory known command → MayLackMemory said command
  still_may_lack command (inl (inl text)) = inl (inl text)
  still_may_lack command (inl (inr judging)) = inl (inr (still_judging command judging))
  still_may_lack command (inr (change, decides)) = inr (change, still_decides command change decides)

pub may_lack_on_book : (known : FactsWithOpenings) (book : List Entry) (key : Key) (command : Command) → known.facts ≡ facts_of book key
    → AreOpeningsOf book known.opening → MayLackMemory known command → MayLackMemory (facts_with_openings book key) command
may_lack_on_book known book key command same are h =
    still_may_lack book key known.opening are command
    (subst (λ (f : Facts). MayLackMemory (record { facts = f; opening = known.opening }) command) same h)
