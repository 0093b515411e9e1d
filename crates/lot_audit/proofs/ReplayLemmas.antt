-- A view of a whole book judges as the book does, by either edition, and records what it judges.
use Rattle.std.specs.Prelude.{◌≡◌, ◌≢◌, ℕ, List, [], ◌∷◌, ◌++◌, Option, None, Some, ℤ, pos}
use Rattle.std.specs.FinMap.{get-empty}
use Rattle.std.specs.Option.{unwrap_or}
use Rattle.std.proofs.Common.{refl, sym, ap, subst, ◌∙◌}
use Rattle.lot_inv.specs.Inventory.{position_cmp as place_cmp, units_at}
use Rattle.lot_command.specs.declared.command.Command.{Command}
use Rattle.lot_command.specs.declared.command.Command.TheVariants.{Opening, Closing, Declaring, Quoting, Transaction}
use Rattle.lot_command.specs.declared.key.Key.{Key}
use Rattle.lot_book.specs.Agree.{Agrees}
use Rattle.lot_book.specs.Book.{entry_of}
use Rattle.lot_book.specs.Booking.{All}
use Rattle.lot_book.specs.Change.{IsAcceptedUnder, IsChange}
use Rattle.lot_book.specs.Edition.{After, Edition, edition_on, ties_in}
use Rattle.lot_book.specs.Facts.{Entry, Facts, facts_of, text_under}
use Rattle.lot_book.specs.Openings.{AgreesWithOpenings, FactsWithOpenings, HaveSameOpenings, facts_with_openings, ties_for, with_listed}
use Rattle.lot_book.specs.Recorded.{facts_in, nothing_but, recorded}
use Rattle.lot_book.specs.Sale.{AreSalesUnder, SaleParts}
use Rattle.lot_book.specs.Step.{Accept, DecidesUnder, Outcome, StepIn}
use Rattle.lot_book.specs.declared.change.Change.{Change}
use Rattle.lot_book.specs.declared.change.Pair.{Pair}
use Rattle.lot_book.specs.declared.leg.Leg.{Leg}
use Rattle.lot_laws.proofs.RecordedBook.{book-grows_in, key_was_new, new-key, no-entries, recorded-known}
use Rattle.lot_laws.proofs.StepAgree.{all_of, alike_all, same_books}
use Rattle.lot_laws.proofs.StepLemmas.{step_one}
use Rattle.lot_laws.proofs.StepLooks.{agrees_itself}
use Rattle.lot_laws.proofs.StepOpenings.{agreed_ties, numbers_recorded, step_where_agreed}
use Rattle.lot_book.specs.Touched.{pairs_in}
use Rattle.lot_view.specs.View.{known, known_with_openings}
use Rattle.lot_view.specs.declared.view.View.{View}
use Rattle.lot_audit.specs.Replay.{Follows, Replays}
use Rattle.lot_audit.specs.declared.replay.Replay.{Replay}

abbrev replay_of : ℕ → View → Replay
replay_of place view = record { place = place; view = view }

-- before the first entry nothing is known
pub replays_none : (place : ℕ) (view : View) → known view ≡ nothing_but 0
    → Replays (replay_of place view) []
replays_none place view is = record {
  book = tt;
  facts = is ∙ no-entries;
  openings = λ account commodity lot some.
      absurd (some (ap (λ (o : Option ℤ). unwrap_or o (pos 0)) (get-empty place_cmp (commodity, Some lot))));
}

-- ---- a command under a new key

module _ (place : ℕ) (view : View) (entries : List Entry) (key : Key) (command : Command)
    (replays : Replays (replay_of place view) entries) (none : text_under entries key ≡ None) where
  abbrev facts : FactsWithOpenings
  facts = known_with_openings view

  same_facts : known view ≡ facts_of entries key
  same_facts = replays.facts ∙ new-key entries key none

  agrees : AgreesWithOpenings facts (facts_with_openings entries key) command
  agrees = record {
    facts = subst (λ (f : Facts). Agrees f (facts_of entries key) command) (sym same_facts)
        (agrees_itself (facts_of entries key) command);
    opening = all_of (λ (pair : Pair). HaveSameOpenings pair.commodity ((known view).held pair.account)
        (facts.opening pair.account pair.commodity)
        ((facts_with_openings entries key).opening pair.account pair.commodity))
        (λ pair lot some.
        replays.openings pair.account pair.commodity lot
        (subst (λ (f : Facts). units_at (f.held pair.account) (pair.commodity, Some lot) ≢ pos 0)
        replays.facts some))
        (pairs_in command);
  }

  -- it is decided as its step on the book, by each edition
  step : (edition : Edition) (outcome : Outcome)
      → DecidesUnder (ties_for edition facts) (known view) command outcome
      → StepIn edition entries key command outcome
  step edition outcome = step_where_agreed edition facts entries key command outcome agrees

  -- and makes the same sales
  sales_on : (edition : Edition) (c : Command) (sales : List (ℕ × SaleParts))
      → AgreesWithOpenings facts (facts_with_openings entries key) c
      → AreSalesUnder (ties_for edition facts) (known view) c sales
      → AreSalesUnder (ties_in edition entries) (facts_of entries key) c sales
  sales_on edition (Opening o) sales agree are = are
  sales_on edition (Closing c) sales agree are = are
  sales_on edition (Declaring d) sales agree are = are
  sales_on edition (Quoting q) sales agree are = are
  sales_on edition (Transaction t) sales agree are = (
    are.0,
    same_books (ties_for edition facts) (ties_in edition entries) (known view) (facts_of entries key)
        agree.facts.entries t.day [] 1 t.postings (All are.0)
        (alike_all (known view) (facts_of entries key) t.postings agree.facts.standing
        agree.facts.latest_at_cost agree.facts.held agree.facts.plain_units)
        (agreed_ties edition facts entries key (pairs_in (Transaction t)) agree.facts.held agree.opening)
        are.1,
    are.2,
  )

  -- an accepted one is known once it is recorded
  pub follows : (edition : Edition) → edition ≡ edition_on (After place) entries
      → (change : Change) (after : View) → IsAcceptedUnder (ties_for edition facts) (known view) command change
      → known after ≡ recorded (known view) command change
      → ((account commodity : List ℕ) → HaveSameOpenings commodity ((known after).held account)
      (with_listed change.openings facts.opening account commodity)
      ((known_with_openings after).opening account commodity))
      → Follows (replay_of place view) (replay_of place after) entries key command change
  follows edition same change after comes records numbers =
      let legs = change.legs in
      let accepted : StepIn (edition_on (After place) entries) entries key command (Accept legs) =
      subst (λ (e : Edition). StepIn e entries key command (Accept legs)) same (step edition (Accept legs) comes.0) in
      let is : IsChange (known view) command legs change =
      record {
        same_legs = refl;
        positions = comes.1.positions;
        openings = comes.1.openings;
        heads = comes.1.heads;
      } in
      let more = entries ++ entry_of key command legs ∷ [] in
      let says : known after ≡ facts_in more =
      records
      ∙ recorded-known (ties_for edition facts) (After place) (known view) entries key command legs change
      replays.book same_facts comes.0 is in
      record {
        accepts = accepted;
        sales =
            subst (λ (e : Edition). AreSalesUnder (ties_in e entries) (facts_of entries key) command change.sales) same
            (sales_on edition command change.sales agrees comes.1.sales);
        known = record {
          book = book-grows_in (After place) entries key command legs replays.book accepted;
          facts = says;
          openings = λ account commodity lot some.
              sym (numbers account commodity lot
              (subst (λ (f : Facts). units_at (f.held account) (commodity, Some lot) ≢ pos 0) (sym says) some))
              ∙ numbers_recorded facts entries key command legs change same_facts replays.openings is account
              commodity lot some;
        };
        place = refl;
      }

-- ---- a command that isn't accepted

-- an accepted command has a new key
new_where_accepted : (edition : Edition) (entries : List Entry) (key : Key) (command : Command) (legs : List Leg)
    → StepIn edition entries key command (Accept legs) → text_under entries key ≡ None
new_where_accepted edition entries key command legs steps =
    (key_was_new (ties_in edition entries) (facts_of entries key) command legs (text_under entries key) steps).0

-- what comes to another outcome is accepted under no key
pub accepts_none : (place : ℕ) (view : View) (edition : Edition) (command : Command) (outcome : Outcome)
    → ((legs : List Leg) → outcome ≢ Accept legs)
    → DecidesUnder (ties_for edition (known_with_openings view)) (known view) command outcome
    → (entries : List Entry) (key : Key) (legs : List Leg) → Replays (replay_of place view) entries
    → edition ≡ edition_on (After place) entries
    → ¬ StepIn (edition_on (After place) entries) entries key command (Accept legs)
accepts_none place view edition command outcome other decides entries key legs replays same accepts =
    let now : StepIn edition entries key command (Accept legs) =
    subst (λ (e : Edition). StepIn e entries key command (Accept legs)) (sym same) accepts in
    let none = new_where_accepted edition entries key command legs now in
    other legs
    (step_one edition entries key command outcome (Accept legs)
    (step place view entries key command replays none edition outcome decides) now)
