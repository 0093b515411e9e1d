-- Up to its place of migration a book is one of edition 1, and behind it goes on, and is judged, by edition 2.
use Rattle.std.specs.Prelude.{◌≡◌, ◌↔◌, ℕ, ◌+◌, ◌≤◌, ◌<◌, cond, List, [], ◌∷◌, ◌++◌, length}
use Rattle.std.proofs.Common.{ap, lt-ltb, subst, sym, arith}
use Rattle.std.proofs.lemmas.List.{length-append}
use Rattle.lot_command.specs.declared.command.Command.{Command}
use Rattle.lot_command.specs.declared.key.Key.{Key}
use Rattle.lot_book.specs.declared.verdict.Verdict.{Verdict}
use Rattle.lot_book.specs.declared.verdict.Verdict.TheVariants.{Accepted, Repeated, Refused}
use Rattle.lot_book.specs.Book.{ContinuesIn, IsBook, IsBookIn, entry_of}
use Rattle.lot_book.specs.Edition.{After, Edition, First, NotYet, Second, edition_on}
use Rattle.lot_book.specs.Facts.{Entry}
use Rattle.lot_book.specs.Judged.{JudgesAll, JudgesAllIn, JudgesBy}
use Rattle.lot_book.specs.Step.{Accept, StepIn}
use Rattle.lot_laws.proofs.LawBooks.{continued, second_there}
use Rattle.lot_laws.proofs.RecordedBook.{book-grows_in}

-- the entry behind fewer than the place is of edition 1
first_there : (place : ℕ) (before : List Entry) → length before < place → edition_on (After place) before ≡ First
first_there place before less = ap (λ b. cond b First Second) (lt-ltb (length before) place less)

one_longer : (before : List Entry) (entry : Entry) (entries : List Entry)
    → length (before ++ entry ∷ []) + length entries ≡ length before + length (entry ∷ entries)
one_longer before entry entries = omega (arith, length-append before (entry ∷ []))

module _ (place : ℕ) where
  to_first : (before entries : List Entry) → length before + length entries ≤ place → ContinuesIn (After place) before entries
      → ContinuesIn NotYet before entries
  to_first before [] within h = tt
  to_first before (entry ∷ entries) within h = (
    subst (λ (edition : Edition). StepIn edition before entry.key entry.command (Accept entry.legs))
        (first_there place before (omega (arith, within))) h.0,
    to_first (before ++ entry ∷ []) entries (omega (arith, one_longer before entry entries, within)) h.1,
  )

  from_first : (before entries : List Entry) → length before + length entries ≤ place → ContinuesIn NotYet before entries
      → ContinuesIn (After place) before entries
  from_first before [] within h = tt
  from_first before (entry ∷ entries) within h = (
    subst (λ (edition : Edition). StepIn edition before entry.key entry.command (Accept entry.legs))
        (sym (first_there place before (omega (arith, within)))) h.0,
    from_first (before ++ entry ∷ []) entries (omega (arith, one_longer before entry entries, within)) h.1,
  )

  pub up_to_place : (entries : List Entry) → length entries ≤ place → IsBookIn (After place) entries ↔ IsBookIn NotYet entries
  up_to_place entries within = (to_first [] entries (omega (arith, within)), from_first [] entries (omega (arith, within)))

-- a book of edition 1 that is migrated, its place the number of its entries
pub migrated : (entries : List Entry) → IsBookIn NotYet entries → IsBook entries
migrated entries book =
    record { place = length entries; placed = omega arith; is = (up_to_place (length entries) entries (omega arith)).1 book }

pub no_entries_yet : IsBook []
no_entries_yet = record { place = 0; placed = omega arith; is = tt }

-- ---- Behind the place.

pub goes_on_by_second : (entries : List Entry) (book : IsBook entries) → edition_on (After book.place) entries ≡ Second
goes_on_by_second entries book = second_there book.place entries book.placed

pub behind_place : (place : ℕ) (before : List Entry) (entry : Entry) → place ≤ length before → IsBookIn (After place) before
    → IsBookIn (After place) (before ++ entry ∷ []) ↔ StepIn Second before entry.key entry.command (Accept entry.legs)
behind_place place before entry more book =
    let Accepts : Edition → Type 0 = λ edition. StepIn edition before entry.key entry.command (Accept entry.legs) in
    let second = second_there place before more in (
      λ longer. subst Accepts second (continued (After place) [] before (entry ∷ []) longer).0,
      λ step. book-grows_in (After place) before entry.key entry.command entry.legs book (subst Accepts (sym second) step),
    )

-- ---- Judged behind the place.

-- a judged command leaves no fewer entries
no_fewer : (edition : Edition) (before : List Entry) (key : Key) (command : Command) (verdict : Verdict) (after : List Entry)
    → JudgesBy edition before key command verdict after → length before ≤ length after
no_fewer edition before key command Accepted after h =
    omega (arith, ap length h.2, length-append before (entry_of key command h.0 ∷ []))
no_fewer edition before key command Repeated after h = omega (arith, ap length h.1)
no_fewer edition before key command (Refused refusal) after h = omega (arith, ap length h.1)

module _ (place : ℕ) where
  to_second : (before : List Entry) (commands : List (Key × Command)) (verdicts : List Verdict) (after : List Entry)
      → place ≤ length before → JudgesAllIn (After place) before commands verdicts after → JudgesAll before commands verdicts after
  to_second before [] [] after more h = h
  to_second before [] (verdict ∷ verdicts) after more h = absurd h
  to_second before (next ∷ commands) [] after more h = absurd h
  to_second before (next ∷ commands) (verdict ∷ verdicts) after more h = (
    h.0,
    subst (λ (edition : Edition). JudgesBy edition before next.0 next.1 verdict h.0) (second_there place before more) h.1,
    to_second h.0 commands verdicts after
        (omega (arith, more, no_fewer (edition_on (After place) before) before next.0 next.1 verdict h.0 h.1)) h.2,
  )

  from_second : (before : List Entry) (commands : List (Key × Command)) (verdicts : List Verdict) (after : List Entry)
      → place ≤ length before → JudgesAll before commands verdicts after → JudgesAllIn (After place) before commands verdicts after
  from_second before [] [] after more h = h
  from_second before [] (verdict ∷ verdicts) after more h = absurd h
  from_second before (next ∷ commands) [] after more h = absurd h
  from_second before (next ∷ commands) (verdict ∷ verdicts) after more h = (
    h.0,
    subst (λ (edition : Edition). JudgesBy edition before next.0 next.1 verdict h.0) (sym (second_there place before more)) h.1,
    from_second h.0 commands verdicts after (omega (arith, more, no_fewer Second before next.0 next.1 verdict h.0 h.1)) h.2,
  )

  pub judged_behind_place : (before : List Entry) (commands : List (Key × Command)) (verdicts : List Verdict) (after : List Entry)
      → place ≤ length before → JudgesAllIn (After place) before commands verdicts after ↔ JudgesAll before commands verdicts after
  judged_behind_place before commands verdicts after more =
      (to_second before commands verdicts after more, from_second before commands verdicts after more)
