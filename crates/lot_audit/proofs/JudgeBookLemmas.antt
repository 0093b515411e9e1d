-- What judging the tables comes to.
use Rattle.std.specs.Prelude.{◌≡◌, ◌≤◌, ℕ, false, IsTrue, All, List, [], ◌∷◌, ◌++◌, length, Ok, Err, Result}
use Rattle.std.specs.Result.{IsErrAnd}
use Rattle.std.proofs.Common.{sym, subst, ◌∙◌, arith, append_assoc}
use Rattle.std.proofs.lemmas.List.{append-nil}
use Rattle.std.proofs.lemmas.List.Elements.{All-from_recursion}
use Rattle.sqlite.specs.State.{State}
use Rattle.lot_book.specs.Book.{ContinuesIn}
use Rattle.lot_book.specs.Edition.{After, Migration, edition_on, ties_in}
use Rattle.lot_book.specs.Facts.{Entry, facts_of}
use Rattle.lot_book.specs.Refusals.{most_entries}
use Rattle.lot_laws.proofs.LawBooks.{accepted}
use Rattle.lot_laws.proofs.RecordedBook.{room_where_accepted}
use Rattle.lot_rows.specs.Migration.{IsMigrationRow}
use Rattle.lot_rows.specs.Tables.{Tables}
use Rattle.lot_stored.specs.Rows.{migration_row}
use Rattle.lot_stored.specs.StandFor.{AreOfBook}
use Rattle.lot_stored.proofs.NumberLemmas.{one_longer}
use Rattle.lot_table.specs.declared.fault.Fault.{Fault}
use Rattle.lot_table.specs.declared.fault.Fault.TheVariants.{Damaged}
use Rattle.lot_view.specs.View.{known as facts_known}
use Rattle.lot_audit.specs.Checks.{Checks, ChecksWhere, always}
use Rattle.lot_audit.specs.Pass.{HasJudgedAll, SaysPlace}
use Rattle.lot_audit.specs.Judge.{Agree, AreOfThisEdition, StandByColumns}
use Rattle.lot_audit.specs.declared.pass.Replayed.{Replayed}
use Rattle.lot_audit.proofs.EndLemmas.{agrees_where_stand, has_columns, placed_where_stand, read_tables, same_columns, stand_where_agree}
use Rattle.lot_audit.proofs.NextLemmas.{same_place}
use Rattle.lot_audit.proofs.SeenLemmas.{Seen, Tells, fails_next, passed_on, refuted, seen_next, seen_none, told_no, told_yes}

-- ---- the row of the migration

-- a book has no more entries than fit
book_small : (migration : Migration) (before entries : List Entry) → length before ≤ most_entries → ContinuesIn migration before entries
    → length (before ++ entries) ≤ most_entries
book_small migration before [] within continues = subst (λ (l : List Entry). length l ≤ most_entries) (sym (append-nil before)) within
book_small migration before (entry ∷ entries) within continues =
    let edition = edition_on migration before in
    let room = room_where_accepted (ties_in edition before) (facts_of before entry.key) entry.command entry.legs
    (accepted edition before entry.key entry.command entry.legs continues.0).1 in
    subst (λ (l : List Entry). length l ≤ most_entries) (append_assoc before (entry ∷ []) entries)
    (book_small migration (before ++ entry ∷ []) entries
    (subst (λ (n : ℕ). n ≤ most_entries) (sym (one_longer before entry)) (omega (arith, room))) continues.1)

pub migration_good : (tables : Tables) → AreOfBook tables → All IsMigrationRow tables.migration
migration_good tables (entries, is, stand) =
    let small = book_small (After stand.place) [] entries (omega arith) stand.judged in
    subst (All IsMigrationRow) (sym stand.migration)
    (All-from_recursion IsMigrationRow (migration_row stand.place ∷ []) (record { entries = omega (arith, small, stand.placed) }, tt))

-- ---- a book that is marked

abbrev Where : Tables → Type 0
Where = AreOfThisEdition

abbrev Says : Unit {0} → Tables → Type 0
Says _ tables = StandByColumns tables

-- the place of migration is known
abbrev pub Placed : ℕ → Tables → Type 0
Placed place tables = AreOfThisEdition tables × SaysPlace place tables

-- and all entries are judged
abbrev pub AllJudged : ℕ → Replayed → Tables → Type 0
AllJudged place known tables = Placed place tables × HasJudgedAll known tables

module _ (old : State) where
  pub seen_place : (one : State) (place : ℕ) → Checks SaysPlace old one (Ok place) → Seen Where (Placed place) old one
  seen_place one place c =
      seen_next Where always SaysPlace Where (Placed place) old old one place (seen_none Where old) c
      (λ tables has edition. (tt, λ says. (edition, says)))

  pub place_unread : (one : State) (fault : Fault) (result : Result (Unit {0}) Fault) → IsErrAnd result (λ e. e ≡ fault)
      → Checks SaysPlace old one (Err fault) → ChecksWhere Where Says old one result
  place_unread one fault result is c =
      passed_on Where Says old one fault result is
      (fails_next Where Says always SaysPlace Where old old one fault (seen_none Where old) c (λ tables has edition. tt))

  module _ (one two : State) (place : ℕ) (placed : Seen Where (Placed place) old one) where
    pub seen_judged : (known : Replayed) → ChecksWhere (SaysPlace place) HasJudgedAll one two (Ok known)
        → Seen Where (AllJudged place known) old two
    seen_judged known c =
        seen_next Where (SaysPlace place) HasJudgedAll (Placed place) (AllJudged place known) old one two known placed c
        (λ tables has was. (was.1, λ judged. (was, judged)))

    pub not_judged : (fault : Fault) (result : Result (Unit {0}) Fault) → IsErrAnd result (λ e. e ≡ fault)
        → ChecksWhere (SaysPlace place) HasJudgedAll one two (Err fault) → ChecksWhere Where Says old two result
    not_judged fault result is c =
        passed_on Where Says old two fault result is
        (fails_next Where Says (SaysPlace place) HasJudgedAll (Placed place) old one two fault placed c (λ tables has was. was.1))

  -- the place that is read is the one by which the entries are judged
  one_place : (place : ℕ) (known : Replayed) (tables : Tables) → AllJudged place known tables → place ≡ known.replay.place
  one_place place known tables was = same_place place known.replay.place (sym was.0.1 ∙ was.1.2.migration)

  module _ (two : State) (place : ℕ) (known : Replayed) (seen : Seen Where (AllJudged place known) old two) where
    abbrev count : ℕ
    count = (facts_known known.replay.view).entries

    -- the place is behind all entries
    pub place_behind : (place ≤ count → ⊥) → ChecksWhere Where Says old two (Err Damaged)
    place_behind beyond =
        refuted Where Says (AllJudged place known) old two seen
        (λ tables has was of.
        beyond (subst (λ (p : ℕ). p ≤ count) (sym (one_place place known tables was)) (placed_where_stand known tables was.1 of)))

    module _ (three : State) where
      pub not_compared : (fault : Fault) (result : Result (Unit {0}) Fault) → IsErrAnd result (λ e. e ≡ fault)
          → Checks (Tells (Agree known)) two three (Err fault) → ChecksWhere Where Says old three result
      not_compared fault result is c =
          passed_on Where Says old three fault result is
          (fails_next Where Says always (Tells (Agree known)) (AllJudged place known) old two three fault seen c (λ tables has was. tt))

      pub differs : (is : _) → is ≡ false → Checks (Tells (Agree known)) two three (Ok is) → ChecksWhere Where Says old three (Err Damaged)
      differs is out c =
          refuted Where Says _ old three (told_no Where (AllJudged place known) (Agree known) old two three seen is out c)
          (λ tables has was of. was.1 (agrees_where_stand known tables was.0.1 of))

      pub verified : (is : _) → IsTrue is → place ≤ count → Checks (Tells (Agree known)) two three (Ok is)
          → ChecksWhere Where Says old three (Ok tt)
      verified is so_it_is up_to c =
          let all = told_yes Where (AllJudged place known) (Agree known) old two three seen is so_it_is c in
          record {
            says = λ clean tables has edition.
                let was = all.told clean tables has edition in
                let agree = was.1 in
                let good = read_tables known tables agree in
                let has_good = has_columns known tables agree old has in
                let again = all.told clean good has_good edition in (
                  good,
                  same_columns known tables agree,
                  stand_where_agree known good again.0.1 old.now.trees has_good.1 edition
                      (subst (λ (p : ℕ). p ≤ count) (one_place place known good again.0) up_to) again.1 agree.names.account.good
                      agree.names.allowed.good agree.names.commodity.good agree.names.head.good agree.amounts.price.good
                      agree.amounts.lot.good agree.amounts.plain.good agree.amounts.opening.good agree.legs.good,
                );
            same = all.same;
            damaged = λ clean is. absurd cc;
            device = λ clean is. absurd cc;
            left = λ clean. tt;
            crash = all.survives;
          }
