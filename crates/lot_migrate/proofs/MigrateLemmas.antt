-- A database that isn't taken up as a book, and is migrated or not.
use Rattle.std.proofs.Common.{◌≡◌, ◌≢◌, ◌∙◌, ◌<ℤ◌, inl, inr, ℤ, Err, IfErr, IfOk, Ok, Result, List, [], ◌∷◌, None, Some, map, ap, refl, sym, subst, arith}
use Rattle.sqlite.proofs.StateLemmas.{survives_then}
use Rattle.sqlite.specs.Effect.{Database}
use Rattle.sqlite.specs.Order.{Row}
use Rattle.sqlite.specs.Clock.{timed as times}
use Rattle.sqlite.specs.State.{HasCleanDisk, IsUnchanged, KeepsCommit, Shown, ShowsRows, State, Survives}
use Rattle.lot_book.specs.Facts.{Entry}
use Rattle.lot_stored.specs.Rows.{current_edition, marked}
use Rattle.lot_stored.specs.StandFor.{Stands}
use Rattle.lot_table.proofs.MakeLemmas.{keeps_shown, keeps_then}
use Rattle.lot_table.proofs.SelectLemmas.{shown_same, silent_text}
use Rattle.lot_table.specs.Statement.{IsSelect}
use Rattle.lot_table.specs.Book.{Holds}
use Rattle.lot_rows.proofs.BookLemmas.{list_is}
use Rattle.lot_rows.proofs.StateLemmas.{failed_then}
use Rattle.lot_rows.specs.Book.{book_cells}
use Rattle.lot_rows.specs.Tables.{Has, HasFirst, Tables, first_layout}
use Rattle.lot_rows.specs.declared.book.BookRow.{BookRow}
use Rattle.lot_store.specs.Create.{TellsBook, TellsOf, marks_text}
use Rattle.lot_store.specs.declared.fault.AdoptFault.{AdoptFault}
use Rattle.lot_store.specs.declared.fault.AdoptFault.TheVariants as adopt
use Rattle.lot_migrate.specs.Fault.{refusal_of}
use Rattle.lot_migrate.specs.First.{StandsFirst, first_edition}
use Rattle.lot_migrate.specs.Migrate.{IsOfFirst, IsOfSecond, IsCommitted, IsOlder, LeavesMigrated, LeavesTakenOver, Migrates, MigratesMarked, NotTakenOver, TakesOver}
use Rattle.lot_migrate.specs.Put.{HasNoRoom}
use Rattle.lot_migrate.specs.declared.fault.MigrateFault.{MigrateFault}
use Rattle.lot_migrate.specs.declared.fault.MigrateFault.TheVariants as migrate
use Rattle.lot_migrate.proofs.MarkLemmas.{first_answers, first_marks}
use Rattle.lot_migrate.proofs.TurnLemmas.{can_migrate, stands_migrated_from}

-- ---- an older edition

pub is_older : (why : AdoptFault) → refusal_of why ≡ None → why ≡ adopt.OlderEdition
is_older adopt.OlderEdition is = refl
is_older adopt.NotABook is = absurd cc
is_older adopt.NewerEdition is = absurd cc
is_older adopt.Device is = absurd cc
is_older adopt.Memory is = absurd cc

one_book : (rows : List BookRow) (edition : ℤ) → map book_cells rows ≡ book_cells (marked edition) ∷ [] → rows ≡ marked edition ∷ []
one_book [] edition is = absurd cc
one_book (row ∷ []) edition is =
    let mark : row.mark ≡ (marked edition).mark = cc in
    let same : row.edition ≡ edition = cc in λ i. record { mark = mark i; edition = same i } ∷ []
one_book (row ∷ more ∷ rows) edition is = absurd cc

-- the database as it was answers the question as it did
shown_before : (old new : State) (rows : List Row) → Shown marks_text [] old new rows → Shown marks_text [] old old rows
unfolding Shown
shown_before old new rows shown =
    let it : IsSelect marks_text = list_is.selects in
    let none = silent_text marks_text it.0 it.1 it.2 old.now.schema shown.0 shown.1.is in
    let params = times [] shown.0.formats shown.1.now in
    let shows = subst (ShowsRows old new marks_text shown.0 params rows) none shown.2 in
    let opened = shows.3.0.was_open in
    let same : IsUnchanged old old = (
      record { was_open = opened; is_open = opened; now_is = refl; committed_is = refl; mode = refl },
      record { changes = refl; last_rowid = refl },
      refl,
    ) in (shown.0, shown.1, subst (ShowsRows old old marks_text shown.0 params rows) (sym none) (shows.0, shows.1, shows.2, same))

module _ (old mid : State) where
  -- the question was answered, and changed nothing
  pub older_same : TellsOf old mid (Err adopt.OlderEdition) → IsUnchanged old mid
  older_same (inl told) = shown_same marks_text list_is.selects [] old mid told.0 told.1
  older_same (inr none) = absurd none

  pub older_is : TellsOf old mid (Err adopt.OlderEdition) → IsOlder old
  older_is (inl told) = inl (told.0, shown_before old mid told.0 told.1, told.2)
  older_is (inr none) = absurd none

  module _ (same : IsUnchanged old mid) where
    first_then : (tables : Tables) → HasFirst old tables → HasFirst mid tables
    first_then tables has =
        subst (λ (db : Database). (db.schema ≡ first_layout.schema) × Holds first_layout db.trees tables) (sym same.0.now_is) has

    pub stands_then : (entries : List Entry) → StandsFirst old entries → StandsFirst mid entries
    stands_then entries first = record { tables = first.tables; has = first_then first.tables first.has; stand = first.stand }

    pub migrates_then : (new : State) → TellsOf old mid (Err adopt.OlderEdition) → MigratesMarked mid new × IsCommitted new → Migrates old new
    migrates_then new tells t = inr (older_is tells, taken)
      where
        told : (tables : Tables) → HasFirst old tables → (edition : ℤ) × (tables.book ≡ marked edition ∷ [])
        told tables has = by tells
          where
            by : TellsOf old mid (Err adopt.OlderEdition) → (edition : ℤ) × (tables.book ≡ marked edition ∷ [])
            by (inl told) =
                (told.2.0, one_book tables.book told.2.0 (sym (first_marks old mid told.0 told.1 tables has) ∙ told.2.3))
            by (inr none) = absurd none

        taken : TakesOver old new
        taken = record {
          stands = λ entries first. stands_migrated_from mid new t.0 entries (stands_then entries first);
          rows = λ tables has. let is = told tables has in t.0 tables is.0 (first_then tables has) is.1;
          committed = t.1;
        }

    pub refused_then : (new : State) (fault : MigrateFault) → Survives old mid (λ _. ⊥) → NotTakenOver mid new fault
        → NotTakenOver old new fault
    refused_then new migrate.NotABook first refused = λ tables has. refused tables (first_then tables has)
    refused_then new migrate.NewerEdition first refused = refused
    refused_then new migrate.Device first refused =
        λ tables has. elim (refused tables (first_then tables has)) [
          | inl disk ↦ inl (failed_then old mid new same first disk)
          | inr none ↦ inr (subst (λ (db : Database). HasNoRoom tables db.trees) same.0.now_is none)
        ]
    refused_then new migrate.InDoubt first refused = omega (arith, first.counts, refused)
    refused_then new migrate.Damaged first refused = λ tables has. refused tables (first_then tables has)
    refused_then new migrate.Memory first refused = tt

    pub kept_then : (new : State) → KeepsCommit mid new → KeepsCommit old new
    kept_then new kept = keeps_then old mid new (keeps_shown old mid _ _ same.0) kept

  pub leaves_then : (new : State) → (HasCleanDisk mid → TellsOf old mid (Err adopt.OlderEdition)) → Survives old mid (λ _. ⊥)
      → Survives mid new (LeavesTakenOver mid) → Survives old new (LeavesMigrated old)
  leaves_then new tells one two =
      survives_then old mid new (λ _. ⊥) (LeavesTakenOver mid) (LeavesMigrated old) (λ _ db none. absurd none)
      (λ clean db leaves.
      let told = tells (omega (arith, clean, two.clean)) in
      (older_is told, λ entries first. leaves entries (stands_then (older_same told) entries first))) one two

-- ---- a book of edition 1

device_of_first : IsOfFirst migrate.Device
device_of_first = (λ is. cc, λ is. cc, λ is. cc)

memory_of_first : IsOfFirst migrate.Memory
memory_of_first = (λ is. cc, λ is. cc, λ is. cc)

doubt_of_first : IsOfFirst migrate.InDoubt
doubt_of_first = (λ is. cc, λ is. cc, λ is. cc)

one_edition : (a b : ℤ) → book_cells (marked a) ∷ [] ≡ book_cells (marked b) ∷ [] → a ≡ b
one_edition a b is = cc

pub first_refusal : (old new : State) (why : AdoptFault) (fault : MigrateFault) → TellsOf old new (Err why)
    → Some fault ≡ refusal_of why → old.step_limit ≡ None → (entries : List Entry) → StandsFirst old entries → IsOfFirst fault
first_refusal old new adopt.OlderEdition fault tells is unlimited entries first = absurd cc
first_refusal old new adopt.NotABook fault (inl told) is unlimited entries first =
    absurd
    (told.2 first_edition (omega arith) (first_marks old new told.0 told.1 first.tables first.has ∙ ap (map book_cells) first.stand.book))
first_refusal old new adopt.NotABook fault (inr refused) is unlimited entries first =
    absurd (first_answers old new refused unlimited first.tables first.has)
first_refusal old new adopt.NewerEdition fault (inl told) is unlimited entries first =
    let rows = first_marks old new told.0 told.1 first.tables first.has ∙ ap (map book_cells) first.stand.book in
    let same = one_edition told.2.0 first_edition (sym told.2.2 ∙ rows) in
    let less : current_edition <ℤ first_edition = subst (λ (e : ℤ). current_edition <ℤ e) same told.2.1 in
    absurd (omega (arith, less))
first_refusal old new adopt.NewerEdition fault (inr none) is unlimited entries first = absurd none
first_refusal old new adopt.Device fault tells is unlimited entries first =
    let same : migrate.Device ≡ fault = cc in subst IsOfFirst same device_of_first
first_refusal old new adopt.Memory fault tells is unlimited entries first =
    let same : migrate.Memory ≡ fault = cc in subst IsOfFirst same memory_of_first

pub first_taken : (old new : State) (fault : MigrateFault) → NotTakenOver old new fault → (entries : List Entry) → StandsFirst old entries
    → IsOfFirst fault
first_taken old new migrate.NotABook refused entries first = absurd (refused first.tables first.has)
first_taken old new migrate.NewerEdition refused entries first = absurd refused
first_taken old new migrate.Device refused entries first = device_of_first
first_taken old new migrate.InDoubt refused entries first = doubt_of_first
first_taken old new migrate.Damaged refused entries first =
    absurd (refused first.tables first.has (can_migrate first.tables entries first.stand))
first_taken old new migrate.Memory refused entries first = memory_of_first

-- ---- a book of edition 2

-- what is told of its tables
abbrev pub Tells : State → AdoptFault → Type 0
Tells old why = why ≢ adopt.Device → (tables : Tables) → Has old tables → TellsBook tables.book (Err why)

pub second_is_current : (old : State) → Tells old adopt.OlderEdition → (entries : List Entry) → ¬ Stands old entries
second_is_current old tells entries stands =
    let told = tells (λ is. cc) stands.tables stands.has in
    let same = one_edition told.0 current_edition (sym told.3 ∙ ap (map book_cells) stands.stand.book) in
    let less : current_edition <ℤ current_edition = subst (λ (e : ℤ). e <ℤ current_edition) same told.2 in
    omega (arith, less)

pub second_refusal : (old new : State) (why : AdoptFault) (fault : MigrateFault) → TellsOf old new (Err why)
    → Some fault ≡ refusal_of why → Tells old why → (entries : List Entry) → Stands old entries → IsOfSecond old new fault
second_refusal old new adopt.OlderEdition fault tells is book entries stands = absurd cc
second_refusal old new adopt.NotABook fault tells is book entries stands =
    absurd (book (λ is. cc) stands.tables stands.has current_edition (omega arith) (ap (map book_cells) stands.stand.book))
second_refusal old new adopt.NewerEdition fault tells is book entries stands =
    let told = book (λ is. cc) stands.tables stands.has in
    let same = one_edition told.0 current_edition (sym told.2 ∙ ap (map book_cells) stands.stand.book) in
    let less : current_edition <ℤ current_edition = subst (λ (e : ℤ). current_edition <ℤ e) same told.1 in
    absurd (omega (arith, less))
second_refusal old new adopt.Device fault (inl told) is book entries stands = absurd told.2
second_refusal old new adopt.Device fault (inr failed) is book entries stands =
    let same : fault ≡ migrate.Device = cc in inl (same, failed)
second_refusal old new adopt.Memory fault tells is book entries stands =
    let same : fault ≡ migrate.Memory = cc in inr same

-- ---- what a result says by two clauses

pub both_ok : {A E : Type 0} (result : Result A E) (P Q R : A → Type 0) → ((a : A) → P a → Q a → R a) → IfOk result P → IfOk result Q
    → IfOk result R
both_ok (Ok a) P Q R f p q = f a p q
both_ok (Err e) P Q R f p q = tt

pub both_err : {A E : Type 0} (result : Result A E) (P Q R : E → Type 0) → ((e : E) → P e → Q e → R e) → IfErr result P
    → IfErr result Q → IfErr result R
both_err (Ok a) P Q R f p q = tt
both_err (Err e) P Q R f p q = f e p q
