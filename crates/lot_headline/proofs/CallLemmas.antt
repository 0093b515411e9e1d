-- Calls of the program that follow one another on the files of a book.
use Rattle.std.proofs.Common.{◌≡◌, ◌∙◌, inl, inr, ap, refl, subst, sym, arith, ℕ, List, [], ◌∷◌, IsTrue, None, Option, Result, Err}
use Rattle.std.proofs.Math.Logic.{∥∥₁_elim, ∥∥₁_map}
use Rattle.sqlite.specs.Files.{file_state}
use Rattle.sqlite.specs.Held.{Held}
use Rattle.sqlite.specs.State.{HasCleanDisk, State, Survives}
use Rattle.sqlite.specs.Tree.{Trees}
use Rattle.sqlite_disk.specs.declared.Disk.{Ghosts}
use Rattle.sqlite_schema.specs.declared.schema.Schema.{Schema}
use Rattle.sqlite_store.specs.declared.store.FileStore.{FileStore}
use Rattle.lot_args.specs.declared.action.Action.{Action}
use Rattle.lot_args.specs.declared.action.Action.TheVariants.{Check, Init, Migrate, Post, PostRow, Import, ImportBy, Report, Reconcile, Restore, Verify}
use Rattle.lot_args.specs.declared.action.Keeping.{Keeping}
use Rattle.lot_args.specs.declared.action.Keeping.TheVariants.{AllOrNone, Each}
use Rattle.lot_args.specs.declared.action.Restore.{Restore as RestoreOf}
use Rattle.lot_args.specs.declared.action.Saying.{Saying}
use Rattle.lot_args.specs.declared.action.Saying.TheVariants.{Digest, Verified}
use Rattle.lot_book.specs.Facts.{Entry}
use Rattle.lot_command.specs.declared.key.Key.{Key}
use Rattle.lot_input.specs.Input.{Reading}
use Rattle.lot_input.specs.Exported.{ExportMeans, IsFaultyExport}
use Rattle.lot_input.specs.Rows.{FileMeans, IsFaultyFile}
use Rattle.lot_input.specs.Text.{IsFaultyText, TextMeans}
use Rattle.lot_input.specs.declared.fault.InputFault.{InputFault}
use Rattle.lot_io.specs.Writes.{WritesMade}
use Rattle.lot_migrate.proofs.MigrateLemmas.{second_is_current}
use Rattle.lot_migrate.specs.Migrate.{IsOlder, LeavesMigrated}
use Rattle.lot_restore.specs.Restoring.{MayMake}
use Rattle.lot_rounding.specs.declared.asked.Asked.{Asked}
use Rattle.lot_rounding.specs.declared.rounding.Rounding.{Rounding}
use Rattle.lot_rows.specs.Tables.{layout}
use Rattle.lot_store.proofs.AdoptLemmas.{tells_book}
use Rattle.lot_store.proofs.RunLemmas.{leaves_what_stands}
use Rattle.lot_store.specs.Create.{LeavesAfter}
use Rattle.lot_store.specs.declared.fault.AdoptFault.{AdoptFault}
use Rattle.lot_store.specs.declared.fault.AdoptFault.TheVariants as adopt
use Rattle.lot_store.specs.declared.run.RunEnd.{RunEnd}
use Rattle.lot_stored.specs.StandFor.{Left, Stands}
use Rattle.lot_table.specs.Shape.{schema_of}
use Rattle.lot_cli.proofs.ReopenLemmas.{found_after_stop}
use Rattle.lot_cli.specs.Init.{IsMade}
use Rattle.lot_cli.specs.Reopen.{LeavesOneOf, StandsForOneOf}
use Rattle.lot_cli.specs.Reports.{Reports, Writing}
use Rattle.lot_cli.specs.Restore.{RestoresBook, terms_for}
use Rattle.lot_cli.specs.Runs.{RowAlone, RunsBy, RunsInput, RunsOn, decimals_of}
use Rattle.lot_cli.specs.Says.{Told}
use Rattle.lot_cli.specs.Serve.{SaysMigrated, SaysVerified, Serves}
use Rattle.lot_cli.specs.Sessions.{Sent, SessionLeaves, StopsLeave}
use Rattle.lot_headline.proofs.HeadlineLemmas.{headline}
use Rattle.lot_headline.specs.Calls.{CallsFollow, IsCall, IsFound, IsOnBook, IsReopened, IsSettled, nothing_sent, sent_by, sent_in, sent_of, sent_on}
use Rattle.lot_headline.specs.Headline.{Headline}

-- ---- what isn't so of a book

-- it has tables
has_tables : (s : State) (book : List Entry) → Stands s book → s.now.schema ≡ schema_of [] → ⊥
has_tables s book stands none =
    let same : layout.schema ≡ schema_of [] = sym stands.has.0 ∙ none in
    let tables = ap (λ (schema : Schema). schema.tables) same in
    cc

other_fault : ◌≡◌ {A = Result (Unit {0}) AdoptFault} (Err adopt.OlderEdition) (Err adopt.Device) → ⊥
other_fault same = cc

-- it is of this edition
isnt_older : (s : State) (book : List Entry) → Stands s book → s.step_limit ≡ None → IsOlder s → ⊥
isnt_older s book stands unlimited older =
    second_is_current s (λ known tables has. tells_book s s _ older unlimited other_fault tables has) book stands

-- ---- what a stop of a call leaves

module _ (old new : State) (clean : HasCleanDisk new) (book : List Entry) (stands : Stands old book) (unlimited : old.step_limit ≡ None)
    (is_open : IsTrue old.is_open) (could : (trees : Trees) → old.may_leave trees → Left trees book) where
  abbrev Leave : Sent → Type 0
  Leave sent = LeavesOneOf (SessionLeaves book sent) new.may_leave

  -- a call that commits nothing leaves the book
  stays : (P : Trees → Type 0) → ((trees : Trees) → P trees → ⊥) → Survives old new P → Leave nothing_sent
  stays P none survives trees may = elim (survives.crash clean trees may) [
    | inl was ↦ (book, inl ([], record { done = []; split = refl; judged = refl }), could trees was)
    | inr new ↦ absurd (none trees new)
  ]

  unchanged : Survives old new (λ _. ⊥) → Leave nothing_sent
  unchanged survives = stays (λ _. ⊥) (λ _ none. none) survives

  module _ (before written : Option (List ℕ)) (calls : WritesMade) where
    module _ (rounding : Option Rounding) where
      ran : (keeping : Keeping) (numbers : List ℕ) (asked : List (Key × Asked)) (end : RunEnd)
          (runs : RunsBy keeping rounding numbers asked old new before written calls end)
          → Leave (sent_in old new before written calls rounding keeping numbers asked end runs)
      ran Each numbers asked end runs = λ trees may. runs.session.stop clean is_open book stands trees may
      ran AllOrNone numbers asked end runs = runs.stop clean is_open book stands

      ran_on : (keeping : Keeping) (numbers : List ℕ) (asked : List (Key × Asked)) (told : Told)
          (runs : RunsOn rounding keeping numbers asked old new before written calls told)
          → Leave (sent_on old new before written calls rounding keeping numbers asked told runs)
      ran_on keeping numbers asked told (inl runs) = ran keeping numbers asked runs.end runs.runs
      ran_on keeping numbers asked told (inr left) = unchanged left.1.crash

      ran_of : (Means : List ℕ → List ℕ × List (Key × Asked) → Type 0) (IsFaulty : List ℕ → InputFault → Type 0) (keeping : Keeping)
          (reading : Reading) (told : Told) (runs : RunsInput Means IsFaulty rounding keeping reading old new before written calls told)
          → Leave (sent_of old new before written calls rounding _ _ keeping told runs)
      ran_of Means IsFaulty keeping reading told (inl faulty) = unchanged faulty.2.crash
      ran_of Means IsFaulty keeping reading told (inr given) = ran_on keeping given.0.0 given.0.1 told given.2

    reported : (writing : Writing) (told : Told) → Reports writing old new before written calls told → Leave nothing_sent
    reported writing told (inl shown) = unchanged shown.1.read.crash
    reported writing told (inr left) = unchanged left.1.crash

    migrated : (told : Told) → SaysMigrated old new before written calls told → Leave nothing_sent
    migrated told (inl said) = stays (LeavesMigrated old) (λ trees leaves. isnt_older old book stands unlimited leaves.0) said.0.crash
    migrated told (inr said) = stays (LeavesMigrated old) (λ trees leaves. isnt_older old book stands unlimited leaves.0) said.1.crash

    verified : (saying : Saying) (told : Told) → SaysVerified saying old new before written calls told → Leave nothing_sent
    verified Verified told (inl said) = unchanged said.0.crash
    verified Digest told (inl said) = unchanged said.1.read.crash
    verified saying told (inr said) = unchanged said.1.crash

    restored : (asked : RestoreOf) (input : Reading) (told : Told) → RestoresBook (terms_for asked) input old new before written calls told → Leave nothing_sent
    restored asked input told (inl is) = absurd (has_tables old book stands is.empty)
    restored asked input told (inr isnt) =
        let other = isnt.1.other (has_tables old book stands) in
        stays (MayMake (terms_for asked) input.bytes (Err isnt.0))
        (λ trees leaves. subst (λ fault. MayMake (terms_for asked) input.bytes (Err fault) trees) other leaves) isnt.1.crash

  served : (action : Action) → IsOnBook action → (input : Reading) (before written : Option (List ℕ)) (calls : WritesMade) (told : Told)
      → (serves : Serves action (record { input = input; old = old; new = new; before = before; written = written; calls = calls; told = told }))
      → Leave (sent_by action (record { input = input; old = old; new = new; before = before; written = written; calls = calls; told = told }) serves)
  served (Check rounding) on input before written calls told serves = absurd on
  served (Init path) on input before written calls told (inl made) = absurd (has_tables old book stands made.0.empty)
  served (Init path) on input before written calls told (inr isnt) =
      stays (LeavesAfter isnt.0 old) (λ trees leaves. has_tables old book stands leaves.1.0) isnt.1.crash
  served (Migrate path) on input before written calls told serves = migrated before written calls told serves
  served (Post asked) on input before written calls told serves =
      ran_of before written calls asked.rounding (TextMeans asked.batch asked.from) IsFaultyText asked.keeping input told serves
  served (PostRow path batch reference rounding) on input before written calls told (inl unfit) = unchanged unfit.untouched.crash
  served (PostRow path batch reference rounding) on input before written calls told (inr runs) =
      ran_of before written calls rounding (RowAlone batch reference) IsFaultyText Each input told runs
  served (Import asked) on input before written calls told serves =
      let decimals = decimals_of asked.rounding in
      ran_of before written calls asked.rounding (FileMeans asked.batch asked.accounts decimals asked.from asked.except.items)
      (IsFaultyFile decimals asked.except.items) asked.keeping input told serves
  served (ImportBy asked) on input before written calls told serves =
      ran_of before written calls asked.rounding (ExportMeans asked.batch asked.profile asked.except.items)
      (IsFaultyExport asked.profile asked.except.items) asked.keeping input told serves
  served (Report path report) on input before written calls told serves = reported before written calls _ told serves
  served (Reconcile asked) on input before written calls told (inl (fault, gives, untouched, said)) = unchanged untouched.crash
  served (Reconcile asked) on input before written calls told (inr (file, all, lines, is, agrees, reports)) =
      reported before written calls _ told reports
  served (Restore asked) on input before written calls told serves = restored before written calls asked input told serves
  served (Verify path saying) on input before written calls told serves = verified before written calls saying told serves

-- ---- calls that follow one another

module _ {D : Type 0} {g : Ghosts D} where
  call_leaves : (opened stopped : Held (FileStore D g)) (sent : Sent) (book : List Entry) → Stands (file_state opened) book
      → IsFound opened → IsCall opened stopped sent → LeavesOneOf (SessionLeaves book sent) (file_state stopped).may_leave
  call_leaves opened stopped sent book stands found call =
      let could = leaves_what_stands (file_state opened) (λ clean is_open. found.opened.0.clean) (λ is_open. found.settled.safe) found.settled.clean
      found.opened.0.is_open book stands in
      subst (λ (s : Sent). LeavesOneOf (SessionLeaves book s) (file_state stopped).may_leave) (sym call.sends)
      (served (file_state opened) (file_state stopped) call.clean book stands found.unlimited found.opened.0.is_open could
      call.action call.on_book call.input call.before call.written call.calls call.told call.serves)

  calls_leave : (opened last : Held (FileStore D g)) (sessions : List Sent) (book : List Entry) → Stands (file_state opened) book
      → IsFound opened → CallsFollow opened sessions last → StandsForOneOf (StopsLeave book sessions) (file_state last)
  calls_leave opened last [] book stands found same =
      ∣ (book, refl, subst (λ (c : Held (FileStore D g)). Stands (file_state c) book) (sym same) stands) ∣₁
  calls_leave opened last (sent ∷ more) book stands found (stopped, next, call, reopened, rest) =
      ∥∥₁_elim (found_after_stop stopped reopened.files next (SessionLeaves book sent)
      (call_leaves opened stopped sent book stands found call) reopened.again) squash₁
      (λ mid. ∥∥₁_map (calls_leave next last more mid.0 mid.2 reopened.found rest)
      (λ end.
      let all : (after : List Entry) × StopsLeave book (sent ∷ more) after × Stands (file_state last) after =
      (end.0, (mid.0, mid.1, end.1), end.2) in
      all))

  pub headline_kept : (opened last : Held (FileStore D g)) (sessions : List Sent) (before : List Entry)
      (stands : Stands (file_state opened) before) → IsFound opened → CallsFollow opened sessions last
      → StandsForOneOf (Headline stands.book.place before sessions) (file_state last)
  headline_kept opened last sessions before stands found calls =
      ∥∥₁_map (calls_leave opened last sessions before stands found calls)
      (λ end.
      let all : (book : List Entry) × Headline stands.book.place before sessions book × Stands (file_state last) book =
      (end.0, headline stands.book.place before sessions end.0 stands.book.placed stands.book.is end.1, end.2) in
      all)

  -- a book that was made, and then is found again
  made_leaves : (opened stopped : Held (FileStore D g)) → IsMade (file_state opened) (file_state stopped) → IsSettled stopped
      → LeavesOneOf (λ book. book ≡ []) (file_state stopped).may_leave
  made_leaves opened stopped made settled trees may =
      let committed = made.committed settled.clean in (
        [],
        refl,
        leaves_what_stands (file_state stopped) (λ _ _. sym committed.1) (λ _. settled.safe) settled.clean committed.0 []
            (made.made settled.clean) trees may,
      )

  of_none : (last : Held (FileStore D g)) (sessions : List Sent) (place : ℕ) → place ≡ 0 → StandsForOneOf (Headline place [] sessions) (file_state last)
      → StandsForOneOf (Headline 0 [] sessions) (file_state last)
  of_none last sessions place none = subst (λ n. StandsForOneOf (Headline n [] sessions) (file_state last)) none

  pub headline_made : (opened stopped next last : Held (FileStore D g)) (sessions : List Sent)
      → IsMade (file_state opened) (file_state stopped) → IsSettled stopped
      → IsReopened stopped next → CallsFollow next sessions last
      → StandsForOneOf (Headline 0 [] sessions) (file_state last)
  headline_made opened stopped next last sessions made settled reopened calls =
      ∥∥₁_elim (found_after_stop stopped reopened.files next (λ book. book ≡ []) (made_leaves opened stopped made settled) reopened.again)
      squash₁
      (λ found.
      let stands = subst (Stands (file_state next)) found.1 found.2 in
      of_none last sessions stands.book.place (omega (arith, stands.book.placed))
      (headline_kept next last sessions [] stands reopened.found calls))
