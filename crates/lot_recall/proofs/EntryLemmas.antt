-- Looking an entry up: its row is among those that were read last, or the first rows from it on are read.
use Rattle.std.specs.Prelude.{◌≡◌, ◌≢◌, ◌≤◌, ℕ, ℤ, pos, ◌==◌, true, false, IfOk, List, find, Option, None, Some, Ok, Err, Result, Vec, is_some}
use Rattle.std.specs.declared.alloc.Global.{Global}
use Rattle.std.proofs.Common.{inl, inr, refl, sym, ap, ◌∙◌, arith}
use Rattle.std.proofs.lemmas.Bool.Decides.{nat_tests}
use Rattle.std.proofs.lemmas.List.Elements.{recursion_from_All}
use Rattle.sqlite.specs.Listing.{understood}
use Rattle.sqlite.specs.State.{State}
use Rattle.sqlite.specs.declared.types.Value.TheVariants.{Int}
use Rattle.sqlite_keyed.proofs.ListLemmas.{all_weaker}
use Rattle.sqlite_sql.specs.declared.ops.CompareOp.TheVariants.{Ge}
use Rattle.sqlite_tied.specs.Compute.{everything}
use Rattle.lot_command.specs.Canonical.{canonical}
use Rattle.lot_command.specs.Sayable.{IsSayable}
use Rattle.lot_command.specs.declared.command.Command.{Command}
use Rattle.lot_noted.specs.Book.{Narrates}
use Rattle.lot_page.specs.Page.{is_from}
use Rattle.lot_page.proofs.LevelLemmas.{terms, terms_reach}
use Rattle.lot_page.proofs.PageLemmas.{Asks, TakesBy, answers}
use Rattle.lot_page.proofs.EntryLemmas.{from_key, from_text}
use Rattle.lot_rows.specs.Entry.{IsEntryRow, entry_cells}
use Rattle.lot_rows.specs.Tables.{Has, Tables, entry_table}
use Rattle.lot_rows.specs.declared.entry.EntryRow.{EntryRow}
use Rattle.lot_rows.proofs.EntryLemmas.{names, order, shows}
use Rattle.lot_rows.proofs.StateLemmas.{survives_same}
use Rattle.lot_table.specs.declared.fault.Fault.{Fault}
use Rattle.lot_table.specs.declared.fault.Fault.TheVariants.{Damaged, Device}
use Rattle.lot_walk.proofs.PlaceLemmas.{stays_itself, unchanged_stays}
use Rattle.lot_walk.proofs.StepLemmas.{stays_left, undone_by}
use Rattle.lot_recall.specs.Recall.{LooksUpEntry, Notes, ReadsEntries, few_entries, is_entry_at}
use Rattle.lot_recall.proofs.FewLemmas.{few_are}
use Rattle.lot_recall.proofs.FindLemmas.{found_any}

-- ---- the statement

pub asks_few : Asks entry_table from_key (λ k. is_from (Int k)) few_entries (terms Ge 0 0) shows order names from_text
unfolding understood everything
asks_few = record {
  means = refl;
  unlisted = refl;
  bare = (refl, refl);
  whole = λ _. (omega arith, refl);
  selects = (_, refl, refl);
  held = λ _ _ holds. holds.held.1.1.1.1.1.0;
  present = λ _. (refl, tt);
  picks = λ k v x. terms_reach (Int (pos few_entries)) v (entry_cells x) (from_key k) 0 0 (refl, tt) (refl, tt);
  blind = λ _ _ _ _. refl;
  shown = λ _ _. refl;
  sorts = λ _ _ _ _. refl;
  typed = λ _. refl;
}

pub few_taken : (old new : State) (k : ℤ) → TakesBy entry_table from_key (λ k. is_from (Int k)) few_entries from_text old new k
few_taken = answers entry_table from_key (λ k. is_from (Int k)) few_entries (terms Ge 0 0) shows order names from_text asks_few

-- ---- the rows

abbrev unread_entries : Fault → Result (Vec EntryRow Global) Fault
unread_entries fault = Err fault

module _ (number : ℕ) where
  -- ---- looking up

  abbrev pub Looks : List EntryRow → List EntryRow → State → State → Result (Unit {0}) Fault → Type 0
  Looks = LooksUpEntry number

  pub entry_kept : (kept : List EntryRow) (s : State) → is_some (find (is_entry_at number) kept) ≡ true → Looks kept kept s s (Ok tt)
  entry_kept kept s some = record {
    kept = λ clean tables has are. are;
    found = λ clean tables has. inl (sym (found_any (is_entry_at number) kept) ∙ some);
    same = λ clean. stays_itself s;
    damaged = λ clean is. cc;
    failed = λ clean is. cc;
    left = λ clean. tt;
    crash = survives_same s _;
  }

  other_number : (row : EntryRow) → IsEntryRow row → (1 ≤ number → ⊥) → is_entry_at number row ≡ false
  other_number row good none = let from = good.number.0 in grind (arith, nat_tests, from, none)

  pub entry_never : (kept : List EntryRow) (s : State) → (1 ≤ number → ⊥) → Looks kept kept s s (Err Damaged)
  entry_never kept s none = record {
    kept = λ clean tables has are. are;
    found = λ clean. tt;
    same = λ clean. tt;
    damaged = λ clean is limit tables has good.
        all_weaker IsEntryRow (λ row. is_entry_at number row ≡ false) (λ row one. other_number row one none) tables.entry
        (recursion_from_All IsEntryRow tables.entry good);
    failed = λ clean is. cc;
    left = λ clean. stays_left s s (stays_itself s);
    crash = survives_same s _;
  }

  pub entry_read : (kept : List EntryRow) (found : Vec EntryRow Global) (old new : State) → ReadsEntries number old new (Ok found)
      → Looks kept found.items old new (Ok tt)
  entry_read kept found old new reads = record {
    kept = λ clean tables has are.
        few_are entry_cells IsEntryRow (λ (b : Tables). b.entry) few_entries number tables.entry found.items (reads.says clean tables has) reads.good;
    found = λ clean tables has. inr (reads.says clean tables has);
    same = λ clean. unchanged_stays old new (reads.same clean);
    damaged = λ clean is. cc;
    failed = λ clean is. cc;
    left = λ clean. tt;
    crash = reads.crash;
  }

  pub entry_unread : (kept : List EntryRow) (old new : State) (fault : Fault) → ReadsEntries number old new (Err fault) → Looks kept kept old new (Err fault)
  entry_unread kept old new fault reads = record {
    kept = λ clean tables has are. are;
    found = λ clean. tt;
    same = λ clean. tt;
    damaged = λ clean is limit tables has good.
        let of : unread_entries fault ≡ Err Damaged = cc in
        absurd (reads.damaged clean of limit tables has good);
    failed = λ clean is. let of : unread_entries fault ≡ Err Device = cc in reads.device clean of;
    left = λ clean. undone_by old new (reads.undone clean);
    crash = reads.crash;
  }

-- ---- narrations

pub was_noted : (number : ℕ) (rows : List EntryRow) (row : EntryRow) → find (is_entry_at number) rows ≡ Some row → (result : Result (Option (List ℕ)) Fault)
    → IfOk result (λ narration. Narrates row.body narration)
    → (result ≡ Err Damaged → (command : Command) → IsSayable command → row.body ≢ canonical command) → Notes number rows result
was_noted number rows row found (Ok narration) says bad = record { says = record { row = row; found = found; narrates = says }; damaged = λ is. cc }
was_noted number rows row found (Err fault) says bad = record {
  says = tt;
  damaged = λ is other some command sayable same.
      let both : Some row ≡ Some other = sym found ∙ some in
      let one : row ≡ other = cc in
      bad is command sayable (ap (λ (r : EntryRow). r.body) one ∙ same);
}

pub unfound : (number : ℕ) (rows : List EntryRow) → find (is_entry_at number) rows ≡ None → Notes number rows (Err Damaged)
unfound number rows none = record {
  says = tt;
  damaged = λ is row some. let both : None ≡ Some row = sym none ∙ some in absurd cc;
}
