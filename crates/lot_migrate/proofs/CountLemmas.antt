-- The number of the last entry, in a transaction.
use Rattle.std.proofs.Common.{◌≡◌, ◌≢◌, ◌∙◌, false, Err, IfOk, Ok, Result, All, List, [], ◌∷◌, None, ℕ, pos, map, option_map, reverse, slice_get, take, codes, refl, sym, subst, arith}
use Rattle.std.proofs.lemmas.List.Elements.{recursion_from_All}
use Rattle.std.proofs.lemmas.List.{reverse-append}
use Rattle.std.specs.List.{AllByRecursion}
use Rattle.std.specs.Option.{unwrap_or}
use Rattle.sqlite.specs.Command.TheVariants.{Select}
use Rattle.sqlite.specs.Listing.{reads_listing, understood}
use Rattle.sqlite.specs.Order.{Row}
use Rattle.sqlite.specs.Query.{IsAnswer}
use Rattle.sqlite.specs.State.{HasCleanDisk, IsUnchanged, Shown, State, Survives}
use Rattle.sqlite.specs.Term.{lit}
use Rattle.sqlite.specs.declared.types.Value.TheVariants.{Int, Null}
use Rattle.sqlite.proofs.Callers.{IsPlain, command_of, reads_as}
use Rattle.sqlite_tied.specs.Compute.{everything}
use Rattle.lot_table.proofs.GreatestLemmas.{greatest, greatest_shown, order, shows}
use Rattle.lot_table.proofs.MakeLemmas.{all_push, keeps_undone}
use Rattle.lot_table.proofs.ReadLemmas.{plain_overlay}
use Rattle.lot_table.proofs.RefusalLemmas.{IsWhole, not_damaged, steady_query}
use Rattle.lot_table.specs.Book.{IsUndone}
use Rattle.lot_table.specs.Statement.{DiskFailed, Refused}
use Rattle.lot_table.specs.declared.fault.Fault.TheVariants.{Damaged, Device}
use Rattle.lot_table.specs.declared.fault.Fault.{Fault}
use Rattle.lot_rows.specs.Entry.{IsEntryRow, entry_cells}
use Rattle.lot_rows.specs.Tables.{Has, Tables, entry_table, layout}
use Rattle.lot_rows.specs.declared.entry.EntryRow.{EntryRow}
use Rattle.lot_migrate.specs.Read.{IsFirstNumber, IsNoNumber, Reads, entries_in}
use Rattle.lot_migrate.proofs.ReadLemmas.{kept_on, reads_stops, stays_same}

abbrev at : ℕ
at = entry_table.table.tree

abbrev pub count_text : List ℕ
count_text = codes "SELECT number FROM entry ORDER BY number DESC LIMIT 1"

record IsCount : Type 0 where
  means : command_of (understood layout.schema count_text) ≡ Select (record { lets = []; body = greatest at }) (codes "number" ∷ [])
  unlisted : reads_listing layout.schema count_text ≡ false
  bare : IsPlain (understood layout.schema count_text)
  whole : IsWhole count_text 0 (understood layout.schema count_text)

count_is : IsCount
unfolding understood everything
count_is = record { means = refl; unlisted = refl; bare = (refl, refl); whole = (omega arith, refl) }

abbrev number_row : EntryRow → Row
number_row e = Int (pos e.number) ∷ []

module _ (old new : State) where
  shown_rows : (rows : List Row) → Shown count_text [] old new rows → (b : Tables) → Has old b
      → rows ≡ take 1 (map number_row (reverse b.entry))
  shown_rows rows told b has =
      let command = Select (record { lets = []; body = greatest at }) (codes "number" ∷ []) in
      let read = reads_as count_text [] old new layout.schema has.0 command count_is.means count_is.bare count_is.unlisted rows told in
      greatest_shown entry_cells number_row at old.now.trees (λ _. refl) b.entry has.1.held.1.1.1.1.1.0 rows
      (subst (λ d. IsAnswer (greatest at) d [] rows) (plain_overlay old.now.trees) (read.answer Null))

  counted_back : (rows : List Row) (number : ℕ) (back : List EntryRow) → rows ≡ take 1 (map number_row back) → IsFirstNumber rows number
      → number ≡ unwrap_or (option_map (λ (e : EntryRow). e.number) (slice_get back 0)) 0
  counted_back [] number [] is first = first
  counted_back [] number (e ∷ back) is first = absurd cc
  counted_back (row ∷ more) number [] is first = absurd cc
  counted_back (row ∷ more) number (e ∷ back) is first =
      let head : row ≡ number_row e = cc in
      let same : Int (pos number) ∷ [] ≡ number_row e = sym first ∙ head in cc

  pub counted : (rows : List Row) (number : ℕ) → Shown count_text [] old new rows → IsFirstNumber rows number
      → (b : Tables) → Has old b → number ≡ entries_in b
  counted rows number told first b has = counted_back rows number (reverse b.entry) (shown_rows rows told b has) first

  all_back : (xs : List EntryRow) → AllByRecursion IsEntryRow xs → AllByRecursion IsEntryRow (reverse xs)
  all_back [] all = tt
  all_back (x ∷ xs) all =
      subst (AllByRecursion IsEntryRow) (sym (reverse-append (x ∷ []) xs)) (all_push IsEntryRow (reverse xs) x (all_back xs all.1) all.0)

  pub no_number : (rows : List Row) → Shown count_text [] old new rows → IsNoNumber rows → (b : Tables) → Has old b
      → ¬ All IsEntryRow b.entry
  no_number rows told none b has good =
      by (reverse b.entry) (all_back b.entry (recursion_from_All IsEntryRow b.entry good)) (sym none.2 ∙ shown_rows rows told b has)
    where
      by : (back : List EntryRow) → AllByRecursion IsEntryRow back → none.0 ∷ none.1 ≡ take 1 (map number_row back) → ⊥
      by [] all is = absurd cc
      by (e ∷ back) all is = let head : none.0 ≡ number_row e = cc in none.3 e.number all.0.number head

  pub count_refused : Refused count_text [] old new Damaged → old.step_limit ≡ None → (b : Tables) → ¬ Has old b
  count_refused refused unlimited b has =
      not_damaged count_text [] old new layout.schema has.0 count_is.bare count_is.whole (greatest at) (codes "number" ∷ [])
      count_is.means count_is.unlisted refl (steady_query at [] shows order (lit (Int (pos 1))) []) unlimited refused

-- ---- the call

abbrev pub CountsEntries : State → State → Result ℕ Fault → Type 0
CountsEntries = Reads (λ count tables. count ≡ entries_in tables) (λ tables. All IsEntryRow tables.entry)

module _ (old new : State) where
  -- the question isn't answered
  pub count_fails : (fault : Fault) → (HasCleanDisk new → Refused count_text [] old new fault)
      → (HasCleanDisk new → fault ≡ Device → DiskFailed old new) → (HasCleanDisk new → IsUndone old new) → Survives old new (λ _. ⊥)
      → CountsEntries old new (Err fault)
  count_fails fault refused device undone crash = record {
    says = λ clean. tt;
    same = λ clean. tt;
    damaged = λ clean is unlimited tables has _.
        count_refused old new (subst (Refused count_text [] old new) (fault_is is) (refused clean)) unlimited tables has;
    device = λ clean is. device clean (fault_is is);
    kept = λ clean. keeps_undone old new (undone clean);
    crash = crash;
  }
    where
      fault_is : {which : Fault} → ◌≡◌ {A = Result ℕ Fault} (Err fault) (Err which) → fault ≡ which
      fault_is is = cc

  -- it is, and the number is read
  pub count_reads : (rows : List Row) (result : Result ℕ Fault) → (HasCleanDisk new → Shown count_text [] old new rows)
      → (HasCleanDisk new → IsUnchanged old new) → Survives old new (λ _. ⊥)
      → IfOk result (IsFirstNumber rows) → (result ≡ Err Damaged → IsNoNumber rows) → result ≢ Err Device
      → CountsEntries old new result
  count_reads rows (Ok count) shown same crash first damaged no_device = record {
    says = λ clean tables has. counted old new rows count (shown clean) first tables has;
    same = λ clean. stays_same old new (same clean);
    damaged = λ clean is. absurd cc;
    device = λ clean is. absurd cc;
    kept = λ clean. kept_on old new (stays_same old new (same clean));
    crash = crash;
  }
  count_reads rows (Err fault) shown same crash first damaged no_device =
      reads_stops (λ count tables. count ≡ entries_in tables) (λ tables. All IsEntryRow tables.entry) old new fault crash
      (λ clean. stays_same old new (same clean))
      (λ clean is tables has. no_number old new rows (shown clean) (damaged is) tables has) no_device
