-- What commands come to on tables, whatever these stand for: one that is accepted, and a run of them.
use Rattle.std.specs.Prelude.{◌≡◌, ℕ, pos, suc, Bool, true, false, not, cond, List, [], ◌∷◌, ◌++◌, filter, slice_get, IfSome, Option, None, Some, option_map, Result, Err}
use Rattle.std.specs.List.{AllByRecursion}
use Rattle.std.specs.Ordering.{is_eq, is_gt}
use Rattle.std.specs.declared.cmp.Ordering.{Ordering}
use Rattle.std.proofs.Common.{refl, sym, ap, subst, ◌∙◌}
use Rattle.std.proofs.lemmas.Cmp.{tied_itself}
use Rattle.sqlite.specs.Effect.{Database}
use Rattle.sqlite.specs.State.{State}
use Rattle.sqlite.specs.declared.types.Value.TheVariants.{Int, Text}
use Rattle.sqlite_keyed.proofs.ListLemmas.{all_weaker, filter_none}
use Rattle.sqlite_keyed.specs.Lists.{insert_sorted}
use Rattle.sqlite_sql.proofs.QueryLemmas.{key_cmp_total}
use Rattle.sqlite_value.specs.Keys.{rising}
use Rattle.lot_command.specs.Canonical.{canonical}
use Rattle.lot_command.specs.Sayable.{IsSayable}
use Rattle.lot_command.specs.declared.command.Command.{Command}
use Rattle.lot_command.specs.declared.key.Key.{Key}
use Rattle.lot_book.specs.Book.{entry_of}
use Rattle.lot_book.specs.Facts.{Facts}
use Rattle.lot_book.specs.Openings.{FactsWithOpenings, IsAcceptedWith, ties_on}
use Rattle.lot_book.specs.declared.change.Change.{Change}
use Rattle.lot_book.specs.declared.verdict.Verdict.{Verdict}
use Rattle.lot_book.specs.declared.verdict.Verdict.TheVariants.{Accepted}
use Rattle.lot_laws.proofs.RecordedBook.{key_was_new}
use Rattle.lot_load.specs.Damage.{HasText, text_in}
use Rattle.lot_rows.specs.Entry.{IsUnnamed, entry_cells, is_named, named}
use Rattle.lot_rows.specs.Tables.{Has, Tables, layout}
use Rattle.lot_rows.specs.declared.entry.EntryRow.{EntryRow}
use Rattle.lot_store.specs.declared.fault.StoreFault.{StoreFault}
use Rattle.lot_stored.specs.Rows.{entry_row}
use Rattle.lot_table.specs.Book.{Holds}
use Rattle.lot_table.specs.Rows.{has_key, key_order, put_in, without_key}
use Rattle.lot_table.specs.Statement.{DiskFailed}
use Rattle.lot_write.specs.Write.{written, written_all}
use Rattle.lot_write.specs.Writes.{own_writes, writes_of}
use Rattle.lot_write.specs.declared.write.Write.{Write}
use Rattle.lot_write.specs.declared.write.Write.TheVariants as write
use Rattle.lot_write.proofs.NamedLemmas.{own_no_entry}
use Rattle.lot_write.proofs.AsPutLemmas.{left-made}
use Rattle.lot_write.proofs.WrittenLemmas.{IsNoEntry}
use Rattle.lot_store.specs.Apply.{LeavesAlone}
use Rattle.lot_store.specs.ByText.{AnswersFirst, EndsByText, EndsUnpaired, HasTurned, LeavesByText, MeetsUnpairedFirst, RunsByText, TurnAllByText, TurnsByText}
use Rattle.lot_store.specs.declared.run.Ending.{Ending}
use Rattle.lot_store.specs.declared.run.Ending.TheVariants.{Complete, Output, Stopped}
use Rattle.lot_store.proofs.DamageLemmas.{of_damage_since}

-- tables are those of a state's database alone
pub has_along : (a b : State) (tables : Tables) → b.now ≡ a.now → Has a tables → Has b tables
has_along a b tables same has =
    subst (λ (db : Database). (db.schema ≡ layout.schema) × Holds layout db.trees tables) (sym same) has

-- ---- a row that is put where none passes a test

module _ {X : Type 0} (p : X → Bool) where
  none_passes : (xs : List X) → slice_get (filter p xs) 0 ≡ None → AllByRecursion (λ x. p x ≡ false) xs
  none_passes [] none = tt
  none_passes (x ∷ xs) none = by (p x) refl none (none_passes xs)
    where
      by : (b : Bool) → p x ≡ b → slice_get (cond b (x ∷ filter p xs) (filter p xs)) 0 ≡ None
          → (slice_get (filter p xs) 0 ≡ None → AllByRecursion (λ y. p y ≡ false) xs) → AllByRecursion (λ y. p y ≡ false) (x ∷ xs)
      by true here e more = absurd cc
      by false out e more = (out, more e)

  all_filtered : (P : X → Type 0) (xs : List X) → AllByRecursion P xs → AllByRecursion P (filter p xs)
  all_filtered P [] all = tt
  all_filtered P (x ∷ xs) all =
      elim (p x) as (λ b. AllByRecursion P (cond b (x ∷ filter p xs) (filter p xs))) [
        | true ↦ (all.0, all_filtered P xs all.1)
        | false ↦ all_filtered P xs all.1
      ]

  -- it is alone among those that pass
  inserted-alone : (cmp : X → X → Ordering) (new : X) (xs : List X) → p new ≡ true → AllByRecursion (λ x. p x ≡ false) xs
      → filter p (insert_sorted cmp new xs) ≡ new ∷ []
  inserted-alone cmp new [] passes none = ap (λ b. cond b (new ∷ []) []) passes
  inserted-alone cmp new (x ∷ xs) passes none =
      elim (is_gt (cmp new x)) as (λ b. filter p (cond b (x ∷ insert_sorted cmp new xs) (new ∷ x ∷ xs)) ≡ new ∷ []) [
        | true ↦
            ap (λ b. cond b (x ∷ filter p (insert_sorted cmp new xs)) (filter p (insert_sorted cmp new xs))) none.0
            ∙ inserted-alone cmp new xs passes none.1
        | false ↦
            ap (λ b. cond b (new ∷ filter p (x ∷ xs)) (filter p (x ∷ xs))) passes
            ∙ ap (λ more. new ∷ more) (filter_none p (x ∷ xs) none)
      ]

-- ---- a command that is accepted on tables that have no text under its key

not_mapped_none : {X Y : Type 0} (f : X → Y) (found : Option X) → option_map f found ≡ None → found ≡ None
not_mapped_none f None is = refl
not_mapped_none f (Some x) is = absurd cc

entry_left : (one : Write) → IsNoEntry one → (old : Tables) → (written one old).entry ≡ old.entry
entry_left (write.Entry row) is old = absurd is
entry_left _ is old = refl

-- a row has its own source and name
own_name : (row : EntryRow) → is_named row.source row.name (entry_cells row) ≡ true
own_name row =
    ap is_eq (tied_itself (key_cmp_total (rising 2 []) 1) (Int (pos 0) ∷ Text row.source ∷ Text row.name ∷ []))

module _ (known : Facts) (key : Key) (command : Command) (change : Change) (tables : Tables) (none : text_in tables key ≡ None) where
  row : EntryRow
  row = entry_row (suc known.entries) (entry_of key command change.legs)

  unnamed : IsUnnamed row tables.entry
  unfolding row
  unnamed = none_passes (λ (e : EntryRow). is_named key.source key.name (entry_cells e)) tables.entry (not_mapped_none (λ (e : EntryRow). e.body) (slice_get (named key.source key.name tables.entry) 0) none)

  pub text_written : text_in (written_all (writes_of known key command change) tables) key ≡ Some (canonical command)
  unfolding row
  text_written =
      let p : EntryRow → Bool = λ e. is_named key.source key.name (entry_cells e) in
      let first : List EntryRow → Option (List ℕ) = λ es. option_map (λ (e : EntryRow). e.body) (slice_get es 0) in
      let put : (written_all (writes_of known key command change) tables).entry ≡ put_in entry_cells 1 row tables.entry =
      left-made (λ (t : Tables). t.entry) (own_writes known command change) (written (write.Entry row) tables)
      (all_weaker IsNoEntry _ entry_left _ (own_no_entry known command change)) in
      ap (λ es. first (filter p es)) put
      ∙ ap first (inserted-alone p (λ a b. key_order 1 (entry_cells a) (entry_cells b)) row (without_key entry_cells 1 (entry_cells row) tables.entry) (own_name row)
      (all_filtered (λ (e : EntryRow). not (has_key 1 (entry_cells row) (entry_cells e))) (λ (e : EntryRow). p e ≡ false) tables.entry unnamed))

-- its writes are made, and its text stands there
pub turns_accepted : (known : FactsWithOpenings) (key : Key) (command : Command) (change : Change) (writes : List Write) → writes ≡ writes_of known.facts key command change
    → IsAcceptedWith known command change → IsSayable command → (tables : Tables) → HasText tables key known.facts.text → (new : State)
    → Has new (written_all writes tables) → HasTurned tables key command new Accepted
turns_accepted known key command change writes are accepted sayable tables text new has =
    let none = (key_was_new (ties_on known) known.facts command change.legs known.facts.text accepted.0).0 in
    let absent : text_in tables key ≡ None = text.0 ∙ none in (
      written_all (writes_of known.facts key command change) tables,
      (
        known,
        text,
        (change, accepted, refl, (text_written known.facts key command change tables absent, (command, sayable, refl))),
      ),
      subst (λ w. Has new (written_all w tables)) are has,
    )

-- ---- commands, one after another

pub turn_more : (tables : Tables) (done : List (Key × Command)) (verdicts : List Verdict) (mid after : Tables) (next : Key × Command) (verdict : Verdict)
    → TurnAllByText tables done verdicts mid → TurnsByText mid next.0 next.1 verdict after
    → TurnAllByText tables (done ++ next ∷ []) (verdicts ++ verdict ∷ []) after
turn_more tables [] [] mid after next verdict all one = (after, subst (λ (t : Tables). TurnsByText t next.0 next.1 verdict after) all one, refl)
turn_more tables [] (v ∷ verdicts) mid after next verdict all one = absurd all
turn_more tables (first ∷ done) [] mid after next verdict all one = absurd all
turn_more tables (first ∷ done) (v ∷ verdicts) mid after next verdict all one =
    (all.0, all.1, turn_more all.0 done verdicts mid after next verdict all.2 one)

-- what an answer leaves
pub leaves_by_text : (tables : Tables) (key : Key) (command : Command) (old new : State) (verdict : Option Verdict) → IfSome verdict (HasTurned tables key command new)
    → LeavesAlone verdict old new → Has old tables → LeavesByText verdict tables key command new
leaves_by_text tables key command old new None turned alone has = λ opened. has_along old new tables (alone.1 opened) has
leaves_by_text tables key command old new (Some verdict) turned alone has = turned

-- ---- on a database that was only looked at before

module _ (old mid new : State) (since : DiskFailed mid new → DiskFailed old new) where
  answers_since : (tables : Tables) (left : List (Key × Command)) (answer : Result Verdict StoreFault) → AnswersFirst tables left mid new answer → AnswersFirst tables left old new answer
  answers_since tables [] answer told = tt
  answers_since tables (next ∷ left) answer told =
      record { damage = λ damaged. of_damage_since old mid new since answer (told.damage damaged); leaves = told.leaves }

  ends_since : (tables : Tables) (left : List (Key × Command)) (answer : Result Verdict StoreFault) (ending : Ending) → EndsByText tables left mid new answer ending
      → EndsByText tables left old new answer ending
  ends_since tables left answer Complete ends = ends
  ends_since tables left answer (Stopped fault) ends = answers_since tables left (Err fault) ends
  ends_since tables left answer Output ends = answers_since tables left answer ends

  meets_since : (tables : Tables) (left : List (Key × Command)) (answer : Result Verdict StoreFault) → MeetsUnpairedFirst tables left mid new answer
      → MeetsUnpairedFirst tables left old new answer
  meets_since tables [] answer meets = tt
  meets_since tables (next ∷ left) answer meets = λ unpaired. of_damage_since old mid new since answer (meets unpaired)

  unpaired_since : (tables : Tables) (left : List (Key × Command)) (answer : Result Verdict StoreFault) (ending : Ending)
      → EndsUnpaired tables left mid new answer ending → EndsUnpaired tables left old new answer ending
  unpaired_since tables left answer Complete ends = ends
  unpaired_since tables left answer (Stopped fault) ends = meets_since tables left (Err fault) ends
  unpaired_since tables left answer Output ends = meets_since tables left answer ends

  pub runs_by_text_since : (tables : Tables) (commands : List (Key × Command)) (verdicts : List Verdict) (answer : Result Verdict StoreFault) (ending : Ending)
      → RunsByText tables commands verdicts mid new answer ending → RunsByText tables commands verdicts old new answer ending
  runs_by_text_since tables commands verdicts answer ending ran = record {
    done = ran.done;
    left = ran.left;
    split = ran.split;
    after = ran.after;
    turn = ran.turn;
    ends = ends_since ran.after ran.left answer ending ran.ends;
    paired = ran.paired;
    unpaired = unpaired_since tables ran.left answer ending ran.unpaired;
  }
