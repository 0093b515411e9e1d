-- Two books, added one behind the other, and the lines in which they differ.
use Rattle.std.proofs.Common.{[], ◌++◌, List, ℕ, Option, Result, Ok, Err, refl}
use Rattle.std.specs.Prelude.{OnOk}
use Rattle.sqlite.specs.Held.{state}
use Rattle.sqlite.specs.Store.{Ghosts}
use Rattle.lot_book.specs.Facts.{Entry}
use Rattle.lot_rows.proofs.StateLemmas.{early}
use Rattle.lot_report.specs.declared.fault.ReportFault.{ReportFault}
use Rattle.lot_store.specs.declared.book.Book.{Book}
use Rattle.lot_book_report.proofs.ReadLemmas.{stands_still}
use Rattle.lot_book_report.specs.Show.{HoldsOfBook, ReadsBook}
use Rattle.lot_book_report.specs.declared.fault.ShowFault.{ShowFault}
use Rattle.lot_compare.proofs.DifferenceLemmas.{differences_of}
use Rattle.lot_compare.specs.Amounts.{AreAllDifferences, AreGainDifferences, AreHeldDifferences}
use Rattle.lot_compare.specs.Books.{AddsGains, AddsHeld, HoldsOfBoth, ShowsDifferences}
use Rattle.lot_compare.specs.Lines.{WritesLines, of_kind}
use Rattle.lot_compare.specs.Sums.{AreSums, differing, no_amounts}
use Rattle.lot_compare.specs.declared.fault.CompareFault.TheVariants.{Lines}
use Rattle.lot_compare.specs.declared.lines.Kind.TheVariants.{Gained, Held}
use Rattle.lot_compare.specs.declared.subject.Subject.{Subject}
use Rattle.lot_compare.specs.declared.sums.Side.TheVariants.{New, Old}
use Rattle.lot_compare.specs.declared.sums.Sides.{Sides}

-- ---- one book

-- what held of the first reading holds after the second
pub holds_first : {S : Type 0} (g : Ghosts S) (old mid new : Book S g) (result : Result (Unit {0}) ShowFault) (Fact : List Entry → Type 0)
    → HoldsOfBook g old mid Fact → ReadsBook {A = Unit {0}} g mid new result → OnOk result (HoldsOfBook g old new Fact)
holds_first g old mid new (Ok done) Fact holds reads = record {
  holds = λ clean entries stands. holds.holds (early (state g mid.conn) (state g new.conn) reads.crash clean) entries stands;
}
holds_first g old mid new (Err fault) Fact holds reads = tt

-- what holds of the second holds of both
pub holds_second : {S : Type 0} (g : Ghosts S) (old mid new : Book S g) (result : Result (Unit {0}) ShowFault) (Fact : List Entry → Type 0)
    → ReadsBook {A = Unit {0}} g old mid (Ok tt) → ReadsBook {A = Unit {0}} g mid new result → OnOk result (HoldsOfBook g mid new Fact)
    → OnOk result (HoldsOfBook g old new Fact)
holds_second g old mid new (Ok done) Fact first second holds = record {
  holds = λ clean entries stands.
      let was = early (state g mid.conn) (state g new.conn) second.crash clean in
      holds.holds clean entries (stands_still (state g old.conn) (state g mid.conn) entries (first.same was) stands);
}
holds_second g old mid new (Err fault) Fact first second holds = tt

-- ---- both books

gain_differences : (new old : List Entry) (none mid sums : List (Subject × Sides)) → AreSums no_amounts none
    → AddsGains New new none mid → AddsGains Old old mid sums → AreGainDifferences new old (differing sums)
gain_differences new old none mid sums are (in_new, is_new, adds_new) (in_old, is_old, adds_old) =
    (in_new, is_new, in_old, is_old, differences_of (record { new = in_new; old = in_old }) sums (adds_old (record { new = in_new; old = [] }) (adds_new no_amounts are)))

held_differences : (new old : List Entry) (none mid sums : List (Subject × Sides)) → AreSums no_amounts none
    → AddsHeld New new none mid → AddsHeld Old old mid sums → AreHeldDifferences new old (differing sums)
held_differences new old none mid sums are (in_new, is_new, adds_new) (in_old, is_old, adds_old) =
    (in_new, is_new, in_old, is_old, differences_of (record { new = in_new; old = in_old }) sums (adds_old (record { new = in_new; old = [] }) (adds_new no_amounts are)))

module _ {S T : Type 0} (g : Ghosts S) (h : Ghosts T) (new_before new_after : Book S g) (old_before old_after : Book T h)
    (gains_none gains_mid gains held_none held_mid held : List (Subject × Sides)) where
  pub both_differ : AreSums no_amounts gains_none → AreSums no_amounts held_none
      → HoldsOfBook g new_before new_after (λ entries. AddsGains New entries gains_none gains_mid)
      → HoldsOfBook g new_before new_after (λ entries. AddsHeld New entries held_none held_mid)
      → HoldsOfBook h old_before old_after (λ entries. AddsGains Old entries gains_mid gains)
      → HoldsOfBook h old_before old_after (λ entries. AddsHeld Old entries held_mid held)
      → HoldsOfBoth g h new_before new_after old_before old_after
      (λ new old. AreAllDifferences new old (of_kind Gained (differing gains) ++ of_kind Held (differing held)))
  both_differ are_gains are_held new_gains new_held old_gains old_held = record {
    holds = λ clean_new clean_old new old stands_new stands_old. (
      differing gains,
      gain_differences new old gains_none gains_mid gains are_gains (new_gains.holds clean_new new stands_new) (old_gains.holds clean_old old stands_old),
      differing held,
      held_differences new old held_none held_mid held are_held (new_held.holds clean_new new stands_new) (old_held.holds clean_old old stands_old),
      refl,
    );
  }

  pub shows_ok : (start now : Option (List ℕ)) (done : Unit {0})
      → HoldsOfBoth g h new_before new_after old_before old_after
      (λ new old. AreAllDifferences new old (of_kind Gained (differing gains) ++ of_kind Held (differing held)))
      → WritesLines (of_kind Gained (differing gains) ++ of_kind Held (differing held)) start now (Ok done)
      → HoldsOfBoth g h new_before new_after old_before old_after (λ new old. ShowsDifferences new old start now (Ok tt))
  shows_ok start now done differ wrote = record {
    holds = λ clean_new clean_old new old stands_new stands_old.
        (of_kind Gained (differing gains) ++ of_kind Held (differing held), differ.holds clean_new clean_old new old stands_new stands_old, wrote);
  }

  pub shows_cut : (start now : Option (List ℕ)) (fault : ReportFault)
      → HoldsOfBoth g h new_before new_after old_before old_after
      (λ new old. AreAllDifferences new old (of_kind Gained (differing gains) ++ of_kind Held (differing held)))
      → WritesLines (of_kind Gained (differing gains) ++ of_kind Held (differing held)) start now (Err fault)
      → HoldsOfBoth g h new_before new_after old_before old_after (λ new old. ShowsDifferences new old start now (Err (Lines fault)))
  shows_cut start now fault differ wrote = record {
    holds = λ clean_new clean_old new old stands_new stands_old.
        (of_kind Gained (differing gains) ++ of_kind Held (differing held), differ.holds clean_new clean_old new old stands_new stands_old, wrote);
  }
