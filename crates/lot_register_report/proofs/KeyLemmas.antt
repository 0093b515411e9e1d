-- The keys of the legs of a book, which are taken leg by leg.
use Rattle.std.specs.Prelude.{◌≡◌, ◌≢◌, true, IfErr, List, map, OnOk, Result, Ok, Err}
use Rattle.std.proofs.Common.{refl, sym, ◌∙◌}
use Rattle.std.proofs.lemmas.Bool.{true≢false}
use Rattle.std.proofs.lemmas.List.{map-id}
use Rattle.sqlite.specs.Store.{Ghosts}
use Rattle.lot_book.specs.Facts.{Entry}
use Rattle.lot_book_report.proofs.CsvLemmas.{walked}
use Rattle.lot_book_report.proofs.ReadLemmas.{reads_whole, was_read}
use Rattle.lot_book_report.specs.Show.{ReadsBook}
use Rattle.lot_book_report.specs.declared.fault.ShowFault.{ShowFault}
use Rattle.lot_book_report.specs.declared.fault.ShowFault.TheVariants.{Row as AtRow, Walk as AtWalk}
use Rattle.lot_legs.specs.Legs.{AreDatedLegs, dated_legs}
use Rattle.lot_legs.specs.declared.leg.DatedLeg.{DatedLeg}
use Rattle.lot_noted.specs.Book.{Asked}
use Rattle.lot_register_report.specs.Show.{HasTaken, IsOfKeys}
use Rattle.lot_register_report.specs.declared.keys.KeyTally.{KeyTally}
use Rattle.lot_report.specs.declared.fault.ReportFault.{ReportFault}
use Rattle.lot_report.specs.declared.fault.ReportFault.TheVariants.{Memory, Range, Write}
use Rattle.lot_report.specs.declared.fault.RowFault.TheVariants.{Report, Spent}
use Rattle.lot_store.specs.declared.book.Book.{Book}
use Rattle.lot_store.specs.declared.book.Condition.TheVariants.{NeedsReopen as Unusable}
use Rattle.lot_store.specs.declared.fault.StoreFault.TheVariants.{NeedsReopen}
use Rattle.lot_store.specs.declared.walk.WalkFault.TheVariants.{Failed}
use Rattle.lot_sums.specs.Gather.{Gathers}
use Rattle.lot_tally.specs.Rows.{Adds}

-- a leg is taken, whatever the others
pub leg_taken : (P Q : Type 0) → (P → Q) → (result : Result (Unit {0}) ReportFault) → OnOk result P → IfErr result (λ fault. fault ≡ Memory)
    → Adds true Q result
leg_taken P Q then (Ok done) taken cause = (refl, then taken)
leg_taken P Q then (Err Range) taken cause = cc
leg_taken P Q then (Err Write) taken cause = cc
leg_taken P Q then (Err Memory) taken cause = tt

-- the legs that a walk over a book gives are those of the book
pub told_legs : (entries : List Entry) (all : List DatedLeg) → AreDatedLegs tt entries all → map (λ (leg : DatedLeg). leg) all ≡ dated_legs entries
told_legs entries all are = map-id all ∙ are

-- legs that aren't all taken
pub of_keys : (asked : Asked) (legs : List DatedLeg) (tally : KeyTally) (fault : ShowFault)
    → Gathers (λ (before : List DatedLeg) (leg : DatedLeg). true) (HasTaken asked) legs tally (Err fault) → IsOfKeys fault
of_keys asked legs tally (AtWalk fault) gathers = tt
of_keys asked legs tally (AtRow (Report Range)) (given, leg, rest, is, fit, unfit) = absurd (true≢false (sym unfit))
of_keys asked legs tally (AtRow (Report Memory)) gathers = tt
of_keys asked legs tally (AtRow (Report Write)) gathers = absurd gathers
of_keys asked legs tally (AtRow Spent) gathers = gathers

-- a book that was read could be used
pub was_usable : {S A : Type 0} (g : Ghosts S) (old new : Book S g) (made : A) → ReadsBook {A = A} g old new (Ok made) → old.condition ≢ Unusable
was_usable {S} {A} g old new made reads spent =
    let is : ◌≡◌ {A = Result A ShowFault} (Ok made) (Err (AtWalk (Failed NeedsReopen))) = reads.reopen.1 spent in cc

-- a book that was read, and something else is made of that
pub made_reads : {S A B : Type 0} (g : Ghosts S) (old new : Book S g) (read : A) (made : B) → ReadsBook {A = A} g old new (Ok read)
    → ReadsBook {A = B} g old new (Ok made)
made_reads {S} {A} {B} g old new read made reads =
    reads_whole g {A = B} old new made (was_read g {A = A} old new read reads) (was_usable {A = A} g old new read reads)

-- the rows of a walk were read, and something is made of them
pub keyed_reads : {S A : Type 0} (g : Ghosts S) (book start later new : Book S g) (done : Unit {0}) (made : A) → start ≡ book → new ≡ later
    → ReadsBook {A = Unit {0}} g start later (Ok done) → ReadsBook {A = A} g book new (Ok made)
keyed_reads {S} {A} g book start later new done made first last gathers =
    made_reads {A = Unit {0}} {B = A} g book new done made (walked {A = Unit {0}} g book start later new (Ok done) first last gathers)
