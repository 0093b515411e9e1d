-- What was held at the end of a day, as it is found and written.
use Rattle.std.proofs.Common.{◌≡◌, ◌≢◌, ◌∙◌, [], ◌∷◌, ◌++◌, List, ℕ, ℤ, true, Option, Some, Result, Ok, Err, map, refl, sym, ap, subst, inl, inr}
use Rattle.std.proofs.KnownBytes.{Appends-nil}
use Rattle.std.proofs.lemmas.Bool.{true≢false}
use Rattle.std.proofs.lemmas.List.{map-id}
use Rattle.std.specs.Prelude.{IfErr, OnOk, Vec}
use Rattle.std.specs.declared.alloc.Global.{Global}
use Rattle.sqlite.specs.Store.{Ghosts}
use Rattle.lot_book.specs.Facts.{Entry}
use Rattle.lot_book.specs.declared.holding.Holding.{Holding}
use Rattle.lot_book_report.proofs.CsvLemmas.{walked}
use Rattle.lot_book_report.proofs.PriceLemmas.{all_valued}
use Rattle.lot_book_report.proofs.ReadLemmas.{IsRead, reads_cut, reads_whole, was_read}
use Rattle.lot_book_report.specs.Fault.{HasCause}
use Rattle.lot_book_report.specs.Holdings.{kept, listed, valued_by, valued_with}
use Rattle.lot_book_report.specs.Show.{IsOfBook, IsOfReport, ReadsBook}
use Rattle.lot_book_report.specs.declared.fault.ShowFault.{ShowFault}
use Rattle.lot_book_report.specs.declared.fault.ShowFault.TheVariants.{Row as AtRow, Walk as AtWalk}
use Rattle.lot_book_report.specs.declared.prices.DayPrices.{DayPrices}
use Rattle.lot_csv.specs.declared.holdings.Columns.{Columns}
use Rattle.lot_csv.specs.declared.holdings.Columns.TheVariants.{Values}
use Rattle.lot_io.specs.Writes.{NoneFailed, WritesMade}
use Rattle.lot_legs.specs.Legs.{AreAllLegRows, AreDatedLegs, dated_legs}
use Rattle.lot_legs.specs.declared.leg.DatedLeg.{DatedLeg}
use Rattle.lot_position.specs.Held.{AreInRange, Keeps}
use Rattle.lot_position.specs.declared.positions.Positions.{Positions}
use Rattle.lot_report.specs.declared.fault.ReportFault.{ReportFault}
use Rattle.lot_report.specs.declared.fault.ReportFault.TheVariants.{Memory, Range, Write}
use Rattle.lot_report.specs.declared.fault.RowFault.TheVariants.{Report, Spent}
use Rattle.lot_report.specs.declared.holdings.ValuedHolding.{ValuedHolding}
use Rattle.lot_rows.specs.Tables.{Tables}
use Rattle.lot_store.specs.declared.book.Book.{Book}
use Rattle.lot_store.specs.declared.book.Condition.TheVariants.{NeedsReopen as Unusable}
use Rattle.lot_store.specs.declared.fault.StoreFault.TheVariants.{NeedsReopen}
use Rattle.lot_store.specs.declared.walk.WalkFault.TheVariants.{Ended, Failed}
use Rattle.lot_stored.specs.StandFor.{StandFor}
use Rattle.lot_sums.specs.Gather.{Gathers}
use Rattle.lot_sums.specs.Held.{FindsHeld, ShowsAllHoldingsOn, ShowsHeld, ShowsHoldingsOn, ShowsRows, valued_at}
use Rattle.lot_tally.specs.Rows.{Adds}
use Rattle.lot_tally.specs.declared.key.TableForm.{TableForm}
use Rattle.lot_tally.specs.declared.key.TableForm.TheVariants.{Csv, Text}
use Rattle.lot_walk.proofs.PriceLemmas.{prices_at_day}
use Rattle.lot_walk.specs.Prices.{prices_by}
use Rattle.lot_walk.specs.declared.price.PairPrice.{PairPrice}

-- ---- legs

-- a leg is added, whatever the sums
module _ (on : ℤ) (legs : List DatedLeg) (leg : DatedLeg) (old new : Positions) (keeps : Keeps on legs old) where
  pub leg_added : (result : Result (Unit {0}) ReportFault)
      → OnOk result ((day : ℤ) (all : List DatedLeg) → Keeps day all old → Keeps day (all ++ leg ∷ []) new) → IfErr result (λ fault. fault ≡ Memory)
      → Adds true (Keeps on (legs ++ leg ∷ []) new) result
  leg_added (Ok done) added cause = (refl, added on legs keeps)
  leg_added (Err Range) added cause = cc
  leg_added (Err Write) added cause = cc
  leg_added (Err Memory) added cause = tt

-- the legs that a walk over a book gives are those of the book
pub told_legs : (entries : List Entry) (all : List DatedLeg) → AreDatedLegs tt entries all → map (λ (leg : DatedLeg). leg) all ≡ dated_legs entries
told_legs entries all are = map-id all ∙ are

module _ (on : ℤ) (legs : List DatedLeg) where
  -- legs that aren't all taken
  pub none_found : (positions : Positions) (fault : ShowFault) → Gathers (λ (before : List DatedLeg) (leg : DatedLeg). true) (Keeps on) legs positions (Err fault)
      → FindsHeld on legs (Err fault)
  none_found positions (AtWalk (Failed fault)) gathers = tt
  none_found positions (AtWalk Ended) gathers = gathers
  none_found positions (AtRow (Report Range)) (given, row, rest, is, fit, unfit) = absurd (true≢false (sym unfit))
  none_found positions (AtRow (Report Memory)) gathers = tt
  none_found positions (AtRow (Report Write)) gathers = gathers
  none_found positions (AtRow Spent) gathers = gathers

  -- legs whose positions aren't listed
  pub none_listed : (fault : ReportFault) → (fault ≡ Range → ¬ AreInRange on legs) → fault ≢ Write → FindsHeld on legs (Err (AtRow (Report fault)))
  none_listed Range range cause = range refl
  none_listed Write range cause = absurd (cause refl)
  none_listed Memory range cause = tt

  -- no call of the writer was made then
  pub none_called : (fault : ShowFault) (calls : WritesMade) → FindsHeld on legs (Err fault) → NoneFailed calls.before calls.after → HasCause (Err fault) calls
  none_called (AtWalk fault) calls finds none = none
  none_called (AtRow (Report Range)) calls finds none = λ writer. absurd (true≢false (sym writer))
  none_called (AtRow (Report Memory)) calls finds none = λ writer. absurd (true≢false (sym writer))
  none_called (AtRow (Report Write)) calls finds none = absurd finds
  none_called (AtRow Spent) calls finds none = λ writer. absurd (true≢false (sym writer))

-- ---- prices

pub at_kept : (prices : DayPrices) (rows : List Holding) → map (valued_with (Some prices)) rows ≡ map (valued_at (kept prices)) rows
at_kept prices [] = refl
at_kept prices (row ∷ rows) = ap (λ (all : List ValuedHolding). valued_at (kept prices) row ∷ all) (at_kept prices rows)

pub at_listed : (prices : List PairPrice) (rows : List Holding) → map (valued_by (Some prices)) rows ≡ map (valued_at (listed prices)) rows
at_listed prices [] = refl
at_listed prices (row ∷ rows) = ap (λ (all : List ValuedHolding). valued_at (listed prices) row ∷ all) (at_listed prices rows)

module _ (form : TableForm) (prices : DayPrices) (rows : List Holding) (start now : Option (List ℕ)) (result : Result (Unit {0}) ShowFault)
    (shows : ShowsRows form Values (map (valued_with (Some prices)) rows) start now result) where
  pub shows_kept : ShowsRows form Values (map (valued_at (kept prices)) rows) start now result
  shows_kept = subst (λ (all : List ValuedHolding). ShowsRows form Values all start now result) (at_kept prices rows) shows

  pub shows_listed : (list : List PairPrice) → ((base quote : List ℕ) → kept prices base quote ≡ listed list base quote)
      → ShowsRows form Values (map (valued_at (listed list)) rows) start now result
  shows_listed list same =
      subst (λ (all : List ValuedHolding). ShowsRows form Values all start now result) (all_valued prices list same rows ∙ at_listed list rows) shows

-- ---- the report

never_spent : (form : TableForm) (columns : Columns) (rows : List ValuedHolding) (start now : Option (List ℕ))
    → ShowsRows form columns rows start now (Err (AtRow Spent)) → ⊥
never_spent Text columns rows start now shows = shows
never_spent Csv columns rows start now shows = shows

module _ (form : TableForm) (on : ℤ) where
  -- the book stops before
  pub none_shown : (price : List ℕ → List ℕ → Option ℕ) (legs : List DatedLeg) (start : Option (List ℕ)) (fault : ShowFault) → IsOfBook fault
      → fault ≢ AtWalk Ended → ShowsHeld form on price legs start start (Err fault)
  none_shown price legs start (AtWalk (Failed cause)) of_book going = Appends-nil start
  none_shown price legs start (AtWalk Ended) of_book going = absurd (going refl)
  none_shown price legs start (AtRow fault) of_book going = absurd of_book

  pub prices_stopped : (day : ℤ) (tables : Tables) (entries : List Entry) → StandFor tables entries → (start : Option (List ℕ)) (fault : ShowFault)
      → IsOfBook fault → fault ≢ AtWalk Ended → ShowsHoldingsOn form on day entries start start (Err fault)
  prices_stopped day tables entries stand start fault of_book going = (
    prices_by day tables.price,
    prices_at_day tables entries day stand,
    none_shown (listed (prices_by day tables.price)) (dated_legs entries) start fault of_book going,
  )

  -- what was held isn't found
  pub not_found : (price : List ℕ → List ℕ → Option ℕ) (legs : List DatedLeg) (start : Option (List ℕ)) (fault : ShowFault) → FindsHeld on legs (Err fault)
      → ShowsHeld form on price legs start start (Err fault)
  not_found price legs start (AtWalk (Failed cause)) finds = Appends-nil start
  not_found price legs start (AtWalk Ended) finds = finds
  not_found price legs start (AtRow (Report Range)) finds = inl (finds, Appends-nil start)
  not_found price legs start (AtRow (Report Memory)) finds = inl (Appends-nil start)
  not_found price legs start (AtRow (Report Write)) finds = absurd finds
  not_found price legs start (AtRow Spent) finds = finds

  -- its rows are written
  module _ (price : List ℕ → List ℕ → Option ℕ) (rows : Vec Holding Global) (start now : Option (List ℕ)) where
    pub found : (legs : List DatedLeg) (result : Result (Unit {0}) ShowFault) → FindsHeld on legs (Ok rows) → IfErr result IsOfReport
        → ShowsRows form Values (map (valued_at price) rows.items) start now result → ShowsHeld form on price legs start now result
    found legs (Ok done) finds of_report shows = (finds.0, rows.items, finds.1, shows)
    found legs (Err (AtWalk fault)) finds of_report shows = absurd of_report
    found legs (Err (AtRow (Report Range))) finds of_report shows = inr (finds.0, rows.items, finds.1, shows)
    found legs (Err (AtRow (Report Write))) finds of_report shows = (finds.0, rows.items, finds.1, shows)
    found legs (Err (AtRow (Report Memory))) finds of_report shows = inr (finds.0, rows.items, finds.1, shows)
    found legs (Err (AtRow Spent)) finds of_report shows = absurd (never_spent form Values (map (valued_at price) rows.items) start now shows)

  pub all_found : (day : ℤ) (tables : Tables) (rows : Vec Holding Global) (start now : Option (List ℕ)) (result : Result (Unit {0}) ShowFault)
      → (legs : List DatedLeg) × AreAllLegRows tt tables legs × FindsHeld on legs (Ok rows) → IfErr result IsOfReport
      → ShowsRows form Values (map (valued_at (listed (prices_by day tables.price))) rows.items) start now result
      → ShowsAllHoldingsOn form on day tables start now result
  all_found day tables rows start now (Ok done) (legs, are, finds) of_report shows =
      (legs, are, found (listed (prices_by day tables.price)) rows start now legs (Ok done) finds of_report shows)
  all_found day tables rows start now (Err fault) has of_report shows = tt

-- ---- the book

-- the legs were read, and their positions are listed, or not
module _ {S : Type 0} (g : Ghosts S) (book start later new : Book S g) (done : Unit {0}) (first : start ≡ book) (last : new ≡ later)
    (gathers : ReadsBook {A = Unit {0}} g start later (Ok done)) where
  reads : ReadsBook {A = Unit {0}} g book new (Ok done)
  reads = walked {A = Unit {0}} g book start later new (Ok done) first last gathers

  usable : book.condition ≢ Unusable
  usable spent = let is : ◌≡◌ {A = Result (Unit {0}) ShowFault} (Ok done) (Err (AtWalk (Failed NeedsReopen))) = reads.reopen.1 spent in cc

  pub listed_reads : {A : Type 0} (made : A) → ReadsBook {A = A} g book new (Ok made)
  listed_reads {A} made = reads_whole g {A = A} book new made (was_read g {A = Unit {0}} book new done reads) usable

  pub unlisted_reads : {A : Type 0} (fault : ReportFault) → ReadsBook {A = A} g book new (Err (AtRow (Report fault)))
  unlisted_reads {A} fault = reads_cut g {A = A} book new (Report fault) (λ is. cc) (was_read g {A = Unit {0}} book new done reads) usable

-- it was read, and then the rows were written
pub reads_rows : {S : Type 0} (g : Ghosts S) (old new : Book S g) (form : TableForm) (columns : Columns) (rows : List ValuedHolding) (start now : Option (List ℕ))
    (result : Result (Unit {0}) ShowFault) → IsRead g old new → old.condition ≢ Unusable → IfErr result IsOfReport → ShowsRows form columns rows start now result
    → ReadsBook {A = Unit {0}} g old new result
reads_rows g old new form columns rows start now (Ok done) read usable of_report shows = reads_whole g old new done read usable
reads_rows g old new form columns rows start now (Err (AtWalk fault)) read usable of_report shows = absurd of_report
reads_rows g old new form columns rows start now (Err (AtRow fault)) read usable of_report shows =
    reads_cut g old new fault
    (λ is. never_spent form columns rows start now (subst (λ f. ShowsRows form columns rows start now (Err (AtRow f))) is shows)) read usable
