-- What is written of a report with totals that is fed the rows of a walk.
use Rattle.std.proofs.Common.{◌≡◌, ◌≢◌, ◌∙◌, [], ◌∷◌, ◌++◌, List, ℕ, Bool, Option, Some, None, Result, Ok, Err, map, append_assoc, refl, sym, ap, subst, inl, inr}
use Rattle.std.proofs.KnownBytes.{Appends-nil}
use Rattle.std.proofs.lemmas.List.{map-append}
use Rattle.std.specs.Io.KnownBytes.{Appends}
use Rattle.std.specs.List.{AllByRecursion}
use Rattle.sqlite.specs.Store.{Ghosts}
use Rattle.lot_book.specs.Facts.{Entry}
use Rattle.lot_report.specs.Fed.{EndsReport, GrowsByRow, IsFed, text_of}
use Rattle.lot_report.specs.declared.fault.ReportFault.{ReportFault}
use Rattle.lot_report.specs.declared.fault.ReportFault.TheVariants.{Range, Write, Memory}
use Rattle.lot_report.specs.declared.fault.RowFault.{RowFault}
use Rattle.lot_report.specs.declared.fault.RowFault.TheVariants.{Report, Spent}
use Rattle.lot_rows.specs.Tables.{Tables}
use Rattle.lot_book_report.proofs.GivenLemmas.{Gave, begins, begins_at_fault, gave_all, gave_all_rows, gave_more}
use Rattle.lot_book_report.specs.Show.{HoldsOfBook, HoldsOfTables, IsOfBook, Shows, ShowsSome, WritesWhole}
use Rattle.lot_book_report.specs.declared.fault.ShowFault.{ShowFault}
use Rattle.lot_book_report.specs.declared.fault.ShowFault.TheVariants.{Row as AtRow, Walk as AtWalk}
use Rattle.lot_store.specs.Walk.{Walks, WalksOverRows}
use Rattle.lot_store.specs.declared.book.Book.{Book}
use Rattle.lot_store.specs.declared.fault.StoreFault.{StoreFault}
use Rattle.lot_store.specs.declared.walk.Walk.{Walk}
use Rattle.lot_store.specs.declared.walk.WalkFault.{WalkFault}
use Rattle.lot_store.specs.declared.walk.WalkFault.TheVariants.{Ended, Failed}

-- ---- rows that were given, wherever they come from

module _ {Shown Row Kept : Type 0} (told : Shown → Row) (lines : Row → List (List ℕ)) (fits : List Row → Row → Bool)
    (HasTaken : List Row → Kept → Type 0) (IsEnd : List Row → List (List ℕ) → Type 0) (start : Option (List ℕ)) where
  -- a report has taken the rows that were given and no other, and they are written behind what the writer held
  pub record HasFed (given : List Shown) (now : Option (List ℕ)) (kept : Option Kept) : Type 0 where
    pub fed : IsFed fits HasTaken (map told given) kept
    pub written : Appends start now (text_of lines (map told given))

  -- the report of rows that are all is written, or as much of it as its fault leaves
  abbrev pub ShowsAll : (List Shown → Type 0) → Option (List ℕ) → Result (Unit {0}) ShowFault → Type 0
  ShowsAll AreAll now result = (all : List Shown) × AreAll all × Shows lines fits IsEnd (map told all) start now result

  -- no row is written yet
  pub fed_none : (kept : Option Kept) → IsFed fits HasTaken [] kept → HasFed [] start kept
  fed_none kept fed = record { fed = fed; written = Appends-nil start }

  -- what a fault leaves of a row doesn't tell of what the report keeps
  cut_row : (rows : List Row) (row : Row) (left : Option Kept) (later : Option (List ℕ)) (fault : ReportFault)
      → GrowsByRow lines fits HasTaken rows row left start later (Err (Report fault))
      → GrowsByRow lines fits (λ all (kept : Unit {0}). Unit {0}) rows row None start later (Err (Report fault))
  cut_row rows row left later Range cut = cut
  cut_row rows row left later Write cut = cut
  cut_row rows row left later Memory cut = cut

  module _ (given : List Shown) (now : Option (List ℕ)) (kept : Option Kept) (has : HasFed given now kept) where
    -- one more row is written
    pub fed_more : (later : Option (List ℕ)) (left : Option Kept) (row : Shown) (fed : Row) (done : Unit {0}) → fed ≡ told row
        → GrowsByRow lines fits HasTaken (map told given) fed left start later (Ok done) → HasFed (given ++ row ∷ []) later left
    fed_more later left row fed done is (fit, taken, written) =
        let rows : map told given ++ fed ∷ [] ≡ map told (given ++ row ∷ []) =
        ap (λ (last : Row). map told given ++ last ∷ []) is ∙ sym (map-append told given (row ∷ [])) in
        record {
          fed = subst (λ (all : List Row). IsFed fits HasTaken all left) rows taken;
          written = subst (λ (all : List Row). Appends start later (text_of lines all)) rows written;
        }

    module _ (AreAll : List Shown → Type 0) where
      -- the book stops
      pub stopped : (fault : StoreFault) → (rest : List Shown) × AreAll (given ++ rest) → ShowsAll AreAll now (Err (AtWalk (Failed fault)))
      stopped fault (rest, all) = (given ++ rest, all, (map told given, map told rest, map-append told given rest, has.fed.0, has.written))

      -- the report ends at a row
      pub cut : (later : Option (List ℕ)) (left : Option Kept) (row : Shown) (fed : Row) (fault : RowFault) → fault ≢ Spent → fed ≡ told row
          → (rest : List Shown) × AreAll ((given ++ row ∷ []) ++ rest) → GrowsByRow lines fits HasTaken (map told given) fed left start later (Err fault)
          → ShowsAll AreAll later (Err (AtRow fault))
      cut later left row fed (Report fault) fresh is (rest, all) grows = (
        (given ++ row ∷ []) ++ rest,
        all,
        inl (
          map told given,
          fed,
          map told rest,
          ap (map told) (append_assoc given (row ∷ []) rest) ∙ map-append told given (row ∷ rest)
              ∙ ap (λ (next : Row). map told given ++ next ∷ map told rest) (sym is),
          has.fed.0,
          cut_row (map told given) fed left later fault grows,
        ),
      )
      cut later left row fed Spent fresh is rest grows = absurd (fresh refl)

      -- all is written
      pub whole : (later : Option (List ℕ)) (done : Unit {0}) → AreAll given → EndsReport lines fits IsEnd (map told given) start later (Ok done)
          → ShowsAll AreAll later (Ok tt)
      whole later done all ends = (given, all, ends)

      -- the report ends behind the last row
      pub cut_at_end : (later : Option (List ℕ)) (fault : RowFault) → fault ≢ Spent → AreAll given
          → EndsReport lines fits IsEnd (map told given) start later (Err fault) → ShowsAll AreAll later (Err (AtRow fault))
      cut_at_end later (Report fault) fresh all ends = (given, all, inr (has.fed.0, ends))
      cut_at_end later Spent fresh all ends = absurd (fresh refl)

-- whichever rows those are
abbrev pub AreAny : {Shown : Type 0} → List Shown → Type 0
AreAny rows = Unit {0}

pub any_begins : {Shown : Type 0} (given : List Shown) → (rest : List Shown) × AreAny (given ++ rest)
any_begins given = ([], tt)

-- ---- rows of a walk

module _ {S Place Asked Shown Row Kept : Type 0} (g : Ghosts S) (IsGood : Shown → Type 0) (AreAll : Asked → List Entry → List Shown → Type 0)
    (IsBehind : Place → Tables → Asked → List Entry → List Shown → Type 0) (AreAllRows : Asked → Tables → List Shown → Type 0)
    (IsBehindRows : Place → Tables → Asked → List Shown → Type 0) (told : Shown → Row) (lines : Row → List (List ℕ)) (fits : List Row → Row → Bool)
    (HasTaken : List Row → Kept → Type 0) (IsEnd : List Row → List (List ℕ) → Type 0) (book : Book S g) (asked : Asked) (start : Option (List ℕ)) where
  -- a walk that began at the book has given rows, all of them good, and a report has taken these
  pub record Feeds (walk : Walk S Place g) (now : Option (List ℕ)) (kept : Option Kept) : Type 0 where
    pub given : List Shown
    pub gave : Gave g AreAll IsBehind IsBehindRows book asked walk given
    pub good : AllByRecursion IsGood given
    pub has : HasFed told lines fits HasTaken IsEnd start given now kept

  -- what is said of the report of the book, of that of some rows, and of that of the rows of the tables
  abbrev pub ShowsBook : Book S g → Option (List ℕ) → Result (Unit {0}) ShowFault → Type 0
  ShowsBook after now result = HoldsOfBook g book after (λ entries. ShowsAll told lines fits HasTaken IsEnd start (AreAll asked entries) now result)

  abbrev pub ShowsRows : Book S g → Option (List ℕ) → Type 0
  ShowsRows after now = HoldsOfTables g book after (λ tables. (all : List Shown) × AreAllRows asked tables all × AllByRecursion IsGood all
      × WritesWhole lines fits IsEnd (map told all) start now)

pub all_with : {X : Type 0} (P : X → Type 0) (xs : List X) (x : X) → AllByRecursion P xs → P x → AllByRecursion P (xs ++ x ∷ [])
all_with P [] x all more = (more, tt)
all_with P (first ∷ xs) x all more = (all.0, all_with P xs x all.1 more)

module _ {S Place Asked Shown Row Kept : Type 0} {g : Ghosts S} {IsGood : Shown → Type 0} {AreAll : Asked → List Entry → List Shown → Type 0}
    {IsBehind : Place → Tables → Asked → List Entry → List Shown → Type 0} {AreAllRows : Asked → Tables → List Shown → Type 0}
    {IsBehindRows : Place → Tables → Asked → List Shown → Type 0} {told : Shown → Row} {lines : Row → List (List ℕ)} {fits : List Row → Row → Bool}
    {HasTaken : List Row → Kept → Type 0} {IsEnd : List Row → List (List ℕ) → Type 0} {book : Book S g} {asked : Asked} {start : Option (List ℕ)}
    (before : Walk S Place g) (now : Option (List ℕ)) (kept : Option Kept)
    (feeds : Feeds g IsGood AreAll IsBehind AreAllRows IsBehindRows told lines fits HasTaken IsEnd book asked start before now kept) where
  -- memory ends beside the book
  pub shows_short : (fault : StoreFault)
      → ShowsBook g IsGood AreAll IsBehind AreAllRows IsBehindRows told lines fits HasTaken IsEnd book asked start before.book.now now (Err (AtWalk (Failed fault)))
  shows_short fault = record {
    holds = λ clean entries stands.
        stopped told lines fits HasTaken IsEnd start feeds.given now kept feeds.has (AreAll asked entries) fault (begins feeds.gave clean entries stands);
  }

  -- the book stops
  pub some_stopped : (fault : StoreFault) → ShowsSome lines fits IsEnd start now (Err (AtWalk (Failed fault)))
  some_stopped fault =
      let (all, any, shows) = stopped told lines fits HasTaken IsEnd start feeds.given now kept feeds.has AreAny fault (any_begins feeds.given) in
      (map told all, shows)

  module _ (after : Walk S Place g) where
    abbrev pub Called : Result (Option Shown) WalkFault → Type 0
    Called result = Walks g (λ (row : Shown). row) IsGood AreAll IsBehind before after result

    abbrev pub CalledOverRows : Result (Option Shown) WalkFault → Type 0
    CalledOverRows result = WalksOverRows g (λ (row : Shown). row) AreAllRows IsBehindRows before after result

    abbrev pub ShowsAfter : Option (List ℕ) → Result (Unit {0}) ShowFault → Type 0
    ShowsAfter later result =
        ShowsBook g IsGood AreAll IsBehind AreAllRows IsBehindRows told lines fits HasTaken IsEnd book asked start after.book.now later result

    pub shows_stopped : (at : WalkFault) → Called (Err at) → (fault : StoreFault) → ShowsAfter now (Err (AtWalk (Failed fault)))
    shows_stopped at walks fault = record {
      holds = λ clean entries stands.
          stopped told lines fits HasTaken IsEnd start feeds.given now kept feeds.has (AreAll asked entries) fault
          (begins_at_fault feeds.gave at walks clean entries stands);
    }

    -- one more row is written
    pub feeds_more : (later : Option (List ℕ)) (left : Option Kept) (row : Shown) (fed : Row) (done : Unit {0}) → fed ≡ told row
        → Called (Ok (Some row)) → CalledOverRows (Ok (Some row)) → GrowsByRow lines fits HasTaken (map told feeds.given) fed left start later (Ok done)
        → Feeds g IsGood AreAll IsBehind AreAllRows IsBehindRows told lines fits HasTaken IsEnd book asked start after later left
    feeds_more later left row fed done is walks rows grows = record {
      given = feeds.given ++ row ∷ [];
      gave = gave_more feeds.gave row walks rows;
      good = all_with IsGood feeds.given row feeds.good walks.good;
      has = fed_more told lines fits HasTaken IsEnd start feeds.given now kept feeds.has later left row fed done is grows;
    }

    -- the report ends at a row
    module _ (later : Option (List ℕ)) (left : Option Kept) (row : Shown) (fed : Row) (fault : RowFault) (fresh : fault ≢ Spent) (is : fed ≡ told row)
        (grows : GrowsByRow lines fits HasTaken (map told feeds.given) fed left start later (Err fault)) where
      pub shows_cut : Called (Ok (Some row)) → CalledOverRows (Ok (Some row)) → ShowsAfter later (Err (AtRow fault))
      shows_cut walks rows = record {
        holds = λ clean entries stands.
            cut told lines fits HasTaken IsEnd start feeds.given now kept feeds.has (AreAll asked entries) later left row fed fault fresh is
            (begins (gave_more feeds.gave row walks rows) clean entries stands) grows;
      }

      pub some_cut : ShowsSome lines fits IsEnd start later (Err (AtRow fault))
      some_cut =
          let (all, any, shows) = cut told lines fits HasTaken IsEnd start feeds.given now kept feeds.has AreAny later left row fed fault fresh is
          (any_begins (feeds.given ++ row ∷ [])) grows in
          (map told all, shows)

    -- the report ends behind the last row
    module _ (later : Option (List ℕ)) (fault : RowFault) (fresh : fault ≢ Spent)
        (ends : EndsReport lines fits IsEnd (map told feeds.given) start later (Err fault)) where
      pub shows_cut_at_end : Called (Ok None) → ShowsAfter later (Err (AtRow fault))
      shows_cut_at_end walks = record {
        holds = λ clean entries stands.
            cut_at_end told lines fits HasTaken IsEnd start feeds.given now kept feeds.has (AreAll asked entries) later fault fresh
            (gave_all feeds.gave walks clean entries stands) ends;
      }

      pub some_cut_at_end : ShowsSome lines fits IsEnd start later (Err (AtRow fault))
      some_cut_at_end =
          let (all, any, shows) = cut_at_end told lines fits HasTaken IsEnd start feeds.given now kept feeds.has AreAny later fault fresh tt ends in
          (map told all, shows)

    -- all is written
    module _ (later : Option (List ℕ)) (done : Unit {0}) (ends : EndsReport lines fits IsEnd (map told feeds.given) start later (Ok done)) where
      pub shows_whole : Called (Ok None) → ShowsAfter later (Ok tt)
      shows_whole walks = record {
        holds = λ clean entries stands.
            whole told lines fits HasTaken IsEnd start feeds.given now kept feeds.has (AreAll asked entries) later done
            (gave_all feeds.gave walks clean entries stands) ends;
      }

      pub some_whole : ShowsSome lines fits IsEnd start later (Ok tt)
      some_whole = (map told feeds.given, ends)

      pub rows_whole : Called (Ok None) → CalledOverRows (Ok None)
          → ShowsRows g IsGood AreAll IsBehind AreAllRows IsBehindRows told lines fits HasTaken IsEnd book asked start after.book.now later
      rows_whole walks rows = record {
        holds = λ clean tables has. (feeds.given, gave_all_rows feeds.gave walks rows clean tables has, feeds.good, ends);
      }

-- the book stops before the first row
pub none_shown : {Row : Type 0} (lines : Row → List (List ℕ)) (fits : List Row → Row → Bool) (IsEnd : List Row → List (List ℕ) → Type 0) (start : Option (List ℕ))
    (fault : ShowFault) → IsOfBook fault → fault ≢ AtWalk Ended → ShowsSome lines fits IsEnd start start (Err fault)
none_shown lines fits IsEnd start (AtWalk (Failed cause)) of_book going = ([], ([], [], refl, tt, Appends-nil start))
none_shown lines fits IsEnd start (AtWalk Ended) of_book going = absurd (going refl)
none_shown lines fits IsEnd start (AtRow fault) of_book going = absurd of_book
