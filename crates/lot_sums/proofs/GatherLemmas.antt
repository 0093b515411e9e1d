-- Rows of a walk that are taken into a table.
use Rattle.std.proofs.Common.{◌≡◌, ◌∙◌, [], ◌∷◌, ◌++◌, List, Bool, Option, Some, None, Result, Ok, Err, map, append-nil, refl, sym, ap, subst}
use Rattle.std.proofs.lemmas.List.{map-append}
use Rattle.std.specs.Prelude.{IsTrue}
use Rattle.std.specs.List.{AllByRecursion}
use Rattle.sqlite.specs.Held.{state}
use Rattle.sqlite.specs.State.{HasCleanDisk}
use Rattle.sqlite.specs.Store.{Ghosts}
use Rattle.lot_book.specs.Facts.{Entry}
use Rattle.lot_book_report.proofs.FeedLemmas.{all_with}
use Rattle.lot_book_report.specs.Csv.{AreGood}
use Rattle.lot_book_report.specs.declared.fault.ShowFault.{ShowFault}
use Rattle.lot_book_report.specs.declared.fault.ShowFault.TheVariants.{Row as AtRow, Walk as AtWalk}
use Rattle.lot_report.specs.Report.{EachFits}
use Rattle.lot_report.specs.declared.fault.ReportFault.{ReportFault}
use Rattle.lot_report.specs.declared.fault.ReportFault.TheVariants.{Memory, Range, Write}
use Rattle.lot_report.specs.declared.fault.RowFault.TheVariants.{Report}
use Rattle.lot_rows.proofs.StateLemmas.{early}
use Rattle.lot_rows.specs.Tables.{Tables}
use Rattle.lot_store.specs.Walk.{HasGiven, HasGivenRows, Walks, WalksOverRows}
use Rattle.lot_store.specs.declared.fault.StoreFault.{StoreFault}
use Rattle.lot_store.specs.declared.walk.Walk.{Walk}
use Rattle.lot_store.specs.declared.walk.WalkFault.{WalkFault}
use Rattle.lot_store.specs.declared.walk.WalkFault.TheVariants.{Failed}
use Rattle.lot_tally.specs.Rows.{Adds}
use Rattle.lot_sums.specs.Gather.{AreToldAs, Gathers, HasUnfit}

-- one more row fits behind rows that do
fits_then : {X : Type 0} (fits : List X → X → Bool) (before rows : List X) (row : X) → EachFits fits before rows → IsTrue (fits (before ++ rows) row)
    → EachFits fits before (rows ++ row ∷ [])
fits_then fits before [] row each fit = (subst (λ (all : List _). IsTrue (fits all row)) (append-nil before) fit, tt)
fits_then fits before (first ∷ rows) row each fit =
    (each.0, fits_then fits (before ++ first ∷ []) rows row each.1 (subst (λ (all : List _). IsTrue (fits all row)) (sym (append_one before first rows)) fit))
  where
    append_one : {X : Type 0} (before : List X) (first : X) (rows : List X) → (before ++ first ∷ []) ++ rows ≡ before ++ first ∷ rows
    append_one [] first rows = refl
    append_one (b ∷ before) first rows = ap (λ (all : List _). b ∷ all) (append_one before first rows)

module _ {S Place Value Asked Shown Told Kept Terms : Type 0} (g : Ghosts S) (shown : Value → Shown) (IsGood : Value → Type 0)
    (AreAll : Asked → List Entry → List Shown → Type 0) (IsBehind : Place → Tables → Asked → List Entry → List Shown → Type 0)
    (AreAllRows : Asked → Tables → List Shown → Type 0) (IsBehindRows : Place → Tables → Asked → List Shown → Type 0)
    (told : Value → Told) (fits : Terms → List Told → Told → Bool) (HasTaken : Terms → List Told → Kept → Type 0) (first : Walk S Place g) (begun : Kept) where
  abbrev pub Called : Walk S Place g → Walk S Place g → Result (Option Value) WalkFault → Type 0
  Called = Walks g shown IsGood AreAll IsBehind

  abbrev pub CalledOverRows : Walk S Place g → Walk S Place g → Result (Option Value) WalkFault → Type 0
  CalledOverRows = WalksOverRows g shown AreAllRows IsBehindRows

  -- what is said of a call behind which the walk stands so
  abbrev pub Gathering : Walk S Place g → Kept → Result (Unit {0}) ShowFault → Type 0
  Gathering walk kept result =
      (terms : Terms) → HasTaken terms [] begun → (tell : Shown → Told) → AreToldAs shown told tell
      → HasCleanDisk (state g walk.book.now.conn) → (asked : Asked) (entries : List Entry) → HasGiven g AreAll IsBehind first asked entries []
      → (all : List Shown) × AreAll asked entries all × Gathers (fits terms) (HasTaken terms) (map tell all) kept result

  abbrev pub GatheringRows : Walk S Place g → Kept → Type 0
  GatheringRows walk kept =
      (terms : Terms) → HasTaken terms [] begun → (tell : Shown → Told) → AreToldAs shown told tell
      → HasCleanDisk (state g walk.book.now.conn) → (asked : Asked) (tables : Tables) → HasGivenRows g IsBehindRows first asked tables []
      → (all : List Shown) × AreAllRows asked tables all × AreGood shown IsGood all × Gathers (fits terms) (HasTaken terms) (map tell all) kept (Ok tt)

  -- the rows that the walk has given since it began are taken
  pub record Took (walk : Walk S Place g) (kept : Kept) : Type 0 where
    pub values : List Value
    pub of_book : HasCleanDisk (state g walk.book.now.conn) → (asked : Asked) (entries : List Entry) → HasGiven g AreAll IsBehind first asked entries []
        → HasGiven g AreAll IsBehind walk asked entries (map shown values)
    pub of_rows : HasCleanDisk (state g walk.book.now.conn) → (asked : Asked) (tables : Tables) → HasGivenRows g IsBehindRows first asked tables []
        → HasGivenRows g IsBehindRows walk asked tables (map shown values)
    pub good : AllByRecursion IsGood values
    pub taken : (terms : Terms) → HasTaken terms [] begun → EachFits (fits terms) [] (map told values) × HasTaken terms (map told values) kept

  pub took_none : Took first begun
  took_none = record {
    values = [];
    of_book = λ clean asked entries has. has;
    of_rows = λ clean asked tables has. has;
    good = tt;
    taken = λ terms fresh. (tt, fresh);
  }

  -- what the table is told of values is told of what is shown of them
  told_as : (tell : Shown → Told) → AreToldAs shown told tell → (values : List Value) → map told values ≡ map tell (map shown values)
  told_as tell same [] = refl
  told_as tell same (value ∷ values) =
      ap (λ (one : Told). one ∷ map told values) (same value) ∙ ap (λ (more : List Told). tell (shown value) ∷ more) (told_as tell same values)

  module _ (before after : Walk S Place g) (kept : Kept) (took : Took before kept) where
    was : (result : Result (Option Value) WalkFault) → Called before after result → HasCleanDisk (state g after.book.now.conn)
        → HasCleanDisk (state g before.book.now.conn)
    was result walks clean = early (state g before.book.now.conn) (state g after.book.now.conn) walks.crash clean

    -- the book stops
    pub stopped : (at : WalkFault) → Called before after (Err at) → (fault : StoreFault) → Gathering after kept (Err (AtWalk (Failed fault)))
    stopped at walks fault = λ terms fresh tell same clean asked entries has.
        let (rest, all) = (took.of_book (was (Err at) walks clean) asked entries has).prefix in
        (map shown took.values ++ rest, all, tt)

    -- all rows are taken
    pub whole : Called before after (Ok None) → Gathering after kept (Ok tt)
    whole walks = λ terms fresh tell same clean asked entries has. (
      map shown took.values,
      walks.gives clean asked entries (map shown took.values) (took.of_book (was (Ok None) walks clean) asked entries has),
      subst (λ (rows : List Told). EachFits (fits terms) [] rows × HasTaken terms rows kept) (told_as tell same took.values) (took.taken terms fresh),
    )

    pub whole_rows : Called before after (Ok None) → CalledOverRows before after (Ok None) → GatheringRows after kept
    whole_rows walks rows = λ terms fresh tell same clean asked tables has. (
      map shown took.values,
      rows clean asked tables (map shown took.values) (took.of_rows (was (Ok None) walks clean) asked tables has),
      (took.values, refl, took.good),
      subst (λ (rows : List Told). EachFits (fits terms) [] rows × HasTaken terms rows kept) (told_as tell same took.values) (took.taken terms fresh),
    )

    pub some_whole : (terms : Terms) → HasTaken terms [] begun → (rows : List Told) × Gathers (fits terms) (HasTaken terms) rows kept (Ok tt)
    some_whole terms fresh = (map told took.values, took.taken terms fresh)

    module _ (row : Value) (walks : Called before after (Ok (Some row))) where
      with_row : map shown took.values ++ shown row ∷ [] ≡ map shown (took.values ++ row ∷ [])
      with_row = sym (map-append shown took.values (row ∷ []))

      told_row : map told took.values ++ told row ∷ [] ≡ map told (took.values ++ row ∷ [])
      told_row = sym (map-append told took.values (row ∷ []))

      -- what a table says of one more row
      abbrev pub Takes : Kept → Result (Unit {0}) ReportFault → Type 0
      Takes later result = (terms : Terms) (rows : List Told) → HasTaken terms rows kept
          → Adds (fits terms rows (told row)) (HasTaken terms (rows ++ told row ∷ []) later) result

      -- one more row is taken
      pub took_more : (later : Kept) (done : Unit {0}) → CalledOverRows before after (Ok (Some row)) → Takes later (Ok done) → Took after later
      took_more later done rows takes = record {
        values = took.values ++ row ∷ [];
        of_book = λ clean asked entries has.
            subst (HasGiven g AreAll IsBehind after asked entries) with_row
            (walks.gives clean asked entries (map shown took.values) (took.of_book (was (Ok (Some row)) walks clean) asked entries has));
        of_rows = λ clean asked tables has.
            subst (HasGivenRows g IsBehindRows after asked tables) with_row
            (rows clean asked tables (map shown took.values) (took.of_rows (was (Ok (Some row)) walks clean) asked tables has));
        good = all_with IsGood took.values row took.good walks.good;
        taken = λ terms fresh.
            let had = took.taken terms fresh in
            let adds = takes terms (map told took.values) had.1 in
            subst (λ (all : List Told). EachFits (fits terms) [] all × HasTaken terms all later) told_row
            (fits_then (fits terms) [] (map told took.values) (told row) had.0 adds.0, adds.1);
      }

      -- the row isn't taken
      pub cut : (later : Kept) (fault : ReportFault) → Takes later (Err fault) → Gathering after later (Err (AtRow (Report fault)))
      cut later Range takes = λ terms fresh tell same clean asked entries has.
          let (rest, all) = (walks.gives clean asked entries (map shown took.values) (took.of_book (was (Ok (Some row)) walks clean) asked entries has)).prefix in (
            (map shown took.values ++ shown row ∷ []) ++ rest,
            all,
            (
              map told took.values,
              told row,
              map tell rest,
              split tell same rest,
              (took.taken terms fresh).0,
              takes terms (map told took.values) (took.taken terms fresh).1,
            ),
          )
        where
          join : (xs : List Shown) (x : Shown) (ys : List Shown) → (xs ++ x ∷ []) ++ ys ≡ xs ++ x ∷ ys
          join [] x ys = refl
          join (first ∷ xs) x ys = ap (λ (all : List Shown). first ∷ all) (join xs x ys)

          split : (tell : Shown → Told) → AreToldAs shown told tell → (rest : List Shown)
              → map tell ((map shown took.values ++ shown row ∷ []) ++ rest) ≡ map told took.values ++ told row ∷ map tell rest
          split tell same rest =
              ap (map tell) (join (map shown took.values) (shown row) rest)
              ∙ map-append tell (map shown took.values) (shown row ∷ rest)
              ∙ ap (λ (given : List Told). given ++ tell (shown row) ∷ map tell rest) (sym (told_as tell same took.values))
              ∙ ap (λ (one : Told). map told took.values ++ one ∷ map tell rest) (sym (same row))
      cut later Memory takes = λ terms fresh tell same clean asked entries has.
          let (rest, all) = (walks.gives clean asked entries (map shown took.values) (took.of_book (was (Ok (Some row)) walks clean) asked entries has)).prefix in
          ((map shown took.values ++ shown row ∷ []) ++ rest, all, tt)
      cut later Write takes = λ terms fresh. absurd (takes terms (map told took.values) (took.taken terms fresh).1)

      pub some_cut : (later : Kept) (fault : ReportFault) → Takes later (Err fault) → (terms : Terms) → HasTaken terms [] begun
          → (rows : List Told) × Gathers (fits terms) (HasTaken terms) rows later (Err (AtRow (Report fault)))
      some_cut later Range takes terms fresh =
          let had = took.taken terms fresh in
          (map told took.values ++ told row ∷ [], (map told took.values, told row, [], refl, had.0, takes terms (map told took.values) had.1))
      some_cut later Memory takes terms fresh = ([], tt)
      some_cut later Write takes terms fresh = absurd (takes terms (map told took.values) (took.taken terms fresh).1)

  -- memory ends beside the book
  pub short : (walk : Walk S Place g) (kept : Kept) → Took walk kept → (fault : StoreFault) → Gathering walk kept (Err (AtWalk (Failed fault)))
  short walk kept took fault = λ terms fresh tell same clean asked entries has.
      let (rest, all) = (took.of_book clean asked entries has).prefix in (map shown took.values ++ rest, all, tt)

pub none_gathered : {Told Kept : Type 0} (fits : List Told → Told → Bool) (HasTaken : List Told → Kept → Type 0) (kept : Kept) (fault : StoreFault)
    → (rows : List Told) × Gathers fits HasTaken rows kept (Err (AtWalk (Failed fault)))
none_gathered fits HasTaken kept fault = ([], tt)
