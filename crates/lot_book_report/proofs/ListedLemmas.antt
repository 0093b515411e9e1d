-- What is written of rows of holdings that are given at once, one after another.
use Rattle.std.proofs.Common.{◌≡◌, ◌≢◌, ◌∙◌, [], ◌∷◌, ◌++◌, List, ℕ, Option, Result, Ok, Err, IsFalse, map, append_assoc, append-nil, refl, sym, ap, subst, inl, inr}
use Rattle.std.proofs.KnownBytes.{Appends-trans}
use Rattle.std.specs.Io.KnownBytes.{Appends}
use Rattle.lot_book.specs.declared.holding.Holding.{Holding}
use Rattle.lot_report.specs.Fed.{joined, text_of}
use Rattle.lot_report.specs.Holdings.{EndsHoldings, GrowsByHolding, HasTaken, IsEnd, fits, is_spent, row_lines}
use Rattle.lot_report.specs.Report.{report_fault}
use Rattle.lot_report.specs.Written.{WritesEach, WritesLine}
use Rattle.lot_report.specs.declared.fault.RowFault.{RowFault}
use Rattle.lot_report.specs.declared.fault.RowFault.TheVariants.{Report, Spent}
use Rattle.lot_report.specs.declared.holdings.Holdings.{Holdings}
use Rattle.lot_report.specs.declared.holdings.ValuedHolding.{ValuedHolding}
use Rattle.lot_report.specs.declared.line.PrintFault.{PrintFault}
use Rattle.lot_report.specs.declared.line.PrintFault.TheVariants.{Memory, Write}
use Rattle.lot_book_report.proofs.CsvLemmas.{one_more, told_csv}
use Rattle.lot_book_report.proofs.FeedLemmas.{HasFed, ShowsAll, cut, cut_at_end, fed_more, whole}
use Rattle.lot_book_report.specs.Csv.{ShowsCsv, record_of_holding}
use Rattle.lot_book_report.specs.Show.{Shows}
use Rattle.lot_book_report.specs.declared.fault.ShowFault.{ShowFault}
use Rattle.lot_book_report.specs.declared.fault.ShowFault.TheVariants.{Row as AtRow}
use Rattle.lot_csv.specs.Holdings.{holdings_header}
use Rattle.lot_csv.specs.declared.holdings.Columns.{Columns}

-- ---- rows that are left

module _ (rows given left : List Holding) (all : given ++ left ≡ rows) where
  pub left_more : (rest : List Holding) (holding : Holding) → left ≡ holding ∷ rest → (given ++ holding ∷ []) ++ rest ≡ rows
  left_more rest holding is = append_assoc given (holding ∷ []) rest ∙ ap (λ (xs : List Holding). given ++ xs) (sym is) ∙ all

  pub left_split : (rest : List Holding) (holding : Holding) → left ≡ holding ∷ rest → rows ≡ given ++ holding ∷ rest
  left_split rest holding is = sym all ∙ ap (λ (xs : List Holding). given ++ xs) is

  pub left_none : left ≡ [] → given ≡ rows
  left_none is = sym (append-nil given) ∙ ap (λ (xs : List Holding). given ++ xs) (sym is) ∙ all

-- ---- as text

module _ (told : Holding → ValuedHolding) (rows : List Holding) (start : Option (List ℕ)) where
  -- some rows were taken and written, and these are left
  pub record Listed (left : List Holding) (report : Holdings) (now : Option (List ℕ)) : Type 0 where
    pub given : List Holding
    pub all : given ++ left ≡ rows
    pub fresh : IsFalse (is_spent report)
    pub has : HasFed told row_lines fits HasTaken IsEnd start given now report.progress

  abbrev pub ShowsRows : Option (List ℕ) → Result (Unit {0}) ShowFault → Type 0
  ShowsRows now result = Shows row_lines fits IsEnd (map told rows) start now result

  of_all : (now : Option (List ℕ)) (result : Result (Unit {0}) ShowFault)
      → ShowsAll told row_lines fits HasTaken IsEnd start (λ (all : List Holding). all ≡ rows) now result → ShowsRows now result
  of_all now result (all, is, shows) =
      subst (λ (each : List Holding). Shows row_lines fits IsEnd (map told each) start now result) is shows

  module _ (left : List Holding) (report : Holdings) (now : Option (List ℕ)) (listed : Listed left report now) where
    -- one more row is written
    pub listed_more : (rest : List Holding) (holding : Holding) (row : ValuedHolding) (next : Holdings) (later : Option (List ℕ)) (done : Unit {0})
        → left ≡ holding ∷ rest → row ≡ told holding → IsFalse (is_spent next)
        → GrowsByHolding (map told listed.given) row next start later (Ok done) → Listed rest next later
    listed_more rest holding row next later done is same fresh grows = record {
      given = listed.given ++ holding ∷ [];
      all = left_more rows listed.given left listed.all rest holding is;
      fresh = fresh;
      has = fed_more told row_lines fits HasTaken IsEnd start listed.given now report.progress listed.has later next.progress holding row done same grows;
    }

    -- the report ends at a row
    pub listed_cut : (rest : List Holding) (holding : Holding) (row : ValuedHolding) (next : Holdings) (later : Option (List ℕ)) (fault : RowFault)
        → left ≡ holding ∷ rest → row ≡ told holding → fault ≢ Spent
        → GrowsByHolding (map told listed.given) row next start later (Err fault) → ShowsRows later (Err (AtRow fault))
    listed_cut rest holding row next later fault is same fresh grows =
        of_all later (Err (AtRow fault))
        (cut told row_lines fits HasTaken IsEnd start listed.given now report.progress listed.has (λ (all : List Holding). all ≡ rows) later next.progress holding row fault fresh same
        (rest, left_more rows listed.given left listed.all rest holding is) grows)

    module _ (later : Option (List ℕ)) (none : left ≡ []) where
      -- the report ends behind the last row
      pub listed_cut_at_end : (fault : RowFault) → fault ≢ Spent → EndsHoldings (map told listed.given) start later (Err fault)
          → ShowsRows later (Err (AtRow fault))
      listed_cut_at_end fault fresh ends =
          of_all later (Err (AtRow fault))
          (cut_at_end told row_lines fits HasTaken IsEnd start listed.given now report.progress listed.has (λ (all : List Holding). all ≡ rows) later fault fresh
          (left_none rows listed.given left listed.all none) ends)

      -- all is written
      pub listed_whole : (done : Unit {0}) → EndsHoldings (map told listed.given) start later (Ok done) → ShowsRows later (Ok tt)
      listed_whole done ends =
          of_all later (Ok tt)
          (whole told row_lines fits HasTaken IsEnd start listed.given now report.progress listed.has (λ (all : List Holding). all ≡ rows) later done
          (left_none rows listed.given left listed.all none) ends)

-- ---- as CSV

module _ (columns : Columns) (told : Holding → ValuedHolding) (rows : List Holding) (start : Option (List ℕ)) where
  abbrev header : List ℕ
  header = holdings_header columns

  abbrev records : Holding → List (List ℕ)
  records holding = record_of_holding columns (told holding)

  -- the header and the records of some rows are written, and these rows are left
  pub record Recorded (left : List Holding) (now : Option (List ℕ)) : Type 0 where
    pub given : List Holding
    pub all : given ++ left ≡ rows
    pub written : Appends start now (header ++ text_of records given)

  abbrev pub ShowsRecords : Option (List ℕ) → Result (Unit {0}) ShowFault → Type 0
  ShowsRecords now result = ShowsCsv header (record_of_holding columns) (map told rows) start now result

  valued : (now : Option (List ℕ)) (result : Result (Unit {0}) ShowFault) → ShowsCsv header records rows start now result → ShowsRecords now result
  valued now result shows = told_csv header (record_of_holding columns) told start now rows result shows

  -- the writer fails in the header
  pub header_cut : (now : Option (List ℕ)) (fault : PrintFault) → fault ≡ Write → WritesLine start now (Err fault) header
      → ShowsRecords now (Err (AtRow (Report (report_fault fault))))
  header_cut now Write is part = inl part
  header_cut now Memory is part = cc

  pub header_written : (left : List Holding) (now : Option (List ℕ)) → left ≡ rows → Appends start now header → Recorded left now
  header_written left now all wrote = record {
    given = [];
    all = all;
    written = subst (λ (text : List ℕ). Appends start now text) (sym (append-nil header)) wrote;
  }

  module _ (left : List Holding) (now : Option (List ℕ)) (recorded : Recorded left now) where
    behind : (later : Option (List ℕ)) (part : List ℕ) → Appends now later part → Appends start later (header ++ (text_of records recorded.given ++ part))
    behind later part more =
        subst (λ (text : List ℕ). Appends start later text) (append_assoc header (text_of records recorded.given) part)
        (Appends-trans start now later (header ++ text_of records recorded.given) part recorded.written more)

    -- one more record is written
    pub record_more : (rest : List Holding) (holding : Holding) (later : Option (List ℕ)) → left ≡ holding ∷ rest
        → Appends now later (joined (records holding)) → Recorded rest later
    record_more rest holding later is more = record {
      given = recorded.given ++ holding ∷ [];
      all = left_more rows recorded.given left recorded.all rest holding is;
      written = subst (λ (text : List ℕ). Appends start later text) (ap (λ (text : List ℕ). header ++ text) (sym (one_more records recorded.given holding)))
          (behind later (joined (records holding)) more);
    }

    -- the next one isn't, or not all of it
    pub record_cut : (rest : List Holding) (holding : Holding) (later : Option (List ℕ)) (fault : PrintFault) → left ≡ holding ∷ rest
        → WritesEach (λ (text : List ℕ). text) (records holding) now later (Err fault) → ShowsRecords later (Err (AtRow (Report (report_fault fault))))
    record_cut rest holding later Write is (part, proper, more) =
        valued later (Err (AtRow (Report (report_fault Write))))
        (inr (recorded.given, holding, rest, left_split rows recorded.given left recorded.all rest holding is, part, proper, behind later part more))
    record_cut rest holding later Memory is (front, next, back, parts, more) =
        valued later (Err (AtRow (Report (report_fault Memory)))) (
          recorded.given,
          holding,
          rest,
          left_split rows recorded.given left recorded.all rest holding is,
          joined front,
          (front, next, back, parts, refl),
          behind later (joined front) more,
        )

    -- all are written
    pub records_whole : left ≡ [] → ShowsRecords now (Ok tt)
    records_whole none =
        valued now (Ok tt)
        (subst (λ (all : List Holding). Appends start now (header ++ text_of records all)) (left_none rows recorded.given left recorded.all none) recorded.written)
