-- How the rows of a file, or its fault, follow from the records that are read one after another.
use Rattle.std.proofs.Common.{◌≡◌, ◌≢◌, ℕ, ◌+◌, ◌<◌, ◌≤◌, List, [], ◌∷◌, ◌++◌, Bor, Result, Ok, Err, IsErrAnd, IfErr, IfOk, OnOk, length, get_or, sym, ◌∙◌, ap, subst, inl, inr, refl, arith}
use Rattle.std.proofs.lemmas.List.{append-nil, append_assoc, length_push}
use Rattle.csv.specs.declared.reader.Reader.{Reader}
use Rattle.std.proofs.lemmas.Slice.Zip.{AllZip-long}
use Rattle.lot_import.specs.File.{AreRows, HasBadRecord, HasExtraRecord, HasFault, HasNoHeader, HasRecords, SayRows, file_records, most_rows}
use Rattle.lot_import.specs.Header.{MayHaveHeader}
use Rattle.lot_import.specs.Reading.{EndsInFile, EndsInRows, GivesRow, HasFileFault, HasHeaderFault, HasRecordFault, SayFile, records_left}
use Rattle.lot_import.specs.Row.{IsFaulty, IsRow, columns}
use Rattle.lot_import.specs.declared.fault.Cause.{Cause}
use Rattle.lot_import.specs.declared.fault.RowsFault.{RowsFault}
use Rattle.lot_import.specs.declared.fault.RowsFault.TheVariants as Faults
use Rattle.lot_import.specs.declared.row.Row.{Row}
use Rattle.lot_import.specs.declared.version.Version.{Version}

-- ---- Records behind the header.

-- a further record that says a row
pub more_rows : (version : Version) (done : List (List (List ℕ))) (rows : List Row) (written : List (List ℕ)) (row : Row)
    → SayRows version done rows → IsRow version written row → SayRows version (done ++ written ∷ []) (rows ++ row ∷ [])
more_rows version [] [] written row h k = (k, tt)
more_rows version [] (x ∷ xs) written row h k = absurd h
more_rows version (d ∷ ds) [] written row h k = absurd h
more_rows version (d ∷ ds) (x ∷ xs) written row h k = (h.0, more_rows version ds xs written row h.1 k)

-- the records, where one more is read
pub split : (all done left more : List (List (List ℕ))) (written : List (List ℕ)) → all ≡ done ++ left → left ≡ written ∷ more → all ≡ done ++ written ∷ more
split all done left more written e f = e ∙ ap (λ (xs : List (List (List ℕ))). done ++ xs) f

pub moved : (all done left more : List (List (List ℕ))) (written : List (List ℕ)) → all ≡ done ++ left → left ≡ written ∷ more → all ≡ (done ++ written ∷ []) ++ more
moved all done left more written e f = split all done left more written e f ∙ sym (append_assoc done (written ∷ []) more)

pub bad_record : (version : Version) (all done left more : List (List (List ℕ))) (written : List (List ℕ)) (rows : List Row) (cause : Cause)
    → all ≡ done ++ left → left ≡ written ∷ more → SayRows version done rows → IsFaulty version written cause → length rows < most_rows
    → HasBadRecord version all (length rows + 1) cause
bad_record version all done left more written rows cause e f said why few =
    record {
      before = done;
      faulty = written;
      after = more;
      all = split all done left more written e f;
      rows = rows;
      said = said;
      why = why;
      place = ap (λ (n : ℕ). n + 1) (AllZip-long (IsRow version) done rows said);
      few = omega (arith, few);
    }

pub extra_record : (version : Version) (all done left more : List (List (List ℕ))) (written : List (List ℕ)) (rows : List Row)
    → all ≡ done ++ left → left ≡ written ∷ more → SayRows version done rows → length rows ≡ most_rows → HasExtraRecord version all
extra_record version all done left more written rows e f said many =
    record {
      before = done;
      extra = written;
      after = more;
      all = split all done left more written e f;
      rows = rows;
      said = said;
      many = sym (AllZip-long (IsRow version) done rows said) ∙ many;
    }

-- the fault that a record gives, which is that of the file
pub at_record : (version : Version) (all done left more : List (List (List ℕ))) (written : List (List ℕ)) (rows : List Row) (fault : RowsFault)
    → all ≡ done ++ left → left ≡ written ∷ more → SayRows version done rows → length rows ≤ most_rows
    → GivesRow version (length rows + 1) written (Err fault) → HasRecordFault version all fault
at_record version all done left more written rows Faults.BadHeader e f said few gives = absurd gives
at_record version all done left more written rows (Faults.BadRow number cause) e f said few gives =
    subst (λ (n : ℕ). HasBadRecord version all n cause) (sym gives.0)
    (bad_record version all done left more written rows cause e f said gives.2 (omega (arith, gives.1)))
at_record version all done left more written rows Faults.TooManyRows e f said few gives =
    extra_record version all done left more written rows e f said (omega (arith, few, gives))
at_record version all done left more written rows Faults.Memory e f said few gives = tt

-- memory ended behind a record that was read and says a row
pub behind_row : (version : Version) (all done left : List (List (List ℕ))) (reader : Reader (Bor (List ℕ))) (written : List (List ℕ))
    (rows : List Row) (row : Row) → all ≡ done ++ left → left ≡ written ∷ records_left reader → SayRows version done rows
    → length rows + 1 ≤ most_rows → IsRow version written row → EndsInRows version all reader
behind_row version all done left reader written rows row e f said few is =
    inr (record {
      before = done ++ written ∷ [];
      all = moved all done left (records_left reader) written e f;
      rows = rows ++ row ∷ [];
      said = more_rows version done rows written row said is;
      few = omega (arith, few, AllZip-long (IsRow version) done rows said, length_push done written);
    })

-- a fault that is handed on
pub handed : {T E : Type 0} (r : Result T E) (P : E → Type 0) (fault : E) → IsErrAnd r (λ e. e ≡ fault) → P fault → IfErr r P
handed (Ok value) P fault is h = absurd is
handed (Err e) P fault is h = subst P (sym is) h

pub handed_as : {T E : Type 0} (r : Result T E) (fault told : E) → IsErrAnd r (λ e. e ≡ fault) → r ≡ Err told → fault ≡ told
handed_as (Ok value) fault told is e = absurd is
handed_as (Err other) fault told is e = let same : other ≡ told = cc in sym is ∙ same

-- no record is left
pub all_read : (version : Version) (all done left : List (List (List ℕ))) (rows : List Row)
    → all ≡ done ++ left → left ≡ [] → SayRows version done rows → length rows ≤ most_rows → length all ≤ most_rows
all_read version all done left rows e none said few =
    let same : all ≡ done = e ∙ ap (λ (xs : List (List (List ℕ))). done ++ xs) none ∙ append-nil done in
    let long = AllZip-long (IsRow version) done rows said in
    let lengths : length all ≡ length done = ap length same in
    omega (arith, long, lengths, few)

-- ---- The records of a file.

-- the fault of its header
pub header_fault : (all : List (List (List ℕ))) (reader : Reader (Bor (List ℕ))) (fault : RowsFault) → HasHeaderFault all reader fault
    → HasFileFault all reader fault
header_fault all reader Faults.BadHeader h = h
header_fault all reader (Faults.BadRow number cause) h = absurd h
header_fault all reader Faults.TooManyRows h = absurd h
header_fault all reader Faults.Memory h = inl h

module _ {T : Type 0} (version : Version) (all left : List (List (List ℕ))) (is : all ≡ columns version ∷ left) where
  -- the fault of the records behind it
  pub behind_header : (reader : Reader (Bor (List ℕ))) (r : Result T RowsFault) → IfErr r (λ fault. HasRecordFault version left fault)
      → (r ≡ Err Faults.Memory → EndsInRows version left reader) → IfErr r (HasFileFault all reader)
  behind_header reader (Ok rows) h memory = tt
  behind_header reader (Err Faults.BadHeader) h memory = absurd h
  behind_header reader (Err (Faults.BadRow number cause)) h memory = (version, left, is, h)
  behind_header reader (Err Faults.TooManyRows) h memory = (version, left, is, h)
  behind_header reader (Err Faults.Memory) h memory = at (memory refl)
    where
      at : EndsInRows version left reader → EndsInFile all reader
      at (inl failed) = inl failed
      at (inr read) = inr (version, left, is, read)

  -- the rows that they say
  pub said_file : (items : T → List Row) (r : Result T RowsFault) → IfOk r (λ rows. SayRows version left (items rows))
      → OnOk r (length left ≤ most_rows) → IfOk r (λ rows. SayFile all (items rows))
  said_file items (Ok rows) said few = record { version = version; written = left; file = is; said = said; few = few }
  said_file items (Err fault) said few = tt

-- ---- The file.

module _ (bytes : List ℕ) (all : List (List (List ℕ))) (same : all ≡ file_records bytes) where
  pub file_rows : (rows : List Row) → SayFile all rows → AreRows bytes rows
  file_rows rows say =
      record { version = say.version; written = say.written; file = sym same ∙ say.file; said = say.said; few = say.few }

  pub records_fault : MayHaveHeader bytes → (reader : Reader (Bor (List ℕ))) (fault : RowsFault) → HasFileFault all reader fault → HasFault bytes fault
  records_fault may reader Faults.BadHeader h = λ version written file. h version written (same ∙ file)
  records_fault may reader (Faults.BadRow number cause) (version, written, file, bad) = (version, written, sym same ∙ file, bad)
  records_fault may reader Faults.TooManyRows (version, written, file, extra) = (version, written, sym same ∙ file, extra)
  records_fault may reader Faults.Memory h = may

pub file_fault : (bytes : List ℕ) (version : Version) (written : List (List (List ℕ))) (fault : RowsFault) → fault ≢ Faults.Memory
    → HasRecords version bytes written → HasRecordFault version written fault → HasFault bytes fault
file_fault bytes version written Faults.BadHeader other file h = absurd h
file_fault bytes version written (Faults.BadRow number cause) other file h = (version, written, file, h)
file_fault bytes version written Faults.TooManyRows other file h = (version, written, file, h)
file_fault bytes version written Faults.Memory other file h = absurd (other refl)

-- a file without records
pub no_records : (bytes : List ℕ) → file_records bytes ≡ [] → HasNoHeader bytes
no_records bytes e version written file =
    let lengths : length (columns version ∷ written) ≡ 0 = ap length (sym file ∙ e) in
    omega (arith, lengths)

-- a file whose first record is no header
pub other_header : (bytes : List ℕ) (header : List (List ℕ)) (others : List (List (List ℕ))) → file_records bytes ≡ header ∷ others
    → ((version : Version) → header ≡ columns version → ⊥) → HasNoHeader bytes
other_header bytes header others e other version written file =
    other version (ap (λ (xs : List (List (List ℕ))). get_or xs 0 []) (sym e ∙ file))
