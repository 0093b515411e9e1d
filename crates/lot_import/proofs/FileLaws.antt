-- A file has one list of rows, or one first fault.
use Rattle.std.proofs.Common.{◌≡◌, ◌≢◌, ◌⊎◌, ℕ, zero, suc, ◌+◌, ◌<◌, ◌≤◌, List, [], ◌∷◌, ◌++◌, length, get_or, refl, sym, ◌∙◌, ap, subst, inl, inr, arith}
use Rattle.std.proofs.lemmas.Bool.{cases_order}
use Rattle.std.proofs.lemmas.List.{append-nil, append_assoc, get_or_append_left, get_or_at, length-append, length_push}
use Rattle.std.proofs.lemmas.Slice.Zip.{AllZip-long}
use Rattle.lot_import.specs.File.{AreRows, HasBadRecord, HasExtraRecord, HasFault, HasNoHeader, HasRecords, SayRows, file_records, most_rows}
use Rattle.lot_import.specs.Reading.{HasRecordFault}
use Rattle.lot_import.specs.Row.{IsFaulty, IsRow, columns}
use Rattle.lot_import.specs.declared.fault.Cause.{Cause}
use Rattle.lot_import.specs.declared.fault.RowsFault.{RowsFault}
use Rattle.lot_import.specs.declared.fault.RowsFault.TheVariants as Faults
use Rattle.lot_import.specs.declared.row.Row.{Row}
use Rattle.lot_import.specs.declared.version.Version.{Version}
use Rattle.lot_import.specs.declared.version.Version.TheVariants.{First, Second}
use Rattle.lot_base.proofs.DecisionLemmas.{Decided, same_or_not}
use Rattle.lot_import.proofs.FileLemmas.{bad_record, extra_record, file_fault, more_rows, no_records, other_header}
use Rattle.lot_import.proofs.RecordLaws.{one_cause, one_row, record_known, row_or_fault}

-- ---- The header.

fields_or_not : (a b : List (List ℕ)) → Decided (a ≡ b)
fields_or_not [] [] = inl refl
fields_or_not [] (y ∷ ys) = inr (λ e. cc)
fields_or_not (x ∷ xs) [] = inr (λ e. cc)
fields_or_not (x ∷ xs) (y ∷ ys) = by (same_or_not x y) (fields_or_not xs ys)
  where
    by : Decided (x ≡ y) → Decided (xs ≡ ys) → Decided (x ∷ xs ≡ y ∷ ys)
    by (inl p) (inl q) = inl cc
    by (inl p) (inr none) = inr (λ e. none cc)
    by (inr none) d = inr (λ e. none cc)

version_by : (header : List (List ℕ)) → Decided (header ≡ columns First) → Decided (header ≡ columns Second)
    → Decided ((version : Version) × (header ≡ columns version))
version_by header (inl e) d = inl (First, e)
version_by header (inr none) (inl e) = inl (Second, e)
version_by header (inr none) (inr other) = inr (λ (version, e). neither version e)
  where
    neither : (version : Version) → header ≡ columns version → ⊥
    neither First e = none e
    neither Second e = other e

one_version : (v w : Version) → columns v ≡ columns w → v ≡ w
one_version First First e = refl
one_version First Second e = let long : length (columns First) ≡ length (columns Second) = ap length e in absurd (omega (arith, long))
one_version Second First e = let long : length (columns Second) ≡ length (columns First) = ap length e in absurd (omega (arith, long))
one_version Second Second e = refl

record IsOneFile (v w : Version) (a b : List (List (List ℕ))) : Type 0 where
  version : v ≡ w
  written : a ≡ b

one_file : (bytes : List ℕ) (v w : Version) (a b : List (List (List ℕ))) → HasRecords v bytes a → HasRecords w bytes b → IsOneFile v w a b
one_file bytes v w a b h k =
    let whole : columns v ∷ a ≡ columns w ∷ b = sym h ∙ k in
    record { version = one_version v w cc; written = cc }

-- ---- Records that say rows.

says_at : (version : Version) (xs : List (List (List ℕ))) (rows : List Row) → SayRows version xs rows → (i : ℕ) → i < length xs
    → (row : Row) × IsRow version (get_or xs i []) row
says_at version [] rows said i lt = absurd (omega (arith, lt))
says_at version (x ∷ xs) [] said i lt = absurd said
says_at version (x ∷ xs) (r ∷ rs) said zero lt = (r, said.0)
says_at version (x ∷ xs) (r ∷ rs) said (suc i) lt = says_at version xs rs said.1 i (omega (arith, lt))

rows_one : (version : Version) (xs : List (List (List ℕ))) (a b : List Row) → SayRows version xs a → SayRows version xs b → a ≡ b
rows_one version [] [] [] h k = refl
rows_one version [] [] (y ∷ b) h k = absurd k
rows_one version [] (x ∷ a) b h k = absurd h
rows_one version (w ∷ ws) [] b h k = absurd h
rows_one version (w ∷ ws) (x ∷ a) [] h k = absurd k
rows_one version (w ∷ ws) (x ∷ a) (y ∷ b) h k =
    let first = one_row version w x y h.0 k.0 in
    let others = rows_one version ws a b h.1 k.1 in
    cc

-- where the records in front say rows none of them is faulty
none_faulty : (version : Version) (written before rest : List (List (List ℕ))) (rows : List Row) (i : ℕ) (faulty : List (List ℕ)) (cause : Cause)
    → written ≡ before ++ rest → SayRows version before rows → i < length before → get_or written i [] ≡ faulty → IsFaulty version faulty cause → ⊥
none_faulty version written before rest rows i faulty cause e said lt at why =
    let says = says_at version before rows said i lt in
    let same : get_or before i [] ≡ faulty =
    sym (get_or_append_left before rest [] i lt) ∙ ap (λ (xs : List (List (List ℕ))). get_or xs i []) (sym e) ∙ at
    in row_or_fault version faulty says.0 cause (subst (λ (x : List (List ℕ)). IsRow version x says.0) same says.1) why

at_place : (written before after : List (List (List ℕ))) (faulty : List (List ℕ)) → written ≡ before ++ faulty ∷ after
    → get_or written (length before) [] ≡ faulty
at_place written before after faulty e =
    ap (λ (xs : List (List (List ℕ))). get_or xs (length before) []) e ∙ get_or_at before faulty after [] (length before) refl

-- ---- Rows and faults exclude each other.

rows_or_bad : (version : Version) (written : List (List (List ℕ))) (rows : List Row) (number : ℕ) (cause : Cause)
    → SayRows version written rows → HasBadRecord version written number cause → ⊥
rows_or_bad version written rows number cause said bad =
    let long = ap length bad.all ∙ length-append bad.before (bad.faulty ∷ bad.after) in
    none_faulty version written written [] rows (length bad.before) bad.faulty cause (sym (append-nil written)) said
    (omega (arith, long)) (at_place written bad.before bad.after bad.faulty bad.all) bad.why

rows_or_extra : (version : Version) (written : List (List (List ℕ))) → length written ≤ most_rows → HasExtraRecord version written → ⊥
rows_or_extra version written few extra =
    let long = ap length extra.all ∙ length-append extra.before (extra.extra ∷ extra.after) in
    omega (arith, long, few, extra.many)

bad_or_extra : (version : Version) (written : List (List (List ℕ))) (number : ℕ) (cause : Cause)
    → HasBadRecord version written number cause → HasExtraRecord version written → ⊥
bad_or_extra version written number cause bad extra =
    none_faulty version written extra.before (extra.extra ∷ extra.after) extra.rows (length bad.before) bad.faulty cause extra.all extra.said
    (omega (arith, bad.place, bad.few, extra.many)) (at_place written bad.before bad.after bad.faulty bad.all) bad.why

not_before : (version : Version) (written : List (List (List ℕ))) (m n : ℕ) (c d : Cause) (a : HasBadRecord version written m c) (b : HasBadRecord version written n d)
    → length a.before < length b.before → ⊥
not_before version written m n c d a b lt =
    none_faulty version written b.before (b.faulty ∷ b.after) b.rows (length a.before) a.faulty c b.all b.said lt
    (at_place written a.before a.after a.faulty a.all) a.why

record IsOneFault (m n : ℕ) (c d : Cause) : Type 0 where
  number : m ≡ n
  cause : c ≡ d

one_bad : (version : Version) (written : List (List (List ℕ))) (m n : ℕ) (c d : Cause) → HasBadRecord version written m c → HasBadRecord version written n d
    → IsOneFault m n c d
one_bad version written m n c d a b =
    elim (cases_order (length a.before) (length b.before)) [
      | inl same ↦ record {
        number = omega (arith, a.place, b.place, same);
        cause = one_cause version b.faulty c d
            (subst (λ (x : List (List ℕ)). IsFaulty version x c)
            (sym (at_place written a.before a.after a.faulty a.all) ∙ ap (λ (i : ℕ). get_or written i []) same
            ∙ at_place written b.before b.after b.faulty b.all) a.why)
            b.why;
      }
      | inr others ↦ elim others [
        | inl lt ↦ absurd (not_before version written m n c d a b lt)
        | inr lt ↦ absurd (not_before version written n m d c b a lt)
      ]
    ]

-- ---- Records say rows, or have a first fault.

abbrev Judged : Version → List (List (List ℕ)) → Type 0
Judged version all = ((rows : List Row) × SayRows version all rows × (length all ≤ most_rows))
    ⊎ ((fault : RowsFault) × (fault ≢ Faults.Memory) × HasRecordFault version all fault)

-- the next record is faulty, or what is judged behind it
judged_at : (version : Version) (done left : List (List (List ℕ))) (rows : List Row) (written : List (List ℕ)) → SayRows version done rows
    → length rows < most_rows → ((row : Row) × IsRow version written row) ⊎ ((cause : Cause) × IsFaulty version written cause)
    → ((row : Row) → IsRow version written row → Judged version ((done ++ written ∷ []) ++ left)) → Judged version (done ++ written ∷ left)
judged_at version done left rows written said lt (inl (row, is)) behind = subst (Judged version) (append_assoc done (written ∷ []) left) (behind row is)
judged_at version done left rows written said lt (inr (cause, why)) behind =
    inr (
      Faults.BadRow (length rows + 1) cause,
      (λ e. cc),
      bad_record version (done ++ written ∷ left) done (written ∷ left) left written rows cause refl refl said why lt,
    )

judged : (version : Version) (done left : List (List (List ℕ))) (rows : List Row) → SayRows version done rows → length rows ≤ most_rows
    → Judged version (done ++ left)
judged version done [] rows said few =
    let whole = sym (append-nil done) in
    inl (
      rows,
      subst (λ (xs : List (List (List ℕ))). SayRows version xs rows) whole said,
      omega (arith, few, AllZip-long (IsRow version) done rows said, ap length whole),
    )
judged version done (written ∷ left) rows said few =
    elim (cases_order (length rows) most_rows) [
      | inl many ↦ inr (Faults.TooManyRows, (λ e. cc), extra_record version (done ++ written ∷ left) done (written ∷ left) left written rows refl refl said many)
      | inr others ↦ elim others [
        | inl lt ↦ judged_at version done left rows written said lt (record_known version written)
            (λ row is. judged version (done ++ written ∷ []) left (rows ++ row ∷ []) (more_rows version done rows written row said is)
            (omega (arith, lt, length_push rows row)))
        | inr gt ↦ absurd (omega (arith, gt, few))
      ]
    ]

-- ---- Files.

abbrev Answered : List ℕ → Type 0
Answered bytes = ((rows : List Row) × AreRows bytes rows) ⊎ ((fault : RowsFault) × (fault ≢ Faults.Memory) × HasFault bytes fault)

no_header : (bytes : List ℕ) → HasNoHeader bytes → Answered bytes
no_header bytes none = inr (Faults.BadHeader, (λ e. cc), none)

records_answer : (bytes : List ℕ) (version : Version) (written : List (List (List ℕ))) → HasRecords version bytes written → Judged version written → Answered bytes
records_answer bytes version written file (inl (rows, said, few)) =
    inl (rows, record { version = version; written = written; file = file; said = said; few = few })
records_answer bytes version written file (inr (fault, other, has)) = inr (fault, other, file_fault bytes version written fault other file has)

header_answer : (bytes : List ℕ) (header : List (List ℕ)) (written : List (List (List ℕ))) → file_records bytes ≡ header ∷ written
    → Decided ((version : Version) × (header ≡ columns version)) → Answered bytes
header_answer bytes header written e (inl (version, is)) =
    records_answer bytes version written (e ∙ ap (λ (h : List (List ℕ)). h ∷ written) is) (judged version [] written [] tt (omega arith))
header_answer bytes header written e (inr none) = no_header bytes (other_header bytes header written e (λ version is. none (version, is)))

answer_by : (bytes : List ℕ) (all : List (List (List ℕ))) → file_records bytes ≡ all → Answered bytes
answer_by bytes [] e = no_header bytes (no_records bytes e)
answer_by bytes (header ∷ written) e =
    header_answer bytes header written e (version_by header (fields_or_not header (columns First)) (fields_or_not header (columns Second)))

pub file_answered : (bytes : List ℕ) → ((rows : List Row) × AreRows bytes rows) ⊎ ((fault : RowsFault) × (fault ≢ Faults.Memory) × HasFault bytes fault)
file_answered bytes = answer_by bytes (file_records bytes) refl

pub rows_or_fault : (bytes : List ℕ) (rows : List Row) (fault : RowsFault) → AreRows bytes rows → HasFault bytes fault → fault ≡ Faults.Memory
rows_or_fault bytes rows Faults.BadHeader are none = absurd (none are.version are.written are.file)
rows_or_fault bytes rows (Faults.BadRow number cause) are (version, written, file, bad) =
    let one = one_file bytes version are.version written are.written file are.file in
    absurd (rows_or_bad version written rows number cause
    (subst (λ (xs : List (List (List ℕ))). SayRows version xs rows) (sym one.written)
    (subst (λ (v : Version). SayRows v are.written rows) (sym one.version) are.said)) bad)
rows_or_fault bytes rows Faults.TooManyRows are (version, written, file, extra) =
    let one = one_file bytes version are.version written are.written file are.file in
    absurd (rows_or_extra version written (subst (λ (xs : List (List (List ℕ))). length xs ≤ most_rows) (sym one.written) are.few) extra)
rows_or_fault bytes rows Faults.Memory are has = refl

pub file_rows_one : (bytes : List ℕ) (a b : List Row) → AreRows bytes a → AreRows bytes b → a ≡ b
file_rows_one bytes a b h k =
    let one = one_file bytes h.version k.version h.written k.written h.file k.file in
    rows_one k.version k.written a b
    (subst (λ (xs : List (List (List ℕ))). SayRows k.version xs a) one.written
    (subst (λ (v : Version). SayRows v h.written a) one.version h.said)) k.said

-- the fault of the records, by their version
same_records : (v w : Version) (a b : List (List (List ℕ))) (fault : RowsFault) → IsOneFile v w a b → HasRecordFault v a fault → HasRecordFault w b fault
same_records v w a b fault one has =
    subst (λ (xs : List (List (List ℕ))). HasRecordFault w xs fault) one.written (subst (λ (x : Version). HasRecordFault x a fault) one.version has)

pub fault_one : (bytes : List ℕ) (a b : RowsFault) → a ≢ Faults.Memory → b ≢ Faults.Memory → HasFault bytes a → HasFault bytes b → a ≡ b
fault_one bytes Faults.Memory b p q h k = absurd (p refl)
fault_one bytes a Faults.Memory p q h k = absurd (q refl)
fault_one bytes Faults.BadHeader Faults.BadHeader p q h k = refl
fault_one bytes Faults.BadHeader (Faults.BadRow n d) p q h (w, b, file, bad) = absurd (h w b file)
fault_one bytes Faults.BadHeader Faults.TooManyRows p q h (w, b, file, extra) = absurd (h w b file)
fault_one bytes (Faults.BadRow m c) Faults.BadHeader p q (v, a, file, bad) k = absurd (k v a file)
fault_one bytes (Faults.BadRow m c) (Faults.BadRow n d) p q (v, a, file, bad) (w, b, file', bad') =
    let same = one_bad w b m n c d (same_records v w a b (Faults.BadRow m c) (one_file bytes v w a b file file') bad) bad' in
    let number = same.number in
    let cause = same.cause in
    cc
fault_one bytes (Faults.BadRow m c) Faults.TooManyRows p q (v, a, file, bad) (w, b, file', extra) =
    absurd (bad_or_extra w b m c (same_records v w a b (Faults.BadRow m c) (one_file bytes v w a b file file') bad) extra)
fault_one bytes Faults.TooManyRows Faults.BadHeader p q (v, a, file, extra) k = absurd (k v a file)
fault_one bytes Faults.TooManyRows (Faults.BadRow n d) p q (v, a, file, extra) (w, b, file', bad) =
    absurd (bad_or_extra v a n d (same_records w v b a (Faults.BadRow n d) (one_file bytes w v b a file' file) bad) extra)
fault_one bytes Faults.TooManyRows Faults.TooManyRows p q h k = refl
