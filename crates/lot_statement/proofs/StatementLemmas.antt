-- What the records of a file say, or the first fault of them.
use Rattle.std.specs.Prelude.{◌≡◌, ◌+◌, ℕ, ℤ, List, [], ◌∷◌, ◌++◌, Result, Ok, Err, IfErr, IfOk}
use Rattle.std.specs.BTreeMap.{BTreeMap}
use Rattle.std.proofs.Common.{sym, ap, subst, ◌∙◌}
use Rattle.std.proofs.lemmas.List.{append-nil}
use Rattle.std.proofs.lemmas.Slice.Zip.{AllZip-long}
use Rattle.lot_import.specs.File.{file_records}
use Rattle.lot_import.proofs.FileLemmas.{split}
use Rattle.lot_statement.specs.Line.{IsLine, Line, columns}
use Rattle.lot_statement.specs.Reading.{HasFileFault, HasRowFault, SayAll, TakesRow}
use Rattle.lot_statement.specs.Statement.{AreApart, HasFault, HasSaid, IsStatement, SayLines}
use Rattle.lot_statement.specs.declared.fault.StatementFault.{StatementFault}
use Rattle.lot_statement.specs.declared.fault.StatementFault.TheVariants.{BadHeader, BadRow, Memory}

-- a further record that says a line
pub more_lines : (done : List (List (List ℕ))) (lines : List Line) (written : List (List ℕ)) (line : Line)
    → SayLines done lines → IsLine written line → SayLines (done ++ written ∷ []) (lines ++ line ∷ [])
more_lines [] [] written line say is = (is, tt)
more_lines [] (x ∷ xs) written line say is = absurd say
more_lines (d ∷ ds) [] written line say is = absurd say
more_lines (d ∷ ds) (x ∷ xs) written line say is = (say.0, more_lines ds xs written line say.1 is)

-- the first faulty record
pub bad_row : (all done left more : List (List (List ℕ))) (written : List (List ℕ)) (lines : List Line) (new : BTreeMap (List ℕ) ℤ) (fault : StatementFault)
    → all ≡ done ++ left → left ≡ written ∷ more → SayLines done lines → AreApart [] lines
    → TakesRow lines written new (Err fault) → HasRowFault all fault
bad_row all done left more written lines new BadHeader e f say apart takes = absurd takes
bad_row all done left more written lines new (BadRow number cause) e f say apart takes = record {
  before = done;
  faulty = written;
  after = more;
  all = split all done left more written e f;
  lines = lines;
  say = say;
  apart = apart;
  why = takes.1;
  place = takes.0 ∙ ap (λ (n : ℕ). n + 1) (AllZip-long IsLine done lines say);
}
bad_row all done left more written lines new Memory e f say apart takes = tt

-- no record is left
pub all_said : (all done left : List (List (List ℕ))) (lines : List Line) (said : BTreeMap (List ℕ) ℤ)
    → all ≡ done ++ left → left ≡ [] → SayLines done lines → AreApart [] lines → HasSaid lines said → SayAll all said
all_said all done left lines said e none say apart has =
    let same : done ≡ all = sym (e ∙ ap (λ (xs : List (List (List ℕ))). done ++ xs) none ∙ append-nil done) in
    record { lines = lines; say = subst (λ (xs : List (List (List ℕ))). SayLines xs lines) same say; apart = apart; kept = has }

-- ---- the header before them

module _ {T : Type 0} (all left : List (List (List ℕ))) (is : all ≡ columns ∷ left) where
  pub said_behind : (Says : List (List (List ℕ)) → T → Type 0) (r : Result T StatementFault) → IfOk r (Says left)
      → IfOk r (λ said. (written : List (List (List ℕ))) × (all ≡ columns ∷ written) × Says written said)
  said_behind Says (Ok said) say = (left, is, say)
  said_behind Says (Err fault) say = tt

  pub fault_behind : (r : Result T StatementFault) → IfErr r (HasRowFault left) → IfErr r (HasFileFault all)
  fault_behind (Ok said) has = tt
  fault_behind (Err BadHeader) has = absurd has
  fault_behind (Err (BadRow number cause)) has = (left, is, has)
  fault_behind (Err Memory) has = tt

-- ---- the file

module _ (bytes : List ℕ) (all : List (List (List ℕ))) (same : all ≡ file_records bytes) where
  pub statement_of : (said : BTreeMap (List ℕ) ℤ) → (written : List (List (List ℕ))) × (all ≡ columns ∷ written) × SayAll written said
      → (lines : List Line) × IsStatement bytes lines × HasSaid lines said
  statement_of said (written, file, say) =
      (say.lines, record { written = written; file = sym same ∙ file; say = say.say; apart = say.apart }, say.kept)

  pub fault_of_file : (fault : StatementFault) → HasFileFault all fault → HasFault bytes fault
  fault_of_file BadHeader has = λ written file. has written (same ∙ file)
  fault_of_file (BadRow number cause) (written, file, bad) = (written, sym same ∙ file, bad)
  fault_of_file Memory has = tt
