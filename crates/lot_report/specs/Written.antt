-- What a call puts behind what a writer holds, and how far it comes where it fails.
use Rattle.std.specs.Prelude.{◌≡◌, ◌≢◌, ℕ, ◌<◌, List, [], ◌∷◌, ◌++◌, flat_map, Option, Result, Ok, Err}
use Rattle.std.specs.Io.KnownBytes.{Appends}
use Rattle.std.specs.IoError.{error_kind}
use Rattle.std.specs.declared.io.Error.{Error}
use Rattle.std.specs.declared.io.ErrorKind.{ErrorKind}
use Rattle.lot_report.specs.declared.line.PrintFault.{PrintFault}
use Rattle.lot_report.specs.declared.line.PrintFault.TheVariants.{Write, Memory}

-- the most bytes that a written line may have, its line end included
abbrev pub longest_written : ℕ
longest_written = 512

-- ---- Prefixes.

-- the text begins with the prefix
abbrev pub IsPrefixOf : List ℕ → List ℕ → Type 0
IsPrefixOf prefix text = (rest : List ℕ) × (text ≡ prefix ++ rest)

-- the text begins with the prefix, and goes on behind it
abbrev pub IsProperPrefixOf : List ℕ → List ℕ → Type 0
IsProperPrefixOf prefix text = (next : ℕ) × (rest : List ℕ) × (text ≡ prefix ++ next ∷ rest)

-- a prefix of the text, but not all of it, is put behind what the writer held
abbrev pub AppendsPrefix : Option (List ℕ) → Option (List ℕ) → List ℕ → Type 0
AppendsPrefix old new text = (prefix : List ℕ) × IsProperPrefixOf prefix text × Appends old new prefix

-- ---- Lines.

-- the line is put behind what the writer held; out of memory, nothing is; where the writer fails, a prefix of the
-- line, but not all of it
abbrev pub WritesLine : Option (List ℕ) → Option (List ℕ) → Result (Unit {0}) PrintFault → List ℕ → Type 0
WritesLine old new (Ok done) line = Appends old new line
WritesLine old new (Err Memory) line = Appends old new []
WritesLine old new (Err Write) line = AppendsPrefix old new line

-- The texts of items are put one behind another, behind what the writer held. Out of memory, whole texts are, but not all;
-- where the writer fails, a prefix of them is, but not all of it.
abbrev pub WritesEach : {X : Type 0} → (X → List ℕ) → List X → Option (List ℕ) → Option (List ℕ) → Result (Unit {0}) PrintFault → Type 0
WritesEach text items old new (Ok done) = Appends old new (flat_map text items)
WritesEach text items old new (Err Memory) =
    (before : List _) × (next : _) × (after : List _) × (items ≡ before ++ next ∷ after) × Appends old new (flat_map text before)
WritesEach text items old new (Err Write) = AppendsPrefix old new (flat_map text items)

-- How many bytes one call of `write` took. An interrupted call took none, and is tried again. A call that took nothing, or
-- failed otherwise, is a fault of the writer.
abbrev pub IsTaken : Result ℕ Error → Result ℕ PrintFault → Type 0
IsTaken (Ok taken) (Ok count) = (0 < taken) × (count ≡ taken)
IsTaken (Ok taken) (Err fault) = (taken ≡ 0) × (fault ≡ Write)
IsTaken (Err error) (Ok count) = (error_kind error ≡ ErrorKind.Interrupted) × (count ≡ 0)
IsTaken (Err error) (Err fault) = (error_kind error ≢ ErrorKind.Interrupted) × (fault ≡ Write)
