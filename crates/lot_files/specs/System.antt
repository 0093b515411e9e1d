-- What the system answers. No clause of the library says what there is at a path, so that any answer may be the system's. This
-- definition isn't opened but in the proofs of the system's own calls: so what is said of the answer for one path, or of one call, is
-- never said of another.
use Rattle.std.specs.Prelude.{List, ℕ, Option, Result}
use Rattle.std.specs.declared.fs.options.OpenOptions.{OpenOptions}
use Rattle.std.specs.declared.io.Error.{Error}
use Rattle.lot_files.specs.declared.file_system.FileSystem.{Ghosts}
use Rattle.lot_files.specs.declared.file_opener.FileOpener.{Ghosts as OpenerGhosts}

-- what the system is asked
pub data Call : Type 0 where
  LeadsTo : List ℕ → Call
  Has : List ℕ → Call
  IsReally : List ℕ → Call
  Begins : List ℕ → Call
  Heads : List ℕ → Call
  Holds : List ℕ → Call
  Opens : OpenOptions → List ℕ → Call
  Gives : List ℕ → Call
  Draws : Call

-- it answers so
pub Answers : {A : Type 0} → Call → A → Type 0
Answers call answer = Unit {0}

pub answers : {A : Type 0} (call : Call) (answer : A) → Answers call answer
unfolding Answers
answers call answer = tt

-- what the system shows of paths
abbrev pub system_shows : {S : Type 0} → Ghosts S
system_shows = record {
  leads_to = λ system path found. Answers (LeadsTo path) found;
  has = λ system path found. Answers (Has path) found;
  is_really = λ system path real. Answers (IsReally path) real;
  begins = λ system path first. Answers (Begins path) first;
  heads = λ system path head. Answers (Heads path) head;
  holds = λ system path bytes. Answers (Holds path) bytes;
}

-- how it opens files to be written
abbrev pub system_makes : {S : Type 0} → S → OpenOptions → List ℕ → Result Unit Error → Type 0
system_makes system how path opened = Answers (Opens how path) opened

-- the number that it draws
abbrev pub system_draws : {S : Type 0} → S → Option ℕ → Type 0
system_draws system seed = Answers Draws seed

-- how it opens the files of books
abbrev pub system_gives : {S A : Type 0} → OpenerGhosts S A
system_gives = record {
  gives = λ system path files. Answers (Gives path) files;
  draws = system_draws;
}
