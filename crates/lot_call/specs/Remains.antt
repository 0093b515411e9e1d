-- What remains of a call whose output can't be written.
use Rattle.std.specs.Prelude.{◌==◌, ◌++◌, ℕ, List, Option, None, Some, codes, if◌then◌else◌}
use Rattle.std.specs.Fmt.{decimal}
use Rattle.lot_args.specs.declared.action.Action.{Action}
use Rattle.lot_args.specs.declared.action.Action.TheVariants.{Import, ImportBy, Init, Migrate, Post, PostRow, Restore}
use Rattle.lot_args.specs.declared.request.Effect.{Effect}
use Rattle.lot_args.specs.declared.request.Effect.TheVariants.{DryRun, Keep}
use Rattle.lot_output.specs.declared.course.Course.{Course}
use Rattle.lot_call.specs.declared.fate.Fate.{Fate}
use Rattle.lot_call.specs.declared.fate.Fate.TheVariants.{Dropped, InDoubt, Kept}
use Rattle.lot_call.specs.declared.remains.Remains.{Remains}
use Rattle.lot_call.specs.declared.remains.Remains.TheVariants as remains

-- a book that was made or migrated is so, unless a fault was told
abbrev pub unless_fault : Course → Remains → Remains
unless_fault course done = if course.faults == 0 then done else remains.Output

-- a run goes on at the command whose reply isn't written
abbrev pub of_run : (Option ℕ → ℕ → Remains) → Course → Option ℕ → Remains
of_run reached course (Some number) = reached course.standing number
of_run reached course None = remains.Output

-- where what is done is kept
abbrev pub kept_of : Action → Course → Remains
kept_of (Post post) course = of_run remains.Commands course course.last
kept_of (PostRow book batch reference rounding) course = of_run remains.Commands course course.last
kept_of (Import «import») course = of_run remains.Rows course course.last
kept_of (ImportBy «import») course = of_run (λ last from. remains.Accepted) course course.last
kept_of (Init book) course = unless_fault course remains.Made
kept_of (Migrate book) course = unless_fault course remains.Migrated
kept_of (Restore restore) course = remains.Made
kept_of _ course = remains.Output

-- of a dry run nothing is kept, nor of a call that is dropped; of one in doubt the same call tells
abbrev pub remains_of : Action → Effect → Fate → Course → Remains
remains_of action (DryRun preview) fate course = remains.DryRun
remains_of action Keep Dropped course = remains.Output
remains_of action Keep InDoubt course = remains.Whole
remains_of action Keep Kept course = kept_of action course

-- ---- What is said of it.

-- how a run goes on
abbrev pub goes_on : ℕ → List ℕ
goes_on from = codes "; --from " ++ (decimal from ++ codes " goes on")

-- how far a run came, by the number of the last command or row in the book, and how it goes on
abbrev pub reached_text : List ℕ → Option ℕ → ℕ → List ℕ
reached_text what (Some last) from =
    what ++ (codes " " ++ (decimal last ++ (codes " is the last of this call in the book" ++ goes_on from)))
reached_text what None from = codes "no " ++ (what ++ (codes " of this call is in the book" ++ goes_on from))

abbrev pub text_of : Remains → List ℕ
text_of remains.Output = codes "the output is cut short"
text_of remains.DryRun = codes "the output of a dry run is cut short"
text_of remains.Made = codes "the book is made"
text_of remains.Migrated = codes "the book is migrated"
text_of (remains.Commands last from) = reached_text (codes "command") last from
text_of (remains.Rows last from) = reached_text (codes "row") last from
text_of remains.Accepted = codes "the same call, sent again, goes on: what is in the book is a `repeat`"
text_of remains.Whole = codes "the same call, sent again, tells: where all is kept, each line says `repeat`"
