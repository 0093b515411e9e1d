-- What became of a call that keeps all or none.
use Rattle.std.specs.Prelude.{◌==◌, ◌&&◌, ◌||◌, Bool, List, ℕ, Option, None, Some, codes, false, if◌then◌else◌, is_none, is_some, nat_eq, nat_lt, not, true}
use Rattle.std.specs.List.{ends_with}
use Rattle.lot_args.specs.declared.action.Action.{Action}
use Rattle.lot_args.specs.declared.action.Action.TheVariants.{Import, ImportBy, Post, Restore}
use Rattle.lot_args.specs.declared.action.Keeping.{Keeping}
use Rattle.lot_args.specs.declared.action.Keeping.TheVariants.{AllOrNone, Each}
use Rattle.lot_output.specs.Record.{held}
use Rattle.lot_output.specs.declared.course.Course.{Course}
use Rattle.lot_output.specs.declared.heard.Heard.{Heard}
use Rattle.lot_call.specs.declared.fate.Fate.{Fate}
use Rattle.lot_call.specs.declared.fate.Fate.TheVariants.{Dropped, InDoubt, Kept}

abbrev pub is_all_or_none : Keeping → Bool
is_all_or_none AllOrNone = true
is_all_or_none Each = false

-- whether an action keeps all or none
abbrev pub keeps_all_or_none : Action → Bool
keeps_all_or_none (Post post) = is_all_or_none post.keeping
keeps_all_or_none (Import «import») = is_all_or_none «import».keeping
keeps_all_or_none (ImportBy «import») = is_all_or_none «import».keeping
keeps_all_or_none _ = false

-- Whether a run that keeps all or none stopped before its commit, by what was heard of it. After S5 nobody knows whether it was made.
-- Where memory ended in it, no reply stands before the fault.
abbrev pub stops_before_commit : List ℕ → Course → Bool
stops_before_commit lines course =
    not ((course.faults == 0) || ends_with nat_eq lines (codes " fault S5 InDoubt\n"))
    && (not (ends_with nat_eq lines (codes " fault Memory\n")) || is_some course.standing || nat_lt 0 course.refused)

-- What became of a call that keeps all or none, and that refused no command: the lines of its faults are known, or not, and all its
-- output was written, or not. What was written is so; what stands behind a line that couldn't be written isn't heard.
abbrev pub fate_by : Option (List ℕ) → Course → Bool → Fate
fate_by None course written = InDoubt
fate_by (Some lines) course written =
    if stops_before_commit lines course then Dropped
    else (if (course.faults == 0) && written then Kept else InDoubt)

abbrev pub fate_heard : Heard → Fate
fate_heard heard = fate_by (held heard.lines) heard.course (is_none heard.failure)

-- what became of a book that was to be made of a dump
abbrev pub fate_of_restore : Course → Fate
fate_of_restore course = if course.restored then Kept else Dropped

-- what became of what an action was to keep; what each command keeps for itself is never in doubt
abbrev pub fate_of_action : Action → Heard → Fate
fate_of_action (Restore restore) heard = fate_of_restore heard.course
fate_of_action action heard = if keeps_all_or_none action then fate_heard heard else Kept

-- What became of what a call was to keep, whose commands were dropped, or not.
abbrev pub fate_of : Bool → Action → Heard → Fate
fate_of dropped action heard = if dropped then Dropped else fate_of_action action heard
