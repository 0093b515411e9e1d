-- What was heard of a call.
use Rattle.std.specs.Prelude.{◌≡◌, ◌==◌, ◌-◌, Bool, List, ℕ, Option, None, Some, false, length, nat_le, slice_index_or, true}
use Rattle.std.specs.declared.io.Error.{Error}
use Rattle.std.specs.declared.io.ErrorKind.{ErrorKind}
use Rattle.std.specs.declared.io.ErrorKind.TheVariants.{Interrupted}
use Rattle.lot_output.specs.Course.{Says, course_after}
use Rattle.lot_output.specs.declared.course.Course.{Course}
use Rattle.lot_output.specs.declared.course.Said.{Said}
use Rattle.lot_output.specs.declared.course.Said.TheVariants.{Accepted, Fault, Refused, Repeated, Restored, Stopped}
use Rattle.lot_output.specs.Record.{Keeps}
use Rattle.lot_output.specs.declared.heard.Heard.{Heard}
use Rattle.lot_output.specs.declared.record.Record.{Record}

-- how far a run came with what one more line says
abbrev pub course_with : Option Said → Course → Course
course_with None course = course
course_with (Some said) course = course_after said course

-- whether a line that says so is kept, where so many refusals are, and with it so many commands are refused
abbrev pub is_kept : ℕ → ℕ → Option Said → Bool
is_kept most refused None = false
is_kept most refused (Some (Accepted number)) = false
is_kept most refused (Some (Repeated number)) = false
is_kept most refused (Some (Refused number)) = nat_le refused most
is_kept most refused (Some (Stopped number)) = true
is_kept most refused (Some Fault) = true
is_kept most refused (Some Restored) = false

-- a line is kept behind those before it, or left out
abbrev pub KeepsIf : Bool → List ℕ → Record → Record → Type 0
KeepsIf true line before after = Keeps line before after
KeepsIf false line before after = after ≡ before

-- a line is heard, where so many refusals are kept
pub record Hears (most : ℕ) (line : List ℕ) (before after : Heard) : Type 0 where
  pub said : Option Said
  pub says : Says line said
  pub course : after.course ≡ course_with said before.course
  pub lines : KeepsIf (is_kept most after.course.refused said) line before.lines after.lines

-- whether a text ends with a line end
abbrev pub ends_line : List ℕ → Bool
ends_line text = slice_index_or text (length text - 1) 0 == 10

-- why a call failed: one that was interrupted is tried again
abbrev pub told_by : ErrorKind → Error → Option Error
told_by Interrupted error = None
told_by _ error = Some error
