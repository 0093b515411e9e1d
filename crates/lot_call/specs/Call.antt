-- How much is said of a call, and of what.
use Rattle.std.specs.Prelude.{◌^◌, ◌-◌, ℕ, Bool, false, true, List, Option, None, Some, codes}
use Rattle.lot_args.specs.declared.action.Action.{Action}
use Rattle.lot_args.specs.declared.action.Action.TheVariants.{Post, PostRow, Import, ImportBy}
use Rattle.lot_args.specs.declared.request.Notes.{Notes}
use Rattle.lot_args.specs.declared.request.Notes.TheVariants.{All, Quiet}

-- whether standard error stays empty
abbrev pub is_quiet : Notes → Bool
is_quiet Quiet = true
is_quiet _ = false

-- how many refusals are explained
abbrev pub most : Notes → ℕ
most All = 2 ^ 64 - 1
most _ = 10

-- what a call runs one after another, in the plural
abbrev pub runs : Action → Option (List ℕ)
runs (Post post) = Some (codes "commands")
runs (PostRow book batch reference rounding) = Some (codes "commands")
runs (Import «import») = Some (codes "rows")
runs (ImportBy «import») = Some (codes "rows")
runs _ = None
