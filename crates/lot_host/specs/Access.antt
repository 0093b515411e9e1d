-- What a call opens: the path of the book that its action names, and what the book is opened for.
use Rattle.std.specs.Prelude.{ℕ, Bool, false, true, List, Option, None, Some, option_map}
use Rattle.std.specs.String.{string_bytes}
use Rattle.lot_args.specs.declared.action.Action.{Action}
use Rattle.lot_args.specs.declared.action.Action.TheVariants.{Check, Init, Migrate, Post, PostRow, Import, ImportBy, Report, Reconcile, Restore, Verify}
use Rattle.lot_args.specs.declared.request.Effect.{Effect}
use Rattle.lot_args.specs.declared.request.Effect.TheVariants.{Keep, DryRun}
use Rattle.lot_files.specs.declared.opened.Access.{Access}
use Rattle.lot_files.specs.declared.opened.Access.TheVariants.{Copy, Read, Write}

-- the path; a check names no book
abbrev pub path_of : Action → Option (List ℕ)
path_of (Check rounding) = None
path_of (Init book) = Some (string_bytes book)
path_of (Migrate book) = Some (string_bytes book)
path_of (Post post) = Some (string_bytes post.book)
path_of (PostRow book batch reference rounding) = Some (string_bytes book)
path_of (Import «import») = Some (string_bytes «import».book)
path_of (ImportBy «import») = Some (string_bytes «import».book)
path_of (Report book report) = Some (string_bytes book)
path_of (Reconcile asked) = Some (string_bytes asked.book)
path_of (Restore restore) = Some (string_bytes restore.book)
path_of (Verify book saying) = Some (string_bytes book)

-- the path of the book that a new one is compared with
abbrev pub old_of : Action → Option (List ℕ)
old_of (Restore restore) = option_map string_bytes restore.compare
old_of _ = None

-- whether the file of the book is made where there is none
abbrev pub makes_file : Action → Bool
makes_file (Init book) = true
makes_file (Restore restore) = true
makes_file _ = false

-- what changes a book writes it where that is kept, and else is tried on a copy
abbrev pub to_change : Effect → Access
to_change Keep = Write
to_change (DryRun preview) = Copy

-- a report reads the book; a check opens none, and is tried on an empty copy
abbrev pub access_of : Action → Effect → Access
access_of (Check rounding) effect = Copy
access_of (Init book) effect = to_change effect
access_of (Migrate book) effect = to_change effect
access_of (Post post) effect = to_change effect
access_of (PostRow book batch reference rounding) effect = to_change effect
access_of (Import «import») effect = to_change effect
access_of (ImportBy «import») effect = to_change effect
access_of (Report book report) effect = Read
access_of (Reconcile asked) effect = Read
access_of (Restore restore) effect = to_change effect
access_of (Verify book saying) effect = Read
