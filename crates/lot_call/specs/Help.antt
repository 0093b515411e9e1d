-- What helps where a book is damaged (docs/RULES.md, Notes on standard error).
use Rattle.std.specs.Prelude.{ℕ, List, Option, None, Some, codes}
use Rattle.lot_args.specs.declared.action.Action.{Action}
use Rattle.lot_args.specs.declared.action.Action.TheVariants.{Import, ImportBy, Post, PostRow, Reconcile, Report}

abbrev pub by_verify : List ℕ
by_verify = codes "lotbook verify says where the damage shows"

-- what helps of an action that takes up a book; one that judges the whole of it, or makes one, has another fault or says more
abbrev pub help_of : Action → Option (List ℕ)
help_of (Post post) = Some by_verify
help_of (PostRow book batch reference rounding) = Some by_verify
help_of (Import «import») = Some by_verify
help_of (ImportBy «import») = Some by_verify
help_of (Report book report) = Some by_verify
help_of (Reconcile asked) = Some by_verify
help_of _ = None
