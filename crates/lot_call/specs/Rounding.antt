-- Which account takes the crumbs of an action.
use Rattle.std.specs.Prelude.{Option, None}
use Rattle.lot_args.specs.declared.action.Action.{Action}
use Rattle.lot_args.specs.declared.action.Action.TheVariants.{Check, Import, ImportBy, Post, PostRow}
use Rattle.lot_rounding.specs.declared.rounding.Rounding.{Rounding}

-- the one that it names, if it runs commands
abbrev pub rounding_of : Action → Option Rounding
rounding_of (Check rounding) = rounding
rounding_of (Post post) = post.rounding
rounding_of (PostRow book batch reference rounding) = rounding
rounding_of (Import «import») = «import».rounding
rounding_of (ImportBy «import») = «import».rounding
rounding_of _ = None
