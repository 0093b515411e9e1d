-- Which rows an action leaves out.
use Rattle.std.specs.Prelude.{ℕ, List, []}
use Rattle.lot_args.specs.declared.action.Action.{Action}
use Rattle.lot_args.specs.declared.action.Action.TheVariants.{Import, ImportBy}

-- the `ref` of each
abbrev pub except_of : Action → List (List ℕ)
except_of (Import «import») = «import».except.items
except_of (ImportBy «import») = «import».except.items
except_of _ = []
