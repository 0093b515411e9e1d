-- The number of the first command or row to run, of the values matched by `clap`.
use Rattle.std.specs.Prelude.{ℕ, List, codes}
use Rattle.clap.specs.Words.{Row}
use Rattle.lot_args.specs.Number.{number_of}
use Rattle.lot_args.specs.Start.{start_at}

-- the number of the first command or row to run
abbrev pub from_of : List Row → ℕ
from_of rows = start_at (number_of (codes "from") 1 rows)
