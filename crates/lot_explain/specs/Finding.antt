-- What was found of the crumbs of a command as it was judged.
use Rattle.std.specs.Prelude.{ℕ, Option}
use Rattle.std.specs.BTreeMap.{get}
use Rattle.std.specs.Ordering.{nat_cmp}
use Rattle.lot_explain.specs.declared.finding.Finding.{Finding}
use Rattle.lot_explain.specs.declared.finding.Findings.{Findings}

-- what was found of the command of that number
abbrev pub finding_of : Findings → ℕ → Option Finding
finding_of findings number = get nat_cmp findings.by_number number
