use Rattle.sqlite.specs.Held.{state}
use Rattle.lot_cli.proofs.DumpedLemmas.{taken}
use Rattle.lot_cli.proofs.laws.what_is_dumped_is_taken.Goals as goal

pub returns : goal.returns
returns g c asked book entries stands none blanks input is old new =
    taken asked (state g.S.Store book) entries stands none blanks input is (state g.S.Store old) (state g.S.Store new)
