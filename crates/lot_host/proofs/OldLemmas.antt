-- An old book that isn't taken up.
use Rattle.std.specs.Prelude.{ℕ, IfErr, List, Result, Ok, Err}
use Rattle.std.proofs.Common.{inr}
use Rattle.lot_files.specs.Path.{library_path}
use Rattle.lot_host.specs.Done.{HasNoOld, IsReadOf}
use Rattle.lot_host.specs.declared.host.Host.{Ghosts}

-- where none is taken up on the database of a path, there is no old book of that path
pub none_taken_up : {H D O : Type 0} (g : Ghosts H D O) (path : List ℕ) (database : D) (result : Result O ℕ)
    → IsReadOf g (library_path path) database → IfErr result (g.refuses_old database) → IfErr result (HasNoOld g path)
none_taken_up g path database (Ok old) of_path refused = refused
none_taken_up g path database (Err status) of_path refused =
    inr (record { database = database; of_path = of_path; refused = refused })
