use Rattle.std.specs.Prelude.{false}
use Rattle.std.proofs.Common.{refl}
use Rattle.lot_register.proofs.RowLemmas.{none_taken}
use Rattle.lot_register.proofs.register.Register.new.Goals as goal

pub returns : goal.returns
returns c =
    none_taken (c.args.form, c.args.first)
    (record { alloc = c.args.alloc; form = c.args.form; first = c.args.first; lefts = c.new.result; has_rows = false })
    refl refl c.new.ensures refl
