use Rattle.std.proofs.Common.{◌≡◌, ℕ, List, [], ◌∷◌, sym, subst}
use Rattle.std.specs.String.{string_bytes}
use Rattle.std.proofs.lemmas.Result.{IfOk-weaker}
use Rattle.lot_command.specs.Canonical.{canonical}
use Rattle.lot_read.specs.Text.{Reads}
use Rattle.lot_print.proofs.ReadLemmas.{command_reads}
use Rattle.lot_print.proofs.printed.print.Goals as goal

pub returns-clause-reads_back : goal.returns-clause-reads_back
returns-clause-reads_back c =
    let command = c.args.command.now in
    IfOk-weaker c.body.result (λ text. string_bytes text ≡ canonical command) (λ text. Reads (string_bytes text) (command ∷ []))
    (λ text same. subst (λ (bytes : List ℕ). Reads bytes (command ∷ [])) (sym same) (command_reads command c.is_sayable.ensures))
    c.body.ensures
