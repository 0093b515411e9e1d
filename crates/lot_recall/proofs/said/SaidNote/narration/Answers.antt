use Rattle.std.specs.Prelude.{IfOk}
use Rattle.std.specs.String.{string_bytes}
use Rattle.std.proofs.Common.{subst}
use Rattle.lot_noted.specs.Book.{Narrates}
use Rattle.lot_recall.proofs.SaidLemmas.{copied}
use Rattle.lot_recall.proofs.said.SaidNote.narration.Goals as goal

pub returns : goal.returns
returns c =
    subst (λ text. IfOk c.copy_of.result (Narrates text)) c.self.view_is
    (copied c.copy_of.result (string_bytes c.self.inside.text) c.self.inside.narration c.copy_of.ensures c.self.invariant)
