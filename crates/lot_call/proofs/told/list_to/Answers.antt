use Rattle.std.specs.Io.Buffered.{writer_contents}
use Rattle.lot_explain.specs.Explained.{Lists}
use Rattle.lot_call.proofs.ToldLemmas.{shown_so}
use Rattle.lot_call.proofs.told.list_to.Goals as goal

pub returns : goal.returns
returns g c =
    shown_so (Lists (writer_contents g.W.Write.contents c.args.output.buffer)) c.list-shown.result _ _ _ _ _ c.end_shown.ensures.status
    c.list-shown.ensures c.end-writer.ensures.whole c.status_behind.ensures
