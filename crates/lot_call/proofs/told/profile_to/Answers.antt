use Rattle.std.specs.Io.Buffered.{writer_contents}
use Rattle.lot_call.specs.Told.{AppendsProfile}
use Rattle.lot_call.proofs.ToldLemmas.{shown_so}
use Rattle.lot_call.proofs.told.profile_to.Goals as goal

pub returns : goal.returns
returns g c =
    shown_so (AppendsProfile (writer_contents g.W.Write.contents c.args.output.buffer)) c.tell_profile-shown.result _ _ _ _ _
    c.end_shown.ensures.status c.tell_profile-shown.ensures c.end-writer.ensures.whole c.status_behind.ensures
