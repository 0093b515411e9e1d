use Rattle.std.proofs.Common.{◌∙◌, refl}
use Rattle.lot_call.proofs.ToldLemmas.{profile_kept}
use Rattle.lot_call.proofs.told.tell_profile.Goals as goal

pub returns : goal.returns
returns g c =
    profile_kept c.flush.result (g.W.Write.contents c.args.output.now) (g.W.Write.contents c.write_all.new.self)
    (g.W.Write.contents c.flush.new.self) _ _ (refl, refl) _ (c.as_bytes.ensures.value ∙ c.in_ok-text.ensures) c.in_ok-write_all.ensures.bytes
    c.flush.ensures.bytes
