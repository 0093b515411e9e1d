-- What leaves the command out is taken away.
use Rattle.std.proofs.Common.{◌∙◌, ap, map, not, rules}
use Rattle.std.proofs.lemmas.Fn.{filter_same}
use Rattle.lot_booking.proofs.ListLemmas.{map-filter}
use Rattle.lot_restore.specs.LeftOut.{is_of}
use Rattle.lot_restore.proofs.left_out.meet.Goals as goal

pub returns : goal.returns
returns c =
    ap (map (λ it. it.now)) (filter_same _ _ _ (λ x b f' k. search rules) _ _ c.retain.ensures.filtered)
    ∙ map-filter (λ it. it.now) (λ it. not (is_of c.args.dumped.now it)) c.args.unmet.now.items
