use Rattle.lot_cli.specs.Sessions.{SessionLeaves}
use Rattle.lot_stops.proofs.ReopeningLemmas.{found_after_crash, if_both}
use Rattle.lot_stops.proofs.reopening.stop_and_open.Goals as goal

pub returns : goal.returns
returns g c = record {
  found = if_both c.open_files.result
      (λ again opened finds clean before sent leaves.
      found_after_crash c.args.conn c.into_store.result c.close-files.result _ again (SessionLeaves before sent)
      c.into_store.ensures.numbered c.into_store.ensures.sound c.into_store.ensures.quiet c.close-files.ensures
      c.crash.ensures.left c.crash-2.ensures.left c.crash.ensures.clean c.crash-2.ensures.clean
      (finds clean) (opened clean) leaves)
      c.open_files.ensures.opened c.open_files.ensures.found;
}
