use Rattle.lot_cli.proofs.run.tell.Goals as goal

pub returns-in-Ok-clause-end : goal.returns-in-Ok-clause-end
returns-in-Ok-clause-end g c =
    rw (c.in-Ok.is) (c.finish.result, c.code.ensures.value, c.finish.ensures.end, c.finish.ensures.none_failed)
