use Rattle.lotbook.proofs.system.SystemHost.is_missing.Goals as goal

pub returns : goal.returns
returns c = (c.args.self.now.rt.now, c.is_missing.ensures)
