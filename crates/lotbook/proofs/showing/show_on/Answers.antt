use Rattle.lotbook.proofs.showing.show_on.Goals as goal

pub returns : goal.returns
returns c = record { input = _; before = _; written = _; shows = c.show_to-status.ensures }
