use Rattle.lot_walk.proofs.JournalLemmas.{reads_as_command}
use Rattle.lot_walk.proofs.journal.check_canonical.Goals as goal

pub returns-then-branch-clause-ok : goal.returns-then-branch-clause-ok
returns-then-branch-clause-ok c = reads_as_command c.args.text.now c.canonical_text_reads_as_its_command.ensures (c.in_ok-is_canonical.ensures.value.0 c.if-branch.true)
