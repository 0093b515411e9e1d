use Rattle.std.proofs.Common.{◌∙◌, ap, sym}
use Rattle.lot_dump.specs.Cutting.{head_by}
use Rattle.lot_dump.proofs.HeadLemmas.{head_newer, head_read, head_says}
use Rattle.lot_dump.proofs.head.read_head.Goals as goal

pub returns-in-Some-clause-head : goal.returns-in-Some-clause-head
returns-in-Some-clause-head c =
    head_says c.args.line.now _ (c.this_format.ensures ∙ ap head_by (sym c.in-Some.is ∙ c.any_head.ensures))

pub returns-in-Some-clause-every : goal.returns-in-Some-clause-every
returns-in-Some-clause-every c =
    head_read c.args.line.now _ (c.this_format.ensures ∙ ap head_by (sym c.in-Some.is ∙ c.any_head.ensures))

pub returns-in-Some-clause-newer : goal.returns-in-Some-clause-newer
returns-in-Some-clause-newer c =
    head_newer c.args.line.now _ (c.this_format.ensures ∙ ap head_by (sym c.in-Some.is ∙ c.any_head.ensures))

pub returns-in-None-clause-every : goal.returns-in-None-clause-every
returns-in-None-clause-every c = head_read c.args.line.now _ (ap head_by (sym c.in-None.is ∙ c.any_head.ensures))

pub returns-in-None-clause-newer : goal.returns-in-None-clause-newer
returns-in-None-clause-newer c = head_newer c.args.line.now _ (ap head_by (sym c.in-None.is ∙ c.any_head.ensures))
