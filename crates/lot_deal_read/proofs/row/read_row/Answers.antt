-- A row has one kind, or one fault of its kinds.
use Rattle.std.proofs.Common.{Err, Result, refl, ap, ◌∙◌}
use Rattle.std.specs.List.{slice_get}
use Rattle.lot_profile.specs.declared.kind.KindRule.{KindRule}
use Rattle.lot_roles.specs.declared.fault.RowFault.{RowFault}
use Rattle.lot_deal_read.specs.declared.says.RowSays.{RowSays}
use Rattle.lot_deal_read.proofs.RuleLemmas.{err-is, one-no-rules, one-rule, rules-or-fault}
use Rattle.lot_deal_read.proofs.row.read_row.Goals as goal

pub returns-in_err-rules-clause-no_rules : goal.returns-in_err-rules-clause-no_rules
returns-in_err-rules-clause-no_rules c = λ fault none.
    let table = slice_get c.args.profile.now.tables c.args.row.now.table in
    let same = one-no-rules c.args.profile.now c.args.row.now table c.in_err-rules.field-0.0 fault c.in_err-rules.ensures.fault none in
    err-is c.from_residual.result c.in_err-rules.field-0.0 c.from_residual.ensures ∙ ap (λ (f : RowFault). let r : Result RowSays RowFault = Err f in r) same

pub returns-in_err-rules-clause-skipped : goal.returns-in_err-rules-clause-skipped
returns-in_err-rules-clause-skipped c = λ rules are skip.
    let table = slice_get c.args.profile.now.tables c.args.row.now.table in
    absurd (rules-or-fault c.args.profile.now c.args.row.now table rules c.in_err-rules.field-0.0 refl are c.in_err-rules.ensures.fault)

pub returns-clause-no_rules : goal.returns-clause-no_rules
returns-clause-no_rules c = λ fault none.
    let table = slice_get c.args.profile.now.tables c.args.row.now.table in
    absurd (rules-or-fault c.args.profile.now c.args.row.now table c.in_ok-rules.rules fault refl c.in_ok-rules.ensures.ok none)

pub returns-clause-skipped : goal.returns-clause-skipped
returns-clause-skipped c = λ rules are skip.
    let same = one-rule c.args.profile.now c.args.row.now c.in_ok-rules.rules rules c.in_ok-rules.ensures.ok are in
    c.says.ensures.skipped (ap (λ (k : KindRule). k.kind) same ∙ skip)
