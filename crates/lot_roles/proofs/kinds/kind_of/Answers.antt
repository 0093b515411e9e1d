use Rattle.std.proofs.Common.{◌+◌, List, subst}
use Rattle.lot_profile.specs.declared.kind.KindRule.{KindRule}
use Rattle.lot_roles.specs.Kinds.{AreFirstTwo, IsOnly}
use Rattle.lot_roles.proofs.KindLemmas.{first_two, only_one}
use Rattle.lot_roles.proofs.kinds.kind_of.Goals as goal

pub returns-in-None-clause-ok : goal.returns-in-None-clause-ok
returns-in-None-clause-ok c =
    subst (λ (kinds : List KindRule). IsOnly c.args.form.now c.args.row.now kinds c.index-kinds-first.result) c.as_slice-kinds.ensures
    (only_one c.args.form.now c.args.row.now c.as_slice-kinds.result.now c.in-Some.first c.index-kinds-first.result c.index-kinds-first.is
    c.in-Some.ensures.some c.in-Some.ensures.next c.in-None.ensures.none)

pub returns-in-Some-next_kind-clause-fault : goal.returns-in-Some-next_kind-clause-fault
returns-in-Some-next_kind-clause-fault c =
    subst (λ (kinds : List KindRule). AreFirstTwo c.args.form.now c.args.row.now kinds (c.in-Some.first + 1) (c.in-Some-next_kind.second + 1))
    c.as_slice-kinds.ensures
    (first_two c.args.form.now c.args.row.now c.as_slice-kinds.result.now c.in-Some.first c.in-Some-next_kind.second c.in-Some.ensures.some
    c.in-Some-next_kind.ensures.some c.in-Some-next_kind.ensures.behind c.in-Some.ensures.next c.in-Some-next_kind.ensures.next)
