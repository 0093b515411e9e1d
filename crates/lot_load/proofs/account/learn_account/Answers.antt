-- An account that was opened has a row, another has none.
use Rattle.std.proofs.Common.{sym, ◌∙◌}
use Rattle.lot_view.specs.View.{known_with_openings}
use Rattle.lot_load.proofs.ReadLemmas.{reads_first, tells}
use Rattle.lot_load.specs.Known.{KnowsStanding, Learns, said_by}
use Rattle.lot_load.proofs.PutLemmas.{no_standing, put_standing}
use Rattle.lot_load.proofs.account.learn_account.Goals as goal

pub returns-in_ok-put_account-clause-teaches : goal.returns-in_ok-put_account-clause-teaches
returns-in_ok-put_account-clause-teaches g c =
    let old = g.D.Queryable.shown c.args.conn.now in
    let new = g.D.Queryable.shown c.find_standing.new.conn in
    let account = c.args.account.now in
    tells _ old new tt
    (reads_first _ _ _ (λ entries. Learns (KnowsStanding account) (said_by entries) (known_with_openings c.args.view.now) (known_with_openings c.put_account.new.self)) old new
    c.in_ok-standing.field-0 c.in_ok-standing.ensures.tells
    (λ tables entries book stand good is.
    put_standing account c.in-Some.standing (said_by entries) (known_with_openings c.args.view.now) (known_with_openings c.put_account.new.self) c.in_ok-put_account.ensures.ok c.in_ok-put_account.ensures.openings
    (sym (is entries book stand) ∙ c.in-Some.is)))

pub returns-in_default-clause-teaches : goal.returns-in_default-clause-teaches
returns-in_default-clause-teaches g c =
    let old = g.D.Queryable.shown c.args.conn.now in
    let new = g.D.Queryable.shown c.find_standing.new.conn in
    let account = c.args.account.now in
    tells _ old new tt
    (reads_first _ _ _ (λ entries. Learns (KnowsStanding account) (said_by entries) (known_with_openings c.args.view.now) (known_with_openings c.args.view.now)) old new
    c.in_ok-standing.field-0 c.in_ok-standing.ensures.tells
    (λ tables entries book stand good is. no_standing account (said_by entries) (known_with_openings c.args.view.now) (sym (is entries book stand) ∙ c.in_default.is)))
