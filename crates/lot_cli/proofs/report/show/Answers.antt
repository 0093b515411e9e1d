use Rattle.lot_cli.proofs.ReportLemmas.{placed}
use Rattle.lot_cli.proofs.report.show.Goals as goal

pub returns-in-Holdings-clause-shows : goal.returns-in-Holdings-clause-shows
returns-in-Holdings-clause-shows g c = rw c.in-Holdings.is (placed g.S.Store _ _ _ c.holdings.ensures.shows)

pub returns-in-Gains-clause-shows : goal.returns-in-Gains-clause-shows
returns-in-Gains-clause-shows g c = rw c.in-Gains.is (placed g.S.Store _ _ _ c.gains.ensures.shows)

pub returns-in-GainsBy-clause-shows : goal.returns-in-GainsBy-clause-shows
returns-in-GainsBy-clause-shows g c =
    let shows = rw (c.deref.ensures.value, c.form_of-in-GainsBy.ensures) at c.show_gains_by.ensures.shows in
    rw c.in-GainsBy.is (placed g.S.Store _ _ _ shows)

pub returns-in-AddedGains-clause-shows : goal.returns-in-AddedGains-clause-shows
returns-in-AddedGains-clause-shows g c = rw c.in-AddedGains.is (placed g.S.Store _ _ _ c.show_added_gains.ensures.shows)

pub returns-in-HoldingsOn-clause-shows : goal.returns-in-HoldingsOn-clause-shows
returns-in-HoldingsOn-clause-shows g c =
    let shows = rw c.form_of.ensures at c.show_holdings_on.ensures.shows in
    rw c.in-HoldingsOn.is (placed g.S.Store _ _ _ shows)

pub returns-in-HoldingsOn-clause-rows : goal.returns-in-HoldingsOn-clause-rows
returns-in-HoldingsOn-clause-rows g c =
    let rows = rw c.form_of.ensures at c.show_holdings_on.ensures.rows in
    rw c.in-HoldingsOn.is rows

pub returns-in-Journal-clause-shows : goal.returns-in-Journal-clause-shows
returns-in-Journal-clause-shows g c = rw c.in-Journal.is (placed g.S.Store _ _ _ c.show_journal.ensures.shows)

pub returns-in-Dump-clause-shows : goal.returns-in-Dump-clause-shows
returns-in-Dump-clause-shows g c = rw c.in-Dump.is c.show_dump.ensures.shows

pub returns-in-Register-clause-shows : goal.returns-in-Register-clause-shows
returns-in-Register-clause-shows g c =
    rw c.in-Register.is
    (rw (c.legs_of-scope.ensures, c.form_of-in-Register.ensures) at (placed g.S.Store _ _ _ c.show_register.ensures.shows))

pub returns-in-Activity-clause-shows : goal.returns-in-Activity-clause-shows
returns-in-Activity-clause-shows g c =
    rw c.in-Activity.is
    (rw (c.scope_of-scope.ensures, c.form_of-in-Activity.ensures) at (placed g.S.Store _ _ _ c.show_activity.ensures.shows))

pub returns-in-Page-clause-shows : goal.returns-in-Page-clause-shows
returns-in-Page-clause-shows g c = rw c.in-Page.is (rw c.page_of-scope.ensures at c.show_page.ensures.shows)

pub returns-in-Page-clause-some : goal.returns-in-Page-clause-some
returns-in-Page-clause-some g c = rw c.in-Page.is (rw c.page_of-scope.ensures at c.show_page.ensures.some)

pub returns-in-Page-clause-rows : goal.returns-in-Page-clause-rows
returns-in-Page-clause-rows g c = rw c.in-Page.is (rw c.page_of-scope.ensures at c.show_page.ensures.rows)
