use Rattle.lot_cli.proofs.report.holdings.Goals as goal

pub returns-in-Text-clause-shows : goal.returns-in-Text-clause-shows
returns-in-Text-clause-shows g c = rw c.in-Text.is c.show_holdings.ensures.shows

pub returns-in-Csv-clause-shows : goal.returns-in-Csv-clause-shows
returns-in-Csv-clause-shows g c = rw c.in-Csv.is c.show_holdings_csv.ensures.shows
