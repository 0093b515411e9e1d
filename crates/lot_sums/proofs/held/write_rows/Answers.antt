use Rattle.lot_sums.proofs.held.write_rows.Goals as goal

pub returns-in-Text-clause-shows : goal.returns-in-Text-clause-shows
returns-in-Text-clause-shows g c = rw c.in-Text.is c.write_listed.ensures.shows

pub returns-in-Csv-clause-shows : goal.returns-in-Csv-clause-shows
returns-in-Csv-clause-shows g c = rw c.in-Csv.is c.write_listed_csv.ensures.shows
