use Rattle.lot_book_report.proofs.dump.digest_book.Goals as goal

pub returns-in-Ok-clause-digest : goal.returns-in-Ok-clause-digest
returns-in-Ok-clause-digest g c = record {
  holds = λ clean entries stands. let body = c.in-Ok.ensures.shows.holds clean entries stands in body.1;
}
