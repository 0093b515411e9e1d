-- Entry by entry: none is accepted on a full book, and none leaves the range.
use Rattle.std.proofs.lemmas.List.Elements.{All-from_recursion}
use Rattle.std.specs.Prelude.{[]}
use Rattle.lot_book.specs.Facts.{legs_of}
use Rattle.lot_book.specs.OpeningNumber.{IsNumbered}
use Rattle.lot_laws.proofs.LegRange.{stay_in_range}
use Rattle.lot_laws.proofs.OpeningPostings.{all_numbered}
use Rattle.lot_laws.proofs.opening_numbers.the_legs_of_a_book_are_numbered.Goals as goal

pub returns-clause-numbered : goal.returns-clause-numbered
returns-clause-numbered c = λ migration entries book.
    All-from_recursion IsNumbered (legs_of entries) (all_numbered migration [] entries book)

pub returns-clause-in_range : goal.returns-clause-in_range
returns-clause-in_range c = stay_in_range
