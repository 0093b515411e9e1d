-- By edition 2.
use Rattle.std.proofs.Common.{refl}
use Rattle.lot_book.specs.Edition.{Second}
use Rattle.lot_book.specs.Openings.{ties_on}
use Rattle.lot_book.specs.Touched.{pairs_in}
use Rattle.lot_laws.proofs.StepOpenings.{agreed_ties}
use Rattle.lot_write.proofs.LawLemmas.{stand_by_second}
use Rattle.lot_write.proofs.NamedLemmas.{IsAccepted}
use Rattle.lot_write.proofs.laws.what_is_written_stands_for_the_book.Goals as goal

pub returns : goal.returns
returns c tables entries known key command change book stand agrees fresh comes listed sayable good =
    let is : IsAccepted entries known.facts key command change = record {
      agrees = agrees.facts;
      edition = Second;
      ties = ties_on known;
      alike = agreed_ties Second known entries key (pairs_in command) agrees.facts.held agrees.opening;
      comes = comes;
    } in
    stand_by_second tables entries known.facts key command change stand is listed sayable good refl
