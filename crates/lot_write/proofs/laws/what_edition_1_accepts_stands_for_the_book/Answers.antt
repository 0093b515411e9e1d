-- By edition 1, which decides each tie by key.
use Rattle.std.proofs.Common.{refl}
use Rattle.lot_book.specs.Booking.{all_by_key}
use Rattle.lot_book.specs.Edition.{First}
use Rattle.lot_book.specs.Touched.{pairs_in}
use Rattle.lot_laws.proofs.StepAgree.{ties_themselves}
use Rattle.lot_write.proofs.LawLemmas.{stand_by_first}
use Rattle.lot_write.proofs.NamedLemmas.{IsAccepted}
use Rattle.lot_write.proofs.laws.what_edition_1_accepts_stands_for_the_book.Goals as goal

pub returns : goal.returns
returns c tables entries known key command change stand agrees comes listed sayable good =
    let is : IsAccepted entries known key command change = record {
      agrees = agrees;
      edition = First;
      ties = all_by_key;
      alike = ties_themselves all_by_key known (pairs_in command);
      comes = comes;
    } in
    stand_by_first tables entries known key command change stand is refl listed sayable good
