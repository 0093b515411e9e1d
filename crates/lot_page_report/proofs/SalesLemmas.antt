-- Sales that are listed one by one.
use Rattle.std.specs.Prelude.{true}
use Rattle.std.proofs.Common.{◌≡◌, List, [], ◌∷◌, ◌++◌, refl}
use Rattle.lot_page_report.specs.Sections.{is_some_sale}
use Rattle.lot_walk.specs.declared.gains.NumberedSale.{NumberedSale}

pub is_more : (sales : List NumberedSale) (sold : NumberedSale) → true ≡ is_some_sale (sales ++ sold ∷ [])
is_more [] sold = refl
is_more (first ∷ sales) sold = refl
