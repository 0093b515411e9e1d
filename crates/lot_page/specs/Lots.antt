-- The texts from which a page of lots begins.
use Rattle.std.specs.Prelude.{◌≡◌, [], ◌∷◌, ◌++◌}
use Rattle.lot_page.specs.declared.lot.Texts.{Texts}
use Rattle.lot_rows.specs.declared.lot.LotRow.{LotRow}

-- each is the text of the lot with a NUL, so that no other is between them
pub record AreBehind (texts : Texts) (row : LotRow) : Type 0 where
  pub account : texts.account.items ≡ row.account ++ 0 ∷ []
  pub commodity : texts.commodity.items ≡ row.commodity ++ 0 ∷ []
  pub currency : texts.currency.items ≡ row.lot.currency ++ 0 ∷ []
