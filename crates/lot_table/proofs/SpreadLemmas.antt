-- A row of so many columns is its columns.
use Rattle.std.proofs.Common.{◌≡◌, ℕ, zero, suc, [], ◌∷◌, length, refl, ap, ◌∙◌, sym}
use Rattle.sqlite.specs.Order.{Row}
use Rattle.sqlite.specs.declared.types.Value.{Value}
use Rattle.sqlite_value.specs.Order.{column}

abbrev pub columns_from : ℕ → ℕ → Row → Row
columns_from zero at row = []
columns_from (suc n) at row = column row at ∷ columns_from n (suc at) row

shifted : (n at : ℕ) (v : Value) (row : Row) → columns_from n (suc at) (v ∷ row) ≡ columns_from n at row
shifted zero at v row = refl
shifted (suc n) at v row = ap (λ l. column row at ∷ l) (shifted n (suc at) v row)

pub spread : (n : ℕ) (row : Row) → length row ≡ n → row ≡ columns_from n 0 row
spread zero [] h = refl
spread zero (v ∷ row) h = absurd cc
spread (suc n) [] h = absurd cc
spread (suc n) (v ∷ row) h =
    let less : length row ≡ n = cc in
    ap (λ l. v ∷ l) (spread n row less ∙ sym (shifted n 0 v row))
