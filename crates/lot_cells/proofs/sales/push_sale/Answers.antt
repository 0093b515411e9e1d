use Rattle.std.proofs.Common.{[], ◌∷◌, ◌++◌, ◌∙◌, ap, refl}
use Rattle.std.specs.Prelude.{List, codes, flat_map, ℕ}
use Rattle.std.specs.String.{string_bytes}
use Rattle.lot_csv.specs.Shares.{SoldLot, gain_in, lots_of}
use Rattle.lot_cells.specs.Sales.{lot_html}
use Rattle.lot_cells.proofs.SaleLemmas.{rows_are}
use Rattle.lot_cells.proofs.AppendLemmas.{appended, pushed}
use Rattle.lot_cells.proofs.sales.push_sale.Goals as goal

pub returns : goal.returns
returns c =
    appended c.push_str-2.result (string_bytes c.args.text.now)
    (codes "<tbody>\n" ∷ flat_map (λ (lot : SoldLot). lot_html c.args.target.now c.args.sale.now (lot.0, gain_in c.args.sale.now.units lot)) (lots_of c.args.sale.now) ∷ [])
    (codes "</tbody>\n") (string_bytes c.push_lots.new.text) (string_bytes c.push_str-2.new.self) (
      _,
      c.in_ok-push_str.ensures.bytes,
      (
        _,
        c.in_ok-push_lots.ensures
            ∙ ap (λ (t : List ℕ). string_bytes c.push_str.new.self ++ t)
            (rows_are (lot_html c.args.target.now c.args.sale.now) c.args.sale.now c.legs-legs.ensures.of_units c.legs-legs.result.now c.deref.result.now
            c.legs-legs.ensures.value (c.deref.ensures.value ∙ c.in_ok-gains.ensures)),
        refl,
      ),
    )
    (pushed c.push_str-2.result (string_bytes c.push_lots.new.text) (codes "</tbody>\n") (string_bytes c.push_str-2.new.self) c.push_str-2.ensures.bytes)
