-- Which lots a cost specification fits.
use Rattle.std.specs.Prelude.{◌==◌, Bool, true, ◌&&◌, ◌||◌, Option, None, Some, is_none}
use Rattle.std.specs.Option.{option_eq}
use Rattle.std.specs.Ordering.{int_eq}
use Rattle.lot_base.specs.Text.{same_text}
use Rattle.lot_cost.specs.declared.cost_spec.CostSpec.{CostSpec}
use Rattle.lot_cost.specs.declared.lot_key.LotKey.{LotKey}

-- whether a part is the one that is given, where one is given
abbrev pub agrees : {X : Type 0} → (X → X → Bool) → Option X → X → Bool
agrees same None part = true
agrees same (Some given) part = same given part

-- whether a specification fits a lot key: each part that it gives equals the key's part
abbrev pub fits : CostSpec → LotKey → Bool
fits spec key =
    agrees ◌==◌ spec.number key.number && agrees same_text spec.currency key.currency && agrees int_eq spec.day key.day
    && (is_none spec.label || option_eq same_text spec.label key.label)
