-- What fields of the column `symbol` mean.
use Rattle.std.specs.Prelude.{ℕ, List, if◌then◌else◌, Ok, Err}
use Rattle.toml.specs.Data.{Data, string}
use Rattle.lot_base.specs.Name.{is_commodity}
use Rattle.lot_profile.specs.declared.profile.Symbol.{Symbol}
use Rattle.lot_profile_text.specs.declared.entry.Form.TheVariants as form
use Rattle.lot_profile_text.specs.declared.fault.ProfileFault.TheVariants.{Wrong}
use Rattle.lot_profile_text.specs.Reading.{Read, ◌>>=◌, below}

-- a commodity
abbrev pub commodity_of : List ℕ → Data → Read (List ℕ)
commodity_of place (string text) = if is_commodity text then Ok text else Err (Wrong place form.Commodity)
commodity_of place value = Err (Wrong place form.Commodity)

-- the field that a key is, and the commodity that it means
abbrev pub symbol_of : List ℕ → List ℕ → Data → Read Symbol
symbol_of place key value =
    commodity_of (below place key) value >>= λ commodity. Ok (record { field = key; commodity = commodity })
