-- The currencies of an opening.
use Rattle.std.specs.Prelude.{ℕ, ◌==◌, Bool, ◌||◌, List, length}
use Rattle.std.specs.List.{list_any}
use Rattle.lot_base.specs.Text.{same_text}

-- an opening has at most so many currencies
abbrev pub most_currencies : ℕ
most_currencies = 64

-- whether a commodity is allowed: there are no currencies, or it is one of them
abbrev pub allows : List (List ℕ) → List ℕ → Bool
allows currencies commodity = (length currencies == 0) || list_any (λ currency. same_text currency commodity) currencies
