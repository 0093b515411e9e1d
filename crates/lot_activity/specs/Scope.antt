-- Which legs a report is over: those of some accounts, on the days of a range (docs/FORMATS.md,
-- Activity).
use denote.Ref.{Bor}
use Rattle.std.specs.Prelude.{ℕ, ℤ, ◌==◌, ◌&&◌, Bool, true, if◌then◌else◌, List, Option, None, Some, codes, option_map}
use Rattle.std.specs.List.{ends_with, starts_with}
use Rattle.lot_base.specs.Text.{same_text}
use Rattle.lot_walk.specs.Gains.{Range, is_within}
use Rattle.lot_legs.specs.declared.leg.DatedLeg.{DatedLeg}
use Rattle.lot_activity.specs.declared.scope.Scope.{Scope}

-- a text names an account; with a colon at its end it names all whose names begin with it
abbrev pub is_of : List ℕ → List ℕ → Bool
is_of asked account = if ends_with ◌==◌ asked (codes ":") then starts_with ◌==◌ account asked else same_text account asked

-- where none is named, all are asked for
abbrev pub is_asked : Option (List ℕ) → List ℕ → Bool
is_asked None account = true
is_asked (Some asked) account = is_of asked account

-- what is asked for: the account that is named, if one is, and the days
pub record Asked : Type 0 where
  pub account : Option (List ℕ)
  pub days : Range

abbrev pub asked_in : Scope → Asked
asked_in scope = record { account = option_map (λ (text : Bor (List ℕ)). text.now) scope.account; days = (scope.first, scope.last) }

-- whether a leg is asked for
abbrev pub has : Asked → DatedLeg → Bool
has asked leg = is_within asked.days leg.day && is_asked asked.account leg.account

-- ---- laws

-- all accounts, up to a day
abbrev pub all_up_to : ℤ → Asked
all_up_to last = record { account = None; days = (None, Some last) }
