-- What an input gives is run on the book, or nothing is asked of it.
use Rattle.std.proofs.Common.{◌≡◌, inr, ℕ, List, [], ◌∷◌, None, Option, Some, refl, subst}
use Rattle.sqlite.specs.State.{State}
use Rattle.lot_args.specs.declared.action.Keeping.{Keeping}
use Rattle.lot_args.specs.declared.action.Keeping.TheVariants.{Each}
use Rattle.lot_rounding.specs.declared.asked.Asked.{Asked}
use Rattle.lot_rounding.specs.declared.rounding.Rounding.{Rounding}
use Rattle.lot_command.specs.declared.key.Key.{Key}
use Rattle.lot_io.specs.Writes.{WritesMade}
use Rattle.lot_input.specs.Input.{Gives, Reading}
use Rattle.lot_input.specs.Text.{IsFaultyText, RowMeans}
use Rattle.lot_input.specs.declared.fault.InputFault.{InputFault}
use Rattle.lot_cli.specs.Runs.{IsUntouched, RowAlone, RunsInput, RunsOn}
use Rattle.lot_cli.specs.Says.{Told}
use Rattle.lot_rows.proofs.StateLemmas.{survives_same}

pub untouched : (s : State) → IsUntouched s s
untouched s = record { now = refl; committed = refl; is_open = refl; crash = survives_same s (λ _. ⊥) }

-- the commands that an input gives are run
pub runs_given : (Means : ℕ → List ℕ → List ℕ × List (Key × Asked) → Type 0) (IsFaulty : List ℕ → InputFault → Type 0) (rounding : Option Rounding) (keeping : Keeping) (from first : ℕ) (reading : Reading)
    (old new : State) (before written : Option (List ℕ)) (calls : WritesMade) (told : Told) (given : List ℕ × List (Key × Asked)) (numbers : List ℕ) (commands : List (Key × Asked))
    → first ≡ from → numbers ≡ given.0 → commands ≡ given.1 → Gives (Means first) reading given
    → RunsOn rounding keeping numbers commands old new before written calls told → RunsInput (Means from) IsFaulty rounding keeping reading old new before written calls told
runs_given Means IsFaulty rounding keeping from first reading old new before written calls told given numbers commands at same is gives ran =
    subst (λ n. RunsInput (Means n) IsFaulty rounding keeping reading old new before written calls told) at
    (inr (
      given,
      gives,
      subst (λ (ns : List ℕ). RunsOn rounding keeping ns given.1 old new before written calls told) same
          (subst (λ (ks : List (Key × Asked)). RunsOn rounding keeping numbers ks old new before written calls told) is ran),
    ))

-- the one command of a text is run in place of a row
pub row_given : (batch reference : List ℕ) (rounding : Option Rounding) (reading : Reading) (old new : State) (before written : Option (List ℕ)) (calls : WritesMade) (told : Told)
    (given : Option (Key × Asked)) (one : Key × Asked) → given ≡ Some one → Gives (RowMeans batch reference) reading given
    → RunsOn rounding Each (1 ∷ []) (one ∷ []) old new before written calls told
    → RunsInput (RowAlone batch reference) IsFaultyText rounding Each reading old new before written calls told
row_given batch reference rounding reading old new before written calls told given one is (input, all, means) ran =
    inr ((1 ∷ [], one ∷ []), (input, all, (one, subst (RowMeans batch reference input) is means, refl)), ran)

-- an input that gives nothing
pub gives_nothing : (Means : List ℕ → Option (Key × Asked) → Type 0) (reading : Reading) (given : Option (Key × Asked)) → given ≡ None
    → Gives Means reading given → Gives Means reading None
gives_nothing Means reading given is gives = subst (Gives Means reading) is gives
