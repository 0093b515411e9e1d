-- What accounts get is what was written.
use Rattle.std.proofs.Common.{◌≡◌, ◌∙◌, ℕ, List, [], ◌∷◌, ◌++◌, length, take, Option, None, Some, ℤ, refl, ap}
use Rattle.std.specs.Prelude.{map}
use Rattle.std.specs.Option.{option_map}
use Rattle.lot_command.specs.declared.transaction.Amount.{Amount}
use Rattle.lot_command.specs.declared.transaction.Posting.{Posting}
use Rattle.lot_completion.specs.Completion.{gets}
use Rattle.lot_completion.specs.Rates.{Rates, RatesAll, RatesAmount, postings_of}
use Rattle.lot_completion.specs.declared.rates.RatedPosting.{RatedPosting}

abbrev moves : Option Amount → Option (ℤ × List ℕ)
moves amount = option_map (λ (a : Amount). (a.units, a.commodity)) amount

same_moves : (written amount : Option Amount) (left : Option (List ℕ × ℤ)) → RatesAmount written amount left → moves amount ≡ moves written
same_moves None amount left is = ap moves is.0
same_moves (Some written) amount left is = ap moves is.2

abbrev beside : List ℕ → Option (ℤ × List ℕ) → List ℕ × Option (ℤ × List ℕ)
beside account moved = (account, moved)

one_gets : (written : Posting) (rated : RatedPosting) → Rates written rated → gets rated.posting ≡ gets written
one_gets written rated is =
    ap (λ (account : List ℕ). beside account (moves rated.posting.amount)) is.account
    ∙ ap (beside written.account) (same_moves written.amount rated.posting.amount rated.left is.amount)

pub first_get : (written : List Posting) (rated : List RatedPosting) (more : List Posting) → RatesAll written rated
    → map gets (take (length written) (postings_of rated ++ more)) ≡ map gets written
first_get [] [] more rates = refl
first_get [] (r ∷ rs) more rates = absurd rates
first_get (p ∷ ps) [] more rates = absurd rates
first_get (p ∷ ps) (r ∷ rs) more rates =
    ap (λ g. g ∷ map gets (take (length ps) (postings_of rs ++ more))) (one_gets p r rates.0)
    ∙ ap (λ gs. gets p ∷ gs) (first_get ps rs more rates.1)
