-- What a completion is made of is determined, so where a part is missing there is none.
use Rattle.std.proofs.Common.{◌≡◌, ℕ, suc, length, List, [], ◌∷◌, ℤ, Option, refl, ap, subst, sym, ◌∙◌}
use Rattle.std.specs.List.{AllByRecursion, AllZip}
use Rattle.lot_num.specs.Amount.{IsUnits}
use Rattle.lot_booking.proofs.ListLemmas.{all_filtered}
use Rattle.lot_command.specs.declared.transaction.Posting.{Posting}
use Rattle.lot_command.specs.declared.transaction.Transaction.{Transaction as TransactionOf}
use Rattle.lot_book.specs.declared.leg.Leg.{Leg}
use Rattle.lot_book.specs.declared.refusal.Refusal.{Refusal}
use Rattle.lot_book.specs.Balance.{AreWithin, residuals, weights_in}
use Rattle.lot_book.specs.Booking.{All, Booked, BooksAllUnder, Stopped, TieRule, legs_in}
use Rattle.lot_book.specs.Facts.{Facts}
use Rattle.lot_laws.proofs.StepLemmas.{books_one}
use Rattle.lot_completion.specs.Completion.{IsCompletion, IsCrumbOf, fill_decimals, has_products_in, of_products, product_residuals}
use Rattle.lot_completion.specs.Crumbs.{whole_of}
use Rattle.lot_completion.specs.Rates.{Rates, RatesAll, left_of, postings_of}
use Rattle.lot_completion.specs.declared.rates.RatedPosting.{RatedPosting}
use Rattle.lot_completion.proofs.OneLemmas.{all_one, rates_one}

module _ (ties : TieRule) (facts : Facts) (account : List ℕ) (decimals : ℕ) (t : TransactionOf) (rated : List RatedPosting)
    (rates : RatesAll t.postings rated) (crumbs : List (List ℕ × ℤ)) (completed : TransactionOf)
    (is : IsCompletion ties facts account decimals t crumbs completed) where
  same_rated : is.rated ≡ rated
  same_rated = all_one Rates rates_one t.postings is.rated rated is.rates rates

  books : BooksAllUnder ties facts t.day [] 1 (postings_of rated) (All is.booked)
  books = subst (λ (r : List RatedPosting). BooksAllUnder ties facts t.day [] 1 (postings_of r) (All is.booked)) same_rated is.books

  -- a posting with its rate isn't booked
  pub none_stopped : (refusal : Refusal) → BooksAllUnder ties facts t.day [] 1 (postings_of rated) (Stopped refusal) → ⊥
  none_stopped refusal stopped =
      let both : All is.booked ≡ Stopped refusal =
      books_one ties facts t.day [] 1 (postings_of rated) (All is.booked) (Stopped refusal) books stopped in
      absurd cc

  -- a crumb is out of range
  pub none_crumbs : (booked : List Booked) → BooksAllUnder ties facts t.day [] 1 (postings_of rated) (All booked)
      → ((cs : List (List ℕ × ℤ)) → AllZip (IsCrumbOf (fill_decimals decimals t.postings) (left_of rated)) (product_residuals (postings_of rated) booked) cs → ⊥)
      → ⊥
  none_crumbs booked all none =
      let both : All is.booked ≡ All booked =
      books_one ties facts t.day [] 1 (postings_of rated) (All is.booked) (All booked) books all in
      let same : is.booked ≡ booked = cc in
      none crumbs
      (subst (λ (r : List RatedPosting). AllZip (IsCrumbOf (fill_decimals decimals t.postings) (left_of r)) (product_residuals (postings_of r) booked) crumbs) same_rated
      (subst (λ (bs : List Booked). AllZip (IsCrumbOf (fill_decimals decimals t.postings) (left_of is.rated)) (product_residuals (postings_of is.rated) bs) crumbs) same is.are))

-- those in which a product weighs are within what all are
pub products_within : (count : ℕ) (postings : List Posting) (legs : List Leg) (rs : List (List ℕ × ℤ)) → AreWithin count rs
    → AreWithin count (of_products postings legs rs)
products_within count postings legs rs within =
    all_filtered _ (λ (r : List ℕ × ℤ). has_products_in postings legs r.0) rs within

-- each crumb is in range
pub crumbs_in_range : (fill : Option ℕ) (left residuals crumbs : List (List ℕ × ℤ)) → AllZip (IsCrumbOf fill left) residuals crumbs
    → AllByRecursion (λ (c : List ℕ × ℤ). IsUnits (whole_of c.1)) crumbs
crumbs_in_range fill left [] [] are = tt
crumbs_in_range fill left [] (c ∷ cs) are = absurd are
crumbs_in_range fill left (r ∷ rs) [] are = absurd are
crumbs_in_range fill left (r ∷ rs) (c ∷ cs) are = (are.0.in_range, crumbs_in_range fill left rs cs are.1)

-- postings with rates are as many as were written
pub rated_length : (written : List Posting) (rated : List RatedPosting) → RatesAll written rated
    → length (postings_of rated) ≡ length written
rated_length [] [] rates = refl
rated_length [] (r ∷ rs) rates = absurd rates
rated_length (p ∷ ps) [] rates = absurd rates
rated_length (p ∷ ps) (r ∷ rs) rates = ap suc (rated_length ps rs rates.1)

-- crumbs are those of the same residuals
pub same_crumbs : (f g : Option ℕ) (l m rs ss cs : List (List ℕ × ℤ)) → f ≡ g → l ≡ m → rs ≡ ss → AllZip (IsCrumbOf g m) ss cs
    → AllZip (IsCrumbOf f l) rs cs
same_crumbs f g l m rs ss cs fills lefts residuals are =
    subst (λ (xs : List (List ℕ × ℤ)). AllZip (IsCrumbOf f l) xs cs) (sym residuals)
    (subst (λ (x : List (List ℕ × ℤ)). AllZip (IsCrumbOf f x) ss cs) (sym lefts)
    (subst (λ (x : Option ℕ). AllZip (IsCrumbOf x m) ss cs) (sym fills) are))

-- and those in which a product weighs
pub same_products : (ps qs : List Posting) (legs : List Leg) (rs : List (List ℕ × ℤ)) (booked : List Booked)
    → ps ≡ qs → legs ≡ legs_in booked → rs ≡ residuals (weights_in booked) → of_products ps legs rs ≡ product_residuals qs booked
same_products ps qs legs rs booked postings same sums =
    ap (λ (x : List Posting). of_products x legs rs) postings ∙ ap (λ (x : List Leg). of_products qs x rs) same
    ∙ ap (λ (x : List (List ℕ × ℤ)). of_products qs (legs_in booked) x) sums
