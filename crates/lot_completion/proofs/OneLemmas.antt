-- At most one transaction completes another.
use Rattle.std.proofs.Common.{◌≡◌, ℕ, List, [], ◌∷◌, ◌++◌, ℤ, pos, ◌-ℤ◌, ◌*ℤ◌, Option, None, Some, refl, ap, ◌∙◌, sym, subst}
use Rattle.std.specs.Prelude.{flat_map}
use Rattle.std.specs.List.{AllZip}
use Rattle.lot_num.specs.Amount.{per_unit}
use Rattle.lot_cost.specs.declared.cost.Cost.{Cost}
use Rattle.lot_cost.specs.declared.cost.Cost.TheVariants.{Each, Whole}
use Rattle.lot_cost.specs.declared.cost_spec.CostSpec.{CostSpec}
use Rattle.lot_command.specs.declared.transaction.Amount.{Amount}
use Rattle.lot_command.specs.declared.transaction.Posting.{Posting}
use Rattle.lot_command.specs.declared.transaction.Transaction.{Transaction as TransactionOf}
use Rattle.lot_book.specs.Balance.{with_sign}
use Rattle.lot_book.specs.Booking.{All, Booked, BooksAllUnder, TieRule}
use Rattle.lot_book.specs.Facts.{Facts}
use Rattle.lot_laws.proofs.StepLemmas.{books_one}
use Rattle.lot_completion.specs.Completion.{IsCompletion, IsCrumbOf, fill_decimals, product_residuals, stated}
use Rattle.lot_completion.specs.Crumbs.{IsCrumb, crumb_postings}
use Rattle.lot_completion.specs.Rates.{Rates, RatesAmount, RatesCost, RatesTotal, RoundsTotal, Stays, left_of, postings_of}
use Rattle.lot_completion.specs.declared.rates.RatedCost.{RatedCost}
use Rattle.lot_completion.specs.declared.rates.RatedPosting.{RatedPosting}
use Rattle.lot_rounding.proofs.NearestLemmas.{one_rate, one_rounded}

-- ---- rates

abbrev cost_with : Option Cost → Option (List ℕ × ℤ) → RatedCost
cost_with cost left = record { cost = cost; left = left }

same_cost : (a b : RatedCost) → a.cost ≡ b.cost → a.left ≡ b.left → a ≡ b
same_cost a b costs lefts =
    ap (λ (c : Option Cost). cost_with c a.left) costs ∙ ap (λ (l : Option (List ℕ × ℤ)). cost_with b.cost l) lefts

stays_one : (written : Option Cost) (a b : RatedCost) → Stays written a → Stays written b → a ≡ b
stays_one written a b first second = same_cost a b (first.0 ∙ sym second.0) (first.1 ∙ sym second.1)

rounds_one : (units total : ℤ) (spec : CostSpec) (a b : RatedCost) → RoundsTotal units total spec a → RoundsTotal units total spec b → a ≡ b
rounds_one units total spec a b first second =
    let rate : first.rate ≡ second.rate = one_rate units total first.rate second.rate first.nearest second.nearest in
    let given : Some first.currency ≡ Some second.currency = sym first.given ∙ second.given in
    let currency : first.currency ≡ second.currency = cc in
    same_cost a b
    (first.cost ∙ ap (λ r. Some (Each (record spec { number = Some r }))) rate ∙ sym second.cost)
    (first.left ∙ ap (λ r. Some (first.currency, with_sign units total -ℤ units *ℤ pos r)) rate
    ∙ ap (λ c. Some (c, with_sign units total -ℤ units *ℤ pos second.rate)) currency ∙ sym second.left)

total_one : (units : ℤ) (whole : ℤ × CostSpec) (found : Option ℕ) (a b : RatedCost) → RatesTotal units whole found a → RatesTotal units whole found b → a ≡ b
total_one units whole None a b first second = rounds_one units whole.0 whole.1 a b first second
total_one units whole (Some rate) a b first second = stays_one (Some (Whole whole)) a b first second

cost_one : (units : ℤ) (written : Option Cost) (a b : RatedCost) → RatesCost units written a → RatesCost units written b → a ≡ b
cost_one units None a b first second = stays_one None a b first second
cost_one units (Some (Each spec)) a b first second = stays_one (Some (Each spec)) a b first second
cost_one units (Some (Whole whole)) a b first second = total_one units whole (per_unit units whole.0) a b first second

amount_one : (written a b : Option Amount) (left other : Option (List ℕ × ℤ)) → RatesAmount written a left → RatesAmount written b other → (a ≡ b) × (left ≡ other)
amount_one None a b left other first second = (first.0 ∙ sym second.0, first.1 ∙ sym second.1)
amount_one (Some written) a b left other first second =
    let rated = cost_one written.units written.cost first.0 second.0 first.1 second.1 in (
      first.2 ∙ ap (λ (r : RatedCost). Some (record written { cost = r.cost })) rated ∙ sym second.2,
      first.3 ∙ ap (λ (r : RatedCost). r.left) rated ∙ sym second.3,
    )

abbrev line_with : List ℕ → Option Amount → Option (List ℕ × ℤ) → RatedPosting
line_with account amount left = record { posting = record { account = account; amount = amount }; left = left }

pub rates_one : (written : Posting) (a b : RatedPosting) → Rates written a → Rates written b → a ≡ b
rates_one written a b first second =
    let account : a.posting.account ≡ b.posting.account = first.account ∙ sym second.account in
    let both = amount_one written.amount a.posting.amount b.posting.amount a.left b.left first.amount second.amount in
    let amount : a.posting.amount ≡ b.posting.amount = both.0 in
    let left : a.left ≡ b.left = both.1 in
    let posting = ap (λ (x : List ℕ). line_with x a.posting.amount a.left) account in
    posting ∙ ap (λ (x : Option Amount). line_with b.posting.account x a.left) amount
    ∙ ap (λ (x : Option (List ℕ × ℤ)). line_with b.posting.account b.posting.amount x) left

-- ---- lists

pub all_one : {A B : Type 0} (R : A → B → Type 0) → ((x : A) (y z : B) → R x y → R x z → y ≡ z)
    → (xs : List A) (ys zs : List B) → AllZip R xs ys → AllZip R xs zs → ys ≡ zs
all_one R one [] [] [] first second = refl
all_one R one [] [] (z ∷ zs) first second = absurd second
all_one R one [] (y ∷ ys) zs first second = absurd first
all_one R one (x ∷ xs) [] zs first second = absurd first
all_one R one (x ∷ xs) (y ∷ ys) [] first second = absurd second
all_one R one (x ∷ xs) (y ∷ ys) (z ∷ zs) first second =
    ap (λ head. head ∷ ys) (one x y z first.0 second.0) ∙ ap (λ tail. z ∷ tail) (all_one R one xs ys zs first.1 second.1)

-- ---- crumbs

pub crumb_one : (fill : Option ℕ) (stated residual a b : ℤ) → IsCrumb fill stated residual a → IsCrumb fill stated residual b → a ≡ b
crumb_one None stated residual a b first second = first ∙ sym second
crumb_one (Some decimals) stated residual a b first second =
    first.2 ∙ ap (λ r. r -ℤ residual) (one_rounded decimals stated first.0 second.0 first.1 second.1) ∙ sym second.2

abbrev pair : List ℕ → ℤ → List ℕ × ℤ
pair currency amount = (currency, amount)

crumb_of_one : (fill : Option ℕ) (left : List (List ℕ × ℤ)) (residual a b : List ℕ × ℤ)
    → IsCrumbOf fill left residual a → IsCrumbOf fill left residual b → a ≡ b
crumb_of_one fill left residual a b first second =
    let currency : a.0 ≡ b.0 = first.currency ∙ sym second.currency in
    let amount : a.1 ≡ b.1 = crumb_one fill (stated left residual) residual.1 a.1 b.1 first.amount second.amount in
    ap (λ c. pair c a.1) currency ∙ ap (λ x. pair b.0 x) amount

-- ---- completions

abbrev completed_by : List ℕ → TransactionOf → List RatedPosting → List (List ℕ × ℤ) → TransactionOf
completed_by account t rated crumbs = record t { postings = postings_of rated ++ flat_map (crumb_postings account) crumbs }

pub completion_one : (ties : TieRule) (facts : Facts) (account : List ℕ) (decimals : ℕ) (t : TransactionOf)
    (cs ds : List (List ℕ × ℤ)) (a b : TransactionOf)
    → IsCompletion ties facts account decimals t cs a → IsCompletion ties facts account decimals t ds b → (cs ≡ ds) × (a ≡ b)
completion_one ties facts account decimals t cs ds a b first second =
    let rated : first.rated ≡ second.rated = all_one Rates rates_one t.postings first.rated second.rated first.rates second.rates in
    let books = subst (λ (r : List RatedPosting). BooksAllUnder ties facts t.day [] 1 (postings_of r) (All first.booked)) rated first.books in
    let bookings : All first.booked ≡ All second.booked =
    books_one ties facts t.day [] 1 (postings_of second.rated) (All first.booked) (All second.booked) books second.books in
    let booked : first.booked ≡ second.booked = cc in
    let fill = fill_decimals decimals t.postings in
    let of_rated = subst (λ (r : List RatedPosting). AllZip (IsCrumbOf fill (left_of r)) (product_residuals (postings_of r) first.booked) cs) rated first.are in
    let are = subst (λ (bs : List Booked). AllZip (IsCrumbOf fill (left_of second.rated)) (product_residuals (postings_of second.rated) bs) cs) booked of_rated in
    let crumbs : cs ≡ ds =
    all_one (IsCrumbOf fill (left_of second.rated)) (crumb_of_one fill (left_of second.rated)) (product_residuals (postings_of second.rated) second.booked) cs ds are second.are in (
      crumbs,
      first.is ∙ ap (λ (r : List RatedPosting). completed_by account t r cs) rated
          ∙ ap (λ (xs : List (List ℕ × ℤ)). completed_by account t second.rated xs) crumbs ∙ sym second.is,
    )
