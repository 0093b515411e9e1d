-- A completion has none of its own: its rates stay, and what is left in a currency with a crumb is taken up.
use Rattle.std.proofs.Common.{◌≡◌, ◌≢◌, ◌≤◌, ◌∙◌, inl, inr, ℕ, Bool, true, false, cond, List, [], ◌∷◌, ◌++◌, append_assoc, length, Option, None, Some, ℤ, pos, ◌+ℤ◌, ◌-ℤ◌, ◌*ℤ◌, refl, sym, ap, subst, arith}
use Rattle.std.specs.Prelude.{filter, flat_map, is_none, map, nat_eq, unsigned_abs, ◌||◌}
use Rattle.std.specs.List.{AllByRecursion, AllZip, list_any}
use Rattle.std.specs.Ordering.{int_eq}
use Rattle.std.proofs.lemmas.Grind.{flat_map-append}
use Rattle.std.proofs.lemmas.Int.{ints}
use Rattle.std.proofs.lemmas.List.{append-nil, map-append}
use Rattle.std.proofs.lemmas.List.Elements.{filter_passes, recursion_from_All}
use Rattle.std.proofs.lemmas.List.Folds.{list_any-append}
use Rattle.lot_num.specs.Amount.{per_unit}
use Rattle.lot_base.specs.Text.{same_text}
use Rattle.lot_base.proofs.TextLemmas.{one_text, same_text-itself}
use Rattle.lot_cost.specs.declared.cost.Cost.{Cost}
use Rattle.lot_cost.specs.declared.cost.Cost.TheVariants.{Each, Whole}
use Rattle.lot_command.specs.declared.command.Command.{Command}
use Rattle.lot_command.specs.declared.command.Command.TheVariants.{Transaction}
use Rattle.lot_command.specs.declared.transaction.Amount.{Amount}
use Rattle.lot_command.specs.declared.transaction.Posting.{Posting}
use Rattle.lot_command.specs.declared.transaction.Transaction.{Transaction as TransactionOf}
use Rattle.lot_booking.proofs.ListLemmas.{all_filtered, all_mapped, map-filter}
use Rattle.lot_book.specs.declared.leg.Leg.{Leg}
use Rattle.lot_book.specs.Balance.{currencies, weights_in, weights_of}
use Rattle.lot_book.specs.Booking.{All, Booked, BooksAllUnder, HasLegs, TieRule, legs_in, line_under, plain_leg}
use Rattle.lot_book.specs.Currencies.{first_appearances, sum_in}
use Rattle.lot_book.specs.Facts.{Facts}
use Rattle.lot_book.specs.Refusals.{most_postings}
use Rattle.lot_book.proofs.CaseLemmas.{by_bool}
use Rattle.lot_book.proofs.CurrencyLemmas.{beside}
use Rattle.lot_laws.proofs.LawBooks.{over_booked}
use Rattle.lot_laws.proofs.StepLemmas.{books_one}
use Rattle.lot_completion.specs.Completion.{IsCompletion, IsCrumbOf, fill_decimals, has_products_in, is_cost_in, product_residuals, stated, weighs_at_price, zeros_of}
use Rattle.lot_completion.specs.Crumbs.{IsCrumb, crumb_postings, part_posting, posting_in, price_in, rest_of, speck_of, weight_at, weights_at, whole_of}
use Rattle.lot_completion.specs.Rates.{Rates, RatesAll, RatesAmount, RatesCost, RatesTotal, left_of, postings_of}
use Rattle.lot_completion.specs.Turn.{IsTurnWith, Proposes, ProposesFor, TriesBy}
use Rattle.lot_completion.specs.declared.rates.RatedCost.{RatedCost}
use Rattle.lot_completion.specs.declared.rates.RatedPosting.{RatedPosting}
use Rattle.lot_completion.proofs.BalanceLemmas.{IsPlain, Splits, adds_crumbs, crumbs_plain, plain_weights, split_books}
use Rattle.lot_completion.proofs.CompletionLemmas.{same_crumbs}
use Rattle.lot_completion.proofs.CrumbLemmas.{made_up}
use Rattle.lot_completion.proofs.OneLemmas.{all_one, completion_one, rates_one}
use Rattle.lot_completion.proofs.RateLemmas.{stays}
use Rattle.lot_completion.proofs.ReadLemmas.{first_more}
use Rattle.lot_completion.proofs.TakenUpLemmas.{apart_crumbs, apart_residuals, own_sums}
use Rattle.lot_rounding.proofs.NearestLemmas.{step_positive}
use Rattle.lot_rounding.specs.Nearest.{IsRounded, step}
use Rattle.lot_rounding.specs.declared.asked.Asked.{Asked}
use Rattle.lot_rounding.specs.declared.ratio.Change.{Change}
use Rattle.lot_rounding.specs.declared.rounding.Rounding.{Rounding}

-- ---- rates stay

abbrev kept : Option Cost → RatedCost
kept cost = record { cost = cost; left = None }

abbrev kept_posting : Posting → RatedPosting
kept_posting posting = record { posting = posting; left = None }

-- a cost that is a rate, or a total that a rate comes to, stays
again_cost : (units : ℤ) (written : Option Cost) (rated : RatedCost) → RatesCost units written rated → RatesCost units rated.cost (kept rated.cost)
again_cost units None rated is = subst (λ (c : Option Cost). RatesCost units c (kept c)) (sym is.0) (refl, refl)
again_cost units (Some (Each spec)) rated is = subst (λ (c : Option Cost). RatesCost units c (kept c)) (sym is.0) (refl, refl)
again_cost units (Some (Whole whole)) rated is = by (per_unit units whole.0) refl is
  where
    by : (found : Option ℕ) → per_unit units whole.0 ≡ found → RatesTotal units whole found rated → RatesCost units rated.cost (kept rated.cost)
    by None found is = subst (λ (c : Option Cost). RatesCost units c (kept c)) (sym is.cost) (refl, refl)
    by (Some rate) found is =
        let some : per_unit units whole.0 ≢ None = λ none. let both : Some rate ≡ None = sym found ∙ none in cc in
        subst (λ (c : Option Cost). RatesCost units c (kept c)) (sym is.0) (stays units whole (kept (Some (Whole whole))) some (refl, refl))

again_amount : (written amount : Option Amount) (left : Option (List ℕ × ℤ)) → RatesAmount written amount left → RatesAmount amount amount None
again_amount None amount left is = subst (λ (a : Option Amount). RatesAmount a a None) (sym is.0) (refl, refl)
again_amount (Some written) amount left is =
    subst (λ (a : Option Amount). RatesAmount a a None) (sym is.2) (kept is.0.cost, again_cost written.units written.cost is.0 is.1, refl, refl)

abbrev Stays : Posting → Type 0
Stays posting = Rates posting (kept_posting posting)

again_all : (written : List Posting) (rated : List RatedPosting) → RatesAll written rated → AllByRecursion Stays (postings_of rated)
again_all [] [] rates = tt
again_all [] (r ∷ rs) rates = absurd rates
again_all (p ∷ ps) [] rates = absurd rates
again_all (p ∷ ps) (r ∷ rs) rates =
    (record { account = refl; amount = again_amount p.amount r.posting.amount r.left rates.0.amount }, again_all ps rs rates.1)

-- so does a posting without braces
plain_stays : (posting : Posting) → IsPlain posting → Stays posting
plain_stays posting (amount, is, plain) =
    let cost : RatesCost amount.units amount.cost (kept amount.cost) = subst (λ (c : Option Cost). RatesCost amount.units c (kept c)) (sym plain) (refl, refl) in
    record { account = refl; amount = subst (λ (a : Option Amount). RatesAmount a a None) (sym is) (kept amount.cost, cost, refl, refl) }

each : {X : Type 0} (P Q : X → Type 0) → ((x : X) → P x → Q x) → (xs : List X) → AllByRecursion P xs → AllByRecursion Q xs
each P Q by [] all = tt
each P Q by (x ∷ xs) all = (by x all.0, each P Q by xs all.1)

all_append : {X : Type 0} (P : X → Type 0) (xs ys : List X) → AllByRecursion P xs → AllByRecursion P ys → AllByRecursion P (xs ++ ys)
all_append P [] ys first second = second
all_append P (x ∷ xs) ys first second = (first.0, all_append P xs ys first.1 second)

stay_all : (ps : List Posting) → AllByRecursion Stays ps → RatesAll ps (map kept_posting ps)
stay_all [] all = tt
stay_all (p ∷ ps) all = (all.0, stay_all ps all.1)

kept_postings : (ps : List Posting) → postings_of (map kept_posting ps) ≡ ps
kept_postings [] = refl
kept_postings (p ∷ ps) = ap (λ rest. p ∷ rest) (kept_postings ps)

kept_left : (ps : List Posting) → left_of (map kept_posting ps) ≡ []
kept_left [] = refl
kept_left (p ∷ ps) = kept_left ps

-- ---- no other posting is elided

abbrev is_elided : Posting → Bool
is_elided p = is_none p.amount

elided_amount : (written amount : Option Amount) (left : Option (List ℕ × ℤ)) → RatesAmount written amount left → is_none amount ≡ is_none written
elided_amount None amount left is = ap (λ (a : Option Amount). is_none a) is.0
elided_amount (Some written) amount left is = ap (λ (a : Option Amount). is_none a) is.2

elided_rated : (written : List Posting) (rated : List RatedPosting) → RatesAll written rated → list_any is_elided (postings_of rated) ≡ list_any is_elided written
elided_rated [] [] rates = refl
elided_rated [] (r ∷ rs) rates = absurd rates
elided_rated (p ∷ ps) [] rates = absurd rates
elided_rated (p ∷ ps) (r ∷ rs) rates =
    ap (λ b. b || list_any is_elided (postings_of rs)) (elided_amount p.amount r.posting.amount r.left rates.0.amount)
    ∙ ap (λ b. is_none p.amount || b) (elided_rated ps rs rates.1)

elided_plain : (ps : List Posting) → AllByRecursion IsPlain ps → list_any is_elided ps ≡ false
elided_plain [] all = refl
elided_plain (p ∷ ps) ((amount, is, plain), all) =
    ap (λ (a : Option Amount). is_none a || list_any is_elided ps) is ∙ elided_plain ps all

or_false : (b : Bool) → (b || false) ≡ b
or_false true = refl
or_false false = refl

same_fill : (decimals : ℕ) (written : List Posting) (rated : List RatedPosting) (more : List Posting) → RatesAll written rated → AllByRecursion IsPlain more
    → fill_decimals decimals (postings_of rated ++ more) ≡ fill_decimals decimals written
same_fill decimals written rated more rates plain =
    let some : list_any is_elided (postings_of rated ++ more) ≡ list_any is_elided written =
    list_any-append is_elided (postings_of rated) more ∙ ap (λ b. list_any is_elided (postings_of rated) || b) (elided_plain more plain)
    ∙ or_false (list_any is_elided (postings_of rated)) ∙ elided_rated written rated rates in
    ap (λ b. cond b (Some decimals) None) some

-- ---- no other currency appears

abbrev name_of : List ℕ × ℤ → List ℕ
name_of w = w.0

or_true : (b : Bool) → (b || true) ≡ true
or_true true = refl
or_true false = refl

same_currencies : (names more : List (List ℕ)) → AllByRecursion (λ (n : List ℕ). list_any (same_text n) (first_appearances names) ≡ true) more
    → first_appearances (names ++ more) ≡ first_appearances names
same_currencies names [] all = ap first_appearances (append-nil names)
same_currencies names (n ∷ more) all =
    let ks = first_appearances names in
    let one : first_appearances (names ++ n ∷ []) ≡ ks = first_more names n ∙ ap (λ b. cond b ks (ks ++ n ∷ [])) all.0 in
    ap first_appearances (sym (append_assoc names (n ∷ []) more))
    ∙ same_currencies (names ++ n ∷ []) more
    (subst (λ xs. AllByRecursion (λ (m : List ℕ). list_any (same_text m) xs ≡ true) more) (sym one) all.1)
    ∙ one

-- a crumb's postings weigh where it is
crumbs_named : (Q : List ℕ → Type 0) (account : List ℕ) (cs : List (List ℕ × ℤ)) → AllByRecursion (λ (c : List ℕ × ℤ). Q c.0) cs
    → AllByRecursion Q (map name_of (weights_at (flat_map (crumb_postings account) cs)))
crumbs_named Q account [] all = tt
crumbs_named Q account (c ∷ cs) all =
    let here = weights_at (crumb_postings account c) in
    let more = weights_at (flat_map (crumb_postings account) cs) in
    let split = flat_map-append (λ (p : Posting). weight_at p.amount) (crumb_postings account c) (flat_map (crumb_postings account) cs) in
    subst (λ ws. AllByRecursion Q (map name_of ws)) (sym split)
    (subst (AllByRecursion Q) (sym (map-append name_of here more))
    (all_append Q (map name_of here) (map name_of more)
    (all_mapped name_of Q here
    (each (λ (w : List ℕ × ℤ). w.0 ≡ c.0) (λ (w : List ℕ × ℤ). Q w.0) (λ w is. subst Q (sym is) all.0) here (made_up account c.0 c.1).currency))
    (crumbs_named Q account cs all.1)))

-- where a crumb is, its residual is
zip_named : (Q : List ℕ → Type 0) (fill : Option ℕ) (left rs cs : List (List ℕ × ℤ)) → AllZip (IsCrumbOf fill left) rs cs
    → AllByRecursion (λ (r : List ℕ × ℤ). Q r.0) rs → AllByRecursion (λ (c : List ℕ × ℤ). Q c.0) cs
zip_named Q fill left [] [] are all = tt
zip_named Q fill left [] (c ∷ cs) are all = absurd are
zip_named Q fill left (r ∷ rs) [] are all = absurd are
zip_named Q fill left (r ∷ rs) (c ∷ cs) are all = (subst Q (sym are.0.currency) all.0, zip_named Q fill left rs cs are.1 all.1)

among_all : (ks : List (List ℕ)) → AllByRecursion (λ (n : List ℕ). list_any (same_text n) ks ≡ true) ks
among_all [] = tt
among_all (k ∷ ks) = (
  ap (λ b. b || list_any (same_text k) ks) (same_text-itself k),
  each (λ (n : List ℕ). list_any (same_text n) ks ≡ true) (λ (n : List ℕ). list_any (same_text n) (k ∷ ks) ≡ true)
      (λ n there. ap (λ b. same_text n k || b) there ∙ or_true (same_text n k)) ks (among_all ks),
)

among_beside : (f : List ℕ → ℤ) (Q : List ℕ → Type 0) (ks : List (List ℕ)) → AllByRecursion Q ks → AllByRecursion (λ (r : List ℕ × ℤ). Q r.0) (beside f ks)
among_beside f Q [] all = tt
among_beside f Q (k ∷ ks) all = (all.0, among_beside f Q ks all.1)

-- ---- products weigh in no other currency

cond_none : (q : Posting → Bool) (b : Bool) (p : Posting) → q p ≡ false → list_any q (cond b [] (p ∷ [])) ≡ false
cond_none q true p none = refl
cond_none q false p none = ap (λ x. x || false) none

both_none : (q : Posting → Bool) (xs ys : List Posting) → list_any q xs ≡ false → list_any q ys ≡ false → list_any q (xs ++ ys) ≡ false
both_none q xs ys first second = list_any-append q xs ys ∙ ap (λ b. b || list_any q ys) first ∙ second

-- crumbs in other currencies have no price in one
none_priced : (name account : List ℕ) (cs : List (List ℕ × ℤ)) → AllByRecursion (λ (c : List ℕ × ℤ). same_text name c.0 ≡ false) cs
    → list_any (λ (p : Posting). weighs_at_price name p.amount) (flat_map (crumb_postings account) cs) ≡ false
none_priced name account [] apart = refl
none_priced name account (c ∷ cs) apart =
    let priced = λ (p : Posting). weighs_at_price name p.amount in
    let first = part_posting account c.0 (whole_of c.1) None in
    let second = part_posting account c.0 (speck_of c.1) (Some (rest_of c.1)) in
    both_none priced (first ++ second) (flat_map (crumb_postings account) cs)
    (both_none priced first second
    (cond_none priced (int_eq (whole_of c.1) (pos 0)) (posting_in account c.0 (whole_of c.1) None) refl)
    (cond_none priced (nat_eq (rest_of c.1) 0) (posting_in account c.0 (speck_of c.1) (price_in c.0 (Some (rest_of c.1)))) apart.0))
    (none_priced name account cs apart.1)

-- postings without braces have no legs at cost
abbrev costs_in : List ℕ → Leg → Bool
costs_in name leg = is_cost_in name leg.position.lot

plain_legs : (name : List ℕ) (ties : TieRule) (facts : Facts) (day : ℤ) (legs : List Leg) (at : ℕ) (ps : List Posting) (booked : List Booked)
    → AllByRecursion IsPlain ps → BooksAllUnder ties facts day legs at ps (All booked) → list_any (costs_in name) (legs_in booked) ≡ false
plain_legs name ties facts day legs at ps booked plain books =
    over_booked ties facts day (λ before xs bs. AllByRecursion IsPlain xs → list_any (costs_in name) (legs_in bs) ≡ false)
    (λ before all. refl) (λ before account xs bs rest all. rest all.1)
    (λ before place account amount xs first more is rest all.
    let line = line_under ties facts day before place account amount in
    let same : all.0.0 ≡ amount = (let both = all.0.1 in cc) in
    let cost : amount.cost ≡ None = ap (λ (a : Amount). a.cost) (sym same) ∙ all.0.2 in
    let here : first.legs ≡ plain_leg line ∷ [] = (subst (λ (c : Option Cost). HasLegs line c first.reduces first.legs) cost is.legs).1 in
    list_any-append (costs_in name) first.legs (legs_in more)
    ∙ ap (λ ls. list_any (costs_in name) ls || list_any (costs_in name) (legs_in more)) here ∙ rest all.1)
    at ps legs booked books plain

or_more : (a b c : Bool) → (a || b) ≡ true → ((a || false) || (b || c)) ≡ true
or_more true b c some = refl
or_more false true c some = refl
or_more false false c some = absurd cc

or_none : (a b : Bool) → (a || b) ≡ false → ((a || false) || (b || false)) ≡ false
or_none a b none = ap (λ x. x || (b || false)) (or_false a) ∙ ap (λ x. a || x) (or_false b) ∙ none

same_products : (name : List ℕ) (ps more : List Posting) (legs plain : List Leg) → list_any (costs_in name) plain ≡ false
    → (has_products_in ps legs name ≡ false → list_any (λ (p : Posting). weighs_at_price name p.amount) more ≡ false)
    → has_products_in (ps ++ more) (legs ++ plain) name ≡ has_products_in ps legs name
same_products name ps more legs plain none apart =
    let priced = λ (p : Posting). weighs_at_price name p.amount in
    let cost = list_any (costs_in name) legs in
    let price = list_any priced ps in
    let all : has_products_in (ps ++ more) (legs ++ plain) name ≡ ((cost || false) || (price || list_any priced more)) =
    ap (λ b. b || list_any priced (ps ++ more)) (list_any-append (costs_in name) legs plain ∙ ap (λ b. cost || b) none)
    ∙ ap (λ b. (cost || false) || b) (list_any-append priced ps more) in
    all
    ∙ by_bool (has_products_in ps legs name)
    (λ e. or_more cost price (list_any priced more) e ∙ sym e)
    (λ e. ap (λ b. (cost || false) || (price || b)) (apart e) ∙ or_none cost price e ∙ sym e)

-- ---- crumbs of zero

no_postings : (account : List ℕ) (cs : List (List ℕ × ℤ)) → flat_map (crumb_postings account) (zeros_of cs) ≡ []
no_postings account [] = refl
no_postings account (c ∷ cs) = no_postings account cs

-- an amount with so many decimals is rounded to itself
rounds_itself : (decimals : ℕ) (steps amount : ℤ) → amount ≡ steps *ℤ pos (step decimals) → IsRounded decimals (amount +ℤ pos 0) amount
rounds_itself decimals steps amount is =
    let none : (amount +ℤ pos 0) -ℤ steps *ℤ pos (step decimals) ≡ pos 0 = omega (arith, ints, is) in
    let size : unsigned_abs ((amount +ℤ pos 0) -ℤ steps *ℤ pos (step decimals)) ≡ 0 = ap unsigned_abs none in
    let some = step_positive decimals in
    record {
      steps = steps;
      is_steps = is;
      nearest = record { near = omega (arith, size); even = λ half. absurd (omega (arith, size, half, some)) };
    }

own_crumb : (fill : Option ℕ) (before residual crumb sum : ℤ) → IsCrumb fill before residual crumb → sum ≡ residual +ℤ crumb
    → IsCrumb fill (sum +ℤ pos 0) sum (pos 0)
own_crumb None before residual crumb sum is added = omega (arith, ints, is, added)
own_crumb (Some decimals) before residual crumb sum (rounded, is_rounded, is) added =
    let same : sum ≡ rounded = omega (arith, ints, is, added) in
    (sum, rounds_itself decimals is_rounded.steps sum (same ∙ is_rounded.is_steps), omega (arith, ints))

own_zip : (fill : Option ℕ) (left : List (List ℕ × ℤ)) (before after : List ℕ → ℤ) (all : List (List ℕ × ℤ)) (names : List (List ℕ)) (cs : List (List ℕ × ℤ))
    → AllZip (IsCrumbOf fill left) (beside before names) cs → AllByRecursion (λ (c : List ℕ × ℤ). sum_in all c.0 ≡ c.1) cs
    → ((name : List ℕ) → after name ≡ before name +ℤ sum_in all name)
    → AllZip (IsCrumbOf fill []) (beside after names) (zeros_of cs)
own_zip fill left before after all [] [] are own adds = tt
own_zip fill left before after all [] (c ∷ cs) are own adds = absurd are
own_zip fill left before after all (n ∷ names) [] are own adds = absurd are
own_zip fill left before after all (n ∷ names) (c ∷ cs) are own adds =
    let there : sum_in all n ≡ c.1 = ap (sum_in all) (sym are.0.currency) ∙ own.0 in
    let added : after n ≡ before n +ℤ c.1 = adds n ∙ ap (λ z. before n +ℤ z) there in (
      record {
        currency = are.0.currency;
        amount = own_crumb fill (stated left (n, before n)) (before n) c.1 (after n) are.0.amount added;
        in_range = omega arith;
      },
      own_zip fill left before after all names cs are.1 own.1 adds,
    )

-- ---- its completion is itself

module _ (ties : TieRule) (facts : Facts) (account : List ℕ) (decimals : ℕ) (t : TransactionOf) (crumbs : List (List ℕ × ℤ)) (completed : TransactionOf)
    (is : IsCompletion ties facts account decimals t crumbs completed) where
  abbrev written : List Posting
  written = postings_of is.rated

  abbrev behind : List Posting
  behind = flat_map (crumb_postings account) crumbs

  postings : completed.postings ≡ written ++ behind
  postings = ap (λ (x : TransactionOf). x.postings) is.is

  stay : AllByRecursion Stays (written ++ behind)
  stay =
      all_append Stays written behind (again_all t.postings is.rated is.rates)
      (each IsPlain Stays plain_stays behind (crumbs_plain account crumbs))

  -- what is rated of it is itself
  pub own_rates : RatesAll completed.postings (map kept_posting completed.postings)
  own_rates = stay_all completed.postings (subst (AllByRecursion Stays) (sym postings) stay)

  abbrev has : List ℕ → Bool
  has name = has_products_in written (legs_in is.booked) name

  abbrev fill : Option ℕ
  fill = fill_decimals decimals t.postings

  abbrev names : List (List ℕ)
  names = currencies (weights_in is.booked)

  -- the crumbs are those of the currencies in which a product weighs
  are : AllZip (IsCrumbOf fill (left_of is.rated)) (beside (sum_in (weights_in is.booked)) (filter has names)) crumbs
  are =
      subst (λ rs. AllZip (IsCrumbOf fill (left_of is.rated)) rs crumbs)
      (sym (map-filter (λ (n : List ℕ). (n, sum_in (weights_in is.booked) n)) (λ (r : List ℕ × ℤ). has r.0) names)) is.are

  module _ (booked : List Booked) (books : BooksAllUnder ties facts t.day [] 1 (written ++ behind) (All booked)) where
    abbrev split : Splits ties facts t.day [] 1 written behind booked
    split = split_books ties facts t.day [] 1 written behind booked books

    first : split.first ≡ is.booked
    first =
        let both : All split.first ≡ All is.booked = books_one ties facts t.day [] 1 written (All split.first) (All is.booked) split.books is.books in
        cc

    all_booked : booked ≡ is.booked ++ split.rest
    all_booked = split.all ∙ ap (λ bs. bs ++ split.rest) first

    legs : legs_in booked ≡ legs_in is.booked ++ legs_in split.rest
    legs = ap legs_in all_booked ∙ flat_map-append (λ (b : Booked). b.legs) is.booked split.rest

    weights : weights_in booked ≡ weights_in is.booked ++ weights_at behind
    weights =
        ap weights_in all_booked ∙ flat_map-append weights_of is.booked split.rest
        ∙ ap (λ ws. weights_in is.booked ++ ws)
        (plain_weights ties facts t.day split.legs split.at behind split.rest (crumbs_plain account crumbs) split.behind)

    abbrev kept_names : List (List ℕ)
    kept_names = filter has names

    -- each crumb is in a currency in which a product weighs
    has_all : AllByRecursion (λ (c : List ℕ × ℤ). has c.0 ≡ true) crumbs
    has_all =
        zip_named (λ (n : List ℕ). has n ≡ true) fill (left_of is.rated) (beside (sum_in (weights_in is.booked)) kept_names) crumbs are
        (among_beside (sum_in (weights_in is.booked)) (λ (n : List ℕ). has n ≡ true) kept_names
        (recursion_from_All (λ (n : List ℕ). has n ≡ true) kept_names (filter_passes has names)))

    among : AllByRecursion (λ (c : List ℕ × ℤ). list_any (same_text c.0) names ≡ true) crumbs
    among =
        zip_named (λ (n : List ℕ). list_any (same_text n) names ≡ true) fill (left_of is.rated) (beside (sum_in (weights_in is.booked)) kept_names) crumbs are
        (among_beside (sum_in (weights_in is.booked)) (λ (n : List ℕ). list_any (same_text n) names ≡ true) kept_names
        (all_filtered (λ (n : List ℕ). list_any (same_text n) names ≡ true) has names (among_all names)))

    -- so the same currencies appear
    same_names : currencies (weights_in booked) ≡ names
    same_names =
        ap currencies weights
        ∙ ap first_appearances (map-append name_of (weights_in is.booked) (weights_at behind))
        ∙ same_currencies (map name_of (weights_in is.booked)) (map name_of (weights_at behind))
        (crumbs_named (λ (n : List ℕ). list_any (same_text n) names ≡ true) account crumbs among)

    apart : (name : List ℕ) → has name ≡ false → AllByRecursion (λ (c : List ℕ × ℤ). same_text name c.0 ≡ false) crumbs
    apart name none =
        each (λ (c : List ℕ × ℤ). has c.0 ≡ true) (λ (c : List ℕ × ℤ). same_text name c.0 ≡ false)
        (λ c some.
        by_bool (same_text name c.0)
        (λ e. let both : false ≡ true = sym none ∙ ap has (one_text name c.0 e) ∙ some in absurd cc)
        (λ e. e)) crumbs has_all

    -- and products weigh in the same
    same_has : (name : List ℕ) → has_products_in (written ++ behind) (legs_in booked) name ≡ has name
    same_has name =
        ap (λ ls. has_products_in (written ++ behind) ls name) legs
        ∙ same_products name written behind (legs_in is.booked) (legs_in split.rest)
        (plain_legs name ties facts t.day split.legs split.at behind split.rest (crumbs_plain account crumbs) split.behind)
        (λ none. none_priced name account crumbs (apart name none))

    own_residuals : product_residuals (written ++ behind) booked ≡ beside (sum_in (weights_in booked)) kept_names
    own_residuals =
        sym (map-filter (λ (n : List ℕ). (n, sum_in (weights_in booked) n))
        (λ (r : List ℕ × ℤ). has_products_in (written ++ behind) (legs_in booked) r.0) (currencies (weights_in booked)))
        ∙ ap (λ (p : List ℕ → Bool). beside (sum_in (weights_in booked)) (filter p (currencies (weights_in booked)))) (λ i name. same_has name i)
        ∙ ap (λ ns. beside (sum_in (weights_in booked)) (filter has ns)) same_names

    -- what is left in them is taken up
    own_are : AllZip (IsCrumbOf fill []) (product_residuals (written ++ behind) booked) (zeros_of crumbs)
    own_are =
        subst (λ rs. AllZip (IsCrumbOf fill []) rs (zeros_of crumbs)) (sym own_residuals)
        (own_zip fill (left_of is.rated) (sum_in (weights_in is.booked)) (sum_in (weights_in booked)) crumbs kept_names crumbs are
        (own_sums crumbs
        (apart_crumbs fill (left_of is.rated) (product_residuals written is.booked) crumbs is.are
        (apart_residuals (λ (r : List ℕ × ℤ). has r.0) (weights_in is.booked))))
        (λ name. adds_crumbs ties facts t.day written account crumbs is.booked booked name is.books books))

  -- where it is booked
  pub own_completion : (other : List ℕ) (booked : List Booked) → length completed.postings ≤ most_postings
      → BooksAllUnder ties facts completed.day [] 1 completed.postings (All booked)
      → IsCompletion ties facts other decimals completed (zeros_of crumbs) completed
  own_completion other booked few books =
      let ps = completed.postings in
      let rated = map kept_posting ps in
      let day : completed.day ≡ t.day = ap (λ (x : TransactionOf). x.day) is.is in
      let all : BooksAllUnder ties facts t.day [] 1 (written ++ behind) (All booked) =
      subst (λ (x : TransactionOf). BooksAllUnder ties facts x.day [] 1 x.postings (All booked)) is.is books in
      let fills : fill_decimals decimals ps ≡ fill =
      ap (fill_decimals decimals) postings ∙ same_fill decimals t.postings is.rated behind is.rates (crumbs_plain account crumbs) in
      let found : AllZip (IsCrumbOf fill []) (product_residuals (postings_of rated) booked) (zeros_of crumbs) =
      subst (λ xs. AllZip (IsCrumbOf fill []) (product_residuals xs booked) (zeros_of crumbs)) (sym (kept_postings ps ∙ postings)) (own_are booked all) in
      record {
        few = few;
        rated = rated;
        rates = own_rates;
        booked = booked;
        books = subst (λ xs. BooksAllUnder ties facts completed.day [] 1 xs (All booked)) (sym (kept_postings ps)) books;
        are = same_crumbs (fill_decimals decimals ps) fill (left_of rated) [] (product_residuals (postings_of rated) booked)
            (product_residuals (postings_of rated) booked) (zeros_of crumbs) fills (kept_left ps) refl found;
        is = ap (λ xs. record completed { postings = xs })
            (sym (ap (λ xs. postings_of rated ++ xs) (no_postings other crumbs) ∙ append-nil (postings_of rated) ∙ kept_postings ps));
      }

  -- whatever completes it is itself
  pub own_alone : (other : List ℕ) (cs : List (List ℕ × ℤ)) (again : TransactionOf) → IsCompletion ties facts other decimals completed cs again
      → (again ≡ completed) × (cs ≡ zeros_of crumbs)
  own_alone other cs again found =
      let ps = completed.postings in
      let rated : found.rated ≡ map kept_posting ps = all_one Rates rates_one ps found.rated (map kept_posting ps) found.rates own_rates in
      let same : postings_of found.rated ≡ ps = ap postings_of rated ∙ kept_postings ps in
      let books = subst (λ xs. BooksAllUnder ties facts completed.day [] 1 xs (All found.booked)) same found.books in
      let one = completion_one ties facts other decimals completed cs (zeros_of crumbs) again completed found (own_completion other found.booked found.few books) in
      (one.1, one.0)

-- so what is handed in as a completion is judged as it is
module _ (ties : TieRule) (facts : Facts) (account : List ℕ) (rounding : Rounding) (asked : Asked) (t : TransactionOf) (crumbs : List (List ℕ × ℤ))
    (completed : TransactionOf) (is : IsCompletion ties facts account rounding.decimals t crumbs completed) (command : asked.command ≡ Transaction completed)
    (plain : asked.split ≡ None) (new : facts.text ≡ None) where
  proposes_own : (other : Command) → Proposes ties facts rounding asked other → other ≡ Transaction completed
  proposes_own other proposes =
      let both : Transaction proposes.t ≡ Transaction completed = sym proposes.is ∙ command in
      let same : proposes.t ≡ completed = cc in
      proposes.other_is ∙ by (subst (λ (x : TransactionOf). ProposesFor ties facts rounding asked.cash x proposes.completed) same proposes.proposes)
    where
      by : ProposesFor ties facts rounding asked.cash completed proposes.completed → Transaction proposes.completed ≡ Transaction completed
      by (inl (cs, completes)) =
          ap Transaction
          (own_alone ties facts account rounding.decimals t crumbs completed is rounding.account cs proposes.completed completes.completion).0
      by (inr stands) = let none = sym new ∙ stands.says in absurd cc

  pub own_turn : (turned : Command) → IsTurnWith ties facts rounding asked turned → turned ≡ Transaction completed
  own_turn turned (inl (tries, passes)) =
      proposes_own turned (subst (λ (split : Option Change). TriesBy split ties facts rounding asked turned) plain tries)
  own_turn turned (inr (same, none)) = same ∙ command
