-- The posting of a line is the one whose form its tokens have.
use Rattle.std.specs.Prelude.{option_map, IfSome, IfNone}
use Rattle.std.proofs.Common.{◌≡◌, ℕ, cond, List, [], ◌∷◌, ◌++◌, Option, Some, None, refl, ap, ◌∙◌, sym, subst, append_assoc}
use Rattle.std.specs.List.{list_any}
use Rattle.std.proofs.lemmas.Option.{same_Some, none-some}
use Rattle.lot_syntax.specs.declared.token.Mark.TheVariants as Marks
use Rattle.lot_syntax.specs.Token.{Lexeme, word, number, date, text, mark}
use Rattle.lot_syntax.proofs.OptionLemmas.{guarded}
use Rattle.lot_syntax.specs.Form.{CostPart, parts_tokens, has_number, WrittenCost, each, whole, FitsCost, cost_tokens, WrittenPrice, each_unit, all_units, price_tokens, WrittenAmount, amount_tokens, WrittenPosting, perhaps, FitsPerhaps, IsPosting}
use Rattle.lot_syntax.specs.declared.form.PostingForm.{PostingForm}
use Rattle.lot_syntax.specs.Shape.{posting_seen, ◌>>=◌, is_empty, as_word, as_number, after_close, after_close_close, part_at, parts_at, distinct_at, each_at, whole_at, cost_at, money_of, price_of, amount_of, posting_by, posting_of}
use Rattle.lot_syntax.proofs.PartLemmas.{bound, nothing, then_is, word_is, number_is, distinct_are, distinct_found}

-- ---- Closing braces.

close_is : (tokens rest : List Lexeme) → after_close tokens ≡ Some rest → tokens ≡ mark Marks.Close ∷ rest
close_is [] rest e = cc
close_is (word w ∷ more) rest e = cc
close_is (number n ∷ more) rest e = cc
close_is (date d ∷ more) rest e = cc
close_is (text t ∷ more) rest e = cc
close_is (mark Marks.Comma ∷ more) rest e = cc
close_is (mark Marks.Star ∷ more) rest e = cc
close_is (mark Marks.Exclamation ∷ more) rest e = cc
close_is (mark Marks.At ∷ more) rest e = cc
close_is (mark Marks.AtAt ∷ more) rest e = cc
close_is (mark Marks.Open ∷ more) rest e = cc
close_is (mark Marks.OpenOpen ∷ more) rest e = cc
close_is (mark Marks.Close ∷ more) rest e = ap (λ x. mark Marks.Close ∷ x) (same_Some more rest e)
close_is (mark Marks.CloseClose ∷ more) rest e = cc

close_close_is : (tokens rest : List Lexeme) → after_close_close tokens ≡ Some rest → tokens ≡ mark Marks.CloseClose ∷ rest
close_close_is [] rest e = cc
close_close_is (word w ∷ more) rest e = cc
close_close_is (number n ∷ more) rest e = cc
close_close_is (date d ∷ more) rest e = cc
close_close_is (text t ∷ more) rest e = cc
close_close_is (mark Marks.Comma ∷ more) rest e = cc
close_close_is (mark Marks.Star ∷ more) rest e = cc
close_close_is (mark Marks.Exclamation ∷ more) rest e = cc
close_close_is (mark Marks.At ∷ more) rest e = cc
close_close_is (mark Marks.AtAt ∷ more) rest e = cc
close_close_is (mark Marks.Open ∷ more) rest e = cc
close_close_is (mark Marks.OpenOpen ∷ more) rest e = cc
close_close_is (mark Marks.Close ∷ more) rest e = cc
close_close_is (mark Marks.CloseClose ∷ more) rest e = ap (λ x. mark Marks.CloseClose ∷ x) (same_Some more rest e)

-- ---- Costs.

-- braces that close at once
pub nothing_between : (tokens rest : List Lexeme) → after_close tokens ≡ Some rest → each_at tokens ≡ Some (Some (each []), rest)
unfolding part_at parts_at distinct_at
nothing_between tokens rest e = ap each_at (close_is tokens rest e)

-- a cost, or none, and what is behind it
abbrev HasCost : List Lexeme → Option WrittenCost × List Lexeme → Type 0
HasCost tokens found = FitsPerhaps FitsCost found.0 × (tokens ≡ perhaps cost_tokens found.0 ++ found.1)

each_is : (tokens : List Lexeme) (found : Option WrittenCost × List Lexeme) → each_at tokens ≡ Some found → HasCost (mark Marks.Open ∷ tokens) found
each_is tokens found e =
    let t = bound (λ (x : List CostPart × List Lexeme). after_close x.1 >>= λ rest. Some (Some (each x.0), rest)) (distinct_at tokens) found e in
    let u = bound (λ (rest : List Lexeme). Some (Some (each t.0.0), rest)) (after_close t.0.1) found t.2 in
    let d = distinct_are tokens t.0 t.1 in
    subst (HasCost (mark Marks.Open ∷ tokens)) (same_Some (Some (each t.0.0), u.0) found u.2) (
      d.0,
      ap (λ x. mark Marks.Open ∷ x) (d.1 ∙ ap (λ x. parts_tokens t.0.0 ++ x) (close_is t.0.1 u.0 u.1)
          ∙ sym (append_assoc (parts_tokens t.0.0) (mark Marks.Close ∷ []) u.0)),
    )

whole_is : (tokens : List Lexeme) (found : Option WrittenCost × List Lexeme) → whole_at tokens ≡ Some found
    → HasCost (mark Marks.OpenOpen ∷ tokens) found
whole_is tokens found e =
    let t = bound (λ (x : List CostPart × List Lexeme). cond (list_any has_number x.0) (after_close_close x.1 >>= λ rest. Some (Some (whole x.0), rest)) None) (distinct_at tokens) found e in
    let k = guarded (list_any has_number t.0.0) (after_close_close t.0.1 >>= λ rest. Some (Some (whole t.0.0), rest)) found t.2 in
    let u = bound (λ (rest : List Lexeme). Some (Some (whole t.0.0), rest)) (after_close_close t.0.1) found k.1 in
    let d = distinct_are tokens t.0 t.1 in
    subst (HasCost (mark Marks.OpenOpen ∷ tokens)) (same_Some (Some (whole t.0.0), u.0) found u.2) (
      (d.0, k.0),
      ap (λ x. mark Marks.OpenOpen ∷ x) (d.1 ∙ ap (λ x. parts_tokens t.0.0 ++ x) (close_close_is t.0.1 u.0 u.1)
          ∙ sym (append_assoc (parts_tokens t.0.0) (mark Marks.CloseClose ∷ []) u.0)),
    )

no_cost : (tokens : List Lexeme) (found : Option WrittenCost × List Lexeme) → Some (None, tokens) ≡ Some found → HasCost tokens found
no_cost tokens found e = subst (HasCost tokens) (same_Some (None, tokens) found e) (tt, refl)

cost_is : (tokens : List Lexeme) (found : Option WrittenCost × List Lexeme) → cost_at tokens ≡ Some found → HasCost tokens found
unfolding cost_at
cost_is [] found e = no_cost [] found e
cost_is (word w ∷ rest) found e = no_cost (word w ∷ rest) found e
cost_is (number n ∷ rest) found e = no_cost (number n ∷ rest) found e
cost_is (date d ∷ rest) found e = no_cost (date d ∷ rest) found e
cost_is (text t ∷ rest) found e = no_cost (text t ∷ rest) found e
cost_is (mark Marks.Comma ∷ rest) found e = no_cost (mark Marks.Comma ∷ rest) found e
cost_is (mark Marks.Star ∷ rest) found e = no_cost (mark Marks.Star ∷ rest) found e
cost_is (mark Marks.Exclamation ∷ rest) found e = no_cost (mark Marks.Exclamation ∷ rest) found e
cost_is (mark Marks.At ∷ rest) found e = no_cost (mark Marks.At ∷ rest) found e
cost_is (mark Marks.AtAt ∷ rest) found e = no_cost (mark Marks.AtAt ∷ rest) found e
cost_is (mark Marks.Open ∷ rest) found e = each_is rest found e
cost_is (mark Marks.OpenOpen ∷ rest) found e = whole_is rest found e
cost_is (mark Marks.Close ∷ rest) found e = no_cost (mark Marks.Close ∷ rest) found e
cost_is (mark Marks.CloseClose ∷ rest) found e = no_cost (mark Marks.CloseClose ∷ rest) found e

-- ---- Prices.

money_is : (tokens : List Lexeme) (found : List ℕ × List ℕ) → money_of tokens ≡ Some found → tokens ≡ number found.0 ∷ word found.1 ∷ []
money_is tokens found e =
    let t = bound (λ (n : List ℕ × List Lexeme). as_word n.1 >>= λ c. cond (is_empty c.1) (Some (n.0, c.0)) None) (as_number tokens) found e in
    let u = bound (λ (c : List ℕ × List Lexeme). cond (is_empty c.1) (Some (t.0.0, c.0)) None) (as_word t.0.1) found t.2 in
    let k = guarded (is_empty u.0.1) (Some (t.0.0, u.0.0)) found u.2 in
    subst (λ (x : List ℕ × List ℕ). tokens ≡ number x.0 ∷ word x.1 ∷ []) (same_Some (t.0.0, u.0.0) found k.1)
    (number_is tokens t.0 t.1 ∙ ap (λ x. number t.0.0 ∷ x) (word_is t.0.1 u.0 u.1 ∙ ap (λ x. word u.0.0 ∷ x) (nothing u.0.1 k.0)))

price_is : (tokens : List Lexeme) (found : Option WrittenPrice) → price_of tokens ≡ Some found → tokens ≡ perhaps price_tokens found
unfolding price_of
price_is [] found e = ap (perhaps price_tokens) (same_Some None found e)
price_is (word w ∷ rest) found e = cc
price_is (number n ∷ rest) found e = cc
price_is (date d ∷ rest) found e = cc
price_is (text t ∷ rest) found e = cc
price_is (mark Marks.Comma ∷ rest) found e = cc
price_is (mark Marks.Star ∷ rest) found e = cc
price_is (mark Marks.Exclamation ∷ rest) found e = cc
price_is (mark Marks.At ∷ rest) found e =
    let t = bound (λ (m : List ℕ × List ℕ). Some (Some (each_unit m.0 m.1))) (money_of rest) found e in
    ap (λ x. mark Marks.At ∷ x) (money_is rest t.0 t.1) ∙ ap (perhaps price_tokens) (same_Some (Some (each_unit t.0.0 t.0.1)) found t.2)
price_is (mark Marks.AtAt ∷ rest) found e =
    let t = bound (λ (m : List ℕ × List ℕ). Some (Some (all_units m.0 m.1))) (money_of rest) found e in
    ap (λ x. mark Marks.AtAt ∷ x) (money_is rest t.0 t.1) ∙ ap (perhaps price_tokens) (same_Some (Some (all_units t.0.0 t.0.1)) found t.2)
price_is (mark Marks.Open ∷ rest) found e = cc
price_is (mark Marks.OpenOpen ∷ rest) found e = cc
price_is (mark Marks.Close ∷ rest) found e = cc
price_is (mark Marks.CloseClose ∷ rest) found e = cc

price_found : (price : Option WrittenPrice) → price_of (perhaps price_tokens price) ≡ Some price
unfolding price_of
price_found None = refl
price_found (Some (each_unit n c)) = refl
price_found (Some (all_units n c)) = refl

cost_before_price : (price : Option WrittenPrice) → cost_at (perhaps price_tokens price) ≡ Some (None, perhaps price_tokens price)
unfolding cost_at
cost_before_price None = refl
cost_before_price (Some (each_unit n c)) = refl
cost_before_price (Some (all_units n c)) = refl

each_found : (parts : List CostPart) (rest : List Lexeme) → FitsCost (each parts)
    → each_at ((parts_tokens parts ++ mark Marks.Close ∷ []) ++ rest) ≡ Some (Some (each parts), rest)
each_found parts rest fits =
    ap each_at (append_assoc (parts_tokens parts) (mark Marks.Close ∷ []) rest)
    ∙ then_is (λ (x : List CostPart × List Lexeme). after_close x.1 >>= λ after. Some (Some (each x.0), after))
    (distinct_at (parts_tokens parts ++ mark Marks.Close ∷ rest)) (parts, mark Marks.Close ∷ rest) (distinct_found parts Marks.Close rest fits refl)

whole_found : (parts : List CostPart) (rest : List Lexeme) → FitsCost (whole parts)
    → whole_at ((parts_tokens parts ++ mark Marks.CloseClose ∷ []) ++ rest) ≡ Some (Some (whole parts), rest)
whole_found parts rest fits =
    ap whole_at (append_assoc (parts_tokens parts) (mark Marks.CloseClose ∷ []) rest)
    ∙ then_is (λ (x : List CostPart × List Lexeme). cond (list_any has_number x.0) (after_close_close x.1 >>= λ after. Some (Some (whole x.0), after)) None)
    (distinct_at (parts_tokens parts ++ mark Marks.CloseClose ∷ rest)) (parts, mark Marks.CloseClose ∷ rest) (distinct_found parts Marks.CloseClose rest fits.0 refl)
    ∙ ap (λ b. cond b (Some (Some (whole parts), rest)) None) fits.1

cost_found : (cost : Option WrittenCost) (price : Option WrittenPrice) → FitsPerhaps FitsCost cost
    → cost_at (perhaps cost_tokens cost ++ perhaps price_tokens price) ≡ Some (cost, perhaps price_tokens price)
unfolding cost_at
cost_found None price fits = cost_before_price price
cost_found (Some (each parts)) price fits = each_found parts (perhaps price_tokens price) fits
cost_found (Some (whole parts)) price fits = whole_found parts (perhaps price_tokens price) fits

-- ---- Amounts and postings.

abbrev pub FitsAmount : WrittenAmount → Type 0
FitsAmount a = FitsPerhaps FitsCost a.cost

abbrev amount_with : List ℕ → List ℕ → Option WrittenCost → Option WrittenPrice → WrittenAmount
amount_with units commodity cost price = record { units = units; commodity = commodity; cost = cost; price = price }

amount_is : (tokens : List Lexeme) (a : WrittenAmount) → amount_of tokens ≡ Some a → FitsAmount a × (tokens ≡ amount_tokens a)
unfolding amount_of
amount_is tokens a e =
    let t = bound (λ (units : List ℕ × List Lexeme). as_word units.1 >>= λ commodity. cost_at commodity.1 >>= λ cost. price_of cost.1 >>= λ price. Some (amount_with units.0 commodity.0 cost.0 price)) (as_number tokens) a e in
    let u = bound (λ (commodity : List ℕ × List Lexeme). cost_at commodity.1 >>= λ cost. price_of cost.1 >>= λ price. Some (amount_with t.0.0 commodity.0 cost.0 price)) (as_word t.0.1) a t.2 in
    let v = bound (λ (cost : Option WrittenCost × List Lexeme). price_of cost.1 >>= λ price. Some (amount_with t.0.0 u.0.0 cost.0 price)) (cost_at u.0.1) a u.2 in
    let w = bound (λ (price : Option WrittenPrice). Some (amount_with t.0.0 u.0.0 v.0.0 price)) (price_of v.0.1) a v.2 in
    let c = cost_is u.0.1 v.0 v.1 in
    subst (λ (x : WrittenAmount). FitsAmount x × (tokens ≡ amount_tokens x)) (same_Some (amount_with t.0.0 u.0.0 v.0.0 w.0) a w.2) (
      c.0,
      number_is tokens t.0 t.1 ∙ ap (λ x. number t.0.0 ∷ x) (word_is t.0.1 u.0 u.1
          ∙ ap (λ x. word u.0.0 ∷ x) (c.1 ∙ ap (λ x. perhaps cost_tokens v.0.0 ++ x) (price_is v.0.1 w.0 w.1))),
    )

amount_found : (a : WrittenAmount) → FitsAmount a → amount_of (amount_tokens a) ≡ Some a
unfolding amount_of
amount_found a fits =
    then_is (λ (cost : Option WrittenCost × List Lexeme). price_of cost.1 >>= λ price. Some (amount_with a.units a.commodity cost.0 price))
    (cost_at (perhaps cost_tokens a.cost ++ perhaps price_tokens a.price)) (a.cost, perhaps price_tokens a.price) (cost_found a.cost a.price fits)
    ∙ then_is (λ (price : Option WrittenPrice). Some (amount_with a.units a.commodity a.cost price)) (price_of (perhaps price_tokens a.price)) a.price (price_found a.price)

posting_rest : (account : List ℕ) (rest : List Lexeme) (p : WrittenPosting) → posting_by account rest ≡ Some p → IsPosting (word account ∷ rest) p
posting_rest account [] p e =
    subst (IsPosting (word account ∷ [])) (same_Some (record { account = account; amount = None }) p e) (tt, refl)
posting_rest account (token ∷ rest) p e =
    let t = bound (λ (a : WrittenAmount). Some (record { account = account; amount = Some a })) (amount_of (token ∷ rest)) p e in
    let a = amount_is (token ∷ rest) t.0 t.1 in
    subst (IsPosting (word account ∷ token ∷ rest)) (same_Some (record { account = account; amount = Some t.0 }) p t.2)
    (a.0, ap (λ x. word account ∷ x) a.1)

pub posting_is : (tokens : List Lexeme) (p : WrittenPosting) → posting_of tokens ≡ Some p → IsPosting tokens p
unfolding posting_of
posting_is tokens p e =
    let t = bound (λ (account : List ℕ × List Lexeme). posting_by account.0 account.1) (as_word tokens) p e in
    subst (λ (x : List Lexeme). IsPosting x p) (sym (word_is tokens t.0 t.1)) (posting_rest t.0.0 t.0.1 p t.2)

found_by : (account : List ℕ) (amount : Option WrittenAmount) → FitsPerhaps FitsAmount amount
    → posting_by account (perhaps amount_tokens amount) ≡ Some (record { account = account; amount = amount })
found_by account None fits = refl
found_by account (Some a) fits =
    then_is (λ (x : WrittenAmount). Some (record { account = account; amount = Some x })) (amount_of (amount_tokens a)) a (amount_found a fits)

pub posting_found : (tokens : List Lexeme) (p : WrittenPosting) → IsPosting tokens p → posting_of tokens ≡ Some p
unfolding posting_of
posting_found tokens p (fits, spelled) = ap posting_of spelled ∙ found_by p.account p.amount fits

pub no_posting : (tokens : List Lexeme) (p : WrittenPosting) → None ≡ posting_of tokens → IsPosting tokens p → ⊥
no_posting tokens p e h = none-some p (e ∙ posting_found tokens p h)

-- ---- What is returned.

pub posting_says : (tokens : List Lexeme) (r : Option PostingForm) → posting_of tokens ≡ option_map posting_seen r
    → IfSome r (λ form. IsPosting tokens (posting_seen form))
posting_says tokens None e = tt
posting_says tokens (Some form) e = posting_is tokens (posting_seen form) e

pub posting_none : (tokens : List Lexeme) (r : Option PostingForm) → posting_of tokens ≡ option_map posting_seen r
    → IfNone r ((written : WrittenPosting) → IsPosting tokens written → ⊥)
posting_none tokens None e = λ written h. no_posting tokens written (sym e) h
posting_none tokens (Some form) e = tt
