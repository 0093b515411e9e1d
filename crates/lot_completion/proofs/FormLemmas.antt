-- Completions by form: what is compared tells them.
use Rattle.std.proofs.Common.{◌≡◌, ◌≢◌, ℕ, zero, suc, ◌≤◌, ◌<◌, ◌+◌, get_or, Result, Ok, Err, Bool, true, List, [], ◌∷◌, ◌++◌, length, length-append, take, drop, Option, None, Some, ℤ, pos, ◌*ℤ◌, refl, ap, sym, subst, ◌∙◌, arith}
use Rattle.std.specs.Prelude.{IfOk, IsTrue, SomeIff, flat_map, ◌↔◌}
use Rattle.std.specs.List.{list_all}
use Rattle.std.proofs.lemmas.List.{length-take-le, take-append-drop}
use Rattle.lot_command.specs.Canonical.{canonical}
use Rattle.lot_command.specs.Sayable.{IsSayable}
use Rattle.lot_command.specs.declared.command.Command.{Command}
use Rattle.lot_command.specs.declared.command.Command.TheVariants.{Transaction}
use Rattle.lot_command.specs.declared.transaction.Posting.{Posting}
use Rattle.lot_command.specs.declared.transaction.Transaction.{Transaction as TransactionOf}
use Rattle.lot_completion.proofs.RateLemmas.{next_taken}
use Rattle.lot_completion.proofs.OneLemmas.{all_one, rates_one}
use Rattle.lot_completion.proofs.ReadLemmas.{made_again, made_of_some, read_apart, read_taken}
use Rattle.lot_completion.specs.Crumbs.{crumb_postings}
use Rattle.lot_completion.specs.Form.{IsByForm, may_be_taken}
use Rattle.lot_completion.specs.Formed.{IsFormed, IsFormedAt, IsFormedAtSome, crumbs_behind, formed, made_by}
use Rattle.lot_completion.specs.Rates.{Rates, RatesAll, postings_of}
use Rattle.lot_completion.specs.declared.rates.RatedPosting.{RatedPosting}
use Rattle.lot_num.specs.Amount.{IsUnits, one}
use Rattle.lot_rounding.proofs.NearestLemmas.{one_rounded}
use Rattle.lot_rounding.specs.Nearest.{IsRounded}
use Rattle.lot_rounding.specs.Asked.{HasCashAt, IsAtSomeDecimals, with_units, with_units_at}
use Rattle.lot_rounding.specs.declared.asked.RowCash.{RowCash}

-- ---- as many postings as were written

rates_length : (written : List Posting) (rated : List RatedPosting) → RatesAll written rated → length (postings_of rated) ≡ length written
rates_length [] [] rates = refl
rates_length [] (r ∷ rs) rates = absurd rates
rates_length (p ∷ ps) [] rates = absurd rates
rates_length (p ∷ ps) (r ∷ rs) rates = ap suc (rates_length ps rs rates.1)

-- one more posting at the place
units_at_place : (place : ℕ) (units : ℤ) (xs : List Posting) (x : Posting) → length xs ≡ place
    → with_units_at place units (xs ++ x ∷ []) ≡ with_units_at place units xs ++ with_units units x ∷ []
units_at_place zero units [] x same = refl
units_at_place zero units (y ∷ ys) x same = absurd cc
units_at_place (suc place) units [] x same = absurd cc
units_at_place (suc place) units (y ∷ ys) x same = ap (λ rest. y ∷ rest) (units_at_place place units ys x (omega arith))

-- and one elsewhere
units_elsewhere : (place : ℕ) (units : ℤ) (xs : List Posting) (x : Posting) → length xs ≢ place
    → with_units_at place units (xs ++ x ∷ []) ≡ with_units_at place units xs ++ x ∷ []
units_elsewhere zero units [] x other = absurd (other refl)
units_elsewhere zero units (y ∷ ys) x other = refl
units_elsewhere (suc zero) units [] x other = refl
units_elsewhere (suc (suc place)) units [] x other = refl
units_elsewhere (suc place) units (y ∷ ys) x other =
    ap (λ rest. y ∷ rest) (units_elsewhere place units ys x (λ same. other (ap suc same)))

module _ (place : ℕ) (units : ℤ) (xs : List Posting) (i : ℕ) (x : Posting) (below : i < length xs) (item : x ≡ get_or xs i x) where
  taken : length (take i xs) ≡ i
  taken = length-take-le i xs (omega arith)

  pub next_at_place : i ≡ place → with_units_at place units (take (i + 1) xs) ≡ with_units_at place units (take i xs) ++ with_units units x ∷ []
  next_at_place same = ap (λ ys. with_units_at place units ys) (next_taken xs i x below item) ∙ units_at_place place units (take i xs) x (taken ∙ same)

  pub next_elsewhere : i ≢ place → with_units_at place units (take (i + 1) xs) ≡ with_units_at place units (take i xs) ++ x ∷ []
  next_elsewhere other =
      ap (λ ys. with_units_at place units ys) (next_taken xs i x below item)
      ∙ units_elsewhere place units (take i xs) x (λ same. other (sym taken ∙ same))

units_length : (place : ℕ) (units : ℤ) (xs : List Posting) → length (with_units_at place units xs) ≡ length xs
units_length zero units [] = refl
units_length zero units (x ∷ xs) = refl
units_length (suc place) units [] = refl
units_length (suc place) units (x ∷ xs) = ap suc (units_length place units xs)

written_length : (cash : Option RowCash) (t written : TransactionOf) → IsAtSomeDecimals cash t written → length written.postings ≡ length t.postings
written_length None t written at = ap (λ (w : TransactionOf). length w.postings) at
written_length (Some cash) t written at =
    ap (λ (w : TransactionOf). length w.postings) at.2.is ∙ units_length cash.place at.2.units t.postings

-- ---- the first postings, and those behind

take_length : {X : Type 0} (xs ys : List X) (n : ℕ) → length xs ≡ n → take n (xs ++ ys) ≡ xs
take_length [] ys zero same = refl
take_length [] ys (suc n) same = absurd cc
take_length (x ∷ xs) ys zero same = absurd cc
take_length (x ∷ xs) ys (suc n) same = ap (λ rest. x ∷ rest) (take_length xs ys n (omega arith))

drop_length : {X : Type 0} (xs ys : List X) (n : ℕ) → length xs ≡ n → drop n (xs ++ ys) ≡ ys
drop_length [] ys zero same = refl
drop_length [] ys (suc n) same = absurd cc
drop_length (x ∷ xs) ys zero same = absurd cc
drop_length (x ∷ xs) ys (suc n) same = drop_length xs ys n (omega arith)

-- ---- one text, one transaction

abbrev Apart : Type 0
Apart = (a b : Command) → IsSayable a → IsSayable b → canonical a ≡ canonical b → a ≡ b

-- the transactions of one canonical text are one
pub one_transaction : (text : List ℕ) (a b : TransactionOf) → Apart → IsSayable (Transaction a) → IsSayable (Transaction b)
    → text ≡ canonical (Transaction a) → text ≡ canonical (Transaction b) → a ≡ b
one_transaction text a b apart first second says other =
    let same : Transaction a ≡ Transaction b = apart (Transaction a) (Transaction b) first second (sym says ∙ other) in cc

-- rates are unique, and so is what they form
pub other_text : (text body : List ℕ) (written : TransactionOf) (crumbs : List Posting) (rated : List RatedPosting) → RatesAll written.postings rated
    → body ≡ canonical (Transaction (formed written rated crumbs)) → IsFormed text written crumbs → body ≡ text
other_text text body written crumbs rated rates says it =
    let same : rated ≡ it.rated = all_one Rates rates_one written.postings rated it.rated rates it.rates in
    says ∙ ap (λ (r : List RatedPosting). canonical (Transaction (formed written r crumbs))) same ∙ sym it.says

-- ---- the cash of a row

pub cash_one : (cash : RowCash) (decimals : ℕ) (t written : TransactionOf) (rounded : ℤ) → IsRounded decimals cash.exact rounded
    → (it : HasCashAt cash decimals t written) → rounded ≡ it.units *ℤ pos one
cash_one cash decimals t written rounded is it = one_rounded decimals cash.exact rounded (it.units *ℤ pos one) is it.rounds

-- a transaction with its cash at so many decimals is the only one, so what is formed of it is what is formed at so many
module _ (text : List ℕ) (cash : RowCash) (decimals : ℕ) (t written : TransactionOf) (crumbs : List Posting) (units rounded : ℤ) where
  pub formed_at : IsUnits units → IsRounded decimals cash.exact rounded → rounded ≡ units *ℤ pos one
      → ((other : ℤ) → IsUnits other → rounded ≡ other *ℤ pos one → other ≡ units)
      → written ≡ record t { postings = with_units_at cash.place units t.postings }
      → (b : Bool) → (IsTrue b ↔ IsFormed text written crumbs) → (IsTrue b ↔ IsFormedAt text cash decimals t crumbs)
  formed_at in_range rounds same every is b h = (
    λ yes. (
      written,
      record { units = units; in_range = in_range; rounds = subst (λ r. IsRounded decimals cash.exact r) same rounds; is = is },
      h.0 yes,
    ),
    λ it.
        let other : it.1.units ≡ units = every it.1.units it.1.in_range (cash_one cash decimals t it.0 rounded rounds it.1) in
        let one : it.0 ≡ written = it.1.is ∙ ap (λ u. record t { postings = with_units_at cash.place u t.postings }) other ∙ sym is in
        h.1 (subst (λ (w : TransactionOf). IsFormed text w crumbs) one it.2),
  )

pub if_ok : {A E : Type 0} (r : Result A E) (P Q : A → Type 0) → ((a : A) → P a → Q a) → IfOk r P → IfOk r Q
if_ok (Ok a) P Q by it = by a it
if_ok (Err e) P Q by it = tt

-- the value of what is there
pub some_if : {A : Type 0} (found : Option A) (P : Type 0) (value it : A) → SomeIff found P value → found ≡ Some it → it ≡ value
some_if None P value it is some = absurd cc
some_if (Some x) P value it is some = let same : x ≡ it = cc in sym same ∙ is.1

-- ---- by form

module _ (text : List ℕ) (cash : Option RowCash) (t stands : TransactionOf) (says : text ≡ canonical (Transaction stands)) (sayable : IsSayable (Transaction stands)) where
  -- what is formed of those that stand is by form
  by_form : (first behind : List Posting) → Apart → length first ≡ length t.postings → stands.postings ≡ first ++ behind
      → list_all (may_be_taken first) (crumbs_behind behind) ≡ true → IsFormedAtSome text cash t (made_by behind (crumbs_behind behind))
      → IsByForm cash t stands
  by_form first behind apart count postings taken (written, at, it) =
      let crumbs = crumbs_behind behind in
      let made = made_by behind crumbs in
      let is : formed written it.rated made ≡ stands = one_transaction text (formed written it.rated made) stands apart it.sayable sayable it.says says in
      let lengths : length (postings_of it.rated) ≡ length t.postings = rates_length written.postings it.rated it.rates ∙ written_length cash t written at in
      let same : postings_of it.rated ++ made ≡ first ++ behind = ap (λ (s : TransactionOf). s.postings) is ∙ postings in
      let rates : postings_of it.rated ≡ first =
      sym (take_length (postings_of it.rated) made (length t.postings) lengths) ∙ ap (λ ps. take (length t.postings) ps) same
      ∙ take_length first behind (length t.postings) count in
      let account = made_of_some behind in
      record {
        written = written;
        at = at;
        rated = it.rated;
        rates = it.rates;
        account = account.0;
        crumbs = crumbs;
        apart = read_apart behind;
        taken = subst (λ ps. list_all (may_be_taken ps) crumbs ≡ true) (sym rates) taken;
        is = sym is ∙ ap (λ ps. formed written it.rated ps) account.1;
      }

  module _ (it : IsByForm cash t stands) where
    abbrev behind : List Posting
    behind = flat_map (crumb_postings it.account) it.crumbs

    lengths : length (postings_of it.rated) ≡ length t.postings
    lengths = rates_length it.written.postings it.rated it.rates ∙ written_length cash t it.written it.at

    postings : stands.postings ≡ postings_of it.rated ++ behind
    postings = ap (λ (s : TransactionOf). s.postings) it.is

    -- it has as many postings at least
    pub by_form_count : length t.postings ≤ length stands.postings
    by_form_count =
        let all : length stands.postings ≡ length (postings_of it.rated ++ behind) = ap length postings in
        omega (arith, all, lengths, length-append (postings_of it.rated) behind)

    by_form_first : take (length t.postings) stands.postings ≡ postings_of it.rated
    by_form_first = ap (λ ps. take (length t.postings) ps) postings ∙ take_length (postings_of it.rated) behind (length t.postings) lengths

    by_form_rest : drop (length t.postings) stands.postings ≡ behind
    by_form_rest = ap (λ ps. drop (length t.postings) ps) postings ∙ drop_length (postings_of it.rated) behind (length t.postings) lengths

    -- those behind make up for crumbs that may have been taken
    pub by_form_taken : list_all (may_be_taken (take (length t.postings) stands.postings)) (crumbs_behind (drop (length t.postings) stands.postings)) ≡ true
    by_form_taken =
        ap (λ ps. list_all (may_be_taken ps) (crumbs_behind (drop (length t.postings) stands.postings))) by_form_first
        ∙ ap (λ ps. list_all (may_be_taken (postings_of it.rated)) (crumbs_behind ps)) by_form_rest
        ∙ read_taken it.account (postings_of it.rated) it.crumbs it.apart it.taken

    by_form_made : made_by (drop (length t.postings) stands.postings) (crumbs_behind (drop (length t.postings) stands.postings)) ≡ behind
    by_form_made =
        ap (λ ps. made_by ps (crumbs_behind ps)) by_form_rest ∙ made_again it.account (postings_of it.rated) it.crumbs it.apart it.taken

    -- and it is formed of them
    pub by_form_formed : IsFormedAtSome text cash t (made_by (drop (length t.postings) stands.postings) (crumbs_behind (drop (length t.postings) stands.postings)))
    by_form_formed =
        subst (λ ps. IsFormedAtSome text cash t ps) (sym by_form_made) (
          it.written,
          it.at,
          record {
            rated = it.rated;
            rates = it.rates;
            sayable = subst (λ (s : TransactionOf). IsSayable (Transaction s)) it.is sayable;
            says = says ∙ ap (λ (s : TransactionOf). canonical (Transaction s)) it.is;
          },
        )

  -- what is formed of those that stand is by form, and nothing else
  pub by_form_alone : (first behind made : List Posting) → Apart → length t.postings ≤ length stands.postings
      → first ≡ take (length t.postings) stands.postings → behind ≡ drop (length t.postings) stands.postings
      → list_all (may_be_taken first) (crumbs_behind behind) ≡ true → made ≡ made_by behind (crumbs_behind behind)
      → (b : Bool) → (IsTrue b ↔ IsFormedAtSome text cash t made) → (IsTrue b ↔ IsByForm cash t stands)
  by_form_alone first behind made apart fits front back taken is b h =
      let count : length first ≡ length t.postings = ap length front ∙ length-take-le (length t.postings) stands.postings fits in
      let postings : stands.postings ≡ first ++ behind =
      sym (take-append-drop (length t.postings) stands.postings) ∙ ap (λ ps. ps ++ drop (length t.postings) stands.postings) (sym front)
      ∙ ap (λ ps. first ++ ps) (sym back) in
      let same : made ≡ made_by (drop (length t.postings) stands.postings) (crumbs_behind (drop (length t.postings) stands.postings)) =
      is ∙ ap (λ ps. made_by ps (crumbs_behind ps)) back in (
        λ yes. by_form first behind apart count postings taken (subst (λ ps. IsFormedAtSome text cash t ps) is (h.0 yes)),
        λ it. h.1 (subst (λ ps. IsFormedAtSome text cash t ps) (sym same) (by_form_formed it)),
      )
