-- Crumbs, read back from the postings that make up for them.
use Rattle.std.proofs.Common.{◌≡◌, ◌≤◌, ◌∙◌, ◌+◌, ◌<◌, ℕ, Bool, true, false, cond, not, List, [], ◌∷◌, ◌++◌, get_or, take, length, append_assoc, None, Some, ℤ, pos, negsuc, ◌+ℤ◌, ◌*ℤ◌, refl, sym, ap, subst, arith}
use Rattle.std.specs.Prelude.{filter, flat_map, map, nat_eq, nat_le, unsigned_abs, ◌&&◌, ◌||◌}
use Rattle.std.specs.List.{AllByRecursion, list_all, list_any}
use Rattle.std.specs.Ordering.{int_eq}
use Rattle.std.proofs.lemmas.Bool.Decides.{nat_tests}
use Rattle.std.proofs.lemmas.Grind.{flat_map-append}
use Rattle.std.proofs.lemmas.Int.{ints}
use Rattle.std.proofs.lemmas.List.{append-nil, map-append}
use Rattle.std.proofs.lemmas.List.Elements.{filter-append}
use Rattle.lot_num.specs.Amount.{IsUnits, one}
use Rattle.lot_base.specs.Text.{same_text}
use Rattle.lot_base.proofs.TextLemmas.{one_text, same_text-itself, same_text-turned}
use Rattle.lot_command.specs.declared.transaction.Amount.{Amount}
use Rattle.lot_command.specs.declared.transaction.Posting.{Posting}
use Rattle.lot_booking.proofs.ListLemmas.{all_both}
use Rattle.lot_book.specs.Balance.{currencies, is_zero, left_over, residuals}
use Rattle.lot_book.specs.Currencies.{first_appearances, sum_in}
use Rattle.lot_book.proofs.CaseLemmas.{by_bool}
use Rattle.lot_book.proofs.CurrencyLemmas.{beside, without}
use Rattle.lot_book.proofs.SumLemmas.{sum_in-append}
use Rattle.lot_completion.specs.Crumbs.{crumb_postings, part_posting, posting_in, price_in, rest_of, speck_of, weight_at, weights_at, whole_of}
use Rattle.lot_completion.specs.Form.{AreApart, may_be_taken, most_of_crumb}
use Rattle.lot_completion.specs.Formed.{crumbs_behind, made_by, part_at, part_of, parts_in, with_new}
use Rattle.lot_completion.proofs.BalanceLemmas.{crumbs_weigh}
use Rattle.lot_completion.proofs.CrumbLemmas.{no_sign}
use Rattle.lot_completion.proofs.RateLemmas.{next_taken}
use Rattle.lot_completion.proofs.TakenUpLemmas.{any_beside, apart_all, fewer_all, none_fewer, own_sums}

abbrev name_of : List ℕ × ℤ → List ℕ
name_of w = w.0

-- ---- one more currency

any_without : (m n : List ℕ) (ks : List (List ℕ)) → same_text n m ≡ false → list_any (same_text n) (without m ks) ≡ list_any (same_text n) ks
any_without m n [] e = refl
any_without m n (k ∷ ks) e =
    by_bool (same_text m k)
    (λ gone.
    let apart : same_text n k ≡ false = ap (same_text n) (sym (one_text m k gone)) ∙ e in
    rw (gone, apart) (any_without m n ks e))
    (λ kept. rw kept (ap (λ b. same_text n k || b) (any_without m n ks e)))

push_gone : (m n : List ℕ) (ks : List (List ℕ)) → same_text m n ≡ true → without m (ks ++ n ∷ []) ≡ without m ks
push_gone m n ks e = filter-append (λ other. not (same_text m other)) ks (n ∷ []) ∙ rw e (append-nil (without m ks))

push_kept : (m n : List ℕ) (ks : List (List ℕ)) → same_text m n ≡ false → without m (ks ++ n ∷ []) ≡ without m ks ++ n ∷ []
push_kept m n ks e = filter-append (λ other. not (same_text m other)) ks (n ∷ []) ∙ rw e refl

first_next : (m n : List ℕ) (ks : List (List ℕ))
    → m ∷ without m (cond (list_any (same_text n) ks) ks (ks ++ n ∷ []))
    ≡ cond (list_any (same_text n) (m ∷ without m ks)) (m ∷ without m ks) (m ∷ without m ks ++ n ∷ [])
first_next m n ks =
    by_bool (same_text n m)
    (λ here.
    rw here
    (by_bool (list_any (same_text n) ks) (λ e. rw e refl)
    (λ e. rw e (ap (λ xs. m ∷ xs) (push_gone m n ks (same_text-turned n m true here))))))
    (λ there.
    rw (there, any_without m n ks there)
    (by_bool (list_any (same_text n) ks) (λ e. rw e refl)
    (λ e. rw e (ap (λ xs. m ∷ xs) (push_kept m n ks (same_text-turned n m false there))))))

-- a currency more stands behind the others, unless it is among them
pub first_more : (names : List (List ℕ)) (n : List ℕ)
    → first_appearances (names ++ n ∷ [])
    ≡ cond (list_any (same_text n) (first_appearances names)) (first_appearances names) (first_appearances names ++ n ∷ [])
first_more [] n = refl
first_more (m ∷ names) n = ap (λ ks. m ∷ without m ks) (first_more names n) ∙ first_next m n (first_appearances names)

beside_more : (f : List ℕ → ℤ) (n : List ℕ) (ks : List (List ℕ))
    → beside f (cond (list_any (same_text n) ks) ks (ks ++ n ∷ [])) ≡ with_new (beside f ks) (n, f n)
beside_more f n ks =
    let same = any_beside n f ks in
    by_bool (list_any (same_text n) ks)
    (λ e. rw (same, e) refl)
    (λ e. rw (same, e) (map-append (λ (m : List ℕ). (m, f m)) ks (n ∷ [])))

-- ---- the postings so far

abbrev so_far : (List ℕ → ℤ) → List Posting → List (List ℕ × ℤ)
so_far f postings = beside f (currencies (parts_in postings))

part_more : (xs : List Posting) (x : Posting) → parts_in (xs ++ x ∷ []) ≡ parts_in xs ++ part_at x.amount
part_more xs x =
    flat_map-append (λ (p : Posting). part_at p.amount) xs (x ∷ []) ∙ ap (λ ws. parts_in xs ++ ws) (append-nil (part_at x.amount))

module _ (xs : List Posting) (i : ℕ) (x : Posting) (below : i < length xs) (item : x ≡ get_or xs i x) where
  parts_next : parts_in (take (i + 1) xs) ≡ parts_in (take i xs) ++ part_at x.amount
  parts_next = ap parts_in (next_taken xs i x below item) ∙ part_more (take i xs) x

  -- what they make up for in a currency
  pub sum_next : (currency : List ℕ) (sum part : ℤ) → sum ≡ sum_in (parts_in (take i xs)) currency → part ≡ sum_in (part_at x.amount) currency
      → sum +ℤ part ≡ sum_in (parts_in (take (i + 1) xs)) currency
  sum_next currency sum part so_far more =
      ap (λ z. z +ℤ part) so_far ∙ ap (λ z. sum_in (parts_in (take i xs)) currency +ℤ z) more
      ∙ sym (ap (λ ws. sum_in ws currency) parts_next ∙ sum_in-append (parts_in (take i xs)) (part_at x.amount) currency)

  module _ (f : List ℕ → ℤ) where
    -- a posting with an amount
    pub crumbs_next : (amount : Amount) → x.amount ≡ Some amount
        → so_far f (take (i + 1) xs) ≡ with_new (so_far f (take i xs)) (amount.commodity, f amount.commodity)
    crumbs_next amount is =
        let w : List ℕ × ℤ = (amount.commodity, part_of amount.units amount.price) in
        let parts : parts_in (take (i + 1) xs) ≡ parts_in (take i xs) ++ w ∷ [] = parts_next ∙ ap (λ a. parts_in (take i xs) ++ part_at a) is in
        ap (λ ws. beside f (currencies ws)) parts
        ∙ ap (λ names. beside f (first_appearances names)) (map-append name_of (parts_in (take i xs)) (w ∷ []))
        ∙ ap (beside f) (first_more (map name_of (parts_in (take i xs))) amount.commodity)
        ∙ beside_more f amount.commodity (currencies (parts_in (take i xs)))

    -- an elided one
    pub crumbs_same : x.amount ≡ None → so_far f (take (i + 1) xs) ≡ so_far f (take i xs)
    crumbs_same is =
        ap (λ ws. beside f (currencies ws))
        (parts_next ∙ ap (λ a. parts_in (take i xs) ++ part_at a) is ∙ append-nil (parts_in (take i xs)))

-- ---- what the postings of a crumb make up for

abbrev IsFew : List ℕ × ℤ → Type 0
IsFew c = unsigned_abs c.1 ≤ most_of_crumb

whole_few : (crumb : ℤ) → unsigned_abs crumb ≤ most_of_crumb → unsigned_abs (whole_of crumb) ≤ one
whole_few (pos n) few = omega (arith, ints)
whole_few (negsuc n) few = omega (arith, ints)

speck_few : (crumb : ℤ) → unsigned_abs (speck_of crumb) ≤ 1
speck_few (pos n) = rw (no_sign n) (omega arith)
speck_few (negsuc n) = omega (arith, ints)

-- whole units are in range
pub few_in_range : (crumb : ℤ) → unsigned_abs crumb ≤ most_of_crumb → IsUnits (whole_of crumb)
few_in_range crumb few = let small = whole_few crumb few in omega (arith, small)

passes : (n m : ℕ) → n ≤ m → nat_le n m ≡ true
passes n m le = grind (arith, nat_tests)

same_whole : (account currency : List ℕ) (units : ℤ) → unsigned_abs units ≤ one
    → parts_in (part_posting account currency units None) ≡ weights_at (part_posting account currency units None)
same_whole account currency units few =
    by_bool (int_eq units (pos 0))
    (λ e. rw e refl)
    (λ e. rw e (ap (λ b. (currency, cond b (units *ℤ pos one) (pos 0)) ∷ []) (passes (unsigned_abs units) one few)))

same_rest : (account currency : List ℕ) (units : ℤ) (rate : ℕ) → unsigned_abs units ≤ 1
    → parts_in (part_posting account currency units (Some rate)) ≡ weights_at (part_posting account currency units (Some rate))
same_rest account currency units rate few =
    by_bool (nat_eq rate 0)
    (λ e. rw e refl)
    (λ e. rw e (ap (λ b. (currency, cond b (units *ℤ pos rate) (pos 0)) ∷ []) (passes (unsigned_abs units) 1 few)))

abbrev weight_by : Posting → List (List ℕ × ℤ)
weight_by p = weight_at p.amount

abbrev part_by : Posting → List (List ℕ × ℤ)
part_by p = part_at p.amount

same_crumb : (account : List ℕ) (c : List ℕ × ℤ) → IsFew c → parts_in (crumb_postings account c) ≡ weights_at (crumb_postings account c)
same_crumb account c few =
    let first = part_posting account c.0 (whole_of c.1) None in
    let second = part_posting account c.0 (speck_of c.1) (Some (rest_of c.1)) in
    flat_map-append part_by first second
    ∙ ap (λ ws. ws ++ parts_in second) (same_whole account c.0 (whole_of c.1) (whole_few c.1 few))
    ∙ ap (λ ws. weights_at first ++ ws) (same_rest account c.0 (speck_of c.1) (rest_of c.1) (speck_few c.1))
    ∙ sym (flat_map-append weight_by first second)

-- they make up for what they weigh
same_parts : (account : List ℕ) (cs : List (List ℕ × ℤ)) → AllByRecursion IsFew cs
    → parts_in (flat_map (crumb_postings account) cs) ≡ weights_at (flat_map (crumb_postings account) cs)
same_parts account [] few = refl
same_parts account (c ∷ cs) few =
    let more = flat_map (crumb_postings account) cs in
    flat_map-append part_by (crumb_postings account c) more
    ∙ ap (λ ws. ws ++ parts_in more) (same_crumb account c few.0)
    ∙ ap (λ ws. weights_at (crumb_postings account c) ++ ws) (same_parts account cs few.1)
    ∙ sym (flat_map-append weight_by (crumb_postings account c) more)

-- ---- in which currencies

-- a crumb is zero where nothing is left of it
zero_parts : (crumb : ℤ) → is_zero crumb ≡ (int_eq (whole_of crumb) (pos 0) && nat_eq (rest_of crumb) 0)
zero_parts (pos n) = grind (arith, ints, nat_tests)
zero_parts (negsuc n) = grind (arith, ints, nat_tests)

without_absent : (n : List ℕ) (ks : List (List ℕ)) → list_any (same_text n) ks ≡ false → without n ks ≡ ks
without_absent n [] none = refl
without_absent n (k ∷ ks) none =
    by_bool (same_text n k)
    (λ e. let yes : true ≡ false = sym (ap (λ b. b || list_any (same_text n) ks) e) ∙ none in absurd cc)
    (λ e. rw e (ap (λ rest. k ∷ rest) (without_absent n ks (sym (ap (λ b. b || list_any (same_text n) ks) e) ∙ none))))

module _ (account currency : List ℕ) (whole speck : ℤ) (rest : ℕ) (ws : List (List ℕ × ℤ)) (none : list_any (same_text currency) (currencies ws) ≡ false) where
  abbrev first : Posting
  first = posting_in account currency whole None

  abbrev second : Posting
  second = posting_in account currency speck (price_in currency (Some rest))

  once : without currency (currencies ws) ≡ currencies ws
  once = without_absent currency (currencies ws) none

  twice : currency ∷ without currency (currency ∷ without currency (currencies ws)) ≡ currency ∷ currencies ws
  twice = rw (same_text-itself currency) (ap (λ ks. currency ∷ ks) (ap (without currency) once ∙ once))

  named : (no_whole no_rest : Bool)
      → currencies (weights_at (cond no_whole [] (first ∷ []) ++ cond no_rest [] (second ∷ [])) ++ ws)
      ≡ cond (no_whole && no_rest) (currencies ws) (currency ∷ currencies ws)
  named true true = refl
  named true false = ap (λ ks. currency ∷ ks) once
  named false true = ap (λ ks. currency ∷ ks) once
  named false false = twice

  names_more : currencies (weights_at (part_posting account currency whole None ++ part_posting account currency speck (Some rest)) ++ ws)
      ≡ cond (int_eq whole (pos 0) && nat_eq rest 0) (currencies ws) (currency ∷ currencies ws)
  names_more = named (int_eq whole (pos 0)) (nat_eq rest 0)

any_named : (n : List ℕ) (cs : List (List ℕ × ℤ)) → list_any (same_text n) (map name_of cs) ≡ list_any (λ (d : List ℕ × ℤ). same_text n d.0) cs
any_named n [] = refl
any_named n (c ∷ cs) = ap (λ b. same_text n c.0 || b) (any_named n cs)

-- those of the crumbs that aren't zero
read_names : (account : List ℕ) (cs : List (List ℕ × ℤ)) → AreApart cs
    → currencies (weights_at (flat_map (crumb_postings account) cs)) ≡ map name_of (left_over cs)
read_names account [] apart = refl
read_names account (c ∷ cs) apart =
    let more = flat_map (crumb_postings account) cs in
    let names = map name_of (left_over cs) in
    let rest : currencies (weights_at more) ≡ names = read_names account cs apart.1 in
    let none : list_any (same_text c.0) (currencies (weights_at more)) ≡ false =
    ap (list_any (same_text c.0)) rest ∙ any_named c.0 (left_over cs)
    ∙ none_fewer (λ (d : List ℕ × ℤ). same_text c.0 d.0) (λ (d : List ℕ × ℤ). not (is_zero d.1)) cs apart.0 in
    ap currencies (flat_map-append weight_by (crumb_postings account c) more)
    ∙ names_more account c.0 (whole_of c.1) (speck_of c.1) (rest_of c.1) (weights_at more) none
    ∙ ap (λ b. cond b (currencies (weights_at more)) (c.0 ∷ currencies (weights_at more))) (sym (zero_parts c.1))
    ∙ by_bool (is_zero c.1) (λ e. rw e rest) (λ e. rw e (ap (λ ks. c.0 ∷ ks) rest))

-- ---- they are read back

beside_own : (f : List ℕ → ℤ) (cs : List (List ℕ × ℤ)) → AllByRecursion (λ (c : List ℕ × ℤ). f c.0 ≡ c.1) cs → beside f (map name_of cs) ≡ cs
beside_own f [] own = refl
beside_own f (c ∷ cs) own = ap (λ z. (c.0, z) ∷ beside f (map name_of cs)) own.0 ∙ ap (λ rest. c ∷ rest) (beside_own f cs own.1)

few_all : (postings : List Posting) (cs : List (List ℕ × ℤ)) → list_all (may_be_taken postings) cs ≡ true → AllByRecursion IsFew cs
few_all postings [] taken = tt
few_all postings (c ∷ cs) taken = (grind (arith, nat_tests, taken), few_all postings cs (grind (arith, taken)))

-- the crumbs that aren't zero
pub read_back : (account : List ℕ) (postings : List Posting) (cs : List (List ℕ × ℤ)) → AreApart cs → list_all (may_be_taken postings) cs ≡ true
    → crumbs_behind (flat_map (crumb_postings account) cs) ≡ left_over cs
read_back account postings cs apart taken =
    let ws = weights_at (flat_map (crumb_postings account) cs) in
    let sums : AllByRecursion (λ (c : List ℕ × ℤ). sum_in ws c.0 ≡ c.1) (left_over cs) =
    fewer_all (λ (c : List ℕ × ℤ). sum_in ws c.0 ≡ c.1) (λ (c : List ℕ × ℤ). not (is_zero c.1)) cs
    (all_both (λ (c : List ℕ × ℤ). sum_in cs c.0 ≡ c.1) (λ (c : List ℕ × ℤ). sum_in cs c.0 ≡ c.1) (λ (c : List ℕ × ℤ). sum_in ws c.0 ≡ c.1)
    (λ c own same. crumbs_weigh account cs c.0 ∙ own) cs (own_sums cs apart) (own_sums cs apart)) in
    ap residuals (same_parts account cs (few_all postings cs taken))
    ∙ ap (beside (sum_in ws)) (read_names account cs apart)
    ∙ beside_own (sum_in ws) (left_over cs) sums

-- ---- and so are their postings

zero_none : (account : List ℕ) (c : List ℕ × ℤ) → is_zero c.1 ≡ true → crumb_postings account c ≡ []
zero_none account c is = let zero : c.1 ≡ pos 0 = grind (arith, ints) in ap (λ z. crumb_postings account (c.0, z)) zero

-- a crumb of zero has none
skips_zero : (account : List ℕ) (cs : List (List ℕ × ℤ)) → flat_map (crumb_postings account) (left_over cs) ≡ flat_map (crumb_postings account) cs
skips_zero account [] = refl
skips_zero account (c ∷ cs) =
    let rest = skips_zero account cs in
    by_bool (is_zero c.1)
    (λ e. rw e (rest ∙ ap (λ ps. ps ++ flat_map (crumb_postings account) cs) (sym (zero_none account c e))))
    (λ e. rw e (ap (λ ps. crumb_postings account c ++ ps) rest))

abbrev IsOf : List ℕ → Posting → Type 0
IsOf account p = p.account ≡ account

cond_of : (account : List ℕ) (b : Bool) (p : Posting) (more : List Posting) → p.account ≡ account → AllByRecursion (IsOf account) more
    → AllByRecursion (IsOf account) (cond b [] (p ∷ []) ++ more)
cond_of account true p more is all = all
cond_of account false p more is all = (is, all)

crumbs_of_one : (account : List ℕ) (cs : List (List ℕ × ℤ)) → AllByRecursion (IsOf account) (flat_map (crumb_postings account) cs)
crumbs_of_one account [] = tt
crumbs_of_one account (c ∷ cs) =
    let more = flat_map (crumb_postings account) cs in
    let first = part_posting account c.0 (whole_of c.1) None in
    let second = part_posting account c.0 (speck_of c.1) (Some (rest_of c.1)) in
    subst (AllByRecursion (IsOf account)) (sym (append_assoc first second more))
    (cond_of account (int_eq (whole_of c.1) (pos 0)) (posting_in account c.0 (whole_of c.1) None) (second ++ more) refl
    (cond_of account (nat_eq (rest_of c.1) 0) (posting_in account c.0 (speck_of c.1) (price_in c.0 (Some (rest_of c.1)))) more refl (crumbs_of_one account cs)))

made_of_one : (account : List ℕ) (ps : List Posting) (crumbs : List (List ℕ × ℤ)) → AllByRecursion (IsOf account) ps
    → flat_map (crumb_postings account) crumbs ≡ ps → made_by ps crumbs ≡ ps
made_of_one account [] crumbs of_one is = refl
made_of_one account (p ∷ ps) crumbs of_one is = ap (λ a. flat_map (crumb_postings a) crumbs) of_one.0 ∙ is

pub made_again : (account : List ℕ) (postings : List Posting) (cs : List (List ℕ × ℤ)) → AreApart cs → list_all (may_be_taken postings) cs ≡ true
    → made_by (flat_map (crumb_postings account) cs) (crumbs_behind (flat_map (crumb_postings account) cs)) ≡ flat_map (crumb_postings account) cs
made_again account postings cs apart taken =
    let ps = flat_map (crumb_postings account) cs in
    ap (made_by ps) (read_back account postings cs apart taken)
    ∙ made_of_one account ps (left_over cs) (crumbs_of_one account cs) (skips_zero account cs)

-- what is read may have been taken
all_fewer : {X : Type 0} (q p : X → Bool) (xs : List X) → list_all q xs ≡ true → list_all q (filter p xs) ≡ true
all_fewer q p [] all = refl
all_fewer q p (x ∷ xs) all =
    by_bool (q x)
    (λ e.
    let rest = all_fewer q p xs (sym (ap (λ b. b && list_all q xs) e) ∙ all) in
    by_bool (p x) (λ kept. rw (kept, e) rest) (λ gone. rw gone rest))
    (λ e. let no : false ≡ true = sym (ap (λ b. b && list_all q xs) e) ∙ all in absurd cc)

pub read_taken : (account : List ℕ) (postings : List Posting) (cs : List (List ℕ × ℤ)) → AreApart cs → list_all (may_be_taken postings) cs ≡ true
    → list_all (may_be_taken postings) (crumbs_behind (flat_map (crumb_postings account) cs)) ≡ true
read_taken account postings cs apart taken =
    ap (list_all (may_be_taken postings)) (read_back account postings cs apart taken)
    ∙ all_fewer (may_be_taken postings) (λ (c : List ℕ × ℤ). not (is_zero c.1)) cs taken

-- ---- what is read of any postings

pub read_apart : (postings : List Posting) → AreApart (crumbs_behind postings)
read_apart postings = apart_all (parts_in postings)

pub made_of_some : (postings : List Posting)
    → (account : List ℕ) × (made_by postings (crumbs_behind postings) ≡ flat_map (crumb_postings account) (crumbs_behind postings))
made_of_some [] = ([], refl)
made_of_some (p ∷ ps) = (p.account, refl)

-- whole units of what may be taken are in range
pub taken_in_range : (postings : List Posting) (cs : List (List ℕ × ℤ)) → list_all (may_be_taken postings) cs ≡ true
    → AllByRecursion (λ (c : List ℕ × ℤ). IsUnits (whole_of c.1)) cs
taken_in_range postings cs taken =
    let few = few_all postings cs taken in
    all_both IsFew IsFew (λ (c : List ℕ × ℤ). IsUnits (whole_of c.1)) (λ c small same. few_in_range c.1 small) cs few few
