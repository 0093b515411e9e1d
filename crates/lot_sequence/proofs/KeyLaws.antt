-- The laws of keys: those of a day are of the day alone, and they differ but for digests that agree.
use Rattle.std.specs.Prelude.{◌≡◌, ℕ, zero, suc, ◌+◌, ◌<◌, ◌≤◌, ◌^◌, Bool, true, false, ◌&&◌, cond, List, [], ◌∷◌, ◌++◌, length, map, take, ℤ}
use Rattle.std.specs.Cmp.{signed_Decides}
use Rattle.std.specs.List.{AllByRecursion, count_by, filter, sum_by}
use Rattle.std.specs.Ordering.{int_eq}
use Rattle.std.proofs.Common.{arith, ap, append_assoc, append-nil, get_or, refl, sym, subst, ◌∙◌}
use Rattle.std.proofs.lemmas.Bool.{true≢false}
use Rattle.std.proofs.lemmas.List.{length-take-le}
use Rattle.std.proofs.lemmas.List.Elements.{filter-append}
use Rattle.std.proofs.lemmas.List.Sums.{count_by-le-length, count_by_more_yes, sum_by-cons}
use Rattle.lot_base.specs.Day.{IsDayNumber}
use Rattle.lot_base.specs.Name.{is_label}
use Rattle.lot_base.proofs.TextLemmas.{same_text-itself}
use Rattle.lot_sequence.specs.Key.{KeysAreOfTheDay, KeysDiffer, Said, as_key, full_key, full_key_at, full_key_of, is_same, keys_behind, keys_on, occurrence, short_digest, texts_on}
use Rattle.lot_sequence.proofs.CountLemmas.{one_said}
use Rattle.lot_sequence.proofs.TextLemmas.{no_digest, one_full_key}

-- ---- Keys are of the day.

module _ (day : ℤ) where
  abbrev on : List Said → List Said
  on rows = filter (λ row. int_eq row.0 day) rows

  of_day : (row : Said) → row.0 ≡ day → int_eq row.0 day ≡ true
  of_day row is = (signed_Decides row.0 day).1 is

  zero_plus : (n : ℕ) → n ≡ 0 + n
  zero_plus n = omega arith

  -- one row more, of the day or not
  passed : (b : Bool) (test : Bool) (n m : ℕ) → (test ≡ true → b ≡ true) → n ≡ m → (row : Said) (rows : List Said) (f : Said → ℕ) → f row ≡ cond test 1 0 → sum_by f rows ≡ n
      → sum_by f (cond b (row ∷ rows) rows) ≡ cond test 1 0 + m
  passed true test n m within same row rows f is all = sum_by-cons f row rows ∙ (λ i. is i + all i) ∙ ap (λ k. cond test 1 0 + k) same
  passed false true n m within same row rows f is all = absurd (true≢false (sym (within refl)))
  passed false false n m within same row rows f is all = all ∙ same ∙ zero_plus m

  counted_on : (row : Said) → row.0 ≡ day → (before : List Said) → count_by (λ other. is_same other row) (on before) ≡ count_by (λ other. is_same other row) before
  counted_on row is [] = refl
  counted_on row is (other ∷ before) =
      passed (int_eq other.0 day) (is_same other row) (count_by (λ one. is_same one row) (on before)) (count_by (λ one. is_same one row) before)
      (λ same. of_day other (ap (λ (said : Said). said.0) (one_said other row same) ∙ is)) (counted_on row is before)
      other (on before) (λ one. cond (is_same one row) 1 0) refl refl
      ∙ sym (sum_by-cons (λ one. cond (is_same one row) 1 0) other before)

  abbrev key_behind : List Said → Said → List ℕ
  key_behind before row = as_key (full_key_of before row)

  picked : (b : Bool) (row : Said) → int_eq row.0 day ≡ b → (before rows : List Said) (keys : List (List ℕ)) → keys ≡ keys_behind (on (before ++ row ∷ [])) (on rows)
      → cond b (key_behind before row ∷ keys) keys ≡ keys_behind (on before) (cond b (row ∷ on rows) (on rows))
  picked true row is before rows keys more =
      let same : occurrence (on before) row ≡ occurrence before row = ap (λ n. n + 1) (counted_on row ((signed_Decides row.0 day).0 is) before) in
      let all : on (before ++ row ∷ []) ≡ on before ++ row ∷ [] =
      filter-append (λ (one : Said). int_eq one.0 day) before (row ∷ []) ∙ ap (λ (b : Bool). on before ++ cond b (row ∷ []) []) is in
      (λ i. as_key (full_key row.0 (sym same i) row.1) ∷ (more ∙ ap (λ (earlier : List Said). keys_behind earlier (on rows)) all) i)
  picked false row is before rows keys more =
      let all : on (before ++ row ∷ []) ≡ on before =
      filter-append (λ (one : Said). int_eq one.0 day) before (row ∷ []) ∙ ap (λ (b : Bool). on before ++ cond b (row ∷ []) []) is ∙ append-nil (on before) in
      more ∙ ap (λ (earlier : List Said). keys_behind earlier (on rows)) all

  keys_on-behind : (before rows : List Said) → keys_on day rows (keys_behind before rows) ≡ keys_behind (on before) (on rows)
  keys_on-behind before [] = refl
  keys_on-behind before (row ∷ rows) =
      picked (int_eq row.0 day) row refl before rows (keys_on day rows (keys_behind (before ++ row ∷ []) rows)) (keys_on-behind (before ++ row ∷ []) rows)

  -- rows of a day are told by their texts
  told : (b : Bool) (row : Said) → int_eq row.0 day ≡ b → (rows : List Said) → rows ≡ map (λ text. (day, text)) (map (λ (one : Said). one.1) rows)
      → cond b (row ∷ rows) rows ≡ map (λ text. (day, text)) (map (λ (one : Said). one.1) (cond b (row ∷ rows) rows))
  told true row is rows more = let same : row.0 ≡ day = (signed_Decides row.0 day).0 is in (λ i. (same i, row.1) ∷ more i)
  told false row is rows more = more

  on_told : (rows : List Said) → on rows ≡ map (λ text. (day, text)) (texts_on day rows)
  on_told [] = refl
  on_told (row ∷ rows) = told (int_eq row.0 day) row refl (on rows) (on_told rows)

pub of_the_day : KeysAreOfTheDay
of_the_day day rows others same =
    keys_on-behind day [] rows
    ∙ ap (λ (said : List Said). keys_behind [] said) (on_told day rows ∙ ap (λ (texts : List (List ℕ)). map (λ text. (day, text)) texts) same ∙ sym (on_told day others))
    ∙ sym (keys_on-behind day [] others)

-- ---- Keys differ.

module _ {X : Type 0} (p : X → Bool) where
  -- more rows count no less
  count_grows : (xs : List X) (i j : ℕ) → i ≤ j → count_by p (take i xs) ≤ count_by p (take j xs)
  count_grows xs zero j h = omega arith
  count_grows [] (suc i) j h = omega arith
  count_grows (x ∷ xs) (suc i) zero h = absurd (omega arith)
  count_grows (x ∷ xs) (suc i) (suc j) h =
      let more = count_grows xs i j (omega arith) in
      let one = sum_by-cons (λ y. cond (p y) 1 0) x (take i xs) in
      let two = sum_by-cons (λ y. cond (p y) 1 0) x (take j xs) in
      omega (arith, more, one, two)

key_at : (before rows : List Said) (place : ℕ) (d : Said) → place < length rows
    → get_or (keys_behind before rows) place [] ≡ as_key (full_key_of (before ++ take place rows) (get_or rows place d))
key_at before [] place d within = absurd (omega arith)
key_at before (row ∷ rows) zero d within = ap (λ all. as_key (full_key_of all row)) (sym (append-nil before))
key_at before (row ∷ rows) (suc place) d within =
    key_at (before ++ row ∷ []) rows place d (omega arith)
    ∙ ap (λ all. as_key (full_key_of all (get_or rows place d))) (append_assoc before (row ∷ []) (take place rows))

good_at : (rows : List Said) (place : ℕ) (d : Said) → AllByRecursion (λ row. IsDayNumber row.0) rows → place < length rows → IsDayNumber (get_or rows place d).0
good_at [] place d all within = absurd (omega arith)
good_at (row ∷ rows) zero d all within = all.0
good_at (row ∷ rows) (suc place) d all within = good_at rows place d all.1 (omega arith)

-- the key of one of two texts is its digest where that of the other is
by_label : (b c : Bool) (one two first second : List ℕ) → (one ≡ second → ⊥) → (two ≡ first → ⊥) → (one ≡ two → ⊥)
    → cond b one first ≡ cond c two second → first ≡ second
by_label true true one two first second never none differ same = absurd (differ same)
by_label true false one two first second never none differ same = absurd (never same)
by_label false true one two first second never none differ same = absurd (none (sym same))
by_label false false one two first second never none differ same = same

small_number : (before : List Said) (row : Said) (most : ℕ) → length before < most → most < 2 ^ 64 → occurrence before row < 2 ^ 64
small_number before row most less small = let few = count_by-le-length (λ other. is_same other row) before in omega (arith, few)

same_itself : (row : Said) → is_same row row ≡ true
same_itself row = let day = (signed_Decides row.0 row.0).1 refl in let text = same_text-itself row.1 in λ i. day i && text i

pub differ : KeysDiffer
differ rows d good small i j before within same =
    let here : Said = get_or rows i d in
    let there : Said = get_or rows j d in
    let shorter : length (take i rows) ≡ i = length-take-le i rows (omega arith) in
    let longer : length (take j rows) ≡ j = length-take-le j rows (omega arith) in
    let apart : full_key_at rows i d ≡ full_key_at rows j d → ⊥ = λ one.
    let parts = one_full_key here.0 (occurrence (take i rows) here) here.1 there.0 (occurrence (take j rows) there) there.1
    (good_at rows i d good (omega arith)) (good_at rows j d good within)
    (small_number (take i rows) here (length rows) (omega arith) small) (small_number (take j rows) there (length rows) (omega arith) small) one in
    let said : here ≡ there = λ k. (parts.one_day k, parts.one_text k) in
    let itself : is_same here there ≡ true = subst (λ (other : Said). is_same here other ≡ true) said (same_itself here) in
    let more = count_by_more_yes (λ other. is_same other there) rows i d (omega arith) itself in
    let grows = count_grows (λ other. is_same other there) rows (i + 1) j (omega arith) in
    let number : occurrence (take i rows) there ≡ occurrence (take j rows) there = ap (λ (other : Said). occurrence (take i rows) other) (sym said) ∙ parts.one_number in
    omega (arith, more, grows, number) in
    let keys : as_key (full_key_at rows i d) ≡ as_key (full_key_at rows j d) =
    sym (key_at [] rows i d (omega arith)) ∙ same ∙ key_at [] rows j d within in
    record {
      differ = apart;
      one = by_label (is_label (full_key_at rows i d)) (is_label (full_key_at rows j d)) (full_key_at rows i d) (full_key_at rows j d)
          (short_digest (full_key_at rows i d)) (short_digest (full_key_at rows j d))
          (no_digest here.0 (occurrence (take i rows) here) here.1 (full_key_at rows j d))
          (no_digest there.0 (occurrence (take j rows) there) there.1 (full_key_at rows i d)) apart keys;
    }
