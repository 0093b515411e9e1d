-- The rows and the legs of a posting of an entry, among those of the entry and among all.
use Rattle.std.specs.Prelude.{◌≡◌, ◌≤◌, ◌==◌, ◌&&◌, ℕ, suc, pos, ℤ, Bool, true, false, cond, List, [], ◌∷◌, ◌++◌, filter, length}
use Rattle.std.specs.List.{AllByRecursion}
use Rattle.std.specs.Ordering.{int_eq, is_eq}
use Rattle.std.specs.declared.cmp.Ordering.TheVariants.{Equal}
use Rattle.std.proofs.Common.{refl, sym, ap, subst, ◌∙◌, arith, append_assoc}
use Rattle.std.proofs.Math.Bool.{and-true}
use Rattle.std.proofs.lemmas.Bool.Decides.{Decides-eqb, Decides-int_eq, same_from_decides}
use Rattle.std.proofs.lemmas.List.Elements.{filter-append}
use Rattle.std.proofs.lemmas.List.{append-nil}
use Rattle.sqlite.specs.Order.{Row}
use Rattle.sqlite.specs.declared.types.Value.TheVariants.{Int, Text}
use Rattle.sqlite_keyed.proofs.ListLemmas.{all-append, all_weaker, filter_none}
use Rattle.sqlite_value.proofs.OrderLemmas.{value_cmp-Int}
use Rattle.sqlite_value.specs.Order.{value_cmp}
use Rattle.lot_cost.proofs.OrderLemmas.{eq_then}
use Rattle.lot_book.specs.Book.{ContinuesIn, IsBookIn}
use Rattle.lot_book.specs.Edition.{Migration, edition_on, ties_in}
use Rattle.lot_book.specs.Facts.{Entry, facts_of, legs_of}
use Rattle.lot_book.specs.declared.leg.Leg.{Leg}
use Rattle.lot_laws.proofs.LawBooks.{accepted, begun, continued}
use Rattle.lot_rows.specs.Leg.{leg_cells}
use Rattle.lot_rows.specs.LotKey.{cost_currency, cost_day, cost_label, cost_number}
use Rattle.lot_rows.specs.declared.leg.LegRow.{LegRow}
use Rattle.lot_table.specs.Rows.{has_key, with_key}
use Rattle.lot_stored.specs.Kept.{is_of_posting, legs_of_posting}
use Rattle.lot_stored.specs.Rows.{posting_key}
use Rattle.lot_stored.proofs.KeyLemmas.{has_posting}
use Rattle.lot_stored.proofs.NumberLemmas.{numbered_legs, one_longer, own_legs}
use Rattle.lot_audit.specs.Legs.{legs_at, rows_of}

-- ---- rows

pos_one : (m n : ℕ) → ◌≡◌ {A = ℤ} (pos m) (pos n) → m ≡ n
pos_one m n e = cc

-- whether a row begins with a number
pub has_number : (number other : ℕ) (rest : Row) → has_key 1 (Int (pos number) ∷ []) (Int (pos other) ∷ rest) ≡ (other == number)
has_number number other rest =
    eq_then (value_cmp (Int (pos other)) (Int (pos number))) Equal
    ∙ and-true (is_eq (value_cmp (Int (pos other)) (Int (pos number))))
    ∙ ap is_eq (value_cmp-Int (pos other) (pos number))
    ∙ same_from_decides (int_eq (pos other) (pos number)) (other == number) (
      (λ e. pos_one other number ((Decides-int_eq (pos other) (pos number)).0 e)),
      (λ e. (Decides-int_eq (pos other) (pos number)).1 (ap pos e)),
    )
    (Decides-eqb other number)

filter_twice : {X : Type 0} (p q both : X → Bool) → ((x : X) → both x ≡ (p x && q x)) → (xs : List X)
    → filter both xs ≡ filter q (filter p xs)
filter_twice p q both is [] = refl
filter_twice p q both is (x ∷ xs) = by (p x) refl (q x) refl (filter_twice p q both is xs)
  where
    by : (a : Bool) → p x ≡ a → (b : Bool) → q x ≡ b → filter both xs ≡ filter q (filter p xs)
        → filter both (x ∷ xs) ≡ filter q (cond a (x ∷ filter p xs) (filter p xs))
    by true here true there rest =
        ap (λ (c : Bool). cond c (x ∷ filter both xs) (filter both xs)) (is x ∙ (λ i. here i && there i))
        ∙ ap (λ (l : List _). x ∷ l) rest
        ∙ sym (ap (λ (c : Bool). cond c (x ∷ filter q (filter p xs)) (filter q (filter p xs))) there)
    by true here false there rest =
        ap (λ (c : Bool). cond c (x ∷ filter both xs) (filter both xs)) (is x ∙ (λ i. here i && there i))
        ∙ rest
        ∙ sym (ap (λ (c : Bool). cond c (x ∷ filter q (filter p xs)) (filter q (filter p xs))) there)
    by false here b there rest =
        ap (λ (c : Bool). cond c (x ∷ filter both xs) (filter both xs)) (is x ∙ (λ i. here i && there i)) ∙ rest

behind : LegRow → Row
behind row =
    Int (pos row.place) ∷ Text row.account ∷ Text row.commodity ∷ Int row.units ∷ cost_number row.lot ∷ cost_currency row.lot
    ∷ cost_day row.lot ∷ cost_label row.lot ∷ []

-- the rows of a posting are those of its entry, of which some are of the posting
pub of_posting : (number posting : ℕ) (rows : List LegRow) → with_key leg_cells 2 (posting_key number posting) rows
    ≡ rows_of posting (with_key leg_cells 1 (Int (pos number) ∷ []) rows)
of_posting number posting rows =
    filter_twice (λ (row : LegRow). has_key 1 (Int (pos number) ∷ []) (leg_cells row)) (λ (row : LegRow). row.posting == posting)
    (λ (row : LegRow). has_key 2 (posting_key number posting) (leg_cells row))
    (λ (row : LegRow).
    has_posting number posting row.entry row.posting (behind row)
    ∙ ap (λ (b : Bool). b && (row.posting == posting)) (sym (has_number number row.entry (Int (pos row.posting) ∷ behind row))))
    rows

-- ---- legs

-- where all legs are of the entry
pub of_entry : (number posting : ℕ) (legs : List Leg) → AllByRecursion (λ (leg : Leg). leg.entry ≡ number) legs
    → legs_of_posting number posting legs ≡ legs_at posting legs
of_entry number posting [] all = refl
of_entry number posting (leg ∷ legs) all =
    ap (λ (b : Bool). cond (b && (leg.posting == posting)) (leg ∷ legs_of_posting number posting legs) (legs_of_posting number posting legs))
    ((Decides-eqb leg.entry number).1 all.0)
    ∙ ap (λ (l : List Leg). cond (leg.posting == posting) (leg ∷ l) l) (of_entry number posting legs all.1)

of_other : (number posting : ℕ) (leg : Leg) → (leg.entry ≡ number → ⊥) → is_of_posting number posting leg ≡ false
of_other number posting leg apart = by (leg.entry == number) refl
  where
    by : (b : Bool) → (leg.entry == number) ≡ b → (b && (leg.posting == posting)) ≡ false
    by false other = refl
    by true same = absurd (apart ((Decides-eqb leg.entry number).0 same))

later : (migration : Migration) (before entries : List Entry) → ContinuesIn migration before entries
    → AllByRecursion (λ (leg : Leg). suc (length before) ≤ leg.entry) (legs_of entries)
later migration before [] continues = tt
later migration before (entry ∷ entries) continues =
    all-append (λ (leg : Leg). suc (length before) ≤ leg.entry) entry.legs (legs_of entries)
    (all_weaker (λ (leg : Leg). leg.entry ≡ suc (length before)) (λ (leg : Leg). suc (length before) ≤ leg.entry)
    (λ leg is. subst (λ (n : ℕ). suc (length before) ≤ n) (sym is) (omega arith)) entry.legs
    (own_legs (ties_in (edition_on migration before) before) (facts_of before entry.key) entry.command entry.legs
    (accepted (edition_on migration before) before entry.key entry.command entry.legs continues.0).1).0)
    (all_weaker (λ (leg : Leg). suc (length (before ++ entry ∷ [])) ≤ leg.entry) (λ (leg : Leg). suc (length before) ≤ leg.entry)
    (λ leg from. down leg.entry (subst (λ (n : ℕ). suc n ≤ leg.entry) (one_longer before entry) from)) (legs_of entries)
    (later migration (before ++ entry ∷ []) entries continues.1))
  where
    down : (n : ℕ) → suc (suc (length before)) ≤ n → suc (length before) ≤ n
    down n from = omega (arith, from)

legs_of-both : (a b : List Entry) → legs_of (a ++ b) ≡ legs_of a ++ legs_of b
legs_of-both [] b = refl
legs_of-both (entry ∷ a) b =
    ap (λ (l : List Leg). entry.legs ++ l) (legs_of-both a b) ∙ sym (append_assoc entry.legs (legs_of a) (legs_of b))

-- of the legs of all entries those of a posting are its entry's
pub own_postings : (migration : Migration) (before more : List Entry) (entry : Entry) (posting : ℕ)
    → IsBookIn migration (before ++ entry ∷ more)
    → legs_of_posting (suc (length before)) posting (legs_of (before ++ entry ∷ more)) ≡ legs_at posting entry.legs
own_postings migration before more entry posting book =
    let number = suc (length before) in
    let test = is_of_posting number posting in
    let here : ContinuesIn migration before (entry ∷ more) = continued migration [] before (entry ∷ more) book in
    let own = (own_legs (ties_in (edition_on migration before) before) (facts_of before entry.key) entry.command entry.legs
    (accepted (edition_on migration before) before entry.key entry.command entry.legs here.0).1).0 in
    ap (filter test) (legs_of-both before (entry ∷ more))
    ∙ filter-append test (legs_of before) (entry.legs ++ legs_of more)
    ∙ ap (λ (l : List Leg). l ++ filter test (entry.legs ++ legs_of more))
    (filter_none test (legs_of before)
    (all_weaker (λ (leg : Leg). leg.entry ≤ length before) (λ (leg : Leg). test leg ≡ false)
    (λ leg below. of_other number posting leg (λ same. above leg.entry below same)) (legs_of before)
    (numbered_legs migration before (begun migration [] before (entry ∷ more) book))))
    ∙ filter-append test entry.legs (legs_of more)
    ∙ ap (λ (l : List Leg). filter test entry.legs ++ l)
    (filter_none test (legs_of more)
    (all_weaker (λ (leg : Leg). suc (length (before ++ entry ∷ [])) ≤ leg.entry) (λ (leg : Leg). test leg ≡ false)
    (λ leg from. of_other number posting leg
    (λ same. beyond leg.entry (subst (λ (n : ℕ). suc n ≤ leg.entry) (one_longer before entry) from) same)) (legs_of more)
    (later migration (before ++ entry ∷ []) more here.1)))
    ∙ append-nil (filter test entry.legs)
    ∙ of_entry number posting entry.legs own
  where
    above : (n : ℕ) → n ≤ length before → n ≡ suc (length before) → ⊥
    above n below same = omega (arith, below, same)

    beyond : (n : ℕ) → suc (suc (length before)) ≤ n → n ≡ suc (length before) → ⊥
    beyond n from same = omega (arith, from, same)
