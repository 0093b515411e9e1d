-- When a row of a table has a key: exactly where their texts and numbers are the same.
use Rattle.std.specs.Prelude.{◌≡◌, ℕ, suc, ◌<◌, ◌==◌, true, ◌&&◌, List, [], ◌∷◌, Option, Some, None, ℤ, pos}
use Rattle.std.specs.Cmp.{Equal-is}
use Rattle.std.specs.Option.{option_cmp}
use Rattle.std.specs.Ordering.{int_cmp, int_eq, is_eq, nat_cmp, ordering_then}
use Rattle.std.specs.declared.cmp.Ordering.TheVariants.{Less, Equal}
use Rattle.std.proofs.Common.{refl, sym, ap, subst, ◌∙◌, arith, IsTrue}
use Rattle.std.proofs.Math.Bool.{and-true}
use Rattle.std.proofs.lemmas.Bool.{and_parts, true≢false}
use Rattle.std.proofs.lemmas.Bool.Decides.{Decides-eqb, Decides-int_eq, nat_tests, same_from_decides}
use Rattle.std.proofs.lemmas.Cmp.{int_eq_equiv, tied_itself}
use Rattle.std.proofs.lemmas.Int.{ints}
use Rattle.sqlite.specs.Order.{Row}
use Rattle.sqlite.specs.declared.types.Value.TheVariants.{Int, Text}
use Rattle.sqlite.specs.declared.types.Value.{Value}
use Rattle.sqlite_sql.proofs.QueryLemmas.{key_cmp_shift}
use Rattle.sqlite_sql.specs.Query.{key_cmp}
use Rattle.sqlite_value.proofs.OrderLemmas.{then-Equal, value_cmp-Int, value_cmp-Text, value_cmp_total}
use Rattle.sqlite_value.specs.Keys.{rising}
use Rattle.sqlite_value.specs.Order.{value_cmp}
use Rattle.lot_base.specs.Name.{is_label}
use Rattle.lot_base.specs.Text.{same_text, text_cmp}
use Rattle.lot_base.proofs.TextLemmas.{one_text, same_text-ordered}
use Rattle.lot_book.specs.Leg.{position_cmp, same_position}
use Rattle.lot_book.specs.declared.leg.Position.{Position}
use Rattle.lot_book.proofs.OrderLemmas.{exact_positions, positions_total}
use Rattle.lot_cost.specs.declared.lot_key.LotKey.{LotKey}
use Rattle.lot_cost.proofs.OrderLemmas.{eq_then}
use Rattle.lot_table.specs.Cell.{IsLabelOrNone, label_text}
use Rattle.lot_table.specs.Rows.{has_key, key_order}
use Rattle.lot_stored.specs.Rows.{lot_key, name_key, pair_key, posting_key, price_key}
use Rattle.lot_stored.proofs.LookupLemmas.{has_own_key}

-- ---- cells

pub text_tie : (key row : List ℕ) → is_eq (value_cmp (Text row) (Text key)) ≡ same_text key row
text_tie key row = ap is_eq (value_cmp-Text row key) ∙ same_text-ordered row key

int_tie : (key row : ℤ) → is_eq (value_cmp (Int row) (Int key)) ≡ int_eq key row
int_tie key row = ap is_eq (value_cmp-Int row key) ∙ int_eq_equiv.symm row key

pos_one : (m n : ℕ) → ◌≡◌ {A = ℤ} (pos m) (pos n) → m ≡ n
pos_one m n e = cc

nat_tie : (key row : ℕ) → is_eq (value_cmp (Int (pos row)) (Int (pos key))) ≡ (row == key)
nat_tie key row =
    ap is_eq (value_cmp-Int (pos row) (pos key))
    ∙ same_from_decides (int_eq (pos row) (pos key)) (row == key)
    ((λ e. pos_one row key ((Decides-int_eq (pos row) (pos key)).0 e)), (λ e. (Decides-int_eq (pos row) (pos key)).1 (ap pos e)))
    (Decides-eqb row key)

-- ---- keys

pub has_name : (name other : List ℕ) (rest : Row) → has_key 1 (name_key name) (Text other ∷ rest) ≡ same_text name other
has_name name other rest =
    eq_then (value_cmp (Text other) (Text name)) Equal ∙ and-true (is_eq (value_cmp (Text other) (Text name))) ∙ text_tie name other

pub has_pair : (account commodity other what : List ℕ) (rest : Row)
    → has_key 2 (pair_key account commodity) (Text other ∷ Text what ∷ rest) ≡ (same_text account other && same_text commodity what)
has_pair account commodity other what rest =
    eq_then (value_cmp (Text other) (Text account)) (ordering_then (value_cmp (Text what) (Text commodity)) Equal)
    ∙ ap (λ b. b && is_eq (ordering_then (value_cmp (Text what) (Text commodity)) Equal)) (text_tie account other)
    ∙ ap (λ b. same_text account other && b)
    (eq_then (value_cmp (Text what) (Text commodity)) Equal ∙ and-true (is_eq (value_cmp (Text what) (Text commodity))) ∙ text_tie commodity what)

pub has_price : (base quote : List ℕ) (day : ℤ) (other against : List ℕ) (on : ℤ) (rest : Row)
    → has_key 3 (price_key base quote day) (Text other ∷ Text against ∷ Int on ∷ rest)
    ≡ (same_text base other && (same_text quote against && int_eq day on))
has_price base quote day other against on rest =
    let last = ordering_then (value_cmp (Int on) (Int day)) Equal in
    let later = ordering_then (value_cmp (Text against) (Text quote)) last in
    eq_then (value_cmp (Text other) (Text base)) later
    ∙ ap (λ b. b && is_eq later) (text_tie base other)
    ∙ ap (λ b. same_text base other && b)
    (eq_then (value_cmp (Text against) (Text quote)) last
    ∙ ap (λ b. b && is_eq last) (text_tie quote against)
    ∙ ap (λ b. same_text quote against && b)
    (eq_then (value_cmp (Int on) (Int day)) Equal ∙ and-true (is_eq (value_cmp (Int on) (Int day))) ∙ int_tie day on))

pub has_posting : (entry posting other place : ℕ) (rest : Row)
    → has_key 2 (posting_key entry posting) (Int (pos other) ∷ Int (pos place) ∷ rest) ≡ ((other == entry) && (place == posting))
has_posting entry posting other place rest =
    eq_then (value_cmp (Int (pos other)) (Int (pos entry))) (ordering_then (value_cmp (Int (pos place)) (Int (pos posting))) Equal)
    ∙ ap (λ b. b && is_eq (ordering_then (value_cmp (Int (pos place)) (Int (pos posting))) Equal)) (nat_tie entry other)
    ∙ ap (λ b. (other == entry) && b)
    (eq_then (value_cmp (Int (pos place)) (Int (pos posting))) Equal ∙ and-true (is_eq (value_cmp (Int (pos place)) (Int (pos posting))))
    ∙ nat_tie posting place)

-- ---- keys of lots

label_is_some : (label : List ℕ) → IsTrue (is_label label) → label ≡ [] → ⊥
unfolding is_label
label_is_some label good e = true≢false (sym (subst (λ (text : List ℕ). IsTrue (is_label text)) e good))

pub one_label : (a b : Option (List ℕ)) → IsLabelOrNone a → IsLabelOrNone b → label_text a ≡ label_text b → a ≡ b
one_label None None p q e = refl
one_label None (Some label) p q e = absurd (label_is_some label q.1 (sym e))
one_label (Some label) None p q e = absurd (label_is_some label p.1 e)
one_label (Some label) (Some other) p q e = ap Some e

abbrev pub at_lot : List ℕ → List ℕ → LotKey → Position
at_lot account commodity lot = record { account = account; commodity = commodity; lot = Some lot }

one_lot : (account commodity other what : List ℕ) (lot there : LotKey) (rest : Row) → IsLabelOrNone lot.label → IsLabelOrNone there.label
    → has_key 6 (lot_key account commodity lot)
    (Text other ∷ Text what ∷ Int there.day ∷ Text there.currency ∷ Int (pos there.number) ∷ Text (label_text there.label) ∷ rest) ≡ true
    → at_lot account commodity lot ≡ at_lot other what there
one_lot account commodity other what lot there rest labelled labelled_there e =
    let label = ordering_then (value_cmp (Text (label_text there.label)) (Text (label_text lot.label))) Equal in
    let number = ordering_then (value_cmp (Int (pos there.number)) (Int (pos lot.number))) label in
    let currency = ordering_then (value_cmp (Text there.currency) (Text lot.currency)) number in
    let day = ordering_then (value_cmp (Int there.day) (Int lot.day)) currency in
    let named = ordering_then (value_cmp (Text what) (Text commodity)) day in
    let first = and_parts _ _ (sym (eq_then (value_cmp (Text other) (Text account)) named) ∙ e) in
    let second = and_parts _ _ (sym (eq_then (value_cmp (Text what) (Text commodity)) day) ∙ first.1) in
    let third = and_parts _ _ (sym (eq_then (value_cmp (Int there.day) (Int lot.day)) currency) ∙ second.1) in
    let fourth = and_parts _ _ (sym (eq_then (value_cmp (Text there.currency) (Text lot.currency)) number) ∙ third.1) in
    let fifth = and_parts _ _ (sym (eq_then (value_cmp (Int (pos there.number)) (Int (pos lot.number))) label) ∙ fourth.1) in
    let sixth = and_parts _ _ (sym (eq_then (value_cmp (Text (label_text there.label)) (Text (label_text lot.label))) Equal) ∙ fifth.1) in
    let accounts : account ≡ other = one_text account other (sym (text_tie account other) ∙ first.0) in
    let commodities : commodity ≡ what = one_text commodity what (sym (text_tie commodity what) ∙ second.0) in
    let days : lot.day ≡ there.day = (Decides-int_eq lot.day there.day).0 (sym (int_tie lot.day there.day) ∙ third.0) in
    let currencies : lot.currency ≡ there.currency = one_text lot.currency there.currency (sym (text_tie lot.currency there.currency) ∙ fourth.0) in
    let numbers : lot.number ≡ there.number = sym ((Decides-eqb there.number lot.number).0 (sym (nat_tie lot.number there.number) ∙ fifth.0)) in
    let labels : lot.label ≡ there.label =
    one_label lot.label there.label labelled labelled_there
    (one_text (label_text lot.label) (label_text there.label) (sym (text_tie (label_text lot.label) (label_text there.label)) ∙ sixth.0)) in
    λ i. record {
      account = accounts i;
      commodity = commodities i;
      lot = Some (record { day = days i; currency = currencies i; number = numbers i; label = labels i });
    }

-- a lot's columns, as those of a position
abbrev lot_columns : Option LotKey → Row → Row
lot_columns None rest = rest
lot_columns (Some lot) rest = Int lot.day ∷ Text lot.currency ∷ Int (pos lot.number) ∷ Text (label_text lot.label) ∷ rest

-- lots that a book can have have one key where they are one
pub has_lot : (account commodity other what : List ℕ) (lot there : LotKey) (rest : Row) → IsLabelOrNone lot.label → IsLabelOrNone there.label
    → has_key 6 (lot_key account commodity lot)
    (Text other ∷ Text what ∷ Int there.day ∷ Text there.currency ∷ Int (pos there.number) ∷ Text (label_text there.label) ∷ rest)
    ≡ same_position (at_lot account commodity lot) (at_lot other what there)
has_lot account commodity other what lot there rest labelled labelled_there =
    let row = Text other ∷ Text what ∷ lot_columns (Some there) rest in
    same_from_decides _ (same_position (at_lot account commodity lot) (at_lot other what there)) (
      one_lot account commodity other what lot there rest labelled labelled_there,
      (λ same. ap (λ (p : Position). has_key 6 (Text p.account ∷ Text p.commodity ∷ lot_columns p.lot []) row) same ∙ has_own_key 6 row),
    ) (
      (λ e. exact_positions _ _ ((Equal-is _).0 e)),
      (λ same. ap (λ (p : Position). same_position p (at_lot other what there)) same
          ∙ ap is_eq (tied_itself positions_total (at_lot other what there))),
    )

-- ---- the order of lots

label_order : (a b : Option (List ℕ)) → IsLabelOrNone a → IsLabelOrNone b → text_cmp (label_text a) (label_text b) ≡ option_cmp text_cmp a b
label_order None None p q = refl
label_order None (Some []) p q = absurd (label_is_some [] q.1 refl)
label_order None (Some (x ∷ xs)) p q = refl
label_order (Some []) None p q = absurd (label_is_some [] p.1 refl)
label_order (Some (x ∷ xs)) None p q = refl
label_order (Some a) (Some b) p q = refl

number_order : (m n : ℕ) → int_cmp (pos m) (pos n) ≡ nat_cmp m n
number_order m n = grind (arith, nat_tests)

-- rows of lots are in the order of their positions
pub lot_rows_order : (account commodity other what : List ℕ) (lot there : LotKey) (rest more : Row) → IsLabelOrNone lot.label → IsLabelOrNone there.label
    → key_order 6 (Text account ∷ Text commodity ∷ lot_columns (Some lot) rest) (Text other ∷ Text what ∷ lot_columns (Some there) more)
    ≡ position_cmp (at_lot account commodity lot) (at_lot other what there)
lot_rows_order account commodity other what lot there rest more labelled labelled_there =
    let numbers = value_cmp-Int (pos lot.number) (pos there.number) ∙ number_order lot.number there.number in
    let labels =
    then-Equal _ ∙ value_cmp-Text (label_text lot.label) (label_text there.label)
    ∙ label_order lot.label there.label labelled labelled_there in
    λ i. ordering_then (value_cmp-Text account other i)
    (ordering_then (value_cmp-Text commodity what i)
    (ordering_then (value_cmp-Int lot.day there.day i)
    (ordering_then (value_cmp-Text lot.currency there.currency i) (ordering_then (numbers i) (labels i)))))

-- ---- the order of rows

-- by the first column, where it is a number
pub number_below : (width m n : ℕ) (a b : Row) → m < n → key_order (suc width) (Int (pos m) ∷ a) (Int (pos n) ∷ b) ≡ Less
number_below width m n a b below =
    ap (λ o. ordering_then o (key_cmp 1 (rising width []) (Int (pos m) ∷ a) (Int (pos n) ∷ b)))
    (value_cmp-Int (pos m) (pos n) ∙ less)
  where
    less : int_cmp (pos m) (pos n) ≡ Less
    less = grind (arith, ints)

-- by the columns behind the first, where that is the same
pub same_first : (width : ℕ) (first : Value) (a b : Row) → key_order (suc width) (first ∷ a) (first ∷ b) ≡ key_order width a b
same_first width first a b =
    ap (λ o. ordering_then o (key_cmp 1 (rising width []) (first ∷ a) (first ∷ b))) (tied_itself value_cmp_total first)
    ∙ key_cmp_shift (rising width []) 0 first first a b
