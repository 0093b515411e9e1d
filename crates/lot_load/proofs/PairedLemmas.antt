-- Rows of lots and of opening numbers that are compared one after another, and the pairs of which all is known.
use Rattle.std.specs.Prelude.{◌≡◌, ◌≢◌, ◌↔◌, ◌⊎◌, ℕ, suc, ◌==◌, Bool, true, ◌&&◌, List, [], ◌∷◌, length, map, Option, None, Some}
use Rattle.std.specs.BTreeSet.{BTreeSet, InsertsAll, IsFromIterResult, difference}
use Rattle.std.specs.List.{AllByRecursion}
use Rattle.std.specs.Option.{option_eq}
use Rattle.std.specs.Ordering.{int_eq}
use Rattle.std.proofs.Common.{refl, sym, ap, subst, ◌∙◌, inl, inr}
use Rattle.std.proofs.lemmas.Bool.{and_parts}
use Rattle.std.proofs.lemmas.List.{length-map}
use Rattle.std.proofs.lemmas.Bool.Decides.{Decides-eqb, Decides-int_eq}
use Rattle.lot_base.specs.Text.{same_text}
use Rattle.lot_base.proofs.TextLemmas.{one_text, same_text-itself}
use Rattle.sqlite_keyed.proofs.ListLemmas.{all_weaker}
use Rattle.sqlite_rules.specs.Lists.{Has as IsAmong}
use Rattle.sqlite_rules.proofs.ListLemmas.{all_from}
use Rattle.lot_command.specs.declared.command.Command.{Command}
use Rattle.lot_cost.specs.declared.lot_key.LotKey.{LotKey}
use Rattle.lot_book.specs.Change.{pair_cmp}
use Rattle.lot_book.specs.Touched.{pairs_in}
use Rattle.lot_book.specs.declared.change.Pair.{Pair}
use Rattle.lot_rows.specs.Tables.{Tables}
use Rattle.lot_rows.specs.declared.lot.LotRow.{LotRow}
use Rattle.lot_rows.specs.declared.opening.OpeningRow.{OpeningRow}
use Rattle.lot_load.specs.Paired.{ArePaired, AreWholeOrPaired, HaveAllPaired, HavePaired, whole_pairs}
use Rattle.lot_load.specs.declared.kept.Kept.{Kept}
use Rattle.lot_load.proofs.WholeLemmas.{all_added, all_lacking}
use Rattle.lot_view.proofs.TouchedLemmas.{exact_pairs, of_items, pairs_total}
use Rattle.lot_view.specs.declared.touched.Touched.{Touched}

-- ---- two lots

-- how lots are compared
abbrev pub same_lot : LotKey → LotKey → Bool
same_lot a b =
    int_eq a.day b.day && (same_text a.currency b.currency && ((a.number == b.number) && option_eq same_text a.label b.label))

one_label : (a b : Option (List ℕ)) → option_eq same_text a b ≡ true → a ≡ b
one_label None None e = refl
one_label None (Some label) e = cc
one_label (Some label) None e = cc
one_label (Some label) (Some other) e = ap Some (one_text label other e)

label_itself : (a : Option (List ℕ)) → option_eq same_text a a ≡ true
label_itself None = refl
label_itself (Some label) = same_text-itself label

pub one_lot : (a b : LotKey) → same_lot a b ≡ true → a ≡ b
one_lot a b e =
    let first = and_parts _ _ e in
    let second = and_parts _ _ first.1 in
    let third = and_parts _ _ second.1 in
    let day : a.day ≡ b.day = (Decides-int_eq a.day b.day).0 first.0 in
    let currency : a.currency ≡ b.currency = one_text a.currency b.currency second.0 in
    let number : a.number ≡ b.number = (Decides-eqb a.number b.number).0 third.0 in
    let label : a.label ≡ b.label = one_label a.label b.label third.1 in
    λ i. record { day = day i; currency = currency i; number = number i; label = label i }

lot_itself : (a : LotKey) → same_lot a a ≡ true
lot_itself a =
    (λ i. (Decides-int_eq a.day a.day).1 refl i
    && (same_text-itself a.currency i && ((Decides-eqb a.number a.number).1 refl i && label_itself a.label i)))

pub lot_same : (a b : LotKey) → a ≡ b → same_lot a b ≡ true
lot_same a b is = ap (same_lot a) (sym is) ∙ lot_itself a

-- ---- rows that are left

module _ (lots : List LotRow) (openings : List OpeningRow) where
  -- those that are left are of the same lots exactly where all are
  pub record StayPaired (left : List LotRow) (numbered : List OpeningRow) : Type 0 where
    pub same : ArePaired lots openings ↔ ArePaired left numbered
    pub as_long : length left ≡ length numbered

  pub all_left : (left : List LotRow) (numbered : List OpeningRow) → left ≡ lots → numbered ≡ openings → length lots ≡ length openings
      → StayPaired left numbered
  all_left left numbered is are as_long =
      subst (λ (rows : List LotRow). StayPaired rows numbered) (sym is)
      (subst (StayPaired lots) (sym are) (record { same = (λ paired. paired, λ paired. paired); as_long = as_long }))

  module _ (left rest : List LotRow) (numbered others : List OpeningRow) (row : LotRow) (opened : OpeningRow) (turn : left ≡ row ∷ rest)
      (turned : numbered ≡ opened ∷ others) (was : StayPaired left numbered) where
    first_left : StayPaired (row ∷ rest) (opened ∷ others)
    first_left =
        subst (λ (rows : List LotRow). StayPaired rows (opened ∷ others)) turn (subst (StayPaired left) turned was)

    pub one_less : row.lot ≡ opened.lot → StayPaired rest others
    one_less lot =
        let is = first_left in
        let as_long : suc (length rest) ≡ suc (length others) = is.as_long in record {
          same = (
            λ all. let paired : map (λ (r : LotRow). r.lot) (row ∷ rest) ≡ map (λ (r : OpeningRow). r.lot) (opened ∷ others) = is.same.0 all in
                let more : ArePaired rest others = cc in more,
            λ paired. is.same.1 (λ i. lot i ∷ paired i),
          );
          as_long = cc;
        }

    pub not_paired : row.lot ≢ opened.lot → ¬ ArePaired lots openings
    not_paired other all =
        let paired : map (λ (r : LotRow). r.lot) (row ∷ rest) ≡ map (λ (r : OpeningRow). r.lot) (opened ∷ others) = first_left.same.0 all in
        let lot : row.lot ≡ opened.lot = cc in other lot

  pub none_left : (left : List LotRow) (numbered : List OpeningRow) → (left ≡ []) ⊎ (numbered ≡ []) → StayPaired left numbered
      → ArePaired lots openings
  none_left [] [] none was = was.same.1 refl
  none_left [] (opened ∷ others) none was = let long : 0 ≡ suc (length others) = was.as_long in cc
  none_left (row ∷ rest) [] none was = let long : suc (length rest) ≡ 0 = was.as_long in cc
  none_left (row ∷ rest) (opened ∷ others) (inl none) was = cc
  none_left (row ∷ rest) (opened ∷ others) (inr none) was = cc

-- lists that aren't as long have not the same lots
pub not_as_long : (lots : List LotRow) (openings : List OpeningRow) → length lots ≢ length openings → ¬ ArePaired lots openings
not_as_long lots openings other paired =
    other (sym (length-map lots (λ (row : LotRow). row.lot)) ∙ ap length paired ∙ length-map openings (λ (row : OpeningRow). row.lot))

-- ---- pairs of which all is known

module _ (kept : Option Kept) (tables : Tables) where
  -- all of it was known before, or the tables have the same lots of it
  abbrev IsWholeOrPaired : Pair → Type 0
  IsWholeOrPaired pair = IsAmong (whole_pairs kept) pair ⊎ HavePaired pair tables

  known_before : AreWholeOrPaired kept tables (whole_pairs kept)
  known_before = all_from IsWholeOrPaired (whole_pairs kept) (λ pair among. inl among)

  paired_now : (pairs : List Pair) → HaveAllPaired pairs tables → AreWholeOrPaired kept tables pairs
  paired_now pairs paired = all_weaker (λ (pair : Pair). HavePaired pair tables) IsWholeOrPaired (λ pair is. inr is) pairs paired

module _ (kept : Kept) (tables : Tables) where
  -- where it is so of those of which not all is known
  pub pairs_touched : (touched : BTreeSet Pair) → HaveAllPaired (difference pair_cmp touched kept.whole.pairs) tables
      → AreWholeOrPaired (Some kept) tables touched.keys
  pairs_touched touched paired =
      all_lacking pair_cmp pairs_total exact_pairs (IsWholeOrPaired (Some kept) tables) kept.whole.pairs touched.keys
      (known_before (Some kept) tables) (paired_now (Some kept) tables (difference pair_cmp touched kept.whole.pairs) paired)

  -- and of those that are added to what is known whole
  pub pairs_added : (after : BTreeSet Pair) (more : List Pair) → InsertsAll pair_cmp kept.whole.pairs more after → HaveAllPaired more tables
      → AreWholeOrPaired (Some kept) tables after.keys
  pairs_added after more inserts paired =
      all_added pair_cmp pairs_total exact_pairs (IsWholeOrPaired (Some kept) tables) kept.whole.pairs after more inserts
      (known_before (Some kept) tables) (paired_now (Some kept) tables more paired)

-- so it is where nothing more was known than what was kept
module _ (kept : Option Kept) (begun : Kept) (tables : Tables) (same : whole_pairs (Some begun) ≡ whole_pairs kept) where
  pub kept_pairs : (pairs others : List Pair) → others ≡ pairs → AreWholeOrPaired (Some begun) tables pairs → AreWholeOrPaired kept tables others
  kept_pairs pairs others is found =
      subst (AreWholeOrPaired kept tables) (sym is)
      (subst (λ (whole : List Pair). AllByRecursion (λ (pair : Pair). IsAmong whole pair ⊎ HavePaired pair tables) pairs) same found)

  pub looked_pairs : (command : Command) (t : Touched) → IsFromIterResult pair_cmp (pairs_in command) t.pairs
      → AreWholeOrPaired (Some begun) tables t.pairs.keys → AreWholeOrPaired kept tables (pairs_in command)
  looked_pairs command t are found =
      kept_pairs (pairs_in command) (pairs_in command) refl
      (of_items pair_cmp pairs_total exact_pairs (IsWholeOrPaired (Some begun) tables) (pairs_in command) t.pairs are found)
