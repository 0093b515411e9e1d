-- What legs leave, with one more leg.
use Rattle.std.specs.Prelude.{◌≡◌, ◌≢◌, ℤ, pos, ◌+ℤ◌, unsigned_abs, Bool, true, false, IsTrue, not, cond, nat_lt, List, [], ◌∷◌, ◌++◌, Option, Some, Result, Ok, Err, IfErr, IfOk, OnOk}
use Rattle.std.specs.BTreeMap.{get}
use Rattle.std.specs.Cmp.{Equal-is, IsTotalOrder}
use Rattle.std.specs.Map.{lookup}
use Rattle.std.specs.Option.{unwrap_or}
use Rattle.std.specs.Ordering.{is_eq}
use Rattle.std.proofs.Common.{rules, refl, sym, ap, subst, ◌∙◌, append_assoc}
use Rattle.std.proofs.Math.IntN.{+ℤ_idr}
use Rattle.std.proofs.lemmas.Cmp.{eq_by_cmp_equiv, nat_list_cmp_total, on_total, then_total, tied_itself}
use Rattle.std.proofs.lemmas.Map.Lookups.{CmpEqualImpliesEq, exact_bytes, exact_pairs}
use Rattle.lot_num.specs.Amount.{IsUnits, units_limit}
use Rattle.lot_base.specs.Text.{text_cmp}
use Rattle.lot_book.specs.Change.{pair_cmp}
use Rattle.lot_book.specs.declared.change.Pair.{Pair}
use Rattle.lot_book.proofs.CaseLemmas.{by_bool}
use Rattle.lot_book.proofs.SumLemmas.{sum_where, sum_where-append, sum_where-push, sum_where_apart, sum_where_here}
use Rattle.lot_report.specs.declared.fault.ReportFault.{ReportFault}
use Rattle.lot_report.specs.declared.fault.ReportFault.TheVariants.{Memory, Range, Write}
use Rattle.lot_register.specs.Left.{ArePassedBy, HasLefts, Leaves, LeavesStaying, is_of_pair, left_behind, left_in, pair_of, stays}
use Rattle.lot_register.specs.declared.left.Lefts.{Lefts}
use Rattle.lot_register.specs.declared.leg.NotedLeg.{NotedLeg}

-- ---- the order of pairs

pairs_total : IsTotalOrder pair_cmp
pairs_total = then_total (on_total (λ (p : Pair). p.account) nat_list_cmp_total) (on_total (λ (p : Pair). p.commodity) nat_list_cmp_total)

exact_pair : CmpEqualImpliesEq pair_cmp
exact_pair p q e =
    let same = exact_pairs text_cmp text_cmp exact_bytes exact_bytes (p.account, p.commodity) (q.account, q.commodity) e in
    λ i. record { account = (same i).0; commodity = (same i).1 }

pub one_pair : (p q : Pair) → is_eq (pair_cmp p q) ≡ true → p ≡ q
one_pair p q e = exact_pair p q ((Equal-is (pair_cmp p q)).0 e)

own_pair : (p : Pair) → is_eq (pair_cmp p p) ≡ true
own_pair p = ap is_eq (tied_itself pairs_total p)

turned_pair : (p q : Pair) → is_eq (pair_cmp p q) ≡ is_eq (pair_cmp q p)
turned_pair p q = (eq_by_cmp_equiv pairs_total).symm p q

-- ---- one more leg

abbrev units_in : NotedLeg → ℤ
units_in leg = leg.units

pub left_push : (legs : List NotedLeg) (leg : NotedLeg) (pair : Pair)
    → left_in (legs ++ leg ∷ []) pair ≡ cond (is_of_pair pair leg) (left_in legs pair +ℤ leg.units) (left_in legs pair)
left_push legs leg pair = sum_where-push (is_of_pair pair) units_in legs leg

pub left_is : (legs : List NotedLeg) (leg : NotedLeg) → left_behind legs leg ≡ left_in legs (pair_of leg) +ℤ leg.units
left_is legs leg =
    left_push legs leg (pair_of leg)
    ∙ ap (λ b. cond b (left_in legs (pair_of leg) +ℤ leg.units) (left_in legs (pair_of leg))) (own_pair (pair_of leg))

-- ---- sums in range

units_are : (z : ℤ) → IsUnits z → nat_lt (unsigned_abs z) units_limit ≡ true
units_are z units = search (rules)

units_are_not : (z : ℤ) → (IsUnits z → ⊥) → not (nat_lt (unsigned_abs z) units_limit) ≡ true
units_are_not z units = search (rules)

-- ---- what is kept

pub nothing_left : (lefts : Lefts) → lefts.sums.entries ≡ [] → HasLefts [] lefts
nothing_left lefts none pair = ap (λ (es : List (Pair × ℤ)). unwrap_or (lookup (λ other. is_eq (pair_cmp pair other)) es) (pos 0)) none

abbrev kept_of : Lefts → Pair → ℤ
kept_of lefts pair = unwrap_or (get pair_cmp lefts.sums pair) (pos 0)

module _ (legs : List NotedLeg) (leg : NotedLeg) (old new : Lefts) (pair : Pair) (left : ℤ) (is : pair ≡ pair_of leg) (has : HasLefts legs old) where
  sum_is : kept_of old pair +ℤ leg.units ≡ left_behind legs leg
  sum_is = ap (λ z. z +ℤ leg.units) (has pair) ∙ ap (λ p. left_in legs p +ℤ leg.units) is ∙ sym (left_is legs leg)

  abbrev Sets : Type 0
  Sets = (other : Pair) → get pair_cmp new.sums other ≡ cond (is_eq (pair_cmp pair other)) (Some left) (get pair_cmp old.sums other)

  set_here : left ≡ kept_of old pair +ℤ leg.units → Sets → (other : Pair) → is_eq (pair_cmp pair other) ≡ true
      → kept_of new other ≡ left_in (legs ++ leg ∷ []) other
  set_here more sets other e =
      ap (λ (o : Option ℤ). unwrap_or o (pos 0)) (sets other ∙ ap (λ b. cond b (Some left) (get pair_cmp old.sums other)) e)
      ∙ more
      ∙ sum_is
      ∙ ap (left_in (legs ++ leg ∷ [])) (sym is ∙ one_pair pair other e)

  set_apart : Sets → (other : Pair) → is_eq (pair_cmp pair other) ≡ false → kept_of new other ≡ left_in (legs ++ leg ∷ []) other
  set_apart sets other e =
      let apart : is_of_pair other leg ≡ false = turned_pair other (pair_of leg) ∙ ap (λ p. is_eq (pair_cmp p other)) (sym is) ∙ e in
      ap (λ (o : Option ℤ). unwrap_or o (pos 0)) (sets other ∙ ap (λ b. cond b (Some left) (get pair_cmp old.sums other)) e)
      ∙ has other
      ∙ sym (left_push legs leg other ∙ ap (λ b. cond b (left_in legs other +ℤ leg.units) (left_in legs other)) apart)

  -- units that are those of the leg
  module _ (units : ℤ) (of_leg : units ≡ leg.units) where
    stays_so : IsUnits (kept_of old pair +ℤ units) → IsTrue (stays legs leg)
    stays_so room = units_are (left_behind legs leg) (subst IsUnits (ap (λ z. kept_of old pair +ℤ z) of_leg ∙ sum_is) room)

    -- the new sum is kept
    pub left_set : (result : Result ℤ ReportFault) → IsUnits (kept_of old pair +ℤ units) × (left ≡ kept_of old pair +ℤ units)
        → IfOk result (λ sum. sum ≡ left) → OnOk result Sets → IfErr result (λ fault. fault ≡ Memory) → LeavesStaying legs leg new result
    left_set (Ok sum) (room, more) value sets cause =
        let is_more : left ≡ kept_of old pair +ℤ leg.units = more ∙ ap (λ z. kept_of old pair +ℤ z) of_leg in (
          stays_so room,
          value ∙ is_more ∙ sum_is,
          λ other. by_bool (is_eq (pair_cmp pair other)) (set_here is_more sets other) (set_apart sets other),
        )
    left_set (Err fault) (room, more) value sets cause = rw (cause) (stays_so room)

    -- or it leaves the range
    pub left_unfit : (IsUnits (kept_of old pair +ℤ units) → ⊥) → IsTrue (not (stays legs leg))
    left_unfit never =
        units_are_not (left_behind legs leg)
        (λ sum. never (subst IsUnits (sym (ap (λ z. kept_of old pair +ℤ z) of_leg ∙ sum_is)) sum))

-- that memory is lacked by what stays in range is more than is said with the pair of the leg
pub staying_leaves : (legs : List NotedLeg) (leg : NotedLeg) (lefts : Lefts) (result : Result ℤ ReportFault)
    → LeavesStaying legs leg lefts result → Leaves legs leg lefts result
staying_leaves legs leg lefts (Ok left) leaves = leaves
staying_leaves legs leg lefts (Err Range) unfit = unfit
staying_leaves legs leg lefts (Err Write) never = never
staying_leaves legs leg lefts (Err Memory) stays = tt

pub memory_alone : {A : Type 0} (result : Result A ReportFault) → IfErr result (λ fault. fault ≡ Memory) → IfErr result (λ fault. fault ≢ Write)
memory_alone (Ok done) is = tt
memory_alone (Err fault) is = λ at. let both : Memory ≡ Write = sym is ∙ at in cc

-- ---- laws

passed_by : (pair : Pair) (legs : List NotedLeg) → ArePassedBy pair legs → left_in legs pair ≡ pos 0
passed_by pair [] passed = refl
passed_by pair (leg ∷ legs) passed = sum_where_apart (is_of_pair pair) units_in leg legs passed.0 ∙ passed_by pair legs passed.1

-- legs of other pairs change nothing
pub passed_over : (pair : Pair) (legs others : List NotedLeg) → ArePassedBy pair others → left_in (legs ++ others) pair ≡ left_in legs pair
passed_over pair legs others passed =
    sum_where-append (is_of_pair pair) units_in legs others
    ∙ ap (λ z. left_in legs pair +ℤ z) (passed_by pair others passed)
    ∙ +ℤ_idr (left_in legs pair)

one_first : (before behind : List NotedLeg) (leg : NotedLeg) → before ++ leg ∷ behind ≡ (before ++ leg ∷ []) ++ behind
one_first before behind leg = sym (append_assoc before (leg ∷ []) behind)

pub last_of_all : (before behind : List NotedLeg) (leg : NotedLeg) → ArePassedBy (pair_of leg) behind
    → left_behind before leg ≡ left_in (before ++ leg ∷ behind) (pair_of leg)
last_of_all before behind leg passed =
    sym (ap (λ (ls : List NotedLeg). left_in ls (pair_of leg)) (one_first before behind leg) ∙ passed_over (pair_of leg) (before ++ leg ∷ []) behind passed)

pub goes_on : (before between : List NotedLeg) (last leg : NotedLeg) → pair_of last ≡ pair_of leg → ArePassedBy (pair_of leg) between
    → left_behind (before ++ last ∷ between) leg ≡ left_behind before last +ℤ leg.units
goes_on before between last leg same passed =
    left_is (before ++ last ∷ between) leg
    ∙ ap (λ z. z +ℤ leg.units)
    (ap (λ (ls : List NotedLeg). left_in ls (pair_of leg)) (one_first before between last)
    ∙ passed_over (pair_of leg) (before ++ last ∷ []) between passed
    ∙ ap (left_in (before ++ last ∷ [])) (sym same))
