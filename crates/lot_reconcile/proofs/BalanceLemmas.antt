-- Balances of a statement, and with one more leg.
use Rattle.std.specs.Prelude.{◌≡◌, ℕ, ℤ, pos, ◌+ℤ◌, ◌-ℤ◌, ◌*ℤ◌, neg_ℤ, Bool, true, false, IsTrue, not, cond, ◌||◌, if◌then◌else◌, is_some, List, [], ◌∷◌, ◌++◌, map, filter, Option, None, Some, Result, Ok, Err, IfErr, OnOk, option_map, unwrap_or}
use Rattle.std.specs.BTreeMap.{BTreeMap, insert_entry}
use Rattle.std.specs.List.{list_any}
use Rattle.std.specs.List.Sorted.{IsStrictlySortedBy}
use Rattle.std.specs.Map.{keys_of, lookup}
use Rattle.std.proofs.Common.{refl, sym, ap, subst, ◌∙◌, arith}
use Rattle.std.proofs.Math.Bool.{or-false, or-true}
use Rattle.std.proofs.Math.IntN.{+ℤ_assoc, +ℤ_idl, +ℤ_idr}
use Rattle.std.proofs.lemmas.Bool.{true≢false}
use Rattle.std.proofs.lemmas.Cmp.{nat_list_cmp_total}
use Rattle.std.proofs.lemmas.Int.{ints}
use Rattle.std.proofs.lemmas.List.{append-nil, append_assoc}
use Rattle.std.proofs.lemmas.List.Folds.{list_any-append}
use Rattle.lot_num.specs.Amount.{one}
use Rattle.lot_num.specs.Sum.{sum_of}
use Rattle.lot_base.specs.Text.{text_cmp}
use Rattle.lot_legs.specs.declared.leg.DatedLeg.{DatedLeg}
use Rattle.lot_report.specs.declared.fault.ReportFault.{ReportFault}
use Rattle.lot_report.specs.declared.fault.ReportFault.TheVariants.{Memory}
use Rattle.lot_statement.specs.Line.{Line, said_of}
use Rattle.lot_statement.specs.Statement.{HasSaid}
use Rattle.lot_statement.proofs.LineLemmas.{said_push}
use Rattle.lot_tally.specs.Rows.{AddsFitting}
use Rattle.lot_tally.proofs.InsertLemmas.{lookup_with, sorted_with}
use Rattle.lot_tally.proofs.SumLemmas.{filter_push}
use Rattle.lot_reconcile.specs.Balance.{AreBalances, balance, balance_of, balance_with, has_room, held_in, is_known, is_of, leg_fits, said_alone, said_in, weight_of}
use Rattle.lot_reconcile.specs.declared.balance.Balance.{Balance}
use Rattle.lot_reconcile.proofs.FindLemmas.{before_none, find, is_named, named_is}

-- ---- a statement

abbrev pub said_row : ℤ → Balance
said_row units = said_alone (units *ℤ pos one)

-- those so far have their rows, and the others are left
abbrev pub SaidSoFar : List (List ℕ × Balance) → List Line → List Line → Type 0
SaidSoFar rows left entries =
    (done : List Line) × (done ++ left ≡ entries) × IsStrictlySortedBy text_cmp (keys_of rows)
    × ((name : List ℕ) → find rows name ≡ option_map said_row (find done name))

no_rows : IsStrictlySortedBy text_cmp []
unfolding IsStrictlySortedBy
no_rows = tt

pub none_said : (rows : List (List ℕ × Balance)) (left entries : List Line) → rows ≡ [] → left ≡ entries → SaidSoFar rows left entries
none_said rows left entries none all = ([], all, subst (λ (rs : List (List ℕ × Balance)). IsStrictlySortedBy text_cmp (keys_of rs)) (sym none) no_rows, λ name. ap (λ (rs : List (List ℕ × Balance)). find rs name) none)

pub one_said : (rows new : List (List ℕ × Balance)) (left rest entries : List Line) (name : List ℕ) (units : ℤ) (b : Balance)
    → IsStrictlySortedBy text_cmp (keys_of entries) → SaidSoFar rows left entries → left ≡ (name, units) ∷ rest → b ≡ said_row units
    → new ≡ insert_entry text_cmp rows name b → SaidSoFar new rest entries
one_said rows new left rest entries name units b sorted (done, all, in_order, each) is own set =
    let split : done ++ (name, units) ∷ rest ≡ entries = ap (λ (ls : List Line). done ++ ls) (sym is) ∙ all in
    let none : find done name ≡ None =
    before_none done rest name units (subst (λ (ls : List Line). IsStrictlySortedBy text_cmp (keys_of ls)) (sym split) sorted) in (
      done ++ (name, units) ∷ [],
      append_assoc done ((name, units) ∷ []) rest ∙ split,
      subst (λ (rs : List (List ℕ × Balance)). IsStrictlySortedBy text_cmp (keys_of rs)) (sym set) (sorted_with nat_list_cmp_total name b rows in_order),
      λ q.
          ap (λ (rs : List (List ℕ × Balance)). find rs q) set
          ∙ lookup_with nat_list_cmp_total name b q rows
          ∙ (λ i. cond (is_named q name) (Some (own i)) (each q i))
          ∙ mapped (is_named q name) units (find done q)
          ∙ ap (option_map said_row) (sym (said_push done name units q none)),
    )
  where
    mapped : (c : Bool) (u : ℤ) (o : Option ℤ) → cond c (Some (said_row u)) (option_map said_row o) ≡ option_map said_row (cond c (Some u) o)
    mapped true u o = refl
    mapped false u o = refl

pub all_said : (lines : List Line) (rows : List (List ℕ × Balance)) (left : List Line) (statement : BTreeMap (List ℕ) ℤ)
    → SaidSoFar rows left statement.entries → left ≡ [] → HasSaid lines statement → AreBalances lines [] rows
all_said lines rows left statement (done, all, in_order, each) none has =
    let whole : done ≡ statement.entries = sym (append-nil done) ∙ ap (λ (ls : List Line). done ++ ls) (sym none) ∙ all in
    record {
      in_order = in_order;
      each = λ q.
          each q
          ∙ ap (λ (ls : List Line). option_map said_row (find ls q)) whole
          ∙ ap (option_map said_row) (has.each q)
          ∙ by (said_of lines q);
    }
  where
    by : (o : Option ℤ) → option_map said_row o
        ≡ (if is_some o || false then Some (balance (unwrap_or o (pos 0) *ℤ pos one) (pos 0) (unwrap_or o (pos 0) *ℤ pos one -ℤ pos 0)) else None)
    by None = refl
    by (Some units) = ap (λ z. Some (balance (units *ℤ pos one) (pos 0) z)) (sym (+ℤ_idr (units *ℤ pos one)))

-- ---- one more leg

sum_push : (legs : List DatedLeg) (leg : DatedLeg) → sum_of (map weight_of (legs ++ leg ∷ [])) ≡ sum_of (map weight_of legs) +ℤ weight_of leg
sum_push [] leg = +ℤ_idr (weight_of leg) ∙ sym (+ℤ_idl (weight_of leg))
sum_push (first ∷ legs) leg =
    ap (λ z. weight_of first +ℤ z) (sum_push legs leg) ∙ sym (+ℤ_assoc (weight_of first) (sum_of (map weight_of legs)) (weight_of leg))

held_push : (legs : List DatedLeg) (leg : DatedLeg) (q : List ℕ) → is_of q leg ≡ true → held_in (legs ++ leg ∷ []) q ≡ held_in legs q +ℤ weight_of leg
held_push legs leg q here =
    ap (λ (ls : List DatedLeg). sum_of (map weight_of ls))
    (filter_push (is_of q) legs leg ∙ ap (λ b. cond b (filter (is_of q) legs ++ leg ∷ []) (filter (is_of q) legs)) here)
    ∙ sum_push (filter (is_of q) legs) leg

held_same : (legs : List DatedLeg) (leg : DatedLeg) (q : List ℕ) → is_of q leg ≡ false → held_in (legs ++ leg ∷ []) q ≡ held_in legs q
held_same legs leg q apart =
    ap (λ (ls : List DatedLeg). sum_of (map weight_of ls))
    (filter_push (is_of q) legs leg ∙ ap (λ b. cond b (filter (is_of q) legs ++ leg ∷ []) (filter (is_of q) legs)) apart)

less : (said held weight : ℤ) → said -ℤ (held +ℤ weight) ≡ (said -ℤ held) +ℤ neg_ℤ weight
less said held weight = omega (arith, ints)

balance_push : (lines : List Line) (legs : List DatedLeg) (leg : DatedLeg) (q : List ℕ) → is_of q leg ≡ true
    → balance_of lines (legs ++ leg ∷ []) q ≡ balance_with (balance_of lines legs q) leg.units
balance_push lines legs leg q here =
    ap (λ z. balance (said_in lines q) z (said_in lines q -ℤ z)) (held_push legs leg q here)
    ∙ ap (λ z. balance (said_in lines q) (held_in legs q +ℤ weight_of leg) z) (less (said_in lines q) (held_in legs q) (weight_of leg))

any_push : (legs : List DatedLeg) (leg : DatedLeg) (q : List ℕ) → list_any (is_of q) (legs ++ leg ∷ []) ≡ (list_any (is_of q) legs || is_of q leg)
any_push legs leg q =
    list_any-append (is_of q) legs (leg ∷ []) ∙ ap (λ b. list_any (is_of q) legs || b) (or-false (is_of q leg))

row_set : (lines : List Line) (legs : List DatedLeg) (leg : DatedLeg) (rows : List (List ℕ × Balance)) (b : Balance) → AreBalances lines legs rows
    → b ≡ balance_with (balance_of lines legs leg.commodity) leg.units
    → AreBalances lines (legs ++ leg ∷ []) (insert_entry text_cmp rows leg.commodity b)
row_set lines legs leg rows b are is = record {
  in_order = sorted_with nat_list_cmp_total leg.commodity b rows are.in_order;
  each = λ q. lookup_with nat_list_cmp_total leg.commodity b q rows ∙ by q (is_of q leg) refl;
}
  where
    by : (q : List ℕ) (c : Bool) → is_of q leg ≡ c
        → cond (is_of q leg) (Some b) (find rows q)
        ≡ (if is_known lines (legs ++ leg ∷ []) q then Some (balance_of lines (legs ++ leg ∷ []) q) else None)
    by q true here =
        let one_name : q ≡ leg.commodity = named_is q leg.commodity here in
        let known : is_known lines (legs ++ leg ∷ []) q ≡ true =
        ap (λ c. is_some (said_of lines q) || c)
        (any_push legs leg q ∙ ap (λ c. list_any (is_of q) legs || c) here ∙ or-true (list_any (is_of q) legs))
        ∙ or-true (is_some (said_of lines q)) in
        ap (λ c. cond c (Some b) (find rows q)) here
        ∙ ap Some (is ∙ ap (λ name. balance_with (balance_of lines legs name) leg.units) (sym one_name) ∙ sym (balance_push lines legs leg q here))
        ∙ ap (λ c. if c then Some (balance_of lines (legs ++ leg ∷ []) q) else None) (sym known)
    by q false here =
        let any : list_any (is_of q) (legs ++ leg ∷ []) ≡ list_any (is_of q) legs =
        any_push legs leg q ∙ ap (λ c. list_any (is_of q) legs || c) here ∙ or-false (list_any (is_of q) legs) in
        let held : held_in (legs ++ leg ∷ []) q ≡ held_in legs q = held_same legs leg q here in
        ap (λ c. cond c (Some b) (find rows q)) here
        ∙ are.each q
        ∙ (λ i. if is_some (said_of lines q) || sym any i
        then Some (balance (said_in lines q) (sym held i) (said_in lines q -ℤ sym held i)) else None)

-- ---- what is kept of a commodity

none_of : (legs : List DatedLeg) (q : List ℕ) → list_any (is_of q) legs ≡ false → filter (is_of q) legs ≡ []
none_of [] q none = refl
none_of (leg ∷ legs) q none = by (is_of q leg) refl none (none_of legs q)
  where
    by : (b : Bool) → is_of q leg ≡ b → (b || list_any (is_of q) legs) ≡ false
        → (list_any (is_of q) legs ≡ false → filter (is_of q) legs ≡ []) → filter (is_of q) (leg ∷ legs) ≡ []
    by true here some rest = absurd (true≢false some)
    by false here some rest = ap (λ b. cond b (leg ∷ filter (is_of q) legs) (filter (is_of q) legs)) here ∙ rest some

pub unknown : (lines : List Line) (legs : List DatedLeg) (q : List ℕ) → is_known lines legs q ≡ false
    → (said_in lines q ≡ pos 0 *ℤ pos one) × (held_in legs q ≡ pos 0)
unknown lines legs q none = by (said_of lines q) refl none
  where
    by : (o : Option ℤ) → said_of lines q ≡ o → (is_some o || list_any (is_of q) legs) ≡ false
        → (said_in lines q ≡ pos 0 *ℤ pos one) × (held_in legs q ≡ pos 0)
    by (Some units) is some = absurd (true≢false some)
    by None is others = (
      ap (λ o. unwrap_or o (pos 0) *ℤ pos one) is,
      ap (λ (ls : List DatedLeg). sum_of (map weight_of ls)) (none_of legs q others),
    )

pub kept_balance : (lines : List Line) (legs : List DatedLeg) (rows : List (List ℕ × Balance)) (q : List ℕ) (found : Option Balance) (none : Balance)
    → AreBalances lines legs rows → found ≡ find rows q → none ≡ said_row (pos 0)
    → unwrap_or found none ≡ balance_of lines legs q
kept_balance lines legs rows q found none are is empty =
    (λ i. unwrap_or ((is ∙ are.each q) i) (empty i)) ∙ by (is_known lines legs q) refl
  where
    by : (b : Bool) → is_known lines legs q ≡ b → unwrap_or (if b then Some (balance_of lines legs q) else None) (said_row (pos 0)) ≡ balance_of lines legs q
    by true known = refl
    by false not_known =
        let (said, held) = unknown lines legs q not_known in
        ap (λ z. balance (pos 0 *ℤ pos one) (pos 0) z) (sym (+ℤ_idr (pos 0 *ℤ pos one)))
        ∙ (λ i. balance (sym said i) (sym held i) (sym said i -ℤ sym held i))

-- a leg whose row is set
pub leg_added : (lines : List Line) (legs : List DatedLeg) (leg : DatedLeg) (rows new : BTreeMap (List ℕ) Balance) (name : List ℕ) (units : ℤ) (kept b : Balance)
    (result : Result (Unit {0}) ReportFault)
    → name ≡ leg.commodity → units ≡ leg.units → AreBalances lines legs rows.entries → kept ≡ balance_of lines legs name
    → IsTrue (has_room kept units) × (b ≡ balance_with kept units)
    → OnOk result (new.entries ≡ insert_entry text_cmp rows.entries name b) → IfErr result (λ fault. fault ≡ Memory)
    → AddsFitting (leg_fits lines legs leg) (AreBalances lines (legs ++ leg ∷ []) new.entries) result
leg_added lines legs leg rows new name units kept b (Ok done) own of_leg are is (room, more) set cause =
    let balance_is : kept ≡ balance_of lines legs leg.commodity = is ∙ ap (balance_of lines legs) own in (
      subst IsTrue (λ i. has_room (balance_is i) (of_leg i)) room,
      subst (AreBalances lines (legs ++ leg ∷ [])) (sym (set ∙ ap (λ n. insert_entry text_cmp rows.entries n b) own))
          (row_set lines legs leg rows.entries b are (more ∙ (λ i. balance_with (balance_is i) (of_leg i)))),
    )
leg_added lines legs leg rows new name units kept b (Err fault) own of_leg are is more set cause =
    let balance_is : kept ≡ balance_of lines legs leg.commodity = is ∙ ap (balance_of lines legs) own in
    rw (cause) (subst IsTrue (λ i. has_room (balance_is i) (of_leg i)) more.0)

-- a leg that doesn't fit
pub leg_unfit : (lines : List Line) (legs : List DatedLeg) (leg : DatedLeg) (name : List ℕ) (units : ℤ) (kept : Balance)
    → name ≡ leg.commodity → units ≡ leg.units → kept ≡ balance_of lines legs name → (IsTrue (has_room kept units) → ⊥)
    → IsTrue (not (leg_fits lines legs leg))
leg_unfit lines legs leg name units kept own of_leg is never =
    let balance_is : kept ≡ balance_of lines legs leg.commodity = is ∙ ap (balance_of lines legs) own in
    subst IsTrue (λ i. not (has_room (balance_is i) (of_leg i))) (unfit (has_room kept units) never)
  where
    unfit : (b : Bool) → (IsTrue b → ⊥) → IsTrue (not b)
    unfit true never = absurd (never refl)
    unfit false never = refl
