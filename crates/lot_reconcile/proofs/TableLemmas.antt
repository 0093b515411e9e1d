-- The table, fed leg by leg.
use Rattle.std.specs.Prelude.{◌≡◌, Bool, true, false, IsTrue, not, cond, ◌||◌, List, [], ◌∷◌, ◌++◌, Result, Ok, Err}
use Rattle.std.proofs.Common.{sym, ap, subst, ◌∙◌}
use Rattle.lot_legs.specs.declared.leg.DatedLeg.{DatedLeg}
use Rattle.lot_report.specs.declared.fault.ReportFault.{ReportFault}
use Rattle.lot_report.specs.declared.fault.ReportFault.TheVariants.{Range, Write, Memory}
use Rattle.lot_report.proofs.FedLemmas.{fit_more}
use Rattle.lot_statement.specs.Line.{Line}
use Rattle.lot_tally.specs.Rows.{Adds}
use Rattle.lot_tally.proofs.SumLemmas.{filter_push}
use Rattle.lot_activity.specs.Scope.{Asked, asked_in, has}
use Rattle.lot_reconcile.specs.Balance.{AreBalances, counted_legs, leg_fits}
use Rattle.lot_reconcile.specs.Table.{Agrees, IsEnd, IsTable, Terms, agree, fits, table_lines}
use Rattle.lot_reconcile.specs.declared.balance.Balance.{Balance}
use Rattle.lot_reconcile.specs.declared.table.Reconciliation.{Reconciliation}

module _ (terms : Terms) (legs : List DatedLeg) (leg : DatedLeg) where
  counted_behind : has terms.asked leg ≡ true → counted_legs terms.asked (legs ++ leg ∷ []) ≡ counted_legs terms.asked legs ++ leg ∷ []
  counted_behind here =
      filter_push (has terms.asked) legs leg ∙ ap (λ b. cond b (counted_legs terms.asked legs ++ leg ∷ []) (counted_legs terms.asked legs)) here

  passed_behind : has terms.asked leg ≡ false → counted_legs terms.asked (legs ++ leg ∷ []) ≡ counted_legs terms.asked legs
  passed_behind apart =
      filter_push (has terms.asked) legs leg ∙ ap (λ b. cond b (counted_legs terms.asked legs ++ leg ∷ []) (counted_legs terms.asked legs)) apart

  -- a table takes a leg that is counted
  pub leg_counted : (old new : Reconciliation) (result : Result (Unit {0}) ReportFault) → IsTable terms legs old
      → new.scope ≡ old.scope → new.form ≡ old.form → has (asked_in old.scope.now) leg ≡ true
      → ((lines : List Line) (before : List DatedLeg) → AreBalances lines before old.rows.entries
      → Adds (leg_fits lines before leg) (AreBalances lines (before ++ leg ∷ []) new.rows.entries) result)
      → Adds (fits terms legs leg) (IsTable terms (legs ++ leg ∷ []) new) result
  leg_counted old new result (asked, form, each, are) scope_is form_is asked_for added =
      by result (added terms.lines (counted_legs terms.asked legs) are)
    where
      here : has terms.asked leg ≡ true
      here = subst (λ (a : Asked). has a leg ≡ true) asked asked_for

      by : (r : Result (Unit {0}) ReportFault)
          → Adds (leg_fits terms.lines (counted_legs terms.asked legs) leg) (AreBalances terms.lines (counted_legs terms.asked legs ++ leg ∷ []) new.rows.entries) r
          → Adds (fits terms legs leg) (IsTable terms (legs ++ leg ∷ []) new) r
      by (Ok done) (room, rows) =
          let fit : fits terms legs leg ≡ true = ap (λ b. not b || leg_fits terms.lines (counted_legs terms.asked legs) leg) here ∙ room in (
            fit,
            (
              ap (λ scope. asked_in scope.now) scope_is ∙ asked,
              form_is ∙ form,
              fit_more (fits terms) [] legs leg each fit,
              subst (λ (ls : List DatedLeg). AreBalances terms.lines ls new.rows.entries) (sym (counted_behind here)) rows,
            ),
          )
      by (Err Range) unfit = ap not (ap (λ b. not b || leg_fits terms.lines (counted_legs terms.asked legs) leg) here) ∙ unfit
      by (Err Write) never = never
      by (Err Memory) says = tt

  -- a table passes over a leg that isn't
  pub leg_passed : (table : Reconciliation) → IsTable terms legs table → has (asked_in table.scope.now) leg ≡ false
      → IsTrue (fits terms legs leg) × IsTable terms (legs ++ leg ∷ []) table
  leg_passed table (asked, form, each, are) apart =
      let passed : has terms.asked leg ≡ false = subst (λ (a : Asked). has a leg ≡ false) asked apart in
      let fit : fits terms legs leg ≡ true = ap (λ b. not b || leg_fits terms.lines (counted_legs terms.asked legs) leg) passed in (
        fit,
        (
          asked,
          form,
          fit_more (fits terms) [] legs leg each fit,
          subst (λ (ls : List DatedLeg). AreBalances terms.lines ls table.rows.entries) (sym (passed_behind passed)) are,
        ),
      )

module _ (terms : Terms) (legs : List DatedLeg) (table : Reconciliation) (is : IsTable terms legs table) where
  -- the lines of a table are those of its legs
  pub table_end : IsEnd terms legs (table_lines table.form table.rows.entries)
  table_end = (table.rows.entries, is.3, ap (λ form. table_lines form table.rows.entries) is.1)

  pub table_agrees : (says : Bool) → says ≡ agree table.rows.entries → Agrees terms legs says
  table_agrees says same = (table.rows.entries, is.3, same)
