-- The commodities of the rows are the currencies, of which an opening has few.
use Rattle.std.specs.Prelude.{◌≡◌, ◌≤◌, List, ℕ, length, map}
use Rattle.std.proofs.Common.{sym, ap, subst, ◌∙◌, rules}
use Rattle.lot_command.specs.Currencies.{most_currencies}
use Rattle.lot_stored.specs.Kept.{currencies_of}
use Rattle.lot_stored.specs.Rows.{name_key}
use Rattle.lot_rows.specs.Allowed.{IsAllowedRow, allowed_cells}
use Rattle.lot_rows.specs.declared.allowed.AllowedRow.{AllowedRow}
use Rattle.lot_table.specs.Rows.{has_key}
use Rattle.lot_load.proofs.ReadLemmas.{denies, fails_first, passes, reads_first, tells}
use Rattle.lot_load.proofs.RowLemmas.{commodities_allowed, few_currencies, good_filtered}
use Rattle.lot_load.proofs.account.find_currencies.Goals as goal

pub returns-in_err-rows-clause-tells : goal.returns-in_err-rows-clause-tells
returns-in_err-rows-clause-tells g c =
    let old = g.D.Queryable.shown c.args.conn.now in
    let new = g.D.Queryable.shown c.list_of.new.conn in
    passes _ old new c.in_err-rows.field-0.0 c.from_residual.result c.from_residual.ensures.1
    (fails_first _ _ _ _ old new c.in_err-rows.field-0.0 c.in_err-rows.ensures.lists
    (λ tables entries book stand. good_filtered IsAllowedRow (λ row. has_key 1 (name_key c.args.account.now) (allowed_cells row)) tables.allowed stand.good.allowed))

pub returns-in-Some-clause-tells : goal.returns-in-Some-clause-tells
returns-in-Some-clause-tells g c =
    let old = g.D.Queryable.shown c.args.conn.now in
    let new = g.D.Queryable.shown c.list_of.new.conn in
    let account = c.args.account.now in
    let found = c.in_ok-commodities.field-0.items in
    let value : c.in-Some.currencies ≡ found = search rules in
    tells _ old new c.in-Some.currencies
    (reads_first _ _ _ (λ entries. c.in-Some.currencies ≡ currencies_of entries account) old new c.in_ok-rows.rows c.in_ok-rows.ensures.lists
    (λ tables entries book stand good is.
    value ∙ c.in_ok-commodities.ensures ∙ ap (map (λ (row : AllowedRow). row.commodity)) (c.deref.ensures.value ∙ is ∙ stand.allowed account)
    ∙ commodities_allowed account 0 (currencies_of entries account)))

pub returns-clause-tells : goal.returns-clause-tells
returns-clause-tells g c =
    let old = g.D.Queryable.shown c.args.conn.now in
    let new = g.D.Queryable.shown c.list_of.new.conn in
    let account = c.args.account.now in
    let found = c.in_ok-commodities.field-0.items in
    let many : length found ≤ most_currencies → ⊥ = search rules in
    denies _ old new
    (reads_first _ _ _ (λ entries. ⊥) old new c.in_ok-rows.rows c.in_ok-rows.ensures.lists
    (λ tables entries book stand good is.
    many (subst (λ (names : List (List ℕ)). length names ≤ most_currencies)
    (sym (c.in_ok-commodities.ensures ∙ ap (map (λ (row : AllowedRow). row.commodity)) (c.deref.ensures.value ∙ is ∙ stand.allowed account)
    ∙ commodities_allowed account 0 (currencies_of entries account))) (few_currencies entries account stand.said))))
