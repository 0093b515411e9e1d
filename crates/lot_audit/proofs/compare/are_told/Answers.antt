-- Each row that was read tells it.
use Rattle.std.proofs.Common.{rules, Err, Ok, ◌≡◌, ◌++◌, ◌∷◌, [], ◌∙◌, ap, arith, sym}
use Rattle.std.proofs.lemmas.Grind.{common_steps}
use Rattle.std.proofs.lemmas.List.{append-nil, append_assoc, nil_from_length}
use Rattle.sqlite_keyed.proofs.ListLemmas.{all-append}
use Rattle.sqlite.specs.Held.{state}
use Rattle.lot_audit.proofs.SeenLemmas.{tells_not}
use Rattle.lot_audit.proofs.TellLemmas.{columns_among, columns_whole}
use Rattle.lot_audit.proofs.WholeLemmas.{lists_all}
use Rattle.lot_audit.proofs.compare.are_told.Goals as goal

pub select-requires : goal.select-requires
select-requires g c = c.requires.asks.is.selects

pub returns-in_err-rows : goal.returns-in_err-rows
returns-in_err-rows g c =
    let asks = c.requires in
    let old = state g.S.Store c.args.conn.now in
    let new = state g.S.Store c.select.new.conn in
    let fault = c.in_err-rows.field-0.0 in
    let lists = lists_all g.R.TableRow.encode g.R.TableRow.IsGood g.R.ToldRow.rows c.args.statement.now asks old new
    (Err fault) c.in_err-rows.ensures.selects in
    record { checks = tells_not _ _ _ _ old new fault c.from_residual.result c.from_residual.ensures.1 lists asks.sound }

pub returns-then-not-agrees : goal.returns-then-not-agrees
returns-then-not-agrees g c =
    let gives : c.into_iter-row-iterator.result.rest.items ≡ c.in_ok-rows.rows.items = search rules in
    let asks = c.requires in
    let old = state g.S.Store c.args.conn.now in
    let new = state g.S.Store c.select.new.conn in
    let lists = lists_all g.R.TableRow.encode g.R.TableRow.IsGood g.R.ToldRow.rows c.args.statement.now asks old new
    (Ok c.in_ok-rows.rows) c.in_ok-rows.ensures.selects in
    record {
      checks = columns_among g.R.TableRow.encode g.R.TableRow.IsGood asks.one (g.R.ToldRow.Tells c.args.known.now) g.R.ToldRow.rows
          old new c.in_ok-rows.rows c.rows.yielded c.next.new.self.rest.items
          c.in-Some.row c.agrees.result lists
          (ap (λ l. c.rows.yielded ++ l) (sym c.in-Some.ensures.steps.0) ∙ c.rows.invariant.0 ∙ gives) c.agrees.ensures c.if-not-agrees.true;
    }

pub rows-preserved : goal.rows-preserved
rows-preserved g c = (
  append_assoc c.rows.yielded (c.in-Some.row ∷ []) c.next.new.self.rest.items
      ∙ ap (λ l. c.rows.yielded ++ l) (sym c.in-Some.ensures.steps.0) ∙ c.rows.invariant.0,
  all-append (g.R.ToldRow.Tells c.args.known.now) c.rows.yielded (c.in-Some.row ∷ []) c.rows.invariant.1
      (c.agrees.ensures.0 c.if-not-agrees.false, tt),
)

pub returns : goal.returns
returns g c =
    let gives : c.into_iter-row-iterator.result.rest.items ≡ c.in_ok-rows.rows.items = search rules in
    let none = nil_from_length c.rows.row-iterator.rest.items (grind (arith, common_steps)) in
    let asks = c.requires in
    let old = state g.S.Store c.args.conn.now in
    let new = state g.S.Store c.select.new.conn in
    let lists = lists_all g.R.TableRow.encode g.R.TableRow.IsGood g.R.ToldRow.rows c.args.statement.now asks old new
    (Ok c.in_ok-rows.rows) c.in_ok-rows.ensures.selects in
    record {
      checks = columns_whole g.R.TableRow.encode g.R.TableRow.IsGood asks.one (g.R.ToldRow.Tells c.args.known.now) g.R.ToldRow.rows
          old new c.in_ok-rows.rows c.rows.yielded lists
          (sym (append-nil c.rows.yielded) ∙ ap (λ l. c.rows.yielded ++ l) (sym none) ∙ c.rows.invariant.0 ∙ gives) c.rows.invariant.1;
    }
