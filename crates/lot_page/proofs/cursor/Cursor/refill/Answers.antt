use Rattle.std.proofs.Common.{◌∙◌, Ok, ap, drop, option_map, rules, subst}
use Rattle.sqlite.specs.Held.{state}
use Rattle.lot_page.specs.Cursor.{Place, Refills}
use Rattle.lot_page.proofs.StepLemmas.{none_left, ready, refilled, some_left}
use Rattle.lot_page.proofs.cursor.Cursor.refill.Goals as goal

pub returns-then-self-len : goal.returns-then-self-len
returns-then-self-len g c =
    record {
      refills = ready g.R.TableRow.encode g.R.PagedRow.rows c.args.self.now (state g.S.Store c.args.conn.now)
          (λ none. some_left c.self.inside.page.items c.self.inside.at (search rules) (ap (λ (place : Place). place.ahead) c.self.view_is ∙ none));
    }

pub returns : goal.returns
returns g c =
    let old = state g.S.Store c.args.conn.now in
    let new = state g.S.Store c.page.new.conn in
    let before : Place = record { width = g.R.PagedRow.width; ahead = drop c.self.inside.at c.self.inside.page.items; last = option_map g.R.TableRow.encode c.self.inside.last } in
    let after : Place = record { width = before.width; ahead = drop 0 c.in_ok-self-inside.field-0.items; last = before.last } in
    record {
      refills = subst (λ (place : Place). Refills g.R.TableRow.encode g.R.PagedRow.rows place after old new (Ok tt)) c.self.view_is
          (refilled g.R.TableRow.encode g.R.PagedRow.rows before g.R.PagedRow.most old new c.in_ok-self-inside.field-0 (none_left c.self.inside.page.items c.self.inside.at (search rules)) c.in_ok-self-inside.ensures.pages);
    }
