use Rattle.std.proofs.Common.{◌≡◌, ◌∷◌, ◌∙◌, ◌+◌, ℕ, List, Ok, Some, Vec, ap, ap₂, [], drop, map, option_map, rules, subst, sym}
use Rattle.std.specs.declared.alloc.Global.{Global}
use Rattle.sqlite.specs.Held.{state}
use Rattle.sqlite.specs.Order.{Row}
use Rattle.sqlite.specs.Tree.{Trees}
use Rattle.lot_page.specs.Cursor.{Place, Rises, Steps}
use Rattle.lot_rows.specs.Tables.{Tables, layout}
use Rattle.lot_table.specs.Book.{Holds}
use Rattle.lot_page.proofs.StepLemmas.{ended, none_left, row_left, some_left, stepped, stopped}
use Rattle.lot_page.proofs.cursor.Cursor.next.Goals.{then-self-len+in_ok-read+in-Some-1, then-self-len+in_ok-read+in-None-1, else-self-len}
use Rattle.lot_page.proofs.cursor.Cursor.next.Goals as goal

pub returns-in_default : goal.returns-in_default
returns-in_default g c =
    record {
      steps = ended g.R.TableRow.encode g.R.PagedRow.rows g.R.TableRow.IsGood c.args.self.now c.refill.new.self (state g.S.Store c.args.conn.now) (state g.S.Store c.refill.new.conn) c.in_ok-refill.ensures.refills
          (sym (ap (λ (place : Place). place.ahead) c.self.view_is) ∙ none_left c.self.inside.page.items c.self.inside.at (search rules));
    }

pub returns-in_err-row : goal.returns-in_err-row
returns-in_err-row g c =
    let items = c.self.inside.page.items in
    let at = c.self.inside.at in
    let ahead = sym (ap (λ (place : Place). place.ahead) c.self.view_is) ∙ row_left items at c.in-Some.columns.now (search rules) (search rules) in
    let steps =
    stopped g.R.TableRow.encode g.R.PagedRow.rows g.R.TableRow.IsGood c.args.self.now c.refill.new.self (state g.S.Store c.args.conn.now) (state g.S.Store c.refill.new.conn) c.in_ok-refill.ensures.refills
    c.in_err-row.field-0.0 c.in-Some.columns.now (drop (at + 1) items) ahead (search rules) (search rules) in
    record { steps = search rules }

pub returns : goal.returns
returns g c =
    let items = c.self.inside.page.items in
    let at = c.self.inside.at in
    let encode = g.R.TableRow.encode in
    let row = c.in_ok-row.row in
    let mid = c.refill.new.self in
    let after = c.if-self-len.self-inside in
    let kept : (after.page ≡ c.self.inside.page) × (after.at ≡ at) × (drop (at + 1) items ≡ [] → option_map encode after.last ≡ Some (encode row)) =
    elim c.if-self-len.branch [
      | then-self-len+in_ok-read+in-Some-1 w ↦
          (ap (λ inside. inside.page) w.self-inside-is, ap (λ inside. inside.at) w.self-inside-is, λ none. ap (λ inside. option_map encode inside.last) w.self-inside-is ∙ ap Some (sym w.in_ok-read.ensures.ok ∙ c.in_ok-row.ensures.ok))
      | then-self-len+in_ok-read+in-None-1 w ↦
          (ap (λ inside. inside.page) w.self-inside-is, ap (λ inside. inside.at) w.self-inside-is, λ none. ap (λ inside. option_map encode inside.last) w.self-inside-is ∙ ap Some (sym w.in_ok-read.ensures.ok ∙ c.in_ok-row.ensures.ok))
      | else-self-len w ↦
          (ap (λ inside. inside.page) w.self-inside-is, ap (λ inside. inside.at) w.self-inside-is, λ none. absurd (some_left items (at + 1) (search rules) none))
    ] in
    let ahead = sym (ap (λ (place : Place). place.ahead) c.self.view_is) ∙ row_left items at c.in-Some.columns.now (search rules) (search rules) in
    let width : mid.width ≡ g.R.PagedRow.width = sym (ap (λ (place : Place). place.width) c.self.view_is) in
    let steps =
    stepped encode g.R.PagedRow.rows g.R.TableRow.IsGood c.args.self.now mid (state g.S.Store c.args.conn.now) (state g.S.Store c.refill.new.conn) c.in_ok-refill.ensures.refills
    row (drop (at + 1) items) (option_map encode after.last) (subst (λ columns. mid.ahead ≡ columns ∷ drop (at + 1) items) c.in_ok-row.ensures.ok ahead) kept.2 c.in_ok-row.ensures.good
    (subst (λ n. (trees : Trees) (tables : Tables) → Holds layout trees tables → Rises n (map encode (g.R.PagedRow.rows tables))) (sym width) g.met.R.PagedRow.rises) in
    let place : ℕ → List Row → Place = λ n rows. record { width = n; ahead = rows; last = option_map encode after.last } in
    let ahead_now : drop (at + 1) items ≡ drop (after.at + 1) after.page.items = ap₂ (λ n (page : Vec Row Global). drop (n + 1) page.items) (sym kept.1) (sym kept.0) in
    record { steps = subst (λ (now : Place). Steps encode g.R.TableRow.IsGood g.R.PagedRow.rows c.args.self.now now (state g.S.Store c.args.conn.now) (state g.S.Store c.refill.new.conn) (Ok (Some row))) (ap₂ place width ahead_now) steps }
