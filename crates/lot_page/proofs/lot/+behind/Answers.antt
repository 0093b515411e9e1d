use Rattle.std.proofs.Common.{Ok, ◌≡◌, ◌-◌, suc, arith, rules}
use Rattle.std.proofs.lemmas.List.{nil_from_length}
use Rattle.sqlite.specs.Held.{state}
use Rattle.lot_page.specs.Page.{page_rows}
use Rattle.lot_page.proofs.LotLemmas.{mounts_at}
use Rattle.lot_page.proofs.WalkLemmas.{first_pages, later_pages, level_pages}
use Rattle.lot_rows.specs.Lot.{lot_cells}
use Rattle.lot_page.proofs.lot.+behind.Goals as goal
use Rattle.lot_page.proofs.lot.+behind.Goals.{then-same-eq0-via-then-same-eq0, then-same-eq0-via-else-same-eq0+then-not-is_empty}

pub returns-then-same-eq0 : goal.returns-then-same-eq0
returns-then-same-eq0 g t c =
    let row = c.args.row.now in
    let old = state g.S.Store c.args.conn.now in
    let new = state g.S.Store c.level.new.conn in
    let page = c.in_ok-page.page in
    let first = rw (c.in_ok-page.was) at c.level.ensures.takes in
    elim c.then-same-eq0.branch [
      | then-same-eq0-via-then-same-eq0 w ↦
          let none : c.args.same ≡ 0 = w.if-same-eq0.true in
          record { pages = rw (none) (first_pages lot_cells (λ b. b.lot) page_rows (omega arith) (lot_cells row) old new (Ok page) (rw (none) at first)) }
      | then-same-eq0-via-else-same-eq0+then-not-is_empty w ↦
          record { pages = level_pages lot_cells (λ b. b.lot) page_rows (omega arith) c.args.same (lot_cells row) (mounts_at c.args.same (omega (arith, c.requires.same))) old new page (search rules) first }
    ]

pub returns : goal.returns
returns g t c =
    let row = c.args.row.now in
    let old = state g.S.Store c.args.conn.now in
    let mid = state g.S.Store c.level.new.conn in
    let new = state g.S.Store c.behind.new.conn in
    let page = c.in_ok-page.page in
    let first = rw (c.in_ok-page.was) at c.level.ensures.takes in
    let one_more : suc (c.args.same - 1) ≡ c.args.same = omega (arith, c.if-same-eq0.false) in
    record { pages = later_pages lot_cells (λ b. b.lot) page_rows (omega arith) c.args.same (lot_cells row) (mounts_at c.args.same (omega (arith, c.requires.same))) old mid page (nil_from_length page.items (search rules)) first new c.behind.result (rw (one_more) at c.behind.ensures.pages) }
