-- Each question behind the ones before it.
use Rattle.std.proofs.Common.{Ok, refl, ap}
use Rattle.sqlite.specs.Held.{state}
use Rattle.lot_audit.proofs.StepLemmas.{all_judged, legs_unread, no_memory, none_accepts, nothing_said, other_first, other_legs, other_sales, rows_gone, rows_unread, sales_unread, seen_alike, seen_first, seen_legs, seen_rows, seen_sales}
use Rattle.lot_audit.proofs.pass.judge_row.Goals as goal

pub returns-in_default : goal.returns-in_default
returns-in_default g c =
    let pass = c.args.pass in
    let row = c.args.row in
    let old = state g.S.Store c.args.conn.now in
    let before = c.entries.result in
    let count = rw c.view.ensures at c.entries.ensures in
    record { judges = nothing_said pass row old before count (rw c.in_default.is at c.in_ok-said.ensures) }

pub returns-then-not-branch : goal.returns-then-not-branch
returns-then-not-branch g c =
    let pass = c.args.pass in
    let row = c.args.row in
    let old = state g.S.Store c.args.conn.now in
    let before = c.entries.result in
    let count = rw c.view.ensures at c.entries.ensures in
    let said = rw c.in-Some.is at c.in_ok-said.ensures in
    let key = c.in-Some.said.key in
    let command = c.in-Some.said.command in
    let one = state g.S.Store c.is_first_under.new.conn in
    record { judges = other_first pass row old before count key command said one c.in_ok-is_first_under.field-0 c.if-not-branch.true c.in_ok-is_first_under.ensures.checks }

pub returns-in_default-2 : goal.returns-in_default-2
returns-in_default-2 g c =
    let pass = c.args.pass in
    let row = c.args.row in
    let old = state g.S.Store c.args.conn.now in
    let before = c.entries.result in
    let count = rw c.view.ensures at c.entries.ensures in
    let said = rw c.in-Some.is at c.in_ok-said.ensures in
    let key = c.in-Some.said.key in
    let command = c.in-Some.said.command in
    let one = state g.S.Store c.is_first_under.new.conn in
    let first = seen_first pass row old before count key command said one c.in_ok-is_first_under.field-0 c.if-not-branch.false c.in_ok-is_first_under.ensures.checks in
    record { judges = none_accepts pass row old before count key command said one first (c.in_ok-replay.ensures.refused (ap Ok c.in_default-2.is)) }

pub returns-in_err-legs_of : goal.returns-in_err-legs_of
returns-in_err-legs_of g c =
    let pass = c.args.pass in
    let row = c.args.row in
    let old = state g.S.Store c.args.conn.now in
    let before = c.entries.result in
    let count = rw c.view.ensures at c.entries.ensures in
    let said = rw c.in-Some.is at c.in_ok-said.ensures in
    let key = c.in-Some.said.key in
    let command = c.in-Some.said.command in
    let one = state g.S.Store c.is_first_under.new.conn in
    let first = seen_first pass row old before count key command said one c.in_ok-is_first_under.field-0 c.if-not-branch.false c.in_ok-is_first_under.ensures.checks in
    let replay = c.in-Some-2.replay in
    let change = c.in-Some-2.change in
    let follow = rw c.in-Some-2.is at c.in_ok-replay.ensures.follows in
    let two = state g.S.Store c.legs_of.new.conn in
    record { judges = legs_unread pass row old before count key command said one first two c.in_err-legs_of.field-0.0 c.from_residual-in_err-legs_of.result c.from_residual-in_err-legs_of.ensures.1 c.in_err-legs_of.ensures.lists }

pub returns-then-not-legs_agree : goal.returns-then-not-legs_agree
returns-then-not-legs_agree g c =
    let pass = c.args.pass in
    let row = c.args.row in
    let old = state g.S.Store c.args.conn.now in
    let before = c.entries.result in
    let count = rw c.view.ensures at c.entries.ensures in
    let said = rw c.in-Some.is at c.in_ok-said.ensures in
    let key = c.in-Some.said.key in
    let command = c.in-Some.said.command in
    let one = state g.S.Store c.is_first_under.new.conn in
    let first = seen_first pass row old before count key command said one c.in_ok-is_first_under.field-0 c.if-not-branch.false c.in_ok-is_first_under.ensures.checks in
    let replay = c.in-Some-2.replay in
    let change = c.in-Some-2.change in
    let follow = rw c.in-Some-2.is at c.in_ok-replay.ensures.follows in
    let two = state g.S.Store c.legs_of.new.conn in
    let found = c.in_ok-legs_of.field-0 in
    let legs = seen_legs pass row old before count key command said one first replay change follow two found c.in_ok-legs_of.ensures.lists in
    let tells = rw (c.deref.ensures.value, c.as_slice.ensures) at c.legs_agree.ensures in
    record { judges = other_legs pass row old before count key command said one first replay change follow two found.items legs c.legs_agree.result tells c.if-not-legs_agree.true }

pub returns-in_err-has_rows : goal.returns-in_err-has_rows
returns-in_err-has_rows g c =
    let pass = c.args.pass in
    let row = c.args.row in
    let old = state g.S.Store c.args.conn.now in
    let before = c.entries.result in
    let count = rw c.view.ensures at c.entries.ensures in
    let said = rw c.in-Some.is at c.in_ok-said.ensures in
    let key = c.in-Some.said.key in
    let command = c.in-Some.said.command in
    let one = state g.S.Store c.is_first_under.new.conn in
    let first = seen_first pass row old before count key command said one c.in_ok-is_first_under.field-0 c.if-not-branch.false c.in_ok-is_first_under.ensures.checks in
    let replay = c.in-Some-2.replay in
    let change = c.in-Some-2.change in
    let follow = rw c.in-Some-2.is at c.in_ok-replay.ensures.follows in
    let two = state g.S.Store c.legs_of.new.conn in
    let found = c.in_ok-legs_of.field-0 in
    let legs = seen_legs pass row old before count key command said one first replay change follow two found c.in_ok-legs_of.ensures.lists in
    let tells = rw (c.deref.ensures.value, c.as_slice.ensures) at c.legs_agree.ensures in
    let alike = seen_alike pass row old before count key command said one first replay change follow two found.items legs c.legs_agree.result tells c.if-not-legs_agree.false in
    let three = state g.S.Store c.has_rows.new.conn in
    record { judges = rows_unread pass row old before count key command said one first replay change follow two found.items legs c.legs_agree.result tells alike three c.in_err-has_rows.field-0.0 c.from_residual-in_err-has_rows.result c.from_residual-in_err-has_rows.ensures.1 c.in_err-has_rows.ensures.checks }

pub returns-then-not-branch-2 : goal.returns-then-not-branch-2
returns-then-not-branch-2 g c =
    let pass = c.args.pass in
    let row = c.args.row in
    let old = state g.S.Store c.args.conn.now in
    let before = c.entries.result in
    let count = rw c.view.ensures at c.entries.ensures in
    let said = rw c.in-Some.is at c.in_ok-said.ensures in
    let key = c.in-Some.said.key in
    let command = c.in-Some.said.command in
    let one = state g.S.Store c.is_first_under.new.conn in
    let first = seen_first pass row old before count key command said one c.in_ok-is_first_under.field-0 c.if-not-branch.false c.in_ok-is_first_under.ensures.checks in
    let replay = c.in-Some-2.replay in
    let change = c.in-Some-2.change in
    let follow = rw c.in-Some-2.is at c.in_ok-replay.ensures.follows in
    let two = state g.S.Store c.legs_of.new.conn in
    let found = c.in_ok-legs_of.field-0 in
    let legs = seen_legs pass row old before count key command said one first replay change follow two found c.in_ok-legs_of.ensures.lists in
    let tells = rw (c.deref.ensures.value, c.as_slice.ensures) at c.legs_agree.ensures in
    let alike = seen_alike pass row old before count key command said one first replay change follow two found.items legs c.legs_agree.result tells c.if-not-legs_agree.false in
    let three = state g.S.Store c.has_rows.new.conn in
    record { judges = rows_gone pass row old before count key command said one first replay change follow two found.items legs c.legs_agree.result tells alike three c.in_ok-has_rows.field-0 c.if-not-branch-2.true c.in_ok-has_rows.ensures.checks }

pub returns-in_err-sales_follow : goal.returns-in_err-sales_follow
returns-in_err-sales_follow g c =
    let pass = c.args.pass in
    let row = c.args.row in
    let old = state g.S.Store c.args.conn.now in
    let before = c.entries.result in
    let count = rw c.view.ensures at c.entries.ensures in
    let said = rw c.in-Some.is at c.in_ok-said.ensures in
    let key = c.in-Some.said.key in
    let command = c.in-Some.said.command in
    let one = state g.S.Store c.is_first_under.new.conn in
    let first = seen_first pass row old before count key command said one c.in_ok-is_first_under.field-0 c.if-not-branch.false c.in_ok-is_first_under.ensures.checks in
    let replay = c.in-Some-2.replay in
    let change = c.in-Some-2.change in
    let follow = rw c.in-Some-2.is at c.in_ok-replay.ensures.follows in
    let two = state g.S.Store c.legs_of.new.conn in
    let found = c.in_ok-legs_of.field-0 in
    let legs = seen_legs pass row old before count key command said one first replay change follow two found c.in_ok-legs_of.ensures.lists in
    let tells = rw (c.deref.ensures.value, c.as_slice.ensures) at c.legs_agree.ensures in
    let alike = seen_alike pass row old before count key command said one first replay change follow two found.items legs c.legs_agree.result tells c.if-not-legs_agree.false in
    let three = state g.S.Store c.has_rows.new.conn in
    let rows = seen_rows pass row old before count key command said one first replay change follow two found.items legs c.legs_agree.result tells alike three c.in_ok-has_rows.field-0 c.if-not-branch-2.false c.in_ok-has_rows.ensures.checks in
    let four = state g.S.Store c.sales_follow.new.conn in
    let cursor = c.sales_follow.new.cursor in
    record { judges = sales_unread pass row old before count key command said one first replay change follow two found.items legs c.legs_agree.result tells alike three rows four cursor c.in_err-sales_follow.field-0.0 c.from_residual-in_err-sales_follow.result c.from_residual-in_err-sales_follow.ensures.1 (rw c.as_slice-2.ensures at c.in_err-sales_follow.ensures.follow) }

pub returns-then-not-branch-3 : goal.returns-then-not-branch-3
returns-then-not-branch-3 g c =
    let pass = c.args.pass in
    let row = c.args.row in
    let old = state g.S.Store c.args.conn.now in
    let before = c.entries.result in
    let count = rw c.view.ensures at c.entries.ensures in
    let said = rw c.in-Some.is at c.in_ok-said.ensures in
    let key = c.in-Some.said.key in
    let command = c.in-Some.said.command in
    let one = state g.S.Store c.is_first_under.new.conn in
    let first = seen_first pass row old before count key command said one c.in_ok-is_first_under.field-0 c.if-not-branch.false c.in_ok-is_first_under.ensures.checks in
    let replay = c.in-Some-2.replay in
    let change = c.in-Some-2.change in
    let follow = rw c.in-Some-2.is at c.in_ok-replay.ensures.follows in
    let two = state g.S.Store c.legs_of.new.conn in
    let found = c.in_ok-legs_of.field-0 in
    let legs = seen_legs pass row old before count key command said one first replay change follow two found c.in_ok-legs_of.ensures.lists in
    let tells = rw (c.deref.ensures.value, c.as_slice.ensures) at c.legs_agree.ensures in
    let alike = seen_alike pass row old before count key command said one first replay change follow two found.items legs c.legs_agree.result tells c.if-not-legs_agree.false in
    let three = state g.S.Store c.has_rows.new.conn in
    let rows = seen_rows pass row old before count key command said one first replay change follow two found.items legs c.legs_agree.result tells alike three c.in_ok-has_rows.field-0 c.if-not-branch-2.false c.in_ok-has_rows.ensures.checks in
    let four = state g.S.Store c.sales_follow.new.conn in
    let cursor = c.sales_follow.new.cursor in
    record { judges = other_sales pass row old before count key command said one first replay change follow two found.items legs c.legs_agree.result tells alike three rows four cursor c.in_ok-sales_follow.field-0 c.if-not-branch-3.true (rw c.as_slice-2.ensures at c.in_ok-sales_follow.ensures.follow) }

pub returns-in_err-quote : goal.returns-in_err-quote
returns-in_err-quote g c =
    let pass = c.args.pass in
    let row = c.args.row in
    let old = state g.S.Store c.args.conn.now in
    let before = c.entries.result in
    let count = rw c.view.ensures at c.entries.ensures in
    let said = rw c.in-Some.is at c.in_ok-said.ensures in
    let key = c.in-Some.said.key in
    let command = c.in-Some.said.command in
    let one = state g.S.Store c.is_first_under.new.conn in
    let first = seen_first pass row old before count key command said one c.in_ok-is_first_under.field-0 c.if-not-branch.false c.in_ok-is_first_under.ensures.checks in
    let replay = c.in-Some-2.replay in
    let change = c.in-Some-2.change in
    let follow = rw c.in-Some-2.is at c.in_ok-replay.ensures.follows in
    let two = state g.S.Store c.legs_of.new.conn in
    let found = c.in_ok-legs_of.field-0 in
    let legs = seen_legs pass row old before count key command said one first replay change follow two found c.in_ok-legs_of.ensures.lists in
    let tells = rw (c.deref.ensures.value, c.as_slice.ensures) at c.legs_agree.ensures in
    let alike = seen_alike pass row old before count key command said one first replay change follow two found.items legs c.legs_agree.result tells c.if-not-legs_agree.false in
    let three = state g.S.Store c.has_rows.new.conn in
    let rows = seen_rows pass row old before count key command said one first replay change follow two found.items legs c.legs_agree.result tells alike three c.in_ok-has_rows.field-0 c.if-not-branch-2.false c.in_ok-has_rows.ensures.checks in
    let four = state g.S.Store c.sales_follow.new.conn in
    let cursor = c.sales_follow.new.cursor in
    let sold = seen_sales pass row old before count key command said one first replay change follow two found.items legs c.legs_agree.result tells alike three rows four cursor c.in_ok-sales_follow.field-0 c.if-not-branch-3.false (rw c.as_slice-2.ensures at c.in_ok-sales_follow.ensures.follow) in
    record { judges = no_memory pass row old before count key command said one first replay change follow two found.items legs c.legs_agree.result tells alike three rows four cursor sold _ c.from_residual-in_err-quote.result refl c.from_residual-in_err-quote.ensures.1 }

pub returns : goal.returns
returns g c =
    let pass = c.args.pass in
    let row = c.args.row in
    let old = state g.S.Store c.args.conn.now in
    let before = c.entries.result in
    let count = rw c.view.ensures at c.entries.ensures in
    let said = rw c.in-Some.is at c.in_ok-said.ensures in
    let key = c.in-Some.said.key in
    let command = c.in-Some.said.command in
    let one = state g.S.Store c.is_first_under.new.conn in
    let first = seen_first pass row old before count key command said one c.in_ok-is_first_under.field-0 c.if-not-branch.false c.in_ok-is_first_under.ensures.checks in
    let replay = c.in-Some-2.replay in
    let change = c.in-Some-2.change in
    let follow = rw c.in-Some-2.is at c.in_ok-replay.ensures.follows in
    let two = state g.S.Store c.legs_of.new.conn in
    let found = c.in_ok-legs_of.field-0 in
    let legs = seen_legs pass row old before count key command said one first replay change follow two found c.in_ok-legs_of.ensures.lists in
    let tells = rw (c.deref.ensures.value, c.as_slice.ensures) at c.legs_agree.ensures in
    let alike = seen_alike pass row old before count key command said one first replay change follow two found.items legs c.legs_agree.result tells c.if-not-legs_agree.false in
    let three = state g.S.Store c.has_rows.new.conn in
    let rows = seen_rows pass row old before count key command said one first replay change follow two found.items legs c.legs_agree.result tells alike three c.in_ok-has_rows.field-0 c.if-not-branch-2.false c.in_ok-has_rows.ensures.checks in
    let four = state g.S.Store c.sales_follow.new.conn in
    let cursor = c.sales_follow.new.cursor in
    let sold = seen_sales pass row old before count key command said one first replay change follow two found.items legs c.legs_agree.result tells alike three rows four cursor c.in_ok-sales_follow.field-0 c.if-not-branch-3.false (rw c.as_slice-2.ensures at c.in_ok-sales_follow.ensures.follow) in
    record { judges = all_judged pass row old before count key command said one first replay change follow two found.items legs c.legs_agree.result tells alike three rows four cursor sold c.quote.new.self c.in_ok-quote.ensures }
