use Rattle.std.proofs.Common.{refl, rules}
use Rattle.std.proofs.lemmas.Result.{err_from_is_err_and}
use Rattle.sqlite.specs.Held.{state}
use Rattle.lot_recall.proofs.PlaceLemmas.{both_left, got_end, got_key, notes_left, rows_end, rows_given, steps_end, steps_given, steps_legs, steps_notes, steps_unnoted, steps_unrecalled}
use Rattle.lot_recall.proofs.place.RecallPlacePlace.next.Goals as goal

pub returns-in_default-clause-steps : goal.returns-in_default-clause-steps
returns-in_default-clause-steps g c =
    let none = got_end c.args.self.now.keys.items c.args.self.now.at (search rules) in
    steps_end c.args.self.now (state g.S.Store c.args.conn.now) none

pub returns-in_default-clause-rows : goal.returns-in_default-clause-rows
returns-in_default-clause-rows g c =
    let none = got_end c.args.self.now.keys.items c.args.self.now.at (search rules) in
    rows_end c.args.self.now (state g.S.Store c.args.conn.now) none

pub returns-in_err-read_legs-clause-steps : goal.returns-in_err-read_legs-clause-steps
returns-in_err-read_legs-clause-steps g c =
    let old = c.args.self.now in
    let got = got_key old.keys.items old.at c.in-Some.key.now (search rules) (search rules) in
    let fault = err_from_is_err_and c.from_residual.result c.from_residual.ensures.1 in
    rw (fault.1, fault.2)
    (steps_legs old c.in-Some.key.now got (record old { legs = c.read_legs.new.self }) c.read_legs.new.self.rows.items (state g.S.Store c.args.conn.now)
    (state g.S.Store c.read_legs.new.conn) c.in_err-read_legs.field-0.0 c.in_err-read_legs.ensures.looks)

pub returns-in_err-read_legs-clause-left : goal.returns-in_err-read_legs-clause-left
returns-in_err-read_legs-clause-left g c =
    let fault = err_from_is_err_and c.from_residual.result c.from_residual.ensures.1 in
    rw fault.1 (λ clean. c.in_err-read_legs.ensures.looks.left clean)

pub returns-in_err-read_entry-clause-steps : goal.returns-in_err-read_entry-clause-steps
returns-in_err-read_entry-clause-steps g c =
    let old = c.args.self.now in
    let got = got_key old.keys.items old.at c.in-Some.key.now (search rules) (search rules) in
    let fault = err_from_is_err_and c.from_residual-in_err-read_entry.result c.from_residual-in_err-read_entry.ensures.1 in
    rw (fault.1, fault.2)
    (steps_notes old c.in-Some.key.now got c.read_legs.new.self.rows.items (state g.S.Store c.args.conn.now) (state g.S.Store c.read_legs.new.conn)
    c.in_ok-read_legs.ensures.looks (record old { legs = c.read_legs.new.self; notes = c.read_entry.new.self }) c.read_entry.new.self.rows.items
    (state g.S.Store c.read_entry.new.conn) c.in_err-read_entry.field-0.0 c.in_err-read_entry.ensures.looks)

pub returns-in_err-read_entry-clause-left : goal.returns-in_err-read_entry-clause-left
returns-in_err-read_entry-clause-left g c =
    let old = c.args.self.now in
    let got = got_key old.keys.items old.at c.in-Some.key.now (search rules) (search rules) in
    let fault = err_from_is_err_and c.from_residual-in_err-read_entry.result c.from_residual-in_err-read_entry.ensures.1 in
    rw fault.1
    (notes_left old c.in-Some.key.now got c.read_legs.new.self.rows.items (state g.S.Store c.args.conn.now) (state g.S.Store c.read_legs.new.conn)
    c.in_ok-read_legs.ensures.looks c.read_entry.new.self.rows.items (state g.S.Store c.read_entry.new.conn) c.in_err-read_entry.field-0.0
    c.in_err-read_entry.ensures.looks)

pub returns-in_err-narration-clause-steps : goal.returns-in_err-narration-clause-steps
returns-in_err-narration-clause-steps g c =
    let old = c.args.self.now in
    let got = got_key old.keys.items old.at c.in-Some.key.now (search rules) (search rules) in
    let fault = err_from_is_err_and c.from_residual-in_err-narration.result c.from_residual-in_err-narration.ensures.1 in
    rw (fault.1, fault.2)
    (steps_unnoted old c.in-Some.key.now got c.read_legs.new.self.rows.items (state g.S.Store c.args.conn.now) (state g.S.Store c.read_legs.new.conn)
    c.in_ok-read_legs.ensures.looks c.read_entry.new.self.rows.items (state g.S.Store c.read_entry.new.conn) c.in_ok-read_entry.ensures.looks
    _ c.in_err-narration.field-0.0 (search rules)
    c.in_err-narration.ensures.notes)

pub returns-in_err-narration-clause-left : goal.returns-in_err-narration-clause-left
returns-in_err-narration-clause-left g c =
    let old = c.args.self.now in
    let got = got_key old.keys.items old.at c.in-Some.key.now (search rules) (search rules) in
    let fault = err_from_is_err_and c.from_residual-in_err-narration.result c.from_residual-in_err-narration.ensures.1 in
    rw fault.1
    (both_left old c.in-Some.key.now got c.read_legs.new.self.rows.items (state g.S.Store c.args.conn.now) (state g.S.Store c.read_legs.new.conn)
    c.in_ok-read_legs.ensures.looks c.read_entry.new.self.rows.items (state g.S.Store c.read_entry.new.conn) c.in_ok-read_entry.ensures.looks)

pub returns-in_err-leg-clause-steps : goal.returns-in_err-leg-clause-steps
returns-in_err-leg-clause-steps g c =
    let old = c.args.self.now in
    let got = got_key old.keys.items old.at c.in-Some.key.now (search rules) (search rules) in
    let fault = err_from_is_err_and c.from_residual-in_err-leg.result c.from_residual-in_err-leg.ensures.1 in
    rw (fault.1, fault.2)
    (steps_unrecalled old c.in-Some.key.now got c.read_legs.new.self.rows.items (state g.S.Store c.args.conn.now) (state g.S.Store c.read_legs.new.conn)
    c.in_ok-read_legs.ensures.looks c.read_entry.new.self.rows.items (state g.S.Store c.read_entry.new.conn) c.in_ok-read_entry.ensures.looks
    _ c.in_ok-narration.narration c.in_err-leg.field-0.0 (search rules)
    c.in_err-leg.ensures.recalls)

pub returns-in_err-leg-clause-left : goal.returns-in_err-leg-clause-left
returns-in_err-leg-clause-left g c =
    let old = c.args.self.now in
    let got = got_key old.keys.items old.at c.in-Some.key.now (search rules) (search rules) in
    let fault = err_from_is_err_and c.from_residual-in_err-leg.result c.from_residual-in_err-leg.ensures.1 in
    rw fault.1
    (both_left old c.in-Some.key.now got c.read_legs.new.self.rows.items (state g.S.Store c.args.conn.now) (state g.S.Store c.read_legs.new.conn)
    c.in_ok-read_legs.ensures.looks c.read_entry.new.self.rows.items (state g.S.Store c.read_entry.new.conn) c.in_ok-read_entry.ensures.looks)

pub returns-clause-steps : goal.returns-clause-steps
returns-clause-steps g c =
    let old = c.args.self.now in
    let got = got_key old.keys.items old.at c.in-Some.key.now (search rules) (search rules) in
    steps_given old c.in-Some.key.now got c.read_legs.new.self.rows.items (state g.S.Store c.args.conn.now) (state g.S.Store c.read_legs.new.conn)
    c.in_ok-read_legs.ensures.looks c.read_entry.new.self.rows.items (state g.S.Store c.read_entry.new.conn) c.in_ok-read_entry.ensures.looks
    c.in_ok-leg.leg c.in_ok-narration.narration c.in_ok-leg.ensures.recalls c.in_ok-narration.ensures.notes _ refl refl refl refl
    c.canonical_texts_tell_commands_apart.ensures.one

pub returns-clause-rows : goal.returns-clause-rows
returns-clause-rows g c =
    let old = c.args.self.now in
    let got = got_key old.keys.items old.at c.in-Some.key.now (search rules) (search rules) in
    rows_given old c.in-Some.key.now got c.read_legs.new.self.rows.items (state g.S.Store c.args.conn.now) (state g.S.Store c.read_legs.new.conn)
    c.in_ok-read_legs.ensures.looks c.read_entry.new.self.rows.items (state g.S.Store c.read_entry.new.conn) c.in_ok-read_entry.ensures.looks
    c.in_ok-leg.leg c.in_ok-narration.narration c.in_ok-leg.ensures.recalls c.in_ok-narration.ensures.notes _ refl refl refl refl
