use Rattle.std.proofs.Common.{ℕ, ◌∙◌, arith, Bor, List, map, subst, sym, take, drop, suc}
use Rattle.lot_table.proofs.MakeLemmas.{keeps_shown, keeps_then, ran_then, split_at, taken, told_on}
use Rattle.lot_table.specs.Make.{HaltedIn, RanEach}
use Rattle.sqlite.proofs.StateLemmas.{survives_then}
use Rattle.sqlite.specs.Held.{state}
use Rattle.lot_table.proofs.make.make_each.Goals as goal

pub each-preserved : goal.each-preserved
each-preserved g c =
    let bytes : Bor (List ℕ) → List ℕ = λ t. t.now in
    let old = c.args.tx.now.conn.now in
    let now = c.each.tx.conn.now in
    let new = c.make_one.new.tx.conn.now in
    let was = c.each.invariant in (
      c.make_one.ensures.same_reference ∙ was.0,
      survives_then (state g.S.Store old) (state g.S.Store now) (state g.S.Store new) (λ _. ⊥) (λ _. ⊥) (λ _. ⊥) (λ _ db none. none) (λ _ db none. none) was.1 c.make_one.ensures.crash,
      λ clean.
          let early = was.2 (omega (arith, c.make_one.ensures.crash.clean)) in
          let inside = c.in_ok-make_one.ensures.inside clean in
          let ran = c.in_ok-make_one.ensures.ran clean in (
            inside.mode,
            keeps_then (state g.S.Store old) (state g.S.Store now) (state g.S.Store new) early.1 (keeps_shown (state g.S.Store now) (state g.S.Store new) _ _ inside),
            subst (λ l. RanEach g.S.Store l old new) (sym (taken bytes c.args.texts.now c.each.text-index _ c.each-test.true)) (ran_then g.S.Store (map bytes (take c.each.text-index c.args.texts.now)) _ old now new c.in_ok-make_one.field-0 early.2 ran),
          ),
    )

pub returns-in_err-make_one-clause-halted : goal.returns-in_err-make_one-clause-halted
returns-in_err-make_one-clause-halted g c =
    λ clean.
    let bytes : Bor (List ℕ) → List ℕ = λ t. t.now in
    let was = c.each.invariant in
    let early = was.2 (omega (arith, c.make_one.ensures.crash.clean)) in
    told_on c.from_residual.result c.in_err-make_one.field-0.0 (HaltedIn g.S.Store (map bytes c.args.texts.now) c.args.tx.now.conn.now c.make_one.new.tx.conn.now) c.from_residual.ensures.1 (record {
      done = map bytes (take c.each.text-index c.args.texts.now);
      text = _;
      left = map bytes (drop (suc c.each.text-index) c.args.texts.now);
      order = split_at bytes c.args.texts.now c.each.text-index _ c.each-test.true;
      mid = c.each.tx.conn.now;
      ran = early.2;
      counts = was.1.counts;
      refused = c.in_err-make_one.ensures.refused clean;
    })
