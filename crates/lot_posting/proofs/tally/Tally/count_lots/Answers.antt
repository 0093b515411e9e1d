-- The number of lots after the legs is that before them, and what the rows have, less what was held at the rows.
use Rattle.std.proofs.Common.{◌≡◌, ◌≤◌, ◌<◌, ◌+◌, ◌-◌, ◌∷◌, [], ℕ, List, ℤ, cond, true, length, Fits, sym, ap, ◌∙◌, rules, arith}
use Rattle.std.specs.List.Sorted.{IsStrictlySortedBy}
use Rattle.std.specs.Map.{keys_of}
use Rattle.std.specs.FinMap.{empty}
use Rattle.std.specs.Int.{w128}
use Rattle.lot_inv.proofs.LotLemmas.{lots_of-empty}
use Rattle.lot_inv.specs.Inventory.{Held, lots_of, units_at}
use Rattle.lot_book.specs.declared.leg.Position.{Position}
use Rattle.lot_book.specs.Leg.{position_cmp, with_legs}
use Rattle.lot_posting.specs.Tally.{is_lot_of, lot_count}
use Rattle.lot_view.specs.View.{known}
use Rattle.lot_posting.proofs.TallyCount.{had-few, lots_after, listed-few, lots_had, lots_listed}
use Rattle.lot_posting.proofs.tally.Tally.count_lots.Goals as goal
use Rattle.lot_posting.proofs.tally.Tally.count_lots.Goals.{in-Some, in-None}

-- one more row has room
one_more : (so_far one left rest all rows : ℕ) → so_far + left ≡ all → left ≡ one + rest → all ≤ rows → rows < 9223372036854775808
    → Fits w128 (so_far + one)
one_more so_far one left rest all rows invariant steps few bound = omega arith

pub overflow_add-had : goal.overflow_add-had
overflow_add-had c =
    let account = c.args.account.now in
    let commodity = c.args.commodity.now in
    let held = (known c.args.view.now).held account in
    let rows = c.args.self.now.positions.entries in
    let left = c.loop-position.position-iterator in
    let rest = c.next.new.self in
    let row : Position × ℤ = (c.in-Some-2.position.now, c.in-Some-2.units.now) in
    let steps : left ≡ row ∷ rest = c.in-Some-2.ensures.steps in
    let is : is_lot_of account commodity row.0 ≡ true = sym c.is_lot_of.ensures ∙ c.if-is_lot_of.true in
    let one : c.lot_count-had.result ≡ lot_count (units_at held (commodity, row.0.lot)) =
    c.lot_count-had.ensures ∙ ap lot_count c.units.ensures ∙ ap (λ lot. lot_count (units_at held (commodity, lot))) c.as_ref.ensures.value in
    let bound : length rows < 9223372036854775808 = search rules in
    one_more c.loop-position.had c.lot_count-had.result (lots_had account commodity held left) (lots_had account commodity held rest)
    (lots_had account commodity held rows) (length rows) c.loop-position.invariant.had
    (ap (lots_had account commodity held) steps
    ∙ ap (λ b. cond b (lot_count (units_at held (commodity, row.0.lot))) 0 + lots_had account commodity held rest) is
    ∙ ap (λ n. n + lots_had account commodity held rest) (sym one))
    (had-few account commodity held rows) bound

pub overflow_add-listed : goal.overflow_add-listed
overflow_add-listed c =
    let account = c.args.account.now in
    let commodity = c.args.commodity.now in
    let rows = c.args.self.now.positions.entries in
    let left = c.loop-position.position-iterator in
    let rest = c.next.new.self in
    let row : Position × ℤ = (c.in-Some-2.position.now, c.in-Some-2.units.now) in
    let steps : left ≡ row ∷ rest = c.in-Some-2.ensures.steps in
    let is : is_lot_of account commodity row.0 ≡ true = sym c.is_lot_of.ensures ∙ c.if-is_lot_of.true in
    let bound : length rows < 9223372036854775808 = search rules in
    one_more c.loop-position.listed c.lot_count-listed.result (lots_listed account commodity left) (lots_listed account commodity rest)
    (lots_listed account commodity rows) (length rows) c.loop-position.invariant.listed
    (ap (lots_listed account commodity) steps
    ∙ ap (λ b. cond b (lot_count row.1) 0 + lots_listed account commodity rest) is
    ∙ ap (λ n. n + lots_listed account commodity rest) (sym c.lot_count-listed.ensures))
    (listed-few account commodity rows) bound

fits_both : (before listed rows : ℕ) → before < 18446744073709551616 → listed ≤ rows → rows < 9223372036854775808
    → Fits w128 (before + listed)
fits_both before listed rows few some bound = omega arith

pub overflow_add-result : goal.overflow_add-result
overflow_add-result c =
    let account = c.args.account.now in
    let commodity = c.args.commodity.now in
    let rows = c.args.self.now.positions.entries in
    let listed : c.loop-position.listed ≤ lots_listed account commodity rows = omega (arith, c.loop-position.invariant.listed) in
    let bound : length rows < 9223372036854775808 = search rules in
    let before : c.match-held.before < 18446744073709551616 = elim c.match-held.branch [
      | in-Some w ↦ omega (arith, w.before-is, w.from-before.ensures, w.lots.type_inv)
      | in-None w ↦ omega (arith, w.before-is)
    ] in
    fits_both c.match-held.before c.loop-position.listed (length rows) before (omega (arith, listed, listed-few account commodity rows)) bound

no_lots : (held : Held) (commodity : List ℕ) → held ≡ empty → 0 ≡ length (lots_of held commodity)
no_lots held commodity is = sym (ap (λ (h : Held). length (lots_of h commodity)) is ∙ ap (λ lots. length lots) (lots_of-empty commodity))

less : (after had before listed : ℕ) → after + had ≡ before + listed → had ≤ before + listed
less after had before listed sum = omega arith

left_over : (after had before listed : ℕ) → after + had ≡ before + listed → before + listed - had ≡ after
left_over after had before listed sum = omega arith

pub overflow_sub-result : goal.overflow_sub-result
overflow_sub-result c =
    let account = c.args.account.now in
    let commodity = c.args.commodity.now in
    let facts = known c.args.view.now in
    let held = facts.held account in
    let rows = c.args.self.now.positions.entries in
    let sorted : IsStrictlySortedBy position_cmp (keys_of rows) = search rules in
    let none : c.loop-position.position-iterator ≡ [] = search rules in
    let before : c.match-held.before ≡ length (lots_of held commodity) = elim c.match-held.branch [
      | in-Some w ↦ w.before-is ∙ w.from-before.ensures ∙ w.lots.ensures ∙ ap (λ (h : Held). length (lots_of h commodity)) w.in-Some.ensures.value
      | in-None w ↦ w.before-is ∙ no_lots held commodity w.in-None.ensures.value
    ] in
    less (length (lots_of (with_legs account held c.args.self.now.legs) commodity)) c.loop-position.had c.match-held.before c.loop-position.listed
    (lots_after facts c.args.self.now.legs rows account commodity c.held.ensures.no_zeros c.requires.sums sorted c.match-held.before c.loop-position.had c.loop-position.listed
    c.loop-position.position-iterator none before c.loop-position.invariant.had c.loop-position.invariant.listed)

pub returns : goal.returns
returns c =
    let account = c.args.account.now in
    let commodity = c.args.commodity.now in
    let facts = known c.args.view.now in
    let held = facts.held account in
    let rows = c.args.self.now.positions.entries in
    let sorted : IsStrictlySortedBy position_cmp (keys_of rows) = search rules in
    let none : c.loop-position.position-iterator ≡ [] = search rules in
    let before : c.match-held.before ≡ length (lots_of held commodity) = elim c.match-held.branch [
      | in-Some w ↦ w.before-is ∙ w.from-before.ensures ∙ w.lots.ensures ∙ ap (λ (h : Held). length (lots_of h commodity)) w.in-Some.ensures.value
      | in-None w ↦ w.before-is ∙ no_lots held commodity w.in-None.ensures.value
    ] in
    left_over (length (lots_of (with_legs account held c.args.self.now.legs) commodity)) c.loop-position.had c.match-held.before c.loop-position.listed
    (lots_after facts c.args.self.now.legs rows account commodity c.held.ensures.no_zeros c.requires.sums sorted c.match-held.before c.loop-position.had c.loop-position.listed
    c.loop-position.position-iterator none before c.loop-position.invariant.had c.loop-position.invariant.listed)
