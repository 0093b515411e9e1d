-- A posting that moves lots is taken as long as some are to be taken, then opened.
use Rattle.std.proofs.Common.{◌≡◌, ◌+◌, ◌-◌, ◌+ℤ◌, arith, rules, take, to_z, true}
use Rattle.std.specs.Int.{w128}
use Rattle.std.proofs.lemmas.Int.{ints}
use Rattle.lot_split.specs.Form.{moves_lots, moving, units_of}
use Rattle.lot_split.proofs.MovedLemmas.{moved_so, one_opened, one_taken}
use Rattle.lot_split.proofs.form.units_moved.Goals as goal
use Rattle.lot_split.proofs.form.units_moved.Goals.{then-left-eq0, else-left-eq0}

pub loop-posting-preserved : goal.loop-posting-preserved
loop-posting-preserved c =
    let asked = c.args.asked.now in
    let postings = c.args.postings.now in
    let taking = c.args.taking in
    let i = c.loop-posting.posting-index in
    let posting = c.posting-item.result in
    let before = c.loop-posting.invariant in
    let left = c.loop-posting.left in
    let taken = to_z w128 c.loop-posting.taken-bits in
    let opened = to_z w128 c.loop-posting.opened-bits in
    let units = units_of posting.amount in
    let value = c.units_of-units.ensures.value in
    let small = c.units_of-units.ensures.small in
    let new_taken = to_z w128 c.if-left-eq0.taken-bits in
    let new_opened = to_z w128 c.if-left-eq0.opened-bits in
    let now = moving asked (take (i + 1) postings) in
    let moves : moves_lots asked posting ≡ true = search rules in
    elim c.if-left-eq0.branch [
      | then-left-eq0 w ↦
          let more : new_opened ≡ opened +ℤ units = omega (arith, ints, w.opened-is, value, small, before.few_opened) in
          record {
            moved = moved_so taking now c.if-left-eq0.left left new_taken taken new_opened (opened +ℤ units)
                (one_opened asked taking postings i posting (search rules) c.posting-item.is left taken opened before.moved moves w.if-left-eq0.true)
                w.left-is w.taken-is more;
            few_taken = omega (arith, ints, w.taken-is, before.few_taken);
            few_opened = omega (arith, ints, more, value, small, before.few_opened);
          }
      | else-left-eq0 w ↦
          let more : new_taken ≡ taken +ℤ units = omega (arith, ints, w.taken-is, value, small, before.few_taken) in
          record {
            moved = moved_so taking now c.if-left-eq0.left (left - 1) new_taken (taken +ℤ units) new_opened opened
                (one_taken asked taking postings i posting (search rules) c.posting-item.is left taken opened before.moved moves w.if-left-eq0.false)
                w.left-is more w.opened-is;
            few_taken = omega (arith, ints, more, value, small, before.few_taken);
            few_opened = omega (arith, ints, w.opened-is, before.few_opened);
          }
    ]
