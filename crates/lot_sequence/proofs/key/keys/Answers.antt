-- One more row is one more key.
use Rattle.std.specs.Prelude.{◌≡◌, ◌+◌, ◌≤◌, List, map, take}
use Rattle.std.specs.List.{count_by}
use Rattle.std.proofs.Common.{arith, ap, length, sym, ◌∙◌}
use Rattle.std.proofs.lemmas.List.{length-map, length-take-le}
use Rattle.std.proofs.lemmas.List.Sums.{count_by-le-length}
use Rattle.lot_sequence.specs.Count.{counted}
use Rattle.lot_sequence.specs.Key.{Said, is_same, keys_of, occurrence, said}
use Rattle.lot_sequence.proofs.KeyLemmas.{counts_step, keys_step, said_more}
use Rattle.lot_sequence.proofs.key.keys.Goals as goal

pub count-requires : goal.count-requires
count-requires c =
    let row = said c.row-item.result in
    let before = map said (take c.loop-row.row-index c.args.rows.now) in
    let within : c.loop-row.row-index ≤ length c.args.rows.now = omega arith in
    let long : length before ≡ c.loop-row.row-index = length-map (take c.loop-row.row-index c.args.rows.now) said ∙ length-take-le c.loop-row.row-index c.args.rows.now within in
    omega (arith, long, c.loop-row.invariant.counts row, count_by-le-length (λ other. is_same other row) before)

pub loop-row-preserved : goal.loop-row-preserved
loop-row-preserved c =
    let row : Said = said c.row-item.result in
    let before : List Said = map said (take c.loop-row.row-index c.args.rows.now) in
    let more = said_more c.args.rows.now c.loop-row.row-index c.row-item.result c.loop-row-test.true c.row-item.is in
    let number : c.in_ok-number.number ≡ occurrence before row = c.in_ok-number.ensures.number ∙ ap (λ n. n + 1) (c.loop-row.invariant.counts row) in
    record {
      written = keys_step before row c.in_ok-number.number c.loop-row.keys.items c.push.new.self.items c.in_ok-key.field-0
          c.loop-row.invariant.written number c.in_ok-key.ensures c.in_ok-push.ensures.items ∙ ap keys_of (sym more);
      counts = λ other.
          counts_step before row other (counted c.loop-row.counts other) (counted c.count.new.counts other) (c.loop-row.invariant.counts other) (c.in_ok-number.ensures.counted other)
          ∙ ap (λ (all : List Said). count_by (λ one. is_same one other) all) (sym more);
    }
