-- A lot that is put into the index is no longer left.
use Rattle.std.proofs.Common.{◌≡◌, Some, List, ap, sym, subst, ◌∙◌}
use Rattle.std.specs.BTreeMap.{get}
use Rattle.std.specs.List.Sorted.{IsStrictlySortedBy}
use Rattle.std.specs.Map.{keys_of}
use Rattle.std.specs.Ordering.{is_eq}
use Rattle.std.specs.Prelude.{cond}
use Rattle.std.specs.Option.{option_or}
use Rattle.lot_cost.specs.declared.lot_key.LotKey.{LotKey}
use Rattle.lot_cost.specs.LotKey.{lot_cmp}
use Rattle.lot_inv.specs.Index.{in_place, place_cmp}
use Rattle.lot_inv.specs.Lots.{lot_at}
use Rattle.lot_inv.proofs.IndexLemmas.{Entry, behind_sorted, ok_is, ok_on, one_made}
use Rattle.lot_inv.proofs.index.indexed.Goals as goal

pub loop-key-preserved : goal.loop-key-preserved
loop-key-preserved c =
    let foremost = c.args.foremost in
    let key = c.in-Some.key.now in
    let lot = c.in-Some.lot.now in
    let rest = c.next.new.self in
    let copied = ok_is (λ (k : LotKey). k ≡ key) c.copy.result c.in_ok-ok.field-0 c.in_ok-ok.ensures.value c.copy.ensures in
    let updates = ok_on c.insert.result c.in_ok-ok-2.field-0 c.in_ok-ok-2.ensures.value c.insert.ensures.updates in
    let steps = c.in-Some.ensures.steps in
    let so_far = c.loop-key.invariant in
    let sorted = subst (λ (es : List Entry). IsStrictlySortedBy lot_cmp (keys_of es)) steps so_far.sorted in
    record {
      sorted = behind_sorted (key, lot) rest sorted;
      each = one_made foremost (key, lot) rest c.args.lots.now.entries c.loop-key.index.entries c.insert.new.self.entries sorted
          (λ at. ap (λ (es : List Entry). option_or (in_place foremost at (lot_at es at.1)) (get place_cmp c.loop-key.index at)) (sym steps) ∙ so_far.each at)
          (λ at. updates.0 at ∙ (λ i. cond (is_eq (place_cmp (c.rank.ensures i, copied i) at)) (Some lot) (get place_cmp c.loop-key.index at)));
    }
