-- One more line adds to the commands, or is the first faulty one.
use Rattle.std.proofs.Common.{ℕ, ◌+◌, List, [], ◌∷◌, ◌++◌, sym, subst, ap, ◌∙◌, arith, length, refl, length-append}
use Rattle.std.proofs.lemmas.List.{length_push}
use Rattle.lot_syntax.specs.Line.{AreLines}
use Rattle.lot_read.proofs.TextLemmas.{fault_of, lines_few, next_lines, no_lines, pushed_lines, reads_all}
use Rattle.lot_read.proofs.reader.read.Goals as goal

pub loop-line-init : goal.loop-line-init
loop-line-init c = (
  [],
  refl,
  subst (λ (lines : List (List ℕ)). AreLines lines c.args.text.now) (sym c.into_iter-line-iterator.ensures.into_iter_gives) c.new-line-items.ensures,
  no_lines c.new-commands.result.items c.new-commands.ensures.items,
)

pub overflow_add-number : goal.overflow_add-number
overflow_add-number c =
    let (lines, count, are, says) = c.loop-line.invariant in
    let left = c.loop-line.line-iterator in
    omega (arith, lines_few (lines ++ left) c.args.text.now are, length-append lines left, ap length c.in-Some.ensures.steps)

pub returns-in-Err-clause-fault : goal.returns-in-Err-clause-fault
returns-in-Err-clause-fault c =
    let (lines, count, are, says) = c.loop-line.invariant in
    let whole = next_lines lines c.next.new.self c.loop-line.line-iterator c.in-Some.line.now c.args.text.now are c.in-Some.ensures.steps in
    rw c.at_line.ensures
    (fault_of lines c.next.new.self c.in-Some.line.now c.args.text.now (c.loop-line.number + 1) c.loop-line.commands.items c.in-Err.fault whole
    (ap (λ n. n + 1) count) says c.in-Err.ensures.fault)

pub loop-line-preserved : goal.loop-line-preserved
loop-line-preserved c =
    let (lines, count, are, says) = c.loop-line.invariant in
    let line = c.in-Some.line.now in
    let whole = next_lines lines c.next.new.self c.loop-line.line-iterator line c.args.text.now are c.in-Some.ensures.steps in (
      lines ++ line ∷ [],
      ap (λ n. n + 1) count ∙ sym (length_push lines line),
      pushed_lines lines c.next.new.self line c.args.text.now whole,
      c.in_default.ensures.ok lines says,
    )

pub returns-clause-commands : goal.returns-clause-commands
returns-clause-commands c =
    let (lines, count, are, says) = c.loop-line.invariant in
    reads_all lines c.loop-line.line-iterator c.args.text.now c.loop-line.commands.items are c.in-None.ensures.steps.0 says
