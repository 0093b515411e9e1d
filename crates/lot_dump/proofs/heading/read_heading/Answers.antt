-- The heading is made of its parts, once memory is there for both labels.
use Rattle.std.proofs.Common.{◌∙◌, ℕ, List, Bor, Some, ap, refl, sym}
use Rattle.std.specs.Prelude.{option_map}
use Rattle.lot_dump.specs.Cutting.{keyed}
use Rattle.lot_dump.proofs.HeadingLemmas.{heading_read, heading_says, of_parts}
use Rattle.lot_dump.proofs.heading.read_heading.Goals as goal

pub returns-in_err-source-in-Some-clause-memory : goal.returns-in_err-source-in-Some-clause-memory
returns-in_err-source-in-Some-clause-memory c failed =
    let parts : ℕ × Bor (List ℕ) × Bor (List ℕ) = (c.in-Some.number, c.in-Some.source, c.in-Some.name) in
    let said = heading_says c.args.line.now c.cut_heading.result c.cut_heading.ensures.value parts c.in-Some.is (keyed parts) refl in
    (keyed parts, said.0, said.1)

pub returns-in_err-name-in-Some-clause-memory : goal.returns-in_err-name-in-Some-clause-memory
returns-in_err-name-in-Some-clause-memory c failed =
    let parts : ℕ × Bor (List ℕ) × Bor (List ℕ) = (c.in-Some.number, c.in-Some.source, c.in-Some.name) in
    let said = heading_says c.args.line.now c.cut_heading.result c.cut_heading.ensures.value parts c.in-Some.is (keyed parts) refl in
    (keyed parts, said.0, said.1)

pub returns-in_ok-name-in-Some-clause-heading : goal.returns-in_ok-name-in-Some-clause-heading
returns-in_ok-name-in-Some-clause-heading c =
    let parts : ℕ × Bor (List ℕ) × Bor (List ℕ) = (c.in-Some.number, c.in-Some.source, c.in-Some.name) in
    heading_says c.args.line.now c.cut_heading.result c.cut_heading.ensures.value parts c.in-Some.is _
    (ap (λ s. of_parts c.in-Some.number s c.in-Some.name.now) (sym c.in_ok-source-in-Some.ensures)
    ∙ ap (λ n. of_parts c.in-Some.number c.in_ok-source-in-Some.source n) (sym c.in_ok-name-in-Some.ensures))

pub returns-in_ok-name-in-Some-clause-every : goal.returns-in_ok-name-in-Some-clause-every
returns-in_ok-name-in-Some-clause-every c heading is whole =
    ap (λ s. Some (of_parts c.in-Some.number s c.in_ok-name-in-Some.name)) c.in_ok-source-in-Some.ensures
    ∙ ap (λ n. Some (of_parts c.in-Some.number c.in-Some.source.now n)) c.in_ok-name-in-Some.ensures
    ∙ ap (option_map keyed) (sym c.in-Some.is)
    ∙ heading_read c.args.line.now c.cut_heading.result c.cut_heading.ensures.value heading is whole

pub returns-in-None-clause-every : goal.returns-in-None-clause-every
returns-in-None-clause-every c heading is whole =
    ap (option_map keyed) (sym c.in-None.is)
    ∙ heading_read c.args.line.now c.cut_heading.result c.cut_heading.ensures.value heading is whole
