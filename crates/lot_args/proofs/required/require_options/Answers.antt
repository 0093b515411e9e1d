use Rattle.std.proofs.Common.{◌∙◌, ap, map, subst, sym, List}
use Rattle.std.specs.String.{string_bytes}
use Rattle.clap.specs.Words.{App, HasKind, Text, fault_of, is_simple_and_free}
use Rattle.lot_args.proofs.RequiredLemmas.{is_told}
use Rattle.lot_args.proofs.required.require_options.Goals as goal

pub returns-in-Ok : goal.returns-in-Ok
returns-in-Ok c =
    let words : List Text = map string_bytes c.args.words.now in
    let same = c.in_ok-demanding_program.ensures in
    ap (λ (a : App). fault_of a words) (sym same) ∙ c.in-Ok.ensures.kinds (ap is_simple_and_free same ∙ is_told c.args.needed)

pub returns : goal.returns
returns c =
    let words : List Text = map string_bytes c.args.words.now in
    let same = c.in_ok-demanding_program.ensures in
    subst (λ (a : App). HasKind (fault_of a words) c.in-Err.error) same
    (c.in-Err.ensures.kinds (ap is_simple_and_free same ∙ is_told c.args.needed))
