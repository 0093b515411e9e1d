use Rattle.std.proofs.Common.{◌∙◌}
use Rattle.std.specs.Str.Parse.{ParsesUnsigned, ExplainsUnsignedError, HasUnsignedDigitsIfOk}
use Rattle.clap.specs.Words.{found_of}
use Rattle.clap.proofs.WalkLemmas.{one_text-rows}
use Rattle.lot_args.proofs.WordsLemmas.{number_from}
use Rattle.lot_args.proofs.values.number_or.Goals as goal

pub returns : goal.returns
returns c =
    let row = one_text-rows (found_of c.args.options.now) c.args.name.now in
    c.unwrap_or.ensures
    ∙ (number_from c.args.other (λ bs r. ParsesUnsigned 32 10 bs r × ExplainsUnsignedError 10 bs r × HasUnsignedDigitsIfOk bs r) c.get_one.result _
    (λ text x h. h.0) (λ none. c.get_one.ensures.none (row ∙ none)) (λ text is. c.get_one.ensures.value text (row ∙ is)))
