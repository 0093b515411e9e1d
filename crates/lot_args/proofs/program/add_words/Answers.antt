-- One subcommand more is added.
use Rattle.std.proofs.Common.{add-one, ap, drop, map, sym, ℕ, ◌∙◌}
use Rattle.clap.specs.Simple.{app_of_fields}
use Rattle.clap.specs.Words.{app_of}
use Rattle.lot_args.proofs.ProgramLemmas.{word_added, words_added}
use Rattle.lot_args.specs.Program.{with_words}
use Rattle.lot_args.specs.Table.{app_for}
use Rattle.lot_args.proofs.program.add_words.Goals as goal

pub loop-word-preserved : goal.loop-word-preserved
loop-word-preserved c =
    let words = c.args.words.now in
    let i = c.loop-word.word-index in
    ap (λ (n : ℕ). with_words (app_of c.in_ok-program.program) (map app_for (drop n words))) (add-one i)
    ∙ word_added words i _ c.loop-word-test.true _ _ _ (ap app_of_fields c.long_about-command.ensures ∙ c.in_ok-command.ensures)
    c.in_ok-program.ensures
    ∙ c.loop-word.invariant

pub returns : goal.returns
returns c = sym (words_added c.args.words.now c.loop-word.word-index c.loop-word-test.false _) ∙ c.loop-word.invariant
