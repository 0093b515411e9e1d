use Rattle.std.proofs.Common.{refl, List, [], ◌∷◌}
use Rattle.std.proofs.lemmas.Result.{IfOk-weaker}
use Rattle.clap.specs.Words.{App}
use Rattle.lot_args.proofs.ProgramLemmas.{whole_program}
use Rattle.lot_args.specs.Program.{activity_app, dump_app, explain_app, gains_app, holdings_app, import_app, init_app, journal_app, migrate_app, page_app, post_app, reconcile_app, register_app, restore_app, verify_app}
use Rattle.lot_args.proofs.program.program.Goals as goal

-- the subcommands, in the order of the table
abbrev words : List App
words =
    init_app ∷ migrate_app ∷ post_app ∷ import_app ∷ holdings_app ∷ gains_app ∷ register_app ∷ activity_app ∷ journal_app ∷ page_app ∷ dump_app ∷ reconcile_app ∷ restore_app ∷ verify_app
    ∷ explain_app ∷ []

pub returns : goal.returns
returns c = IfOk-weaker c.add_words.result _ _ (λ command adds. whole_program _ _ words c.in_ok-bare_program.ensures adds refl) c.add_words.ensures
