use Rattle.std.proofs.Common.{ap, sym, ◌∙◌, List, None, map}
use Rattle.std.specs.String.{string_bytes}
use Rattle.clap.specs.Words.{App, Text, fault_of, is_simple, is_simple_and_free, matches_of, subcommand_of, takes}
use Rattle.lot_args.proofs.ProgramLemmas.{is_plain, is_told, met_is_word}
use Rattle.lot_args.proofs.WordsLemmas.{ask_of, bad_words, kind_told, lacking_words, met_none, met_word, misplaced_words, no_usage, none_bad}
use Rattle.lot_args.proofs.words.parse_words.Goals as goal

pub returns-in_err-matches-clause-taken : goal.returns-in_err-matches-clause-taken
returns-in_err-matches-clause-taken c =
    let words : List Text = map string_bytes c.args.words.now in
    λ taken. no_usage _ _ c.from_residual-in_err-matches.ensures.1
    (c.in_err-matches.ensures.passes (ap (λ (a : App). takes a words) c.in_ok-matcher.ensures.program ∙ taken))

pub returns-in_err-matches-clause-kind : goal.returns-in_err-matches-clause-kind
returns-in_err-matches-clause-kind c error e =
    let words : List Text = map string_bytes c.args.words.now in
    let same = c.in_ok-matcher.ensures.program in
    kind_told _ _ _ _ c.from_residual-in_err-matches.ensures.1 (c.in_err-matches.ensures.kinds (ap is_simple_and_free same ∙ is_told))
    (ap (λ (a : App). fault_of a words) same) error e

-- ---- no word

pub returns-in-None-clause-request : goal.returns-in-None-clause-request
returns-in-None-clause-request c =
    let words : List Text = map string_bytes c.args.words.now in
    let same = c.in_ok-matcher.ensures.program in
    let matched = c.in_ok-matches.ensures.matches (ap is_simple same ∙ is_plain) in
    let met = ap (λ (a : App). subcommand_of a words) (sym same) ∙ sym matched.1
    ∙ met_none c.in_ok-matches.matches (sym c.in-None.ensures.name) in
    let none = ap (λ (a : App). fault_of a words) (sym same) ∙ c.in_ok-matches.ensures.kinds (ap is_simple_and_free same ∙ is_told) in
    let read = matched.0 ∙ ap (λ (a : App). matches_of a words) same in
    ask_of None _ _ _ _ c.checked.result met none read c.checked.ensures.request c.checked.ensures.judges

pub returns-in-None-clause-bad : goal.returns-in-None-clause-bad
returns-in-None-clause-bad c bad e =
    let words : List Text = map string_bytes c.args.words.now in
    let same = c.in_ok-matcher.ensures.program in
    let matched = c.in_ok-matches.ensures.matches (ap is_simple same ∙ is_plain) in
    let met = ap (λ (a : App). subcommand_of a words) (sym same) ∙ sym matched.1
    ∙ met_none c.in_ok-matches.matches (sym c.in-None.ensures.name) in
    let none = ap (λ (a : App). fault_of a words) (sym same) ∙ c.in_ok-matches.ensures.kinds (ap is_simple_and_free same ∙ is_told) in
    let read = matched.0 ∙ ap (λ (a : App). matches_of a words) same in
    bad_words None _ _ _ _ c.checked.result bad met none read c.checked.ensures.judges e

pub returns-in-None-clause-lacking : goal.returns-in-None-clause-lacking
returns-in-None-clause-lacking c e =
    let words : List Text = map string_bytes c.args.words.now in
    let same = c.in_ok-matcher.ensures.program in
    let matched = c.in_ok-matches.ensures.matches (ap is_simple same ∙ is_plain) in
    let met = ap (λ (a : App). subcommand_of a words) (sym same) ∙ sym matched.1
    ∙ met_none c.in_ok-matches.matches (sym c.in-None.ensures.name) in
    let none = ap (λ (a : App). fault_of a words) (sym same) ∙ c.in_ok-matches.ensures.kinds (ap is_simple_and_free same ∙ is_told) in
    let read = matched.0 ∙ ap (λ (a : App). matches_of a words) same in
    none_bad None _ _ _ _ c.checked.result met none read c.checked.ensures.judges e

-- ---- a word

pub asked-requires : goal.asked-requires
asked-requires c =
    let words : List Text = map string_bytes c.args.words.now in
    let same = c.in_ok-matcher.ensures.program in
    let met = sym (c.in_ok-matches.ensures.matches (ap is_simple same ∙ is_plain)).1
    ∙ met_word c.in_ok-matches.matches _ _ (sym c.in-Some.ensures.name) (sym c.in-Some.ensures.rows) in
    let none = c.in_ok-matches.ensures.kinds (ap is_simple_and_free same ∙ is_told) in
    met_is_word words _ _ (ap (λ (a : App). fault_of a words) (sym same) ∙ none) (ap (λ (a : App). subcommand_of a words) (sym same) ∙ met)

pub returns-clause-request : goal.returns-clause-request
returns-clause-request c =
    let words : List Text = map string_bytes c.args.words.now in
    let same = c.in_ok-matcher.ensures.program in
    let matched = c.in_ok-matches.ensures.matches (ap is_simple same ∙ is_plain) in
    let met = ap (λ (a : App). subcommand_of a words) (sym same) ∙ sym matched.1
    ∙ met_word c.in_ok-matches.matches _ _ (sym c.in-Some.ensures.name) (sym c.in-Some.ensures.rows) in
    let none = ap (λ (a : App). fault_of a words) (sym same) ∙ c.in_ok-matches.ensures.kinds (ap is_simple_and_free same ∙ is_told) in
    let read = matched.0 ∙ ap (λ (a : App). matches_of a words) same in
    ask_of _ _ _ _ _ c.asked.result met none read c.asked.ensures.request c.asked.ensures.judges

pub returns-clause-misplaced : goal.returns-clause-misplaced
returns-clause-misplaced c option e =
    let words : List Text = map string_bytes c.args.words.now in
    let same = c.in_ok-matcher.ensures.program in
    let matched = c.in_ok-matches.ensures.matches (ap is_simple same ∙ is_plain) in
    let met = ap (λ (a : App). subcommand_of a words) (sym same) ∙ sym matched.1
    ∙ met_word c.in_ok-matches.matches _ _ (sym c.in-Some.ensures.name) (sym c.in-Some.ensures.rows) in
    let none = ap (λ (a : App). fault_of a words) (sym same) ∙ c.in_ok-matches.ensures.kinds (ap is_simple_and_free same ∙ is_told) in
    let read = matched.0 ∙ ap (λ (a : App). matches_of a words) same in
    misplaced_words _ _ _ _ _ c.asked.result option met none read c.asked.ensures.judges e

pub returns-clause-missing : goal.returns-clause-missing
returns-clause-missing c needed e =
    let words : List Text = map string_bytes c.args.words.now in
    let same = c.in_ok-matcher.ensures.program in
    let matched = c.in_ok-matches.ensures.matches (ap is_simple same ∙ is_plain) in
    let met = ap (λ (a : App). subcommand_of a words) (sym same) ∙ sym matched.1
    ∙ met_word c.in_ok-matches.matches _ _ (sym c.in-Some.ensures.name) (sym c.in-Some.ensures.rows) in
    let none = ap (λ (a : App). fault_of a words) (sym same) ∙ c.in_ok-matches.ensures.kinds (ap is_simple_and_free same ∙ is_told) in
    let read = matched.0 ∙ ap (λ (a : App). matches_of a words) same in
    lacking_words _ _ _ _ _ c.asked.result needed met none read c.asked.ensures.judges e

pub returns-clause-bad : goal.returns-clause-bad
returns-clause-bad c bad e =
    let words : List Text = map string_bytes c.args.words.now in
    let same = c.in_ok-matcher.ensures.program in
    let matched = c.in_ok-matches.ensures.matches (ap is_simple same ∙ is_plain) in
    let met = ap (λ (a : App). subcommand_of a words) (sym same) ∙ sym matched.1
    ∙ met_word c.in_ok-matches.matches _ _ (sym c.in-Some.ensures.name) (sym c.in-Some.ensures.rows) in
    let none = ap (λ (a : App). fault_of a words) (sym same) ∙ c.in_ok-matches.ensures.kinds (ap is_simple_and_free same ∙ is_told) in
    let read = matched.0 ∙ ap (λ (a : App). matches_of a words) same in
    bad_words _ _ _ _ _ c.asked.result bad met none read c.asked.ensures.judges e

pub returns-clause-lacking : goal.returns-clause-lacking
returns-clause-lacking c e =
    let words : List Text = map string_bytes c.args.words.now in
    let same = c.in_ok-matcher.ensures.program in
    let matched = c.in_ok-matches.ensures.matches (ap is_simple same ∙ is_plain) in
    let met = ap (λ (a : App). subcommand_of a words) (sym same) ∙ sym matched.1
    ∙ met_word c.in_ok-matches.matches _ _ (sym c.in-Some.ensures.name) (sym c.in-Some.ensures.rows) in
    let none = ap (λ (a : App). fault_of a words) (sym same) ∙ c.in_ok-matches.ensures.kinds (ap is_simple_and_free same ∙ is_told) in
    let read = matched.0 ∙ ap (λ (a : App). matches_of a words) same in
    none_bad _ _ _ _ _ c.asked.result met none read c.asked.ensures.judges e
