-- Words that the laws speak of.
use Rattle.std.specs.Prelude.{Bool, ℕ, ℤ, List, [], ◌∷◌, Option, codes, option_and_then, option_map}
use Rattle.clap.specs.Words.{Row, Text, first_of, matches_of, subcommand_of}
use Rattle.lot_args.specs.Options.{except_of, has_profile, has_row, is_shown, value_of}
use Rattle.lot_args.specs.Program.{program_app}
use Rattle.lot_args.specs.From.{from_of}
use Rattle.lot_args.specs.Rounding.{rounding_of}
use Rattle.lot_rounding.specs.declared.rounding.Rounding.{Rounding}
use Rattle.lot_args.specs.Preview.{effect_of}
use Rattle.lot_args.specs.Words.{keeping_by_profile, keeping_of, notes_of, strictness_of, tolerance_of, without_of}
use Rattle.lot_without.specs.declared.terms.Strictness.{Strictness}
use Rattle.lot_without.specs.declared.terms.Tolerance.{Tolerance}
use Rattle.lot_without.specs.declared.without.Without.{Without}
use Rattle.lot_args.specs.declared.action.Keeping.{Keeping}
use Rattle.lot_args.specs.declared.request.Effect.{Effect}
use Rattle.lot_args.specs.declared.request.Notes.{Notes}

-- lotbook post --book f --batch a --from 7
abbrev pub a_post : List Text
a_post = codes "lotbook" ∷ codes "post" ∷ codes "--book" ∷ codes "f" ∷ codes "--batch" ∷ codes "a" ∷ codes "--from" ∷ codes "7" ∷ []

-- lotbook --quiet import --book f --batch a --invest A:B --cash A:B --fees A:B --gains A:B --dry-run --all-or-none
abbrev pub a_dry_run : List Text
a_dry_run =
    codes "lotbook" ∷ codes "--quiet" ∷ codes "import" ∷ codes "--book" ∷ codes "f" ∷ codes "--batch" ∷ codes "a"
    ∷ codes "--invest" ∷ codes "A:B" ∷ codes "--cash" ∷ codes "A:B" ∷ codes "--fees" ∷ codes "A:B" ∷ codes "--gains" ∷ codes "A:B"
    ∷ codes "--dry-run" ∷ codes "--all-or-none" ∷ []

-- lotbook post --book f --batch a --dry-run --gains --holdings --all-or-none
abbrev pub a_previewed_post : List Text
a_previewed_post =
    codes "lotbook" ∷ codes "post" ∷ codes "--book" ∷ codes "f" ∷ codes "--batch" ∷ codes "a" ∷ codes "--dry-run" ∷ codes "--gains"
    ∷ codes "--holdings" ∷ codes "--all-or-none" ∷ []

-- lotbook import --book f --batch a --profile p --dry-run --sales
abbrev pub a_previewed_import : List Text
a_previewed_import =
    codes "lotbook" ∷ codes "import" ∷ codes "--book" ∷ codes "f" ∷ codes "--batch" ∷ codes "a" ∷ codes "--profile" ∷ codes "p"
    ∷ codes "--dry-run" ∷ codes "--sales" ∷ []

-- lotbook post --book f --batch a --gains --holdings
abbrev pub a_kept_preview : List Text
a_kept_preview =
    codes "lotbook" ∷ codes "post" ∷ codes "--book" ∷ codes "f" ∷ codes "--batch" ∷ codes "a" ∷ codes "--gains" ∷ codes "--holdings" ∷ []

-- lotbook gains --book f --by year,term,year
abbrev pub a_key_twice : List Text
a_key_twice = codes "lotbook" ∷ codes "gains" ∷ codes "--book" ∷ codes "f" ∷ codes "--by" ∷ codes "year,term,year" ∷ []

-- lotbook page --book f --as-of=2024-12-31
abbrev pub a_page_of_a_day : List Text
a_page_of_a_day = codes "lotbook" ∷ codes "page" ∷ codes "--book" ∷ codes "f" ∷ codes "--as-of=2024-12-31" ∷ []

-- lotbook --quiet post --book f --batch a --dry-run --sales
abbrev pub a_post_with_sales : List Text
a_post_with_sales =
    codes "lotbook" ∷ codes "--quiet" ∷ codes "post" ∷ codes "--book" ∷ codes "f" ∷ codes "--batch" ∷ codes "a" ∷ codes "--dry-run"
    ∷ codes "--sales" ∷ []

-- lotbook post --book f --batch a --explain-all --all-or-none
abbrev pub a_whole_post : List Text
a_whole_post =
    codes "lotbook" ∷ codes "post" ∷ codes "--book" ∷ codes "f" ∷ codes "--batch" ∷ codes "a" ∷ codes "--explain-all"
    ∷ codes "--all-or-none" ∷ []

-- lotbook import --book f --batch a --invest Equity:R --cash Equity:R --fees Equity:R --gains Equity:R --except r --except s --from 7
abbrev pub an_import : List Text
an_import =
    codes "lotbook" ∷ codes "import" ∷ codes "--book" ∷ codes "f" ∷ codes "--batch" ∷ codes "a" ∷ codes "--invest" ∷ codes "Equity:R"
    ∷ codes "--cash" ∷ codes "Equity:R" ∷ codes "--fees" ∷ codes "Equity:R" ∷ codes "--gains" ∷ codes "Equity:R"
    ∷ codes "--except" ∷ codes "r" ∷ codes "--except" ∷ codes "s" ∷ codes "--from" ∷ codes "7" ∷ []

-- lotbook import --book f --batch a --invest Equity:R --cash Equity:R --fees Equity:R --gains Equity:R --except r --except=
abbrev pub a_bad_import : List Text
a_bad_import =
    codes "lotbook" ∷ codes "import" ∷ codes "--book" ∷ codes "f" ∷ codes "--batch" ∷ codes "a" ∷ codes "--invest" ∷ codes "Equity:R"
    ∷ codes "--cash" ∷ codes "Equity:R" ∷ codes "--fees" ∷ codes "Equity:R" ∷ codes "--gains" ∷ codes "Equity:R"
    ∷ codes "--except" ∷ codes "r" ∷ codes "--except=" ∷ []

-- lotbook import --book f --batch a --profile p --except r --all-or-none
abbrev pub an_import_by_profile : List Text
an_import_by_profile =
    codes "lotbook" ∷ codes "import" ∷ codes "--book" ∷ codes "f" ∷ codes "--batch" ∷ codes "a" ∷ codes "--profile" ∷ codes "p"
    ∷ codes "--except" ∷ codes "r" ∷ codes "--all-or-none" ∷ []

-- lotbook import --book f --batch a --profile p --keep-accepted
abbrev pub an_import_of_accepted : List Text
an_import_of_accepted =
    codes "lotbook" ∷ codes "import" ∷ codes "--book" ∷ codes "f" ∷ codes "--batch" ∷ codes "a" ∷ codes "--profile" ∷ codes "p"
    ∷ codes "--keep-accepted" ∷ []

-- lotbook import --profile p --show
abbrev pub a_shown_import : List Text
a_shown_import = codes "lotbook" ∷ codes "import" ∷ codes "--profile" ∷ codes "p" ∷ codes "--show" ∷ []

-- lotbook import --profile p --show --book f
abbrev pub a_shown_book : List Text
a_shown_book =
    codes "lotbook" ∷ codes "import" ∷ codes "--profile" ∷ codes "p" ∷ codes "--show" ∷ codes "--book" ∷ codes "f" ∷ []

-- lotbook import --book f --batch a --profile p --from 2 --gains Equity:R
abbrev pub a_profile_with_an_account : List Text
a_profile_with_an_account =
    codes "lotbook" ∷ codes "import" ∷ codes "--book" ∷ codes "f" ∷ codes "--batch" ∷ codes "a" ∷ codes "--profile" ∷ codes "p"
    ∷ codes "--from" ∷ codes "2" ∷ codes "--gains" ∷ codes "Equity:R" ∷ []

-- lotbook import --book f --batch a --profile p --from 2
abbrev pub a_profile_with_a_start : List Text
a_profile_with_a_start =
    codes "lotbook" ∷ codes "import" ∷ codes "--book" ∷ codes "f" ∷ codes "--batch" ∷ codes "a" ∷ codes "--profile" ∷ codes "p"
    ∷ codes "--from" ∷ codes "2" ∷ []

-- lotbook import --book f --batch a --invest Equity:R --cash Equity:R --fees Equity:R
abbrev pub an_import_without_gains : List Text
an_import_without_gains =
    codes "lotbook" ∷ codes "import" ∷ codes "--book" ∷ codes "f" ∷ codes "--batch" ∷ codes "a" ∷ codes "--invest" ∷ codes "Equity:R"
    ∷ codes "--cash" ∷ codes "Equity:R" ∷ codes "--fees" ∷ codes "Equity:R" ∷ []

-- lotbook import --book f --profile p
abbrev pub an_import_without_batch : List Text
an_import_without_batch =
    codes "lotbook" ∷ codes "import" ∷ codes "--book" ∷ codes "f" ∷ codes "--profile" ∷ codes "p" ∷ []

-- lotbook post --book f --row-of a --ref r
abbrev pub a_row : List Text
a_row =
    codes "lotbook" ∷ codes "post" ∷ codes "--book" ∷ codes "f" ∷ codes "--row-of" ∷ codes "a" ∷ codes "--ref" ∷ codes "r" ∷ []

-- lotbook post --book f --batch a --rounding Equity:R --within 0.02 --decimals 2
abbrev pub a_rounded_post : List Text
a_rounded_post =
    codes "lotbook" ∷ codes "post" ∷ codes "--book" ∷ codes "f" ∷ codes "--batch" ∷ codes "a" ∷ codes "--rounding" ∷ codes "Equity:R"
    ∷ codes "--within" ∷ codes "0.02" ∷ codes "--decimals" ∷ codes "2" ∷ []

-- lotbook --rounding Equity:R
abbrev pub a_rounded_check : List Text
a_rounded_check = codes "lotbook" ∷ codes "--rounding" ∷ codes "Equity:R" ∷ []

-- lotbook --rounding Equity:R post --book f --batch a
abbrev pub a_misplaced_rounding : List Text
a_misplaced_rounding =
    codes "lotbook" ∷ codes "--rounding" ∷ codes "Equity:R" ∷ codes "post" ∷ codes "--book" ∷ codes "f" ∷ codes "--batch" ∷ codes "a" ∷ []

-- lotbook explain B2
abbrev pub a_question : List Text
a_question = codes "lotbook" ∷ codes "explain" ∷ codes "B2" ∷ []

-- lotbook restore --book n --without-entries 3-5 --without "p:a b" --edited --without-batch p:c --without "q 7" --compare f
abbrev pub a_restore : List Text
a_restore =
    codes "lotbook" ∷ codes "restore" ∷ codes "--book" ∷ codes "n" ∷ codes "--without-entries" ∷ codes "3-5"
    ∷ codes "--without" ∷ codes "p:a b" ∷ codes "--edited" ∷ codes "--without-batch" ∷ codes "p:c"
    ∷ codes "--without=q 7" ∷ codes "--compare" ∷ codes "f" ∷ []

-- lotbook restore --book n --keep-going --without-entries 3-5 --without-entries 5-3 --dry-run
abbrev pub a_bad_restore : List Text
a_bad_restore =
    codes "lotbook" ∷ codes "restore" ∷ codes "--book" ∷ codes "n" ∷ codes "--keep-going"
    ∷ codes "--without-entries" ∷ codes "3-5" ∷ codes "--without-entries" ∷ codes "5-3" ∷ codes "--dry-run" ∷ []

-- what a call of a word may leave in the book, which commits keep it, and what it explains
abbrev pub flags_of : List Text → Option (Effect × Keeping × Notes)
flags_of words =
    option_map (λ asked. (effect_of asked.0 asked.1, keeping_of asked.0 asked.1, notes_of (matches_of program_app words) asked.1))
    (subcommand_of program_app words)

-- what a call of a word may leave in the book, and which commits keep the rows of an import by a profile
abbrev pub previewed_of : Option (Text × List Row) → Option (Effect × Keeping)
previewed_of = option_map (λ asked. (effect_of asked.0 asked.1, keeping_by_profile asked.1))

-- a word with the references of the rows that it leaves out, and the number of its first row
abbrev pub left_out_of : Option (Text × List Row) → Option (Text × List Text × ℕ)
left_out_of = option_map (λ asked. (asked.0, except_of asked.1, from_of asked.1))

-- a word with what it leaves out of a dump, what it bears with, and the book that it compares with
abbrev pub restore_of : Option (Text × List Row) → Option (Text × List Without × Strictness × Tolerance × Option Text)
restore_of =
    option_map (λ asked. (asked.0, without_of asked.1, strictness_of asked.1, tolerance_of asked.1, first_of (codes "compare") asked.1))

-- a word for rows of which a profile says what they are, with the profile, the rows that are left out, and the commits that keep them
abbrev pub profile_of : Option (Text × List Row) → Option (Bool × Text × List Text × Keeping)
profile_of =
    option_map (λ asked. (has_profile asked.1, value_of (codes "profile") asked.1, except_of asked.1, keeping_by_profile asked.1))

-- a word for rows whose ledger text is shown, with the profile
abbrev pub shown_of : Option (Text × List Row) → Option (Bool × Text)
shown_of = option_map (λ asked. (is_shown asked.1, value_of (codes "profile") asked.1))

-- a word for a row, with its batch and its reference
abbrev pub row_of : Option (Text × List Row) → Option (Bool × Text × Text)
row_of = option_map (λ asked. (has_row asked.1, value_of (codes "row-of") asked.1, value_of (codes "ref") asked.1))

-- a rounding account with the greatest crumb that it takes, at scale 8, and the decimals
abbrev pub crumbs_of : Option Rounding → Option (Text × ℤ × ℕ)
crumbs_of = option_map (λ rounding. (rounding.account, rounding.within, rounding.decimals))

-- those of a word
abbrev pub word_crumbs_of : Option (Text × List Row) → Option (Text × ℤ × ℕ)
word_crumbs_of = option_and_then (λ asked. crumbs_of (rounding_of asked.1))

-- a word with the code that stands behind it
abbrev pub code_of : Option (Text × List Row) → Option (Text × Option Text)
code_of = option_map (λ asked. (asked.0, first_of (codes "code") asked.1))

-- a word with its book, its batch and the number of its first command
abbrev pub parts_of : Option (Text × List Row) → Option (Text × Text × Text × ℕ)
parts_of = option_map (λ asked. (asked.0, value_of (codes "book") asked.1, value_of (codes "batch") asked.1, from_of asked.1))
