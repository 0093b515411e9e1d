-- The options of a rounding account, and those of the accounts, are among those that are looked at.
use Rattle.std.proofs.Common.{◌≡◌, [], ◌∷◌, ◌++◌, None, subst}
use Rattle.clap.specs.Words.{Text, found_of, rows_of}
use Rattle.lot_args.specs.Options.{first_bad, options_of, rounding_options}
use Rattle.lot_args.specs.declared.fault.BadOption.TheVariants.{From, Holdings, PostBatch, PostGains, Ref, RowOf}
use Rattle.lot_args.proofs.ValueLemmas.{good_accounts, good_batch, good_except, good_rounding, none_of_both}
use Rattle.lot_args.proofs.words.action.Goals as goal

pub rounding-requires : goal.rounding-requires
rounding-requires c =
    let rows = rows_of (found_of c.args.options.now) in
    let good = subst (λ (word : Text). first_bad rows (options_of word) ≡ None) c.in-post.is c.requires.good in
    (none_of_both rows rounding_options (PostGains ∷ Holdings ∷ From ∷ [])
    (none_of_both rows (PostBatch ∷ RowOf ∷ Ref ∷ []) (rounding_options ++ PostGains ∷ Holdings ∷ From ∷ []) good).1).0

pub rounding-requires-in-post-2 : goal.rounding-requires-in-post-2
rounding-requires-in-post-2 c =
    let rows = rows_of (found_of c.args.options.now) in
    let good = subst (λ (word : Text). first_bad rows (options_of word) ≡ None) c.in-post.is c.requires.good in
    (none_of_both rows rounding_options (PostGains ∷ Holdings ∷ From ∷ [])
    (none_of_both rows (PostBatch ∷ RowOf ∷ Ref ∷ []) (rounding_options ++ PostGains ∷ Holdings ∷ From ∷ []) good).1).0

pub batch-requires-in-import : goal.batch-requires-in-import
batch-requires-in-import c =
    let rows = rows_of (found_of c.args.options.now) in
    good_batch rows (subst (λ (word : Text). first_bad rows (options_of word) ≡ None) c.in-import.is c.requires.good)
    (c.requires.plain c.in-import.is)

pub accounts-requires : goal.accounts-requires
accounts-requires c =
    let rows = rows_of (found_of c.args.options.now) in
    let good = subst (λ (word : Text). first_bad rows (options_of word) ≡ None) c.in-import.is c.requires.good in
    record { good = good_accounts rows good; plain = c.requires.plain c.in-import.is }

pub except-requires : goal.except-requires
except-requires c =
    let rows = rows_of (found_of c.args.options.now) in
    good_except rows (subst (λ (word : Text). first_bad rows (options_of word) ≡ None) c.in-import.is c.requires.good)

pub rounding-requires-in-import : goal.rounding-requires-in-import
rounding-requires-in-import c =
    let rows = rows_of (found_of c.args.options.now) in
    good_rounding rows (subst (λ (word : Text). first_bad rows (options_of word) ≡ None) c.in-import.is c.requires.good)

pub register-requires : goal.register-requires
register-requires c =
    let rows = rows_of (found_of c.args.options.now) in
    subst (λ (word : Text). first_bad rows (options_of word) ≡ None) c.in-register.is c.requires.good
