-- What the command of the program is.
use Rattle.std.proofs.Common.{◌≡◌, ◌≢◌, ◌&&◌, ◌||◌, ◌++◌, codes, ◌∙◌, Bool, true, false, not, List, [], ◌∷◌, Option, Some, None, map, find, option_map, refl, subst, sym, ap, inl, inr, arith, ℕ, zero, suc, ◌<◌, ◌≤◌, length, get_or, drop}
use Rattle.std.proofs.lemmas.Bool.{true≢false}
use Rattle.std.specs.Prelude.{◌⊎◌}
use Rattle.std.specs.Str.{bytes_eq}
use Rattle.std.proofs.lemmas.Slice.Eq.{bytes_eq-Decides}
use Rattle.clap.specs.Words.{AddsSubcommand, App, Row, Rule, Shape, Text, app_of, built, fault_of, is_simple, is_simple_and_free, new_app, subcommand_of, with_rule, with_subcommand}
use Rattle.clap.specs.Simple.{argument_words, built_leaf, entered, help_shape, inherited, label_of, marked_built, names_of, on_top, rows_at, with_leaf_noted}
use Rattle.clap.specs.Walk.{answers_to, nothing_held, stop_after, walk_from}
use Rattle.lot_args.proofs.HelpLemmas.{IsOther, first_none, walk_kept}
use Rattle.clap.specs.declared.builder.command.Command.{Command}
use Rattle.lot_args.specs.Program.{bare_app, program_app, with_rules, with_words}
use Rattle.lot_args.specs.Table.{app_for, rule_for}
use Rattle.lot_args.specs.declared.program.Word.{Word}
use Rattle.lot_args.specs.Steps.{IsBookWord, IsOneOf, IsWord, book_words}

-- the third of tests that all pass
third_of : (a b g rest : Bool) → (a && (b && (not g && rest))) ≡ true → g ≡ false
third_of true true false rest e = refl
third_of true true true rest e = absurd (true≢false (sym e))
third_of true false g rest e = absurd (true≢false (sym e))
third_of false b g rest e = absurd (true≢false (sym e))

-- ---- the table of the subcommands

-- what is added to a command, one after another
module _ {X Y : Type 0} (of : X → Y) (add : App → Y → App) (all : App → List Y → App) (none : (app : App) → all app [] ≡ app)
    (more : (app : App) (y : Y) (ys : List Y) → all app (y ∷ ys) ≡ all (add app y) ys) where
  one_more : (xs : List X) (i : ℕ) (other : X) → i < length xs → (old new : App) → new ≡ add old (of (get_or xs i other))
      → all new (map of (drop (suc i) xs)) ≡ all old (map of (drop i xs))
  one_more [] i other lt old new adds = absurd (omega (arith, lt))
  one_more (x ∷ xs) zero other lt old new adds = ap (λ (app : App). all app (map of xs)) adds ∙ sym (more old (of x) (map of xs))
  one_more (x ∷ xs) (suc i) other lt old new adds = one_more xs i other (omega (arith, lt)) old new adds

  all_added : (xs : List X) (i : ℕ) → length xs ≤ i → (app : App) → all app (map of (drop i xs)) ≡ app
  all_added [] zero le app = none app
  all_added [] (suc i) le app = none app
  all_added (x ∷ xs) zero le app = absurd (omega (arith, le))
  all_added (x ∷ xs) (suc i) le app = all_added xs i (omega (arith, le)) app

-- options change nothing of what makes a command plain
pub plain_kept : (rules : List Rule) (app : App) → (with_rules app rules).top.is_plain ≡ app.top.is_plain
plain_kept [] app = refl
plain_kept (rule ∷ rules) app = plain_kept rules (with_rule app rule)

-- what `clap` says of one word more
pub whole_word : (old word new : Command) → (app_of word).top.is_plain ≡ true → AddsSubcommand old word new
    → app_of new ≡ with_subcommand (app_of old) (app_of word).top
whole_word old word new plain adds = adds.shape (third_of _ _ _ _ plain)

abbrev add_word : App → App → App
add_word app word = with_subcommand app word.top

-- one word of the table more
pub word_added : (words : List Word) (i : ℕ) (other : Word) → i < length words → (old word new : Command)
    → app_of word ≡ app_for (get_or words i other) → AddsSubcommand old word new
    → with_words (app_of new) (map app_for (drop (suc i) words)) ≡ with_words (app_of old) (map app_for (drop i words))
word_added words i other lt old word new is adds =
    let at = get_or words i other in
    let plain = ap (λ (app : App). app.top.is_plain) is ∙ plain_kept (map rule_for at.options.now) (new_app at.name.now) in
    one_more app_for add_word with_words (λ _. refl) (λ _ _ _. refl) words i other lt (app_of old) (app_of new)
    (whole_word old word new plain adds ∙ ap (add_word (app_of old)) is)

-- no word of the table is left
pub words_added : (words : List Word) (i : ℕ) → length words ≤ i → (app : App) → with_words app (map app_for (drop i words)) ≡ app
words_added = all_added app_for add_word with_words (λ _. refl) (λ _ _ _. refl)

-- the program is that of the definitions where its words are
pub whole_program : (old new : App) (words : List App) → old ≡ bare_app → new ≡ with_words old words → with_words bare_app words ≡ program_app
    → new ≡ program_app
whole_program old new words bare adds same = adds ∙ ap (λ (app : App). with_words app words) bare ∙ same

-- `clap` says of the program exactly which words it takes, and what is wrong with others
pub is_told : is_simple_and_free program_app ≡ true
is_told = refl

pub is_plain : is_simple program_app ≡ true
is_plain = refl

-- ---- the word that was met

-- the word is the name of one of the commands that answer to that one
abbrev IsFoundIn : Text → List Shape → Text → Type 0
IsFoundIn at [] word = ⊥
IsFoundIn at (s ∷ subs) word = ((word ≡ s.name) × (answers_to at (label_of s) ≡ true)) ⊎ IsFoundIn at subs word

abbrev name_of : Shape → Text
name_of s = s.name

found_word : (at : Text) (words : List Text) (subs : List Shape) (word : Text) (met : List Row)
    → option_map (λ s. rows_at s words) (find (λ s. answers_to at (label_of s)) subs) ≡ Some (word, met) → IsFoundIn at subs word
found_word at words [] word met e = cc
found_word at words (s ∷ subs) word met e = go (answers_to at (label_of s)) refl (found_word at words subs word met)
  where
    go : (b : Bool) → answers_to at (label_of s) ≡ b
        → (option_map (λ s. rows_at s words) (find (λ s. answers_to at (label_of s)) subs) ≡ Some (word, met) → IsFoundIn at subs word)
        → IsFoundIn at (s ∷ subs) word
    go true is more =
        let same : Some (rows_at s words) ≡ Some (word, met) = rw is at e in
        let pairs : rows_at s words ≡ (word, met) = cc in
        inl (sym (ap (λ (p : Text × List Row). p.0) pairs), is)
    go false is more = inr (more (rw is at e))

-- a command of that name alone answers to no other word
answers_to_name : (at name : Text) → answers_to at (name, []) ≡ true → at ≡ name
answers_to_name at name e = sym ((bytes_eq-Decides name at).0 (first_of_both (bytes_eq name at) e))
  where
    first_of_both : (b : Bool) → (b || false) ≡ true → b ≡ true
    first_of_both true e = refl
    first_of_both false e = e

-- the word is one of the names before the last, which has no alias
before_help : (at : Text) (subs : List Shape) (help : Shape) (word : Text) → help.aliases ≡ [] → at ≢ help.name
    → IsFoundIn at (subs ++ help ∷ []) word → IsOneOf (map name_of subs) word
before_help at [] help word plain other (inl found) =
    absurd (other (answers_to_name at help.name (subst (λ (aliases : List Text). answers_to at (help.name, aliases) ≡ true) plain found.1)))
before_help at [] help word plain other (inr none) = absurd none
before_help at (s ∷ subs) help word plain other (inl found) = inl found.0
before_help at (s ∷ subs) help word plain other (inr more) = inr (before_help at subs help word plain other more)

-- the program as `clap` builds it: its words, and one for help
abbrev words_built : List Shape
words_built =
    let above = on_top with_leaf_noted (on_top marked_built program_app) in
    map built_leaf (map (inherited above.top) program_app.subs)

abbrev help_built : Shape
help_built = built_leaf help_shape

entered_word : (stop : Option (Text × List Text)) (word : Text) (rows : List Row) → IsOther stop → entered (built program_app) stop ≡ Some (word, rows)
    → IsWord word
entered_word None word rows other e = cc
entered_word (Some p) word rows other e =
    before_help p.0 words_built help_built word refl other (found_word p.0 p.1 (words_built ++ help_built ∷ []) word rows e)

-- the word that `clap` met is one of the program's, where it takes the words
pub met_is_word : (words : List Text) (word : Text) (rows : List Row) → fault_of program_app words ≡ []
    → subcommand_of program_app words ≡ Some (word, rows) → IsWord word
met_is_word words word rows none e =
    let names = names_of (built program_app) in
    let given = argument_words program_app words in
    entered_word (stop_after (built program_app).top.rules names given) word rows
    (walk_kept (built program_app).top refl names given (walk_from nothing_held) tt (first_none _ _ none)) e

-- a word that isn't the last of the names is one of those before it
before_last : (names : List Text) (last word : Text) → IsOneOf (names ++ last ∷ []) word → word ≢ last → IsOneOf names word
before_last [] last word (inl e) other = absurd (other e)
before_last [] last word (inr none) other = absurd none
before_last (name ∷ names) last word (inl e) other = inl e
before_last (name ∷ names) last word (inr more) other = inr (before_last names last word more other)

-- each word is one on a book, but for the last
pub is_book_word : (word : Text) → IsWord word → word ≢ codes "explain" → IsBookWord word
is_book_word = before_last book_words (codes "explain")
