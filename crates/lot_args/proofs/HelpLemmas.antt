-- No words that `clap` takes name its own word for help.
use Rattle.std.proofs.Common.{◌≡◌, ◌≢◌, Bool, true, false, List, [], ◌∷◌, Option, Some, None, codes, fold, refl, subst, sym}
use Rattle.std.specs.Prelude.{⊤, if◌then◌else◌}
use Rattle.std.specs.Str.{bytes_eq}
use Rattle.clap.specs.Words.{Shape, Text}
use Rattle.clap.specs.Faults.{other_fault, turn_fault, walk_fault, word_fault}
use Rattle.clap.specs.Kinds.{Kinds, or_else}
use Rattle.clap.specs.Lexer.{long_of, short_of}
use Rattle.clap.specs.Walk.{Held, Names, Outcome, Rule, Step, Waiting, Walk}
use Rattle.clap.specs.Walk.{after_flag, after_step, arg_by_index, arg_by_long, bundle, long_met, long_or_other, plain_word, short_or_plain, subcommand_met, subcommand_or_other, to_positional, walked, walked_from, word_met}
use Rattle.clap.specs.Walk.{done, waits, plain, refused, idle, option, positional, next, trailing, subcommand, value}
use Rattle.clap.specs.declared.error.kind.ErrorKind.TheVariants as kind

-- a walk that stopped at no word of that name
abbrev pub IsOther : Option (Text × List Text) → Type 0
IsOther None = ⊤
IsOther (Some p) = p.0 ≢ codes "help"

-- ---- what a word comes to that names no word

abbrev NamesNone : Step → Type 0
NamesNone (next waiting) = ⊤
NamesNone (trailing position) = ⊤
NamesNone (subcommand name) = ⊥
NamesNone value = ⊤

plain_names_none : (c : List Rule) (waiting : Waiting) (word : Text) (h : Held) → NamesNone (plain_word c waiting word h).1
plain_names_none c idle word h = tt
plain_names_none c (option id) word h = tt
plain_names_none c positional word h = tt

flag_names_none : (c : List Rule) (waiting : Waiting) (word : Text) (h : Held) (o : Outcome) → NamesNone (after_flag c waiting word h o).1
flag_names_none c waiting word h done = tt
flag_names_none c waiting word h (waits id) = tt
flag_names_none c waiting word h plain = plain_names_none c waiting word h
flag_names_none c waiting word h refused = plain_names_none c waiting word h

short_names_none : (c : List Rule) (waiting : Waiting) (word : Text) (h : Held) (flags : Option Text) → NamesNone (short_or_plain c waiting word flags h).1
short_names_none c waiting word h (Some flags) = flag_names_none c waiting word (bundle c flags h).0 (bundle c flags h).1
short_names_none c waiting word h None = plain_names_none c waiting word h

long_names_none : (c : List Rule) (waiting : Waiting) (word : Text) (h : Held) (p : Option (Text × Option Text)) → NamesNone (long_or_other c waiting word p h).1
long_names_none c waiting word h (Some p) =
    flag_names_none c waiting word (long_met c (arg_by_long c p.0) p.1 h).0 (long_met c (arg_by_long c p.0) p.1 h).1
long_names_none c waiting word h None = short_names_none c waiting word h (short_of word)

-- ---- one word

module _ (s : Shape) (w : Walk) (word : Text) (none : w.stopped ≡ None) where
  positional_kept : (h : Held) (a : Option Rule) → IsOther (to_positional s.rules a word w h).stopped
  positional_kept h None = subst IsOther (sym none) tt
  positional_kept h (Some a) = tt

  step_kept : (h : Held) (step : Step) → NamesNone step → IsOther (after_step s.rules word w h step).stopped
  step_kept h (next waiting) is = subst IsOther (sym none) tt
  step_kept h (trailing position) is = subst IsOther (sym none) tt
  step_kept h (subcommand name) is = absurd is
  step_kept h value is = positional_kept h (arg_by_index s.rules w.position)

  dashes_kept : (b : Bool) → (let met = if b then (w.held, trailing w.position) else long_or_other s.rules w.waiting word (long_of word) w.held in
      IsOther (after_step s.rules word w met.0 met.1).stopped)
  dashes_kept true = step_kept w.held (trailing w.position) tt
  dashes_kept false =
      let met = long_or_other s.rules w.waiting word (long_of word) w.held in
      step_kept met.0 met.1 (long_names_none s.rules w.waiting word w.held (long_of word))

  module _ (able : s.disable_help_subcommand ≡ false) where
    not_help : (name : Text) → other_fault s (Some name) word w.held ≡ [] → name ≢ codes "help"
    not_help name told is =
        let none-told : (kind.DisplayHelp ∷ kind.InvalidSubcommand ∷ []) ≡ [] = rw (is, able) at told in
        cc

    other_kept : (found : Option Text) → other_fault s found word w.held ≡ []
        → (let met = subcommand_or_other s.rules found w.waiting w.position word w.held in IsOther (after_step s.rules word w met.0 met.1).stopped)
    other_kept (Some name) told = not_help name told
    other_kept None told = dashes_kept (bytes_eq word (45 ∷ 45 ∷ []))

    word_kept : (names : Names) (is_trailing : Bool) → word_fault s names is_trailing w.waiting word w.held ≡ []
        → (let met = word_met s.rules names is_trailing w.waiting w.position word w.held in IsOther (after_step s.rules word w met.0 met.1).stopped)
    word_kept names true told = step_kept w.held value tt
    word_kept names false told = other_kept (subcommand_met names w.waiting word) told

-- ---- all words

pub both_none : (a b : Kinds) → or_else a b ≡ [] → (a ≡ []) × (b ≡ [])
both_none [] b e = (refl, e)
both_none (k ∷ ks) b e = cc

pub first_none : (a b : Kinds) → or_else a b ≡ [] → a ≡ []
first_none a b e = (both_none a b e).0

module _ (s : Shape) (able : s.disable_help_subcommand ≡ false) (names : Names) where
  turn_kept : (w : Walk) (word : Text) (o : Option (Text × List Text)) → w.stopped ≡ o → IsOther o → turn_fault s names w word ≡ []
      → IsOther (walked s.rules names w word).stopped
  unfolding walked
  turn_kept w word (Some p) is other told = subst (λ (o : Option (Text × List Text)). IsOther (walked_from s.rules names o w word).stopped) (sym is) other
  turn_kept w word None is other told =
      let turns : or_else (word_fault s names w.is_trailing w.waiting word w.held) _ ≡ [] = rw is at told in
      subst (λ (o : Option (Text × List Text)). IsOther (walked_from s.rules names o w word).stopped) (sym is)
      (word_kept s w word is able names w.is_trailing (both_none _ _ turns).0)

  pub walk_kept : (words : List Text) (w : Walk) → IsOther w.stopped → walk_fault s names w words ≡ [] → IsOther (fold (walked s.rules names) w words).stopped
  unfolding walk_fault
  walk_kept [] w other told = other
  walk_kept (word ∷ rest) w other told =
      let parts = both_none (turn_fault s names w word) _ told in
      walk_kept rest (walked s.rules names w word) (turn_kept w word w.stopped refl other parts.0) parts.1
