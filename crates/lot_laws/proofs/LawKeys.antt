-- What stands under a key stands there ever after, and alone.
use Rattle.std.specs.Prelude.{◌≡◌, ℕ, ◌&&◌, Bool, true, false, cond, List, [], ◌∷◌, ◌++◌, map, find, Option, None, Some}
use Rattle.std.specs.List.{AllByRecursion, IsDistinct}
use Rattle.std.specs.Option.{option_map}
use Rattle.std.proofs.Common.{refl, sym, ap, subst, ◌∙◌}
use Rattle.std.proofs.lemmas.Bool.{and_parts, true≢false}
use Rattle.std.proofs.lemmas.Map.Keys.{IsDistinct-cons}
use Rattle.lot_base.specs.Text.{same_text}
use Rattle.lot_base.proofs.TextLemmas.{one_text, same_text-itself}
use Rattle.lot_command.specs.Canonical.{canonical}
use Rattle.lot_command.specs.declared.command.Command.{Command}
use Rattle.lot_command.specs.declared.key.Key.{Key}
use Rattle.lot_book.specs.declared.leg.Leg.{Leg}
use Rattle.lot_book.specs.declared.refusal.Refusal.TheVariants.{KeyReused}
use Rattle.lot_book.specs.Book.{ContinuesIn, IsBookIn, after, entry_of}
use Rattle.lot_book.specs.Edition.{Edition, Migration, edition_on, ties_in}
use Rattle.lot_book.specs.Facts.{Entry, facts_of, same_key, text_under}
use Rattle.lot_laws.specs.Laws.{HaveOneKeyEach}
use Rattle.lot_book.specs.Step.{Accept, DecidesByUnder, Outcome, Refuse, Repeat, StepIn}
use Rattle.lot_laws.proofs.LawBooks.{accepted}
use Rattle.lot_book.proofs.CaseLemmas.{by_bool}

-- ---- The text under a key.

abbrev first_text : Bool → Entry → List Entry → Key → Option (List ℕ)
first_text here entry entries key = cond here (Some (canonical entry.command)) (text_under entries key)

first_under : (entry : Entry) (entries : List Entry) (key : Key)
    → text_under (entry ∷ entries) key ≡ first_text (same_key key entry.key) entry entries key
first_under entry entries key =
    let later = find (λ (e : Entry). same_key key e.key) entries in
    elim (same_key key entry.key) as (λ b. option_map (λ (e : Entry). canonical e.command) (cond b (Some entry) later) ≡ first_text b entry entries key) [
      | true ↦ refl
      | false ↦ refl
    ]

-- one entry more
one_more : (book : List Entry) (entry : Entry) (key : Key) (text : List ℕ) → text_under book key ≡ Some text
    → text_under (book ++ entry ∷ []) key ≡ Some text
one_more [] entry key text e = absurd cc
one_more (first ∷ book) entry key text e =
    let was = sym (first_under first book key) ∙ e in
    first_under first (book ++ entry ∷ []) key
    ∙ by_bool (same_key key first.key)
    (λ here. ap (λ b. first_text b first (book ++ entry ∷ []) key) here ∙ sym (ap (λ b. first_text b first book key) here) ∙ was)
    (λ there. ap (λ b. first_text b first (book ++ entry ∷ []) key) there
    ∙ one_more book entry key text (sym (ap (λ b. first_text b first book key) there) ∙ was))

-- a new entry under its key
same_key-itself : (key : Key) → same_key key key ≡ true
same_key-itself key = ap (λ b. b && same_text key.name key.name) (same_text-itself key.source) ∙ same_text-itself key.name

new_text : (book : List Entry) (entry : Entry) → text_under book entry.key ≡ None
    → text_under (book ++ entry ∷ []) entry.key ≡ Some (canonical entry.command)
new_text [] entry none = first_under entry [] entry.key ∙ ap (λ b. first_text b entry [] entry.key) (same_key-itself entry.key)
new_text (first ∷ book) entry none =
    let was = sym (first_under first book entry.key) ∙ none in
    by_bool (same_key entry.key first.key)
    (λ here. let some : Some (canonical first.command) ≡ None = sym (ap (λ b. first_text b first book entry.key) here) ∙ was in absurd cc)
    (λ there. first_under first (book ++ entry ∷ []) entry.key ∙ ap (λ b. first_text b first (book ++ entry ∷ []) entry.key) there
    ∙ new_text book entry (sym (ap (λ b. first_text b first book entry.key) there) ∙ was))

pub stands : (edition : Edition) (book : List Entry) (key : Key) (command : Command) (legs : List Leg)
    → StepIn edition book key command (Accept legs)
    → text_under (after book key command (Accept legs)) key ≡ Some (canonical command)
stands edition book key command legs step = new_text book (entry_of key command legs) (accepted edition book key command legs step).0

-- ---- Repeats.

repeats_text : (text : List ℕ) → cond (same_text text text) Repeat (Refuse KeyReused) ≡ Repeat
repeats_text text = ap (λ b. cond b Repeat (Refuse KeyReused)) (same_text-itself text)

pub repeats : (edition : Edition) (book : List Entry) (key : Key) (command : Command) → text_under book key ≡ Some (canonical command)
    → StepIn edition book key command Repeat
repeats edition book key command e =
    subst (λ (text : Option (List ℕ)). DecidesByUnder (ties_in edition book) text (facts_of book key) command Repeat) (sym e) (sym (repeats_text (canonical command)))

pub only_repeats : (edition : Edition) (book : List Entry) (key : Key) (command : Command) (outcome : Outcome)
    → text_under book key ≡ Some (canonical command) → StepIn edition book key command outcome
    → outcome ≡ Repeat
only_repeats edition book key command outcome e step =
    subst (λ (text : Option (List ℕ)). DecidesByUnder (ties_in edition book) text (facts_of book key) command outcome) e step ∙ repeats_text (canonical command)

pub still_stands : (book : List Entry) (key : Key) (text : List ℕ) (other : Key) (command : Command) (outcome : Outcome) → text_under book key ≡ Some text
    → text_under (after book other command outcome) key ≡ Some text
still_stands book key text other command (Accept legs) e = one_more book (entry_of other command legs) key text e
still_stands book key text other command Repeat e = e
still_stands book key text other command (Refuse refusal) e = e

-- ---- Keys are distinct.

-- a key that is new behind an entry is new before it, and another than the entry's
new_behind : (book : List Entry) (entry : Entry) (key : Key) → text_under (book ++ entry ∷ []) key ≡ None
    → (text_under book key ≡ None) × (same_key key entry.key ≡ false)
new_behind [] entry key e = by_bool (same_key key entry.key)
    (λ here. let some : Some (canonical entry.command) ≡ None = sym (first_under entry [] key ∙ ap (λ b. first_text b entry [] key) here) ∙ e in absurd cc)
    (λ there. (refl, there))
new_behind (first ∷ book) entry key e =
    let was = sym (first_under first (book ++ entry ∷ []) key) ∙ e in
    by_bool (same_key key first.key)
    (λ here. let some : Some (canonical first.command) ≡ None = sym (ap (λ b. first_text b first (book ++ entry ∷ []) key) here) ∙ was in absurd cc)
    (λ there.
    let rest = new_behind book entry key (sym (ap (λ b. first_text b first (book ++ entry ∷ []) key) there) ∙ was) in
    (first_under first book key ∙ ap (λ b. first_text b first book key) there ∙ rest.0, rest.1))

-- the keys of entries that may stand behind a book are new there
news : (migration : Migration) (book entries : List Entry) → ContinuesIn migration book entries
    → AllByRecursion (λ (entry : Entry). text_under book entry.key ≡ None) entries
news migration book [] h = tt
news migration book (entry ∷ entries) h = (
  (accepted (edition_on migration book) book entry.key entry.command entry.legs h.0).0,
  before entries (news migration (book ++ entry ∷ []) entries h.1),
)
  where
    before : (more : List Entry) → AllByRecursion (λ (next : Entry). text_under (book ++ entry ∷ []) next.key ≡ None) more
        → AllByRecursion (λ (next : Entry). text_under book next.key ≡ None) more
    before [] all = tt
    before (next ∷ more) all = ((new_behind book entry next.key all.0).0, before more all.1)

same_key-turned : (a b : Key) → same_key a b ≡ false → same_key b a ≡ false
same_key-turned a b e = by_bool (same_key b a)
    (λ same. absurd (true≢false (sym (turned a b same) ∙ e)))
    (λ other. other)
  where
    turned : (a b : Key) → same_key b a ≡ true → same_key a b ≡ true
    turned a b e =
        let parts = and_parts (same_text b.source a.source) (same_text b.name a.name) e in
        ap (λ (text : List ℕ). same_text a.source text && same_text a.name b.name) (one_text b.source a.source parts.0)
        ∙ ap (λ (text : List ℕ). same_text a.source a.source && same_text a.name text) (one_text b.name a.name parts.1)
        ∙ same_key-itself a

apart : (book : List Entry) (entry : Entry) (more : List Entry)
    → AllByRecursion (λ (next : Entry). text_under (book ++ entry ∷ []) next.key ≡ None) more
    → AllByRecursion (λ key. same_key entry.key key ≡ false) (map (λ (e : Entry). e.key) more)
apart book entry [] all = tt
apart book entry (next ∷ more) all = (same_key-turned next.key entry.key (new_behind book entry next.key all.0).1, apart book entry more all.1)

distinct_behind : (migration : Migration) (book entries : List Entry) → ContinuesIn migration book entries → HaveOneKeyEach entries
unfolding IsDistinct
distinct_behind migration book [] h = tt
distinct_behind migration book (entry ∷ entries) h =
    IsDistinct-cons same_key entry.key (map (λ (e : Entry). e.key) entries) (apart book entry entries (news migration (book ++ entry ∷ []) entries h.1))
    (distinct_behind migration (book ++ entry ∷ []) entries h.1)

pub one_key_each : (migration : Migration) (entries : List Entry) → IsBookIn migration entries → HaveOneKeyEach entries
one_key_each migration entries book = distinct_behind migration [] entries book
