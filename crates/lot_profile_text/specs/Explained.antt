-- All that a profile may say, as it is explained.
use Rattle.std.specs.Prelude.{ℕ, List, [], ◌∷◌, ◌++◌, codes}
use Rattle.std.specs.List.{flat_map}
use Rattle.lot_profile.specs.declared.kind.Kind.{Kind}
use Rattle.lot_profile_text.specs.declared.entry.Entry.{Entry}
use Rattle.lot_profile_text.specs.declared.entry.Need.{Need}
use Rattle.lot_profile_text.specs.declared.entry.Need.TheVariants as need
use Rattle.lot_profile_text.specs.declared.keys.Section.{Section}
use Rattle.lot_profile_text.specs.Needs.{accounts_needed, roles_needed}
use Rattle.lot_profile_text.specs.Said.{form_text, joined}
use Rattle.lot_profile_text.specs.Words.{account_role_all, account_role_word, kind_all, kind_word, role_all, role_word}

-- ---- A key.

-- what is meant where nothing stands under a key
unfoldable pub need_text : Need → List ℕ
need_text need.Required = codes "; required\n"
need_text (need.Text text) = joined (codes "; without it \"" ∷ text.now ∷ codes "\"\n" ∷ [])
need_text need.EmptyText = codes "; without it [\"\"]\n"
need_text need.EmptyList = codes "; without it []\n"
need_text need.EmptyTable = codes "; without it {}\n"
need_text need.Optional = codes "; optional\n"

-- a key, what it says, and what has to stand there
unfoldable pub entry_text : Entry → List ℕ
entry_text entry =
    joined (codes "  " ∷ entry.key.now ∷ codes ": " ∷ entry.says.now ∷ codes "\n    " ∷ []) ++ form_text entry.form ++ need_text entry.need

-- ---- A section.

-- under which key a section stands
abbrev pub under : List ℕ → List ℕ
under [] = codes ":\n"
under (first ∷ more) = joined (codes ", under " ∷ (first ∷ more) ∷ codes ":\n" ∷ [])

unfoldable pub section_text : Section → List ℕ
section_text section =
    section.says.now ++ under section.key.now ++ flat_map entry_text section.entries.now ++ codes "\n"

-- ---- Words.

abbrev pub next_word : {W : Type 0} → (W → List ℕ) → W → List ℕ
next_word word value = joined (codes ", " ∷ word value ∷ [])

-- words with commas between
abbrev pub plain_words : {W : Type 0} → (W → List ℕ) → List W → List ℕ
plain_words word [] = codes "none"
plain_words word (first ∷ more) = word first ++ flat_map (next_word word) more

-- what a kind needs in any profile
unfoldable pub kind_text : Kind → List ℕ
kind_text kind =
    joined (codes "  " ∷ kind_word kind ∷ codes ": " ∷ []) ++ plain_words role_word (roles_needed kind) ++ codes "; accounts "
    ++ plain_words account_role_word (accounts_needed kind) ++ codes "\n"

-- all roles, all accounts, and what all kinds need
unfoldable pub roles_explained : List ℕ
roles_explained = plain_words role_word role_all

unfoldable pub accounts_explained : List ℕ
accounts_explained = plain_words account_role_word account_role_all

unfoldable pub kinds_explained : List ℕ
kinds_explained = flat_map kind_text kind_all

-- the words that are keys, and what each kind needs
unfoldable pub words_explained : List ℕ
words_explained =
    codes "Roles, the keys of columns: " ++ roles_explained ++ codes "\nAccounts, the keys of accounts: " ++ accounts_explained
    ++ codes "\nKinds, and what each needs:\n" ++ kinds_explained

-- ---- The whole.

-- the sections in their order, the words, and the notes, a line each
abbrev pub note_text : List ℕ → List ℕ
note_text note = joined (note ∷ codes "\n" ∷ [])

unfoldable pub explained : List Section → List (List ℕ) → List ℕ
explained sections notes = flat_map section_text sections ++ words_explained ++ flat_map note_text notes
