-- How parts of a profile are read of the values of its TOML table: what each says, or the first fault.
use Rattle.std.specs.Prelude.{Bool, if◌then◌else◌, ◌≡◌, ◌≢◌, ℕ, suc, List, [], ◌∷◌, ◌++◌, bytes_eq, codes, decimal, find, Option, None, Some, Result, Ok, Err, MatchResult}
use Rattle.std.specs.List.{list_any}
use Rattle.toml.specs.Data.{Data, string, array, table, Items, no_items, item, Members, no_members, member, get}
use Rattle.lot_profile_text.specs.Keys.{Key}
use Rattle.lot_profile_text.specs.declared.entry.Entry.{Entry}
use Rattle.lot_profile_text.specs.declared.entry.Form.{Form}
use Rattle.lot_profile_text.specs.declared.entry.Form.TheVariants as form
use Rattle.lot_profile_text.specs.declared.entry.Need.{Need}
use Rattle.lot_profile_text.specs.declared.entry.Need.TheVariants as need
use Rattle.lot_profile_text.specs.declared.fault.ProfileFault.{ProfileFault}
use Rattle.lot_profile_text.specs.declared.list.Keyed.{Keyed}
use Rattle.lot_profile_text.specs.declared.list.Listed.{Listed}
use Rattle.lot_profile_text.specs.declared.fault.ProfileFault.TheVariants.{Unknown, Missing, Wrong, Memory}

-- ---- What is read.

-- what is said, or the first fault
abbrev pub Read : Type 0 → Type 0
Read T = Result T ProfileFault

-- one after another: a later one counts only where the earlier ones have no fault
infixl 10 ◌>>=◌
abbrev pub ◌>>=◌ : {A B : Type 0} → Read A → (A → Read B) → Read B
Ok x >>= f = f x
Err fault >>= f = Err fault

-- an answer is what is read, unless memory runs out
abbrev pub Gives : {T : Type 0} → Read T → Read T → Type 0
Gives answer read = MatchResult answer (λ x. read ≡ Ok x) (λ fault. fault ≢ Memory → read ≡ Err fault)

-- ---- Where a value stands.

-- what stands under a key, below another place, which is empty at the top
abbrev pub below : List ℕ → List ℕ → List ℕ
below [] key = key
below (b ∷ place) key = b ∷ place ++ codes ", " ++ key

-- an item of the list at a place, by its number from 1
abbrev pub numbered : List ℕ → ℕ → List ℕ
numbered place n = place ++ codes " " ++ decimal n

-- the fault of a value that isn't of that form, unless memory runs out
abbrev pub IsWrong : List ℕ → Form → ProfileFault → Type 0
IsWrong place form fault = fault ≢ Memory → fault ≡ Wrong place form

-- ---- Under a key.

-- what is meant where nothing stands under a key
abbrev pub default_of : Need → Option Data
default_of need.Required = None
default_of (need.Text text) = Some (string text.now)
default_of need.EmptyText = Some (array (item (string []) no_items))
default_of need.EmptyList = Some (array no_items)
default_of need.EmptyTable = Some (table no_members)
default_of need.Optional = None

-- the key of an entry
abbrev pub key_of : Entry → Key
key_of e = record { name = e.key.now; default = default_of e.need }

abbrev pub or_missing : {T : Type 0} → (List ℕ → Data → Read T) → List ℕ → Option Data → Read T
or_missing said place None = Err (Missing place)
or_missing said place (Some value) = said place value

abbrev pub or_default : {T : Type 0} → (List ℕ → Data → Read T) → Option Data → List ℕ → Option Data → Read T
or_default said default place None = or_missing said place default
or_default said default place (Some value) = said place value

-- what stands under a key, in the section at a place
unfoldable pub entry_of : {T : Type 0} → (List ℕ → Data → Read T) → Key → List ℕ → Data → Read T
entry_of said key place section = or_default said key.default (below place key.name) (get key.name section)

abbrev pub if_there : {T : Type 0} → (List ℕ → Data → Read T) → List ℕ → Option Data → Read (Option T)
if_there said place None = Ok None
if_there said place (Some value) = said place value >>= λ x. Ok (Some x)

-- the same, if anything stands there
unfoldable pub perhaps_of : {T : Type 0} → (List ℕ → Data → Read T) → Key → List ℕ → Data → Read (Option T)
perhaps_of said key place section = if_there said (below place key.name) (get key.name section)

-- ---- Sections.

abbrev pub is_known : List Key → List ℕ → Bool
is_known keys key = list_any (λ k. bytes_eq k.name key) keys

-- the first key of a table that is none of these
abbrev pub first_unknown : List Key → Members → Option (List ℕ)
first_unknown keys no_members = None
first_unknown keys (member key value more) = if is_known keys key then first_unknown keys more else Some key

abbrev pub or_unknown : List ℕ → Option (List ℕ) → Read (Unit {0})
or_unknown place None = Ok tt
or_unknown place (Some key) = Err (Unknown (below place key))

-- a table in which only the these keys stand
unfoldable pub section_of : List Key → List ℕ → Data → Read (Unit {0})
section_of keys place (table members) = or_unknown place (first_unknown keys members)
section_of keys place value = Err (Wrong place form.Table)

-- ---- Texts.

-- a text
abbrev pub text_of : List ℕ → Data → Read (List ℕ)
text_of place (string text) = Ok text
text_of place value = Err (Wrong place form.Text)

-- ---- Words.

-- the value that stands under a word
abbrev pub named : {W : Type 0} → (W → List ℕ) → List W → List ℕ → Option W
named word all text = find (λ value. bytes_eq (word value) text) all

abbrev pub or_wrong : {W : Type 0} → Form → List ℕ → Option W → Read W
or_wrong form place None = Err (Wrong place form)
or_wrong form place (Some value) = Ok value

-- one of the words
abbrev pub word_of : {W : Type 0} → (W → List ℕ) → List W → Form → List ℕ → Data → Read W
word_of word all form place (string text) = or_wrong form place (named word all text)
word_of word all form place value = Err (Wrong place form)

-- ---- Lists.

-- what each says, or the first fault
abbrev pub each : {A T : Type 0} → (A → Read T) → List A → Read (List T)
each said [] = Ok []
each said (a ∷ more) = said a >>= λ x. each said more >>= λ xs. Ok (x ∷ xs)

-- the items of an array with their numbers, and the members of a table with their keys
abbrev pub numbered_items : ℕ → Items → List (ℕ × Data)
numbered_items n no_items = []
numbered_items n (item value more) = (n, value) ∷ numbered_items (suc n) more

abbrev pub keyed_members : Members → List (List ℕ × Data)
keyed_members no_members = []
keyed_members (member key value more) = (key, value) ∷ keyed_members more

-- what the items of the array at a place say
abbrev pub items_of : {T : Type 0} → (List ℕ → Data → Read T) → List ℕ → Items → Read (List T)
items_of said place items = each (λ i. said (numbered place i.0) i.1) (numbered_items 1 items)

-- what the members of the table at a place say
abbrev pub members_of : {T : Type 0} → (List ℕ → List ℕ → Data → Read T) → List ℕ → Members → Read (List T)
members_of said place members = each (λ m. said place m.0 m.1) (keyed_members members)

-- a list, or a value alone as a list of one
abbrev pub list_of : {T : Type 0} → (List ℕ → Data → Read T) → List ℕ → Data → Read (List T)
list_of said place (array items) = items_of said place items
list_of said place value = said place value >>= λ x. Ok (x ∷ [])

-- a list alone
abbrev pub only_list_of : {T : Type 0} → (List ℕ → Data → Read T) → List ℕ → Data → Read (Listed T)
only_list_of said place (array items) = items_of said place items >>= λ xs. Ok (record { items = xs })
only_list_of said place value = Err (Wrong place form.List)

-- one or more; of none, something is missing
abbrev pub some_of : {T : Type 0} → List ℕ → List T → Read (List T)
some_of place [] = Err (Missing place)
some_of place (x ∷ xs) = Ok (x ∷ xs)

-- a table whose keys are free, or of a table of words
abbrev pub keyed_of : {T : Type 0} → (List ℕ → List ℕ → Data → Read T) → List ℕ → Data → Read (Keyed T)
keyed_of said place (table members) = members_of said place members >>= λ ms. Ok (record { members = ms })
keyed_of said place value = Err (Wrong place form.Table)
