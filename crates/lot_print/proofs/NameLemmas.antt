-- Accounts and commodities are words.
use Rattle.std.proofs.Common.{◌≡◌, inl, inr, ℕ, ◌≤◌, Bool, true, false, ◌&&◌, ◌||◌, List, [], ◌∷◌, length, refl, subst, sym, arith, eqb}
use Rattle.std.specs.Prelude.{codes, slice_index}
use Rattle.std.specs.List.{list_all, slice_split, onto_first}
use Rattle.std.specs.Char.{is_ascii_digit, is_ascii_uppercase}
use Rattle.std.specs.Cmp.Lexicographic.{pointwise, same_text}
use Rattle.std.proofs.lemmas.Bool.{and_parts, and_from, or_cases, leb-true}
use Rattle.std.proofs.lemmas.Bool.Decides.{nat_tests}
use Rattle.std.proofs.lemmas.List.Splits.{slice_split-cons_yes, slice_split-cons_no}
use Rattle.lot_base.specs.Name.{is_account, is_account_path, is_root, is_component, is_component_byte, is_commodity, is_commodity_byte, components, longest_account, longest_commodity}
use Rattle.lot_syntax.specs.Token.{is_word_start, is_word_byte, begins}
use Rattle.lot_print.proofs.ListLemmas.{all_pass}
use Rattle.lot_print.proofs.PieceLemmas.{IsPiece, is_printed, printed}

-- a byte of a word that is ASCII
abbrev is_name_byte : ℕ → Bool
is_name_byte b = is_word_byte b && is_printed b

-- a word of ASCII, with at most so many bytes
pub record IsWord (most : ℕ) (word : List ℕ) : Type 0 where
  pub starts : begins is_word_start word ≡ true
  pub goes_on : list_all is_word_byte word ≡ true
  pub piece : IsPiece most word

named : (most : ℕ) (word : List ℕ) → begins is_word_start word ≡ true → list_all is_name_byte word ≡ true → length word ≤ most
    → IsWord most word
named most word starts all short = record {
  starts = starts;
  goes_on = all_pass is_name_byte is_word_byte (λ b e. (and_parts (is_word_byte b) (is_printed b) e).0) word all;
  piece = printed most word
      (all_pass is_name_byte is_printed (λ b e. (and_parts (is_word_byte b) (is_printed b) e).1) word all) short;
}

-- ---- Parts between separators.

abbrev names : List (List ℕ) → Bool
names parts = list_all (list_all is_name_byte) parts

onto : (b : ℕ) (parts : List (List ℕ)) → names (onto_first b parts) ≡ true → (is_name_byte b ≡ true) × (names parts ≡ true)
onto b [] h = ((and_parts _ _ (and_parts _ _ h).0).0, refl)
onto b (part ∷ parts) h =
    let both = and_parts _ _ h in
    let first = and_parts _ _ both.0 in
    (first.0, and_from _ _ first.1 both.1)

split_by : (p : ℕ → Bool) (b : ℕ) (bytes : List ℕ) → ((c : ℕ) → p c ≡ true → is_name_byte c ≡ true) → (cuts : Bool) → p b ≡ cuts
    → (names (slice_split p bytes) ≡ true → list_all is_name_byte bytes ≡ true)
    → names (slice_split p (b ∷ bytes)) ≡ true → list_all is_name_byte (b ∷ bytes) ≡ true
split_by p b bytes each true e ih h =
    let more : names (slice_split p bytes) ≡ true = rw (slice_split-cons_yes p b bytes e) at h in
    and_from _ _ (each b e) (ih more)
split_by p b bytes each false e ih h =
    let parts = onto b (slice_split p bytes) (rw (slice_split-cons_no p b bytes e) at h) in
    and_from _ _ parts.0 (ih parts.1)

split_named : (p : ℕ → Bool) → ((c : ℕ) → p c ≡ true → is_name_byte c ≡ true) → (bytes : List ℕ)
    → names (slice_split p bytes) ≡ true
    → list_all is_name_byte bytes ≡ true
split_named p each [] h = refl
split_named p each (b ∷ bytes) h = split_by p b bytes each (p b) refl (split_named p each bytes) h

-- the first part begins as the whole does
abbrev starts_first : List (List ℕ) → Bool
starts_first [] = false
starts_first (part ∷ parts) = begins is_word_start part

onto_starts : (b : ℕ) (parts : List (List ℕ)) → starts_first (onto_first b parts) ≡ true → is_word_start b ≡ true
onto_starts b [] h = h
onto_starts b (part ∷ parts) h = h

split_starts : (p : ℕ → Bool) (bytes : List ℕ) → starts_first (slice_split p bytes) ≡ true → begins is_word_start bytes ≡ true
split_starts p [] h = h
split_starts p (b ∷ bytes) h = by (p b) refl
  where
    by : (cuts : Bool) → p b ≡ cuts → is_word_start b ≡ true
    by true e = let none : false ≡ true = rw (slice_split-cons_yes p b bytes e) at h in cc
    by false e = onto_starts b (slice_split p bytes) (rw (slice_split-cons_no p b bytes e) at h)

-- ---- Accounts.

abbrev IsStart : List ℕ → Type 0
IsStart part = (list_all is_name_byte part ≡ true) × (begins is_word_start part ≡ true)

same_start : (part root : List ℕ) → pointwise eqb part root ≡ true → IsStart root → IsStart part
same_start part root e h = subst IsStart (sym (same_text part root (sym e))) h

root_named : (part : List ℕ) → is_root part ≡ true → IsStart part
unfolding is_root
root_named part h =
    elim (or_cases _ _ h) [
      | inl a ↦ same_start part (codes "Assets") a (refl, refl)
      | inr others ↦ elim (or_cases _ _ others) [
        | inl a ↦ same_start part (codes "Liabilities") a (refl, refl)
        | inr others ↦ elim (or_cases _ _ others) [
          | inl a ↦ same_start part (codes "Equity") a (refl, refl)
          | inr others ↦ elim (or_cases _ _ others) [
            | inl a ↦ same_start part (codes "Income") a (refl, refl)
            | inr others ↦ elim (or_cases _ _ others) [
              | inl a ↦ same_start part (codes "Expenses") a (refl, refl)
              | inr none ↦ absurd (cc)
            ]
          ]
        ]
      ]
    ]

first_named : (b : ℕ) → (is_ascii_uppercase b || is_ascii_digit b) ≡ true → is_name_byte b ≡ true
first_named b e = grind (arith, nat_tests)

component_byte_named : (b : ℕ) → is_component_byte b ≡ true → is_name_byte b ≡ true
component_byte_named b e = grind (arith, nat_tests)

component_named : (part : List ℕ) → is_component part ≡ true → list_all is_name_byte part ≡ true
unfolding is_component
component_named [] h = cc
component_named (first ∷ rest) h =
    let both = and_parts _ _ h in
    and_from _ _ (first_named first both.0) (all_pass is_component_byte is_name_byte component_byte_named rest both.1)

path_named : (parts : List (List ℕ)) → is_account_path parts ≡ true → (names parts ≡ true) × (starts_first parts ≡ true)
path_named [] h = cc
path_named (root ∷ []) h = cc
path_named (root ∷ first ∷ more) h =
    let both = and_parts (is_root root) (list_all is_component (first ∷ more)) h in
    let start = root_named root both.0 in
    (and_from _ _ start.0 (all_pass is_component (list_all is_name_byte) component_named (first ∷ more) both.1), start.1)

colon_named : (b : ℕ) → eqb b 58 ≡ true → is_name_byte b ≡ true
colon_named b e = grind (arith, nat_tests)

pub account_word : (account : List ℕ) → is_account account ≡ true → IsWord longest_account account
unfolding is_account
account_word account h =
    let parts = and_parts _ _ h in
    let path = path_named (components account) parts.1 in
    named longest_account account (split_starts (λ b. eqb b 58) account path.1) (split_named (λ b. eqb b 58) colon_named account path.0)
    (leb-true (length account) longest_account parts.0)

-- ---- Commodities.

commodity_byte_named : (b : ℕ) → is_commodity_byte b ≡ true → is_name_byte b ≡ true
commodity_byte_named b e = grind (arith, nat_tests)

upper_starts : (b : ℕ) → is_ascii_uppercase b ≡ true → is_word_start b ≡ true
upper_starts b e = grind (arith, nat_tests)

capital_starts : (bytes : List ℕ) → is_ascii_uppercase (slice_index bytes 0) ≡ true → begins is_word_start bytes ≡ true
capital_starts [] h = cc
capital_starts (b ∷ bytes) h = upper_starts b h

pub commodity_word : (commodity : List ℕ) → is_commodity commodity ≡ true → IsWord longest_commodity commodity
unfolding is_commodity
commodity_word commodity h =
    let a = and_parts _ _ h in
    let b = and_parts _ _ a.0 in
    let c = and_parts _ _ b.0 in
    let d = and_parts _ _ c.0 in
    named longest_commodity commodity (capital_starts commodity b.1)
    (all_pass is_commodity_byte is_name_byte commodity_byte_named commodity c.1) (leb-true (length commodity) longest_commodity d.1)
