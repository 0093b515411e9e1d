-- Each part is within its rule or it isn't, so there is a first that isn't or all are.
use Rattle.std.proofs.Common.{◌≡◌, ◌≢◌, ◌⊎◌, inl, inr, ℕ, Bool, true, List, [], ◌∷◌, ◌++◌, refl, sym, ap, ◌∙◌, subst}
use Rattle.std.proofs.lemmas.List.{append-nil}
use Rattle.lot_num.specs.NumberText.{units_of, rate_of, total_of}
use Rattle.lot_base.specs.Name.{is_account, is_commodity, is_label, is_note}
use Rattle.lot_base.specs.Day.{named_day}
use Rattle.lot_base.proofs.DecisionLemmas.{Decided, decided_by, ok_or_not, same_or_not, some_or_not, true_or_not}
use Rattle.lot_cost.specs.Method.{word_of}
use Rattle.lot_cost.specs.declared.method.Method.{Method}
use Rattle.lot_cost.specs.declared.method.Method.TheVariants.{Strict, Fifo, Lifo, Hifo, Unmatched}
use Rattle.lot_command.specs.Canonical.{escaped, escaped_byte}
use Rattle.lot_read.specs.declared.fault.ValueFault.{ValueFault}
use Rattle.lot_read.specs.NameLaws.{label_is_quoted, named_is_good, names_itself, quoted_is_label}
use Rattle.lot_read.specs.Meaning.{Item, units_item, rate_item, total_item, account_item, commodity_item, method_item, label_item, note_item, day_item, IsInside, AreInside, FirstOutside, Names, Quotes, fault_of}
use Rattle.lot_read.proofs.EscapeLemmas.{Written, behind, plain, written, first_same, escape_front, one_text, quote_first, backslash_last}
use Rattle.lot_read.proofs.ItemLemmas.{outside_first, outside_later}

-- ---- Names.

name_or_not : (is_name : List ℕ → Bool) (bytes : List ℕ) → Decided ((name : List ℕ) × Names is_name bytes name)
name_or_not is_name bytes =
    decided_by (is_name bytes ≡ true) ((name : List ℕ) × Names is_name bytes name)
    (λ good. (bytes, names_itself is_name bytes good)) (λ (name, n). named_is_good is_name bytes name n) (true_or_not (is_name bytes))

label_or_not : (bytes : List ℕ) → Decided ((name : List ℕ) × Quotes is_label bytes name)
label_or_not bytes =
    decided_by (is_label bytes ≡ true) ((name : List ℕ) × Quotes is_label bytes name)
    (λ good. (bytes, label_is_quoted bytes good)) (λ (name, q). quoted_is_label bytes name q) (true_or_not (is_label bytes))

-- ---- Methods.

none_of_them : (bytes : List ℕ) → bytes ≢ word_of Strict → bytes ≢ word_of Fifo → bytes ≢ word_of Lifo → bytes ≢ word_of Hifo
    → bytes ≢ word_of Unmatched → (method : Method) → bytes ≡ word_of method → ⊥
none_of_them bytes a b c d e Strict = a
none_of_them bytes a b c d e Fifo = b
none_of_them bytes a b c d e Lifo = c
none_of_them bytes a b c d e Hifo = d
none_of_them bytes a b c d e Unmatched = e

method_or_not : (bytes : List ℕ) → Decided ((method : Method) × (bytes ≡ word_of method))
method_or_not bytes =
    elim (same_or_not bytes (word_of Strict)) [
      | inl e ↦ inl (Strict, e)
      | inr a ↦
          elim (same_or_not bytes (word_of Fifo)) [
            | inl e ↦ inl (Fifo, e)
            | inr b ↦
                elim (same_or_not bytes (word_of Lifo)) [
                  | inl e ↦ inl (Lifo, e)
                  | inr c ↦
                      elim (same_or_not bytes (word_of Hifo)) [
                        | inl e ↦ inl (Hifo, e)
                        | inr d ↦
                            elim (same_or_not bytes (word_of Unmatched)) [
                              | inl e ↦ inl (Unmatched, e)
                              | inr e ↦
                                  inr (λ (method, is). none_of_them bytes a b c d e method is)
                            ]
                      ]
                ]
          ]
    ]

-- ---- Notes.

-- the bytes are the escape of a text
abbrev IsEscape : List ℕ → Type 0
IsEscape bytes = (text : List ℕ) × (bytes ≡ escaped text)

-- what is behind the escape of a byte
rest_escape : (byte : ℕ) (bytes rest text : List ℕ) → bytes ≡ escaped_byte byte ++ rest → bytes ≡ escaped text → IsEscape rest
rest_escape byte bytes rest text e is =
    let more = escape_front (byte ∷ []) text rest (ap (λ x. x ++ rest) (append-nil (escaped_byte byte)) ∙ sym e ∙ is) in
    (more.0, more.2)

behind_byte : (byte : ℕ) (bytes rest : List ℕ) → bytes ≡ escaped_byte byte ++ rest → Decided (IsEscape rest) → Decided (IsEscape bytes)
behind_byte byte bytes rest e (inl (text, is)) = inl (byte ∷ text, e ∙ ap (λ x. escaped_byte byte ++ x) is)
behind_byte byte bytes rest e (inr none) = inr (λ (text, is). none (rest_escape byte bytes rest text e is))

first_two : (a b c d : ℕ) (x y : List ℕ) → a ∷ b ∷ x ≡ c ∷ d ∷ y → b ≡ d
first_two a b c d x y e = cc

special_by : (byte y : ℕ) → byte ≢ 34 → byte ≢ 92 → byte ≡ y → (y ≡ 34) ⊎ (y ≡ 92) → ⊥
special_by byte y quote backslash e (inl s) = quote (e ∙ s)
special_by byte y quote backslash e (inr s) = backslash (e ∙ s)

plain_by : (byte y : ℕ) (rest more : List ℕ) → byte ≢ 34 → byte ≢ 92 → Written y → 92 ∷ byte ∷ rest ≡ escaped_byte y ++ more → ⊥
plain_by byte y rest more quote backslash (behind s e) is =
    special_by byte y quote backslash (first_two 92 byte 92 y rest more (is ∙ ap (λ x. x ++ more) e)) s
plain_by byte y rest more quote backslash (plain q k e) is =
    k (sym (first_same 92 y (byte ∷ rest) more (is ∙ ap (λ x. x ++ more) e)))

-- a backslash before a byte that needs none
backslash_plain : (byte : ℕ) (rest text : List ℕ) → byte ≢ 34 → byte ≢ 92 → 92 ∷ byte ∷ rest ≡ escaped text → ⊥
backslash_plain byte rest [] quote backslash is = cc
backslash_plain byte rest (y ∷ text) quote backslash is = plain_by byte y rest (escaped text) quote backslash (written y) is

behind_backslash : (byte : ℕ) (rest : List ℕ) → Written byte → Decided (IsEscape rest) → Decided (IsEscape (92 ∷ byte ∷ rest))
behind_backslash byte rest (behind s e) h = behind_byte byte (92 ∷ byte ∷ rest) rest (sym (ap (λ x. x ++ rest) e)) h
behind_backslash byte rest (plain q k e) h = inr (λ (text, is). backslash_plain byte rest text q k is)

first_byte : (byte : ℕ) (rest : List ℕ) → Written byte → Decided (IsEscape rest) → Decided (IsEscape (92 ∷ rest))
    → Decided (IsEscape (byte ∷ rest))
first_byte byte rest (plain q k e) h backslash = behind_byte byte (byte ∷ rest) rest (sym (ap (λ x. x ++ rest) e)) h
first_byte byte rest (behind (inl quote) e) h backslash =
    inr (λ (text, is). quote_first rest text (ap (λ b. b ∷ rest) (sym quote) ∙ is))
first_byte byte rest (behind (inr mark) e) h backslash = subst (λ b. Decided (IsEscape (b ∷ rest))) (sym mark) backslash

escape_or_not : (bytes : List ℕ) → Decided (IsEscape bytes)
escape_or_not [] = inl ([], refl)
escape_or_not (a ∷ []) = first_byte a [] (written a) (inl ([], refl)) (inr (λ (text, is). backslash_last text is))
escape_or_not (a ∷ b ∷ rest) =
    first_byte a (b ∷ rest) (written a) (escape_or_not (b ∷ rest)) (behind_backslash b rest (written b) (escape_or_not rest))

note_by : (bytes text : List ℕ) → bytes ≡ escaped text → Decided (is_note text ≡ true) → Decided ((name : List ℕ) × Quotes is_note bytes name)
note_by bytes text is (inl good) = inl (text, record { spelled = is; good = good })
note_by bytes text is (inr bad) = inr (λ (name, q). bad (ap is_note (one_text text name (sym is ∙ q.spelled)) ∙ q.good))

note_or_not : (bytes : List ℕ) → Decided ((name : List ℕ) × Quotes is_note bytes name)
note_or_not bytes =
    elim (escape_or_not bytes) [
      | inl e ↦ note_by bytes e.0 e.1 (true_or_not (is_note e.0))
      | inr none ↦ inr (λ (name, q). none (name, q.spelled))
    ]

-- ---- Items.

item_or_not : (item : Item) → Decided (IsInside item)
item_or_not (units_item bytes) = ok_or_not (units_of bytes)
item_or_not (rate_item bytes) = ok_or_not (rate_of bytes)
item_or_not (total_item bytes) = ok_or_not (total_of bytes)
item_or_not (account_item bytes) = name_or_not is_account bytes
item_or_not (commodity_item bytes) = name_or_not is_commodity bytes
item_or_not (method_item bytes) = method_or_not bytes
item_or_not (label_item bytes) = label_or_not bytes
item_or_not (note_item bytes) = note_or_not bytes
item_or_not (day_item bytes) = some_or_not (named_day bytes)

abbrev HasFirst : List Item → Type 0
HasFirst items = (fault : ValueFault) × FirstOutside items fault

later_or_not : (item : Item) (items : List Item) → Decided (IsInside item) → AreInside items ⊎ HasFirst items
    → AreInside (item ∷ items) ⊎ HasFirst (item ∷ items)
later_or_not item items (inl h) (inl all) = inl (h, all)
later_or_not item items (inl h) (inr (fault, first)) = inr (fault, outside_later item items fault h first)
later_or_not item items (inr none) later =
    inr (fault_of item, outside_first item items (fault_of item) (record { outside = none; which = refl }))

pub inside_or_not : (items : List Item) → AreInside items ⊎ ((fault : ValueFault) × FirstOutside items fault)
inside_or_not [] = inl tt
inside_or_not (item ∷ items) = later_or_not item items (item_or_not item) (inside_or_not items)
