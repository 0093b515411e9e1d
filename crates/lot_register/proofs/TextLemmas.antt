-- Texts and fields, one behind another.
use Rattle.std.specs.Prelude.{◌≡◌, ℕ, if◌then◌else◌, List, [], ◌∷◌, ◌++◌, codes, flat_map, is_ok, Result, Ok, Err, OnOk}
use Rattle.std.proofs.Common.{refl, sym, ap, subst, ◌∙◌, append_assoc}
use Rattle.std.proofs.lemmas.Grind.{flat_map-append}
use Rattle.lot_csv.specs.Record.{field_text, others_text, record_text}

-- ---- texts

-- texts one behind another, and one more behind them
abbrev pub chain : List (List ℕ) → List ℕ → List ℕ
chain [] last = last
chain (text ∷ texts) last = text ++ chain texts last

chain_is : (texts : List (List ℕ)) (last : List ℕ) → flat_map (λ (t : List ℕ). t) texts ++ last ≡ chain texts last
chain_is [] last = refl
chain_is (text ∷ texts) last = append_assoc text (flat_map (λ (t : List ℕ). t) texts) last ∙ ap (λ rest. text ++ rest) (chain_is texts last)

grown : (old mid new : List ℕ) (texts : List (List ℕ)) (last : List ℕ) → mid ≡ old ++ flat_map (λ (t : List ℕ). t) texts → new ≡ mid ++ last
    → new ≡ old ++ chain texts last
grown old mid new texts last was is =
    is ∙ ap (λ text. text ++ last) was ∙ append_assoc old (flat_map (λ (t : List ℕ). t) texts) last ∙ ap (λ text. old ++ text) (chain_is texts last)

pub text_grown : {A E : Type 0} (result : Result A E) (old mid new : List ℕ) (texts : List (List ℕ)) (last : List ℕ)
    → mid ≡ old ++ flat_map (λ (t : List ℕ). t) texts → OnOk result (new ≡ mid ++ last) → OnOk result (new ≡ old ++ chain texts last)
text_grown (Ok done) old mid new texts last was is = grown old mid new texts last was is
text_grown (Err fault) old mid new texts last was is = tt

pub text_grown_twice : {A E : Type 0} (result : Result A E) (old mid next_text new : List ℕ) (texts : List (List ℕ)) (next last : List ℕ)
    → mid ≡ old ++ flat_map (λ (t : List ℕ). t) texts → next_text ≡ mid ++ next → OnOk result (new ≡ next_text ++ last)
    → OnOk result (new ≡ old ++ chain texts (next ++ last))
text_grown_twice (Ok done) old mid next_text new texts next last was now is =
    grown old mid new texts (next ++ last) was (is ∙ ap (λ text. text ++ last) now ∙ append_assoc mid next last)
text_grown_twice (Err fault) old mid next_text new texts next last was now is = tt

-- a space and a lot in braces, as its parts one behind another
pub braces_are : (number currency day label : List ℕ)
    → chain (codes " {" ∷ number ∷ codes " " ∷ currency ∷ codes ", " ∷ day ∷ []) (label ++ codes "}")
    ≡ codes " " ++ (codes "{" ++ number ++ codes " " ++ currency ++ codes ", " ++ day ++ label ++ codes "}")
braces_are number currency day label =
    let one = number ++ codes " " in
    let two = one ++ currency in
    let three = two ++ codes ", " in
    let four = three ++ day in
    let last = label ++ codes "}" in
    let behind = day ++ last in
    let more = codes ", " ++ behind in
    ap (λ (text : List ℕ). 32 ∷ 123 ∷ text)
    (sym
    (append_assoc four label (codes "}")
    ∙ append_assoc three day last
    ∙ append_assoc two (codes ", ") behind
    ∙ append_assoc one currency more
    ∙ append_assoc number (codes " ") (currency ++ more)))

-- the same text
pub told_text : {A E : Type 0} (result : Result A E) (new old part other : List ℕ) → part ≡ other → OnOk result (new ≡ old ++ part)
    → OnOk result (new ≡ old ++ other)
told_text result new old part other same held = subst (λ (text : List ℕ). OnOk result (new ≡ old ++ text)) same held

-- what is appended where nothing fails
pub pushed : {A E : Type 0} (result : Result A E) (new old more : List ℕ) → new ≡ (if is_ok result then old ++ more else old) → OnOk result (new ≡ old ++ more)
pushed (Ok done) new old more is = is
pushed (Err fault) new old more is = tt

-- ---- a record

-- the same fields
pub told_fields : {A E : Type 0} (result : Result A E) (new old : List ℕ) (fields others : List (List ℕ)) → fields ≡ others
    → OnOk result (new ≡ old ++ others_text fields) → OnOk result (new ≡ old ++ others_text others)
told_fields result new old fields others same held = subst (λ (fs : List (List ℕ)). OnOk result (new ≡ old ++ others_text fs)) same held

-- more fields
more : (front old new : List ℕ) (fields others : List (List ℕ)) → old ≡ front ++ others_text fields → new ≡ old ++ others_text others
    → new ≡ front ++ others_text (fields ++ others)
more front old new fields others was is =
    is
    ∙ ap (λ (text : List ℕ). text ++ others_text others) was
    ∙ append_assoc front (others_text fields) (others_text others)
    ∙ ap (λ (text : List ℕ). front ++ text) (sym (flat_map-append (λ (field : List ℕ). 44 ∷ field_text field) fields others))

-- the parts of a record, one behind another
pub one_record : (a b c d e : List ℕ) (day : List ℕ) (moved lot end : List (List ℕ))
    → a ≡ field_text day → b ≡ a ++ others_text moved → c ≡ b ++ others_text lot → d ≡ c ++ others_text end → e ≡ d ++ 10 ∷ []
    → e ≡ record_text (day ∷ (moved ++ (lot ++ end)))
one_record a b c d e day moved lot end one two three four five =
    let front = field_text day in
    let second : b ≡ front ++ others_text moved = two ∙ ap (λ (text : List ℕ). text ++ others_text moved) one in
    let third = more front b c moved lot second three in
    let fourth = more front c d (moved ++ lot) end third four in
    five
    ∙ ap (λ (text : List ℕ). text ++ 10 ∷ []) fourth
    ∙ append_assoc front (others_text ((moved ++ lot) ++ end)) (10 ∷ [])
    ∙ ap (λ (fields : List (List ℕ)). front ++ (others_text fields ++ 10 ∷ [])) (append_assoc moved lot end)
