-- The first line of a file that has a header is that, or begins with a part of it and a quote.
use Rattle.std.specs.Prelude.{if◌then◌else◌, ◌==◌, ◌&&◌, ◌||◌, ⊤}
use Rattle.std.proofs.Common.{◌≡◌, ℕ, Bool, true, false, List, [], ◌∷◌, ◌++◌, Option, Some, refl, sym, ◌∙◌, ap, append_assoc}
use Rattle.std.proofs.lemmas.Bool.{eqb-true, eq-eqb, true≢false}
use Rattle.std.proofs.lemmas.List.{append_cancel_left}
use Rattle.std.proofs.lemmas.Option.{same_Some}
use Rattle.csv.specs.Machine.{Read, ends_at_end, field_after, fields_after, in_field, is_end, next_record, start_field, step}
use Rattle.csv.specs.Reading.{default_config, strip_bom}
use Rattle.csv.specs.declared.parser.Action.{Action}
use Rattle.csv.specs.declared.parser.Action.TheVariants as act
use Rattle.csv.specs.declared.parser.State.{State}
use Rattle.csv.specs.declared.parser.State.TheVariants as st
use Rattle.lot_import.specs.File.{HasNoHeader, HasRecords}
use Rattle.lot_import.specs.Header.{ends_line, header_text, may_begin, may_say, quote}
use Rattle.lot_import.specs.Row.{columns}
use Rattle.lot_import.specs.declared.version.Version.{Version}
use Rattle.lot_import.specs.declared.version.Version.TheVariants.{First, Second}
use Rattle.lot_import.proofs.ReadLemmas.{at_end, first_read}

-- ---- The text of fields, each but the one at hand with a comma behind it.

abbrev text_of : List (List ℕ) → List ℕ → List ℕ
text_of [] field = field
text_of (f ∷ fs) field = f ++ 44 ∷ text_of fs field

text-copied : (fs : List (List ℕ)) (field : List ℕ) (c : ℕ) → text_of fs (field ++ c ∷ []) ≡ text_of fs field ++ c ∷ []
text-copied [] field c = refl
text-copied (f ∷ fs) field c =
    ap (λ (t : List ℕ). f ++ 44 ∷ t) (text-copied fs field c) ∙ sym (append_assoc f (44 ∷ text_of fs field) (c ∷ []))

text-ended : (fs : List (List ℕ)) (field : List ℕ) → text_of (fs ++ field ∷ []) [] ≡ text_of fs field ++ 44 ∷ []
text-ended [] field = refl
text-ended (f ∷ fs) field =
    ap (λ (t : List ℕ). f ++ 44 ∷ t) (text-ended fs field) ∙ sym (append_assoc f (44 ∷ text_of fs field) (44 ∷ []))

-- ---- A record's text begins with that of the fields so far.

-- and goes on
abbrev Begins : List ℕ → List ℕ → Type 0
Begins start all = (next : ℕ) × (tail : List ℕ) × (all ≡ start ++ next ∷ tail)

behind : (start all : List ℕ) (c : ℕ) (next : List ℕ) → next ≡ start ++ c ∷ [] → Begins next all → Begins start all
behind start all c next e (x, tail, is) = (c, x ∷ tail, is ∙ ap (λ (t : List ℕ). t ++ x ∷ tail) e ∙ append_assoc start (c ∷ []) (x ∷ tail))

grown_by : (fields : List (List ℕ)) (field : List ℕ) (c : ℕ) (rest : List ℕ) (r : Read)
    → ((t : State) (fs : List (List ℕ)) (f : List ℕ) → next_record default_config t fs f rest ≡ Some r → Begins (text_of fs f) (text_of r.0 []))
    → (t : State) (a : Action)
    → (if is_end a then Some (fields_after a fields field, t, rest)
    else next_record default_config t (fields_after a fields field) (field_after a c field) rest) ≡ Some r
    → Begins (text_of fields field) (text_of r.0 [])
grown_by fields field c rest r more t act.Skip e = more t fields field e
grown_by fields field c rest r more t act.Copy e =
    behind (text_of fields field) (text_of r.0 []) c (text_of fields (field ++ c ∷ [])) (text-copied fields field c) (more t fields (field ++ c ∷ []) e)
grown_by fields field c rest r more t act.EndField e =
    behind (text_of fields field) (text_of r.0 []) 44 (text_of (fields ++ field ∷ []) []) (text-ended fields field) (more t (fields ++ field ∷ []) [] e)
grown_by fields field c rest r more t act.EndRecord e =
    (44, [], sym (ap (λ (q : Read). text_of q.0 []) (same_Some _ _ e)) ∙ text-ended fields field)

grown : (s : State) (fields : List (List ℕ)) (field text : List ℕ) (r : Read) → next_record default_config s fields field text ≡ Some r
    → Begins (text_of fields field) (text_of r.0 [])
unfolding next_record
grown s fields field [] r e =
    (44, [], sym (ap (λ (q : Read). text_of q.0 []) (at_end (ends_at_end s) (fields ++ (field ∷ []), st.StartRecord, []) r e)) ∙ text-ended fields field)
grown s fields field (c ∷ rest) r e =
    grown_by fields field c rest r (λ t fs f h. grown t fs f rest r h) (step default_config s c).0 (step default_config s c).1 e

-- ---- Bytes outside quotes.

-- no quote is open
abbrev IsPlain : State → Type 0
IsPlain st.StartRecord = ⊥
IsPlain st.StartField = ⊤
IsPlain st.InField = ⊤
IsPlain st.InQuoted = ⊥
IsPlain st.AfterQuote = ⊥
IsPlain st.InEscape = ⊥
IsPlain st.InComment = ⊥
IsPlain st.AfterCr = ⊥

-- what a byte outside quotes does: it joins the field, or it is a comma and ends the field, or it ends the line and the record
abbrev DoesPlainly : ℕ → State → Action → Type 0
DoesPlainly b next act.Skip = ⊥
DoesPlainly b next act.Copy = IsPlain next
DoesPlainly b next act.EndField = (b ≡ 44) × IsPlain next
DoesPlainly b next act.EndRecord = ends_line b ≡ true

by_kind : (b : ℕ) (comma line : Bool) (t : State) → (comma ≡ true → b ≡ 44) → (line ≡ true → ends_line b ≡ true)
    → let did : State × Action = if comma then (st.StartField, act.EndField) else if line then (t, act.EndRecord) else (st.InField, act.Copy) in
    DoesPlainly b did.0 did.1
by_kind b true line t is ends = (is refl, tt)
by_kind b false true t is ends = ends refl
by_kind b false false t is ends = tt

in_plain : (b : ℕ) → DoesPlainly b (in_field default_config b).0 (in_field default_config b).1
in_plain b = by_kind b (b == 44) ((b == 13) || (b == 10)) _ (λ e. eqb-true b 44 e) (λ e. e)

unquoted : (b : ℕ) (quoted : Bool) → quoted ≡ false
    → let did : State × Action = if quoted then (st.InQuoted, act.Skip) else in_field default_config b in DoesPlainly b did.0 did.1
unquoted b true e = cc
unquoted b false e = in_plain b

stepped : (s : State) (b : ℕ) → IsPlain s → (b == quote) ≡ false → DoesPlainly b (step default_config s b).0 (step default_config s b).1
stepped st.StartRecord b plain e = absurd plain
stepped st.StartField b plain e = unquoted b (b == 34) e
stepped st.InField b plain e = in_plain b
stepped st.InQuoted b plain e = absurd plain
stepped st.AfterQuote b plain e = absurd plain
stepped st.InEscape b plain e = absurd plain
stepped st.InComment b plain e = absurd plain
stepped st.AfterCr b plain e = absurd plain

-- ---- Along the columns.

abbrev first_of : List ℕ → ℕ
first_of [] = 0
first_of (x ∷ xs) = x

abbrev rest_of : List ℕ → List ℕ
rest_of [] = []
rest_of (x ∷ xs) = xs

not_empty : (more : List ℕ) → [] ≡ more ++ 44 ∷ [] → ⊥
not_empty [] e = cc
not_empty (m ∷ ms) e = cc

-- a record that ends there has a shorter text
too_short : (start all : List ℕ) (c : ℕ) (more : List ℕ) → all ≡ start ++ 44 ∷ [] → all ≡ start ++ ((c ∷ more) ++ 44 ∷ []) → ⊥
too_short start all c more e h =
    not_empty more (ap rest_of (append_cancel_left start (44 ∷ []) ((c ∷ more) ++ 44 ∷ []) (sym e ∙ h)))

-- one that goes on has a longer text
too_long : (start now all : List ℕ) (b : ℕ) → now ≡ start ++ b ∷ [] → Begins now all → all ≡ start ++ 44 ∷ [] → ⊥
too_long start now all b e (x, tail, is) h =
    longer (ap rest_of (append_cancel_left start (b ∷ x ∷ tail) (44 ∷ [])
    (sym (append_assoc start (b ∷ []) (x ∷ tail)) ∙ ap (λ (t : List ℕ). t ++ x ∷ tail) (sym e) ∙ sym is ∙ h)))
  where
    longer : x ∷ tail ≡ [] → ⊥
    longer more = cc

-- the next byte is that of the text
next_byte : (start now all : List ℕ) (b c : ℕ) (left : List ℕ) → now ≡ start ++ b ∷ [] → Begins now all → all ≡ start ++ c ∷ left
    → (b ≡ c) × (all ≡ now ++ left)
next_byte start now all b c left e (x, tail, is) h =
    let same : b ≡ c =
    ap first_of (append_cancel_left start (b ∷ x ∷ tail) (c ∷ left)
    (sym (append_assoc start (b ∷ []) (x ∷ tail)) ∙ ap (λ (t : List ℕ). t ++ x ∷ tail) (sym e) ∙ sym is ∙ h)) in (
      same,
      h ∙ sym (append_assoc start (c ∷ []) left) ∙ ap (λ (x : ℕ). (start ++ x ∷ []) ++ left) (sym same) ∙ ap (λ (t : List ℕ). t ++ left) (sym e),
    )

either : (x y : Bool) → x ≡ true → x || y ≡ true
either true y e = refl
either false y e = cc

other : (x y : Bool) → y ≡ true → x || y ≡ true
other true y e = refl
other false y e = e

both : (x y : Bool) → x ≡ true → y ≡ true → x && y ≡ true
both true y e f = f
both false y e f = cc

turn : (fields : List (List ℕ)) (field : List ℕ) (b c : ℕ) (more text : List ℕ) (r : Read)
    → ((t : State) (fs : List (List ℕ)) (f : List ℕ) → IsPlain t → next_record default_config t fs f text ≡ Some r
    → text_of r.0 [] ≡ text_of fs f ++ (more ++ 44 ∷ []) → may_say more text ≡ true)
    → text_of r.0 [] ≡ text_of fields field ++ ((c ∷ more) ++ 44 ∷ [])
    → (t : State) (a : Action) → DoesPlainly b t a
    → (if is_end a then Some (fields_after a fields field, t, text)
    else next_record default_config t (fields_after a fields field) (field_after a b field) text) ≡ Some r
    → (b == c) && may_say more text ≡ true
turn fields field b c more text r again h t act.Skip plain e = absurd plain
turn fields field b c more text r again h t act.Copy plain e =
    let next = next_byte (text_of fields field) (text_of fields (field ++ b ∷ [])) (text_of r.0 []) b c (more ++ 44 ∷ [])
    (text-copied fields field b) (grown t fields (field ++ b ∷ []) text r e) h in
    both (b == c) (may_say more text) (eq-eqb b c next.0) (again t fields (field ++ b ∷ []) plain e next.1)
turn fields field b c more text r again h t act.EndField plain e =
    let next = next_byte (text_of fields field) (text_of (fields ++ field ∷ []) []) (text_of r.0 []) b c (more ++ 44 ∷ [])
    (text-ended fields field ∙ ap (λ (x : ℕ). text_of fields field ++ x ∷ []) (sym plain.0)) (grown t (fields ++ field ∷ []) [] text r e) h in
    both (b == c) (may_say more text) (eq-eqb b c next.0) (again t (fields ++ field ∷ []) [] plain.1 e next.1)
turn fields field b c more text r again h t act.EndRecord plain e =
    absurd (too_short (text_of fields field) (text_of r.0 []) c more
    (sym (ap (λ (q : Read). text_of q.0 []) (same_Some _ _ e)) ∙ text-ended fields field) h)

-- behind the whole text only the end of its line is left
stop : (fields : List (List ℕ)) (field : List ℕ) (b : ℕ) (text : List ℕ) (r : Read) → text_of r.0 [] ≡ text_of fields field ++ 44 ∷ []
    → (t : State) (a : Action) → DoesPlainly b t a
    → (if is_end a then Some (fields_after a fields field, t, text)
    else next_record default_config t (fields_after a fields field) (field_after a b field) text) ≡ Some r
    → ends_line b ≡ true
stop fields field b text r h t act.Skip plain e = absurd plain
stop fields field b text r h t act.Copy plain e =
    absurd (too_long (text_of fields field) (text_of fields (field ++ b ∷ [])) (text_of r.0 []) b (text-copied fields field b)
    (grown t fields (field ++ b ∷ []) text r e) h)
stop fields field b text r h t act.EndField plain e =
    absurd (too_long (text_of fields field) (text_of (fields ++ field ∷ []) []) (text_of r.0 []) 44 (text-ended fields field)
    (grown t (fields ++ field ∷ []) [] text r e) h)
stop fields field b text r h t act.EndRecord plain e = plain

goes : (s : State) (fields : List (List ℕ)) (field wanted text : List ℕ) (r : Read) → IsPlain s
    → next_record default_config s fields field text ≡ Some r → text_of r.0 [] ≡ text_of fields field ++ (wanted ++ 44 ∷ [])
    → may_say wanted text ≡ true
unfolding next_record
goes s fields field [] [] r plain e h = refl
goes s fields field [] (b ∷ text) r plain e h =
    by (λ is. stop fields field b text r h (step default_config s b).0 (step default_config s b).1 (stepped s b plain is) e) (b == quote) refl
  where
    by : ((b == quote) ≡ false → ends_line b ≡ true) → (quoted : Bool) → (b == quote) ≡ quoted → ends_line b || quoted ≡ true
    by go true is = other (ends_line b) true refl
    by go false is = either (ends_line b) false (go is)
goes s fields field (c ∷ more) [] r plain e h =
    absurd (too_short (text_of fields field) (text_of r.0 []) c more
    (sym (ap (λ (q : Read). text_of q.0 []) (at_end (ends_at_end s) (fields ++ (field ∷ []), st.StartRecord, []) r e)) ∙ text-ended fields field) h)
goes s fields field (c ∷ more) (b ∷ text) r plain e h =
    by (λ is. turn fields field b c more text r (λ t fs f p x y. goes t fs f more text r p x y) h (step default_config s b).0
    (step default_config s b).1 (stepped s b plain is) e) (b == quote) refl
  where
    by : ((b == quote) ≡ false → (b == c) && may_say more text ≡ true) → (quoted : Bool) → (b == quote) ≡ quoted
        → quoted || ((b == c) && may_say more text) ≡ true
    by go true is = refl
    by go false is = go is

-- ---- Behind empty lines.

-- the record that begins at a byte, as that ends a line or not
abbrev read_at : ℕ → List ℕ → State × Action → Option Read
read_at b text did =
    if is_end did.1 then Some (fields_after did.1 [] [], did.0, text)
    else next_record default_config did.0 (fields_after did.1 [] []) (field_after did.1 b []) text

abbrev at_start : ℕ → List ℕ → Bool → Option Read
at_start b text ends = read_at b text (if ends then (st.StartRecord, act.Skip) else start_field default_config b)

-- one of the two headers
one_of : (version : Version) (text : List ℕ) → may_say (header_text version) text ≡ true
    → may_say (header_text First) text || may_say (header_text Second) text ≡ true
one_of First text e = either (may_say (header_text First) text) (may_say (header_text Second) text) e
one_of Second text e = other (may_say (header_text First) text) (may_say (header_text Second) text) e

begun : (version : Version) (text : List ℕ) (r : Read) → next_record default_config st.StartRecord [] [] text ≡ Some r
    → text_of r.0 [] ≡ header_text version ++ 44 ∷ [] → may_begin text ≡ true
unfolding next_record
begun version [] r e h = cc
begun version (b ∷ text) r e h = by (λ x. begun version text r x h) (ends_line b) refl
  where
    by : (next_record default_config st.StartRecord [] [] text ≡ Some r → may_begin text ≡ true) → (ends : Bool) → ends_line b ≡ ends
        → (if ends then may_begin text else may_say (header_text First) (b ∷ text) || may_say (header_text Second) (b ∷ text)) ≡ true
    by go true is = go (sym (ap (at_start b text) is) ∙ e)
    by go false is =
        one_of version (b ∷ text)
        (goes st.StartField [] [] (header_text version) (b ∷ text) r tt (sym (ap (at_start b text) is) ∙ e) h)

-- ---- The headers of both versions.

header : (version : Version) → text_of (columns version) [] ≡ header_text version ++ 44 ∷ []
header First = refl
header Second = refl

pub header_begins : (bytes : List ℕ) (version : Version) (written : List (List (List ℕ))) → HasRecords version bytes written
    → may_begin (strip_bom bytes) ≡ true
header_begins bytes version written file =
    let read = first_read (strip_bom bytes) (columns version) written file in
    begun version (strip_bom bytes) read.0 read.1 (ap (λ (fs : List (List ℕ)). text_of fs []) read.2 ∙ header version)

pub no_header : (bytes : List ℕ) → may_begin (strip_bom bytes) ≡ false → HasNoHeader bytes
no_header bytes e version written file = true≢false (sym (header_begins bytes version written file) ∙ e)
