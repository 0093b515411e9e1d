-- A read takes the first of the records that a reader has left.
use Rattle.std.specs.Prelude.{if◌then◌else◌, IsSome}
use Rattle.std.proofs.Common.{◌≡◌, ◌⊎◌, ℕ, zero, suc, ◌+◌, ◌<◌, Bool, true, false, List, [], ◌∷◌, ◌++◌, length, Option, Some, None, Bor, refl, sym, ◌∙◌, ap, subst, inl, inr, arith, add-one}
use Rattle.std.proofs.lemmas.Option.{same_Some}
use Rattle.csv.specs.Machine.{Read, ends_at_end, field_after, fields_after, is_end, next_record, step}
use Rattle.csv.specs.declared.error.ErrorKind.{ErrorKind}
use Rattle.csv.specs.declared.error.ErrorKind.TheVariants as kind
use Rattle.csv.specs.Reading.{ExplainsRead, Reached, ReadRecord, ReadsNext, TookRecord, pending_of, records_from, records_next}
use Rattle.csv.specs.declared.parser.Config.{Config}
use Rattle.csv.specs.declared.parser.State.{State}
use Rattle.csv.specs.declared.parser.State.TheVariants as st
use Rattle.csv.specs.declared.reader.Reader.{Reader}
use Rattle.csv.proofs.ReadFacts.{rows-end, rows-more}
use Rattle.lot_sheet.specs.Reading.{HasNoText, bytes_left, records_left, records_of}

-- ---- A record takes bytes, or stands at their end.

at_end : (b : Bool) (x q : Read) → (if b then Some x else None) ≡ Some q → x ≡ q
at_end true x q e = same_Some x q e
at_end false x q e = cc

by_end : (b : Bool) (x q : Read) (o : Option Read) → (if b then Some x else o) ≡ Some q → (x ≡ q) ⊎ (o ≡ Some q)
by_end true x q o e = inl (same_Some x q e)
by_end false x q o e = inr e

-- fewer bytes are left, or none at the start of a record
abbrev IsLess : List ℕ → Read → Type 0
IsLess xs q = (length q.2 < length xs) ⊎ ((q.1 ≡ st.StartRecord) × (q.2 ≡ []))

less_behind : (c : ℕ) (rest ys : List ℕ) → rest ≡ ys → length ys < length (c ∷ rest)
less_behind c rest ys e = subst (λ (zs : List ℕ). length zs < length (c ∷ rest)) e (omega arith)

less_more : (c : ℕ) (rest : List ℕ) (q : Read) → IsLess rest q → IsLess (c ∷ rest) q
less_more c rest q (inl lt) = inl (omega (arith, lt))
less_more c rest q (inr end) = inr end

shorter : (cfg : Config) (s : State) (fields : List (List ℕ)) (field xs : List ℕ) (q : Read) → next_record cfg s fields field xs ≡ Some q → IsLess xs q
unfolding next_record
shorter cfg s fields field [] q e =
    let same = at_end (ends_at_end s) (fields ++ (field ∷ []), st.StartRecord, []) q e in
    inr (sym (ap (λ (r : Read). r.1) same), sym (ap (λ (r : Read). r.2) same))
shorter cfg s fields field (c ∷ rest) q e =
    elim (by_end (is_end (step cfg s c).1) (fields_after (step cfg s c).1 fields field, (step cfg s c).0, rest) q
    (next_record cfg (step cfg s c).0 (fields_after (step cfg s c).1 fields field) (field_after (step cfg s c).1 c field) rest) e) [
      | inl same ↦ inl (less_behind c rest q.2 (ap (λ (r : Read). r.2) same))
      | inr more ↦ less_more c rest q (shorter cfg (step cfg s c).0 (fields_after (step cfg s c).1 fields field) (field_after (step cfg s c).1 c field) rest q more)
    ]

-- ---- So the number of steps that are allowed doesn't matter.

nothing : (cfg : Config) (n : ℕ) → records_from cfg n st.StartRecord [] ≡ []
unfolding records_from next_record
nothing cfg zero = refl
nothing cfg (suc n) = refl

rest_same : (cfg : Config) (n m : ℕ) (xs : List ℕ) (q : Read) → IsLess xs q → length xs < suc n → length xs < suc m
    → ((t : State) (ys : List ℕ) → length ys < n → length ys < m → records_from cfg n t ys ≡ records_from cfg m t ys)
    → records_from cfg n q.1 q.2 ≡ records_from cfg m q.1 q.2
rest_same cfg n m xs q (inl lt) h k same = same q.1 q.2 (omega (arith, lt, h)) (omega (arith, lt, k))
rest_same cfg n m xs q (inr end) h k same = rw (end.0, end.1) (nothing cfg n ∙ sym (nothing cfg m))

next_same : (cfg : Config) (n m : ℕ) (s : State) (xs : List ℕ) (o : Option Read) → next_record cfg s [] [] xs ≡ o → length xs < suc n → length xs < suc m
    → ((t : State) (ys : List ℕ) → length ys < n → length ys < m → records_from cfg n t ys ≡ records_from cfg m t ys)
    → records_next (records_from cfg n) o ≡ records_next (records_from cfg m) o
next_same cfg n m s xs None e h k same = refl
next_same cfg n m s xs (Some q) e h k same =
    ap (λ (more : List (List (List ℕ))). q.0 ∷ more) (rest_same cfg n m xs q (shorter cfg s [] [] xs q e) h k same)

enough : (cfg : Config) (n m : ℕ) (s : State) (xs : List ℕ) → length xs < n → length xs < m → records_from cfg n s xs ≡ records_from cfg m s xs
unfolding records_from
enough cfg zero m s xs h k = absurd (omega (arith, h))
enough cfg (suc n) zero s xs h k = absurd (omega (arith, k))
enough cfg (suc n) (suc m) s xs h k =
    next_same cfg n m s xs (next_record cfg s [] [] xs) refl h k (λ t ys a b. enough cfg n m t ys a b)

-- ---- The first record of those that are left.

opened : (cfg : Config) (s : State) (ys : List ℕ) → records_of cfg s (Some ys) ≡ records_next (records_from cfg (length ys)) (next_record cfg s [] [] ys)
unfolding records_from
opened cfg s ys = rw (add-one (length ys)) refl

rest_left : (cfg : Config) (ys : List ℕ) (q : Read) → IsLess ys q → records_from cfg (length ys) q.1 q.2 ≡ records_of cfg q.1 (Some q.2)
rest_left cfg ys q (inl lt) = enough cfg (length ys) (length q.2 + 1) q.1 q.2 lt (omega arith)
rest_left cfg ys q (inr end) = rw (end.0, end.1) (nothing cfg (length ys) ∙ sym (nothing cfg 1))

taken : (cfg : Config) (s : State) (ys : List ℕ) (q : Read) → next_record cfg s [] [] ys ≡ Some q → records_of cfg s (Some ys) ≡ q.0 ∷ records_of cfg q.1 (Some q.2)
taken cfg s ys q e =
    opened cfg s ys ∙ ap (records_next (records_from cfg (length ys))) e
    ∙ ap (λ (more : List (List (List ℕ))). q.0 ∷ more) (rest_left cfg ys q (shorter cfg s [] [] ys q e))

ended : (cfg : Config) (s : State) (ys : List ℕ) → next_record cfg s [] [] ys ≡ None → records_of cfg s (Some ys) ≡ []
ended cfg s ys e = opened cfg s ys ∙ ap (records_next (records_from cfg (length ys))) e

-- ---- By a reader.

some_is : {X : Type 0} (o : Option X) → IsSome o → (x : X) × (o ≡ Some x)
some_is None h = cc
some_is (Some x) h = (x, refl)

is_some_of : {X : Type 0} (o : Option X) (x : X) → o ≡ Some x → IsSome o
is_some_of o x e = rw (e) refl

left_by : (cfg : Config) (s t : State) (o : Option (List ℕ)) (y z : List ℕ) (f : List (List ℕ)) (q : Read) → o ≡ Some y → next_record cfg s [] [] y ≡ Some q
    → f ≡ q.0 → q.1 ≡ t → q.2 ≡ z → records_of cfg s o ≡ f ∷ records_of cfg t (Some z)
left_by cfg s t o y z f q eo e ef et ez = ap (records_of cfg s) eo ∙ taken cfg s y q e ∙ rw (ef, et, ez) refl

some_by : (a b : Reader (Bor (List ℕ))) (f : List (List ℕ)) → b.config ≡ a.config → IsSome (bytes_left a)
    → ReadRecord (λ (bytes : Bor (List ℕ)). Some bytes.now) a b true f
    → (records_left a ≡ f ∷ records_left b) × IsSome (bytes_left b)
unfolding Reached
some_by a b f config known r =
    let y = some_is (bytes_left a) known in
    let m = rows-more (λ (bytes : Bor (List ℕ)). Some bytes.now) a b f a.config a.state y.0 y.0 [] refl y.1 (refl, refl) r in
    let q = m.2 in (
      left_by a.config a.state b.state (bytes_left a) y.0 m.0 f q.0 y.1 q.1 q.2 q.3.0 q.3.1
          ∙ ap (λ (o : Option (List ℕ)). f ∷ records_of a.config b.state o) (sym m.1)
          ∙ ap (λ (cfg : Config). f ∷ records_of cfg b.state (bytes_left b)) (sym config),
      is_some_of (bytes_left b) m.0 m.1,
    )

pub read_some : (a b : Reader (Bor (List ℕ))) (f : List (List ℕ)) (found : Bool) → found ≡ true → IsSome (bytes_left a)
    → ReadRecord (λ (bytes : Bor (List ℕ)). Some bytes.now) a b found f
    → (records_left a ≡ f ∷ records_left b) × IsSome (bytes_left b)
read_some a b f true e known r = some_by a b f r.2 known r
read_some a b f false e known r = cc

none_by : (a b : Reader (Bor (List ℕ))) (f : List (List ℕ)) → IsSome (bytes_left a)
    → ReadRecord (λ (bytes : Bor (List ℕ)). Some bytes.now) a b false f → records_left a ≡ []
none_by a b f known r =
    let y = some_is (bytes_left a) known in
    ap (records_of a.config a.state) y.1 ∙ ended a.config a.state y.0 (rows-end (λ (bytes : Bor (List ℕ)). Some bytes.now) a b f a.config y.0 refl y.1 r)

pub read_none : (a b : Reader (Bor (List ℕ))) (f : List (List ℕ)) (found : Bool) → found ≡ false → IsSome (bytes_left a)
    → ReadRecord (λ (bytes : Bor (List ℕ)). Some bytes.now) a b found f → records_left a ≡ []
read_none a b f true e known r = cc
read_none a b f false e known r = none_by a b f known r

took_by : (cfg : Config) (s t : State) (y : List ℕ) (k : Option (List ℕ)) (f : List (List ℕ)) (o : Option Read) → next_record cfg s [] [] y ≡ o
    → (q : ReadsNext cfg s (Some y) k true f t) → (others : List (List (List ℕ))) × (records_of cfg s (Some y) ≡ f ∷ others)
took_by cfg s t y None f o e r = absurd r
took_by cfg s t y (Some z) f None e r = cc (rw e at r)
took_by cfg s t y (Some z) f (Some q) e r =
    let is = rw e at r in
    (records_of cfg q.1 (Some q.2), taken cfg s y q e ∙ ap (λ (g : List (List ℕ)). g ∷ records_of cfg q.1 (Some q.2)) (sym is.1))

-- a record that was taken is the first of those that were left
pub took : (a b : Reader (Bor (List ℕ))) (f : List (List ℕ)) → IsSome (bytes_left a) → TookRecord (λ (bytes : Bor (List ℕ)). Some bytes.now) a b f
    → (others : List (List (List ℕ))) × (records_left a ≡ f ∷ others)
took a b f known r =
    let y = some_is (bytes_left a) known in
    let k = pending_of (Some b.rdr.now) b in
    let by = took_by a.config a.state b.state y.0 k f (next_record a.config a.state [] [] y.0) refl (rw (y.1) at r) in
    (by.0, ap (records_of a.config a.state) y.1 ∙ by.1)

-- it tells of a record that isn't text
abbrev pub IsUtf8Kind : ErrorKind → Type 0
IsUtf8Kind (kind.Utf8 pos err) = Unit {0}
IsUtf8Kind (kind.Io e) = ⊥
IsUtf8Kind kind.OutOfMemory = ⊥
IsUtf8Kind (kind.UnequalLengths pos expected len) = ⊥
IsUtf8Kind (kind.Serialize why) = ⊥
IsUtf8Kind (kind.Deserialize pos err) = ⊥

-- a read that finds no text tells of the first record
pub no_text : (a b : Reader (Bor (List ℕ))) (why : ErrorKind) → IsSome (bytes_left a)
    → ExplainsRead (λ (bytes : Bor (List ℕ)). Some bytes.now) a b true why → IsUtf8Kind why → HasNoText (records_left a)
no_text a b (kind.Utf8 pos err) known h is =
    let t = took a b h.1 known h.2 in
    record { first = h.1; others = t.0; all = t.1; why = h.3 }
no_text a b (kind.Io e) known h is = absurd is
no_text a b kind.OutOfMemory known h is = absurd is
no_text a b (kind.UnequalLengths pos expected len) known h is = absurd is
no_text a b (kind.Serialize why) known h is = absurd is
no_text a b (kind.Deserialize pos err) known h is = absurd is
