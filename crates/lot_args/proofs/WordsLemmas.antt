-- What is read of the values that `clap` matched, and what it says of the words of the program.
use Rattle.std.proofs.Common.{◌≡◌, ◌≢◌, ◌∙◌, subst, sym, inl, inr, lt-ltb, ltb-true, refl, ℕ, Bool, true, false, List, [], ◌∷◌, Option, Some, None, Err, Ok, length, option_map}
use Rattle.std.specs.Prelude.{Result, unwrap_or, ◌^◌, nat_lt}
use Rattle.std.specs.Char.{digit_value}
use Rattle.std.specs.List.{list_all}
use Rattle.std.specs.Borrow.{Bor}
use Rattle.std.specs.Str.Parse.{ParsesUnsigned, digits_value, without_leading_plus}
use Rattle.std.specs.Option.{option_map_or}
use Rattle.std.specs.Str.Parse.{AllDigits}
use Rattle.std.specs.Result.{result_unwrap_or}
use Rattle.std.specs.Prelude.{IfOk, IsErrAnd}
use Rattle.clap.specs.Words.{HasKind, IsAmong, Kinds}
use Rattle.clap.specs.Words.{ReadsOne, Row, Text, kind_of, subcommand_name_of, subcommand_rows_of}
use Rattle.clap.specs.declared.error.Error.{Error}
use Rattle.clap.specs.declared.error.ErrorKind.TheVariants as kind
use Rattle.clap.specs.declared.parser.matches.ArgMatches.{ArgMatches}
use Rattle.clap.proofs.WalkLemmas.{both}
use Rattle.lot_args.specs.Faults.{Refuses}
use Rattle.lot_args.specs.Steps.{JudgesOptions}
use Rattle.lot_args.specs.Number.{is_number, number_or}
use Rattle.lot_args.specs.Words.{Ask, bad_of, misplaced_in, missing_in}
use Rattle.lot_args.specs.declared.fault.BadOption.{BadOption}
use Rattle.lot_args.specs.declared.fault.Needed.{Needed}
use Rattle.lot_args.specs.declared.fault.WordsFault.{WordsFault}
use Rattle.lot_args.specs.declared.fault.WordsFault.TheVariants.{BadValue, Memory, Misplaced, MissingOptions, Unmatched, Usage}
use Rattle.lot_args.specs.declared.request.Request.{Request}

-- a text that is there, or else the empty one
pub text_or_empty : (o : Option (Bor Text)) (none : Bor Text) (v : Option Text) → none.now ≡ [] → option_map (λ s. s.now) o ≡ v
    → (unwrap_or o none).now ≡ unwrap_or v []
text_or_empty None none v empty same = rw (← same) empty
text_or_empty (Some s) none v empty same = rw (← same) refl

digits_of : (ds : List ℕ) → AllDigits 10 ds → list_all (λ d. nat_lt (digit_value d) 10) ds ≡ true
digits_of [] h = refl
digits_of (d ∷ ds) h = rw (lt-ltb (digit_value d) 10 h.0) (digits_of ds h.1)

of_digits : (ds : List ℕ) → list_all (λ d. nat_lt (digit_value d) 10) ds ≡ true → AllDigits 10 ds
of_digits [] e = tt
of_digits (d ∷ ds) e =
    let parts = both _ _ e in
    (ltb-true _ _ parts.0, of_digits ds parts.1)

-- the number that `u32` reads, or else the other one
number_read : {E : Type 0} (other : ℕ) (text : Text) (r : Result ℕ E) → ParsesUnsigned 32 10 text r
    → result_unwrap_or r other ≡ number_or other text
number_read other text (Ok n) h =
    let ds = without_leading_plus text in
    rw (lt-ltb 0 (length ds) h.0.0.0, digits_of ds h.0.0.1, lt-ltb (digits_value 10 ds) (2 ^ 32) h.0.1) h.1
number_read other text (Err e) h = go (is_number (without_leading_plus text)) refl
  where
    go : (b : Bool) → is_number (without_leading_plus text) ≡ b → other ≡ number_or other text
    go false t = rw t refl
    go true t =
        let outer = both _ _ t in
        let inner = both _ _ outer.0 in
        absurd (h ((ltb-true _ _ inner.0, of_digits (without_leading_plus text) inner.1), ltb-true _ _ outer.1))

one_read : {E : Type 0} (other : ℕ) (G : List ℕ → Result ℕ E → Type 0) (text : Text) (o : Option ℕ)
    → ((x : Result ℕ E) → G text x → ParsesUnsigned 32 10 text x) → ReadsOne G text o → unwrap_or o other ≡ number_or other text
one_read {E} other G text (Some n) only h = number_read {E = E} other text (Ok n) (only (Ok n) h)
one_read {E} other G text None only h = number_read {E = E} other text (Err h.0) (only (Err h.0) h.1)

-- the number that is read of a value, the other one where there is none
pub number_from : {E : Type 0} (other : ℕ) (G : List ℕ → Result ℕ E → Type 0) (o : Option ℕ) (v : Option Text)
    → ((text : Text) (x : Result ℕ E) → G text x → ParsesUnsigned 32 10 text x) → (v ≡ None → o ≡ None)
    → ((text : Text) → v ≡ Some text → ReadsOne G text o) → unwrap_or o other ≡ option_map_or (number_or other) v other
number_from other G o None only none value = rw (none refl) refl
number_from other G o (Some text) only none value = one_read other G text o (only text) (value text refl)

module _ {B X Y : Type 0} (f : B → X) (g : B → Y) where
  -- a value by its two parts
  abbrev pub parts_of : Option B → Option (X × Y)
  parts_of = option_map {T = B} {U = X × Y} (λ b. (f b, g b))

  pub pair_of_parts : (o : Option B) (x : X) (y : Y) → option_map f o ≡ Some x → option_map {T = X × Y} {U = Y} (λ p. p.1) (parts_of o) ≡ Some y
      → parts_of o ≡ Some (x, y)
  pair_of_parts None x y one two = cc
  pair_of_parts (Some b) x y one two = cc

  pub no_parts : (o : Option B) → option_map f o ≡ None → parts_of o ≡ None
  no_parts None one = refl
  no_parts (Some b) one = cc

-- the word that a parse met, with its rows
pub met_word : (m : ArgMatches) (word : Text) (rows : List Row) → subcommand_name_of m ≡ Some word
    → option_map {T = Text × List Row} {U = List Row} (λ p. p.1) (subcommand_rows_of m) ≡ Some rows → subcommand_rows_of m ≡ Some (word, rows)
met_word m word rows named values = pair_of_parts _ _ _ word rows named values

-- a parse that met no word
pub met_none : (m : ArgMatches) → subcommand_name_of m ≡ None → subcommand_rows_of m ≡ None
met_none m named = no_parts _ _ _ named

-- ---- words of which each option was looked at

-- what was matched asks for this
pub ask_of : (asked o : Option (Text × List Row)) (faults : Kinds) (read before : List Row) (r : Result Request WordsFault)
    → o ≡ asked → faults ≡ [] → read ≡ before → IfOk r (Ask read asked) → JudgesOptions read asked r
    → IfOk r (λ request. (faults ≡ []) × Ask before o request × (misplaced_in before o ≡ None)
    × (missing_in o ≡ None) × (bad_of before o ≡ None))
ask_of asked o faults read before (Ok request) met none same asks judged = rw (met, ← same) (none, asks, judged.0, judged.1, judged.2)
ask_of asked o faults read before (Err e) met none same asks judged = tt

-- an option that stands before a word
pub misplaced_words : (asked o : Option (Text × List Row)) (faults : Kinds) (read before : List Row) (r : Result Request WordsFault) (option : BadOption)
    → o ≡ asked → faults ≡ [] → read ≡ before → JudgesOptions read asked r → r ≡ Err (Misplaced option)
    → (faults ≡ []) × (misplaced_in before o ≡ Some option)
misplaced_words asked o faults read before r option met none same judged e =
    let told = subst (λ (r : Result Request WordsFault). JudgesOptions read asked r) e judged in
    rw (met, ← same) (none, told)

-- options that are missing
pub lacking_words : (asked o : Option (Text × List Row)) (faults : Kinds) (read before : List Row) (r : Result Request WordsFault) (needed : Needed)
    → o ≡ asked → faults ≡ [] → read ≡ before → JudgesOptions read asked r → r ≡ Err (MissingOptions needed)
    → (faults ≡ []) × (misplaced_in before o ≡ None) × (missing_in o ≡ Some needed)
lacking_words asked o faults read before r needed met none same judged e =
    let told = subst (λ (r : Result Request WordsFault). JudgesOptions read asked r) e judged in
    rw (met, ← same) (none, told.0, told.1)

-- an option whose value is outside its rule
pub bad_words : (asked o : Option (Text × List Row)) (faults : Kinds) (read before : List Row) (r : Result Request WordsFault) (bad : BadOption)
    → o ≡ asked → faults ≡ [] → read ≡ before → JudgesOptions read asked r → r ≡ Err (BadValue bad)
    → (faults ≡ []) × (misplaced_in before o ≡ None) × (missing_in o ≡ None) × (bad_of before o ≡ Some bad)
bad_words asked o faults read before r bad met none same judged e =
    let told = subst (λ (r : Result Request WordsFault). JudgesOptions read asked r) e judged in
    rw (met, ← same) (none, told.0, told.1, told.2)

-- memory that ended where nothing is bad
pub none_bad : (asked o : Option (Text × List Row)) (faults : Kinds) (read before : List Row) (r : Result Request WordsFault)
    → o ≡ asked → faults ≡ [] → read ≡ before → JudgesOptions read asked r → r ≡ Err Memory
    → (faults ≡ []) × (misplaced_in before o ≡ None) × (missing_in o ≡ None) × (bad_of before o ≡ None)
none_bad asked o faults read before r met none same judged e =
    let told = subst (λ (r : Result Request WordsFault). JudgesOptions read asked r) e judged in
    rw (met, ← same) (none, told.0, told.1, told.2)

-- ---- errors of `clap`

-- an error of `clap` that is out of memory is told as that
pub no_usage : (error : Error) (r : Result Request WordsFault) → IsErrAnd r (Refuses error) → kind_of error ≡ kind.OutOfMemory
    → (told : Error) → r ≢ Err (Usage told)
no_usage error (Ok request) refused memory told e = cc
no_usage error (Err (Usage other)) refused memory told e = refused.1 memory
no_usage error (Err (BadValue bad)) refused memory told e = absurd refused
no_usage error (Err (Misplaced option)) refused memory told e = absurd refused
no_usage error (Err (MissingOptions needed)) refused memory told e = absurd refused
no_usage error (Err Unmatched) refused memory told e = cc
no_usage error (Err Memory) refused memory told e = absurd refused

-- of which kind the error is that is told
pub kind_told : (error : Error) (r : Result Request WordsFault) (known kinds : Kinds) → IsErrAnd r (Refuses error) → HasKind known error → known ≡ kinds
    → (told : Error) → r ≡ Err (Usage told) → IsAmong (kind_of told) kinds
kind_told error (Ok request) known kinds refused has is told e = cc
kind_told error (Err (BadValue bad)) known kinds refused has is told e = absurd refused
kind_told error (Err (Misplaced option)) known kinds refused has is told e = absurd refused
kind_told error (Err (MissingOptions needed)) known kinds refused has is told e = absurd refused
kind_told error (Err Unmatched) known kinds refused has is told e = cc
kind_told error (Err Memory) known kinds refused has is told e = absurd refused
kind_told error (Err (Usage other)) known kinds refused has is told e =
    let same : error ≡ told = let one : other ≡ told = cc in sym refused.0 ∙ one in
    let Kind : Error → Type 0 = λ x. IsAmong (kind_of x) known in
    let Told : Kinds → Type 0 = λ ks. IsAmong (kind_of told) ks in
    elim has [ inl memory ↦ absurd (refused.1 memory) | inr among ↦ subst Told is (subst Kind same among) ]
