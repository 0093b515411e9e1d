-- What the steps of reading words answer, for the code alone.
use Rattle.std.specs.Prelude.{◌≡◌, ◌⊎◌, List, [], ◌∷◌, ◌++◌, Option, Some, None, Result, Ok, Err, codes}
use Rattle.clap.specs.Words.{Row, Text}
use Rattle.lot_args.specs.Words.{bad_of, misplaced_in, missing_in}
use Rattle.lot_args.specs.declared.fault.WordsFault.{WordsFault}
use Rattle.lot_args.specs.declared.fault.WordsFault.TheVariants.{BadValue, Memory, Misplaced, MissingOptions, Unmatched, Usage}

-- the word is one of the names
abbrev pub IsOneOf : List Text → Text → Type 0
IsOneOf [] word = ⊥
IsOneOf (name ∷ names) word = (word ≡ name) ⊎ IsOneOf names word

-- the words on a book
abbrev pub book_words : List Text
book_words =
    codes "init" ∷ codes "migrate" ∷ codes "post" ∷ codes "import" ∷ codes "holdings" ∷ codes "gains" ∷ codes "register"
    ∷ codes "activity" ∷ codes "journal" ∷ codes "page" ∷ codes "dump" ∷ codes "reconcile" ∷ codes "restore"
    ∷ codes "verify" ∷ []

-- there is such a word on a book
abbrev pub IsBookWord : Text → Type 0
IsBookWord = IsOneOf book_words

-- there is such a word
abbrev pub IsWord : Text → Type 0
IsWord = IsOneOf (book_words ++ codes "explain" ∷ [])

-- What words answer that `clap` takes, all of whose options are looked at before a value is kept: a misplaced option goes before
-- missing options, and those before a bad value. It is out of memory only where there is none of these.
abbrev pub JudgesOptions : {T : Type 0} → List Row → Option (Text × List Row) → Result T WordsFault → Type 0
JudgesOptions before asked (Ok value) =
    (misplaced_in before asked ≡ None) × (missing_in asked ≡ None) × (bad_of before asked ≡ None)
JudgesOptions before asked (Err (Misplaced option)) = misplaced_in before asked ≡ Some option
JudgesOptions before asked (Err (MissingOptions needed)) = (misplaced_in before asked ≡ None) × (missing_in asked ≡ Some needed)
JudgesOptions before asked (Err (BadValue bad)) =
    (misplaced_in before asked ≡ None) × (missing_in asked ≡ None) × (bad_of before asked ≡ Some bad)
JudgesOptions before asked (Err (Usage error)) = ⊥
JudgesOptions before asked (Err Unmatched) = ⊥
JudgesOptions before asked (Err Memory) =
    (misplaced_in before asked ≡ None) × (missing_in asked ≡ None) × (bad_of before asked ≡ None)
