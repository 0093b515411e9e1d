-- A view that records accepted commands under the keys of their numbers knows what the book of their entries says.
use Rattle.std.specs.Prelude.{◌≡◌, ◌≢◌, ℕ, suc, ◌<◌, ◌^◌, ◌&&◌, Bool, true, false, cond, List, [], ◌∷◌, ◌++◌, Option, None, Some, find, codes, decimal, ℤ, pos, ⊤}
use Rattle.std.specs.FinMap.{get-empty}
use Rattle.std.specs.Option.{option_map, unwrap_or}
use Rattle.std.proofs.Common.{refl, sym, ap, subst, ◌∙◌, arith}
use Rattle.std.proofs.lemmas.Fmt.{decimal_injective}
use Rattle.lot_base.specs.Text.{same_text}
use Rattle.lot_base.proofs.TextLemmas.{one_text}
use Rattle.lot_inv.specs.Inventory.{position_cmp as place_cmp, units_at}
use Rattle.lot_command.specs.Canonical.{canonical}
use Rattle.lot_command.specs.declared.command.Command.{Command}
use Rattle.lot_command.specs.declared.key.Key.{Key}
use Rattle.lot_book.specs.declared.verdict.Verdict.{Verdict}
use Rattle.lot_book.specs.Book.{IsBook, entry_of}
use Rattle.lot_book.specs.Change.{IsChange}
use Rattle.lot_book.specs.Edition.{After}
use Rattle.lot_book.specs.Facts.{Entry, Facts, facts_of, same_key, text_under}
use Rattle.lot_book.specs.Judged.{JudgesOn}
use Rattle.lot_book.specs.Openings.{AreOpeningsOf, DecidesByOpening, FactsWithOpenings, ties_on}
use Rattle.lot_book.specs.Step.{Accept, Outcome, Refuse, Repeat, Step}
use Rattle.lot_laws.proofs.RecordedBook.{book-grows, new-key, no-entries, recorded-known}
use Rattle.lot_laws.proofs.StepOpenings.{numbers_recorded, step_on_known}
use Rattle.lot_check.specs.Key.{key_of}
use Rattle.lot_check.specs.Way.{JudgesKnown}
use Rattle.lot_book.specs.Recorded.{facts_in, nothing_but}

-- ---- Keys of smaller numbers.

-- each entry has the key of a number below that one
abbrev pub HaveKeysBefore : ℕ → List Entry → Type 0
HaveKeysBefore number [] = ⊤
HaveKeysBefore number (entry ∷ entries) = ((n : ℕ) × (n < number) × (entry.key ≡ key_of n)) × HaveKeysBefore number entries

keys_later : (number : ℕ) (entries : List Entry) → HaveKeysBefore number entries → HaveKeysBefore (suc number) entries
keys_later number [] keys = tt
keys_later number (entry ∷ entries) ((n, below, is), keys) = ((n, omega (arith, below), is), keys_later number entries keys)

-- one entry more, with the key of that number
keys_more : (number : ℕ) (entries : List Entry) (entry : Entry) → entry.key ≡ key_of number → HaveKeysBefore number entries
    → HaveKeysBefore (suc number) (entries ++ entry ∷ [])
keys_more number [] entry is keys = ((number, omega arith, is), tt)
keys_more number (first ∷ entries) entry is ((n, below, was), keys) =
    ((n, omega (arith, below), was), keys_more number entries entry is keys)

second_false : (a b : Bool) → b ≡ false → (a && b) ≡ false
second_false true b e = e
second_false false b e = refl

names_differ : (m n : ℕ) (same : Bool) → m < 2 ^ 64 → n < m → same_text (decimal m) (decimal n) ≡ same → same ≡ false
names_differ m n false small below is = refl
names_differ m n true small below is =
    let equal : m ≡ n = decimal_injective m n small (omega (arith, small, below)) (one_text (decimal m) (decimal n) is) in
    absurd (omega (arith, below, equal))

keys_differ : (m n : ℕ) → m < 2 ^ 64 → n < m → same_key (key_of m) (key_of n) ≡ false
keys_differ m n small below =
    second_false (same_text (codes "post:check") (codes "post:check")) (same_text (decimal m) (decimal n))
    (names_differ m n (same_text (decimal m) (decimal n)) small below refl)

none_has : (number : ℕ) (entries : List Entry) → number < 2 ^ 64 → HaveKeysBefore number entries
    → find (λ (entry : Entry). same_key (key_of number) entry.key) entries ≡ None
none_has number [] small keys = refl
none_has number (entry ∷ entries) small ((n, below, is), keys) =
    let later = find (λ (e : Entry). same_key (key_of number) e.key) entries in
    ap (λ (b : Bool). cond b (Some entry) later) (ap (λ (key : Key). same_key (key_of number) key) is ∙ keys_differ number n small below)
    ∙ none_has number entries small keys

-- the key of the number stands nowhere
key_is_new : (number : ℕ) (entries : List Entry) → number < 2 ^ 64 → HaveKeysBefore number entries → text_under entries (key_of number) ≡ None
key_is_new number entries small keys =
    ap (λ (o : Option Entry). option_map (λ (entry : Entry). canonical entry.command) o) (none_has number entries small keys)

-- ---- What is known of a book.

-- a book of entries with keys of numbers below that one; and what it says is known, with the opening number of each lot that is
-- held
pub record Stands (known : FactsWithOpenings) (number : ℕ) (book : List Entry) : Type 0 where
  pub is_book : IsBook book
  pub facts : known.facts ≡ facts_in book
  pub openings : AreOpeningsOf book known.opening
  pub keys : HaveKeysBefore number book

pub stands_at_first : (known : FactsWithOpenings) → known.facts ≡ nothing_but 0 → Stands known 1 []
stands_at_first known is = record {
  is_book = record { place = 0; placed = omega arith; is = tt };
  facts = is ∙ no-entries;
  openings = λ account commodity lot some.
      absurd (some (ap (λ (o : Option ℤ). unwrap_or o (pos 0)) (get-empty place_cmp (commodity, Some lot))));
  keys = tt;
}

-- the key of the next number is new, so that the book says the same to its command
pub to_next : (known : FactsWithOpenings) (book : List Entry) (number : ℕ) → number < 2 ^ 64 → Stands known number book
    → known.facts ≡ facts_of book (key_of number)
to_next known book number small stands =
    stands.facts ∙ new-key book (key_of number) (key_is_new number book small stands.keys)

-- what is judged on what is known is judged on the book, under the key of the number
pub judged_as : (known after : FactsWithOpenings) (book : List Entry) (number : ℕ) (command : Command) (verdict : Verdict)
    → number < 2 ^ 64 → Stands known number book → JudgesKnown known command verdict after
    → (more : List Entry) × JudgesOn book (key_of number) command verdict more × Stands after (suc number) more
judged_as known after book number command verdict small stands judged = by verdict judged
  where
    key : Key
    key = key_of number

    same : known.facts ≡ facts_of book key
    same = to_next known book number small stands

    step : (outcome : Outcome) → DecidesByOpening known command outcome → Step book key command outcome
    step outcome decides = (step_on_known known book key command outcome same stands.openings).1 decides

    kept : after ≡ known → Stands after (suc number) book
    kept e = subst (λ (k : FactsWithOpenings). Stands k (suc number) book) (sym e) (record {
      is_book = stands.is_book;
      facts = stands.facts;
      openings = stands.openings;
      keys = keys_later number book stands.keys;
    })

    by : (v : Verdict) → JudgesKnown known command v after
        → (more : List Entry) × JudgesOn book key command v more × Stands after (suc number) more
    by Verdict.Accepted (change, (decides, lists), records) =
        let legs = change.legs in
        let accepted = step (Accept legs) decides in
        let entry = entry_of key command legs in
        let more = book ++ entry ∷ [] in
        let is : IsChange known.facts command legs change =
        record { same_legs = refl; positions = lists.positions; openings = lists.openings; heads = lists.heads } in
        let says : after.facts ≡ facts_in more =
        records.facts
        ∙ recorded-known (ties_on known) (After stands.is_book.place) known.facts book key command legs change
        stands.is_book.is same decides is in (
          more,
          (legs, accepted, refl),
          record {
            is_book = book-grows book key command legs stands.is_book accepted;
            facts = says;
            openings = λ account commodity lot some.
                sym (records.openings account commodity lot
                (subst (λ (f : Facts). units_at (f.held account) (commodity, Some lot) ≢ pos 0) (sym says) some))
                ∙ numbers_recorded known book key command legs change same stands.openings is account commodity lot some;
            keys = keys_more number book entry refl stands.keys;
          },
        )
    by Verdict.Repeated (decides, e) = (book, (step Repeat decides, refl), kept e)
    by (Verdict.Refused refusal) (decides, e) = (book, (step (Refuse refusal) decides, refl), kept e)
