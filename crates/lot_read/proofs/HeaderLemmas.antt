-- A header means one command at most, and it means one exactly where all its parts are within their rules.
use Rattle.std.proofs.Common.{◌≡◌, ℕ, cond, List, [], ◌∷◌, Option, None, Some, refl, sym, ap, ◌∙◌, eqb}
use Rattle.std.specs.Prelude.{flat_map}
use Rattle.std.specs.List.{AllZip}
use Rattle.lot_base.specs.Name.{is_account, is_commodity, is_note}
use Rattle.lot_cost.specs.Method.{word_of}
use Rattle.lot_cost.specs.declared.method.Method.{Method}
use Rattle.lot_cost.specs.declared.method.Method.TheVariants.{Strict, Fifo, Lifo, Hifo, Unmatched}
use Rattle.lot_command.specs.declared.command.Command.{Command}
use Rattle.lot_command.specs.declared.command.Command.TheVariants as Commands
use Rattle.lot_command.specs.declared.transaction.Narration.{Narration}
use Rattle.lot_syntax.specs.Form.{Directive, opening, closing, declaring, quoting, transaction}
use Rattle.lot_read.specs.Meaning.{MeansHeader, MeansMethod, MeansNotes, MeansPerhaps, Names, Quotes, AreInside, commodity_item, method_item, note_item, listed_by, note_items, header_items}
use Rattle.lot_read.proofs.DirectiveLemmas.{opening_inside}
use Rattle.lot_read.proofs.ItemLemmas.{inside_parts}
use Rattle.lot_read.proofs.OneLemmas.{MeansOne, one_perhaps, one_day, one_rate, one_name, one_note}

-- ---- One command at most.

one_notes : MeansOne MeansNotes
one_notes notes x y h k =
    let payee : x.payee ≡ y.payee = one_perhaps (Quotes is_note) one_note notes.0 x.payee y.payee h.payee k.payee in
    let text : x.text ≡ y.text = one_note notes.1 x.text y.text h.narration k.narration in
    λ i. record { payee = payee i; text = text i }

one_currencies : MeansOne (AllZip (Names is_commodity))
one_currencies [] [] [] h k = refl
one_currencies [] [] (y ∷ ys) h k = absurd k
one_currencies [] (x ∷ xs) ys h k = absurd h
one_currencies (word ∷ words) [] ys h k = absurd h
one_currencies (word ∷ words) (x ∷ xs) [] h k = absurd k
one_currencies (word ∷ words) (x ∷ xs) (y ∷ ys) h k =
    let first : x ≡ y = one_name is_commodity word x y h.0 k.0 in
    let others : xs ≡ ys = one_currencies words xs ys h.1 k.1 in
    λ i. first i ∷ others i

-- the method whose word begins with that letter
begun_by : ℕ → Method
begun_by letter =
    cond (eqb letter 83) Strict (cond (eqb letter 70) Fifo (cond (eqb letter 76) Lifo (cond (eqb letter 72) Hifo Unmatched)))

first_letter : List ℕ → ℕ
first_letter [] = 0
first_letter (letter ∷ word) = letter

word_begins : (method : Method) → begun_by (first_letter (word_of method)) ≡ method
unfolding begun_by first_letter
word_begins Strict = refl
word_begins Fifo = refl
word_begins Lifo = refl
word_begins Hifo = refl
word_begins Unmatched = refl

one_method : MeansOne MeansMethod
one_method None x y h k = h ∙ sym k
one_method (Some word) x y h k = sym (word_begins x) ∙ ap (λ w. begun_by (first_letter w)) (sym h ∙ k) ∙ word_begins y

pub one_command : (day : List ℕ) (directive : Directive) (a b : Command) → MeansHeader day directive a → MeansHeader day directive b → a ≡ b
one_command day (opening account currencies part) (Commands.Opening x) (Commands.Opening y) h k =
    let on : x.day ≡ y.day = one_day day x.day y.day h.0 k.0 in
    let named : x.account ≡ y.account = one_name is_account account x.account y.account h.1 k.1 in
    let listed : x.currencies ≡ y.currencies = one_currencies currencies x.currencies y.currencies h.2 k.2 in
    let by : x.method ≡ y.method = one_method part x.method y.method h.3 k.3 in
    λ i. Commands.Opening (record { day = on i; account = named i; currencies = listed i; method = by i })
one_command day (opening account currencies part) (Commands.Opening x) y h k = absurd k
one_command day (opening account currencies part) x y h k = absurd h
one_command day (closing account) (Commands.Closing x) (Commands.Closing y) h k =
    let on : x.day ≡ y.day = one_day day x.day y.day h.0 k.0 in
    let named : x.account ≡ y.account = one_name is_account account x.account y.account h.1 k.1 in
    λ i. Commands.Closing (record { day = on i; account = named i })
one_command day (closing account) (Commands.Closing x) y h k = absurd k
one_command day (closing account) x y h k = absurd h
one_command day (declaring commodity) (Commands.Declaring x) (Commands.Declaring y) h k =
    let on : x.day ≡ y.day = one_day day x.day y.day h.0 k.0 in
    let named : x.commodity ≡ y.commodity = one_name is_commodity commodity x.commodity y.commodity h.1 k.1 in
    λ i. Commands.Declaring (record { day = on i; commodity = named i })
one_command day (declaring commodity) (Commands.Declaring x) y h k = absurd k
one_command day (declaring commodity) x y h k = absurd h
one_command day (quoting base rate quote) (Commands.Quoting x) (Commands.Quoting y) h k =
    let on : x.day ≡ y.day = one_day day x.day y.day h.0 k.0 in
    let of : x.base ≡ y.base = one_name is_commodity base x.base y.base h.1 k.1 in
    let at : x.rate ≡ y.rate = one_rate rate x.rate y.rate h.2 k.2 in
    let per : x.quote ≡ y.quote = one_name is_commodity quote x.quote y.quote h.3 k.3 in
    λ i. Commands.Quoting (record { day = on i; base = of i; rate = at i; quote = per i })
one_command day (quoting base rate quote) (Commands.Quoting x) y h k = absurd k
one_command day (quoting base rate quote) x y h k = absurd h
one_command day (transaction flag notes) (Commands.Transaction x) (Commands.Transaction y) h k =
    let on : x.day ≡ y.day = one_day day x.day y.day h.0 k.0 in
    let flagged : x.flag ≡ y.flag = h.1 ∙ sym k.1 in
    let noted : x.narration ≡ y.narration = one_perhaps MeansNotes one_notes notes x.narration y.narration h.2 k.2 in
    let posted : x.postings ≡ y.postings = h.3 ∙ sym k.3 in
    λ i. Commands.Transaction (record { day = on i; flag = flagged i; narration = noted i; postings = posted i })
one_command day (transaction flag notes) (Commands.Transaction x) y h k = absurd k
one_command day (transaction flag notes) x y h k = absurd h

-- ---- What means a command has all its parts inside.

notes_inside : (notes : Option (Option (List ℕ) × List ℕ)) (meant : Option Narration) → MeansPerhaps MeansNotes notes meant
    → AreInside (listed_by note_items notes)
notes_inside None meant h = tt
notes_inside (Some notes) None h = absurd h
notes_inside (Some (payee, text)) (Some narration) h = narration_inside payee narration.payee h.payee ((narration.text, h.narration), tt)
  where
    narration_inside : (payee name : Option (List ℕ)) → MeansPerhaps (Quotes is_note) payee name → AreInside (note_item text ∷ [])
        → AreInside (note_items (payee, text))
    narration_inside None name p t = t
    narration_inside (Some payee) None p t = absurd p
    narration_inside (Some payee) (Some name) p t = ((name, p), t)

pub command_inside : (day : List ℕ) (directive : Directive) (command : Command) → MeansHeader day directive command
    → AreInside (header_items day directive)
command_inside day (opening account currencies part) (Commands.Opening x) h =
    ((x.day, h.0), opening_inside account x.account currencies x.currencies part x.method h.1 h.2 h.3)
command_inside day (opening account currencies part) x h = absurd h
command_inside day (closing account) (Commands.Closing x) h = ((x.day, h.0), ((x.account, h.1), tt))
command_inside day (closing account) x h = absurd h
command_inside day (declaring commodity) (Commands.Declaring x) h = ((x.day, h.0), ((x.commodity, h.1), tt))
command_inside day (declaring commodity) x h = absurd h
command_inside day (quoting base rate quote) (Commands.Quoting x) h =
    ((x.day, h.0), ((x.base, h.1), ((x.rate, h.2), ((x.quote, h.3), tt))))
command_inside day (quoting base rate quote) x h = absurd h
command_inside day (transaction flag notes) (Commands.Transaction x) h = ((x.day, h.0), notes_inside notes x.narration h.2)
command_inside day (transaction flag notes) x h = absurd h

-- ---- Parts that are inside mean a command.

some_currencies : (words : List (List ℕ)) → AreInside (flat_map (λ c. commodity_item c ∷ []) words)
    → (names : List (List ℕ)) × AllZip (Names is_commodity) words names
some_currencies [] h = ([], tt)
some_currencies (word ∷ words) h = let others = some_currencies words h.1 in (h.0.0 ∷ others.0, (h.0.1, others.1))

some_method : (part : Option (List ℕ)) → AreInside (listed_by (λ m. method_item m ∷ []) part) → (method : Method) × MeansMethod part method
some_method None h = (Strict, refl)
some_method (Some word) h = h.0

some_notes : (notes : Option (Option (List ℕ) × List ℕ)) → AreInside (listed_by note_items notes)
    → (meant : Option Narration) × MeansPerhaps MeansNotes notes meant
some_notes None h = (None, tt)
some_notes (Some (None, text)) h = (Some (record { payee = None; text = h.0.0 }), record { payee = tt; narration = h.0.1 })
some_notes (Some (Some payee, text)) h =
    (Some (record { payee = Some h.0.0; text = h.1.0.0 }), record { payee = h.0.1; narration = h.1.0.1 })

pub some_command : (day : List ℕ) (directive : Directive) → AreInside (header_items day directive)
    → (command : Command) × MeansHeader day directive command
some_command day (opening account currencies part) h =
    let parts = inside_parts (flat_map (λ c. commodity_item c ∷ []) currencies) (listed_by (λ m. method_item m ∷ []) part) h.1.1 in
    let names = some_currencies currencies parts.0 in
    let method = some_method part parts.1 in
    (Commands.Opening (record { day = h.0.0; account = h.1.0.0; currencies = names.0; method = method.0 }), (h.0.1, h.1.0.1, names.1, method.1))
some_command day (closing account) h = (Commands.Closing (record { day = h.0.0; account = h.1.0.0 }), (h.0.1, h.1.0.1))
some_command day (declaring commodity) h = (Commands.Declaring (record { day = h.0.0; commodity = h.1.0.0 }), (h.0.1, h.1.0.1))
some_command day (quoting base rate quote) h =
    (Commands.Quoting (record { day = h.0.0; base = h.1.0.0; rate = h.1.1.0.0; quote = h.1.1.1.0.0 }), (h.0.1, h.1.0.1, h.1.1.0.1, h.1.1.1.0.1))
some_command day (transaction flag notes) h =
    let meant = some_notes notes h.1 in
    (Commands.Transaction (record { day = h.0.0; flag = flag; narration = meant.0; postings = [] }), (h.0.1, refl, meant.1, refl))
