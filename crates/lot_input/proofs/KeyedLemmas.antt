-- The keys of a batch: their texts are labels, and each command more has the key of its number.
use Rattle.std.proofs.Common.{◌≡◌, ◌≢◌, inl, inr, ◌∙◌, ◌+◌, ◌-◌, ◌%◌, ◌^◌, ◌<◌, ◌≤◌, ◌&&◌, ℕ, zero, suc, true, IsTrue, List, [], ◌∷◌, ◌++◌, length, get_or, drop, codes, decimal, nat_le, refl, sym, ap, subst, append_assoc, append-nil, length-append, arith}
use Rattle.std.proofs.lemmas.Bool.{and_from, and_parts, le-leb, leb-true, or_cases}
use Rattle.std.proofs.lemmas.Bool.Decides.{nat_tests}
use Rattle.std.proofs.lemmas.Fmt.{decimal_by_steps, decimal_nonempty, length-decimal-le}
use Rattle.std.proofs.lemmas.List.{drop-append-le, drop_all, length-drop}
use Rattle.std.proofs.lemmas.List.Folds.{list_all-append}
use Rattle.std.proofs.lemmas.List.FromFn.{get_or-range_with_len, length-range_with_len}
use Rattle.std.specs.Char.{is_ascii_alphanumeric}
use Rattle.std.specs.Int.{is_in_range}
use Rattle.std.specs.List.{All, list_all, range_with_len}
use Rattle.std.specs.Prelude.{◌||◌, ◌==◌}
use Rattle.lot_base.specs.Name.{is_label, is_label_byte, longest_label}
use Rattle.lot_command.specs.declared.command.Command.{Command}
use Rattle.lot_command.specs.declared.key.Key.{Key}
use Rattle.lot_rounding.specs.Asked.{plain}
use Rattle.lot_rounding.specs.declared.asked.Asked.{Asked}
use Rattle.lot_input.specs.Keyed.{HaveNext, keyed_from, numbered_key, source_of, under_keys}
use Rattle.lot_args.specs.Batch.{is_batch, is_batch_byte, longest_batch}

-- ---- labels

label_from : (text : List ℕ) → 1 ≤ length text → length text ≤ longest_label → list_all is_label_byte text ≡ true → IsTrue (is_label text)
unfolding is_label
label_from text some short bytes =
    and_from (nat_le 1 (length text) && nat_le (length text) longest_label) (list_all is_label_byte text)
    (and_from (nat_le 1 (length text)) (nat_le (length text) longest_label) (le-leb 1 (length text) some) (le-leb (length text) longest_label short)) bytes

-- a label is what it is by its tests
label_parts : (text : List ℕ) → IsTrue (is_label text)
    → (nat_le 1 (length text) && nat_le (length text) longest_label && list_all is_label_byte text) ≡ true
unfolding is_label
label_parts text is = is

-- the words that send commands
pub post_is_label : IsTrue (is_label (codes "post"))
post_is_label = label_from (codes "post") (omega arith) (omega arith) refl

pub import_is_label : IsTrue (is_label (codes "import"))
import_is_label = label_from (codes "import") (omega arith) (omega arith) refl

digit_byte : (d : ℕ) → d < 10 → is_label_byte (48 + d) ≡ true
digit_byte d small = grind arith

digits : (n : ℕ) → n < 2 ^ 64 → list_all is_label_byte (decimal n) ≡ true
digits =
    decimal_by_steps (λ n text. list_all is_label_byte text ≡ true) (λ n small. ap (λ b. b && true) (digit_byte n small))
    (λ n ds much all. list_all-append is_label_byte ds ((48 + n % 10) ∷ [])
    ∙ ap (λ b. b && list_all is_label_byte ((48 + n % 10) ∷ [])) all ∙ ap (λ b. true && (b && true)) (digit_byte (n % 10) (omega arith)))

-- a number is a label
pub number_is_label : (n : ℕ) → n < 2 ^ 64 → IsTrue (is_label (decimal n))
number_is_label n small =
    label_from (decimal n) (omega (arith, decimal_nonempty n small))
    (omega (arith, length-decimal-le 20 n (omega arith) (omega (arith, small)) small)) (digits n small)

printable : (b : ℕ) → 45 ≤ b → b ≤ 122 → b ≢ 92 → is_label_byte b ≡ true
printable b low high other = grind (arith, nat_tests)

in_range : (low high b : ℕ) → is_in_range low high b ≡ true → (low ≤ b) × (b ≤ high)
in_range low high b is = let parts = and_parts (nat_le low b) (nat_le b high) is in (leb-true low b parts.0, leb-true b high parts.1)

-- each byte of a batch may stand in a label
batch_byte : (b : ℕ) → is_batch_byte b ≡ true → is_label_byte b ≡ true
batch_byte b is =
    elim (or_cases (is_ascii_alphanumeric b) ((b == 46) || (b == 95) || (b == 45)) is) [
      | inl named ↦
          elim (or_cases (is_in_range 48 57 b || is_in_range 65 90 b) (is_in_range 97 122 b) named) [
            | inl first ↦
                elim (or_cases (is_in_range 48 57 b) (is_in_range 65 90 b) first) [
                  | inl digit ↦ let between = in_range 48 57 b digit in printable b (omega (arith, between)) (omega (arith, between)) (omega (arith, between))
                  | inr capital ↦ let between = in_range 65 90 b capital in printable b (omega (arith, between)) (omega (arith, between)) (omega (arith, between))
                ]
            | inr small ↦ let between = in_range 97 122 b small in printable b (omega (arith, between)) (omega (arith, between)) (omega (arith, between))
          ]
      | inr sign ↦ grind (arith, nat_tests)
    ]

batch_bytes : (batch : List ℕ) → list_all is_batch_byte batch ≡ true → list_all is_label_byte batch ≡ true
batch_bytes [] all = refl
batch_bytes (b ∷ batch) all =
    let parts = and_parts (is_batch_byte b) (list_all is_batch_byte batch) all in
    and_from (is_label_byte b) (list_all is_label_byte batch) (batch_byte b parts.0) (batch_bytes batch parts.1)

-- where the commands of a batch come from is a label
pub source_is_label : (word batch : List ℕ) → IsTrue (is_label word) → length word ≤ 16 → IsTrue (is_batch batch) → IsTrue (is_label (source_of word batch))
source_is_label word batch label few good =
    let named = and_parts (nat_le 1 (length word) && nat_le (length word) longest_label) (list_all is_label_byte word) (label_parts word label) in
    let parts = and_parts (nat_le 1 (length batch) && nat_le (length batch) longest_batch) (list_all is_batch_byte batch) good in
    let short = leb-true (length batch) longest_batch (and_parts (nat_le 1 (length batch)) (nat_le (length batch) longest_batch) parts.0).1 in
    let some = leb-true 1 (length word) (and_parts (nat_le 1 (length word)) (nat_le (length word) longest_label) named.0).0 in
    let counted : length (source_of word batch) ≡ length word + suc (length batch) = length-append word (codes ":" ++ batch) in
    label_from (source_of word batch) (omega (arith, counted, some)) (omega (arith, counted, short, few))
    (list_all-append is_label_byte word (codes ":" ++ batch)
    ∙ and_from (list_all is_label_byte word) (list_all is_label_byte (codes ":" ++ batch)) named.1 (batch_bytes batch parts.1))

-- ---- commands in their order

one_more : (source : List ℕ) (number : ℕ) (commands : List Command) (command : Command)
    → under_keys source number (commands ++ command ∷ [])
    ≡ under_keys source number commands ++ (numbered_key source (length commands + number), plain command) ∷ []
one_more source number [] command = ap (λ n. (numbered_key source n, plain command) ∷ []) (counted_on number)
  where
    counted_on : (n : ℕ) → n ≡ 0 + n
    counted_on n = omega arith
one_more source number (first ∷ commands) command =
    ap (λ more. (numbered_key source number, plain first) ∷ more)
    (one_more source (suc number) commands command
    ∙ ap (λ n. under_keys source (suc number) commands ++ (numbered_key source n, plain command) ∷ []) (counted_on (length commands) number))
  where
    counted_on : (m n : ℕ) → m + suc n ≡ suc m + n
    counted_on m n = omega arith

-- of the commands so many were taken in, and these are left
pub record TakenIn (source : List ℕ) (from : ℕ) (commands left : List Command) (count : ℕ) (keyed : List (Key × Asked)) : Type 0 where
  pub done : List Command
  pub split : commands ≡ done ++ left
  pub counted : count ≡ length done
  pub taken : keyed ≡ keyed_from source from done

pub none_yet : (source : List ℕ) (from : ℕ) (commands left : List Command) (count : ℕ) (keyed : List (Key × Asked))
    → left ≡ commands → count ≡ 0 → keyed ≡ [] → TakenIn source from commands left count keyed
none_yet source from commands left count keyed all none empty = record {
  done = [];
  split = sym all;
  counted = none;
  taken = empty ∙ ap (under_keys source from) (sym (drop_all (from - 1) [] (omega arith)));
}

pub all_taken : (source : List ℕ) (from : ℕ) (commands : List Command) (count : ℕ) (keyed : List (Key × Asked))
    → TakenIn source from commands [] count keyed → keyed ≡ keyed_from source from commands
all_taken source from commands count keyed so = so.taken ∙ ap (keyed_from source from) (sym (so.split ∙ append-nil so.done))

module _ (source : List ℕ) (from : ℕ) (commands left rest : List Command) (command : Command) (count number later : ℕ) (keyed : List (Key × Asked))
    (so : TakenIn source from commands left count keyed) (is : left ≡ command ∷ rest) (numbered : number ≡ count + 1) (counted_on : later ≡ count + 1) where
  abbrev more : List Command
  more = so.done ++ command ∷ []

  split : commands ≡ more ++ rest
  split = so.split ∙ ap (λ (cs : List Command). so.done ++ cs) is ∙ sym (append_assoc so.done (command ∷ []) rest)

  count_more : later ≡ length more
  count_more = counted_on ∙ ap (λ n. n + 1) so.counted ∙ sym (length-append so.done (command ∷ []))

  -- the command has a number from which on they are run
  pub takes_next : (longer : List (Key × Asked)) → longer ≡ keyed ++ (numbered_key source number, plain command) ∷ [] → 1 ≤ from → from ≤ number
      → TakenIn source from commands rest later longer
  takes_next longer grown some here = record {
    done = more;
    split = split;
    counted = count_more;
    taken = grown ∙ sym (
        ap (under_keys source from) (drop-append-le (from - 1) so.done (command ∷ []) (omega (arith, numbered, so.counted, here)))
        ∙ one_more source from (drop (from - 1) so.done) command
        ∙ ap (λ n. keyed_from source from so.done ++ (numbered_key source n, plain command) ∷ [])
        (omega (arith, length-drop (from - 1) so.done, numbered, so.counted, some, here))
        ∙ ap (λ (ks : List (Key × Asked)). ks ++ (numbered_key source number, plain command) ∷ []) (sym so.taken)
        );
  }

  -- the command is skipped
  pub skips_next : number < from → TakenIn source from commands rest later keyed
  skips_next before = record {
    done = more;
    split = split;
    counted = count_more;
    taken = so.taken
        ∙ ap (under_keys source from) (drop_all (from - 1) so.done (omega (arith, numbered, so.counted, before))
        ∙ sym (drop_all (from - 1) more (omega (arith, count_more, counted_on, numbered, before))));
  }

-- ---- their numbers

length-under_keys : (source : List ℕ) (number : ℕ) (commands : List Command) → length (under_keys source number commands) ≡ length commands
length-under_keys source number [] = refl
length-under_keys source number (command ∷ commands) = ap (λ n. suc n) (length-under_keys source (suc number) commands)

length-keyed_from : (source : List ℕ) (from : ℕ) (commands : List Command) → length (keyed_from source from commands) ≡ length (drop (from - 1) commands)
length-keyed_from source from commands = length-under_keys source from (drop (from - 1) commands)

range_more : (a n : ℕ) → range_with_len a n ++ (a + n) ∷ [] ≡ range_with_len a (suc n)
range_more a zero = ap (λ k. k ∷ []) (none a)
  where
    none : (k : ℕ) → k + 0 ≡ k
    none k = omega arith
range_more a (suc n) =
    ap (λ (ns : List ℕ). a ∷ ns) (ap (λ k. range_with_len (a + 1) n ++ k ∷ []) (counted a n) ∙ range_more (a + 1) n)
  where
    counted : (k m : ℕ) → k + suc m ≡ k + 1 + m
    counted k m = omega arith

-- the numbers of the commands that were taken in follow one another from the first one on
abbrev pub AreNumbered : ℕ → List (Key × Asked) → List ℕ → Type 0
AreNumbered from keyed numbers = numbers ≡ range_with_len from (length keyed)

pub none_numbered : (from : ℕ) (keyed : List (Key × Asked)) (numbers : List ℕ) → keyed ≡ [] → numbers ≡ [] → AreNumbered from keyed numbers
none_numbered from keyed numbers none empty = empty ∙ ap (λ (ks : List (Key × Asked)). range_with_len from (length ks)) (sym none)

pub next_numbered : (source : List ℕ) (from : ℕ) (commands left : List Command) (count number : ℕ) (keyed longer : List (Key × Asked))
    (numbers pushed_on : List ℕ) (one : Key × Asked) → TakenIn source from commands left count keyed → number ≡ count + 1 → 1 ≤ from → from ≤ number
    → AreNumbered from keyed numbers → pushed_on ≡ numbers ++ number ∷ [] → longer ≡ keyed ++ one ∷ [] → AreNumbered from longer pushed_on
next_numbered source from commands left count number keyed longer numbers pushed_on one so is some here numbered pushed grown =
    let place : number ≡ from + length keyed =
    omega (arith, is, some, here, so.counted, ap length so.taken, length-keyed_from source from so.done, length-drop (from - 1) so.done) in
    let grows : suc (length keyed) ≡ length longer = omega (arith, ap length grown, length-append keyed (one ∷ [])) in
    pushed ∙ ap (λ n. numbers ++ n ∷ []) place ∙ ap (λ (ns : List ℕ). ns ++ (from + length keyed) ∷ []) numbered
    ∙ range_more from (length keyed) ∙ ap (range_with_len from) grows

-- each of them is at most the number of all commands
pub numbers_have_next : (source : List ℕ) (from : ℕ) (commands : List Command) (keyed : List (Key × Asked)) (numbers : List ℕ) → 1 ≤ from
    → length commands < 2 ^ 63 → keyed ≡ keyed_from source from commands → AreNumbered from keyed numbers → HaveNext numbers
numbers_have_next source from commands keyed numbers some few is numbered =
    let count : length keyed ≡ length commands - (from - 1) =
    ap length is ∙ length-keyed_from source from commands ∙ length-drop (from - 1) commands in
    subst HaveNext (sym numbered)
    (λ k d lt.
    let within : k < length keyed = subst (λ n. k < n) (length-range_with_len from (length keyed)) lt in
    let at : get_or (range_with_len from (length keyed)) k d ≡ from + k = get_or-range_with_len from (length keyed) k d within in
    subst (λ n. n + 1 < 2 ^ 64) (sym at) (omega (arith, within, count, some, few)))

pub small_have_next : (most : ℕ) (numbers : List ℕ) → most < 2 ^ 63 → All (λ number. number ≤ most) numbers → HaveNext numbers
small_have_next most numbers few within = λ k d lt. let low = within k d lt in omega (arith, low, few)

-- the numbers of the commands that were taken in
pub taken_have_next : (source : List ℕ) (from : ℕ) (commands left : List Command) (count : ℕ) (keyed : List (Key × Asked)) (numbers : List ℕ)
    → TakenIn source from commands left count keyed → AreNumbered from keyed numbers → 1 ≤ from → length commands < 2 ^ 63 → HaveNext numbers
taken_have_next source from commands left count keyed numbers so numbered some few =
    numbers_have_next source from so.done keyed numbers some (omega (arith, few, ap length so.split, length-append so.done left)) so.taken numbered
