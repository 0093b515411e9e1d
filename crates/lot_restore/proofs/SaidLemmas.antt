-- The lines that restoring writes, as their texts.
use Rattle.std.proofs.Common.{◌≡◌, ◌∙◌, ℕ, List, [], ◌∷◌, ◌++◌, Err, None, Ok, Option, Some, Result, ap, append-nil, append_assoc, sym}
use Rattle.std.specs.Prelude.{IfErr, codes, decimal}
use Rattle.std.specs.Io.KnownBytes.{Appends}
use Rattle.lot_command.specs.declared.key.Key.{Key as KeyOf}
use Rattle.lot_report.proofs.PrintLemmas.{prefix_behind}
use Rattle.lot_report.specs.Printed.{line}
use Rattle.lot_report.specs.Written.{WritesLine}
use Rattle.lot_report.specs.declared.line.PrintFault.{PrintFault}
use Rattle.lot_report.specs.declared.line.PrintFault.TheVariants.{Memory, Write}
use Rattle.lot_restore.specs.Lines.{entry_text, unmet_line}
use Rattle.lot_without.specs.declared.without.Without.TheVariants.{Batch, Entries, Key}

-- ---- a line in two writes

pub appends_both : (a b c : Option (List ℕ)) (x y : List ℕ) → Appends a b x → Appends b c y → Appends a c (x ++ y)
appends_both None b c x y first second = tt
appends_both (Some p) None c x y first second = absurd first
appends_both (Some p) (Some q) None x y first second = absurd second
appends_both (Some p) (Some q) (Some r) x y first second =
    second ∙ ap (λ t. t ++ y) first ∙ append_assoc p x y

pub in_two : (a b c : Option (List ℕ)) (front behind : List ℕ) (result : Result (Unit {0}) PrintFault) → Appends a b front
    → IfErr result (λ fault. fault ≡ Write) → WritesLine b c result behind → WritesLine a c result (front ++ behind)
in_two a b c front behind (Ok done) first none second = appends_both a b c front behind first second
in_two a b c front behind (Err Memory) first none second = absurd cc
in_two a b c front behind (Err Write) first none second = prefix_behind a b c front behind first second

pub cut_in_front : (a b : Option (List ℕ)) (front behind : List ℕ) (fault : PrintFault) → fault ≡ Write
    → WritesLine a b (Err fault) front → WritesLine a b (Err fault) (front ++ behind)
cut_in_front a b front behind Memory is writes = absurd cc
cut_in_front a b front behind Write is (prefix, (next, rest, same), appends) =
    (prefix, (next, rest ++ behind, ap (λ t. t ++ behind) same ∙ append_assoc prefix (next ∷ rest) behind), appends)

-- ---- texts

pub entry_texts : (number : ℕ) (key : KeyOf) (n source name : List ℕ) → n ≡ decimal number → source ≡ key.source → name ≡ key.name
    → codes "entry " ++ (n ++ (codes " key " ++ (source ++ (codes " " ++ (name ++ []))))) ≡ entry_text number key
entry_texts number key n source name a b c =
    rw (a, b, c) (ap (λ t. codes "entry " ++ (decimal number ++ (codes " key " ++ (key.source ++ (codes " " ++ t))))) (append-nil key.name))

-- an option whose value has two parts, with a sign between
two_parts : (option first second end : List ℕ) (between : ℕ)
    → option ++ (first ++ (between ∷ (second ++ (end ++ 10 ∷ [])))) ≡ line ((option ++ (first ++ between ∷ second)) ++ end)
two_parts option first second end between =
    sym (append_assoc (option ++ (first ++ between ∷ second)) end (10 ∷ []) ∙ append_assoc option (first ++ between ∷ second) (end ++ 10 ∷ [])
    ∙ ap (λ t. option ++ t) (append_assoc first (between ∷ second) (end ++ 10 ∷ [])))

pub key_texts : (source name s n : List ℕ) → s ≡ source → n ≡ name
    → codes "without " ++ (s ++ (codes " " ++ (n ++ codes " met nothing\n"))) ≡ unmet_line (Key (record { source = source; name = name }))
key_texts source name s n a b = rw (a, b) (two_parts (codes "without ") source name (codes " met nothing") 32)

pub batch_texts : (source s : List ℕ) → s ≡ source
    → codes "without-batch " ++ (s ++ codes " met nothing\n") ≡ unmet_line (Batch source)
batch_texts source s a =
    rw a
    (sym (append_assoc (codes "without-batch " ++ source) (codes " met nothing") (10 ∷ [])
    ∙ append_assoc (codes "without-batch ") source (codes " met nothing\n")))

pub entries_texts : (first last : ℕ) (f l : List ℕ) → f ≡ decimal first → l ≡ decimal last
    → codes "without-entries " ++ (f ++ (codes "-" ++ (l ++ codes " met nothing\n"))) ≡ unmet_line (Entries first last)
entries_texts first last f l a b = rw (a, b) (two_parts (codes "without-entries ") (decimal first) (decimal last) (codes " met nothing") 45)
