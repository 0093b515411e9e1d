-- A text says one list of commands, or one of its lines is the first faulty one; never both.
use Rattle.std.proofs.Common.{◌≡◌, inl, inr, ℕ, ◌+◌, ◌<◌, List, [], ◌∷◌, ◌++◌, length, Some, refl, ap, ◌∙◌, sym, subst, arith}
use Rattle.std.specs.Prelude.{◌⊎◌, None, Option}
use Rattle.std.specs.List.{AllZip, flat_map}
use Rattle.std.proofs.lemmas.Bool.{cases_order}
use Rattle.std.proofs.lemmas.List.{append-nil, append_assoc}
use Rattle.lot_command.specs.declared.command.Command.{Command}
use Rattle.lot_syntax.specs.Line.{AreLines, lines_of, without_mark}
use Rattle.lot_syntax.proofs.LineLemmas.{have_lines, lines_are}
use Rattle.lot_read.specs.declared.fault.LineFault.{LineFault}
use Rattle.lot_read.specs.declared.statement.Statement.{Statement}
use Rattle.lot_read.specs.declared.statement.Statement.TheVariants.{Begins, Posts}
use Rattle.lot_read.specs.Line.{IsFaulty, SaysStatement}
use Rattle.lot_read.specs.Text.{IsFaultAt, IsFirstFault, LinesSay, Reads, present, statements_of, takes_posting}
use Rattle.lot_read.specs.Reading.{Fits}
use Rattle.lot_read.proofs.SaidLemmas.{continues_some, present_append}
use Rattle.lot_read.proofs.TextLemmas.{no_lines}
use Rattle.lot_read.proofs.LineLaws.{faults_one, line_known, says_no_fault, says_one}
use Rattle.lot_read.proofs.CommandLaws.{posts_behind, statements_one}

one_way : (text : List ℕ) (a b : List (List ℕ)) → AreLines a text → AreLines b text → a ≡ b
one_way text a b h k = sym (lines_are a text h) ∙ lines_are b text k

-- ---- Lines say one list of commands.

said_one : (lines : List (List ℕ)) (a b : List (Option Statement)) → AllZip SaysStatement lines a → AllZip SaysStatement lines b → a ≡ b
said_one [] [] [] h k = refl
said_one [] [] (y ∷ b) h k = absurd k
said_one [] (x ∷ a) b h k = absurd h
said_one (line ∷ lines) [] b h k = absurd h
said_one (line ∷ lines) (x ∷ a) [] h k = absurd k
said_one (line ∷ lines) (x ∷ a) (y ∷ b) (first, h) (first', k) =
    ap (λ z. z ∷ a) (says_one line x y first first') ∙ ap (λ zs. y ∷ zs) (said_one lines a b h k)

lines_one : (lines : List (List ℕ)) (a b : List Command) → LinesSay lines a → LinesSay lines b → a ≡ b
lines_one lines a b h k = statements_one a b (sym h.all ∙ ap present (said_one lines h.said k.said h.each k.each) ∙ k.all)

pub reads_one : (text : List ℕ) (a b : List Command) → Reads text a → Reads text b → a ≡ b
reads_one text a b (xs, h, says) (ys, k, others) =
    lines_one ys a b (subst (λ (zs : List (List ℕ)). LinesSay zs a) (one_way text xs ys h k) says) others

-- ---- Behind the first faulty line nothing is said.

pub record Split (xs ys : List (List ℕ)) (said : List (Option Statement)) : Type 0 where
  pub front : List (Option Statement)
  pub back : List (Option Statement)
  pub whole : said ≡ front ++ back
  pub first : AllZip SaysStatement xs front
  pub second : AllZip SaysStatement ys back

split : (xs ys : List (List ℕ)) (said : List (Option Statement)) → AllZip SaysStatement (xs ++ ys) said → Split xs ys said
split [] ys said h = record { front = []; back = said; whole = refl; first = tt; second = h }
split (x ∷ xs) ys [] h = absurd h
split (x ∷ xs) ys (s ∷ said) (says, h) =
    let more = split xs ys said h in
    record { front = s ∷ more.front; back = more.back; whole = ap (λ zs. s ∷ zs) more.whole; first = (says, more.first); second = more.second }

fits_behind : (before all : List Command) (s : Option Statement) (more : List (Option Statement))
    → flat_map statements_of all ≡ flat_map statements_of before ++ present (s ∷ more) → Fits (takes_posting before) s
fits_behind before all None more e = tt
fits_behind before all (Some (Begins command)) more e = tt
fits_behind before all (Some (Posts posting)) more e = posts_behind before all posting (present more) e

no_more_by : (line : List ℕ) (rest : List (List ℕ)) (before all : List Command) (fault : LineFault) (back : List (Option Statement))
    → AllZip SaysStatement (line ∷ rest) back → flat_map statements_of all ≡ flat_map statements_of before ++ present back
    → IsFaulty (takes_posting before) line fault → ⊥
no_more_by line rest before all fault [] h e faulty = absurd h
no_more_by line rest before all fault (s ∷ back) (says, h) e faulty =
    says_no_fault (takes_posting before) line s fault (says, fits_behind before all s back e) faulty

no_more : (lines rest : List (List ℕ)) (line : List ℕ) (before all : List Command) (fault : LineFault) → LinesSay lines before
    → LinesSay (lines ++ line ∷ rest) all → IsFaulty (takes_posting before) line fault → ⊥
no_more lines rest line before all fault h k faulty =
    let parts = split lines (line ∷ rest) k.said k.each in
    no_more_by line rest before all fault parts.back parts.second
    (sym k.all ∙ ap present parts.whole ∙ present_append parts.front parts.back
    ∙ ap (λ zs. present zs ++ present parts.back) (said_one lines parts.front h.said parts.first h.each)
    ∙ ap (λ zs. zs ++ present parts.back) h.all)
    faulty

pub not_both : (text : List ℕ) (commands : List Command) (number : ℕ) (fault : LineFault) → Reads text commands → IsFaultAt text number fault → ⊥
not_both text commands number fault (xs, h, says) (ys, k, first) =
    no_more first.before first.after first.line first.commands commands fault first.says
    (subst (λ (zs : List (List ℕ)). LinesSay zs commands) (one_way text xs ys h k ∙ first.whole) says) first.faulty

-- ---- There is one first faulty line.

-- of two prefixes of one list the shorter stands in the longer, with what follows it
longer : (xs ys us vs : List (List ℕ)) (x y : List ℕ) → xs ++ x ∷ us ≡ ys ++ y ∷ vs → length xs < length ys
    → (rest : List (List ℕ)) × (ys ≡ xs ++ x ∷ rest)
longer [] [] us vs x y e lt = absurd (omega arith)
longer [] (z ∷ ys) us vs x y e lt =
    let same : x ≡ z = cc in
    (ys, ap (λ t. t ∷ ys) (sym same))
longer (w ∷ xs) [] us vs x y e lt = absurd (omega arith)
longer (w ∷ xs) (z ∷ ys) us vs x y e lt =
    let same : w ≡ z = cc in
    let more : xs ++ x ∷ us ≡ ys ++ y ∷ vs = cc in
    let behind = longer xs ys us vs x y more (omega arith) in
    (behind.0, ap (λ t. t ∷ ys) (sym same) ∙ ap (λ zs. w ∷ zs) behind.1)

-- two of one length are the same
as_long : (xs ys us vs : List (List ℕ)) (x y : List ℕ) → xs ++ x ∷ us ≡ ys ++ y ∷ vs → length xs ≡ length ys → (xs ≡ ys) × (x ≡ y)
as_long [] [] us vs x y e long =
    let same : x ≡ y = cc in
    (refl, same)
as_long [] (z ∷ ys) us vs x y e long = absurd (omega arith)
as_long (w ∷ xs) [] us vs x y e long = absurd (omega arith)
as_long (w ∷ xs) (z ∷ ys) us vs x y e long =
    let same : w ≡ z = cc in
    let more : xs ++ x ∷ us ≡ ys ++ y ∷ vs = cc in
    let behind = as_long xs ys us vs x y more (omega arith) in
    (ap (λ t. t ∷ xs) same ∙ ap (λ zs. z ∷ zs) behind.0, behind.1)

not_before : (lines : List (List ℕ)) (m n : ℕ) (f g : LineFault) (first : IsFirstFault lines m f) (second : IsFirstFault lines n g)
    → length first.before < length second.before → ⊥
not_before lines m n f g first second lt =
    let found = longer first.before second.before first.after second.after first.line second.line (sym first.whole ∙ second.whole) lt in
    no_more first.before found.0 first.line first.commands second.commands f first.says
    (subst (λ (zs : List (List ℕ)). LinesSay zs second.commands) found.1 second.says) first.faulty

same_place : (lines : List (List ℕ)) (m n : ℕ) (f g : LineFault) (first : IsFirstFault lines m f) (second : IsFirstFault lines n g)
    → length first.before ≡ length second.before
same_place lines m n f g first second =
    elim (cases_order (length first.before) (length second.before)) [
      | inl same ↦ same
      | inr others ↦ elim others [
        | inl lt ↦ absurd (not_before lines m n f g first second lt)
        | inr lt ↦ absurd (not_before lines n m g f second first lt)
      ]
    ]

same_fault : (lines : List (List ℕ)) (m n : ℕ) (f g : LineFault) (first : IsFirstFault lines m f) (second : IsFirstFault lines n g) → f ≡ g
same_fault lines m n f g first second =
    let same = as_long first.before second.before first.after second.after first.line second.line (sym first.whole ∙ second.whole)
    (same_place lines m n f g first second) in
    let commands = lines_one second.before first.commands second.commands
    (subst (λ (zs : List (List ℕ)). LinesSay zs first.commands) same.0 first.says) second.says in
    faults_one (takes_posting second.commands) second.line f g
    (subst (λ (line : List ℕ). IsFaulty (takes_posting second.commands) line f) same.1
    (subst (λ (cs : List Command). IsFaulty (takes_posting cs) first.line f) commands first.faulty))
    second.faulty

pub line_one : (text : List ℕ) (m n : ℕ) (f g : LineFault) → IsFaultAt text m f → IsFaultAt text n g → m ≡ n
line_one text m n f g (xs, h, first) (ys, k, second) =
    let moved = subst (λ (zs : List (List ℕ)). IsFirstFault zs m f) (one_way text xs ys h k) first in
    moved.place ∙ ap (λ i. i + 1) (same_place ys m n f g moved second) ∙ sym second.place

pub fault_one : (text : List ℕ) (m n : ℕ) (f g : LineFault) → IsFaultAt text m f → IsFaultAt text n g → f ≡ g
fault_one text m n f g (xs, h, first) (ys, k, second) =
    same_fault ys m n f g (subst (λ (zs : List (List ℕ)). IsFirstFault zs m f) (one_way text xs ys h k) first) second

-- ---- Always one of the two.

abbrev AreKnown : List (List ℕ) → Type 0
AreKnown lines =
    ((commands : List Command) × LinesSay lines commands) ⊎ ((number : ℕ) × (fault : LineFault) × IsFirstFault lines number fault)

more_known : (rest lines : List (List ℕ)) (commands : List Command) → LinesSay lines commands → AreKnown (lines ++ rest)
more_known [] lines commands says = inl (commands, subst (λ (zs : List (List ℕ)). LinesSay zs commands) (sym (append-nil lines)) says)
more_known (line ∷ rest) lines commands says =
    elim (line_known (takes_posting commands) line) [
      | inl said ↦ let next = continues_some line said.0 commands said.1 in
          subst AreKnown (append_assoc lines (line ∷ []) rest) (more_known rest (lines ++ line ∷ []) next.0 (next.1 lines says))
      | inr faulty ↦ inr (
        length lines + 1,
        faulty.0,
        record {
          before = lines;
          line = line;
          after = rest;
          whole = refl;
          place = refl;
          commands = commands;
          says = says;
          faulty = faulty.1;
        },
      )
    ]

pub text_known : (text : List ℕ)
    → ((commands : List Command) × Reads text commands) ⊎ ((number : ℕ) × (fault : LineFault) × IsFaultAt text number fault)
text_known text =
    let lines = lines_of (without_mark text) in
    elim (more_known lines [] [] (no_lines [] refl)) [
      | inl known ↦ inl (known.0, (lines, have_lines text, known.1))
      | inr known ↦ inr (known.0, known.1, (lines, have_lines text, known.2))
    ]
