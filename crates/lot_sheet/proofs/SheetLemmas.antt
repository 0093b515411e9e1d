-- How the rows of a file, or its fault, follow from the lines that are read one after another.
use Rattle.std.proofs.Common.{◌≡◌, ℕ, ◌+◌, ◌≤◌, Bool, true, false, ◌||◌, if◌then◌else◌, List, [], ◌∷◌, ◌++◌, length, map, Option, Some, None, Err, refl, sym, ap, subst, ◌∙◌, arith, append_assoc, length-append}
use Rattle.std.proofs.lemmas.List.{append-nil}
use Rattle.std.proofs.lemmas.List.Elements.{All-push}
use Rattle.std.specs.Bool.{MatchBool}
use Rattle.std.specs.List.{list_any}
use Rattle.std.specs.Option.{option_or}
use Rattle.csv.specs.Records.{AllText}
use Rattle.lot_profile.specs.declared.file.Delimiter.{Delimiter}
use Rattle.lot_profile.specs.declared.file.FileForm.{FileForm}
use Rattle.lot_profile.specs.declared.table.Header.{Header}
use Rattle.lot_profile.specs.declared.table.Table.{Table}
use Rattle.lot_sheet.specs.declared.fault.SheetFault.{SheetFault}
use Rattle.lot_sheet.specs.declared.fault.SheetFault.TheVariants as Faults
use Rattle.lot_sheet.specs.Column.{names_in}
use Rattle.lot_sheet.specs.Header.{Standing, heads, is_header_of, last_header, standing, with_header}
use Rattle.lot_sheet.specs.Part.{BadHeading, BadName, BadRow, Heading, IsBodyBy, IsPart, IsPartBy, Outside, Part, RowOf, first_bad, header_columns, heading}
use Rattle.lot_sheet.specs.Reading.{GivesRow, IsHeaderFault, IsReadFault}
use Rattle.lot_profile.specs.declared.file.Encoding.{Encoding}
use Rattle.lot_sheet.specs.Sheet.{SayAll, file_lines, text_lines, text_of, AreParts, HasPart, HaveFault, IsGood, Say, SheetRow, StopsAt, most_rows, rows_from}

-- ---- How the tables stand behind a line.

last_by : (b : Bool) (h : Option (List (List ℕ))) (o p : Option (List (List ℕ)))
    → option_or (if b then h else o) p ≡ (if b then option_or h p else option_or o p)
last_by true h o p = refl
last_by false h o p = refl

some_or : (b : Bool) (names : List (List ℕ)) (o : Option (List (List ℕ))) → (if b then Some names else o) ≡ option_or (if b then Some names else None) o
some_or true names o = refl
some_or false names o = refl

-- the last header among one line more
last_more : (delimiter : Delimiter) (header : Header) (number : ℕ) (above : List (List (List ℕ))) (line : List (List ℕ))
    → last_header delimiter header number (above ++ line ∷ [])
    ≡ (if heads delimiter (number + length above) line header then Some (names_in line) else last_header delimiter header number above)
last_more delimiter header number [] line =
    ap (λ (n : ℕ). if heads delimiter n line header then Some (names_in line) else None) (omega arith)
last_more delimiter header number (first ∷ above) line =
    let first_or = (if heads delimiter number first header then Some (names_in first) else None) in
    ap (λ (o : Option (List (List ℕ))). option_or o first_or) (last_more delimiter header (number + 1) above line)
    ∙ last_by (heads delimiter (number + 1 + length above) line header) (Some (names_in line)) (last_header delimiter header (number + 1) above) first_or
    ∙ ap (λ (n : ℕ). if heads delimiter n line header then Some (names_in line) else option_or (last_header delimiter header (number + 1) above) first_or)
    (omega arith)

module _ (delimiter : Delimiter) (above : List (List (List ℕ))) (line : List (List ℕ)) where
  pub standing_more : (tables : List Table)
      → map (with_header delimiter (length above + 1) line) (standing delimiter tables above) ≡ standing delimiter tables (above ++ line ∷ [])
  standing_more [] = refl
  standing_more (table ∷ tables) =
      let last = last_more delimiter table.header 1 above line in
      let same : (if heads delimiter (length above + 1) line table.header then Some (names_in line) else last_header delimiter table.header 1 above)
      ≡ last_header delimiter table.header 1 (above ++ line ∷ []) =
      ap (λ (n : ℕ). if heads delimiter n line table.header then Some (names_in line) else last_header delimiter table.header 1 above) (omega arith) ∙ sym last in
      ap (λ (o : Option (List (List ℕ))). let s : Standing = (table, o) in s ∷ map (with_header delimiter (length above + 1) line) (standing delimiter tables above)) same
      ∙ ap (λ (ss : List Standing). let s : Standing = (table, last_header delimiter table.header 1 (above ++ line ∷ [])) in s ∷ ss) (standing_more tables)

same_by : (delimiter : Delimiter) (number : ℕ) (line : List (List ℕ)) (s : Standing) → is_header_of delimiter number line s ≡ false
    → with_header delimiter number line s ≡ s
same_by delimiter number line s e = ap (λ (b : Bool). let t : Standing = (s.0, (if b then Some (names_in line) else s.1)) in t) e

neither : (a b : Bool) → (a || b) ≡ false → (a ≡ false) × (b ≡ false)
neither true b e = cc
neither false b e = (refl, e)

-- a line that is no header changes nothing
pub none_headed : (delimiter : Delimiter) (number : ℕ) (line : List (List ℕ)) (tables : List Standing)
    → list_any (is_header_of delimiter number line) tables ≡ false → map (with_header delimiter number line) tables ≡ tables
none_headed delimiter number line [] e = refl
none_headed delimiter number line (s ∷ tables) e =
    let h = neither (is_header_of delimiter number line s) (list_any (is_header_of delimiter number line) tables) e in
    ap (λ (t : Standing). t ∷ map (with_header delimiter number line) tables) (same_by delimiter number line s h.0)
    ∙ ap (λ (ts : List Standing). s ∷ ts) (none_headed delimiter number line tables h.1)

-- ---- Parts.

parts_more : (form : FileForm) (tables : List Table) (before lines : List (List (List ℕ))) (line : List (List ℕ)) (parts : List Part) (part : Part)
    → AreParts form tables before lines parts → IsPart form tables (before ++ lines) line part
    → AreParts form tables before (lines ++ line ∷ []) (parts ++ part ∷ [])
parts_more form tables before [] line [] part h p = (subst (λ (ls : List (List (List ℕ))). IsPart form tables ls line part) (append-nil before) p, tt)
parts_more form tables before [] line (q ∷ parts) part h p = absurd h
parts_more form tables before (first ∷ lines) line [] part h p = absurd h
parts_more form tables before (first ∷ lines) line (q ∷ parts) part h p = (
  h.0,
  parts_more form tables (before ++ first ∷ []) lines line parts part h.1
      (subst (λ (ls : List (List (List ℕ))). IsPart form tables ls line part) (sym (append_assoc before (first ∷ []) lines)) p),
)

rows_more : (number : ℕ) (parts : List Part) (part : Part)
    → rows_from number (parts ++ part ∷ []) ≡ rows_from number parts ++ rows_from (number + length (rows_from number parts)) (part ∷ [])
rows_more number [] part = ap (λ (n : ℕ). rows_from n (part ∷ [])) (omega arith)
rows_more number (Outside ∷ parts) part = rows_more number parts part
rows_more number (Heading ∷ parts) part = rows_more number parts part
rows_more number (BadHeading name cause ∷ parts) part = rows_more number parts part
rows_more number (BadRow cause ∷ parts) part = rows_more number parts part
rows_more number (RowOf table header fields ∷ parts) part =
    let row : SheetRow = record { number = number; table = table; header = header; fields = fields } in
    ap (λ (rows : List SheetRow). row ∷ rows) (rows_more (number + 1) parts part
    ∙ ap (λ (n : ℕ). rows_from (number + 1) parts ++ rows_from n (part ∷ [])) (omega arith))

module _ (form : FileForm) (tables : List Table) (above : List (List (List ℕ))) (rows : List SheetRow) (say : Say form tables above rows)
    (line : List (List ℕ)) (text : AllText line) where
  -- one line more
  pub say_more : (part : Part) → IsPart form tables above line part → IsGood part
      → length (rows ++ rows_from (length rows + 1) (part ∷ [])) ≤ most_rows
      → Say form tables (above ++ line ∷ []) (rows ++ rows_from (length rows + 1) (part ∷ []))
  say_more part is good few =
      let more : rows_from 1 (say.parts ++ part ∷ []) ≡ rows_from 1 say.parts ++ rows_from (length (rows_from 1 say.parts) + 1) (part ∷ []) =
      rows_more 1 say.parts part ∙ ap (λ (n : ℕ). rows_from 1 say.parts ++ rows_from n (part ∷ [])) (omega arith) in
      record {
        parts = say.parts ++ part ∷ [];
        text = All-push AllText above line say.text text;
        each = parts_more form tables [] above line say.parts part say.each is;
        good = All-push IsGood say.parts part say.good good;
        are = ap (λ (rs : List SheetRow). rs ++ rows_from (length rs + 1) (part ∷ [])) say.are ∙ sym more;
        few = few;
      }

  pub stops : (lines below : List (List (List ℕ))) → lines ≡ above ++ line ∷ below → StopsAt form tables lines above line rows
  stops lines below all = record { below = below; all = all; say = say }

  pub wrong : (lines below : List (List (List ℕ))) (part : Part) → lines ≡ above ++ line ∷ below → IsPart form tables above line part
      → HasPart form tables lines above rows part
  wrong lines below part all is = record { line = line; stops = stops lines below all; text = text; why = is }

-- ---- A line, as the tables stand at it.

module _ (form : FileForm) (tables : List Table) (above : List (List (List ℕ))) (line : List (List ℕ)) (stands : List Standing) (number : ℕ)
    (is : stands ≡ standing form.delimiter tables above) (at : number ≡ length above + 1) where
  moved : (P : List Standing → ℕ → Type 0) → P stands number → P (standing form.delimiter tables above) (length above + 1)
  moved P h = subst (λ (n : ℕ). P (standing form.delimiter tables above) n) at (subst (λ (ss : List Standing). P ss number) is h)

  -- it is a header
  pub heads_part : list_any (is_header_of form.delimiter number line) stands ≡ true → (bad : Option BadName)
      → bad ≡ first_bad form.optional (names_in line) (header_columns form.delimiter number line stands)
      → IsPart form tables above line (heading bad)
  heads_part e bad h =
      moved (λ (ss : List Standing) (n : ℕ). IsPartBy form ss n line (heading bad))
      (subst (λ (b : Bool). MatchBool b (heading bad ≡ heading (first_bad form.optional (names_in line) (header_columns form.delimiter number line stands)))
      (IsBodyBy form stands line (heading bad))) (sym e) (ap heading h))

  -- it is none
  pub body_part : list_any (is_header_of form.delimiter number line) stands ≡ false → (part : Part) → IsBodyBy form stands line part
      → IsPart form tables above line part
  body_part e part h =
      moved (λ (ss : List Standing) (n : ℕ). IsPartBy form ss n line part)
      (subst (λ (b : Bool). MatchBool b (part ≡ heading (first_bad form.optional (names_in line) (header_columns form.delimiter number line stands)))
      (IsBodyBy form stands line part)) (sym e) h)

  pub stands_headed : (made : List Standing) → made ≡ map (with_header form.delimiter number line) stands
      → made ≡ standing form.delimiter tables (above ++ line ∷ [])
  stands_headed made e =
      moved (λ (ss : List Standing) (n : ℕ). made ≡ map (with_header form.delimiter n line) ss) e ∙ standing_more form.delimiter above line tables

  pub stands_same : list_any (is_header_of form.delimiter number line) stands ≡ false → stands ≡ standing form.delimiter tables (above ++ line ∷ [])
  stands_same e = stands_headed stands (sym (none_headed form.delimiter number line stands e))

  pub next_place : number + 1 ≡ length (above ++ line ∷ []) + 1
  next_place = let long = length-append above (line ∷ []) in omega (arith, long, at)

module _ (form : FileForm) (tables : List Table) (above : List (List (List ℕ))) (rows : List SheetRow) (say : Say form tables above rows)
    (line : List (List ℕ)) (text : AllText line) where
  -- a line that gives no row
  same_rows : Say form tables (above ++ line ∷ []) (rows ++ []) → Say form tables (above ++ line ∷ []) rows
  same_rows h = subst (Say form tables (above ++ line ∷ [])) (append-nil rows) h

  few_same : length (rows ++ []) ≤ most_rows
  few_same = subst (λ (rs : List SheetRow). length rs ≤ most_rows) (sym (append-nil rows)) say.few

  pub say_heading : IsPart form tables above line Heading → Say form tables (above ++ line ∷ []) rows
  say_heading h = same_rows (say_more form tables above rows say line text Heading h tt few_same)

  pub say_outside : IsPart form tables above line Outside → Say form tables (above ++ line ∷ []) rows
  say_outside h = same_rows (say_more form tables above rows say line text Outside h tt few_same)

  -- a row
  pub say_row : (row : SheetRow) (number : ℕ) → number ≡ length rows + 1 → number ≤ most_rows → row.number ≡ number → row.fields ≡ line
      → IsPart form tables above line (RowOf row.table row.header line) → Say form tables (above ++ line ∷ []) (rows ++ row ∷ [])
  say_row row number at few n f h =
      let made : SheetRow = record { number = length rows + 1; table = row.table; header = row.header; fields = line } in
      let same : made ≡ row =
      ap (λ (k : ℕ). let r : SheetRow = record { number = k; table = row.table; header = row.header; fields = line } in r) (sym at ∙ sym n)
      ∙ ap (λ (l : List (List ℕ)). let r : SheetRow = record { number = row.number; table = row.table; header = row.header; fields = l } in r) (sym f) in
      let long = length-append rows (made ∷ []) in
      subst (λ (r : SheetRow). Say form tables (above ++ line ∷ []) (rows ++ r ∷ [])) same
      (say_more form tables above rows say line text (RowOf row.table row.header line) h tt (omega (arith, long, at, few)))

-- ---- Faults.

module _ (form : FileForm) (tables : List Table) (lines above : List (List (List ℕ))) (rows : List SheetRow) (say : Say form tables above rows) where
  -- a line that can't be read
  pub read_fault : (left : List (List (List ℕ))) → lines ≡ above ++ left → (number : ℕ) → number ≡ length above + 1 → (fault : SheetFault)
      → IsReadFault number left fault → HaveFault form tables lines fault
  read_fault left all number at (Faults.NotText n) h =
      record {
        above = above;
        line = h.1.first;
        rows = rows;
        stops = record { below = h.1.others; all = all ∙ ap (λ (ls : List (List (List ℕ))). above ++ ls) h.1.all; say = say };
        why = h.1.why;
        place = h.0 ∙ at;
      }
  read_fault left all number at Faults.NoHeader h = absurd h
  read_fault left all number at (Faults.BadHeader line name cause) h = absurd h
  read_fault left all number at (Faults.BadRow row cause) h = absurd h
  read_fault left all number at Faults.TooManyRows h = absurd h
  read_fault left all number at Faults.Memory h = tt

  module _ (line : List (List ℕ)) (text : AllText line) (below : List (List (List ℕ))) (all : lines ≡ above ++ line ∷ below)
      (stands : List Standing) (number : ℕ) (is : stands ≡ standing form.delimiter tables above) (at : number ≡ length above + 1) where
    -- a header
    pub header_fault : list_any (is_header_of form.delimiter number line) stands ≡ true → (names : List (List ℕ)) → names ≡ names_in line
        → (fault : SheetFault)
        → IsHeaderFault number (first_bad form.optional names (header_columns form.delimiter number line stands)) fault → HaveFault form tables lines fault
    header_fault e names same (Faults.BadHeader n name cause) h =
        let bad : BadName = (name, cause) in (
          above,
          rows,
          wrong form tables above rows say line text lines below (BadHeading name cause) all
              (heads_part form tables above line stands number is at e (Some bad)
              (h.1 ∙ ap (λ (ns : List (List ℕ)). first_bad form.optional ns (header_columns form.delimiter number line stands)) same)),
          h.0 ∙ at,
        )
    header_fault e names same (Faults.NotText n) h = absurd h
    header_fault e names same Faults.NoHeader h = absurd h
    header_fault e names same (Faults.BadRow row cause) h = absurd h
    header_fault e names same Faults.TooManyRows h = absurd h
    header_fault e names same Faults.Memory h = tt

    -- a line that has to be a row
    pub row_fault : list_any (is_header_of form.delimiter number line) stands ≡ false → (n : ℕ) → n ≡ length rows + 1 → (fault : SheetFault)
        → GivesRow form stands n line (Err fault) → HaveFault form tables lines fault
    row_fault e n count (Faults.BadRow row cause) h = (
      above,
      rows,
      wrong form tables above rows say line text lines below (BadRow cause) all
          (body_part form tables above line stands number is at e (BadRow cause) h.2),
      h.0 ∙ count,
      subst (λ (k : ℕ). k ≤ most_rows) (sym h.0) h.1,
    )
    row_fault e n count Faults.TooManyRows h = (
      above,
      rows,
      h.1.0,
      wrong form tables above rows say line text lines below h.1.0 all
          (body_part form tables above line stands number is at e h.1.0 h.1.2),
      h.1.1,
      (let few = say.few in let lots = h.0 in omega (arith, count, few, lots)),
    )
    row_fault e n count (Faults.NotText m) h = absurd h
    row_fault e n count Faults.NoHeader h = absurd h
    row_fault e n count (Faults.BadHeader m name cause) h = absurd h
    row_fault e n count Faults.Memory h = tt

-- ---- The file.

pub rows_as : (form : FileForm) (slice tables : List Table) (lines others : List (List (List ℕ))) (rows : List SheetRow) → slice ≡ tables → lines ≡ others
    → SayAll form slice lines rows → SayAll form tables others rows
rows_as form slice tables lines others rows t l say =
    subst (λ (ls : List (List (List ℕ))). SayAll form tables ls rows) l (subst (λ (ts : List Table). SayAll form ts lines rows) t say)

pub fault_as : (form : FileForm) (slice tables : List Table) (lines others : List (List (List ℕ))) (fault : SheetFault) → slice ≡ tables → lines ≡ others
    → HaveFault form slice lines fault → HaveFault form tables others fault
fault_as form slice tables lines others fault t l h =
    subst (λ (ls : List (List (List ℕ))). HaveFault form tables ls fault) l (subst (λ (ts : List Table). HaveFault form ts lines fault) t h)

pub in_encoding : (form : FileForm) (bytes text : List ℕ) (encoding : Encoding) → form.encoding ≡ encoding → text ≡ text_of encoding bytes
    → text_lines form text ≡ file_lines form bytes
in_encoding form bytes text encoding e t =
    ap (text_lines form) (t ∙ ap (λ (x : Encoding). text_of x bytes) (sym e))

-- ---- The start, and the end.

pub say_nothing : (form : FileForm) (tables : List Table) → Say form tables [] []
say_nothing form tables =
    record {
      parts = [];
      text = λ k d lt. absurd (omega (arith, lt));
      each = tt;
      good = λ k d lt. absurd (omega (arith, lt));
      are = refl;
      few = omega arith;
    }

pub lines_moved : (lines above left more : List (List (List ℕ))) (line : List (List ℕ)) → lines ≡ above ++ left → left ≡ line ∷ more
    → lines ≡ (above ++ line ∷ []) ++ more
lines_moved lines above left more line e f =
    e ∙ ap (λ (ls : List (List (List ℕ))). above ++ ls) f ∙ sym (append_assoc above (line ∷ []) more)

pub lines_read : (lines above left : List (List (List ℕ))) → lines ≡ above ++ left → left ≡ [] → above ≡ lines
lines_read lines above left e f = sym (e ∙ ap (λ (ls : List (List (List ℕ))). above ++ ls) f ∙ append-nil above)
