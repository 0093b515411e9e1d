-- What is written of a register that is fed the legs of a walk.
use Rattle.std.specs.Prelude.{◌≡◌, ℕ, ℤ, Bool, true, false, cond, if◌then◌else◌, IfSome, List, [], ◌∷◌, ◌++◌, map, Option, Some, None, Result, Ok, Err}
use Rattle.std.specs.Io.KnownBytes.{Appends}
use Rattle.std.proofs.Common.{refl, sym, ap, subst, ◌∙◌, append_assoc, append-nil, inl, inr}
use Rattle.std.proofs.KnownBytes.{Appends-nil, Appends-trans}
use Rattle.std.proofs.lemmas.Grind.{flat_map-append}
use Rattle.std.proofs.lemmas.List.{map-append}
use Rattle.sqlite.specs.Held.{state}
use Rattle.sqlite.specs.State.{HasCleanDisk}
use Rattle.sqlite.specs.Store.{Ghosts}
use Rattle.lot_book.specs.Facts.{Entry}
use Rattle.lot_book_report.specs.declared.fault.ShowFault.{ShowFault}
use Rattle.lot_book_report.specs.declared.fault.ShowFault.TheVariants.{Row as AtRow, Walk as AtWalk}
use Rattle.lot_recall.specs.Place.{IsAnyNoted, shown_noted}
use Rattle.lot_recall.specs.Wanted.{AreWanted, AreWantedRows, IsBehindWanted, IsBehindWantedRows, Wanted}
use Rattle.lot_recall.specs.declared.register.RegisterPlace.{RegisterPlace}
use Rattle.lot_register.specs.Left.{row_behind, stays}
use Rattle.lot_register.specs.Register.{HasTaken, TakesLeg, Terms, foot_lines, head_lines, is_written, lines_of_row, lines_to, register_lines, written_rows}
use Rattle.lot_register.specs.Text.{header, row_text}
use Rattle.lot_register.specs.declared.leg.NotedLeg.{NotedLeg}
use Rattle.lot_register.specs.declared.register.Register.{Register}
use Rattle.lot_register.specs.Left.{RegisterRow}
use Rattle.lot_register.proofs.RowLemmas.{written_push}
use Rattle.lot_register_report.specs.Show.{ShowsRegister}
use Rattle.lot_report.specs.Fed.{joined}
use Rattle.lot_report.specs.Printed.{line}
use Rattle.lot_report.specs.Report.{EachFits, report_fault}
use Rattle.lot_report.specs.Written.{AppendsPrefix, WritesEach}
use Rattle.lot_report.specs.declared.fault.ReportFault.{ReportFault}
use Rattle.lot_report.specs.declared.fault.ReportFault.TheVariants as report
use Rattle.lot_report.specs.declared.fault.RowFault.TheVariants.{Report}
use Rattle.lot_report.specs.declared.line.PrintFault.{PrintFault}
use Rattle.lot_report.specs.declared.line.PrintFault.TheVariants.{Memory, Write}
use Rattle.lot_rows.proofs.StateLemmas.{early}
use Rattle.lot_rows.specs.Tables.{Tables}
use Rattle.lot_store.specs.Walk.{Gives, GivesRows, HasGiven, HasGivenRows, Walks, WalksOverRows}
use Rattle.lot_store.specs.declared.fault.StoreFault.{StoreFault}
use Rattle.lot_store.specs.declared.fault.StoreFault.TheVariants as store
use Rattle.lot_store.specs.declared.walk.Walk.{Walk}
use Rattle.lot_store.specs.declared.walk.WalkFault.{WalkFault}
use Rattle.lot_store.specs.declared.walk.WalkFault.TheVariants.{Failed}
use Rattle.lot_tally.specs.declared.key.TableForm.{TableForm}
use Rattle.lot_tally.specs.declared.key.TableForm.TheVariants.{Csv, Text}

-- ---- texts

joined_both : (a b : List (List ℕ)) → joined (a ++ b) ≡ joined a ++ joined b
joined_both a b = flat_map-append (λ (text : List ℕ). text) a b

-- a prefix of a text is one of a longer text
prefix_of_more : (start now : Option (List ℕ)) (text more : List ℕ) → AppendsPrefix start now text → AppendsPrefix start now (text ++ more)
prefix_of_more start now text more (prefix, (next, rest, is), wrote) =
    (prefix, (next, rest ++ more, ap (λ (t : List ℕ). t ++ more) is ∙ append_assoc prefix (next ∷ rest) more), wrote)

-- a prefix behind a text
prefix_behind : (start mid now : Option (List ℕ)) (text more : List ℕ) → Appends start mid text → AppendsPrefix mid now more → AppendsPrefix start now (text ++ more)
prefix_behind start mid now text more wrote (prefix, (next, rest, is), more_wrote) = (
  text ++ prefix,
  (next, rest, ap (λ (t : List ℕ). text ++ t) is ∙ sym (append_assoc text prefix (next ∷ rest))),
  Appends-trans start mid now text prefix wrote more_wrote,
)

-- nothing behind a text
nothing_behind : (start mid now : Option (List ℕ)) (text : List ℕ) → Appends start mid text → Appends mid now [] → Appends start now text
nothing_behind start mid now text wrote nothing = subst (Appends start now) (append-nil text) (Appends-trans start mid now text [] wrote nothing)

-- ---- the lines of one more leg

lines_by : (form : TableForm) (first : Option ℤ) (legs : List NotedLeg) (leg : NotedLeg) (b : Bool)
    → written_rows first (legs ++ leg ∷ []) ≡ cond b (written_rows first legs ++ row_behind legs leg ∷ []) (written_rows first legs)
    → joined (lines_to form first (legs ++ leg ∷ [])) ≡ joined (lines_to form first legs) ++ joined (if b then row_text form (row_behind legs leg) ∷ [] else [])
lines_by form first legs leg true is =
    ap (λ (rows : List RegisterRow). joined (head_lines form ++ map (row_text form) rows)) is
    ∙ ap (λ (lines : List (List ℕ)). joined (head_lines form ++ lines)) (map-append (row_text form) (written_rows first legs) (row_behind legs leg ∷ []))
    ∙ ap joined (sym (append_assoc (head_lines form) (map (row_text form) (written_rows first legs)) (row_text form (row_behind legs leg) ∷ [])))
    ∙ joined_both (lines_to form first legs) (row_text form (row_behind legs leg) ∷ [])
lines_by form first legs leg false is =
    ap (λ (rows : List RegisterRow). joined (head_lines form ++ map (row_text form) rows)) is ∙ sym (append-nil (joined (lines_to form first legs)))

lines_push : (form : TableForm) (first : Option ℤ) (legs : List NotedLeg) (leg : NotedLeg)
    → joined (lines_to form first (legs ++ leg ∷ [])) ≡ joined (lines_to form first legs) ++ joined (lines_of_row form first (row_behind legs leg))
lines_push form first legs leg = lines_by form first legs leg (is_written first (row_behind legs leg)) (written_push first legs leg)

-- those of more legs
lines_more : (form : TableForm) (first : Option ℤ) (legs rest : List NotedLeg)
    → (more : List ℕ) × (joined (lines_to form first (legs ++ rest)) ≡ joined (lines_to form first legs) ++ more)
lines_more form first legs [] =
    ([], ap (λ (all : List NotedLeg). joined (lines_to form first all)) (append-nil legs) ∙ sym (append-nil (joined (lines_to form first legs))))
lines_more form first legs (leg ∷ rest) =
    let others = lines_more form first (legs ++ leg ∷ []) rest in
    let own = joined (lines_of_row form first (row_behind legs leg)) in (
      own ++ others.0,
      ap (λ (all : List NotedLeg). joined (lines_to form first all)) (sym (append_assoc legs (leg ∷ []) rest))
          ∙ others.1
          ∙ ap (λ (text : List ℕ). text ++ others.0) (lines_push form first legs leg)
          ∙ append_assoc (joined (lines_to form first legs)) own others.0,
    )

-- ---- at most one line stands before the rows, and behind them

never_empty : (before : List (List ℕ)) (next : List ℕ) (after : List (List ℕ)) → [] ≡ before ++ next ∷ after → ⊥
never_empty [] next after is = cc
never_empty (first ∷ before) next after is = cc

only_first : (one : List ℕ) (before : List (List ℕ)) (next : List ℕ) (after : List (List ℕ)) → one ∷ [] ≡ before ++ next ∷ after → before ≡ []
only_first one [] next after is = refl
only_first one (first ∷ before) next after is = let rest : [] ≡ before ++ next ∷ after = cc in absurd (never_empty before next after rest)

none_of_one : (one : List ℕ) (start now : Option (List ℕ)) → WritesEach (λ (text : List ℕ). text) (one ∷ []) start now (Err Memory) → Appends start now []
none_of_one one start now (before, next, after, is, wrote) =
    subst (λ (lines : List (List ℕ)). Appends start now (joined lines)) (only_first one before next after is) wrote

none_of_none : (start now : Option (List ℕ)) → WritesEach (λ (text : List ℕ). text) [] start now (Err Memory) → Appends start now []
none_of_none start now (before, next, after, is, wrote) = absurd (never_empty before next after is)

none_of_head : (form : TableForm) (start now : Option (List ℕ)) → WritesEach (λ (text : List ℕ). text) (head_lines form) start now (Err Memory) → Appends start now []
none_of_head Text start now part = none_of_none start now part
none_of_head Csv start now part = none_of_one header start now part

none_of_foot : (form : TableForm) (rows : List RegisterRow) (start now : Option (List ℕ))
    → WritesEach (λ (text : List ℕ). text) (foot_lines form rows) start now (Err Memory) → Appends start now []
none_of_foot Text [] start now part = none_of_one _ start now part
none_of_foot Text (row ∷ rows) start now part = none_of_none start now part
none_of_foot Csv rows start now part = none_of_none start now part

-- ---- legs that were given, wherever they come from

-- behind a leg there is a first one
behind_leg : (legs before : List NotedLeg) (last : NotedLeg) → legs ≡ before ++ last ∷ []
    → (leg : NotedLeg) × (given : List NotedLeg) × (legs ≡ leg ∷ given)
behind_leg legs [] last is = (last, [], is)
behind_leg legs (first ∷ before) last is = (first, before ++ last ∷ [], is)

module _ (terms : Terms) (start : Option (List ℕ)) where
  abbrev lines : List NotedLeg → List ℕ
  lines legs = joined (lines_to terms.0 terms.1 legs)

  -- a register has taken these legs and no other, and their rows are written behind what the writer held
  pub record HasFed (legs : List NotedLeg) (register : Register) (now : Option (List ℕ)) : Type 0 where
    pub taken : HasTaken terms legs register
    pub written : Appends start now (lines legs)

  -- the register of legs that are all is written, or as much of it as its fault leaves
  abbrev pub ShowsAll : (List NotedLeg → Type 0) → Option (List ℕ) → Result (Unit {0}) ShowFault → Type 0
  ShowsAll AreAll now result = (legs : List NotedLeg) × AreAll legs × ShowsRegister terms legs start now result

  -- the names of the columns are written
  pub fed_none : (register : Register) (now : Option (List ℕ)) → HasTaken terms [] register → Appends start now (joined (head_lines terms.0)) → HasFed [] register now
  fed_none register now taken wrote = record {
    taken = taken;
    written = subst (λ (ls : List (List ℕ)). Appends start now (joined ls)) (sym (append-nil (head_lines terms.0))) wrote;
  }

  -- ---- before the first leg

  module _ (AreAll : List NotedLeg → Type 0) (begins : (rest : List NotedLeg) × AreAll rest) where
    -- the book stops
    pub not_begun : (fault : StoreFault) → ShowsAll AreAll start (Err (AtWalk (Failed fault)))
    not_begun fault = (begins.0, begins.1, (inl (Appends-nil start), λ other. inl (Appends-nil start)))

    -- the names of the columns aren't written, or not all of them
    pub no_head : (now : Option (List ℕ)) (fault : PrintFault) → WritesEach (λ (text : List ℕ). text) (head_lines terms.0) start now (Err fault)
        → ShowsAll AreAll now (Err (AtRow (Report (report_fault fault))))
    no_head now Memory part = (begins.0, begins.1, inl (none_of_head terms.0 start now part))
    no_head now Write part =
        let rows = map (row_text terms.0) (written_rows terms.1 begins.0) in
        let foot = foot_lines terms.0 (written_rows terms.1 begins.0) in (
          begins.0,
          begins.1,
          subst (AppendsPrefix start now)
              (ap (λ (text : List ℕ). text ++ joined foot) (sym (joined_both (head_lines terms.0) rows))
              ∙ sym (joined_both (head_lines terms.0 ++ rows) foot))
              (prefix_of_more start now (joined (head_lines terms.0) ++ joined rows) (joined foot)
              (prefix_of_more start now (joined (head_lines terms.0)) (joined rows) part)),
        )

  -- ---- behind some legs

  module _ (legs : List NotedLeg) (register : Register) (now : Option (List ℕ)) (has : HasFed legs register now) where
    -- one more row is written
    pub fed_more : (leg : NotedLeg) (later : Register) (written : Option (List ℕ)) (done : Unit {0}) → TakesLeg terms legs leg later now written (Ok done)
        → HasFed (legs ++ leg ∷ []) later written
    fed_more leg later written done (fit, taken, more) = record {
      taken = taken;
      written = subst (Appends start written) (sym (lines_push terms.0 terms.1 legs leg)) (Appends-trans start now written _ _ has.written more);
    }

    module _ (AreAll : List NotedLeg → Type 0) where
      -- memory ends beside the book
      pub short : (rest : List NotedLeg) × AreAll (legs ++ rest) → ShowsAll AreAll now (Err (AtWalk (Failed store.Memory)))
      short (rest, all) = (legs ++ rest, all, (inr (legs, rest, refl, has.taken.2, has.written), λ other. absurd (other refl)))

      -- the book stops behind the last of them
      pub stopped : (fault : StoreFault) (before : List NotedLeg) (last : NotedLeg) → legs ≡ before ++ last ∷ []
          → (rest : List NotedLeg) × AreAll (legs ++ rest) → ShowsAll AreAll now (Err (AtWalk (Failed fault)))
      stopped fault before last is (rest, all) =
          let (leg, given, own) = behind_leg legs before last is in (
            legs ++ rest,
            all,
            (
              inr (legs, rest, refl, has.taken.2, has.written),
              λ other. inr (
                leg,
                given,
                rest,
                ap (λ (ls : List NotedLeg). ls ++ rest) own,
                subst (EachFits stays []) own has.taken.2,
                subst (λ (ls : List NotedLeg). Appends start now (lines ls)) own has.written,
              ),
            ),
          )

      -- the register ends at a leg
      pub cut : (leg : NotedLeg) (later : Register) (written : Option (List ℕ)) (fault : ReportFault)
          → (rest : List NotedLeg) × AreAll ((legs ++ leg ∷ []) ++ rest) → TakesLeg terms legs leg later now written (Err fault)
          → ShowsAll AreAll written (Err (AtRow (Report fault)))
      cut leg later written report.Range (rest, all) (unfit, nothing) = (
        (legs ++ leg ∷ []) ++ rest,
        all,
        (legs, leg, rest, append_assoc legs (leg ∷ []) rest, has.taken.2, unfit, nothing_behind start now written (lines legs) has.written nothing),
      )
      cut leg later written report.Memory (rest, all) nothing = (
        (legs ++ leg ∷ []) ++ rest,
        all,
        inr (
          legs,
          leg ∷ rest,
          append_assoc legs (leg ∷ []) rest,
          has.taken.2,
          nothing_behind start now written (lines legs) has.written nothing,
        ),
      )
      cut leg later written report.Write (rest, all) (fit, part) =
          let own = joined (lines_of_row terms.0 terms.1 (row_behind legs leg)) in
          let foot = foot_lines terms.0 (written_rows terms.1 ((legs ++ leg ∷ []) ++ rest)) in
          let more = lines_more terms.0 terms.1 (legs ++ leg ∷ []) rest in
          let whole : joined (register_lines terms.0 terms.1 ((legs ++ leg ∷ []) ++ rest)) ≡ (lines (legs ++ leg ∷ []) ++ more.0) ++ joined foot =
          joined_both (lines_to terms.0 terms.1 ((legs ++ leg ∷ []) ++ rest)) foot ∙ ap (λ (text : List ℕ). text ++ joined foot) more.1 in (
            (legs ++ leg ∷ []) ++ rest,
            all,
            subst (AppendsPrefix start written) (sym whole)
                (prefix_of_more start written (lines (legs ++ leg ∷ []) ++ more.0) (joined foot)
                (prefix_of_more start written (lines (legs ++ leg ∷ [])) more.0
                (subst (AppendsPrefix start written) (sym (lines_push terms.0 terms.1 legs leg))
                (prefix_behind start now written (lines legs) own has.written part)))),
          )

      -- all is written
      pub whole : (later : Option (List ℕ)) (done : Unit {0}) → AreAll legs
          → WritesEach (λ (text : List ℕ). text) (foot_lines terms.0 (written_rows terms.1 legs)) now later (Ok done) → ShowsAll AreAll later (Ok tt)
      whole later done all more = (
        legs,
        all,
        (
          has.taken.2,
          subst (Appends start later) (sym (joined_both (lines_to terms.0 terms.1 legs) (foot_lines terms.0 (written_rows terms.1 legs))))
              (Appends-trans start now later _ _ has.written more),
        ),
      )

      -- the register ends behind the last leg
      pub cut_at_end : (later : Option (List ℕ)) (fault : PrintFault) → AreAll legs
          → WritesEach (λ (text : List ℕ). text) (foot_lines terms.0 (written_rows terms.1 legs)) now later (Err fault)
          → ShowsAll AreAll later (Err (AtRow (Report (report_fault fault))))
      cut_at_end later Memory all part = (
        legs,
        all,
        inr (
          legs,
          [],
          sym (append-nil legs),
          has.taken.2,
          nothing_behind start now later (lines legs) has.written (none_of_foot terms.0 (written_rows terms.1 legs) now later part),
        ),
      )
      cut_at_end later Write all part = (
        legs,
        all,
        subst (AppendsPrefix start later) (sym (joined_both (lines_to terms.0 terms.1 legs) (foot_lines terms.0 (written_rows terms.1 legs))))
            (prefix_behind start now later (lines legs) (joined (foot_lines terms.0 (written_rows terms.1 legs))) has.written part),
      )

-- whichever legs those are
abbrev pub AreAny : List NotedLeg → Type 0
AreAny legs = Unit {0}

pub of_any : (terms : Terms) (start now : Option (List ℕ)) (result : Result (Unit {0}) ShowFault) → ShowsAll terms start AreAny now result
    → (legs : List NotedLeg) × ShowsRegister terms legs start now result
of_any terms start now result (legs, any, shows) = (legs, shows)

-- ---- legs of a walk

module _ {S : Type 0} (g : Ghosts S) (first : Walk S RegisterPlace g) (begun : Register) (start : Option (List ℕ)) where
  abbrev pub Called : Walk S RegisterPlace g → Walk S RegisterPlace g → Result (Option NotedLeg) WalkFault → Type 0
  Called = Walks g shown_noted IsAnyNoted AreWanted IsBehindWanted

  abbrev pub CalledOverRows : Walk S RegisterPlace g → Walk S RegisterPlace g → Result (Option NotedLeg) WalkFault → Type 0
  CalledOverRows = WalksOverRows g shown_noted AreWantedRows IsBehindWantedRows

  -- what is said of the register of the book, of that of some legs, and of that of the rows of the tables
  abbrev pub Showing : Walk S RegisterPlace g → Option (List ℕ) → Result (Unit {0}) ShowFault → Type 0
  Showing walk now result =
      (terms : Terms) → HasTaken terms [] begun → HasCleanDisk (state g walk.book.now.conn) → (wanted : Wanted) (entries : List Entry)
      → HasGiven g AreWanted IsBehindWanted first wanted entries [] → ShowsAll terms start (AreWanted wanted entries) now result

  abbrev pub ShowingSome : Option (List ℕ) → Result (Unit {0}) ShowFault → Type 0
  ShowingSome now result = (terms : Terms) → HasTaken terms [] begun → (legs : List NotedLeg) × ShowsRegister terms legs start now result

  abbrev pub ShowingRows : Walk S RegisterPlace g → Option (List ℕ) → Type 0
  ShowingRows walk now =
      (terms : Terms) → HasTaken terms [] begun → HasCleanDisk (state g walk.book.now.conn) → (wanted : Wanted) (tables : Tables)
      → HasGivenRows g IsBehindWantedRows first wanted tables [] → ShowsAll terms start (AreWantedRows wanted tables) now (Ok tt)

  -- the legs that the walk has given since it began are taken, but for the last one
  pub record Wrote (walk : Walk S RegisterPlace g) (found : Option NotedLeg) (register : Register) (now : Option (List ℕ)) : Type 0 where
    pub legs : List NotedLeg
    pub of_book : HasCleanDisk (state g walk.book.now.conn) → (wanted : Wanted) (entries : List Entry) → HasGiven g AreWanted IsBehindWanted first wanted entries []
        → Gives g shown_noted IsAnyNoted AreWanted IsBehindWanted walk wanted entries legs found
    pub of_rows : HasCleanDisk (state g walk.book.now.conn) → (wanted : Wanted) (tables : Tables) → HasGivenRows g IsBehindWantedRows first wanted tables []
        → GivesRows g shown_noted AreWantedRows IsBehindWantedRows walk wanted tables legs found
    pub fed : (terms : Terms) → HasTaken terms [] begun → HasFed terms start legs register now

  -- what was given begins all legs
  begins : (walk : Walk S RegisterPlace g) (wanted : Wanted) (entries : List Entry) (given : List NotedLeg) (found : Option NotedLeg)
      → Gives g shown_noted IsAnyNoted AreWanted IsBehindWanted walk wanted entries given found → (rest : List NotedLeg) × AreWanted wanted entries (given ++ rest)
  begins walk wanted entries given (Some leg) has =
      (leg ∷ has.prefix.0, subst (AreWanted wanted entries) (append_assoc given (leg ∷ []) has.prefix.0) has.prefix.1)
  begins walk wanted entries given None all = ([], subst (AreWanted wanted entries) (sym (append-nil given)) all)

  -- ---- before the first leg

  module _ (after : Walk S RegisterPlace g) where
    pub walk_not_begun : (fault : StoreFault) → Showing after start (Err (AtWalk (Failed fault)))
    walk_not_begun fault = λ terms fresh clean wanted entries has. not_begun terms start (AreWanted wanted entries) has.prefix fault

    pub some_not_begun : (fault : StoreFault) → ShowingSome start (Err (AtWalk (Failed fault)))
    some_not_begun fault = λ terms fresh. of_any terms start start (Err (AtWalk (Failed fault))) (not_begun terms start AreAny ([], tt) fault)

    module _ (now : Option (List ℕ)) (fault : PrintFault)
        (part : (terms : Terms) (legs : List NotedLeg) → HasTaken terms legs begun → WritesEach (λ (text : List ℕ). text) (head_lines terms.0) start now (Err fault)) where
      pub walk_no_head : Showing after now (Err (AtRow (Report (report_fault fault))))
      walk_no_head = λ terms fresh clean wanted entries has. no_head terms start (AreWanted wanted entries) has.prefix now fault (part terms [] fresh)

      pub some_no_head : ShowingSome now (Err (AtRow (Report (report_fault fault))))
      some_no_head = λ terms fresh. of_any terms start now (Err (AtRow (Report (report_fault fault)))) (no_head terms start AreAny ([], tt) now fault (part terms [] fresh))

    pub walk_begun : (found : Option NotedLeg) (now : Option (List ℕ)) → Called first after (Ok found) → CalledOverRows first after (Ok found) → (done : Unit {0})
        → ((terms : Terms) (legs : List NotedLeg) → HasTaken terms legs begun → WritesEach (λ (text : List ℕ). text) (head_lines terms.0) start now (Ok done))
        → Wrote after found begun now
    walk_begun found now walks rows done wrote = record {
      legs = [];
      of_book = λ clean wanted entries has. walks.gives clean wanted entries [] has;
      of_rows = λ clean wanted tables has. rows clean wanted tables [] has;
      fed = λ terms fresh. fed_none terms start begun now fresh (wrote terms [] fresh);
    }

  -- ---- behind some legs

  module _ (walk : Walk S RegisterPlace g) (register : Register) (now : Option (List ℕ)) where
    -- memory ends beside the book
    module _ (found : Option NotedLeg) (wrote : Wrote walk found register now) where
      pub walk_short : Showing walk now (Err (AtWalk (Failed store.Memory)))
      walk_short = λ terms fresh clean wanted entries has.
          short terms start wrote.legs register now (wrote.fed terms fresh) (AreWanted wanted entries)
          (begins walk wanted entries wrote.legs found (wrote.of_book clean wanted entries has))

      pub some_short : ShowingSome now (Err (AtWalk (Failed store.Memory)))
      some_short = λ terms fresh.
          of_any terms start now (Err (AtWalk (Failed store.Memory))) (short terms start wrote.legs register now (wrote.fed terms fresh) AreAny ([], tt))

    -- all legs are given
    module _ (wrote : Wrote walk None register now) (later : Option (List ℕ)) where
      module _ (done : Unit {0}) (more : (terms : Terms) (legs : List NotedLeg) → HasTaken terms legs register
          → WritesEach (λ (text : List ℕ). text) (foot_lines terms.0 (written_rows terms.1 legs)) now later (Ok done)) where
        pub walk_whole : Showing walk later (Ok tt)
        walk_whole = λ terms fresh clean wanted entries has.
            let fed = wrote.fed terms fresh in
            whole terms start wrote.legs register now fed (AreWanted wanted entries) later done (wrote.of_book clean wanted entries has) (more terms wrote.legs fed.taken)

        pub some_whole : ShowingSome later (Ok tt)
        some_whole = λ terms fresh.
            let fed = wrote.fed terms fresh in
            of_any terms start later (Ok tt) (whole terms start wrote.legs register now fed AreAny later done tt (more terms wrote.legs fed.taken))

        pub rows_whole : ShowingRows walk later
        rows_whole = λ terms fresh clean wanted tables has.
            let fed = wrote.fed terms fresh in
            whole terms start wrote.legs register now fed (AreWantedRows wanted tables) later done (wrote.of_rows clean wanted tables has) (more terms wrote.legs fed.taken)

      module _ (fault : PrintFault) (part : (terms : Terms) (legs : List NotedLeg) → HasTaken terms legs register
          → WritesEach (λ (text : List ℕ). text) (foot_lines terms.0 (written_rows terms.1 legs)) now later (Err fault)) where
        pub walk_cut_at_end : Showing walk later (Err (AtRow (Report (report_fault fault))))
        walk_cut_at_end = λ terms fresh clean wanted entries has.
            let fed = wrote.fed terms fresh in
            cut_at_end terms start wrote.legs register now fed (AreWanted wanted entries) later fault (wrote.of_book clean wanted entries has) (part terms wrote.legs fed.taken)

        pub some_cut_at_end : ShowingSome later (Err (AtRow (Report (report_fault fault))))
        some_cut_at_end = λ terms fresh.
            let fed = wrote.fed terms fresh in
            of_any terms start later (Err (AtRow (Report (report_fault fault)))) (cut_at_end terms start wrote.legs register now fed AreAny later fault tt (part terms wrote.legs fed.taken))

    -- one more leg is given
    module _ (leg : NotedLeg) (wrote : Wrote walk (Some leg) register now) (behind : Register) (later : Option (List ℕ)) where
      abbrev pub Takes : Result (Unit {0}) ReportFault → Type 0
      Takes result = (terms : Terms) (legs : List NotedLeg) → HasTaken terms legs register → TakesLeg terms legs leg behind now later result

      -- its row isn't written, or not all of it
      module _ (fault : ReportFault) (takes : Takes (Err fault)) where
        pub walk_cut : Showing walk later (Err (AtRow (Report fault)))
        walk_cut = λ terms fresh clean wanted entries has.
            let fed = wrote.fed terms fresh in
            cut terms start wrote.legs register now fed (AreWanted wanted entries) leg behind later fault (wrote.of_book clean wanted entries has).prefix
            (takes terms wrote.legs fed.taken)

        pub some_cut : ShowingSome later (Err (AtRow (Report fault)))
        some_cut = λ terms fresh.
            let fed = wrote.fed terms fresh in
            of_any terms start later (Err (AtRow (Report fault))) (cut terms start wrote.legs register now fed AreAny leg behind later fault ([], tt) (takes terms wrote.legs fed.taken))

      -- it is written
      module _ (done : Unit {0}) (takes : Takes (Ok done)) where
        fed_with : (terms : Terms) → HasTaken terms [] begun → HasFed terms start (wrote.legs ++ leg ∷ []) behind later
        fed_with terms fresh =
            let fed = wrote.fed terms fresh in
            fed_more terms start wrote.legs register now fed leg behind later done (takes terms wrote.legs fed.taken)

        -- the book stops
        pub walk_stopped : (after : Walk S RegisterPlace g) (at : WalkFault) → Called walk after (Err at) → (fault : StoreFault)
            → Showing after later (Err (AtWalk (Failed fault)))
        walk_stopped after at walks fault = λ terms fresh clean wanted entries has.
            let was = early (state g walk.book.now.conn) (state g after.book.now.conn) walks.crash clean in
            stopped terms start (wrote.legs ++ leg ∷ []) behind later (fed_with terms fresh) (AreWanted wanted entries) fault wrote.legs leg refl
            (wrote.of_book was wanted entries has).prefix

        pub some_stopped : (fault : StoreFault) → ShowingSome later (Err (AtWalk (Failed fault)))
        some_stopped fault = λ terms fresh.
            of_any terms start later (Err (AtWalk (Failed fault)))
            (stopped terms start (wrote.legs ++ leg ∷ []) behind later (fed_with terms fresh) AreAny fault wrote.legs leg refl ([], tt))

        -- the walk goes on
        pub walk_grown : (after : Walk S RegisterPlace g) (found : Option NotedLeg) → Called walk after (Ok found) → CalledOverRows walk after (Ok found)
            → Wrote after found behind later
        walk_grown after found walks rows = record {
          legs = wrote.legs ++ leg ∷ [];
          of_book = λ clean wanted entries has.
              let was = early (state g walk.book.now.conn) (state g after.book.now.conn) walks.crash clean in
              walks.gives clean wanted entries (wrote.legs ++ leg ∷ []) (wrote.of_book was wanted entries has);
          of_rows = λ clean wanted tables has.
              let was = early (state g walk.book.now.conn) (state g after.book.now.conn) walks.crash clean in
              rows clean wanted tables (wrote.legs ++ leg ∷ []) (wrote.of_rows was wanted tables has);
          fed = fed_with;
        }
