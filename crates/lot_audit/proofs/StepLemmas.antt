-- The questions that judge the entry of a row, one after another.
use Rattle.std.specs.Prelude.{◌≡◌, ◌↔◌, ℕ, ℤ, pos, Bool, false, IsTrue, All, List, [], ◌∷◌, None, Ok, Err, Result, Vec}
use Rattle.std.specs.List.{AllByRecursion}
use Rattle.std.specs.Option.{option_or}
use Rattle.std.specs.Result.{IsErrAnd}
use Rattle.std.specs.declared.alloc.Global.{Global}
use Rattle.std.proofs.Common.{sym, subst, ◌∙◌}
use Rattle.std.proofs.lemmas.Bool.{true≢false}
use Rattle.sqlite.specs.State.{State}
use Rattle.sqlite.specs.declared.types.Value.TheVariants.{Int}
use Rattle.lot_book.specs.Edition.{After, edition_on}
use Rattle.lot_book.specs.Facts.{Entry, text_under}
use Rattle.lot_book.specs.OpeningNumber.{IsNumbered}
use Rattle.lot_book.specs.Step.{Accept, StepIn}
use Rattle.lot_book.specs.declared.change.Change.{Change}
use Rattle.lot_book.specs.declared.leg.Leg.{Leg}
use Rattle.lot_command.specs.declared.command.Command.{Command}
use Rattle.lot_command.specs.declared.key.Key.{Key}
use Rattle.lot_page.specs.Cursor.{Place}
use Rattle.lot_rows.specs.Leg.{IsLegRow, leg_cells}
use Rattle.lot_rows.specs.Tables.{Tables, layout}
use Rattle.lot_rows.specs.declared.entry.EntryRow.{EntryRow}
use Rattle.lot_rows.specs.declared.leg.LegRow.{LegRow}
use Rattle.lot_rows.specs.declared.sale.SaleRow.{SaleRow}
use Rattle.lot_table.specs.Call.{ListsColumns}
use Rattle.lot_table.specs.Rows.{has_key, with_key}
use Rattle.lot_table.specs.declared.fault.Fault.{Fault}
use Rattle.lot_table.specs.declared.fault.Fault.TheVariants.{Damaged, Memory}
use Rattle.lot_stored.specs.Kept.{rate_by}
use Rattle.lot_view.specs.View.{known as facts_known}
use Rattle.lot_audit.specs.Checks.{Checks, ChecksWhere, always}
use Rattle.lot_audit.specs.Entries.{HasRows, IsEntryOf, IsFirstUnder}
use Rattle.lot_audit.specs.Legs.{AreAlike}
use Rattle.lot_audit.specs.Pass.{GoesOnBy, HasJudged, HasOthersNext, HasRead, IsAmongSales}
use Rattle.lot_audit.specs.Rates.{rate_in}
use Rattle.lot_audit.specs.Replay.{Follows, Replays}
use Rattle.lot_audit.specs.declared.pass.Pass.{Pass}
use Rattle.lot_audit.specs.declared.rates.Rates.{Rates}
use Rattle.lot_audit.specs.declared.replay.Replay.{Replay}
use Rattle.lot_audit.proofs.JudgeLemmas.{HasFound, among, are_numbered, judged, none_said, not_accepted, not_alike, not_first, not_sold, not_there, own_rows}
use Rattle.lot_audit.proofs.SalesLemmas.{Follow}
use Rattle.lot_audit.proofs.SeenLemmas.{Seen, Tells, answers_check, fails_next, good_filtered, not_told, passed_on, refuted, seen_as, seen_done, seen_next, seen_none, stopped, told_no, told_yes}

module _ (pass : Pass) (row : EntryRow) (old : State) (before : ℕ) (count : before ≡ (facts_known pass.known.replay.view).entries) where
  abbrev Read : Tables → Type 0
  Read = HasRead pass row

  -- no command is said
  pub nothing_said : ((key : Key) (command : Command) → ¬ IsEntryOf before row key command) → ChecksWhere Read HasJudged old old (Err Damaged)
  nothing_said none = refuted Read HasJudged Read old old (seen_none Read old) (λ tables has read. none_said pass row before count none tables read)

  module _ (key : Key) (command : Command) (said : IsEntryOf before row key command) where
    abbrev First : Tables → Type 0
    First = IsFirstUnder key row.number

    abbrev pub SeenFirst : State → Type 0
    SeenFirst one = Seen Read (λ tables. Read tables × First tables) old one

    pub seen_first : (one : State) (is : Bool) → IsTrue is → Checks (Tells First) old one (Ok is) → SeenFirst one
    seen_first one is so_it_is c = told_yes Read Read First old old one (seen_none Read old) is so_it_is c

    pub other_first : (one : State) (is : Bool) → is ≡ false → Checks (Tells First) old one (Ok is) → ChecksWhere Read HasJudged old one (Err Damaged)
    other_first one is out c =
        refuted Read HasJudged (λ tables. Read tables × (¬ First tables)) old one
        (told_no Read Read First old old one (seen_none Read old) is out c)
        (λ tables has was. not_first pass row before count key command said tables was.0 was.1)

    module _ (one : State) (first : SeenFirst one) where
      pub none_accepts : ((entries : List Entry) (other : Key) (legs : List Leg) → Replays pass.known.replay entries
          → ¬ StepIn (edition_on (After pass.known.replay.place) entries) entries other command (Accept legs))
          → ChecksWhere Read HasJudged old one (Err Damaged)
      none_accepts never =
          refuted Read HasJudged (λ tables. Read tables × First tables) old one first
          (λ tables has was. not_accepted pass row before count key command said never tables was.0)

      abbrev own_legs : Tables → List LegRow
      own_legs tables = with_key leg_cells 1 (Int (pos row.number) ∷ []) tables.leg

      pub legs_unread : (two : State) (fault : Fault) (result : Result Pass Fault) → IsErrAnd result (λ e. e ≡ fault)
          → ListsColumns layout leg_cells IsLegRow own_legs one two (Err fault) → ChecksWhere Read HasJudged old two result
      legs_unread two fault result is lists =
          passed_on Read HasJudged old two fault result is
          (fails_next Read HasJudged always _ (λ tables. Read tables × First tables) old one two fault first
          (answers_check _ _ _ one two (Err fault) lists
          (λ tables of. good_filtered IsLegRow (λ (leg : LegRow). has_key 1 (Int (pos row.number) ∷ []) (leg_cells leg)) tables.leg of.2.good.leg))
          (λ tables has was. tt))

      module _ (replay : Replay) (change : Change)
          (follow : (entries : List Entry) (other : Key) → Replays pass.known.replay entries → text_under entries other ≡ None
          → Follows pass.known.replay replay entries other command change) where
        abbrev Found : List LegRow → Tables → Type 0
        Found = HasFound pass row before count key command said replay change follow

        abbrev own : List SaleRow
        own = own_rows pass row before count key command said replay change follow

        abbrev pub SeenLegs : List LegRow → State → Type 0
        SeenLegs found two = Seen Read (λ tables. (Read tables × First tables) × Found found tables) old two

        pub seen_legs : (two : State) (found : Vec LegRow Global) → ListsColumns layout leg_cells IsLegRow own_legs one two (Ok found)
            → SeenLegs found.items two
        seen_legs two found lists =
            seen_next Read always _ (λ tables. Read tables × First tables)
            (λ tables. (Read tables × First tables) × Found found.items tables) old one two found first
            (answers_check _ _ _ one two (Ok found) lists
            (λ tables of. good_filtered IsLegRow (λ (leg : LegRow). has_key 1 (Int (pos row.number) ∷ []) (leg_cells leg)) tables.leg of.2.good.leg))
            (λ tables has was. (tt, λ answer. (was, (answer.0, answer.1))))

        module _ (two : State) (found : List LegRow) (legs : SeenLegs found two) (is : Bool)
            (tells : All IsLegRow found → AllByRecursion IsNumbered change.legs → IsTrue is ↔ ((posting : ℕ) → AreAlike posting found change.legs)) where
          pub other_legs : is ≡ false → ChecksWhere Read HasJudged old two (Err Damaged)
          other_legs out =
              refuted Read HasJudged (λ tables. (Read tables × First tables) × Found found tables) old two legs
              (λ tables has was.
              let numbered = are_numbered pass row before count key command said replay change follow tables was.0.0 was.0.1 in
              not_alike pass row before count key command said replay change follow found tables was.0.0 was.0.1 was.1
              (λ alike. absurd (true≢false (sym ((tells was.1.0 numbered).1 alike) ∙ out))))

          abbrev pub SeenAlike : Tables → Type 0
          SeenAlike tables = ((Read tables × First tables) × Found found tables) × ((posting : ℕ) → AreAlike posting found change.legs)

          pub seen_alike : IsTrue is → Seen Read SeenAlike old two
          seen_alike so_it_is =
              seen_as Read (λ tables. (Read tables × First tables) × Found found tables) SeenAlike old two legs
              (λ tables has was.
              let numbered = are_numbered pass row before count key command said replay change follow tables was.0.0 was.0.1 in
              (was, (tells was.1.0 numbered).0 so_it_is))

          module _ (alike : Seen Read SeenAlike old two) (three : State) where
            pub rows_unread : (fault : Fault) (result : Result Pass Fault) → IsErrAnd result (λ e. e ≡ fault)
                → Checks (Tells (HasRows command)) two three (Err fault) → ChecksWhere Read HasJudged old three result
            rows_unread fault result is_it c = not_told Read SeenAlike (HasRows command) old two three alike HasJudged (Tells (HasRows command)) fault result is_it c

            pub rows_gone : (has_them : Bool) → has_them ≡ false → Checks (Tells (HasRows command)) two three (Ok has_them)
                → ChecksWhere Read HasJudged old three (Err Damaged)
            rows_gone has_them out c =
                refuted Read HasJudged (λ tables. SeenAlike tables × (¬ HasRows command tables)) old three
                (told_no Read SeenAlike (HasRows command) old two three alike has_them out c)
                (λ tables has was.
                not_there pass row before count key command said replay change follow tables was.0.0.0.0 was.0.0.0.1 was.1)

            abbrev pub SeenRows : Tables → Type 0
            SeenRows tables = SeenAlike tables × HasRows command tables

            pub seen_rows : (has_them : Bool) → IsTrue has_them → Checks (Tells (HasRows command)) two three (Ok has_them) → Seen Read SeenRows old three
            seen_rows has_them so_it_is c = told_yes Read SeenAlike (HasRows command) old two three alike has_them so_it_is c

            module _ (rows : Seen Read SeenRows old three) (four : State) (sales : Place) where
              abbrev Sold : Bool → Tables → Type 0
              Sold = Follow pass.sales sales own

              pub sales_unread : (fault : Fault) (result : Result Pass Fault) → IsErrAnd result (λ e. e ≡ fault)
                  → ChecksWhere (IsAmongSales pass.sales) Sold three four (Err fault) → ChecksWhere Read HasJudged old four result
              sales_unread fault result is_it c =
                  passed_on Read HasJudged old four fault result is_it
                  (fails_next Read HasJudged (IsAmongSales pass.sales) Sold SeenRows old three four fault rows c
                  (λ tables has was. among pass row before count key command said replay change follow tables was.0.0.0.0))

              pub other_sales : (came : Bool) → came ≡ false → ChecksWhere (IsAmongSales pass.sales) Sold three four (Ok came)
                  → ChecksWhere Read HasJudged old four (Err Damaged)
              other_sales came out c =
                  refuted Read HasJudged (λ tables. SeenRows tables × HasOthersNext pass.sales own tables) old four
                  (seen_next Read (IsAmongSales pass.sales) Sold SeenRows (λ tables. SeenRows tables × HasOthersNext pass.sales own tables)
                  old three four came rows c
                  (λ tables has was. (
                    among pass row before count key command said replay change follow tables was.0.0.0.0,
                    λ follows. (was, follows.1 out),
                  )))
                  (λ tables has was.
                  not_sold pass row before count key command said replay change follow tables was.0.0.0.0.0 was.0.0.0.0.1 was.1)

              abbrev pub SeenSales : Tables → Type 0
              SeenSales tables = SeenRows tables × GoesOnBy pass.sales sales own tables

              pub seen_sales : (came : Bool) → IsTrue came → ChecksWhere (IsAmongSales pass.sales) Sold three four (Ok came) → Seen Read SeenSales old four
              seen_sales came so_it_is c =
                  seen_next Read (IsAmongSales pass.sales) Sold SeenRows SeenSales old three four came rows c
                  (λ tables has was. (
                    among pass row before count key command said replay change follow tables was.0.0.0.0,
                    λ follows. (was, follows.0 so_it_is),
                  ))

              module _ (sold : Seen Read SeenSales old four) where
                pub no_memory : (fault : Fault) (result : Result Pass Fault) → fault ≡ Memory → IsErrAnd result (λ e. e ≡ fault) → ChecksWhere Read HasJudged old four result
                no_memory fault result memory is_it =
                    passed_on Read HasJudged old four fault result is_it
                    (subst (λ (f : Fault). ChecksWhere Read HasJudged old four (Err f)) (sym memory) (stopped Read HasJudged SeenSales old four sold))

                pub all_judged : (rates : Rates)
                    → ((base quote : List ℕ) (day : ℤ) → rate_in rates base quote day
                    ≡ option_or (rate_by base quote day command) (rate_in pass.known.rates base quote day))
                    → ChecksWhere Read HasJudged old four
                    (Ok (record { known = record { replay = replay; rates = rates }; entries = pass.entries; sales = sales }))
                all_judged rates quoted =
                    seen_done Read HasJudged old four
                    (record { known = record { replay = replay; rates = rates }; entries = pass.entries; sales = sales })
                    (seen_as Read SeenSales
                    (HasJudged (record { known = record { replay = replay; rates = rates }; entries = pass.entries; sales = sales })) old four sold
                    (λ tables has was.
                    let alike_at = was.0.0 in
                    let found_at = alike_at.0 in
                    judged pass row before count key command said replay change follow rates sales quoted found tables found_at.0.0 found_at.0.1
                    found_at.1 alike_at.1 was.0.1 was.1))
