-- Commands judged in their order come to one list of verdicts and to one book, and what it holds is listed in one way.
use Rattle.std.specs.Prelude.{◌≡◌, List, [], ◌∷◌, ◌++◌, map, ℤ}
use Rattle.std.specs.List.Sorted.{IsStrictlySortedBy}
use Rattle.std.specs.Map.{keys_of}
use Rattle.std.proofs.Common.{refl, sym, ap, subst, ◌∙◌}
use Rattle.lot_base.proofs.MapLemmas.{one_map}
use Rattle.lot_command.specs.declared.command.Command.{Command}
use Rattle.lot_command.specs.declared.key.Key.{Key}
use Rattle.lot_book.specs.declared.holding.Holding.{Holding}
use Rattle.lot_book.specs.declared.leg.Leg.{Leg}
use Rattle.lot_book.specs.declared.leg.Position.{Position}
use Rattle.lot_book.specs.declared.refusal.Refusal.{Refusal}
use Rattle.lot_book.specs.declared.verdict.Verdict.{Verdict}
use Rattle.lot_book.specs.declared.verdict.Verdict.TheVariants.{Accepted, Repeated, Refused}
use Rattle.lot_book.specs.Book.{IsBook, IsBookIn, entry_of}
use Rattle.lot_book.specs.Edition.{Edition, Migration, Second, edition_on}
use Rattle.lot_book.specs.Facts.{Entry, Facts}
use Rattle.lot_book.specs.Holding.{ListsHoldings, entry_of as as_entry, position_of}
use Rattle.lot_book.specs.Judged.{JudgesAll, JudgesAllIn, JudgesBy, JudgesOn}
use Rattle.lot_book.specs.Leg.{position_cmp}
use Rattle.lot_book.specs.Step.{Accept, Outcome, Refuse, Repeat, StepIn}
use Rattle.lot_book.proofs.OrderLemmas.{exact_positions, positions_total}
use Rattle.lot_laws.proofs.StepLemmas.{some_step, step_one}
use Rattle.lot_laws.proofs.RecordedBook.{book-grows, book-grows_in}
use Rattle.lot_laws.specs.Laws.{JudgesAllBy}

-- ---- Commands come to some verdicts and some book.

judged_by : (edition : Edition) (before : List Entry) (key : Key) (command : Command) (outcome : Outcome)
    → StepIn edition before key command outcome
    → (verdict : Verdict) × (after : List Entry) × JudgesBy edition before key command verdict after
judged_by edition before key command (Accept legs) step = (Accepted, before ++ entry_of key command legs ∷ [], (legs, step, refl))
judged_by edition before key command Repeat step = (Repeated, before, (step, refl))
judged_by edition before key command (Refuse refusal) step = (Refused refusal, before, (step, refl))

pub some_judged_by : (edition : List Entry → Edition) (before : List Entry) (commands : List (Key × Command))
    → (verdicts : List Verdict) × (after : List Entry) × JudgesAllBy edition before commands verdicts after
some_judged_by edition before [] = ([], before, refl)
some_judged_by edition before (next ∷ commands) =
    let outcome = some_step (edition before) before next.0 next.1 in
    let first = judged_by (edition before) before next.0 next.1 outcome.0 outcome.1 in
    let rest = some_judged_by edition first.1 commands in
    (first.0 ∷ rest.0, rest.1, (first.1, first.2, rest.2))

-- ---- They come to no other.

same_legs : (legs more : List Leg) → Accept legs ≡ Accept more → legs ≡ more
same_legs legs more e = cc

same_refusal : (a b : Refusal) → Refuse a ≡ Refuse b → a ≡ b
same_refusal a b e = cc

accept_or_repeat : (legs : List Leg) → Accept legs ≡ Repeat → ⊥
accept_or_repeat legs e = cc

accept_or_refuse : (legs : List Leg) (refusal : Refusal) → Accept legs ≡ Refuse refusal → ⊥
accept_or_refuse legs refusal e = cc

repeat_or_refuse : (refusal : Refusal) → Repeat ≡ Refuse refusal → ⊥
repeat_or_refuse refusal e = cc

alike : (edition : Edition) (before : List Entry) (key : Key) (command : Command) (v w : Verdict) (a b : List Entry)
    → JudgesBy edition before key command v a → JudgesBy edition before key command w b → (v ≡ w) × (a ≡ b)
alike edition before key command Accepted Accepted a b h k =
    let legs = same_legs h.0 k.0 (step_one edition before key command (Accept h.0) (Accept k.0) h.1 k.1) in
    (refl, h.2 ∙ ap (λ (legs : List Leg). before ++ entry_of key command legs ∷ []) legs ∙ sym k.2)
alike edition before key command Accepted Repeated a b h k =
    absurd (accept_or_repeat h.0 (step_one edition before key command (Accept h.0) Repeat h.1 k.0))
alike edition before key command Accepted (Refused q) a b h k =
    absurd (accept_or_refuse h.0 q (step_one edition before key command (Accept h.0) (Refuse q) h.1 k.0))
alike edition before key command Repeated Accepted a b h k =
    absurd (accept_or_repeat k.0 (step_one edition before key command (Accept k.0) Repeat k.1 h.0))
alike edition before key command Repeated Repeated a b h k = (refl, h.1 ∙ sym k.1)
alike edition before key command Repeated (Refused q) a b h k =
    absurd (repeat_or_refuse q (step_one edition before key command Repeat (Refuse q) h.0 k.0))
alike edition before key command (Refused p) Accepted a b h k =
    absurd (accept_or_refuse k.0 p (step_one edition before key command (Accept k.0) (Refuse p) k.1 h.0))
alike edition before key command (Refused p) Repeated a b h k =
    absurd (repeat_or_refuse p (step_one edition before key command Repeat (Refuse p) k.0 h.0))
alike edition before key command (Refused p) (Refused q) a b h k =
    (ap Refused (same_refusal p q (step_one edition before key command (Refuse p) (Refuse q) h.0 k.0)), h.1 ∙ sym k.1)

pub judged_alike_by : (edition : List Entry → Edition) (before : List Entry) (commands : List (Key × Command)) (vs ws : List Verdict) (a b : List Entry)
    → JudgesAllBy edition before commands vs a → JudgesAllBy edition before commands ws b → (vs ≡ ws) × (a ≡ b)
judged_alike_by edition before [] [] [] a b h k = (refl, h ∙ sym k)
judged_alike_by edition before [] [] (w ∷ ws) a b h k = absurd k
judged_alike_by edition before [] (v ∷ vs) ws a b h k = absurd h
judged_alike_by edition before (next ∷ commands) [] ws a b h k = absurd h
judged_alike_by edition before (next ∷ commands) (v ∷ vs) [] a b h k = absurd k
judged_alike_by edition before (next ∷ commands) (v ∷ vs) (w ∷ ws) a b h k =
    let first = alike (edition before) before next.0 next.1 v w h.0 k.0 h.1 k.1 in
    let rest = judged_alike_by edition h.0 commands vs ws a b h.2 (subst (λ (mid : List Entry). JudgesAllBy edition mid commands ws b) (sym first.1) k.2) in
    (ap (λ (u : Verdict). u ∷ vs) first.0 ∙ ap (λ (us : List Verdict). w ∷ us) rest.0, rest.1)

-- ---- One command more.

pub judges_more_by : (edition : List Entry → Edition) (before : List Entry) (done : List (Key × Command)) (verdicts : List Verdict) (mid after : List Entry) (next : Key × Command)
    (verdict : Verdict) → JudgesAllBy edition before done verdicts mid → JudgesBy (edition mid) mid next.0 next.1 verdict after
    → JudgesAllBy edition before (done ++ next ∷ []) (verdicts ++ verdict ∷ []) after
judges_more_by edition before [] [] mid after next verdict all one =
    (after, subst (λ (book : List Entry). JudgesBy (edition book) book next.0 next.1 verdict after) all one, refl)
judges_more_by edition before [] (v ∷ verdicts) mid after next verdict all one = absurd all
judges_more_by edition before (first ∷ done) [] mid after next verdict all one = absurd all
judges_more_by edition before (first ∷ done) (v ∷ verdicts) mid after next verdict all one =
    (all.0, all.1, judges_more_by edition all.0 done verdicts mid after next verdict all.2 one)

-- ---- Judged commands leave a book a book.

-- what an accepted command keeps of the entries, judged commands do
module _ (edition : List Entry → Edition) (Keeps : List Entry → Type 0)
    (grows : (before : List Entry) (key : Key) (command : Command) (legs : List Leg) → Keeps before
    → StepIn (edition before) before key command (Accept legs) → Keeps (before ++ entry_of key command legs ∷ [])) where
  kept_once : (before : List Entry) (key : Key) (command : Command) (verdict : Verdict) (after : List Entry)
      → JudgesBy (edition before) before key command verdict after → Keeps before → Keeps after
  kept_once before key command Accepted after h was = subst Keeps (sym h.2) (grows before key command h.0 was h.1)
  kept_once before key command Repeated after h was = subst Keeps (sym h.1) was
  kept_once before key command (Refused refusal) after h was = subst Keeps (sym h.1) was

  kept_by_all : (before : List Entry) (commands : List (Key × Command)) (verdicts : List Verdict) (after : List Entry)
      → Keeps before → JudgesAllBy edition before commands verdicts after → Keeps after
  kept_by_all before [] [] after was h = subst Keeps (sym h) was
  kept_by_all before [] (verdict ∷ verdicts) after was h = absurd h
  kept_by_all before (next ∷ commands) [] after was h = absurd h
  kept_by_all before (next ∷ commands) (verdict ∷ verdicts) after was h =
      kept_by_all h.0 commands verdicts after (kept_once before next.0 next.1 verdict h.0 h.1 was) h.2

pub judged_book_in : (migration : Migration) (before : List Entry) (commands : List (Key × Command)) (verdicts : List Verdict) (after : List Entry)
    → IsBookIn migration before → JudgesAllIn migration before commands verdicts after → IsBookIn migration after
judged_book_in migration = kept_by_all (edition_on migration) (IsBookIn migration) (book-grows_in migration)

-- ---- The same by edition 2.

pub judged_book : (before : List Entry) (commands : List (Key × Command)) (verdicts : List Verdict) (after : List Entry)
    → IsBook before → JudgesAll before commands verdicts after → IsBook after
judged_book = kept_by_all (λ book. Second) IsBook book-grows

pub some_judged : (before : List Entry) (commands : List (Key × Command))
    → (verdicts : List Verdict) × (after : List Entry) × JudgesAll before commands verdicts after
some_judged = some_judged_by (λ book. Second)

pub judged_alike : (before : List Entry) (commands : List (Key × Command)) (vs ws : List Verdict) (a b : List Entry)
    → JudgesAll before commands vs a → JudgesAll before commands ws b → (vs ≡ ws) × (a ≡ b)
judged_alike = judged_alike_by (λ book. Second)

pub judges_more : (before : List Entry) (done : List (Key × Command)) (verdicts : List Verdict) (mid after : List Entry) (next : Key × Command)
    (verdict : Verdict) → JudgesAll before done verdicts mid → JudgesOn mid next.0 next.1 verdict after
    → JudgesAll before (done ++ next ∷ []) (verdicts ++ verdict ∷ []) after
judges_more = judges_more_by (λ book. Second)

-- ---- What is held is listed in one way.

-- a position and its units as a row
abbrev as_row : Position × ℤ → Holding
as_row entry =
    record { account = entry.0.account; commodity = entry.0.commodity; lot = entry.0.lot; units = entry.1 }

rows_back : (rows : List Holding) → map as_row (map as_entry rows) ≡ rows
rows_back [] = refl
rows_back (row ∷ rows) = ap (λ (more : List Holding). row ∷ more) (rows_back rows)

positions_listed : (rows : List Holding) → map position_of rows ≡ keys_of (map as_entry rows)
positions_listed [] = refl
positions_listed (row ∷ rows) = ap (λ (more : List Position). position_of row ∷ more) (positions_listed rows)

entries_in_order : (facts : Facts) (rows : List Holding) → ListsHoldings facts rows
    → IsStrictlySortedBy position_cmp (keys_of (map as_entry rows))
entries_in_order facts rows h = subst (IsStrictlySortedBy position_cmp) (positions_listed rows) h.in_order

pub one_holdings : (facts : Facts) (rows others : List Holding) → ListsHoldings facts rows → ListsHoldings facts others
    → rows ≡ others
one_holdings facts rows others h k =
    sym (rows_back rows)
    ∙ ap (map as_row) (one_map position_cmp positions_total exact_positions (map as_entry rows) (map as_entry others)
    (entries_in_order facts rows h) (entries_in_order facts others k) (λ (p : Position). h.each p ∙ sym (k.each p)))
    ∙ rows_back others
