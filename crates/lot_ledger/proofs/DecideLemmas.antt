-- The postings of a transaction, booked one after another.
use Rattle.std.proofs.Common.{◌≡◌, ◌⊎◌, Bool, false, inl, inr, ℕ, suc, List, [], ◌∷◌, ◌++◌, Option, Some, None, refl, sym, ap, subst, ◌∙◌, ℤ, append_assoc, append-nil, arith, add-one, ◌+◌, ◌<◌, length, drop, slice_index_or}
use Rattle.std.proofs.Math.Seq.{drop-cons, drop-length}
use Rattle.std.specs.Prelude.{◌||◌, is_some}
use Rattle.std.proofs.lemmas.Bool.{true≢false}
use Rattle.lot_cost.specs.declared.cost.Cost.{Cost}
use Rattle.lot_command.specs.declared.transaction.Amount.{Amount}
use Rattle.lot_command.specs.declared.transaction.Transaction.{Transaction as TransactionOf}
use Rattle.lot_command.specs.declared.transaction.Posting.{Posting}
use Rattle.lot_posting.specs.declared.draft.Draft.{Draft}
use Rattle.lot_book.specs.declared.leg.Leg.{Leg}
use Rattle.lot_book.specs.declared.refusal.Refusal.{Refusal}
use Rattle.lot_book.specs.declared.refusal.Stop.TheVariants as stop
use Rattle.lot_book.specs.Balance.{AreWithin, elided_postings, residuals, weights_in}
use Rattle.lot_book.specs.Booking.{All, Booked, Bookings, Books as BooksOne, BooksAllUnder, BooksWithUnder, Fails, HasLegs, Line, Stopped, TieRule, follow, legs_in, line_under}
use Rattle.lot_ledger.specs.Decide.{BooksNext, DraftsAll, EndMayLackMemory, FillMayLackMemory, IsDraft, NextMayLackMemory, StopsNext, StoresAt, StoresFirst, amount_at_cost, has_braces}
use Rattle.lot_book.specs.Facts.{Facts}
use Rattle.lot_book.specs.Leg.{leave_range}
use Rattle.lot_book.specs.Sale.{sales_in, sales_of}
use Rattle.lot_posting.specs.Posting.{Books, CopiesLots, StoresFor}
use Rattle.lot_posting.proofs.BalanceResiduals.{AreWithin-more, weights_in-push}

-- what postings come to, behind others that are booked
abbrev pub follow_all : List Booked → Bookings → Bookings
follow_all [] more = more
follow_all (booked ∷ others) more = follow booked (follow_all others more)

pub follow_all-push : (booked : List Booked) (next : Booked) (more : Bookings) → follow_all (booked ++ next ∷ []) more ≡ follow_all booked (follow next more)
follow_all-push [] next more = refl
follow_all-push (first ∷ booked) next more = ap (follow first) (follow_all-push booked next more)

pub follow_all-stopped : (booked : List Booked) (refusal : Refusal) → follow_all booked (Stopped refusal) ≡ Stopped refusal
follow_all-stopped [] refusal = refl
follow_all-stopped (first ∷ booked) refusal = ap (follow first) (follow_all-stopped booked refusal)

pub follow_all-all : (booked more : List Booked) → follow_all booked (All more) ≡ All (booked ++ more)
follow_all-all [] more = refl
follow_all-all (first ∷ booked) more = ap (follow first) (follow_all-all booked more)

-- ---- one posting more

pub legs_in-push : (booked : List Booked) (next : Booked) → legs_in (booked ++ next ∷ []) ≡ legs_in booked ++ next.legs
legs_in-push [] next = append-nil next.legs
legs_in-push (first ∷ booked) next = ap (λ legs. first.legs ++ legs) (legs_in-push booked next) ∙ sym (append_assoc first.legs (legs_in booked) next.legs)

pub sales_in-push : (day : ℤ) (booked : List Booked) (next : Booked) → sales_in day (booked ++ next ∷ []) ≡ sales_in day booked ++ sales_of day next
sales_in-push day [] next = append-nil (sales_of day next)
sales_in-push day (first ∷ booked) next = ap (λ sales. sales_of day first ++ sales) (sales_in-push day booked next) ∙ sym (append_assoc (sales_of day first) (sales_in day booked) (sales_of day next))

-- ---- where memory may lack

-- the legs of a posting that is booked are stored
stores_legs : (line : Line) (cost : Option Cost) (reduces : Bool) (legs : List Leg) → HasLegs line cost reduces legs
    → leave_range line.held legs ≡ false → StoresFor line cost
stores_legs line None reduces legs has within = ap (leave_range line.held) (sym has.1) ∙ within
stores_legs line (Some cost) reduces legs has within = (reduces, has.0, has.1)

-- lots that no legs have changed aren't copied
none_copied : (before : List Leg) (cost : Option Cost) → CopiesLots before cost → before ≡ [] → ⊥
none_copied before None copies none = copies
none_copied before (Some cost) copies none = copies none

-- so it is for the first posting with an amount, where all of them are booked; else there is none
stores_with : (ties : TieRule) (facts : Facts) (day : ℤ) (place : ℕ) (account : List ℕ) (amount : Option Amount) (left : List Posting) (booked : List Booked)
    → BooksWithUnder ties (λ legs others. BooksAllUnder ties facts day legs (suc place) left others) facts day [] place account amount (All booked)
    → (BooksAllUnder ties facts day [] (suc place) left (All booked) → StoresFirst ties facts day (suc place) left ⊎ ((booked ≡ []) × (has_braces left ≡ false)))
    → StoresAt ties facts day place account amount (StoresFirst ties facts day (suc place) left)
    ⊎ ((booked ≡ []) × ((is_some (amount_at_cost amount) || has_braces left) ≡ false))
stores_with ties facts day place account None left booked h rest = rest h
stores_with ties facts day place account (Some amount) left booked (BooksOne one, is, others) rest =
    inl (stores_legs (line_under ties facts day [] place account amount) amount.cost one.reduces one.legs is.legs is.range)
stores_with ties facts day place account (Some amount) left booked (Fails refusal, is, stopped) rest = cc

pub stores_first : (ties : TieRule) (facts : Facts) (day : ℤ) (place : ℕ) (postings : List Posting) (booked : List Booked)
    → BooksAllUnder ties facts day [] place postings (All booked)
    → StoresFirst ties facts day place postings ⊎ ((booked ≡ []) × (has_braces postings ≡ false))
stores_first ties facts day place [] booked h = inr (cc, refl)
stores_first ties facts day place (posting ∷ postings) booked h =
    stores_with ties facts day place posting.account posting.amount postings booked h (stores_first ties facts day (suc place) postings booked)

-- Legs are stored for the first posting with an amount of all: it stands among those before, or it does so where it is so
-- of those that are left, and then there are no legs so far.
abbrev pub FirstOf : TieRule → Facts → ℤ → List Posting → Draft → ℕ → List Posting → Type 0
FirstOf ties facts day all draft place left =
    ((draft.tally.legs ≡ []) × (StoresFirst ties facts day place left → StoresFirst ties facts day 1 all)) ⊎ StoresFirst ties facts day 1 all

-- legs are stored for a posting with an amount
first_stored : (ties : TieRule) (facts : Facts) (day : ℤ) (all : List Posting) (old : Draft) (place : ℕ) (account : List ℕ) (amount : Amount) (left : List Posting)
    → FirstOf ties facts day all old place (record { account = account; amount = Some amount } ∷ left)
    → StoresFor (line_under ties facts day old.tally.legs place account amount) amount.cost → StoresFirst ties facts day 1 all
first_stored ties facts day all old place account amount left (inl first) stored =
    first.1 (subst (λ (legs : List Leg). StoresFor (line_under ties facts day legs place account amount) amount.cost) first.0 stored)
first_stored ties facts day all old place account amount left (inr first) stored = first

-- where booking a posting may lack memory
pub first_lacks : (ties : TieRule) (facts : Facts) (day : ℤ) (all : List Posting) (old : Draft) (place : ℕ) (account : List ℕ) (amount : Option Amount) (left : List Posting)
    → FirstOf ties facts day all old place (record { account = account; amount = amount } ∷ left)
    → NextMayLackMemory ties facts day place account amount old → StoresFirst ties facts day 1 all
first_lacks ties facts day all old place account None left first lacks = absurd lacks
first_lacks ties facts day all old place account (Some amount) left first (inl stored) = first_stored ties facts day all old place account amount left first stored
first_lacks ties facts day all old place account (Some amount) left (inl first) (inr copies) =
    absurd (none_copied old.tally.legs amount.cost copies first.0)
first_lacks ties facts day all old place account (Some amount) left (inr first) (inr copies) = first

-- where what follows may lack memory
no_fill : (facts : Facts) (elided : List (ℕ × List ℕ)) → FillMayLackMemory facts elided [] → ⊥
no_fill facts [] lacks = lacks
no_fill facts (one ∷ more) lacks = lacks.2 refl

end_stores : (ties : TieRule) (facts : Facts) (t : TransactionOf) (draft : Draft) (drafts : DraftsAll ties facts t draft)
    → EndMayLackMemory facts t draft.tally.legs draft.residuals
    → StoresFirst ties facts t.day 1 t.postings ⊎ ((drafts.booked ≡ []) × (has_braces t.postings ≡ false))
    → StoresFirst ties facts t.day 1 t.postings
end_stores ties facts t draft drafts lacks (inl stores) = stores
end_stores ties facts t draft drafts (inl fill) (inr none) =
    let nothing : draft.residuals ≡ [] = drafts.is.residuals ∙ ap (λ (booked : List Booked). residuals (weights_in booked)) none.0 in
    let elided = elided_postings 1 t.postings in
    absurd (no_fill facts elided (subst (FillMayLackMemory facts elided) nothing fill))
end_stores ties facts t draft drafts (inr heads) (inr none) = absurd (true≢false (sym heads.1 ∙ none.1))

pub end_lacks : (ties : TieRule) (facts : Facts) (t : TransactionOf) (draft : Draft) → DraftsAll ties facts t draft
    → EndMayLackMemory facts t draft.tally.legs draft.residuals → StoresFirst ties facts t.day 1 t.postings
end_lacks ties facts t draft drafts lacks =
    end_stores ties facts t draft drafts lacks (stores_first ties facts t.day 1 t.postings drafts.booked drafts.all)

-- ---- one posting after another

-- What is so after some postings: those with amounts are booked as the draft has it, its residuals are within their count,
-- and what the others come to decides what all come to.
pub record Booking (ties : TieRule) (facts : Facts) (day : ℤ) (all : List Posting) (draft : Draft) (count place : ℕ) (left : List Posting) : Type 0 where
  pub booked : List Booked
  pub is : IsDraft facts day draft booked
  pub within : AreWithin count draft.residuals
  pub others : (more : Bookings) → BooksAllUnder ties facts day draft.tally.legs place left more → BooksAllUnder ties facts day [] 1 all (follow_all booked more)
  pub first : FirstOf ties facts day all draft place left

-- a draft with one posting more
pub drafts-more : (ties : TieRule) (facts : Facts) (day : ℤ) (place : ℕ) (account : List ℕ) (amount : Amount) (old new : Draft) (booked : List Booked)
    → IsDraft facts day old booked → (books : Books ties facts day place account amount old new) → IsDraft facts day new (booked ++ books.booked ∷ [])
drafts-more ties facts day place account amount old new booked is books = record {
  legs = books.legs ∙ ap (λ legs. legs ++ books.booked.legs) is.legs ∙ sym (legs_in-push booked books.booked);
  residuals = books.sum (weights_in booked) is.residuals ∙ ap residuals (sym (weights_in-push booked books.booked));
  sales = books.sales ∙ ap (λ sales. sales ++ sales_of day books.booked) is.sales ∙ sym (sales_in-push day booked books.booked);
}

pub booking-more : (ties : TieRule) (facts : Facts) (day : ℤ) (all : List Posting) (old new : Draft) (count place : ℕ) (account : List ℕ) (amount : Option Amount) (left : List Posting)
    → Booking ties facts day all old count place (record { account = account; amount = amount } ∷ left)
    → BooksNext ties facts day place account amount old new
    → Booking ties facts day all new (suc count) (suc place) left
booking-more ties facts day all old new count place account None left so same = record {
  booked = so.booked;
  is = subst (λ (draft : Draft). IsDraft facts day draft so.booked) (sym same) so.is;
  within = subst (λ (draft : Draft). AreWithin (suc count) draft.residuals) (sym same) (AreWithin-more count (suc count) old.residuals (grind arith) so.within);
  others = λ more h. so.others more (subst (λ (draft : Draft). BooksAllUnder ties facts day draft.tally.legs (suc place) left more) same h);
  first = subst (λ (draft : Draft). FirstOf ties facts day all draft (suc place) left) (sym same) so.first;
}
booking-more ties facts day all old new count place account (Some amount) left so books = record {
  booked = so.booked ++ books.booked ∷ [];
  is = drafts-more ties facts day place account amount old new so.booked so.is books;
  within = books.within count so.within;
  others = λ more h.
      let h_old = subst (λ (legs : List Leg). BooksAllUnder ties facts day legs (suc place) left more) books.legs h in
      subst (BooksAllUnder ties facts day [] 1 all) (sym (follow_all-push so.booked books.booked more))
      (so.others (follow books.booked more) (BooksOne books.booked, books.is, (more, h_old, refl)));
  first =
      let line = line_under ties facts day old.tally.legs place account amount in
      inr
      (first_stored ties facts day all old place account amount left so.first
      (stores_legs line amount.cost books.booked.reduces books.booked.legs books.is.legs books.is.range));
}

-- a posting that stops decides
pub booking-stops : (ties : TieRule) (facts : Facts) (day : ℤ) (all : List Posting) (old : Draft) (count place : ℕ) (account : List ℕ) (amount : Option Amount) (left : List Posting) (refusal : Refusal)
    → Booking ties facts day all old count place (record { account = account; amount = amount } ∷ left)
    → StopsNext ties facts day place account amount old (stop.Refused refusal)
    → BooksAllUnder ties facts day [] 1 all (Stopped refusal)
booking-stops ties facts day all old count place account None left refusal so h = absurd h
booking-stops ties facts day all old count place account (Some amount) left refusal so h =
    subst (BooksAllUnder ties facts day [] 1 all) (follow_all-stopped so.booked refusal)
    (so.others (Stopped refusal) (Fails refusal, h, refl))

-- ---- the postings that are left

-- they begin with the one at their place
pub left_with : (all items : List Posting) (index : ℕ) (posting : Posting) → items ≡ all → index < length items → posting ≡ slice_index_or items index posting
    → drop index all ≡ posting ∷ drop (index + 1) all
left_with all items index posting same below is =
    let here : index < length all = subst (λ (ps : List Posting). index < length ps) same below in
    let first : slice_index_or all index posting ≡ posting = sym (is ∙ ap (λ (ps : List Posting). slice_index_or ps index posting) same) in
    drop-cons all index posting here ∙ ap (λ (p : Posting). p ∷ drop (suc index) all) first ∙ ap (λ n. posting ∷ drop n all) (sym (add-one index))

-- there are none at the end
pub no_left : (all items : List Posting) (index : ℕ) → items ≡ all → index ≡ length items → drop index all ≡ []
no_left all items index same is = ap (λ n. drop n all) (is ∙ ap length same) ∙ drop-length all
