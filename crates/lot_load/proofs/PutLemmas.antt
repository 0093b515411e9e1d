-- What is put into a view, where the book says so.
use Rattle.std.specs.Prelude.{◌≡◌, ◌≢◌, ℕ, Bool, true, false, not, cond, ◌||◌, ◌&&◌, List, Option, None, Some, IfSome, ℤ, pos, ◌+ℤ◌}
use Rattle.std.specs.FinMap as finite
use Rattle.std.specs.Cmp.{Equal-is}
use Rattle.std.specs.Option.{unwrap_or}
use Rattle.std.specs.Ordering.{eq_by_cmp, int_eq}
use Rattle.std.proofs.Common.{refl, sym, ap, subst, ◌∙◌, inl, inr}
use Rattle.std.proofs.Math.IntN.{+ℤ_idl}
use Rattle.std.proofs.lemmas.Bool.{and_parts, true≢false}
use Rattle.std.proofs.lemmas.Bool.Decides.{Decides-int_eq}
use Rattle.lot_base.specs.Text.{same_text}
use Rattle.lot_base.proofs.TextLemmas.{one_text, same_text-itself}
use Rattle.lot_inv.specs.Inventory.{Held, Position as Place, added, non_zero, position_cmp as place_cmp, units_at, with_units}
use Rattle.lot_cost.specs.declared.lot_key.LotKey.{LotKey}
use Rattle.lot_inv.proofs.LotLemmas.{get-with_units, get-with_units_here}
use Rattle.lot_inv.proofs.OrderLemmas.{exact_positions}
use Rattle.lot_book.specs.declared.leg.Leg.{Leg}
use Rattle.lot_book.specs.declared.leg.Position.{Position}
use Rattle.lot_book.specs.Facts.{Facts}
use Rattle.lot_book.specs.Leg.{same_position}
use Rattle.lot_book.specs.Openings.{FactsWithOpenings, HaveSameOpenings, Openings, with_opening}
use Rattle.lot_book.specs.Recorded.{with_declared, with_head, with_position, with_standing}
use Rattle.lot_book.specs.declared.standing.Standing.{Standing}
use Rattle.lot_book.proofs.CaseLemmas.{by_bool}
use Rattle.lot_book.proofs.LegLemmas.{with_leg-at}
use Rattle.lot_book.proofs.OrderLemmas.{one_position, same_position-turned}
use Rattle.lot_laws.specs.Laws.{lot_at}
use Rattle.lot_laws.proofs.OpeningLemmas.{is_zero}
use Rattle.lot_load.specs.Known.{Fills, IsKept, IsPart, KnowsAt, KnowsDeclared, KnowsHead, KnowsOpenings, KnowsStanding, Learns}
use Rattle.lot_load.proofs.LearnLemmas.{fills_none}

kept_if : {X : Type 0} (b : Bool) (book before new : X) → (b ≡ true → new ≡ book) → IsKept book before (cond b new before)
kept_if true book before new is = inr (is refl)
kept_if false book before new is = inl refl

-- ---- nothing is put where the book has nothing

-- what is nothing or as the book says is as the book says, where that is nothing
nothing_known : {X : Type 0} (nothing book known : X) → IsKept book nothing known → book ≡ nothing → known ≡ book
nothing_known nothing book known (inl none) is = none ∙ sym is
nothing_known nothing book known (inr same) is = same

nothing_put : (Knows : Facts → Facts → Type 0) (book known : FactsWithOpenings) → (IsPart book.facts known.facts → Knows book.facts known.facts)
    → Learns Knows book known known
nothing_put Knows book known law =
    record { entries = refl; text = refl; fills = fills_none book.facts known.facts; openings = λ had. had; knows = law }

pub no_standing : (account : List ℕ) (book known : FactsWithOpenings) → book.facts.standing account ≡ None → Learns (KnowsStanding account) book known known
no_standing account book known none = nothing_put (KnowsStanding account) book known (λ part. nothing_known _ _ _ (part.standing account) none)

pub not_declared : (commodity : List ℕ) (book known : FactsWithOpenings) → book.facts.is_declared commodity ≡ false → Learns (KnowsDeclared commodity) book known known
not_declared commodity book known none = nothing_put (KnowsDeclared commodity) book known (λ part. nothing_known _ _ _ (part.is_declared commodity) none)

pub no_head : (account commodity : List ℕ) (book known : FactsWithOpenings) → book.facts.latest_at_cost account commodity ≡ None
    → Learns (KnowsHead account commodity) book known known
no_head account commodity book known none =
    nothing_put (KnowsHead account commodity) book known (λ part. nothing_known _ _ _ (part.latest_at_cost account commodity) none)

-- where the book holds nothing, nothing is known to be held
pub nothing_held : (account : List ℕ) (position : Place) (book known : Facts) → IsPart book known
    → finite.get (book.held account) position ≡ None → KnowsAt account position book known
nothing_held account position book known part none =
    nothing_known None (finite.get (book.held account) position) (finite.get (known.held account) position)
    (subst (λ (o : Option ℤ). IsKept (finite.get (book.held account) position) o (finite.get (known.held account) position))
    (finite.get-empty place_cmp position) (part.held account position)) none

pub no_units : (account : List ℕ) (position : Place) (book known : FactsWithOpenings) → finite.get (book.facts.held account) position ≡ None
    → Learns (KnowsAt account position) book known known
no_units account position book known none =
    nothing_put (KnowsAt account position) book known (λ part. nothing_held account position book.facts known.facts part none)

-- ---- what the book says is put

-- facts are put, and the opening numbers stay
pub both_put : (after : FactsWithOpenings) (numbers : Openings) (facts : Facts) → after.facts ≡ facts → after.opening ≡ numbers
    → after ≡ record { facts = facts; opening = numbers }
both_put after numbers facts put same = λ i. record { facts = put i; opening = same i }

pub put_standing : (account : List ℕ) (standing : Standing) (book before after : FactsWithOpenings) → after.facts ≡ with_standing account standing before.facts
    → after.opening ≡ before.opening → book.facts.standing account ≡ Some standing → Learns (KnowsStanding account) book before after
put_standing account standing book before after put same is =
    subst (Learns (KnowsStanding account) book before) (sym (both_put after before.opening (with_standing account standing before.facts) put same)) (record {
      entries = refl;
      text = refl;
      openings = λ had. had;
      fills = record {
        is_declared = λ commodity. inl refl;
        latest_at_cost = λ account commodity. inl refl;
        held = λ account position. inl refl;
        standing = λ other.
            kept_if (same_text other account) (book.facts.standing other) (before.facts.standing other) (Some standing)
            (λ e. sym is ∙ ap book.facts.standing (sym (one_text other account e)));
      };
      knows = λ part. ap (λ b. cond b (Some standing) (before.facts.standing account)) (same_text-itself account) ∙ sym is;
    })

or_as : (b c : Bool) → (b || c) ≡ cond b true c
or_as true c = refl
or_as false c = refl

pub put_declared : (commodity : List ℕ) (book before after : FactsWithOpenings) → after.facts ≡ with_declared commodity before.facts
    → after.opening ≡ before.opening → book.facts.is_declared commodity ≡ true → Learns (KnowsDeclared commodity) book before after
put_declared commodity book before after put same is =
    subst (Learns (KnowsDeclared commodity) book before) (sym (both_put after before.opening (with_declared commodity before.facts) put same)) (record {
      entries = refl;
      text = refl;
      openings = λ had. had;
      fills = record {
        standing = λ account. inl refl;
        latest_at_cost = λ account commodity. inl refl;
        held = λ account position. inl refl;
        is_declared = λ other.
            subst (IsKept (book.facts.is_declared other) (before.facts.is_declared other)) (sym (or_as (same_text other commodity) (before.facts.is_declared other)))
            (kept_if (same_text other commodity) (book.facts.is_declared other) (before.facts.is_declared other) true
            (λ e. sym is ∙ ap book.facts.is_declared (sym (one_text other commodity e))));
      };
      knows = λ part. ap (λ b. b || before.facts.is_declared commodity) (same_text-itself commodity) ∙ sym is;
    })

pub put_head : (account commodity : List ℕ) (day : ℤ) (book before after : FactsWithOpenings) → after.facts ≡ with_head account commodity day before.facts
    → after.opening ≡ before.opening → book.facts.latest_at_cost account commodity ≡ Some day → Learns (KnowsHead account commodity) book before after
put_head account commodity day book before after put same is =
    subst (Learns (KnowsHead account commodity) book before) (sym (both_put after before.opening (with_head account commodity day before.facts) put same)) (record {
      entries = refl;
      text = refl;
      openings = λ had. had;
      fills = record {
        standing = λ account. inl refl;
        is_declared = λ commodity. inl refl;
        held = λ account position. inl refl;
        latest_at_cost = λ other what.
            kept_if (same_text other account && same_text what commodity) (book.facts.latest_at_cost other what) (before.facts.latest_at_cost other what) (Some day)
            (λ e.
            let parts = and_parts (same_text other account) (same_text what commodity) e in
            sym is ∙ ap (λ a. book.facts.latest_at_cost a commodity) (sym (one_text other account parts.0))
            ∙ ap (λ c. book.facts.latest_at_cost other c) (sym (one_text what commodity parts.1)));
      };
      knows = λ part.
          ap (λ b. cond (b && same_text commodity commodity) (Some day) (before.facts.latest_at_cost account commodity)) (same_text-itself account)
          ∙ ap (λ b. cond b (Some day) (before.facts.latest_at_cost account commodity)) (same_text-itself commodity) ∙ sym is;
    })

-- ---- units

non_zero_is : (units : ℤ) → units ≢ pos 0 → non_zero units ≡ Some units
non_zero_is units some =
    by_bool (int_eq units (pos 0)) (λ e. absurd (some ((Decides-int_eq units (pos 0)).0 e))) (λ e. ap (λ b. cond b None (Some units)) e)

-- where a position holds nothing, what is added is what it holds
added_first : (held : Held) (position : Place) (units : ℤ) → units_at held position ≡ pos 0 → units ≢ pos 0
    → added held position units ≡ with_units held position units
added_first held position units none some = ap (λ z. with_units held position (z +ℤ units)) none ∙ ap (with_units held position) (+ℤ_idl units)

-- what a position holds before and after further units
module _ (account : List ℕ) (commodity : List ℕ) (lot : Option LotKey) (units : ℤ) (book before : Facts) (some : units ≢ pos 0)
    (none : units_at (before.held account) (commodity, lot) ≡ pos 0)
    (is : finite.get (book.held account) (commodity, lot) ≡ Some units) where
  abbrev place : Place
  place = (commodity, lot)

  here : finite.get (added (before.held account) place units) place ≡ Some units
  here =
      ap (λ held. finite.get held place) (added_first (before.held account) place units none some)
      ∙ get-with_units_here (before.held account) place units ∙ non_zero_is units some

  filled : (other : List ℕ) (at : Place) (b : Bool) → same_text other account ≡ b
      → IsKept (finite.get (book.held other) at) (finite.get (before.held other) at)
      (finite.get (cond b (added (before.held other) place units) (before.held other)) at)
  filled other at false e = inl refl
  filled other at true e =
      let account_is : other ≡ account = one_text other account e in
      let empty : units_at (before.held other) place ≡ pos 0 = ap (λ a. units_at (before.held a) place) account_is ∙ none in
      subst (IsKept (finite.get (book.held other) at) (finite.get (before.held other) at))
      (sym (ap (λ held. finite.get held at) (added_first (before.held other) place units empty some)
      ∙ get-with_units (before.held other) place units at))
      (kept_if (eq_by_cmp place_cmp at place) (finite.get (book.held other) at) (finite.get (before.held other) at) (non_zero units)
      (λ same.
      let place_is : at ≡ place = exact_positions at place ((Equal-is (place_cmp at place)).0 same) in
      non_zero_is units some ∙ sym is ∙ ap (λ a. finite.get (book.held a) place) (sym account_is)
      ∙ ap (λ p. finite.get (book.held other) p) (sym place_is)))

  units_fill : Fills book before (with_position account commodity lot units before)
  units_fill = record {
    standing = λ account. inl refl;
    is_declared = λ commodity. inl refl;
    latest_at_cost = λ account commodity. inl refl;
    held = λ other at. filled other at (same_text other account) refl;
  }

  units_known : KnowsAt account place book (with_position account commodity lot units before)
  units_known =
      ap (λ b. finite.get (cond b (added (before.held account) place units) (before.held account)) place) (same_text-itself account)
      ∙ here ∙ sym is

-- a lot that holds nothing is opened under that number
abbrev pub IsOpenedUnder : Position → ℕ → FactsWithOpenings → FactsWithOpenings → Type 0
IsOpenedUnder position number before after = (other what : List ℕ)
    → HaveSameOpenings what (after.facts.held other) (with_opening before position number other what) (after.opening other what)

-- that number is the book's
abbrev pub IsNumberOf : FactsWithOpenings → ℕ → Position → Type 0
IsNumberOf book number position =
    IfSome position.lot (λ (key : LotKey). book.opening position.account position.commodity key ≡ number)

module _ (position : Position) (units : ℤ) (number : ℕ) (book before after : FactsWithOpenings)
    (put : after.facts ≡ with_position position.account position.commodity position.lot units before.facts) where
  -- a lot that isn't opened so held what it holds now
  held_before : (other what : List ℕ) (key : LotKey)
      → (same_position (lot_at other what key) position && int_eq (units_at (before.facts.held other) (what, Some key)) (pos 0)) ≡ false
      → units_at (after.facts.held other) (what, Some key) ≢ pos 0 → units_at (before.facts.held other) (what, Some key) ≢ pos 0
  held_before other what key apart some zero =
      let at = lot_at other what key in
      let had = units_at (before.facts.held other) (what, Some key) in
      let leg : Leg = record { entry = 0; posting = 0; place = 0; position = position; units = units } in
      let elsewhere : same_position at position ≡ false = by_bool (same_position at position)
      (λ here. let both : (same_position at position && int_eq had (pos 0)) ≡ true =
      ap (λ b. b && int_eq had (pos 0)) here ∙ is_zero had zero in cc)
      (λ e. e) in
      some (ap (λ (f : Facts). units_at (f.held other) (what, Some key)) put
      ∙ with_leg-at (before.facts.held other) leg at
      ∙ ap (λ b. cond b (had +ℤ units) had) (same_position-turned position at ∙ elsewhere)
      ∙ zero)

  numbers_put : IsOpenedUnder position number before after → IsNumberOf book number position
      → KnowsOpenings book before → KnowsOpenings book after
  numbers_put opened numbered had other what key some =
      let at = lot_at other what key in
      let empty = int_eq (units_at (before.facts.held other) (what, Some key)) (pos 0) in
      sym (opened other what key some)
      ∙ by_bool (same_position at position && empty)
      (λ opens.
      let is : at ≡ position = one_position at position (and_parts (same_position at position) empty opens).0 in
      let said : book.opening other what key ≡ number = subst (IsNumberOf book number) (sym is) numbered in
      ap (λ b. cond b number (before.opening other what key)) opens ∙ sym said)
      (λ apart.
      ap (λ b. cond b number (before.opening other what key)) apart
      ∙ had other what key (held_before other what key apart some))

  pub put_units : IsOpenedUnder position number before after → units ≢ pos 0
      → units_at (before.facts.held position.account) (position.commodity, position.lot) ≡ pos 0
      → finite.get (book.facts.held position.account) (position.commodity, position.lot) ≡ Some units
      → IsNumberOf book number position
      → Learns (KnowsAt position.account (position.commodity, position.lot)) book before after
  put_units opened some none is numbered =
      let account = position.account in
      let commodity = position.commodity in
      let lot = position.lot in record {
        entries = ap (λ (f : Facts). f.entries) put;
        text = ap (λ (f : Facts). f.text) put;
        fills = subst (Fills book.facts before.facts) (sym put)
            (units_fill account commodity lot units book.facts before.facts some none is);
        openings = numbers_put opened numbered;
        knows = λ part.
            subst (KnowsAt account (commodity, lot) book.facts) (sym put)
            (units_known account commodity lot units book.facts before.facts some none is);
      }

-- units that are held already are the book's
pub units_there : (account : List ℕ) (position : Place) (book known : FactsWithOpenings)
    → units_at (known.facts.held account) position ≢ pos 0 → Learns (KnowsAt account position) book known known
units_there account position book known some =
    nothing_put (KnowsAt account position) book known (λ part. by (part.held account position))
  where
    nothing : Held
    nothing = finite.empty

    by : IsKept (finite.get (book.facts.held account) position) (finite.get nothing position) (finite.get (known.facts.held account) position)
        → KnowsAt account position book.facts known.facts
    by (inl none) = absurd (some (ap (λ (o : Option ℤ). unwrap_or o (pos 0)) (none ∙ finite.get-empty place_cmp position)))
    by (inr same) = same

-- ---- the test of units

pub not_true : (b : Bool) → not b ≡ true → b ≡ false
not_true true e = absurd (true≢false (sym e))
not_true false e = refl

pub not_false : (b : Bool) → not b ≡ false → b ≡ true
not_false true e = refl
not_false false e = absurd (true≢false e)

pub test_other : (z units : ℤ) → z ≡ units → not (int_eq z (pos 0)) ≡ true → units ≢ pos 0
test_other z units is other zero = true≢false (sym ((Decides-int_eq z (pos 0)).1 (is ∙ zero)) ∙ not_true (int_eq z (pos 0)) other)

pub test_equal : (z units : ℤ) → z ≡ units → not (int_eq z (pos 0)) ≡ false → units ≡ pos 0
test_equal z units is equal = sym is ∙ (Decides-int_eq z (pos 0)).0 (not_false (int_eq z (pos 0)) equal)
