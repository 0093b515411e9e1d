-- A row has one kind, or one fault of its kinds.
use Rattle.std.proofs.Common.{◌≡◌, ◌⊎◌, inl, inr, ℕ, ◌+◌, ◌<◌, ◌≤◌, List, Option, Some, None, refl, sym, ap, ◌∙◌, subst, arith}
use Rattle.std.specs.Prelude.{Result, Ok, Err}
use Rattle.std.specs.Result.{IsErr, IsErrAnd}
use Rattle.std.specs.List.{slice_get}
use Rattle.std.proofs.lemmas.Bool.{cases_lt}
use Rattle.lot_profile.specs.declared.file.FileForm.{FileForm}
use Rattle.lot_profile.specs.declared.kind.KindRule.{KindRule}
use Rattle.lot_profile.specs.declared.profile.Profile.{Profile}
use Rattle.lot_profile.specs.declared.table.Table.{Table}
use Rattle.lot_roles.specs.Kinds.{AreFirstTwo, AreNone, IsKindFault, IsOnly}
use Rattle.lot_roles.specs.declared.fault.RowFault.{RowFault}
use Rattle.lot_roles.specs.declared.fault.RowFault.TheVariants as fault
use Rattle.lot_roles.specs.declared.rules.Rules.{Rules}
use Rattle.lot_sheet.specs.Sheet.{SheetRow}
use Rattle.lot_deal_read.specs.Row.{AreRules, HasNoRules}

some-is : {A : Type 0} (a b : A) → Some a ≡ Some b → a ≡ b
some-is a b e = cc

module _ (form : FileForm) (row : SheetRow) (kinds : List KindRule) where
  one-kind : (a b : KindRule) → IsOnly form row kinds a → IsOnly form row kinds b → a ≡ b
  one-kind a b h k =
      let same = k.only h.place (record { kind = a; there = h.there; holds = h.holds }) in
      some-is a b (sym h.there ∙ ap (slice_get kinds) same ∙ k.there)

  -- the fault of a row's kinds is one of two
  abbrev IsOneOf : RowFault → Type 0
  IsOneOf f = ((f ≡ fault.NoKind) × AreNone form row kinds)
      ⊎ ((first : ℕ) × (second : ℕ) × (f ≡ fault.TwoKinds first second) × AreFirstTwo form row kinds first second)

  one-of : (f : RowFault) → IsKindFault form row kinds f → IsOneOf f
  one-of fault.NoKind h = inl (refl, h)
  one-of (fault.TwoKinds first second) h = inr (first, second, refl, h)
  one-of (fault.Missing of) h = absurd h
  one-of (fault.NotNumber of) h = absurd h
  one-of (fault.TooManyDecimals of) h = absurd h
  one-of (fault.TooLarge of) h = absurd h
  one-of (fault.BelowZero of) h = absurd h
  one-of (fault.NotCommodity of) h = absurd h
  one-of (fault.NotDay of) h = absurd h
  one-of fault.NotTime h = absurd h
  one-of (fault.NoAccount of) h = absurd h
  one-of (fault.BadAccount of) h = absurd h
  one-of fault.NotRatio h = absurd h
  one-of fault.RatioTooLarge h = absurd h
  one-of fault.NothingAdded h = absurd h
  one-of fault.Signs h = absurd h
  one-of fault.Disagree h = absurd h
  one-of fault.RateZero h = absurd h
  one-of fault.TaxSign h = absurd h
  one-of fault.BookedAtOdds h = absurd h
  one-of fault.BookedSign h = absurd h
  one-of fault.SameCurrency h = absurd h
  one-of fault.CostDayLater h = absurd h
  one-of fault.PriceApart h = absurd h
  one-of fault.PriceSign h = absurd h
  one-of fault.CancelledSale h = absurd h
  one-of fault.Memory h = absurd h

  -- a row of one kind has no fault of its kinds
  no-fault : (a : KindRule) (f : RowFault) → IsOnly form row kinds a → IsKindFault form row kinds f → ⊥
  no-fault a f h k = by (one-of f k)
    where
      by : IsOneOf f → ⊥
      by (inl (e, none)) = none h.place (record { kind = a; there = h.there; holds = h.holds })
      by (inr (first, second, e, two)) =
          let less = two.order in
          omega (arith, less, h.only two.one two.one_holds, h.only two.two two.two_holds)

  same-two : (a b c d : ℕ) → AreFirstTwo form row kinds a b → AreFirstTwo form row kinds c d → (a ≡ c) × (b ≡ d)
  same-two a b c d h k = by (cases_lt h.two k.two) (cases_lt k.two h.two)
    where
      places : h.two ≡ k.two → (a ≡ c) × (b ≡ d)
      places same =
          let first : h.one ≡ k.one = k.none_before h.one (let less = h.order in omega (arith, less, same)) h.one_holds in
          (h.first_is ∙ ap (λ (n : ℕ). n + 1) first ∙ sym k.first_is, h.second_is ∙ ap (λ (n : ℕ). n + 1) same ∙ sym k.second_is)

      by : (h.two < k.two) ⊎ (k.two ≤ h.two) → (k.two < h.two) ⊎ (h.two ≤ k.two) → (a ≡ c) × (b ≡ d)
      by (inl less) more =
          let order = h.order in
          absurd (omega (arith, order, k.none_before h.two less h.two_holds, k.none_before h.one (omega (arith, order, less)) h.one_holds))
      by (inr least) (inl less) =
          let order = k.order in
          absurd (omega (arith, order, h.none_before k.two less k.two_holds, h.none_before k.one (omega (arith, order, less)) k.one_holds))
      by (inr least) (inr most) = places (omega (arith, least, most))

  one-fault : (f g : RowFault) → IsKindFault form row kinds f → IsKindFault form row kinds g → f ≡ g
  one-fault f g h k = by (one-of f h) (one-of g k)
    where
      by : IsOneOf f → IsOneOf g → f ≡ g
      by (inl (e, none)) (inl (d, other)) = e ∙ sym d
      by (inl (e, none)) (inr (first, second, d, two)) = absurd (none two.one two.one_holds)
      by (inr (first, second, d, two)) (inl (e, none)) = absurd (none two.one two.one_holds)
      by (inr (first, second, d, two)) (inr (other, more, e, some)) =
          let same = same-two first second other more two some in
          d ∙ ap (λ (n : ℕ). fault.TwoKinds n second) same.0 ∙ ap (λ (n : ℕ). fault.TwoKinds other n) same.1 ∙ sym e

-- ---- The same of a row of a profile.

pub err-is : {T : Type 0} (r : Result T RowFault) (f : RowFault) → IsErr r × IsErrAnd r (λ e. e ≡ f) → r ≡ Err f
err-is {T = T} (Ok x) f h = let never = h.0 in cc never
err-is {T = T} (Err e) f h = let same : e ≡ f = h.1 in ap (λ (g : RowFault). let r : Result T RowFault = Err g in r) same

pub one-no-rules : (profile : Profile) (row : SheetRow) (table : Option Table) (f g : RowFault)
    → HasNoRules profile row f table → HasNoRules profile row g table → f ≡ g
one-no-rules profile row None f g h k = h ∙ sym k
one-no-rules profile row (Some table) f g h k = one-fault profile.file row table.kinds f g h k

pub rules-or-fault : (profile : Profile) (row : SheetRow) (table : Option Table) (rules : Rules) (f : RowFault)
    → table ≡ slice_get profile.tables row.table → AreRules profile row rules → HasNoRules profile row f table → ⊥
rules-or-fault profile row None rules f is are h = let never = is ∙ are.is_table in cc never
rules-or-fault profile row (Some table) rules f is are h =
    let same : table ≡ rules.table.now = some-is table rules.table.now (is ∙ are.is_table) in
    no-fault profile.file row rules.table.now.kinds rules.kind.now f are.is_kind (subst (λ (t : Table). IsKindFault profile.file row t.kinds f) same h)

pub one-rule : (profile : Profile) (row : SheetRow) (a b : Rules) → AreRules profile row a → AreRules profile row b → a.kind.now ≡ b.kind.now
one-rule profile row a b h k =
    let same : a.table.now ≡ b.table.now = some-is a.table.now b.table.now (sym h.is_table ∙ k.is_table) in
    one-kind profile.file row b.table.now.kinds a.kind.now b.kind.now
    (subst (λ (t : Table). IsOnly profile.file row t.kinds a.kind.now) same h.is_kind) k.is_kind
