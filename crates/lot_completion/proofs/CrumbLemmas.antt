-- The postings that make up for a crumb weigh as much as it.
use Rattle.std.proofs.Common.{◌≡◌, ℕ, Bool, true, false, cond, List, [], ◌∷◌, ◌++◌, ℤ, pos, negsuc, ◌+ℤ◌, ◌*ℤ◌, refl, ap, ◌∙◌, arith}
use Rattle.std.specs.Prelude.{None, Some, int_lt, nat_eq, neg_ℤ}
use Rattle.std.proofs.Math.IntN.{*ℤ-zero}
use Rattle.lot_command.specs.declared.price.Price.TheVariants.{Each}
use Rattle.std.specs.Ordering.{int_eq}
use Rattle.std.proofs.lemmas.Bool.Decides.{nat_tests}
use Rattle.std.proofs.lemmas.Int.{ints}
use Rattle.lot_num.specs.Amount.{one}
use Rattle.lot_completion.specs.Crumbs.{MakeUp, crumb_postings, part_posting, posting_in, rest_of, speck_of, whole_of}

pub no_sign : (n : ℕ) → speck_of (pos n) ≡ pos 1
no_sign n = let not_below : int_lt (pos n) (pos 0) ≡ false = grind (arith, ints) in ap (λ b. cond b (neg_ℤ (pos 1)) (pos 1)) not_below

-- whole units and the rest come to the crumb
parts : (crumb : ℤ) → whole_of crumb *ℤ pos one +ℤ speck_of crumb *ℤ pos (rest_of crumb) ≡ crumb
parts (pos n) = rw (no_sign n) (omega (arith, ints))
parts (negsuc n) = omega (arith, ints)

none_whole : (z : ℤ) → int_eq z (pos 0) ≡ true → z *ℤ pos one ≡ pos 0
none_whole z is = let zero : z ≡ pos 0 = grind (arith, ints) in ap (λ y. y *ℤ pos one) zero

none_rest : (z : ℤ) (r : ℕ) → nat_eq r 0 ≡ true → z *ℤ pos r ≡ pos 0
none_rest z r is = let nothing : r ≡ 0 = grind (arith, nat_tests) in ap (λ y. z *ℤ pos y) nothing ∙ *ℤ-zero z

-- the two postings, of which either is left out where it would be zero
pub made : (account currency : List ℕ) (whole speck : ℤ) (rest : ℕ) (crumb : ℤ) → whole *ℤ pos one +ℤ speck *ℤ pos rest ≡ crumb
    → MakeUp (currency, crumb) (part_posting account currency whole None ++ part_posting account currency speck (Some rest))
made account currency whole speck rest crumb sum = by (int_eq whole (pos 0)) (nat_eq rest 0) refl refl
  where
    by : (no_whole no_rest : Bool) → int_eq whole (pos 0) ≡ no_whole → nat_eq rest 0 ≡ no_rest
        → MakeUp (currency, crumb)
        (cond no_whole [] (posting_in account currency whole None ∷ [])
        ++ cond no_rest [] (posting_in account currency speck (Some (Each (record { rate = rest; currency = currency }))) ∷ []))
    by true true e f = record { currency = tt; weight = omega (arith, ints, sum, none_whole whole e, none_rest speck rest f) }
    by true false e f = record { currency = (refl, tt); weight = omega (arith, ints, sum, none_whole whole e) }
    by false true e f = record { currency = (refl, tt); weight = omega (arith, ints, sum, none_rest speck rest f) }
    by false false e f = record { currency = (refl, (refl, tt)); weight = omega (arith, ints, sum) }

pub made_up : (account currency : List ℕ) (crumb : ℤ) → MakeUp (currency, crumb) (crumb_postings account (currency, crumb))
made_up account currency crumb =
    made account currency (whole_of crumb) (speck_of crumb) (rest_of crumb) crumb (parts crumb)
