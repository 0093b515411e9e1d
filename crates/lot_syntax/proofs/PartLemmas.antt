-- The parts of a cost are taken as they are written.
use Rattle.std.proofs.Common.{◌≡◌, ℕ, ◌+◌, Bool, true, false, cond, not, List, [], ◌∷◌, ◌++◌, length, Option, Some, None, refl, ap, ◌∙◌, sym, subst, arith, append_assoc}
use Rattle.std.specs.Prelude.{◌||◌}
use Rattle.std.specs.List.{list_any}
use Rattle.std.proofs.Math.Bool.{or-false}
use Rattle.std.proofs.lemmas.Bool.{and_parts, and_from, or_parts, or_from, not-true, not_from_false}
use Rattle.std.proofs.lemmas.List.{append-nil}
use Rattle.std.proofs.lemmas.Option.{cond_some, none-some, same_Some}
use Rattle.lot_syntax.specs.declared.token.Mark.{Mark}
use Rattle.lot_syntax.specs.declared.token.Mark.TheVariants as Marks
use Rattle.lot_syntax.specs.Token.{Lexeme, word, number, date, text, mark}
use Rattle.lot_syntax.specs.Form.{CostPart, money, amount, currency, day, label, part_tokens, parts_tokens, is_money, is_day, is_label, how_many, AtMostOneEach}
use Rattle.lot_syntax.specs.Shape.{◌>>=◌, is_empty, as_word, as_number, after_comma, number_part, part_at, first_by, second_by, third_by, parts_at, clash, are_distinct, distinct_at}

-- ---- Steps.

-- a number of a list, with what is behind it
abbrev pub Found : Type 0 → Type 0
Found X = Option (X × List Lexeme)

pub bound : {A B : Type 0} (f : A → Option B) (o : Option A) (y : B) → (o >>= f) ≡ Some y → (x : A) × (o ≡ Some x) × (f x ≡ Some y)
bound f None y e = absurd (none-some y e)
bound f (Some x) y e = (x, refl, e)

pub then_is : {A B : Type 0} (f : A → Option B) (o : Option A) (x : A) → o ≡ Some x → (o >>= f) ≡ f x
then_is f o x e = rw e refl

pub nothing : (rest : List Lexeme) → is_empty rest ≡ true → rest ≡ []
nothing [] e = refl
nothing (token ∷ rest) e = cc

pub word_is : (tokens : List Lexeme) (found : List ℕ × List Lexeme) → as_word tokens ≡ Some found → tokens ≡ word found.0 ∷ found.1
word_is [] found e = cc
word_is (word w ∷ rest) found e = ap (λ (x : List ℕ × List Lexeme). word x.0 ∷ x.1) (same_Some (w, rest) found e)
word_is (number n ∷ rest) found e = cc
word_is (date d ∷ rest) found e = cc
word_is (text t ∷ rest) found e = cc
word_is (mark m ∷ rest) found e = cc

pub number_is : (tokens : List Lexeme) (found : List ℕ × List Lexeme) → as_number tokens ≡ Some found → tokens ≡ number found.0 ∷ found.1
number_is [] found e = cc
number_is (word w ∷ rest) found e = cc
number_is (number n ∷ rest) found e = ap (λ (x : List ℕ × List Lexeme). number x.0 ∷ x.1) (same_Some (n, rest) found e)
number_is (date d ∷ rest) found e = cc
number_is (text t ∷ rest) found e = cc
number_is (mark m ∷ rest) found e = cc

pub comma_is : (tokens rest : List Lexeme) → after_comma tokens ≡ Some rest → tokens ≡ mark Marks.Comma ∷ rest
comma_is [] rest e = cc
comma_is (word w ∷ more) rest e = cc
comma_is (number n ∷ more) rest e = cc
comma_is (date d ∷ more) rest e = cc
comma_is (text t ∷ more) rest e = cc
comma_is (mark Marks.Comma ∷ more) rest e = ap (λ x. mark Marks.Comma ∷ x) (same_Some more rest e)
comma_is (mark Marks.Star ∷ more) rest e = cc
comma_is (mark Marks.Exclamation ∷ more) rest e = cc
comma_is (mark Marks.At ∷ more) rest e = cc
comma_is (mark Marks.AtAt ∷ more) rest e = cc
comma_is (mark Marks.Open ∷ more) rest e = cc
comma_is (mark Marks.OpenOpen ∷ more) rest e = cc
comma_is (mark Marks.Close ∷ more) rest e = cc
comma_is (mark Marks.CloseClose ∷ more) rest e = cc

-- ---- One part.

part_number : (n : List ℕ) (rest : List Lexeme) (o : Found (List ℕ)) → as_word rest ≡ o
    → number n ∷ rest ≡ part_tokens (number_part n rest o).0 ++ (number_part n rest o).1
part_number n rest None e = refl
part_number n rest (Some found) e = ap (λ x. number n ∷ x) (word_is rest found e)

part_is : (tokens : List Lexeme) (found : CostPart × List Lexeme) → part_at tokens ≡ Some found → tokens ≡ part_tokens found.0 ++ found.1
unfolding part_at
part_is [] found e = cc
part_is (word c ∷ rest) found e = ap (λ (x : CostPart × List Lexeme). part_tokens x.0 ++ x.1) (same_Some (currency c, rest) found e)
part_is (number n ∷ rest) found e =
    part_number n rest (as_word rest) refl
    ∙ ap (λ (x : CostPart × List Lexeme). part_tokens x.0 ++ x.1) (same_Some (number_part n rest (as_word rest)) found e)
part_is (date d ∷ rest) found e = ap (λ (x : CostPart × List Lexeme). part_tokens x.0 ++ x.1) (same_Some (day d, rest) found e)
part_is (text t ∷ rest) found e = ap (λ (x : CostPart × List Lexeme). part_tokens x.0 ++ x.1) (same_Some (label t, rest) found e)
part_is (mark m ∷ rest) found e = cc

-- a part before a mark is found
part_found : (part : CostPart) (m : Mark) (rest : List Lexeme) → part_at (part_tokens part ++ mark m ∷ rest) ≡ Some (part, mark m ∷ rest)
unfolding part_at
part_found (money n c) m rest = refl
part_found (amount n) m rest = refl
part_found (currency c) m rest = refl
part_found (day d) m rest = refl
part_found (label l) m rest = refl

-- ---- Up to three parts.

three_flat : (k : Lexeme) (a b c x : List Lexeme) → (a ++ ((k ∷ b) ++ ((k ∷ c) ++ []))) ++ x ≡ a ++ (k ∷ (b ++ (k ∷ (c ++ x))))
three_flat k a b c x =
    append_assoc a ((k ∷ b) ++ ((k ∷ c) ++ [])) x
    ∙ ap (λ y. a ++ (k ∷ y)) (append_assoc b (k ∷ (c ++ [])) x ∙ ap (λ y. b ++ (k ∷ y)) (append_assoc c [] x))

third_is : (first second : CostPart) (tokens : List Lexeme) (found : List CostPart × List Lexeme) (o : Option (List Lexeme))
    → after_comma tokens ≡ o → third_by first second tokens o ≡ Some found
    → part_tokens first ++ mark Marks.Comma ∷ (part_tokens second ++ tokens) ≡ parts_tokens found.0 ++ found.1
third_is first second tokens found None c e =
    subst (λ (x : List CostPart × List Lexeme). part_tokens first ++ mark Marks.Comma ∷ (part_tokens second ++ tokens) ≡ parts_tokens x.0 ++ x.1)
    (same_Some (first ∷ second ∷ [], tokens) found e) (simp (append_assoc, append-nil))
third_is first second tokens found (Some rest) c e =
    let t = bound (λ third. Some (first ∷ second ∷ third.0 ∷ [], third.1)) (part_at rest) found e in
    let whole : tokens ≡ mark Marks.Comma ∷ (part_tokens t.0.0 ++ t.0.1) = comma_is tokens rest c ∙ ap (λ x. mark Marks.Comma ∷ x) (part_is rest t.0 t.1) in
    subst (λ (x : List CostPart × List Lexeme). part_tokens first ++ mark Marks.Comma ∷ (part_tokens second ++ tokens) ≡ parts_tokens x.0 ++ x.1)
    (same_Some _ found t.2) (ap (λ x. part_tokens first ++ mark Marks.Comma ∷ (part_tokens second ++ x)) whole
    ∙ sym (three_flat (mark Marks.Comma) (part_tokens first) (part_tokens second) (part_tokens t.0.0) t.0.1))

second_is : (first : CostPart) (tokens : List Lexeme) (found : List CostPart × List Lexeme) (o : Option (List Lexeme))
    → after_comma tokens ≡ o → second_by first tokens o ≡ Some found → part_tokens first ++ tokens ≡ parts_tokens found.0 ++ found.1
second_is first tokens found None c e =
    subst (λ (x : List CostPart × List Lexeme). part_tokens first ++ tokens ≡ parts_tokens x.0 ++ x.1)
    (same_Some (first ∷ [], tokens) found e) (simp (append_assoc, append-nil))
second_is first tokens found (Some rest) c e =
    let t = bound (λ second. third_by first second.0 second.1 (after_comma second.1)) (part_at rest) found e in
    ap (λ x. part_tokens first ++ x) (comma_is tokens rest c ∙ ap (λ x. mark Marks.Comma ∷ x) (part_is rest t.0 t.1))
    ∙ third_is first t.0.0 t.0.1 found (after_comma t.0.1) refl t.2

first_is : (tokens : List Lexeme) (found : List CostPart × List Lexeme) (o : Found CostPart) → part_at tokens ≡ o
    → first_by tokens o ≡ Some found → tokens ≡ parts_tokens found.0 ++ found.1
first_is tokens found None p e =
    ap (λ (x : List CostPart × List Lexeme). parts_tokens x.0 ++ x.1) (same_Some ([], tokens) found e)
first_is tokens found (Some first) p e =
    part_is tokens first p ∙ second_is first.0 first.1 found (after_comma first.1) refl e

parts_are : (tokens : List Lexeme) (found : List CostPart × List Lexeme) → parts_at tokens ≡ Some found → tokens ≡ parts_tokens found.0 ++ found.1
unfolding parts_at
parts_are tokens found e = first_is tokens found (part_at tokens) refl e

-- ---- At most one of each.

count_none : (p : CostPart → Bool) (parts : List CostPart) → list_any p parts ≡ false → how_many p parts ≡ 0
count_none p [] e = refl
count_none p (x ∷ parts) e =
    let both = or_parts (p x) (list_any p parts) e in
    rw both.0 (count_none p parts both.1)

or_false : (x : Bool) → (x || (false || false)) ≡ x
or_false true = refl
or_false false = refl

clash_is_money : (p q : CostPart) → is_money p ≡ true → is_day p ≡ false → is_label p ≡ false → clash p q ≡ is_money q
clash_is_money p q m d l = rw (m, d, l) (or_false (is_money q))

clash_is_day : (p q : CostPart) → is_money p ≡ false → is_day p ≡ true → is_label p ≡ false → clash p q ≡ is_day q
clash_is_day p q m d l = rw (m, d, l) (or-false (is_day q))

clash_is_label : (p q : CostPart) → is_money p ≡ false → is_day p ≡ false → is_label p ≡ true → clash p q ≡ is_label q
clash_is_label p q m d l = rw (m, d, l) refl

-- no part clashes with that one exactly where none is of its kind
none_of_kind : (p : CostPart) (kind : CostPart → Bool) → ((q : CostPart) → clash p q ≡ kind q) → (parts : List CostPart)
    → list_any (clash p) parts ≡ list_any kind parts
none_of_kind p kind same [] = refl
none_of_kind p kind same (q ∷ parts) = rw (same q, none_of_kind p kind same parts) refl

count_by_cond : (p : CostPart → Bool) (x : CostPart) (parts : List CostPart) (b : Bool) → p x ≡ b
    → how_many p (x ∷ parts) ≡ 0 → (p x ≡ false) × (how_many p parts ≡ 0)
count_by_cond p x parts true e h = absurd (omega (arith, rw e at h))
count_by_cond p x parts false e h = (e, omega (arith, rw e at h))

no_count : (p : CostPart → Bool) (parts : List CostPart) → how_many p parts ≡ 0 → list_any p parts ≡ false
no_count p [] e = refl
no_count p (x ∷ parts) e =
    let h = count_by_cond p x parts (p x) refl e in
    or_from (p x) (list_any p parts) h.0 (no_count p parts h.1)

-- one more part of a kind
record OfKind (p : CostPart) : Type 0 where
  kind : CostPart → Bool
  same : (q : CostPart) → clash p q ≡ kind q
  -- the counts of the other kinds stay, and that of the kind grows
  grows : (parts : List CostPart) → AtMostOneEach parts → how_many kind parts ≡ 0 → AtMostOneEach (p ∷ parts)
  shrinks : (parts : List CostPart) → AtMostOneEach (p ∷ parts) → AtMostOneEach parts × (how_many kind parts ≡ 0)

of_money : (p : CostPart) → is_money p ≡ true → is_day p ≡ false → is_label p ≡ false → OfKind p
of_money p m d l = record {
  kind = is_money;
  same = λ q. clash_is_money p q m d l;
  grows = λ parts h e. record {
    moneys = rw m (omega (arith, e));
    days = rw d (omega (arith, h.days));
    labels = rw l (omega (arith, h.labels));
  };
  shrinks = λ parts h.
      let a = rw m at h.moneys in
      let b = rw d at h.days in
      let c = rw l at h.labels in
      (record { moneys = omega (arith, a); days = omega (arith, b); labels = omega (arith, c) }, omega (arith, a));
}

of_day : (p : CostPart) → is_money p ≡ false → is_day p ≡ true → is_label p ≡ false → OfKind p
of_day p m d l = record {
  kind = is_day;
  same = λ q. clash_is_day p q m d l;
  grows = λ parts h e. record {
    moneys = rw m (omega (arith, h.moneys));
    days = rw d (omega (arith, e));
    labels = rw l (omega (arith, h.labels));
  };
  shrinks = λ parts h.
      let a = rw m at h.moneys in
      let b = rw d at h.days in
      let c = rw l at h.labels in
      (record { moneys = omega (arith, a); days = omega (arith, b); labels = omega (arith, c) }, omega (arith, b));
}

of_label : (p : CostPart) → is_money p ≡ false → is_day p ≡ false → is_label p ≡ true → OfKind p
of_label p m d l = record {
  kind = is_label;
  same = λ q. clash_is_label p q m d l;
  grows = λ parts h e. record {
    moneys = rw m (omega (arith, h.moneys));
    days = rw d (omega (arith, h.days));
    labels = rw l (omega (arith, e));
  };
  shrinks = λ parts h.
      let a = rw m at h.moneys in
      let b = rw d at h.days in
      let c = rw l at h.labels in
      (record { moneys = omega (arith, a); days = omega (arith, b); labels = omega (arith, c) }, omega (arith, c));
}

of_kind : (p : CostPart) → OfKind p
of_kind (money n c) = of_money (money n c) refl refl refl
of_kind (amount n) = of_money (amount n) refl refl refl
of_kind (currency c) = of_money (currency c) refl refl refl
of_kind (day d) = of_day (day d) refl refl refl
of_kind (label l) = of_label (label l) refl refl refl

pub distinct_at_most : (parts : List CostPart) → are_distinct parts ≡ true → AtMostOneEach parts
distinct_at_most [] e = record { moneys = omega arith; days = omega arith; labels = omega arith }
distinct_at_most (p ∷ parts) e =
    let k = of_kind p in
    let h = and_parts (not (list_any (clash p) parts)) (are_distinct parts) e in
    k.grows parts (distinct_at_most parts h.1)
    (count_none k.kind parts (sym (none_of_kind p k.kind k.same parts) ∙ not-true (list_any (clash p) parts) h.0))

pub at_most_distinct : (parts : List CostPart) → AtMostOneEach parts → are_distinct parts ≡ true
at_most_distinct [] h = refl
at_most_distinct (p ∷ parts) h =
    let k = of_kind p in
    let more = k.shrinks parts h in
    and_from _ _ (not_from_false (list_any (clash p) parts) (none_of_kind p k.kind k.same parts ∙ no_count k.kind parts more.1))
    (at_most_distinct parts more.0)

-- each part is of one kind, so there are no more than three
total : (parts : List CostPart) → how_many is_money parts + (how_many is_day parts + how_many is_label parts) ≡ length parts
total [] = refl
total (money n c ∷ parts) = omega (arith, total parts)
total (amount n ∷ parts) = omega (arith, total parts)
total (currency c ∷ parts) = omega (arith, total parts)
total (day d ∷ parts) = omega (arith, total parts)
total (label l ∷ parts) = omega (arith, total parts)

-- ---- Parts before a mark that isn't a comma are found.

one_more : (a : CostPart) (m : Mark) (rest : List Lexeme)
    → parts_at (part_tokens a ++ mark m ∷ rest) ≡ second_by a (mark m ∷ rest) (after_comma (mark m ∷ rest))
unfolding parts_at
one_more a m rest = ap (first_by (part_tokens a ++ mark m ∷ rest)) (part_found a m rest)

two_more : (a b : CostPart) (m : Mark) (rest : List Lexeme)
    → parts_at (part_tokens a ++ mark Marks.Comma ∷ (part_tokens b ++ mark m ∷ rest))
    ≡ third_by a b (mark m ∷ rest) (after_comma (mark m ∷ rest))
two_more a b m rest =
    one_more a Marks.Comma (part_tokens b ++ mark m ∷ rest)
    ∙ then_is (λ second. third_by a second.0 second.1 (after_comma second.1)) (part_at (part_tokens b ++ mark m ∷ rest)) (b, mark m ∷ rest) (part_found b m rest)

three_more : (a b c : CostPart) (m : Mark) (rest : List Lexeme)
    → parts_at (part_tokens a ++ mark Marks.Comma ∷ (part_tokens b ++ mark Marks.Comma ∷ (part_tokens c ++ mark m ∷ rest)))
    ≡ Some (a ∷ b ∷ c ∷ [], mark m ∷ rest)
three_more a b c m rest =
    two_more a b Marks.Comma (part_tokens c ++ mark m ∷ rest)
    ∙ then_is (λ third. Some (a ∷ b ∷ third.0 ∷ [], third.1)) (part_at (part_tokens c ++ mark m ∷ rest)) (c, mark m ∷ rest) (part_found c m rest)

pub parts_found : (parts : List CostPart) (m : Mark) (rest : List Lexeme) → AtMostOneEach parts → after_comma (mark m ∷ rest) ≡ None
    → parts_at (parts_tokens parts ++ mark m ∷ rest) ≡ Some (parts, mark m ∷ rest)
unfolding part_at parts_at
parts_found [] m rest h stop = refl
parts_found (a ∷ []) m rest h stop =
    ap (λ x. parts_at (x ++ mark m ∷ rest)) (append-nil (part_tokens a)) ∙ one_more a m rest ∙ ap (second_by a (mark m ∷ rest)) stop
parts_found (a ∷ b ∷ []) m rest h stop =
    let flat : parts_tokens (a ∷ b ∷ []) ++ mark m ∷ rest ≡ part_tokens a ++ mark Marks.Comma ∷ (part_tokens b ++ mark m ∷ rest) =
    simp (append_assoc, append-nil) in
    ap parts_at flat ∙ two_more a b m rest ∙ ap (third_by a b (mark m ∷ rest)) stop
parts_found (a ∷ b ∷ c ∷ []) m rest h stop =
    let flat : parts_tokens (a ∷ b ∷ c ∷ []) ++ mark m ∷ rest
    ≡ part_tokens a ++ mark Marks.Comma ∷ (part_tokens b ++ mark Marks.Comma ∷ (part_tokens c ++ mark m ∷ rest)) =
    three_flat (mark Marks.Comma) (part_tokens a) (part_tokens b) (part_tokens c) (mark m ∷ rest) in
    ap parts_at flat ∙ three_more a b c m rest
parts_found (a ∷ b ∷ c ∷ d ∷ parts) m rest h stop =
    absurd (omega (arith, total (a ∷ b ∷ c ∷ d ∷ parts), h.moneys, h.days, h.labels))

-- ---- Both together.

pub distinct_are : (tokens : List Lexeme) (found : List CostPart × List Lexeme) → distinct_at tokens ≡ Some found
    → AtMostOneEach found.0 × (tokens ≡ parts_tokens found.0 ++ found.1)
unfolding distinct_at
distinct_are tokens found e =
    let t = bound (λ (x : List CostPart × List Lexeme). cond (are_distinct x.0) (Some x) None) (parts_at tokens) found e in
    let k = cond_some (are_distinct t.0.0) t.0 found t.2 in
    subst (λ (x : List CostPart × List Lexeme). AtMostOneEach x.0 × (tokens ≡ parts_tokens x.0 ++ x.1)) k.1
    (distinct_at_most t.0.0 k.0, parts_are tokens t.0 t.1)

pub distinct_found : (parts : List CostPart) (m : Mark) (rest : List Lexeme) → AtMostOneEach parts → after_comma (mark m ∷ rest) ≡ None
    → distinct_at (parts_tokens parts ++ mark m ∷ rest) ≡ Some (parts, mark m ∷ rest)
unfolding distinct_at
distinct_found parts m rest h stop =
    then_is (λ (x : List CostPart × List Lexeme). cond (are_distinct x.0) (Some x) None) (parts_at (parts_tokens parts ++ mark m ∷ rest))
    (parts, mark m ∷ rest) (parts_found parts m rest h stop)
    ∙ ap (λ b. cond b (Some (parts, mark m ∷ rest)) None) (at_most_distinct parts h)
