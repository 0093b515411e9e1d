-- Commands have their statements alone.
use Rattle.std.proofs.Common.{◌≡◌, inl, inr, true, false, List, [], ◌∷◌, ◌++◌, map, refl, ap, ◌∙◌, sym, subst}
use Rattle.std.specs.List.{flat_map}
use Rattle.std.proofs.lemmas.Bool.{cases_Bool}
use Rattle.std.proofs.lemmas.List.{append_assoc}
use Rattle.lot_command.specs.declared.command.Command.{Command}
use Rattle.lot_command.specs.declared.command.Command.TheVariants.{Opening, Closing, Declaring, Quoting, Transaction}
use Rattle.lot_command.specs.declared.transaction.Posting.{Posting}
use Rattle.lot_read.specs.declared.statement.Statement.{Statement}
use Rattle.lot_read.specs.declared.statement.Statement.TheVariants.{Begins, Posts}
use Rattle.lot_read.specs.Text.{is_transaction, statements_of, takes_posting, without_postings}

-- ---- A command is its first line, and its postings.

abbrev begun : Command → Command
begun (Transaction t) = Transaction (without_postings t)
begun (Opening o) = Opening o
begun (Closing c) = Closing c
begun (Declaring d) = Declaring d
begun (Quoting q) = Quoting q

abbrev postings_of : Command → List Posting
postings_of (Transaction t) = t.postings
postings_of (Opening o) = []
postings_of (Closing c) = []
postings_of (Declaring d) = []
postings_of (Quoting q) = []

abbrev with_postings : Command → List Posting → Command
with_postings (Transaction t) ps = Transaction (record { day = t.day; flag = t.flag; narration = t.narration; postings = ps })
with_postings (Opening o) ps = Opening o
with_postings (Closing c) ps = Closing c
with_postings (Declaring d) ps = Declaring d
with_postings (Quoting q) ps = Quoting q

whole : (c : Command) → c ≡ with_postings (begun c) (postings_of c)
whole (Transaction t) = refl
whole (Opening o) = refl
whole (Closing c) = refl
whole (Declaring d) = refl
whole (Quoting q) = refl

begins : (c : Command) → statements_of c ≡ Begins (begun c) ∷ map Posts (postings_of c)
begins (Transaction t) = refl
begins (Opening o) = refl
begins (Closing c) = refl
begins (Declaring d) = refl
begins (Quoting q) = refl

same_kind : (c : Command) → is_transaction (begun c) ≡ is_transaction c
same_kind (Transaction t) = refl
same_kind (Opening o) = refl
same_kind (Closing c) = refl
same_kind (Declaring d) = refl
same_kind (Quoting q) = refl

no_postings : (c : Command) → is_transaction c ≡ false → postings_of c ≡ []
no_postings (Transaction t) e = cc
no_postings (Opening o) e = refl
no_postings (Closing c) e = refl
no_postings (Declaring d) e = refl
no_postings (Quoting q) e = refl

-- ---- Postings go up to the next command.

-- no posting is the first
abbrev IsNoPosting : List Statement → Type 0
IsNoPosting [] = Unit {0}
IsNoPosting (Begins c ∷ rest) = Unit {0}
IsNoPosting (Posts p ∷ rest) = ⊥

first_begins : (c : Command) (rest : List Statement) → IsNoPosting (statements_of c ++ rest)
first_begins c rest = subst (λ (xs : List Statement). IsNoPosting (xs ++ rest)) (sym (begins c)) tt

commands_begin : (commands : List Command) → IsNoPosting (flat_map statements_of commands)
commands_begin [] = tt
commands_begin (c ∷ commands) = first_begins c (flat_map statements_of commands)

postings_split : (ps qs : List Posting) (xs ys : List Statement) → IsNoPosting xs → IsNoPosting ys → map Posts ps ++ xs ≡ map Posts qs ++ ys
    → (ps ≡ qs) × (xs ≡ ys)
postings_split [] [] xs ys h k e = (refl, e)
postings_split [] (q ∷ qs) xs ys h k e = absurd (subst IsNoPosting e h)
postings_split (p ∷ ps) [] xs ys h k e = absurd (subst IsNoPosting (sym e) k)
postings_split (p ∷ ps) (q ∷ qs) xs ys h k e =
    let first : p ≡ q = cc in
    let behind : map Posts ps ++ xs ≡ map Posts qs ++ ys = cc in
    let more = postings_split ps qs xs ys h k behind in
    (ap (λ x. x ∷ ps) first ∙ ap (λ zs. q ∷ zs) more.0, more.1)

begun_split : (c d : Command) (xs ys : List Statement) → statements_of c ++ xs ≡ statements_of d ++ ys
    → (begun c ≡ begun d) × (map Posts (postings_of c) ++ xs ≡ map Posts (postings_of d) ++ ys)
begun_split c d xs ys e =
    let whole : Begins (begun c) ∷ (map Posts (postings_of c) ++ xs) ≡ Begins (begun d) ∷ (map Posts (postings_of d) ++ ys) =
    ap (λ zs. zs ++ xs) (sym (begins c)) ∙ e ∙ ap (λ zs. zs ++ ys) (begins d) in
    let first : begun c ≡ begun d = cc in
    let behind : map Posts (postings_of c) ++ xs ≡ map Posts (postings_of d) ++ ys = cc in
    (first, behind)

first_split : (c d : Command) (xs ys : List Statement) → IsNoPosting xs → IsNoPosting ys → statements_of c ++ xs ≡ statements_of d ++ ys
    → (c ≡ d) × (xs ≡ ys)
first_split c d xs ys h k e =
    let first = begun_split c d xs ys e in
    let behind = postings_split (postings_of c) (postings_of d) xs ys h k first.1 in (
      whole c ∙ ap (λ x. with_postings x (postings_of c)) first.0 ∙ ap (λ ps. with_postings (begun d) ps) behind.0 ∙ sym (whole d),
      behind.1,
    )

no_statements : (c : Command) (rest : List Statement) → [] ≡ statements_of c ++ rest → ⊥
no_statements c rest e =
    let f : [] ≡ Begins (begun c) ∷ (map Posts (postings_of c) ++ rest) = e ∙ ap (λ zs. zs ++ rest) (begins c) in
    absurd cc

pub statements_one : (a b : List Command) → flat_map statements_of a ≡ flat_map statements_of b → a ≡ b
statements_one [] [] e = refl
statements_one [] (d ∷ b) e = absurd (no_statements d (flat_map statements_of b) e)
statements_one (c ∷ a) [] e = absurd (no_statements c (flat_map statements_of a) (sym e))
statements_one (c ∷ a) (d ∷ b) e =
    let split = first_split c d (flat_map statements_of a) (flat_map statements_of b) (commands_begin a) (commands_begin b) e in
    ap (λ x. x ∷ a) split.0 ∙ ap (λ xs. d ∷ xs) (statements_one a b split.1)

-- ---- A posting stands behind a transaction, or behind another posting of it.

no_first : (commands : List Command) (p : Posting) (more : List Statement) → flat_map statements_of commands ≡ Posts p ∷ more → ⊥
no_first commands p more e = subst IsNoPosting e (commands_begin commands)

behind_other : (c d : Command) (commands : List Command) (p : Posting) (more : List Statement) → is_transaction d ≡ false
    → statements_of c ++ flat_map statements_of commands ≡ statements_of d ++ Posts p ∷ more → ⊥
behind_other c d commands p more other e =
    let first = begun_split c d (flat_map statements_of commands) (Posts p ∷ more) e in
    let other_first : is_transaction c ≡ false = sym (same_kind c) ∙ ap is_transaction first.0 ∙ same_kind d ∙ other in
    no_first commands p more
    (ap (λ ps. map Posts ps ++ flat_map statements_of commands) (sym (no_postings c other_first)) ∙ first.1
    ∙ ap (λ ps. map Posts ps ++ Posts p ∷ more) (no_postings d other))

pub posts_behind : (before all : List Command) (p : Posting) (more : List Statement)
    → flat_map statements_of all ≡ flat_map statements_of before ++ Posts p ∷ more → takes_posting before ≡ true
posts_behind [] all p more e = absurd (no_first all p more e)
posts_behind (d ∷ []) [] p more e = absurd (no_statements d (Posts p ∷ more) (e ∙ append_assoc (statements_of d) [] (Posts p ∷ more)))
posts_behind (d ∷ []) (c ∷ all) p more e = elim (cases_Bool (is_transaction d)) [
  | inl is ↦ is
  | inr other ↦ absurd (behind_other c d all p more other (e ∙ append_assoc (statements_of d) [] (Posts p ∷ more)))
]
posts_behind (d ∷ next ∷ before) [] p more e =
    absurd
    (no_statements d (flat_map statements_of (next ∷ before) ++ Posts p ∷ more)
    (e ∙ append_assoc (statements_of d) (flat_map statements_of (next ∷ before)) (Posts p ∷ more)))
posts_behind (d ∷ next ∷ before) (c ∷ all) p more e =
    let begins_next : IsNoPosting (flat_map statements_of (next ∷ before) ++ Posts p ∷ more) =
    subst IsNoPosting (sym (append_assoc (statements_of next) (flat_map statements_of before) (Posts p ∷ more)))
    (first_begins next (flat_map statements_of before ++ Posts p ∷ more)) in
    let split = first_split c d (flat_map statements_of all) (flat_map statements_of (next ∷ before) ++ Posts p ∷ more) (commands_begin all)
    begins_next (e ∙ append_assoc (statements_of d) (flat_map statements_of (next ∷ before)) (Posts p ∷ more)) in
    posts_behind (next ∷ before) all p more split.1
