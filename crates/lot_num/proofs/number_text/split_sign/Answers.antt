-- A text that begins with neither sign is unsigned.
use Rattle.std.proofs.Common.{lit<}
use Rattle.std.proofs.lemmas.Str.Pattern.{strip_prefix_char}
use Rattle.lot_num.proofs.SignLemmas.{sign_of-none, unsigned-none}
use Rattle.lot_num.proofs.number_text.split_sign.Goals as goal

pub returns-clause-sign : goal.returns-clause-sign
returns-clause-sign c =
    let minus = rw c.in_default.is at (strip_prefix_char 45 c.args.text.now c.strip_prefix.result c.strip_prefix.ensures.cases (lit< tt)) in
    sign_of-none c.args.text.now minus

pub returns-clause-rest : goal.returns-clause-rest
returns-clause-rest c =
    let minus = rw c.in_default.is at (strip_prefix_char 45 c.args.text.now c.strip_prefix.result c.strip_prefix.ensures.cases (lit< tt)) in
    let plus = rw c.in_default-strip_prefix.is at (strip_prefix_char 43 c.args.text.now c.strip_prefix-2.result c.strip_prefix-2.ensures.cases (lit< tt)) in
    unsigned-none c.args.text.now minus plus
