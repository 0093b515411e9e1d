use Rattle.std.proofs.Common.{◌∙◌, ap, lit<, sym}
use Rattle.std.proofs.lemmas.Str.Pattern.{strip_suffix_char}
use Rattle.lot_page_report.specs.Sections.{key_of}
use Rattle.lot_page_report.proofs.SumsLemmas.{key_cut, key_whole}
use Rattle.lot_page_report.proofs.sums.key_of.Goals as goal

pub returns-in-Some : goal.returns-in-Some
returns-in-Some c =
    let is = rw c.in-Some.is at (strip_suffix_char 44 c.args.text.now c.strip_suffix.result c.strip_suffix.ensures.cases (lit< tt)) in
    sym (ap key_of is ∙ key_cut c.in-Some.key.now)

pub returns-in-None : goal.returns-in-None
returns-in-None c =
    let none = rw c.in-None.is at (strip_suffix_char 44 c.args.text.now c.strip_suffix.result c.strip_suffix.ensures.cases (lit< tt)) in
    sym (key_whole c.args.text.now none)
