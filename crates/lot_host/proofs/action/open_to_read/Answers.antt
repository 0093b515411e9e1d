-- The database is the one that was opened to be read.
use Rattle.std.proofs.Common.{◌∙◌, inl, inr, subst}
use Rattle.lot_files.specs.Opened.{IsOpenedFor}
use Rattle.lot_files.specs.Path.{library_path}
use Rattle.lot_files.specs.declared.opened.Access.TheVariants.{Read}
use Rattle.lot_host.proofs.OpenedLemmas.{either_for}
use Rattle.lot_host.proofs.action.open_to_read.Goals as goal

pub returns-clause-read : goal.returns-clause-read
returns-clause-read g c =
    let same = c.as_str-path.ensures.value ∙ c.in_ok-path.ensures.named in
    inl (
      inr (rw same at c.if-is_missing.ensures),
      either_for g.H.Host.is_in g.H.Host.copies (library_path c.args.path.now) _ _ Read c.in-File.is
          (subst (λ path. IsOpenedFor g.H.Host.is_in g.H.Host.copies Read path c.in_ok-database.field-0) same c.in_ok-database.ensures.opened),
      record { opened = c.in_ok-database.field-0; opens = rw same at c.in_ok-database.ensures.opens; its = c.in-File.is },
    )
