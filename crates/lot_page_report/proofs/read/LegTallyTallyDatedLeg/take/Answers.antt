-- The leg is added to the positions, and to the flows as long as no sum has left its range.
use Rattle.std.proofs.Common.{◌∙◌, refl, sym}
use Rattle.std.proofs.lemmas.Result.{err_from_is_err_and}
use Rattle.lot_page_report.proofs.TakeLemmas.{none_out, some_out}
use Rattle.lot_page_report.proofs.read.LegTallyTallyDatedLeg.take.Goals as goal

pub returns-in_err-fits : goal.returns-in_err-fits
returns-in_err-fits c = λ asked legs had.
    let fault = err_from_is_err_and c.from_residual.result c.from_residual.ensures.1 in
    rw (fault.1, fault.2, c.in_err-fits.ensures.cause) tt

pub returns-in_err-add : goal.returns-in_err-add
returns-in_err-add c = λ asked legs had.
    let fault = err_from_is_err_and c.from_residual-in_err-add.result c.from_residual-in_err-add.ensures.1 in
    rw (fault.1, fault.2, c.in_err-add.ensures.cause) tt

pub returns : goal.returns
returns c = λ asked legs had. (
  refl,
  record {
    positions = c.in_ok-add.ensures.adds asked.0 legs had.positions;
    flows = λ is.
        let none = none_out c.args.self.now.is_out c.in_ok-fits.fits (sym c.out_with-self.ensures ∙ is) in
        c.in_ok-fits.ensures.adds none.1 asked.1 legs (had.flows none.0);
    out = λ is.
        some_out asked.1 legs c.args.leg c.args.self.now.is_out c.in_ok-fits.fits (sym c.out_with-self.ensures ∙ is) had.out
        (λ fine unfit. c.in_ok-fits.ensures.out unfit asked.1 legs (had.flows fine));
  },
)
