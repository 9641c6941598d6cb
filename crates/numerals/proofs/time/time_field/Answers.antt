use Rattle.std.proofs.Common.{sym, ◌∙◌}
use Rattle.numerals.proofs.Standing.{within_from}
use Rattle.numerals.proofs.Clocks.{time_tells, time_told}
use Rattle.numerals.proofs.time.time_field.Goals as goal

pub returns : goal.returns
returns c =
    let line = c.args.line.now in
    let at = c.args.at in
    let e = c.spaced_time.ensures in
    record {
      value = e;
      exact = λ f. (λ h. time_tells line at f (sym e ∙ h), λ h. e ∙ time_told line at f h);
      within = within_from _ _ (λ f h. (time_tells line at f (sym e ∙ h)).inside);
    }
