use Rattle.std.proofs.Common.{sym, ◌∙◌}
use Rattle.numerals.proofs.Standing.{Kind, numeral_tells, numeral_told, within_from}
use Rattle.numerals.proofs.number.number_field.Goals as goal

pub returns : goal.returns
returns g c =
    let t = g.T.Unsigned in
    let laws = g.met.T.Unsigned in
    let kind : Kind _ = record { of = t.of; worth_of = t.worth; told = laws.told; back = laws.back } in
    let line = c.args.line.now in
    let at = c.args.at in
    let e = c.spaced_numeral.ensures in
    record {
      value = e;
      exact = λ f. (λ h. numeral_tells kind t.MOST_DIGITS t.most line at f (sym e ∙ h), λ h. e ∙ numeral_told kind t.MOST_DIGITS t.most line at f h);
      within = within_from _ _ (λ f h. (numeral_tells kind t.MOST_DIGITS t.most line at f (sym e ∙ h)).inside);
    }
