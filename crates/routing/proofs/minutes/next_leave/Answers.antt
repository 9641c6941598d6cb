use Rattle.std.proofs.Common.{◌≡◌, ◌+◌, ◌-◌, ◌*◌, ◌/◌, ◌%◌, ⊎_elim, arith}
use Rattle.std.proofs.lemmas.Bool.{cases_eq}
use Rattle.timetable.specs.Times.{day, next}
use Rattle.timetable.proofs.Laws.{next_is, next_one}
use Rattle.routing.proofs.minutes.next_leave.Goals as goal

pub returns : goal.returns
returns c =
    let s = c.args.s in
    let u = c.args.minute in
    let m : u % 1440 ≡ u - 1440 * (u / 1440) = omega arith in
    next_one s u _ (next s u) (⊎_elim
    (λ z. let h = c.before-2.ensures.other z in record {
      leaves = record { on = u / 1440; minute = omega (arith, h, c.requires) };
      late = omega (arith, h, c.requires);
      least = λ k l lo. let d = l.on in let e : k ≡ day * d + s.dep = l.minute in omega (arith, h, c.requires);
    })
    (λ nz. let one = c.before-2.ensures.one in let h = c.before-2.ensures.yes (omega arith) in record {
      leaves = record { on = u / 1440 + 1; minute = omega (arith, h, c.requires) };
      late = omega (arith, h, c.requires);
      least = λ k l lo. let d = l.on in let e : k ≡ day * d + s.dep = l.minute in omega (arith, h, c.requires);
    })
    (cases_eq c.before-2.result 0)) (next_is s u)
