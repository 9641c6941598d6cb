-- Every number of a refusal is below 64. Assumes nothing.
use Rattle.std.proofs.Common.{◌<◌, lit<}
use Rattle.timetable.specs.declared.refusal.Refusal.{Refusal}
use Rattle.timetable.specs.declared.refusal.Refusal.TheVariants.{CutOff, NotDue, OutOfLimits, FromFalls, BytesFollow, SeriesLeaves, NoQuay, LateMinute, NoPlace, NoClass, ShortBuffer, SmallLine, HeapFull, NoRank, NoItem, RunWithheld, RunNotWithheld, RunsFull, QuayShut, QuayNotShut, QuaysFull, NoSailing, WrongMinutes, WrongQuay, TooEarly, EndsElsewhere, NoLetter, NoNumber, Surplus, LongLine}
use Rattle.timetable.specs.Refusals.{number_of}

pub number_below : (r : Refusal) → number_of r < 64
number_below CutOff = lit< tt
number_below NotDue = lit< tt
number_below OutOfLimits = lit< tt
number_below FromFalls = lit< tt
number_below BytesFollow = lit< tt
number_below SeriesLeaves = lit< tt
number_below NoQuay = lit< tt
number_below LateMinute = lit< tt
number_below NoPlace = lit< tt
number_below NoClass = lit< tt
number_below ShortBuffer = lit< tt
number_below SmallLine = lit< tt
number_below HeapFull = lit< tt
number_below NoRank = lit< tt
number_below NoItem = lit< tt
number_below RunWithheld = lit< tt
number_below RunNotWithheld = lit< tt
number_below RunsFull = lit< tt
number_below QuayShut = lit< tt
number_below QuayNotShut = lit< tt
number_below QuaysFull = lit< tt
number_below NoSailing = lit< tt
number_below WrongMinutes = lit< tt
number_below WrongQuay = lit< tt
number_below TooEarly = lit< tt
number_below EndsElsewhere = lit< tt
number_below NoLetter = lit< tt
number_below NoNumber = lit< tt
number_below Surplus = lit< tt
number_below LongLine = lit< tt
