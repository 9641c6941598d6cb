-- The number of each refusal. Assumes nothing.
use Rattle.std.specs.Prelude.{ℕ}
use Rattle.timetable.specs.declared.refusal.Refusal.{Refusal}
use Rattle.timetable.specs.declared.refusal.Refusal.TheVariants.{CutOff, NotDue, OutOfLimits, FromFalls, BytesFollow, SeriesLeaves, NoQuay, LateMinute, NoPlace, NoClass, ShortBuffer, SmallLine, HeapFull, NoRank, NoItem, RunWithheld, RunNotWithheld, RunsFull, QuayShut, QuayNotShut, QuaysFull, NoSailing, WrongMinutes, WrongQuay, TooEarly, EndsElsewhere, NoLetter, NoNumber, Surplus, LongLine}

abbrev pub number_of : Refusal → ℕ
-- caused by whoever made the image
number_of CutOff = 1
number_of NotDue = 2
number_of OutOfLimits = 3
number_of FromFalls = 4
number_of BytesFollow = 5
number_of SeriesLeaves = 6
-- by whoever sends numbers
number_of NoQuay = 11
number_of LateMinute = 12
number_of NoPlace = 13
number_of NoClass = 14
-- by whoever brings memory
number_of ShortBuffer = 21
number_of SmallLine = 22
number_of HeapFull = 23
number_of NoRank = 24
number_of NoItem = 25
-- by whoever gives notices
number_of RunWithheld = 31
number_of RunNotWithheld = 32
number_of RunsFull = 33
number_of QuayShut = 34
number_of QuayNotShut = 35
number_of QuaysFull = 36
-- by whoever writes a plan
number_of NoSailing = 41
number_of WrongMinutes = 42
number_of WrongQuay = 43
number_of TooEarly = 44
number_of EndsElsewhere = 45
-- by whoever types
number_of NoLetter = 51
number_of NoNumber = 52
number_of Surplus = 53
number_of LongLine = 54
