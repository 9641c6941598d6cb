-- What the gate console is answered. Assumes nothing.
use Rattle.std.specs.Prelude.{◌≡◌, ℕ, ◌+◌, ◌/◌, ◌%◌, ◌<◌, ◌≤◌, List, [], ◌∷◌, ◌++◌, length, drop}
use Rattle.timetable.specs.declared.refusal.Refusal.TheVariants.{NoQuay, LateMinute, ShortBuffer}
use Rattle.timetable.specs.Refusals.{number_of}
use Rattle.timetable.specs.Times.{day}
use Rattle.timetable.specs.Timetables.{Timetable}
use Rattle.image.specs.declared.fault.Fault.{Fault}
use Rattle.image.specs.Faults.{Wrong, First}
use Rattle.console.specs.Contents.{Holds}
use Rattle.console.specs.Earliest.{NoneFrom, Earliest}

-- a minute in four bytes, the lowest first
abbrev pub four_bytes : ℕ → List ℕ
four_bytes m = m % 256 ∷ m / 256 % 256 ∷ m / 65536 % 256 ∷ m / 16777216 % 256 ∷ []

-- the code, and the bytes that are left in the buffer that was given
pub data Answers (image : List ℕ) (quay minute : ℕ) (given left : List ℕ) (code : ℕ) : Type 0 where
  -- the number of the first thing that is wrong with the image
  no_image : (e : Fault) → First (Wrong image) e → code ≡ number_of e.refusal → left ≡ given → Answers image quay minute given left code
  no_quay : (t : Timetable) → Holds image t → length t.changes ≤ quay → code ≡ number_of NoQuay → left ≡ given → Answers image quay minute given left code
  late : (t : Timetable) → Holds image t → quay < length t.changes → day ≤ minute → code ≡ number_of LateMinute → left ≡ given → Answers image quay minute given left code
  short : (t : Timetable) → Holds image t → quay < length t.changes → minute < day → length given < 4 → code ≡ number_of ShortBuffer → left ≡ given → Answers image quay minute given left code
  never : (t : Timetable) → Holds image t → quay < length t.changes → minute < day → 4 ≤ length given → NoneFrom t quay → code ≡ 255 → left ≡ given → Answers image quay minute given left code
  -- the front of the buffer takes the departure, which leaves within a day of the minute; the bytes past four stand
  leaves : (t : Timetable) (m : ℕ) → Holds image t → quay < length t.changes → minute < day → 4 ≤ length given → Earliest t quay minute m → m < minute + day → code ≡ 0 → left ≡ four_bytes m ++ drop 4 given → Answers image quay minute given left code

-- a call has one answer only
abbrev pub OneAnswer : List ℕ → ℕ → ℕ → List ℕ → Type 0
OneAnswer image quay minute given = (left other : List ℕ) (code number : ℕ) →
    Answers image quay minute given left code → Answers image quay minute given other number → (left ≡ other) × (code ≡ number)
