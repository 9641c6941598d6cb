-- What a book of either kind is opened as. Assumes nothing.
use Rattle.std.specs.Prelude.{◌≡◌, ℕ, List, Ok, Err, Result}
use Rattle.std.specs.Result.{result_map_both}
use Rattle.image.specs.declared.fault.Fault.{Fault}
use Rattle.image.specs.declared.fault.Kind.{Kind}
use Rattle.image.specs.declared.fault.Kind.TheVariants.{Printed, ClockFace}
use Rattle.image.specs.Meanings.{printed, clock_face}
use Rattle.image.specs.Names.{names_in}
use Rattle.image.specs.Openings.{OpensPrinted, OpensClock}
use Rattle.books.specs.declared.opened.Opened.{Opened}
use Rattle.books.specs.declared.opened.Opened.TheVariants.{Printed as AsPrinted, ClockFace as AsClockFace}

abbrev pub kind_of : Opened → Kind
kind_of (AsPrinted b) = Printed
kind_of (AsClockFace b) = ClockFace

-- the kind that was opened, or the fault that was told
abbrev pub kind_told : Result Opened Fault → Result Kind Fault
kind_told r = result_map_both kind_of (λ e. e) r

-- what is opened lies over the bytes themselves
abbrev pub LiesOver : List ℕ → Result Opened Fault → Type 0
LiesOver bs (Err e) = Unit
LiesOver bs (Ok (AsPrinted b)) = b.bytes.now ≡ bs
LiesOver bs (Ok (AsClockFace b)) = b.bytes.now ≡ bs

-- what is opened means just what the image holds, names included
abbrev pub OpensAs : List ℕ → Result Opened Fault → Type 0
OpensAs bs (Err e) = Unit
OpensAs bs (Ok (AsPrinted b)) = OpensPrinted bs (printed b.bytes.now) (names_in b.bytes.now)
OpensAs bs (Ok (AsClockFace b)) = OpensClock bs (clock_face b.bytes.now) (names_in b.bytes.now)
