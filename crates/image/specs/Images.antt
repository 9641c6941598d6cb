-- Which bytes are an image: those of some content within the limits. Assumes nothing.
use Rattle.std.specs.Prelude.{◌≡◌, ℕ, ◌⊎◌, List, Ok, Result}
use Rattle.timetable.specs.declared.sailing.Sailing.{Sailing}
use Rattle.image.specs.declared.fault.Fault.{Fault}
use Rattle.image.specs.declared.fault.Kind.{Kind}
use Rattle.image.specs.declared.fault.Kind.TheVariants.{Printed, ClockFace}
use Rattle.image.specs.declared.quay.Quay.{Quay}
use Rattle.image.specs.declared.series.Series.{Series}
use Rattle.image.specs.Layout.{sailing_bytes, series_bytes, layout}
use Rattle.image.specs.Limits.{PrintedKept, ClockKept}

-- the bytes are a printed image: those of quays and sailings within the limits
pub record PrintedOf (bs : List ℕ) : Type 0 where
  pub quays : List Quay
  pub sailings : List Sailing
  pub kept : PrintedKept quays sailings
  pub laid : bs ≡ layout 1 sailing_bytes quays sailings

-- the bytes are a clock-face image: those of quays and series within the limits
pub record ClockOf (bs : List ℕ) : Type 0 where
  pub quays : List Quay
  pub series : List Series
  pub kept : ClockKept quays series
  pub laid : bs ≡ layout 2 series_bytes quays series

-- the bytes are allowed: an image of one of the two kinds
abbrev pub Allowed : List ℕ → Type 0
Allowed bs = PrintedOf bs ⊎ ClockOf bs

-- an answer that tells a kind exactly for the allowed images of that kind
pub record Tells (bs : List ℕ) (r : Result Kind Fault) : Type 0 where
  pub printed : r ≡ Ok Printed → PrintedOf bs
  pub all_printed : PrintedOf bs → r ≡ Ok Printed
  pub clock_face : r ≡ Ok ClockFace → ClockOf bs
  pub all_clock_face : ClockOf bs → r ≡ Ok ClockFace

-- bytes are the image of one content at most
abbrev pub OneContent : Type 0
OneContent =
    ((bs : List ℕ) (c d : PrintedOf bs) → (c.quays ≡ d.quays) × (c.sailings ≡ d.sailings))
    × ((bs : List ℕ) (c d : ClockOf bs) → (c.quays ≡ d.quays) × (c.series ≡ d.series))
    × ((bs : List ℕ) → PrintedOf bs → ClockOf bs → ⊥)
