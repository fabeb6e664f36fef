-- When packets arrive: ticks of 27 MHz from the stream's first byte on.
use Rattle.std.specs.Prelude.{ℕ, ◌+◌, ◌*◌, ◌/◌, ◌-◌, ◌^◌, min, Bool, true, false, Option, Some, None}
use Rattle.arrival.specs.Arrivals.{moment_on}
use Rattle.arrival.specs.declared.arrival.Arrival.{Arrival}
use Rattle.arrival.specs.declared.arrival.Arrival.TheVariants.{Unknown, AtRate, OnLines}
use Rattle.es_events.specs.declared.view_options.ViewOptions.{ViewOptions}
use Rattle.es_events.specs.Clocks.{first_byte}

-- at a rate, rounded down
abbrev pub ticks_at : ℕ → ℕ → ℕ
ticks_at rate byte = byte * 216000000 / rate

-- the moment of a byte
unfoldable pub moment_by : Arrival → ℕ → ℕ → Option ℕ
moment_by Unknown origin byte = None
moment_by (AtRate rate) origin byte = Some (ticks_at rate byte)
moment_by (OnLines lines) origin byte = Some (moment_on lines byte - origin)

-- the moment of the packet at an index
abbrev pub moment_at : ViewOptions → ℕ → Option ℕ
moment_at options index = moment_by options.arrival options.origin (first_byte index)

-- the moment of the byte that ends the base of its clock reference
abbrev pub reference_moment : ViewOptions → ℕ → Option ℕ
reference_moment options index = moment_by options.arrival options.origin (min (first_byte index + 10) (2 ^ 64 - 1))

unfoldable pub has_moments : Arrival → Bool
has_moments Unknown = false
has_moments (AtRate rate) = true
has_moments (OnLines lines) = true
