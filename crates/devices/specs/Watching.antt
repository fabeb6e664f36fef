-- A reader that shows its progress on a writer of its own.
use Rattle.std.specs.Prelude.{◌≡◌, ℕ, Option, Some, None, Result, Ok, Err}
use Rattle.devices.specs.Devices.{Device, IsUntouched}
use Rattle.devices.specs.Lines.{Reports}
use Rattle.devices.specs.Progress.{meter_after, text_after}
use Rattle.devices.specs.declared.meter.Meter.{Meter}
use Rattle.devices.specs.declared.watched.Watched.{Watched}

-- the reader
abbrev pub inner_of : {R W C : Type 0} → Watched R W C → R
inner_of watched = watched.inner

-- the writer
abbrev pub writer_of : {R W C : Type 0} → Watched R W C → W
writer_of watched = watched.to

-- its progress; none if it shows none, or shows no more
abbrev pub meter_of : {R W C : Type 0} → Watched R W C → Option Meter
meter_of watched = watched.meter

-- a meter before the first read
abbrev pub first : Option ℕ → Meter
first size = record { taken = 0; size = size; shown_at = 0 }

-- the bytes of a read; 0 if it failed
abbrev pub bytes_read : {E : Type 0} → Result ℕ E → ℕ
bytes_read (Ok n) = n
bytes_read (Err e) = 0

-- at some moment after a read of n bytes the text that is due was shown
pub record ShowsAt (m : Meter) (after : Option Meter) (n : ℕ) (to : Device) : Type 0 where
  pub ms : ℕ
  pub meter : after ≡ meter_after m n ms
  pub text : Reports to (text_after m n ms)

-- the text after a read of n bytes; nothing without a meter
abbrev pub ShowsProgress : Option Meter → Option Meter → ℕ → Device → Type 0
ShowsProgress None after n to = (after ≡ None) × IsUntouched to
ShowsProgress (Some m) after n to = ShowsAt m after n to
