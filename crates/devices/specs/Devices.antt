-- The reader and the writers that a call is given, before it and after it.
use Rattle.std.specs.Prelude.{◌≡◌, ℕ, List, Option}
use Rattle.std.specs.Io.KnownBytes.{Appends}
use Rattle.counted_io.specs.Device.{Failed}

-- a reader or a writer at a moment: the bytes that it still gives, or has taken, if known, and the number of its calls that failed
pub record Port : Type 0 where
  pub bytes : Option (List ℕ)
  pub failed : ℕ

-- a reader or a writer before a call and after it
pub record Device : Type 0 where
  pub before : Port
  pub after : Port

abbrev pub between : Port → Port → Device
between before after = record { before = before; after = after }

-- a reader before a call and after it, and a writer
abbrev pub reads : {S : Type 0} → record { remaining : S → Option (List ℕ); fault_count : S → ℕ } → S → S → Device
reads source before after = between
    (record { bytes = source.remaining before; failed = source.fault_count before })
    (record { bytes = source.remaining after; failed = source.fault_count after })

abbrev pub writes : {S : Type 0} → record { contents : S → Option (List ℕ); fault_count : S → ℕ } → S → S → Device
writes sink before after = between
    (record { bytes = sink.contents before; failed = sink.fault_count before })
    (record { bytes = sink.contents after; failed = sink.fault_count after })

-- it was not used
abbrev pub IsUntouched : Device → Type 0
IsUntouched device = device.after ≡ device.before

-- no call of it failed
abbrev pub IsClean : Device → Type 0
IsClean device = device.after.failed ≡ device.before.failed

-- a call of it failed
abbrev pub HasFailed : Device → Type 0
HasFailed device = Failed device.before.failed device.after.failed

-- the writer took these bytes, after its earlier bytes
abbrev pub Takes : Device → List ℕ → Type 0
Takes device bytes = Appends device.before.bytes device.after.bytes bytes
