-- The bytes that a run over records reads: the input's own, if these are known, and otherwise the bytes of the records that were read
use Rattle.std.proofs.Common.{◌≡◌, ℕ, ◌-◌, ◌^◌, List, [], ◌∷◌, ◌++◌, Option, Some, None, Ok, Err, refl, sym, arith}
use Rattle.std.specs.Prelude.{⊤}
use Rattle.pes_packet.specs.AccessUnits.{AccessUnit}
use Rattle.unit_records.specs.Records.{after_record, record_at, size_at, size_in}
use Rattle.unit_records.proofs.RecordReading.{record_short, record_size}
use Rattle.mux_core.specs.RecordRuns.{IsOwn}
use Rattle.mux_core.specs.RunSteps.{HoldsUnit, Judges, JudgesNext, ReadsNext}
use Rattle.unit_records.specs.declared.reading.UnitFileError.TheVariants.{Cut, Size, Device, Memory}
use Rattle.mux_core.specs.declared.carrying.Stop.{Stop}
use Rattle.mux_core.specs.declared.carrying.Stop.TheVariants.{Refused, Unread, OutOfMemory}

own_any : (bytes : List ℕ) → IsOwn None bytes
own_any bytes xs e = absurd cc

own_self : (bytes : List ℕ) → IsOwn (Some bytes) bytes
own_self bytes xs e = cc

-- Some bytes, the input's own if these are known
pub own_of : (known : Option (List ℕ)) → (bytes : List ℕ) × IsOwn known bytes
own_of None = ([], own_any [])
own_of (Some bytes) = (bytes, own_self bytes)

-- 1. The end of the input

pub record EndIsRead (mid : Option (List ℕ)) : Type 0 where
  pub rest : List ℕ
  pub own : IsOwn mid rest
  pub none : record_at rest ≡ Ok None

nothing : record_at [] ≡ Ok None
unfolding record_at
nothing = refl

pub end_read : (mid new : Option (List ℕ)) (id min_next_dts : ℕ) → ((xs : List ℕ) → mid ≡ Some xs → ReadsNext id min_next_dts xs new (Ok None)) → EndIsRead mid
end_read None new id min_next_dts k = record { rest = []; own = own_any []; none = nothing }
end_read (Some zs) new id min_next_dts k = record { rest = zs; own = own_self zs; none = (k zs refl).0 }

-- 2. One more record, before these later bytes

pub record UnitIsRead (mid : Option (List ℕ)) (id min_next_dts : ℕ) (unit : AccessUnit) (later : List ℕ) : Type 0 where
  pub rest : List ℕ
  pub own : IsOwn mid rest
  pub holds : HoldsUnit id min_next_dts rest unit None
  pub later_is : later ≡ after_record rest

pub unit_read : (mid new : Option (List ℕ)) (id min_next_dts : ℕ) (unit : AccessUnit) (later : List ℕ) →
    ((xs : List ℕ) → mid ≡ Some xs → ReadsNext id min_next_dts xs new (Ok (Some unit))) → Judges id min_next_dts unit None → IsOwn new later →
    UnitIsRead mid id min_next_dts unit later
unit_read None new id min_next_dts unit later k j own = record {
  rest = j.bytes ++ later;
  own = own_any (j.bytes ++ later);
  holds = record { stream = j.stream; record_is = j.is_record.record_is later; judged_is = j.judged_is };
  later_is = sym (j.is_record.rest_is later);
}
unit_read (Some zs) new id min_next_dts unit later k j own =
    let r = k zs refl in record { rest = zs; own = own_self zs; holds = r.0; later_is = own (after_record zs) r.1 }

-- 3. A record that is not accepted

-- The run ends for this cause before these bytes.
abbrev pub StopsAt : ℕ → ℕ → List ℕ → Stop → Type 0
StopsAt id min_next_dts xs (Refused cause) = (unit : AccessUnit) × HoldsUnit id min_next_dts xs unit (Some cause)
StopsAt id min_next_dts xs (Unread Cut) = record_at xs ≡ Err Cut
StopsAt id min_next_dts xs (Unread Size) = record_at xs ≡ Err Size
StopsAt id min_next_dts xs (Unread Device) = ⊤
StopsAt id min_next_dts xs (Unread Memory) = ⊥
StopsAt id min_next_dts xs OutOfMemory = ⊤

stops_at : (id min_next_dts : ℕ) (xs : List ℕ) (left : Option (List ℕ)) (stop : Stop) → ReadsNext id min_next_dts xs left (Err stop) →
    StopsAt id min_next_dts xs stop
stops_at id min_next_dts xs left (Refused cause) r = (r.unit, r.is_refused)
stops_at id min_next_dts xs left (Unread Cut) r = r.0
stops_at id min_next_dts xs left (Unread Size) r = r.0
stops_at id min_next_dts xs left (Unread Device) r = tt
stops_at id min_next_dts xs left (Unread Memory) r = absurd r
stops_at id min_next_dts xs left OutOfMemory r = tt

pub record StopIsRead (mid : Option (List ℕ)) (id min_next_dts : ℕ) (stop : Stop) : Type 0 where
  pub rest : List ℕ
  pub own : IsOwn mid rest
  pub stops : StopsAt id min_next_dts rest stop

-- The start of a record whose size no reader takes
great : size_at (0 ∷ 255 ∷ 255 ∷ 255 ∷ 255 ∷ []) ≡ 2 ^ 32 - 1
unfolding size_in
great = refl

great_refused : record_at (0 ∷ 255 ∷ 255 ∷ 255 ∷ 255 ∷ []) ≡ Err Size
great_refused =
    let size : size_at (0 ∷ 255 ∷ 255 ∷ 255 ∷ 255 ∷ []) ≡ 2 ^ 32 - 1 = great in
    record_size (0 ∷ 255 ∷ 255 ∷ 255 ∷ 255 ∷ []) (omega arith) (omega (arith, size))

any_stop : (id min_next_dts : ℕ) (stop : Stop) → JudgesNext id min_next_dts (Err stop) → StopIsRead None id min_next_dts stop
any_stop id min_next_dts (Refused cause) j = record {
  rest = j.1.bytes ++ [];
  own = own_any (j.1.bytes ++ []);
  stops = (j.0, record { stream = j.1.stream; record_is = j.1.is_record.record_is []; judged_is = j.1.judged_is });
}
any_stop id min_next_dts (Unread Cut) j =
    record { rest = 0 ∷ []; own = own_any (0 ∷ []); stops = record_short (0 ∷ []) (omega arith) (omega arith) }
any_stop id min_next_dts (Unread Size) j = record {
  rest = 0 ∷ 255 ∷ 255 ∷ 255 ∷ 255 ∷ [];
  own = own_any (0 ∷ 255 ∷ 255 ∷ 255 ∷ 255 ∷ []);
  stops = great_refused;
}
any_stop id min_next_dts (Unread Device) j = record { rest = []; own = own_any []; stops = tt }
any_stop id min_next_dts (Unread Memory) j = absurd j
any_stop id min_next_dts OutOfMemory j = record { rest = []; own = own_any []; stops = tt }

pub stop_read : (mid new : Option (List ℕ)) (id min_next_dts : ℕ) (stop : Stop) →
    ((xs : List ℕ) → mid ≡ Some xs → ReadsNext id min_next_dts xs new (Err stop)) → JudgesNext id min_next_dts (Err stop) →
    StopIsRead mid id min_next_dts stop
stop_read None new id min_next_dts stop k j = any_stop id min_next_dts stop j
stop_read (Some zs) new id min_next_dts stop k j =
    record { rest = zs; own = own_self zs; stops = stops_at id min_next_dts zs new stop (k zs refl) }
