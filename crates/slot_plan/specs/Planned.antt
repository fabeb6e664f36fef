-- A plan as contracts see it, and which slots and certificates make one.
use Rattle.std.specs.Prelude.{ℕ, ◌&&◌, ◌||◌, Bool, true, List, length, nat_lt, if◌then◌else◌, Option, Some, None}
use Rattle.std.specs.List.{list_all}
use Rattle.slot_plan.specs.Words.{number_limit}
use Rattle.slot_plan.specs.declared.slot.Slot.{Slot}
use Rattle.slot_plan.specs.declared.certificate.StreamEntry.{StreamEntry}
use Rattle.slot_plan.specs.declared.certificate.MultiplexingEntry.{MultiplexingEntry}
use Rattle.slot_plan.specs.declared.certificate.ProgramEntry.{ProgramEntry}
use Rattle.slot_plan.specs.declared.plan.PlanError.{PlanError}
use Rattle.slot_plan.specs.declared.plan.PlanError.TheVariants.{Slots, Entries, Number}

-- a certificate: the claims for each stream and for each program
pub record Certified : Type 0 where
  pub streams : List StreamEntry
  pub programs : List ProgramEntry

-- a plan: the slots of one period, and the claims for them
pub record Planned : Type 0 where
  pub slots : List Slot
  pub certificate : Certified

-- the most slots of a plan, and entries of a kind
abbrev pub max_slots : ℕ
max_slots = 99999

abbrev pub max_entries : ℕ
max_entries = 256

-- whether the numbers of the claim for a multiplexing buffer, if there is a claim, are in range
abbrev pub is_small_multiplexing : Option MultiplexingEntry → Bool
is_small_multiplexing None = true
is_small_multiplexing (Some m) = nat_lt m.start number_limit && nat_lt m.peak number_limit

-- whether the numbers of a stream's entry are in range
abbrev pub is_small_stream : StreamEntry → Bool
is_small_stream e =
    nat_lt e.spread number_limit && nat_lt e.start number_limit && nat_lt e.peak number_limit && is_small_multiplexing e.multiplexing

-- whether the numbers of a program's entry are in range
abbrev pub is_small_program : ProgramEntry → Bool
is_small_program e =
    nat_lt e.transport_start number_limit && nat_lt e.transport_peak number_limit && nat_lt e.system_start number_limit && nat_lt e.system_peak number_limit

-- whether all numbers of a certificate are in range
abbrev pub has_small_numbers : Certified → Bool
has_small_numbers c = list_all is_small_stream c.streams && list_all is_small_program c.programs

-- the first reason against a plan of these slots with this certificate
abbrev pub plan_error : List Slot → Certified → Option PlanError
plan_error slots certificate =
    if nat_lt max_slots (length slots) then Some Slots
    else (if nat_lt max_entries (length certificate.streams) || nat_lt max_entries (length certificate.programs) then Some Entries
    else (if has_small_numbers certificate then None else Some Number))
