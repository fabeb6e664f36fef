-- Each packet of the finished bytes is in the clear, and has a payload alone or a clock reference alone.
use Rattle.std.proofs.Common.{◌≡◌, ◌⊎◌, ℕ, zero, suc, ◌%◌, List, Option, Some, None, All, slice_get, refl, ap, sym, subst, inl, inr}
use Rattle.std.specs.Prelude.{⊤}
use Rattle.std.proofs.lemmas.List.Elements.{All-nil, All-cons}
use Rattle.own_slots.specs.Slots.{own_before}
use Rattle.pes_packet.specs.AccessUnits.{AccessUnit}
use Rattle.ts_packet.specs.declared.start.Start.{Start}
use Rattle.ts_packet.specs.Packets.{field_of, payload_view, stuffing_field}
use Rattle.ts_packet.specs.PidList.{Entry, entries_of}
use Rattle.ts_packet.proofs.PlainWritten.{start_again}
use Rattle.slot_contents.specs.Contents.{Content, PayloadContent, PcrContent, NullContent, Piece, view_of, run_bytes, entry_at}
use Rattle.slot_contents.specs.RunLaws.{Fits}
use Rattle.slot_contents.proofs.Runs.{all_entries, run_entries}
use Rattle.description_parts.specs.Described.{Described, DescribedStream}
use Rattle.description_parts.specs.Tables.{table_kinds, table_pid}
use Rattle.description_parts.specs.declared.table_kind.TableKind.{TableKind}
use Rattle.slot_plan.specs.declared.slot.Slot.{Slot}
use Rattle.slot_plan.specs.declared.slot.Slot.TheVariants.{Stream, Pcr, Table, Null}
use Rattle.slot_plan.specs.Schedule.{slot_of}
use Rattle.slot_plan.specs.SlotPids.{slot_pid}
use Rattle.unit_queue.specs.Places.{UnitPlace, place_at, content_of}
use Rattle.table_rounds.specs.Tables.{payloads_before, part_at}
use Rattle.table_rounds.specs.Parts.{part_content}
use Rattle.mux_core.specs.Scheduled.{Scheduled}
use Rattle.mux_core.specs.Histories.{owned_stream, table_over, stream_in, pcr_content, table_in, content_in, content_over, TextsSoFar}
use Rattle.mux_core.specs.Headline.{IsPayloadAlone, IsClockAlone}

-- a clock reference is on the PCR PID of a program
abbrev ClockNamed : Described → Content → Type 0
ClockNamed d (PayloadContent pid number start payload) = ⊤
ClockNamed d (PcrContent pid pcr) = (i : ℕ) × (slot_pid d (Pcr i) ≡ Some pid)
ClockNamed d NullContent = ⊤

stream_named : (d : Scheduled) (units : ℕ → List AccessUnit) (s k : ℕ) (o : Option DescribedStream) → ClockNamed d.description (stream_in d units s k o)
unfolding stream_in
stream_named d units s k None = tt
stream_named d units s k (Some x) = by (place_at (owned_stream d k x) 0 0 (units k) (own_before (owned_stream d k x).own s))
  where
    by : (o : Option UnitPlace) → ClockNamed d.description (content_of (owned_stream d k x) o)
    by None = tt
    by (Some place) = tt

clock_named : (d : Scheduled) (s i : ℕ) (o : Option ℕ) → slot_pid d.description (Pcr i) ≡ o → ClockNamed d.description (pcr_content d.description s o)
unfolding pcr_content
clock_named d s i None is = tt
clock_named d s i (Some pid) is = (i, is)

table_named : (d : Scheduled) (changes : TextsSoFar) (s t : ℕ) (o : Option TableKind) → ClockNamed d.description (table_in d changes s t o)
unfolding table_in part_content
table_named d changes s t None = tt
table_named d changes s t (Some kind) = by (part_at (table_over d changes t) s)
  where
    by : (o : Option Piece) → ClockNamed d.description (part_content (table_pid d.description t) (payloads_before (table_over d changes t) s) o)
    by None = tt
    by (Some part) = tt

named : (d : Scheduled) (changes : TextsSoFar) (units : ℕ → List AccessUnit) (s : ℕ) (slot : Slot) → ClockNamed d.description (content_in d changes units s slot)
unfolding content_in
named d changes units s (Stream k) = stream_named d units s k (slice_get d.description.streams k)
named d changes units s (Pcr i) = clock_named d s i (slot_pid d.description (Pcr i)) refl
named d changes units s (Table t) = table_named d changes s t (slice_get (table_kinds d.description) t)
named d changes units s Null = tt

abbrev IsAlone : Described → Entry → Type 0
IsAlone d e = IsPayloadAlone e.packet ⊎ IsClockAlone d e.packet

content_alone : (d : Described) (s : ℕ) (c : Content) → ClockNamed d c → IsAlone d (entry_at s c)
unfolding view_of field_of stuffing_field
content_alone d s (PayloadContent pid number start payload) on =
    inl (ap (λ (x : Start). payload_view pid x (number % 16) payload) (sym (start_again pid start (number % 16) payload)))
content_alone d s (PcrContent pid pcr) on = inr (record { program = on.0; named = on.1; reference = pcr; alone = refl })
content_alone d s NullContent on = inl refl

all_alone : (d : Scheduled) (changes : TextsSoFar) (units : ℕ → List AccessUnit) (s n : ℕ) → All (IsAlone d.description) (all_entries (content_over d changes units) s n)
unfolding all_entries content_over
all_alone d changes units s zero = All-nil (IsAlone d.description)
all_alone d changes units s (suc n) = All-cons (IsAlone d.description) (entry_at s (content_over d changes units s)) (all_entries (content_over d changes units) (suc s) n)
    (content_alone d.description s (content_over d changes units s) (named d changes units s (slot_of d.schedule s))) (all_alone d changes units (suc s) n)

pub all_clear : (d : Scheduled) (changes : TextsSoFar) (units : ℕ → List AccessUnit) (n : ℕ) → Fits (content_over d changes units) →
    All (λ e. IsPayloadAlone e.packet ⊎ IsClockAlone d.description e.packet) (entries_of (run_bytes (content_over d changes units) 0 n))
all_clear d changes units n fits = subst (All (IsAlone d.description)) (sym (run_entries (content_over d changes units) n fits)) (all_alone d changes units 0 n)
