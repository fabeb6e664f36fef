-- The packets of the finished bytes, and their PIDs.
use Rattle.std.proofs.Common.{◌≡◌, ◌⊎◌, ℕ, zero, suc, List, Some, All, ap, sym, subst, ◌∙◌, inl, inr}
use Rattle.std.proofs.lemmas.List.Elements.{All-nil, All-cons}
use Rattle.pes_packet.specs.AccessUnits.{AccessUnit}
use Rattle.ts_packet.specs.Packets.{null_view}
use Rattle.ts_packet.specs.PidList.{Entry, cut_packets, entries_of}
use Rattle.ts_packet.proofs.Listing.{first_cut}
use Rattle.slot_contents.specs.Contents.{Content, NullContent, packet_of, view_of, run_bytes, entry_at}
use Rattle.slot_contents.specs.RunLaws.{Fits}
use Rattle.slot_contents.proofs.Runs.{content_again, all_entries, run_entries}
use Rattle.slot_plan.specs.Schedule.{slot_of}
use Rattle.mux_core.specs.Scheduled.{Scheduled}
use Rattle.mux_core.specs.Histories.{content_over, TextsSoFar}
use Rattle.mux_core.specs.Headline.{IsTransportPacket, IsNamed}
use Rattle.mux_core.proofs.ContentPids.{content_pid_view, content_unmarked, speaks}

-- Every 188 bytes are a packet

packets_read : (content : ℕ → Content) (s n : ℕ) → Fits content → All IsTransportPacket (cut_packets (run_bytes content s n))
unfolding run_bytes
packets_read content s zero fits = All-nil IsTransportPacket
packets_read content s (suc n) fits =
    let again = content_again (content s) (fits s) in
    subst (All IsTransportPacket) (sym (first_cut (packet_of (content s)) (run_bytes content (suc s) n) again.size))
    (All-cons IsTransportPacket (packet_of (content s)) (cut_packets (run_bytes content (suc s) n)) (view_of (content s), again.says)
    (packets_read content (suc s) n fits))

pub all_read : (content : ℕ → Content) (n : ℕ) → Fits content → All IsTransportPacket (cut_packets (run_bytes content 0 n))
all_read content n fits = packets_read content 0 n fits

-- Each packet is the null packet, or has a PID that a slot names

abbrev IsKnown : Scheduled → Entry → Type 0
IsKnown d e = (e.packet ≡ null_view) ⊎ IsNamed d.description e.packet

null_known : (c : Content) → c ≡ NullContent → view_of c ≡ null_view
unfolding view_of
null_known c e = ap view_of e

known : (d : Scheduled) (changes : TextsSoFar) (units : ℕ → List AccessUnit) (s : ℕ) → IsKnown d (entry_at s (content_over d changes units s))
unfolding content_over
known d changes units s = elim (speaks d changes units s (slot_of d.schedule s)) [
  | inl null ↦ inl (null_known (content_over d changes units s) null)
  | inr named ↦ inr ((slot_of d.schedule s, named ∙ ap Some (sym (content_pid_view (content_over d changes units s)))), content_unmarked (content_over d changes units s))
]

all_known : (d : Scheduled) (changes : TextsSoFar) (units : ℕ → List AccessUnit) (s n : ℕ) → All (IsKnown d) (all_entries (content_over d changes units) s n)
unfolding all_entries
all_known d changes units s zero = All-nil (IsKnown d)
all_known d changes units s (suc n) = All-cons (IsKnown d) (entry_at s (content_over d changes units s)) (all_entries (content_over d changes units) (suc s) n) (known d changes units s)
    (all_known d changes units (suc s) n)

pub pids_known : (d : Scheduled) (changes : TextsSoFar) (units : ℕ → List AccessUnit) (n : ℕ) → Fits (content_over d changes units) →
    All (IsKnown d) (entries_of (run_bytes (content_over d changes units) 0 n))
pids_known d changes units n fits = subst (All (IsKnown d)) (sym (run_entries (content_over d changes units) n fits)) (all_known d changes units 0 n)
