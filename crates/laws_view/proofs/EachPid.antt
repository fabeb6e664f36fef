-- Faults of one PID, and the packets of a PID in order.
use Rattle.std.proofs.Common.{ℕ, ◌+◌, ◌<◌, Bool, true, false, cond, List, [], ◌∷◌, map, filter, Result}
use Rattle.std.proofs.Common.{Ok, Err, arith}
use Rattle.std.specs.List.{cons_option, enumerate_from, filter_map}
use Rattle.ts_packet.specs.declared.packet.PacketError.{PacketError}
use Rattle.ts_packet.specs.Views.{PacketView}
use Rattle.ts_packet.specs.Reading.{packet_at}
use Rattle.ts_packet.specs.PidList.{Entry, cut_packets, entries_of, entry_of, is_of_pid, pid_list}
use Rattle.laws_view.proofs.PlaceOrder.{Increasing, Over}

-- 1. Packets in order

abbrev pub places : List Entry → List ℕ
places entries = map (λ entry. entry.index) entries

abbrev entries_from : ℕ → List (List ℕ) → List Entry
entries_from i packets = filter_map (λ p. entry_of p.0 p.1 (packet_at p.1)) (enumerate_from i packets)

over_entry : (n i : ℕ) (bytes : List ℕ) (r : Result PacketView PacketError) (rest : List Entry) → n < i → Over n (places rest) →
    Over n (places (cons_option (entry_of i bytes r) rest))
unfolding entry_of
over_entry n i bytes (Ok packet) rest h k = (h, k)
over_entry n i bytes (Err error) rest h k = k

over_entries : (n i : ℕ) (packets : List (List ℕ)) → n < i → Over n (places (entries_from i packets))
over_entries n i [] h = tt
over_entries n i (bytes ∷ packets) h =
    over_entry n i bytes (packet_at bytes) (entries_from (i + 1) packets) h (over_entries n (i + 1) packets (omega (arith, h)))

next_entry : (i : ℕ) (bytes : List ℕ) (r : Result PacketView PacketError) (rest : List Entry) → Over i (places rest) → Increasing (places rest) →
    Increasing (places (cons_option (entry_of i bytes r) rest))
unfolding entry_of
next_entry i bytes (Ok packet) rest h k = (h, k)
next_entry i bytes (Err error) rest h k = k

increasing_entries : (i : ℕ) (packets : List (List ℕ)) → Increasing (places (entries_from i packets))
increasing_entries i [] = tt
increasing_entries i (bytes ∷ packets) =
    next_entry i bytes (packet_at bytes) (entries_from (i + 1) packets) (over_entries i (i + 1) packets (omega arith)) (increasing_entries (i + 1) packets)

pub over_filter : (p : Entry → Bool) (n : ℕ) (entries : List Entry) → Over n (places entries) → Over n (places (filter p entries))
over_filter p n [] h = tt
over_filter p n (x ∷ entries) h = by (p x) (over_filter p n entries h.1)
  where
    by : (t : Bool) → Over n (places (filter p entries)) → Over n (places (cond t (x ∷ filter p entries) (filter p entries)))
    by true k = (h.0, k)
    by false k = k

pub increasing_filter : (p : Entry → Bool) (entries : List Entry) → Increasing (places entries) → Increasing (places (filter p entries))
increasing_filter p [] h = tt
increasing_filter p (x ∷ entries) h = by (p x) (increasing_filter p entries h.1)
  where
    by : (t : Bool) → Increasing (places (filter p entries)) → Increasing (places (cond t (x ∷ filter p entries) (filter p entries)))
    by true k = (over_filter p x.index entries h.0, k)
    by false k = k

pub increasing_pid : (pid : ℕ) (bytes : List ℕ) → Increasing (places (pid_list pid bytes))
increasing_pid pid bytes = increasing_filter (λ entry. is_of_pid pid entry.packet) (entries_of bytes) (increasing_entries 0 (cut_packets bytes))
