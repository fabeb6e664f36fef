-- The packets of a PID in finished bytes, one by one, and as a stream's buffers see them
use Rattle.std.proofs.Common.{◌≡◌, ◌∙◌, sym, ℕ, ◌+◌, ◌≤◌, ◌<◌, ◌&&◌, ◌==◌, not, min, cond, Bool, true, false, List, [], ◌∷◌, ◌++◌, length, map, filter, Option}
use Rattle.std.proofs.Common.{Some, None, Result, Ok, Err, if◌then◌else◌, refl, ap, subst, inl, inr, nat_eq, arith}
use Rattle.std.specs.List.{enumerate_from, filter_map}
use Rattle.std.proofs.lemmas.Bool.Decides.{eqb_tells}
use Rattle.ts_packet.specs.declared.packet.PacketError.{PacketError}
use Rattle.ts_packet.specs.Views.{PacketView}
use Rattle.ts_packet.specs.Reading.{packet_at}
use Rattle.ts_packet.specs.PidList.{Entry, cut_packets, entry_of, is_of_pid, payload_of, pid_list}
use Rattle.pes_packet.specs.AccessUnits.{AccessUnit}
use Rattle.tstd.specs.PidPackets.{packets_from}
use Rattle.unit_timing.specs.Schedule.{Packet}
use Rattle.tstd.proofs.StreamPackets.{packets_same}
use Rattle.tstd_rows.specs.declared.arriving.Arriving.{Arriving}
use Rattle.laws_view.specs.StreamPackets.{Before, Followed, known_after, known_after_all, most_packets, seen_among, seen_in, sound_packet}
use Rattle.laws_view.proofs.Lists.{apart, itself}
use Rattle.laws_view.proofs.StreamIndices.{index_more}
use Rattle.laws_view.proofs.MainBytes.{timed_packet}
use Rattle.laws_view.proofs.SentUnits.{AllSent, entry_packet, number_after}
use Rattle.laws_view.proofs.ClockAhead.{ClockIs, clock_step, entries_from, listed}
use Rattle.laws_view.proofs.RunClocks.{IsRun, Run}

-- The packets of a PID, as a list

all_entries : ℕ → List (List ℕ) → List Entry
all_entries index chunks = filter_map (λ p. entry_of p.0 p.1 (packet_at p.1)) (enumerate_from index chunks)

-- A packet of the PID is listed if it is not marked as wrong.
one_listed : (pid index : ℕ) (bytes : List ℕ) (packet : PacketView) (xs ys : List Entry) (wrong : Bool) → xs ≡ ys →
    cond (packet.header.pid == pid && not wrong) (record { index = index; bytes = bytes; packet = packet } ∷ xs) xs ≡ listed pid index bytes
    (if wrong then None else Some packet) ys
unfolding listed
one_listed pid index bytes packet xs ys true rest = elim (eqb_tells packet.header.pid pid) [
  | inl same ↦ rw same.0 rest
  | inr other ↦ rw other.0 rest
]
one_listed pid index bytes packet xs ys false rest = elim (eqb_tells packet.header.pid pid) [
  | inl same ↦ let own : nat_eq pid packet.header.pid ≡ true = rw same.1 (itself pid) in
      rw (same.0, own) (ap (λ (l : List Entry). record { index = index; bytes = bytes; packet = packet } ∷ l) rest)
  | inr other ↦ let no : nat_eq pid packet.header.pid ≡ false = apart pid packet.header.pid (λ p. other.1 (sym p)) in rw (other.0, no) rest
]

one_entry : (pid index : ℕ) (bytes : List ℕ) (chunks : List (List ℕ)) (read : Result PacketView PacketError) → packet_at bytes ≡ read →
    filter (λ entry. is_of_pid pid entry.packet) (all_entries (index + 1) chunks) ≡ entries_from pid (index + 1) chunks →
    filter (λ entry. is_of_pid pid entry.packet) (all_entries index (bytes ∷ chunks)) ≡ entries_from pid index (bytes ∷ chunks)
unfolding all_entries entries_from entry_of sound_packet
one_entry pid index bytes chunks (Err error) is rest = unfold listed in (rw is rest)
one_entry pid index bytes chunks (Ok packet) is rest =
    rw is (one_listed pid index bytes packet (filter (λ entry. is_of_pid pid entry.packet) (all_entries (index + 1) chunks))
    (entries_from pid (index + 1) chunks)
    packet.header.transport_error_indicator rest)

same_entries : (pid index : ℕ) (chunks : List (List ℕ)) →
    filter (λ entry. is_of_pid pid entry.packet) (all_entries index chunks) ≡ entries_from pid index chunks
unfolding all_entries entries_from
same_entries pid index [] = refl
same_entries pid index (bytes ∷ chunks) = one_entry pid index bytes chunks (packet_at bytes) refl (same_entries pid (index + 1) chunks)

pub pid_entries : (pid : ℕ) (bytes : List ℕ) → pid_list pid bytes ≡ entries_from pid 0 (cut_packets bytes)
unfolding all_entries
pid_entries pid bytes = same_entries pid 0 (cut_packets bytes)

-- The packets of a PID are the same by either list.
pub packets_entries : (pid index : ℕ) (chunks : List (List ℕ)) → map entry_packet (entries_from pid index chunks) ≡ packets_from pid index chunks
unfolding all_entries
packets_entries pid index chunks = ap (λ (es : List Entry). map entry_packet es) (sym (same_entries pid index chunks)) ∙ packets_same pid index chunks

-- A list in two parts
listed_two : (pid index : ℕ) (bytes : List ℕ) (o : Option PacketView) (es fs : List Entry) → listed pid index bytes o (es ++ fs) ≡ listed pid index bytes o es
    ++ fs
unfolding listed
listed_two pid index bytes None es fs = refl
listed_two pid index bytes (Some packet) es fs = by (nat_eq pid packet.header.pid)
  where
    e : Entry
    e = record { index = index; bytes = bytes; packet = packet }

    by : (w : Bool) → (if w then e ∷ (es ++ fs) else es ++ fs) ≡ (if w then e ∷ es else es) ++ fs
    by true = refl
    by false = refl

pub entries_two : (pid index : ℕ) (xs ys : List (List ℕ)) → entries_from pid index (xs ++ ys) ≡ entries_from pid index xs
    ++ entries_from pid (index + length xs) ys
unfolding entries_from
entries_two pid index [] ys = let e : index ≡ index + 0 = omega arith in ap (λ (i : ℕ). entries_from pid i ys) e
entries_two pid index (x ∷ xs) ys =
    let o : Option PacketView = sound_packet (packet_at x) in
    let e : index + 1 + length xs ≡ index + length (x ∷ xs) = omega arith in
    let rest = subst (λ (i : ℕ). entries_from pid (index + 1) (xs ++ ys) ≡ entries_from pid (index + 1) xs ++ entries_from pid i ys) e
    (entries_two pid (index + 1) xs ys) in
    ap (λ (l : List Entry). listed pid index x o l) rest
    ∙ listed_two pid index x o (entries_from pid (index + 1) xs) (entries_from pid (index + length (x ∷ xs)) ys)

-- The packets as the buffers see them, each with at most 184 bytes of payload

cut_packet : Entry → Packet
cut_packet e = record { slot = e.index; size = min (length (payload_of e.packet)) 184 }

one_seen : (f : Followed) (b : Before) (bytes : List ℕ) (o : Option PacketView) (ps : List Arriving) (es : List Entry) →
    map timed_packet ps ≡ map cut_packet es →
    map timed_packet (seen_in f b o ++ ps) ≡ map cut_packet (listed f.pid b.index bytes o es)
unfolding seen_in listed cut_packet
one_seen f b bytes None ps es rest = rest
one_seen f b bytes (Some packet) ps es rest = by (nat_eq f.pid packet.header.pid) refl
  where
    by : (w : Bool) → nat_eq f.pid packet.header.pid ≡ w →
        map timed_packet (seen_in f b (Some packet) ++ ps) ≡ map cut_packet (listed f.pid b.index bytes (Some packet) es)
    by true own = rw own (ap (λ (l : List Packet). record { slot = b.index; size = min (length (payload_of packet)) 184 } ∷ l) rest)
    by false other = rw other rest

seen_cut : (f : Followed) (b : Before) (chunks : List (List ℕ)) → map timed_packet (seen_among f b chunks) ≡ map cut_packet (entries_from f.pid b.index chunks)
unfolding seen_among entries_from
seen_cut f b [] = refl
seen_cut f b (bytes ∷ chunks) =
    let o : Option PacketView = sound_packet (packet_at bytes) in
    let b' : Before = known_after f b o in
    let rest : map timed_packet (seen_among f b' chunks) ≡ map cut_packet (entries_from f.pid (b.index + 1) chunks) =
    subst (λ (i : ℕ). map timed_packet (seen_among f b' chunks) ≡ map cut_packet (entries_from f.pid i chunks)) (index_more f b o) (seen_cut f b' chunks) in
    one_seen f b bytes o (seen_among f b' chunks) (entries_from f.pid (b.index + 1) chunks) rest

sent_cut : (base0 n : ℕ) (before : Option AccessUnit) (es : List Entry) (us : List AccessUnit) → AllSent base0 n before es us →
    map cut_packet es ≡ map entry_packet es
unfolding AllSent cut_packet
sent_cut base0 n before [] us sent = refl
sent_cut base0 n before (e ∷ es) [] sent = absurd sent
sent_cut base0 n before (e ∷ es) (u ∷ us) sent =
    let size : min (length (payload_of e.packet)) 184 ≡ length (payload_of e.packet) = omega (arith, sent.0.most) in
    rw size (ap (λ (l : List Packet). record { slot = e.index; size = length (payload_of e.packet) } ∷ l)
    (sent_cut base0 (number_after n e) (Some u) es us sent.1))

pub seen_packets : (base0 n : ℕ) (before : Option AccessUnit) (us : List AccessUnit) (f : Followed) (b : Before) (chunks : List (List ℕ)) →
    AllSent base0 n before (entries_from f.pid b.index chunks) us →
    map timed_packet (seen_among f b chunks) ≡ map entry_packet (entries_from f.pid b.index chunks)
seen_packets base0 n before us f b chunks sent = seen_cut f b chunks ∙ sent_cut base0 n before (entries_from f.pid b.index chunks) us sent

-- The clock references before the packets

pub clock_all : (r : Run) (f : Followed) (b : Before) (chunks rest : List (List ℕ)) → IsRun r f.options → b.index + length chunks ≤ r.slots →
    ClockIs f.options r.rate r.base0 r.limit r.slots f.clock_pid b.index b.clock (entries_from f.clock_pid b.index (chunks ++ rest)) →
    ClockIs f.options r.rate r.base0 r.limit r.slots f.clock_pid (known_after_all f b chunks).index (known_after_all f b chunks).clock
    (entries_from f.clock_pid (known_after_all f b chunks).index rest)
unfolding known_after_all entries_from
clock_all r f b [] rest run few clock = clock
clock_all r f b (bytes ∷ chunks) rest run few clock =
    let o : Option PacketView = sound_packet (packet_at bytes) in
    let b' : Before = known_after f b o in
    let more : b'.index ≡ b.index + 1 = index_more f b o in
    let early : b.index < most_packets = omega (arith, few, run.slots) in
    let next = clock_step f b r.rate r.base0 r.limit r.slots bytes o (entries_from f.clock_pid (b.index + 1) (chunks ++ rest)) run.arrival early clock in
    clock_all r f b' chunks rest run (omega (arith, few, more))
    (subst (λ (i : ℕ). ClockIs f.options r.rate r.base0 r.limit r.slots f.clock_pid i b'.clock (entries_from f.clock_pid i (chunks ++ rest))) (sym more) next)
