-- The laws on runs of slots: the content of the finished bytes, by what each slot carries.
use Rattle.std.specs.Prelude.{◌≡◌, ℕ, ◌*◌, ◌<◌, ◌==◌, ◌||◌, Bool, false, cond, List, [], length, map, filter, Option}
use Rattle.std.specs.List.{concat, flat_map}
use Rattle.own_slots.specs.Slots.{own_before, own_slots}
use Rattle.ts_packet.specs.Laws.{ReadAgain}
use Rattle.ts_packet.specs.PidList.{entries_of, is_of_pid, pid_list, payloads_on}
use Rattle.slot_contents.specs.Contents.{Content, packet_of, view_of, ContentFits, run_bytes, entries_in, Payload, payload_in, payloads_in, Numbered}
use Rattle.slot_contents.specs.Contents.{PayloadCount, HasNumber, payload_entries, payload_at, Piece, put}

-- the packet of what can be one has 188 bytes, and is read again
abbrev pub ContentAgainLaw : Type 0
ContentAgainLaw = (c : Content) → ContentFits c → ReadAgain (packet_of c) (view_of c)

-- each slot can be a packet
abbrev pub Fits : (ℕ → Content) → Type 0
Fits content = (t : ℕ) → ContentFits (content t)

abbrev pub RunLengthLaw : Type 0
RunLengthLaw = (content : ℕ → Content) (s n : ℕ) → Fits content → length (run_bytes content s n) ≡ 188 * n

-- the PID list of the bytes, slot by slot
abbrev pub RunListLaw : Type 0
RunListLaw = (pid n : ℕ) (content : ℕ → Content) → Fits content → pid_list pid (run_bytes content 0 n) ≡ entries_in pid content 0 n

-- if a PID's packets are in an item's own slots, their indices are these slots
abbrev pub RunIndicesLaw : Type 0
RunIndicesLaw = (pid n : ℕ) (content : ℕ → Content) (own : ℕ → Bool) → Fits content → ((t : ℕ) → is_of_pid pid (view_of (content t)) ≡ own t) →
    map (λ entry. entry.index) (pid_list pid (run_bytes content 0 n)) ≡ own_slots own 0 n

-- the same for two PIDs together, such as two PIDs whose packets enter one buffer
abbrev pub RunTwoLaw : Type 0
RunTwoLaw = (p q n : ℕ) (content : ℕ → Content) (own : ℕ → Bool) → Fits content
    → ((t : ℕ) → (is_of_pid p (view_of (content t)) || is_of_pid q (view_of (content t))) ≡ own t) →
    map (λ entry. entry.index) (filter (λ entry. is_of_pid p entry.packet || is_of_pid q entry.packet) (entries_of (run_bytes content 0 n))) ≡ own_slots own 0 n

-- a count of the payloads before each slot numbers them
abbrev pub PayloadCountLaw : Type 0
PayloadCountLaw = (pid n : ℕ) (content : ℕ → Content) (count : ℕ → ℕ) → PayloadCount pid n content count →
    ((s : ℕ) → s < n → HasNumber pid (content s) (count s)) →
    Numbered pid content 0 n 0

-- numbered payloads on a PID are all that its list has: counters go up by one modulo 16 from 0
abbrev pub RunPayloadEntriesLaw : Type 0
RunPayloadEntriesLaw = (pid n : ℕ) (content : ℕ → Content) → Fits content → (pid == 8191) ≡ false → Numbered pid content 0 n 0 →
    pid_list pid (run_bytes content 0 n) ≡ payload_entries pid 0 (payloads_in pid content 0 n)

-- a payload comes back from its packet, with the packet's index and what begins with it
abbrev pub PayloadEntriesAgainLaw : Type 0
PayloadEntriesAgainLaw = (pid number : ℕ) (payloads : List Payload) → map payload_at (payload_entries pid number payloads) ≡ payloads

-- and so do the payloads of a run, joined
abbrev pub RunJoinedLaw : Type 0
RunJoinedLaw = (pid n : ℕ) (content : ℕ → Content) → Fits content → (pid == 8191) ≡ false → Numbered pid content 0 n 0 →
    payloads_on pid (run_bytes content 0 n) ≡ concat (map (λ p. p.bytes) (payloads_in pid content 0 n))

-- where own slots alone carry payloads on a PID, by their numbers, the PID's payloads are theirs
abbrev pub RunByNumberLaw : Type 0
RunByNumberLaw = (pid n : ℕ) (content : ℕ → Content) (own : ℕ → Bool) (carries : ℕ → Option Piece) →
    ((t : ℕ) → t < n → payload_in pid t (content t) ≡ cond (own t) (put t (carries (own_before own t))) []) →
    payloads_in pid content 0 n ≡ flat_map (λ s. put s (carries (own_before own s))) (own_slots own 0 n)
