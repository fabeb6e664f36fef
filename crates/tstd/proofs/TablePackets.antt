-- The packets of a program's tables pass two buffers.
use Rattle.std.proofs.Common.{◌≡◌, ℕ, suc, ◌+◌, ◌-◌, ◌*◌, ◌^◌, ◌≤◌, ◌<◌, max, true, false, List, [], ◌∷◌, length, drop, get_or, refl, ap, sym, arith, add-one}
use Rattle.std.proofs.Common.{inl, inr}
use Rattle.std.proofs.Math.Seq.{drop-cons}
use Rattle.std.proofs.lemmas.Bool.{cases_Bool}
use Rattle.std.proofs.lemmas.List.{drop_all}
use Rattle.std.proofs.lemmas.List.Sums.{fold-append}
use Rattle.clock27.specs.Arrival.{bytes_from, arrivals}
use Rattle.clock27.specs.Departure.{departures, last_left}
use Rattle.clock27.specs.Peak.{Climbs}
use Rattle.clock27.proofs.Departures.{departures-append}
use Rattle.ts_packet.specs.Reading.{packet_at}
use Rattle.tstd.specs.declared.queue.Queue.{Queue}
use Rattle.tstd.specs.PacketLists.{is_of_tables, tables_from}
use Rattle.tstd.specs.Queues.{arrived, all_arrived}
use Rattle.tstd.proofs.RisingTimes.{climbs_low}
use Rattle.tstd.proofs.QueueStates.{passed-step, passed-last}

-- The next byte of the bytes up to `end` passes both buffers.
pub pass_step : (q p : Queue) (byte end : ℕ) → byte < end →
    all_arrived (arrived p (max (byte * 2000000) q.last + q.step))
    (departures q.step (max (byte * 2000000) q.last + q.step) (bytes_from 2000000 (byte + 1) (end - (byte + 1))))
    ≡ all_arrived p (departures q.step q.last (bytes_from 2000000 byte (end - byte)))
unfolding bytes_from departures
pass_step q p byte end below =
    let e : end - byte ≡ suc (end - (byte + 1)) = omega arith in
    let s : byte + 1 ≡ suc byte = add-one byte in
    rw e (rw s refl)

pub pass_end : (q p : Queue) (byte end : ℕ) → end ≤ byte → p ≡ all_arrived p (departures q.step q.last (bytes_from 2000000 byte (end - byte)))
unfolding bytes_from departures
pass_end q p byte end le =
    let e : end - byte ≡ 0 = omega arith in
    rw e refl

-- Byte number b leaves the first buffer at (b + 1) * 2^34 at the latest.
pub pass_pace : (byte last step : ℕ) → step ≤ 2 ^ 33 → last ≤ byte * 2 ^ 34 → max (byte * 2000000) last + step ≤ (byte + 1) * 2 ^ 34
pass_pace byte last step short paced = omega (arith, short, paced)

-- Packet i enters the buffers if it carries tables.
pub tables_own : (pmt_pid i : ℕ) (chunks : List (List ℕ)) (d : List ℕ) → i < length chunks → is_of_tables pmt_pid (packet_at (get_or chunks i d)) ≡ true →
    tables_from pmt_pid i (drop i chunks) ≡ i ∷ tables_from pmt_pid (i + 1) (drop (i + 1) chunks)
unfolding tables_from
tables_own pmt_pid i chunks d below own =
    let s : drop (i + 1) chunks ≡ drop (suc i) chunks = ap (λ (n : ℕ). drop n chunks) (add-one i) in
    rw (drop-cons chunks i d below, own, s) refl

pub tables_other : (pmt_pid i : ℕ) (chunks : List (List ℕ)) (d : List ℕ) → i < length chunks → is_of_tables pmt_pid (packet_at (get_or chunks i d)) ≡ false →
    tables_from pmt_pid i (drop i chunks) ≡ tables_from pmt_pid (i + 1) (drop (i + 1) chunks)
unfolding tables_from
tables_other pmt_pid i chunks d below other =
    let s : drop (i + 1) chunks ≡ drop (suc i) chunks = ap (λ (n : ℕ). drop n chunks) (add-one i) in
    rw (drop-cons chunks i d below, other, s) refl

pub tables_end : (pmt_pid i : ℕ) (chunks : List (List ℕ)) → length chunks ≤ i → tables_from pmt_pid i (drop i chunks) ≡ []
unfolding tables_from
tables_end pmt_pid i chunks over = rw (drop_all i chunks over) refl

-- A packet passes the first buffer.
pub packet_arrives : (q : Queue) (from i : ℕ) (slots : List ℕ) → from ≡ 188 * i →
    all_arrived (all_arrived q (bytes_from 2000000 from 188)) (arrivals 2000000 slots) ≡ all_arrived q (arrivals 2000000 (i ∷ slots))
unfolding arrivals
packet_arrives q from i slots at =
    rw at (sym (fold-append arrived q (bytes_from 2000000 (188 * i) 188) (arrivals 2000000 slots)))

-- A packet passes the second buffer.
pub packet_passes : (q p : Queue) (from i : ℕ) (slots : List ℕ) → from ≡ 188 * i →
    (let r = all_arrived q (bytes_from 2000000 from 188) in
    all_arrived (all_arrived p (departures q.step q.last (bytes_from 2000000 from 188))) (departures r.step r.last (arrivals 2000000 slots)))
    ≡ all_arrived p (departures q.step q.last (arrivals 2000000 (i ∷ slots)))
unfolding arrivals
packet_passes q p from i slots at =
    let row = bytes_from 2000000 (188 * i) 188 in
    let rest = arrivals 2000000 slots in
    rw (at, passed-step q row, passed-last q row, departures-append q.step q.last row rest)
    (sym (fold-append arrived p (departures q.step q.last row) (departures q.step (last_left q.step q.last row) rest)))

-- The indices of the packets rise.
tables_climb : (pmt_pid index : ℕ) (chunks : List (List ℕ)) → Climbs index (tables_from pmt_pid index chunks)
unfolding Climbs tables_from
tables_climb pmt_pid index [] = tt
tables_climb pmt_pid index (chunk ∷ chunks) =
    let rest = rw (add-one index) at (tables_climb pmt_pid (index + 1) chunks) in
    let next : index ≤ suc index = omega arith in
    let same : index ≤ index = omega arith in
    elim (cases_Bool (is_of_tables pmt_pid (packet_at chunk))) [
      | inl own ↦ rw (own, add-one index) (same, rest)
      | inr other ↦ rw (other, add-one index) (climbs_low index (suc index) (tables_from pmt_pid (suc index) chunks) next rest)
    ]

pub tables_rise : (pmt_pid : ℕ) (chunks : List (List ℕ)) → Climbs 0 (tables_from pmt_pid 0 chunks)
tables_rise pmt_pid chunks = tables_climb pmt_pid 0 chunks

pub tables_few : (pmt_pid index : ℕ) (chunks : List (List ℕ)) → length (tables_from pmt_pid index chunks) ≤ length chunks
unfolding tables_from
tables_few pmt_pid index [] = omega arith
tables_few pmt_pid index (chunk ∷ chunks) =
    let rest = tables_few pmt_pid (index + 1) chunks in
    elim (cases_Bool (is_of_tables pmt_pid (packet_at chunk))) [
      | inl own ↦ rw own (omega (arith, rest))
      | inr other ↦ rw other (omega (arith, rest))
    ]
