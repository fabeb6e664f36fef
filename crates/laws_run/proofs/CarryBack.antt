-- A demultiplexer gives back unit by unit what `carry` wrote.
use Rattle.std.proofs.Common.{◌≡◌, ℕ, zero, suc, ◌+◌, ◌%◌, ◌<◌, ◌≤◌, ◌==◌, Bool, true, false, cond, List, [], ◌∷◌, ◌++◌, length, map, take, drop, Option, Some}
use Rattle.std.proofs.Common.{None, refl, sym, ap, ap₂, subst, ◌∙◌, arith, All, inl, inr, IsTrue, eqb-true, ne_eqb, length-append, append_assoc}
use Rattle.std.specs.List.{flat_map}
use Rattle.std.proofs.Math.Seq.{take-append_seam, drop-append_seam, take-length}
use Rattle.std.proofs.lemmas.Bool.{cases_Bool}
use Rattle.std.proofs.lemmas.List.{length-take, length-map}
use Rattle.std.proofs.lemmas.List.Elements.{All-nil, All-cons, All-head, All-tail, All-append}
use Rattle.std.proofs.lemmas.List.Sums.{sum_by-cons}
use Rattle.std.proofs.lemmas.List.Concat.{flat_map-cons}
use Rattle.std.proofs.lemmas.Grind.{flat_map-append}
use Rattle.pes_packet.specs.AccessUnits.{AccessUnit}
use Rattle.pes_packet.specs.Encoding.{pes_packet_bytes}
use Rattle.pes_packet.specs.StreamIds.{fits_packet}
use Rattle.pes_packet.specs.Payloads.{pieces, unit_pieces as cut_into}
use Rattle.pes_packet.proofs.Payloads.{payloads_join}
use Rattle.pes_packet.proofs.UnitPieces.{unit_pieces_join}
use Rattle.ts_packet.specs.declared.start.Start.{Start}
use Rattle.ts_packet.specs.declared.start.Start.TheVariants.{Continues, Begins, Access}
use Rattle.ts_packet.specs.Beginnings.{room_of, start_by}
use Rattle.ts_packet.specs.Packets.{payload_packet}
use Rattle.ts_packet.specs.PidList.{Entry}
use Rattle.slot_contents.specs.Contents.{Content, Payload, Piece, run_bytes, payloads_in, payload_entries}
use Rattle.slot_contents.specs.RunLaws.{Fits}
use Rattle.slot_contents.proofs.Counts.{run_payload_entries}
use Rattle.pid_findings.specs.Views.{FindingView}
use Rattle.demux.specs.Laws.{with_pid_at, has_pid, found_of}
use Rattle.unit_queue.specs.OwnedStreams.{has_access}
use Rattle.unit_queue.specs.Payloads.{marked, piece_in}
use Rattle.laws_run.specs.Sent.{Sending, sendings, start_chunks, each_found}
use Rattle.laws_run.specs.Units.{unit_packets, unit_start, unit_pieces, unit_found}
use Rattle.laws_run.specs.PidLaws.{IsRun, CarriesPieces, all_found, found_on, packets_on, InOrder}
use Rattle.laws_run.proofs.PesPrefixes.{unit_is_pes}
use Rattle.laws_run.proofs.TablesAndStreams.{same_chunks}
use Rattle.laws_run.proofs.PidPackets.{numbered_payloads}
use Rattle.laws_run.proofs.FoundInRun.{units_come_back, nothing_comes_back}
use Rattle.laws_run.proofs.OfPids.{found_in_order}
use Rattle.laws_run.proofs.CleanPackets.{by_pids}
use Rattle.mux_core.proofs.PutTogether.{marked_length}
use Rattle.mux_core.specs.PidPackets.{payload_packets, stream_packets}
use Rattle.mux_core.specs.Formats.{formatted, formatted_all}
use Rattle.mux_core.specs.RecordRuns.{carried}
use Rattle.laws_run.specs.CarriedBack.{packets_from, in_a_row, packet_count, CarriedBackLaw}
use Rattle.laws_run.proofs.Row.{row, row_content, PieceFits, row_fits, row_bytes, row_pieces, row_indices, row_numbered, row_silent}

-- The output of `carry` as a row of payloads

marked_row : (pid s : ℕ) (start : Start) (chunks : List (List ℕ)) → formatted_all false (payload_packets pid start s chunks) ≡ row pid s (marked start chunks)
unfolding payload_packets marked row formatted
marked_row pid s start [] = refl
marked_row pid s start (c ∷ cs) =
    let e : s + 1 ≡ suc s = omega arith in
    let one : List ℕ = payload_packet pid start (s % 16) c in
    flat_map-cons (formatted false) one (payload_packets pid Continues (s + 1) cs)
    ∙ ap (λ (xs : List ℕ). one ++ xs) (ap (λ (n : ℕ). formatted_all false (payload_packets pid Continues n cs)) e ∙ marked_row pid (suc s) Continues cs)

row_append : (pid s : ℕ) (xs ys : List Piece) → row pid s (xs ++ ys) ≡ row pid s xs ++ row pid (s + length xs) ys
unfolding row
row_append pid s [] ys = let z : s ≡ s + 0 = omega arith in ap (λ (n : ℕ). row pid n ys) z
row_append pid s (x ∷ xs) ys =
    let e : suc s + length xs ≡ s + suc (length xs) = omega arith in
    let one : List ℕ = payload_packet pid x.start (s % 16) x.bytes in
    ap (λ (zs : List ℕ). one ++ zs) (row_append pid (suc s) xs ys ∙ ap (λ (n : ℕ). row pid (suc s) xs ++ row pid n ys) e)
    ∙ sym (append_assoc one (row pid (suc s) xs) (row pid (s + suc (length xs)) ys))

-- A unit has as many payloads as packets; `carry` writes these payloads.
pieces_length : (id : ℕ) (u : AccessUnit) → length (unit_pieces id 0 u) ≡ unit_packets id 0 u
pieces_length id u =
    let text : List ℕ = pes_packet_bytes id 0 u in
    marked_length (unit_start u) (start_chunks (unit_start u) (unit_packets id 0 u) text)
    ∙ ap length (sym (same_chunks (has_access u) text)) ∙ (unit_pieces_join (has_access u) text).count

same_pieces : (id : ℕ) (u : AccessUnit) → marked (unit_start u) (cut_into (has_access u) (pes_packet_bytes id 0 u)) ≡ unit_pieces id 0 u
same_pieces id u = ap (marked (unit_start u)) (same_chunks (has_access u) (pes_packet_bytes id 0 u))

units_row : (pid id s : ℕ) (us : List AccessUnit) → formatted_all false (stream_packets pid id s us) ≡ row pid s (flat_map (unit_pieces id 0) us)
unfolding stream_packets row
units_row pid id s [] = refl
units_row pid id s (u ∷ us) =
    let count : ℕ = unit_packets id 0 u in
    let chunks : List (List ℕ) = cut_into (has_access u) (pes_packet_bytes id 0 u) in
    let first : List (List ℕ) = payload_packets pid (unit_start u) s chunks in
    let rest : List (List ℕ) = stream_packets pid id (s + count) us in
    let more : List Piece = flat_map (unit_pieces id 0) us in
    flat_map-append (formatted false) first rest
    ∙ ap₂ (λ (a b : List ℕ). a ++ b) (marked_row pid s (unit_start u) chunks ∙ ap (row pid s) (same_pieces id u)) (units_row pid id (s + count) us)
    ∙ ap (λ (n : ℕ). row pid s (unit_pieces id 0 u) ++ row pid (s + n) more) (sym (pieces_length id u))
    ∙ sym (row_append pid s (unit_pieces id 0 u) more) ∙ ap (row pid s) (sym (flat_map-cons (unit_pieces id 0) u us))

-- The payloads of units

abbrev SomeBytes : List ℕ → Type 0
SomeBytes c = 1 ≤ length c

abbrev FewBytes : List ℕ → Type 0
FewBytes c = length c ≤ 184

chunks_fit : (start : Start) (chunks : List (List ℕ)) → room_of start ≡ 184 → All SomeBytes chunks → All FewBytes chunks → All PieceFits (marked start chunks)
unfolding marked
chunks_fit start [] room some few = All-nil PieceFits
chunks_fit start (c ∷ cs) room some few =
    let least = All-head SomeBytes c cs some in
    let most = All-head FewBytes c cs few in
    All-cons PieceFits (record { start = start; bytes = c }) (marked Continues cs) (omega (arith, least), omega (arith, room, most))
    (chunks_fit Continues cs refl (All-tail SomeBytes c cs some) (All-tail FewBytes c cs few))

cut_fits : (access : Bool) (text : List ℕ) → 0 < length text → All PieceFits (marked (start_by true access) (cut_into access text))
unfolding marked cut_into
cut_fits true text some =
    let rest : List ℕ = drop 182 text in
    All-cons PieceFits (record { start = Access; bytes = take 182 text }) (marked Continues (pieces rest))
    (omega (arith, length-take 182 text, some), omega (arith, length-take 182 text))
    (chunks_fit Continues (pieces rest) refl (payloads_join rest).some (payloads_join rest).most)
cut_fits false text some = chunks_fit Begins (pieces text) refl (payloads_join text).some (payloads_join text).most

pieces_fit : (id : ℕ) (u : AccessUnit) → IsTrue (fits_packet id (length u.bytes)) → All PieceFits (unit_pieces id 0 u)
pieces_fit id u fit =
    let text = unit_is_pes id 0 u fit in
    subst (All PieceFits) (same_pieces id u) (cut_fits (has_access u) (pes_packet_bytes id 0 u) (omega (arith, text.size, text.some)))

abbrev FitsPacket : ℕ → AccessUnit → Type 0
FitsPacket id u = IsTrue (fits_packet id (length u.bytes))

units_pieces_fit : (id : ℕ) (us : List AccessUnit) → All (FitsPacket id) us → All PieceFits (flat_map (unit_pieces id 0) us)
units_pieces_fit id [] fit = All-nil PieceFits
units_pieces_fit id (u ∷ us) fit =
    subst (All PieceFits) (sym (flat_map-cons (unit_pieces id 0) u us))
    (All-append PieceFits (unit_pieces id 0 u) (flat_map (unit_pieces id 0) us) (pieces_fit id u (All-head (FitsPacket id) u us fit))
    (units_pieces_fit id us (All-tail (FitsPacket id) u us fit)))

pieces_count : (id : ℕ) (us : List AccessUnit) → length (flat_map (unit_pieces id 0) us) ≡ packet_count id us
pieces_count id [] = refl
pieces_count id (u ∷ us) =
    ap length (flat_map-cons (unit_pieces id 0) u us)
    ∙ omega (
      arith,
      length-append (unit_pieces id 0 u) (flat_map (unit_pieces id 0) us),
      pieces_length id u,
      pieces_count id us,
      sum_by-cons (unit_packets id 0) u us,
    )

-- The packets of units

packets_length : (i n : ℕ) → length (packets_from i n) ≡ n
unfolding packets_from
packets_length i zero = refl
packets_length i (suc n) = ap suc (packets_length (suc i) n)

packets_add : (i a b : ℕ) → packets_from i (a + b) ≡ packets_from i a ++ packets_from (i + a) b
unfolding packets_from
packets_add i zero b =
    let n : zero + b ≡ b = omega arith in
    let k : i ≡ i + zero = omega arith in
    ap (packets_from i) n ∙ ap (λ (j : ℕ). packets_from j b) k
packets_add i (suc a) b =
    let n : suc a + b ≡ suc (a + b) = omega arith in
    let k : suc i + a ≡ i + suc a = omega arith in
    ap (packets_from i) n ∙ ap (λ (xs : List ℕ). i ∷ xs) (packets_add (suc i) a b ∙ ap (λ (j : ℕ). packets_from (suc i) a ++ packets_from j b) k)

sent_in_a_row : (id i : ℕ) (us : List AccessUnit) → sendings (unit_packets id 0) us (packets_from i (packet_count id us)) ≡ in_a_row id i us
unfolding sendings in_a_row
sent_in_a_row id i [] = refl
sent_in_a_row id i (u ∷ us) =
    let c : ℕ = unit_packets id 0 u in
    let first : List ℕ = packets_from i c in
    let rest : List ℕ = packets_from (i + c) (packet_count id us) in
    let all : packets_from i (packet_count id (u ∷ us)) ≡ first ++ rest = ap (packets_from i) (sum_by-cons (unit_packets id 0) u us)
    ∙ packets_add i c (packet_count id us) in
    let size : length first ≡ c = packets_length i c in
    let taken : take c (packets_from i (packet_count id (u ∷ us))) ≡ first = ap (take c) all ∙ ap (λ (n : ℕ). take n (first ++ rest)) (sym size)
    ∙ take-append_seam first rest in
    let left : drop c (packets_from i (packet_count id (u ∷ us))) ≡ rest = ap (drop c) all ∙ ap (λ (n : ℕ). drop n (first ++ rest)) (sym size)
    ∙ drop-append_seam first rest in
    ap₂ (λ (xs : List ℕ) (more : List (Sending AccessUnit)). record { item = u; packets = xs } ∷ more) taken
    (ap (sendings (unit_packets id 0) us) left ∙ sent_in_a_row id (i + c) us)

entry_indices : (pid k : ℕ) (ps : List Payload) → map (λ e. e.index) (payload_entries pid k ps) ≡ map (λ p. p.index) ps
unfolding payload_entries
entry_indices pid k [] = refl
entry_indices pid k (p ∷ ps) = ap (λ (xs : List ℕ). p.index ∷ xs) (entry_indices pid (k + 1) ps)

-- The law

keep_own : (pid : ℕ) (x : FindingView) (kept : List FindingView) (t : Bool) → has_pid pid x.pid ≡ t → All (λ f. has_pid pid f.pid ≡ true) kept →
    All (λ f. has_pid pid f.pid ≡ true) (cond t (x ∷ kept) kept)
keep_own pid x kept true y h = All-cons (λ (f : FindingView). has_pid pid f.pid ≡ true) x kept y h
keep_own pid x kept false n h = h

own_pid : (pid : ℕ) (xs : List FindingView) → All (λ f. has_pid pid f.pid ≡ true) (found_of pid xs)
own_pid pid [] = All-nil (λ (f : FindingView). has_pid pid f.pid ≡ true)
own_pid pid (x ∷ xs) = keep_own pid x (found_of pid xs) (has_pid pid x.pid) refl (own_pid pid xs)

pid_is : (pid : ℕ) (o : Option ℕ) → has_pid pid o ≡ true → o ≡ Some pid
pid_is pid None h = absurd (cc)
pid_is pid (Some other) h = ap Some (eqb-true other pid h)

all_its : (pid : ℕ) (xs : List FindingView) → All (λ f. has_pid pid f.pid ≡ true) xs → All (λ f. f.pid ≡ Some pid) xs
all_its pid [] h = All-nil (λ (f : FindingView). f.pid ≡ Some pid)
all_its pid (x ∷ xs) h =
    All-cons (λ (f : FindingView). f.pid ≡ Some pid) x xs (pid_is pid x.pid (All-head (λ (f : FindingView). has_pid pid f.pid ≡ true) x xs h))
    (all_its pid xs (All-tail (λ (f : FindingView). has_pid pid f.pid ≡ true) x xs h))

on_each : (pid : ℕ) (ps : List Piece) → IsRun (length ps) (row_content pid ps) → (q : ℕ) → (q == 8191) ≡ false →
    All (λ f. has_pid pid f.pid ≡ true) (found_on q (run_bytes (row_content pid ps) 0 (length ps)))
on_each pid ps run q reported = elim (cases_Bool (pid == q)) [
  | inl y ↦
      let same : pid ≡ q = eqb-true pid q y in
      subst (λ (p : ℕ). All (λ f. has_pid pid f.pid ≡ true) (found_on p (run_bytes (row_content pid ps) 0 (length ps)))) same
      (own_pid pid (all_found (run_bytes (row_content pid ps) 0 (length ps))))
  | inr n ↦
      subst (All (λ (f : FindingView). has_pid pid f.pid ≡ true))
      (sym (nothing_comes_back q (length ps) (row_content pid ps) run reported (λ t lt. row_silent pid q t ps n)))
      (All-nil (λ (f : FindingView). has_pid pid f.pid ≡ true))
]

row_carries : (pid : ℕ) (ps : List Piece) → Fits (row_content pid ps) → (pid == 8191) ≡ false →
    CarriesPieces pid (run_bytes (row_content pid ps) 0 (length ps)) ps
row_carries pid ps fits reported =
    let sent : List Payload = payloads_in pid (row_content pid ps) 0 (length ps) in
    let are : map piece_in sent ≡ ps = row_pieces pid ps in
    let size : length ps ≡ length sent = sym (ap length are) ∙ length-map sent piece_in in
    numbered_payloads pid (length ps) (row_content pid ps) ps fits reported (row_numbered pid ps) (are ∙ sym (take-length ps) ∙ ap (λ (m : ℕ). take m ps) size)

row_packets : (pid : ℕ) (ps : List Piece) → Fits (row_content pid ps) → (pid == 8191) ≡ false →
    packets_on pid (run_bytes (row_content pid ps) 0 (length ps)) ≡ packets_from 0 (length ps)
row_packets pid ps fits reported =
    let sent : List Payload = payloads_in pid (row_content pid ps) 0 (length ps) in
    ap (map (λ (e : Entry). e.index)) (run_payload_entries pid (length ps) (row_content pid ps) fits reported (row_numbered pid ps))
    ∙ entry_indices pid 0 sent ∙ row_indices pid ps

pub carried_back : CarriedBackLaw
carried_back pid id us low fit few =
    let ps : List Piece = flat_map (unit_pieces id 0) us in
    let content : ℕ → Content = row_content pid ps in
    let size : length ps ≡ packet_count id us = pieces_count id us in
    let bytes : run_bytes content 0 (length ps) ≡ carried false pid id us = row_bytes pid ps ∙ sym (units_row pid id 0 us) in
    let reported : (pid == 8191) ≡ false = ne_eqb pid 8191 (λ e. omega (arith, e, low)) in
    let fits : Fits content = row_fits pid ps (omega (arith, low)) (units_pieces_fit id us fit) in
    let run : IsRun (length ps) content = record { fits = fits; few = omega (arith, few, size) } in
    let placed : sendings (unit_packets id 0) us (packets_on pid (run_bytes content 0 (length ps))) ≡ in_a_row id 0 us =
    ap (sendings (unit_packets id 0) us) (row_packets pid ps fits reported ∙ ap (packets_from 0) size) ∙ sent_in_a_row id 0 us in
    record {
      units = ap (found_on pid) (sym bytes) ∙ units_come_back pid (length ps) id 0 content us run reported (row_carries pid ps fits reported) fit
          ∙ ap₂ (λ (m : ℕ) (sent : List (Sending AccessUnit)). map (with_pid_at pid) (each_found (unit_found id 0) m sent)) size placed;
      nothing_else = subst (λ (b : List ℕ). All (λ f. f.pid ≡ Some pid) (all_found b)) bytes
          (all_its pid (all_found (run_bytes content 0 (length ps))) (by_pids (length ps) content (λ f. has_pid pid f.pid) run (on_each pid ps run)));
      in_order = subst (λ (b : List ℕ). InOrder 0 (packet_count id us) (all_found b)) bytes
          (subst (λ (m : ℕ). InOrder 0 m (all_found (run_bytes content 0 (length ps)))) size (found_in_order (length ps) content run));
    }
