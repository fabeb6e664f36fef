-- The units of a run that a multiplexer wrote, in the packets of their PID
use Rattle.std.proofs.Common.{◌≡◌, ◌∙◌, sym, ℕ, zero, suc, ◌+◌, ◌-◌, ◌*◌, ◌%◌, ◌≤◌, cond, Bool, true, false, IsTrue, if◌then◌else◌, nat_eq, List, [], ◌∷◌, ◌++◌}
use Rattle.std.proofs.Common.{length, map, take, drop, replicate, Option, Some, None, refl, ap, ap₂, subst, arith, All}
use Rattle.std.specs.Prelude.{count_by, is_some, slice_get, unwrap_or}
use Rattle.std.proofs.lemmas.List.{length-drop, length-take, map-append, take-map}
use Rattle.std.proofs.lemmas.List.Elements.{All-append, All-cons, All-head, All-nil, All-tail}
use Rattle.std.proofs.lemmas.List.Sums.{sum_by-cons}
use Rattle.ts_packet.specs.declared.start.Start.{Start}
use Rattle.ts_packet.specs.declared.start.Start.TheVariants.{Continues}
use Rattle.ts_packet.specs.Beginnings.{is_start, start_by}
use Rattle.ts_packet.specs.PidList.{Entry, cut_packets, pid_list, payload_of}
use Rattle.ts_packet.specs.Views.{PacketView}
use Rattle.ts_packet.specs.Reading.{packet_at}
use Rattle.pes_packet.specs.AccessUnits.{AccessUnit}
use Rattle.pes_packet.specs.Marks.{field_size}
use Rattle.pes_packet.specs.Payloads.{pieces, part_of, unit_pieces}
use Rattle.pes_packet.specs.StreamIds.{fits_packet}
use Rattle.pes_packet.proofs.Payloads.{payloads_join}
use Rattle.pes_packet.proofs.UnitPieces.{unit_pieces_join}
use Rattle.slot_contents.specs.Contents.{Piece, payload_at}
use Rattle.description_parts.specs.Described.{DescribedStream}
use Rattle.description_parts.specs.Ranges.{IsInRange}
use Rattle.unit_timing.specs.Arrived.{AllLeft}
use Rattle.unit_timing.specs.Schedule.{Packet}
use Rattle.unit_timing.specs.Transport.{pes_left}
use Rattle.unit_timing.proofs.LateUnits.{late_law}
use Rattle.unit_queue.specs.OwnedStreams.{OwnedStream, pes_bytes, has_access}
use Rattle.unit_queue.specs.Payloads.{all_pieces, all_senders, marked, pes_pieces, piece_in}
use Rattle.unit_queue.specs.Queues.{IsUnit, Kept, ParametersInRange}
use Rattle.unit_queue.proofs.CauseLemmas.{fits_unit}
use Rattle.unit_queue.proofs.Leftover.{text_some}
use Rattle.unit_queue.proofs.PieceBytes.{field_most}
use Rattle.table_rounds.proofs.SectionStarts.{start_indicated}
use Rattle.laws_run.specs.Units.{unit_header_size}
use Rattle.laws_run.proofs.PesPrefixes.{unit_is_pes}
use Rattle.tstd.specs.Carried.{packets_on, timed_pes_packets}
use Rattle.mux_core.specs.Scheduled.{Scheduled}
use Rattle.mux_core.specs.Headline.{StreamKept}
use Rattle.mux_core.specs.Histories.{owned_stream}
use Rattle.mux_core.proofs.KnownRanges.{stream_range}
use Rattle.laws_view.specs.StreamPackets.{sound_packet}
use Rattle.laws_view.specs.CarriedStreams.{BegunPayload, CarriesUnits, CutUnit, IsCut, begun, cut_pieces, cut_senders, cut_units, payload_in}
use Rattle.laws_view.proofs.SentBytes.{packet_sizes, sizes_of, timely_units}
use Rattle.laws_view.proofs.OnTimePackets.{IsSized, on_time}
use Rattle.laws_view.proofs.SentUnits.{AllSent, carried_sent, entry_packet, has_payload, number_after, some_header}
use Rattle.laws_view.proofs.ClockAhead.{entries_from, listed}
use Rattle.laws_view.proofs.RunClocks.{Timed, all_timed}
use Rattle.laws_view.proofs.PidEntries.{pid_entries}
use Rattle.laws_view.proofs.CarriedMain.{carried_sizes}

-- The PES packets of a run's units, as the run cuts them

abbrev pub unit_cut : OwnedStream → AccessUnit → CutUnit
unit_cut l u = record { unit = u; payloads = unit_pieces (has_access u) (pes_bytes l u) }

abbrev pub cuts_of : OwnedStream → List AccessUnit → List CutUnit
cuts_of l us = map (unit_cut l) us

-- No payload of a unit is too long, and none is empty.
unit_most : (access : Bool) (pes : List ℕ) → All (λ b. length b ≤ 184) (unit_pieces access pes)
unfolding unit_pieces
unit_most true pes =
    All-cons (λ b. length b ≤ 184) (take 182 pes) (pieces (drop 182 pes)) (omega (arith, length-take 182 pes)) (payloads_join (drop 182 pes)).most
unit_most false pes = (payloads_join pes).most

unit_some : (access : Bool) (pes : List ℕ) → 1 ≤ length pes → All (λ b. 1 ≤ length b) (unit_pieces access pes)
unfolding unit_pieces
unit_some true pes some =
    All-cons (λ b. 1 ≤ length b) (take 182 pes) (pieces (drop 182 pes)) (omega (arith, some, length-take 182 pes)) (payloads_join (drop 182 pes)).some
unit_some false pes some = (payloads_join pes).some

unit_is_cut : (l : OwnedStream) (u : AccessUnit) → IsTrue (fits_packet l.parameters.stream_id (length u.bytes)) →
    IsCut l.parameters.stream_id l.parameters.base0 (unit_cut l u)
unit_is_cut l u fits =
    let pes : List ℕ = pes_bytes l u in
    let field : ℕ = field_size (has_access u) in
    let join = unit_pieces_join (has_access u) (pes_bytes l u) in
    let text = unit_is_pes l.parameters.stream_id l.parameters.base0 u fits in
    let some : 1 ≤ unit_header_size l.parameters.base0 u = some_header l.parameters.base0 u in
    let first : slice_get (unit_pieces (has_access u) (pes_bytes l u)) 0 ≡ Some (part_of (field_size (has_access u)) (184 * 0) (pes_bytes l u)) =
    join.each 0 (omega (arith, text.size, some)) in
    let many = length-take (184 - (field - 184 * 0)) (drop (184 * 0 - field) pes) in
    let whole : unit_header_size l.parameters.base0 u ≤ length (part_of (field_size (has_access u)) (184 * 0) (pes_bytes l u)) =
    omega (arith, many, length-drop (184 * 0 - field) pes, field_most (has_access u), text.short, text.size) in
    record { fits = fits; joined = join.joined; header = rw first whole; most = unit_most (has_access u) (pes_bytes l u) }

all_cuts : (l : OwnedStream) (us : List AccessUnit) → ParametersInRange l.parameters → All (IsUnit l.parameters) us →
    All (IsCut l.parameters.stream_id l.parameters.base0) (cuts_of l us)
all_cuts l [] range all = All-nil (IsCut l.parameters.stream_id l.parameters.base0)
all_cuts l (u ∷ us) range all =
    All-cons (IsCut l.parameters.stream_id l.parameters.base0) (unit_cut l u) (cuts_of l us)
    (unit_is_cut l u (fits_unit l.parameters u range (All-head (IsUnit l.parameters) u us all)))
    (all_cuts l us range (All-tail (IsUnit l.parameters) u us all))

pub same_units : (l : OwnedStream) (us : List AccessUnit) → cut_units (cuts_of l us) ≡ us
same_units l [] = refl
same_units l (u ∷ us) = ap (λ (vs : List AccessUnit). u ∷ vs) (same_units l us)

pub same_senders : (l : OwnedStream) (us : List AccessUnit) → all_senders l us ≡ cut_senders (cuts_of l us)
same_senders l [] = refl
same_senders l (u ∷ us) =
    ap (λ (n : ℕ). replicate n u ++ all_senders l us) (sym (unit_pieces_join (has_access u) (pes_bytes l u)).count)
    ∙ ap (λ (vs : List AccessUnit). replicate (length (unit_pieces (has_access u) (pes_bytes l u))) u ++ vs) (same_senders l us)

-- A piece as a payload, whether or not a decoder may begin with it
abbrev as_begun : Piece → BegunPayload
as_begun p = record { start = is_start p.start; bytes = p.bytes }

later_begun : (bs : List (List ℕ)) → map as_begun (marked Continues bs) ≡ begun false bs
unfolding marked begun
later_begun [] = refl
later_begun (b ∷ bs) = ap (λ (ps : List BegunPayload). record { start = false; bytes = b } ∷ ps) (later_begun bs)

unit_begun : (access : Bool) (bs : List (List ℕ)) → map as_begun (marked (start_by true access) bs) ≡ begun true bs
unfolding marked begun
unit_begun access [] = refl
unit_begun true (b ∷ bs) = ap (λ (ps : List BegunPayload). record { start = true; bytes = b } ∷ ps) (later_begun bs)
unit_begun false (b ∷ bs) = ap (λ (ps : List BegunPayload). record { start = true; bytes = b } ∷ ps) (later_begun bs)

same_pieces : (l : OwnedStream) (us : List AccessUnit) → map as_begun (all_pieces l us) ≡ cut_pieces (cuts_of l us)
same_pieces l [] = refl
same_pieces l (u ∷ us) =
    map-append as_begun (pes_pieces (has_access u) (pes_bytes l u)) (all_pieces l us)
    ∙ ap₂ (λ (ps qs : List BegunPayload). ps ++ qs) (unit_begun (has_access u) (unit_pieces (has_access u) (pes_bytes l u))) (same_pieces l us)

entry_begun : (e : Entry) → payload_in e ≡ as_begun (piece_in (payload_at e))
entry_begun e = ap (λ (b : Bool). record { start = b; bytes = payload_of e.packet }) (sym (start_indicated e.packet))

entries_begun : (es : List Entry) → map payload_in es ≡ map as_begun (map (λ e. piece_in (payload_at e)) es)
entries_begun [] = refl
entries_begun (e ∷ es) = ap₂ (λ (p : BegunPayload) (ps : List BegunPayload). p ∷ ps) (entry_begun e) (entries_begun es)

-- The piece is not empty.
abbrev Filled : Piece → Type 0
Filled p = 1 ≤ length p.bytes

filled_marked : (start : Start) (bs : List (List ℕ)) → All (λ b. 1 ≤ length b) bs → All Filled (marked start bs)
unfolding marked
filled_marked start [] all = All-nil Filled
filled_marked start (b ∷ bs) all =
    All-cons Filled (record { start = start; bytes = b }) (marked Continues bs) (All-head (λ b. 1 ≤ length b) b bs all)
    (filled_marked Continues bs (All-tail (λ b. 1 ≤ length b) b bs all))

filled_pieces : (l : OwnedStream) (us : List AccessUnit) → All Filled (all_pieces l us)
filled_pieces l [] = All-nil Filled
filled_pieces l (u ∷ us) =
    let some : 1 ≤ length (pes_bytes l u) = omega (arith, text_some l u) in
    let chunks : List (List ℕ) = unit_pieces (has_access u) (pes_bytes l u) in
    All-append Filled (pes_pieces (has_access u) (pes_bytes l u)) (all_pieces l us)
    (filled_marked (start_by true (has_access u)) chunks (unit_some (has_access u) (pes_bytes l u) some)) (filled_pieces l us)

-- The packets of a run on a stream's PID

abbrev HasBytes : Entry → Type 0
HasBytes e = 1 ≤ length (payload_of e.packet)

filled_entries : (es : List Entry) (qs : List Piece) → All Filled qs → map (λ e. piece_in (payload_at e)) es ≡ take (length es) qs → All HasBytes es
filled_entries [] qs all same = All-nil HasBytes
filled_entries (e ∷ es) [] all same = absurd (let no : ⊥ = cc in no)
filled_entries (e ∷ es) (q ∷ qs) all same =
    let is : piece_in (payload_at e) ≡ q = cc in
    let others : map (λ e. piece_in (payload_at e)) es ≡ take (length es) qs = cc in
    let many : length (payload_of e.packet) ≡ length q.bytes = ap (λ (p : Piece). length p.bytes) is in
    All-cons HasBytes e es (omega (arith, many, All-head Filled q qs all)) (filled_entries es qs (All-tail Filled q qs all) others)

some_payload : (o : Option (List ℕ)) → 1 ≤ length (unwrap_or o []) → is_some o ≡ true
some_payload None h = absurd (omega (arith, h))
some_payload (Some b) h = refl

counted : (es : List Entry) (j : ℕ) (e : Entry) → All HasBytes es → slice_get es j ≡ Some e → count_by has_payload (take j es) ≡ j
counted [] j e all found = absurd (let no : ⊥ = cc in no)
counted (f ∷ es) zero e all found = refl
counted (f ∷ es) (suc j) e all found =
    let rest = counted es j e (All-tail HasBytes f es all) found in
    let is : is_some f.packet.payload ≡ true = some_payload f.packet.payload (All-head HasBytes f es all) in
    rw (sum_by-cons (λ p. cond (has_payload p) 1 0) f (take j es), is) (omega (arith, rest))

-- The PID carries the units of the stream.
pub run_carries : (d : Scheduled) (s : DescribedStream) (k : ℕ) (us : List AccessUnit) (slots : ℕ) (bytes : List ℕ) →
    ParametersInRange (owned_stream d k s).parameters →
    Kept (owned_stream d k s) us → StreamKept d k s us slots bytes → CarriesUnits s.stream_id d.description.base0 s.pid (cuts_of (owned_stream d k s) us) bytes
run_carries d s k us slots bytes range units kept =
    let l : OwnedStream = owned_stream d k s in
    let es : List Entry = pid_list s.pid bytes in
    let filled = filled_entries es (all_pieces l us) (filled_pieces l us) kept.pieces in
    record {
      cut = all_cuts l us range units.units;
      pieces = entries_begun es ∙ ap (map as_begun) kept.pieces ∙ sym (take-map as_begun (length es) (all_pieces l us))
          ∙ ap (λ (ps : List BegunPayload). take (length es) ps) (same_pieces l us);
      first = 0;
      counters = λ j e found some.
          let none : 0 + count_by has_payload (take j es) ≡ j = omega (arith, counted es j e filled found) in
          kept.counters j e found ∙ ap (λ (m : ℕ). m % 16) (sym none);
    }

-- Each packet has 1 to 184 bytes of payload.
sized_entries : (n base0 m : ℕ) (before : Option AccessUnit) (es : List Entry) (us : List AccessUnit) → AllSent base0 m before es us → All HasBytes es →
    All (λ e. e.index ≤ n) es →
    All (IsSized n) (map entry_packet es)
unfolding AllSent
sized_entries n base0 m before [] us sent filled low = All-nil (IsSized n)
sized_entries n base0 m before (e ∷ es) [] sent filled low = absurd sent
sized_entries n base0 m before (e ∷ es) (u ∷ us) sent filled low =
    All-cons (IsSized n) (entry_packet e) (map entry_packet es)
    (record { some = All-head HasBytes e es filled; most = sent.0.most; slot = All-head (λ e. e.index ≤ n) e es low })
    (sized_entries n base0 (number_after m e) (Some u) es us sent.1 (All-tail HasBytes e es filled) (All-tail (λ e. e.index ≤ n) e es low))

-- Each packet is in a slot of the run.
low_listed : (pid index n : ℕ) (bytes : List ℕ) (o : Option PacketView) (es : List Entry) → index ≤ n → All (λ e. e.index ≤ n) es →
    All (λ e. e.index ≤ n) (listed pid index bytes o es)
unfolding listed
low_listed pid index n bytes None es le low = low
low_listed pid index n bytes (Some packet) es le low = by (nat_eq pid packet.header.pid)
  where
    e : Entry
    e = record { index = index; bytes = bytes; packet = packet }

    by : (w : Bool) → All (λ e. e.index ≤ n) (if w then e ∷ es else es)
    by true = All-cons (λ e. e.index ≤ n) e es le low
    by false = low

low_entries : (pid index n : ℕ) (chunks : List (List ℕ)) → index + length chunks ≤ n → All (λ e. e.index ≤ n) (entries_from pid index chunks)
unfolding entries_from
low_entries pid index n [] few = All-nil (λ (e : Entry). e.index ≤ n)
low_entries pid index n (bytes ∷ chunks) few =
    low_listed pid index n bytes (sound_packet (packet_at bytes)) (entries_from pid (index + 1) chunks) (omega (arith, few))
    (low_entries pid (index + 1) n chunks (omega (arith, few)))

-- All packets of a stream, with the unit that begins with each and the time when its unit is due
pub record StreamSent (d : Scheduled) (s : DescribedStream) (k : ℕ) (us : List AccessUnit) (chunks : List (List ℕ)) : Type 0 where
  pub cut : All (IsCut s.stream_id d.description.base0) (cuts_of (owned_stream d k s) us)
  pub sizes : packet_sizes (map entry_packet (entries_from s.pid 0 chunks))
      ≡ take (length (map entry_packet (entries_from s.pid 0 chunks))) (sizes_of (cut_pieces (cuts_of (owned_stream d k s) us)))
  pub first : ℕ
  pub sent : AllSent d.description.base0 first None (entries_from s.pid 0 chunks) (cut_senders (cuts_of (owned_stream d k s) us))
  pub timed : Timed d.description.rate (entries_from s.pid 0 chunks) (cut_senders (cuts_of (owned_stream d k s) us))

pub stream_sent : (d : Scheduled) (s : DescribedStream) (k : ℕ) (us : List AccessUnit) (slots : ℕ) (bytes : List ℕ) →
    slice_get d.description.streams k ≡ Some s → IsInRange d.description →
    ParametersInRange (owned_stream d k s).parameters → Kept (owned_stream d k s) us → StreamKept d k s us slots bytes → length (cut_packets bytes) ≤ slots →
    StreamSent d s k us (cut_packets bytes)
stream_sent d s k us slots bytes is ranges range units kept few =
    let l : OwnedStream = owned_stream d k s in
    let rate : ℕ = d.description.rate in
    let base0 : ℕ = d.description.base0 in
    let chunks : List (List ℕ) = cut_packets bytes in
    let cuts : List CutUnit = cuts_of l us in
    let es : List Entry = entries_from s.pid 0 chunks in
    let same : pid_list s.pid bytes ≡ es = pid_entries s.pid bytes in
    let stream = stream_range d.description k s ranges is in
    let carries = run_carries d s k us slots bytes range units kept in
    let sent : AllSent base0 carries.first None es (cut_senders cuts) =
    subst (λ (xs : List Entry). AllSent base0 carries.first None xs (cut_senders cuts)) same (carried_sent s.stream_id base0 s.pid cuts bytes carries) in
    let sizes : packet_sizes (map entry_packet es) ≡ take (length (map entry_packet es)) (sizes_of (cut_pieces cuts)) =
    subst (λ (xs : List Entry). packet_sizes (map entry_packet xs) ≡ take (length (map entry_packet xs)) (sizes_of (cut_pieces cuts))) same
    (carried_sizes s.stream_id base0 s.pid cuts bytes carries) in
    let packets : packets_on s.pid bytes ≡ map entry_packet es = ap (λ (xs : List Entry). map entry_packet xs) same in
    let arrived : AllLeft rate s.rx slots (timed_pes_packets s.stream_id base0 us) (pes_left rate s.rx 0 (packets_on s.pid bytes)) =
    late_law.all_left rate s.rx slots 0 (timed_pes_packets s.stream_id base0 us) (pes_left rate s.rx 0 (packets_on s.pid bytes)) kept.arrived in
    let all : AllLeft rate s.rx slots (timed_pes_packets s.stream_id base0 (cut_units cuts)) (pes_left rate s.rx 0 (map entry_packet es)) =
    subst (λ (ps : List Packet). AllLeft rate s.rx slots (timed_pes_packets s.stream_id base0 (cut_units cuts)) (pes_left rate s.rx 0 ps)) packets
    (subst (λ (vs : List AccessUnit). AllLeft rate s.rx slots (timed_pes_packets s.stream_id base0 vs) (pes_left rate s.rx 0 (packets_on s.pid bytes)))
    (sym (same_units l us)) arrived) in
    let timely = timely_units rate s.rx slots s.stream_id base0 cuts (map entry_packet es) (pes_left rate s.rx 0 (map entry_packet es)) carries.cut sizes all in
    let filled : All HasBytes es =
    subst (λ (xs : List Entry). All HasBytes xs) same (filled_entries (pid_list s.pid bytes) (all_pieces l us) (filled_pieces l us) kept.pieces) in
    let sized = sized_entries slots base0 carries.first None es (cut_senders cuts) sent filled (low_entries s.pid 0 slots chunks (omega (arith, few))) in
    let on = on_time rate s.rx slots 0 (cut_senders cuts) (map entry_packet es) (omega (arith, stream.least_rx)) sized timely in
    record {
      cut = carries.cut;
      sizes = sizes;
      first = carries.first;
      sent = sent;
      timed = all_timed rate s.lead es (cut_senders cuts) stream.most_lead
          (λ j e u found sender. kept.not_early j e u (subst (λ (xs : List Entry). slice_get xs j ≡ Some e) (sym same) found)
          (subst (λ (vs : List AccessUnit). slice_get vs j ≡ Some u) (sym (same_senders l us)) sender))
          on;
    }
