-- No section is longer than its greatest length.
use Rattle.std.proofs.Common.{◌≡◌, ℕ, suc, zero, ◌+◌, ◌-◌, ◌*◌, ◌/◌, ◌%◌, ◌<◌, ◌≤◌, ◌==◌, max, Bool, true, false, cond, List, [], ◌∷◌, ◌++◌, length, map, filter}
use Rattle.std.proofs.Common.{find, flat_map, get_or, slice_get, sum_by, option_map, Option, None, Some, refl, ap, arith, length-append, All, if◌then◌else◌}
use Rattle.std.proofs.Common.{ap₂, ◌∙◌, inl, inr, sym, subst, mod-eq_of_lt}
use Rattle.std.proofs.Math.Nat.{le_trans, mod-eq-sub-mod}
use Rattle.std.proofs.lemmas.Bool.{cases_lt}
use Rattle.std.proofs.lemmas.List.{length-map, get_or_append_left, get_or-append_right}
use Rattle.std.proofs.lemmas.List.Elements.{All-head, All-tail}
use Rattle.std.proofs.lemmas.List.Sums.{sum_by-cons}
use Rattle.std.specs.Option.{option_to_list}
use Rattle.std.specs.List.{cons_option}
use Rattle.psi_tables.specs.CheckWord.{check_word}
use Rattle.psi_tables.specs.Encoding.{section_bytes, with_crc, header_bytes, front_bytes, start_bytes, long_header_bytes, check_word_bytes}
use Rattle.psi_tables.specs.declared.section.LongHeader.{LongHeader}
use Rattle.psi_tables.specs.ProgramAssociation.{pat_section, pat_header, programs_bytes}
use Rattle.psi_tables.specs.ProgramMap.{StreamView, pmt_body, pmt_section, pmt_header, streams_bytes, stream_bytes}
use Rattle.psi_tables.proofs.PatForms.{length_programs_bytes}
use Rattle.psi_tables.proofs.StreamEncodings.{length_pmt_body, length_stream_bytes}
use Rattle.dvb_tables.specs.NetworkInformation.{nit_body, nit_section}
use Rattle.dvb_tables.specs.Services.{services_bytes, service_bytes}
use Rattle.dvb_tables.specs.ServiceDescription.{sdt_body, sdt_section}
use Rattle.dvb_tables.specs.EventEntries.{events_bytes, event_bytes}
use Rattle.dvb_tables.specs.EventInformation.{eit_body, eit_section}
use Rattle.dvb_tables.specs.TimeAndDate.{tdt_section}
use Rattle.dvb_tables.specs.TransportStreams.{transport_streams_bytes, transport_stream_bytes}
use Rattle.dvb_tables.specs.declared.running_status.RunningStatus.{RunningStatus}
use Rattle.dvb_tables.specs.declared.running_status.RunningStatus.TheVariants.{NotRunning}
use Rattle.dvb_tables.proofs.BodyLengths.{nit_body_length, sdt_body_length, eit_body_length}
use Rattle.description_parts.specs.Described.{Described, DescribedNetwork, DescribedProgram, DescribedStream, DescribedEvent, DescribedEntry, DescribedTable}
use Rattle.description_parts.specs.Described.{network_stream_view}
use Rattle.description_parts.specs.Ranges.{IsInRange, IsStream}
use Rattle.description_parts.specs.Tables.{room_length, most_bytes, most_eit_bytes, pat_length, pmt_length, map_length, sdt_parts, sdt_length}
use Rattle.description_parts.specs.Tables.{section_overhead, nit_length, nit_lengths, nit_parts, network_lengths, network_stream_length}
use Rattle.description_parts.specs.declared.network_stream.NetworkStream.{NetworkStream}
use Rattle.description_parts.specs.Tables.{services_length as part_length, eit_place, eit_room, eit_length, eit_lengths, schedule_length, es_info_length}
use Rattle.description_parts.specs.Tables.{is_shared_with, entry_in, listed_length, service_length, event_length, longest_event, kind_lengths}
use Rattle.description_parts.specs.Tables.{section_lengths, scheduled_programs, table_kind, greatest_length}
use Rattle.description.specs.SectionBytes.{network_entries, pat_entry, pat_says, entries_length, pmt_entries, pmt_stream, is_of_program, pmt_streams, pmt_shared, table_stream}
use Rattle.description.specs.SectionBytes.{pmt_tables, pmt_says, network_bytes, nit_of, service_says, sdt_says, sdt_bytes, program_status, event_says}
use Rattle.description.specs.SectionBytes.{is_present_event, is_following_event, eit_says, eit_bytes, tdt_bytes, kind_bytes, table_bytes}
use Rattle.description_parts.proofs.RoomLengths.{room_least}
use Rattle.description_parts.specs.declared.table_kind.TableKind.{TableKind}
use Rattle.description_parts.specs.declared.table_kind.TableKind.TheVariants as kind
use Rattle.description.proofs.LoopLengths.{stream_descriptors-length, length_transport_stream_bytes}
use Rattle.description.proofs.LoopLengths.{length_service_bytes, length_event_bytes, no_stream_bytes}
use Rattle.description.proofs.SectionCounts.{eit_count}

-- The length of a section of the long form
long_section_length : (table_id : ℕ) (private : Bool) (h : LongHeader) (body : List ℕ)
    → length (section_bytes (record { header = record { table_id = table_id; private_indicator = private; long = Some h }; body = body })) ≡ 12 + length body
unfolding section_bytes with_crc header_bytes front_bytes start_bytes long_header_bytes check_word_bytes
long_section_length table_id private h body =
    let start : List ℕ = start_bytes table_id true private (9 + length body) in
    let front : List ℕ = start ++ long_header_bytes h in
    let whole : List ℕ = front ++ body in
    omega (arith, length-append whole (check_word_bytes (check_word whole)), length-append front body, length-append start (long_header_bytes h))

pat_fits : (d : Described) → length (section_bytes (pat_section (pat_says d))) ≡ pat_length d
unfolding pat_section pat_header
pat_fits d =
    let entries = length_programs_bytes (network_entries d ++ map pat_entry d.programs) in
    let first : length (network_entries d) ≡ length (option_to_list d.network) = length-map (option_to_list d.network) _ in
    omega (
      arith,
      long_section_length 0 false (pat_says d).header (programs_bytes (network_entries d ++ map pat_entry d.programs)),
      entries,
      length-append (network_entries d) (map pat_entry d.programs),
      length-map d.programs pat_entry,
      first,
    )

-- The streams of a program, and the streams that it shares
one_stream : (b : Bool) (s : DescribedStream) (rest : List DescribedStream) → IsStream s
    → length (flat_map stream_bytes (map pmt_stream (cond b (s ∷ rest) rest))) ≡ (if b then 5 + es_info_length s else 0)
    + length (flat_map stream_bytes (map pmt_stream rest))
one_stream true s rest h =
    omega (
      arith,
      length-append (stream_bytes (pmt_stream s)) (flat_map stream_bytes (map pmt_stream rest)),
      length_stream_bytes (pmt_stream s),
      stream_descriptors-length s h,
    )
one_stream false s rest h = omega arith

streams_length : (p : DescribedStream → Bool) (ss : List DescribedStream) → All IsStream ss
    → length (streams_bytes (map pmt_stream (filter p ss))) ≡ sum_by (λ s. if p s then 5 + es_info_length s else 0) ss
unfolding streams_bytes
streams_length p [] h = refl
streams_length p (s ∷ ss) h =
    omega (
      arith,
      one_stream (p s) s (filter p ss) (All-head IsStream s ss h),
      streams_length p ss (All-tail IsStream s ss h),
      sum_by-cons (λ x. if p x then 5 + es_info_length x else 0) s ss,
    )

-- The tables that a program's PMT names
one_table : (pid : ℕ) (o : Option DescribedEntry) (rest : List StreamView)
    → length (flat_map stream_bytes (cons_option (option_map (table_stream pid) o) rest))
    ≡ (elim o as (λ _. ℕ) [ None ↦ 0 | Some e ↦ 5 + length e.descriptors ]) + length (flat_map stream_bytes rest)
one_table pid None rest = omega arith
one_table pid (Some e) rest =
    omega (arith, length-append (stream_bytes (table_stream pid e)) (flat_map stream_bytes rest), length_stream_bytes (table_stream pid e))

tables_length : (n : ℕ) (ts : List DescribedTable) → length (streams_bytes (pmt_tables n ts)) ≡ sum_by (listed_length n) ts
unfolding streams_bytes
tables_length n [] = refl
tables_length n (t ∷ ts) = omega (arith, one_table t.pid (entry_in n t) (pmt_tables n ts), tables_length n ts, sum_by-cons (listed_length n) t ts)

both_length : (xs ys : List StreamView) → length (streams_bytes (xs ++ ys)) ≡ length (streams_bytes xs) + length (streams_bytes ys)
unfolding streams_bytes
both_length [] ys = omega arith
both_length (x ∷ xs) ys =
    omega (
      arith,
      length-append (stream_bytes x) (flat_map stream_bytes (xs ++ ys)),
      length-append (stream_bytes x) (flat_map stream_bytes xs),
      both_length xs ys,
    )

entries_fit : (on_air : Bool) (d : Described) (n : ℕ) → All IsStream d.streams
    → length (streams_bytes (if on_air then pmt_entries d n else [])) ≤ entries_length d n
entries_fit true d n h =
    omega (
      arith,
      both_length (pmt_streams n d.streams ++ pmt_shared n d.streams) (pmt_tables n d.tables),
      both_length (pmt_streams n d.streams) (pmt_shared n d.streams),
      streams_length (is_of_program n) d.streams h,
      streams_length (is_shared_with n) d.streams h,
      tables_length n d.tables,
    )
entries_fit false d n h = omega (arith, no_stream_bytes)

pmt_fits : (d : Described) (p : DescribedProgram) → All IsStream d.streams → length (section_bytes (pmt_section (pmt_says d p))) ≤ pmt_length d p
unfolding pmt_section pmt_header
pmt_fits d p h =
    omega (
      arith,
      long_section_length 2 false (pmt_says d p).header (pmt_body (pmt_says d p)),
      length_pmt_body (pmt_says d p),
      entries_fit p.is_on_air d p.number h,
    )

pub loop_size : (b : Bool) (n : DescribedNetwork) → length (if b then n.network_descriptors else []) ≡ (if b then length n.network_descriptors else 0)
loop_size true n = refl
loop_size false n = refl

streams_size : (part : List NetworkStream) → length (transport_streams_bytes (map network_stream_view part)) ≡ sum_by network_stream_length part
unfolding transport_streams_bytes
streams_size [] = refl
streams_size (s ∷ ss) =
    omega (
      arith,
      length-append (transport_stream_bytes (network_stream_view s)) (flat_map transport_stream_bytes (map network_stream_view ss)),
      length_transport_stream_bytes (network_stream_view s),
      streams_size ss,
      sum_by-cons network_stream_length s ss,
    )

pub nit_size : (n : DescribedNetwork) (part : List NetworkStream) (version number last : ℕ)
    → section_overhead + length (nit_body (nit_of n part version number last)) ≡ nit_length n number part
nit_size n part version number last =
    omega (arith, nit_body_length (nit_of n part version number last), streams_size part, loop_size (number == 0) n)

nit_fits : (n : DescribedNetwork) (part : List NetworkStream) (version number last : ℕ)
    → length (section_bytes (nit_section (nit_of n part version number last))) ≡ nit_length n number part
unfolding nit_section
nit_fits n part version number last =
    omega (
      arith,
      long_section_length 0x40 true (nit_of n part version number last).header (nit_body (nit_of n part version number last)),
      nit_size n part version number last,
    )

pub services_size : (has_eit : Bool) (ps : List DescribedProgram) → length (services_bytes (map (service_says has_eit) ps)) ≡ sum_by service_length ps
unfolding services_bytes
services_size has_eit [] = refl
services_size has_eit (p ∷ ps) =
    omega (
      arith,
      length-append (service_bytes (service_says has_eit p)) (flat_map service_bytes (map (service_says has_eit) ps)),
      length_service_bytes (service_says has_eit p),
      services_size has_eit ps,
      sum_by-cons service_length p ps,
    )

sdt_fits : (d : Described) (part : List DescribedProgram) (number last : ℕ)
    → length (section_bytes (sdt_section (sdt_says d part number last))) ≡ sdt_length part
unfolding sdt_section
sdt_fits d part number last =
    omega (
      arith,
      long_section_length 0x42 true (sdt_says d part number last).header (sdt_body (sdt_says d part number last)),
      sdt_body_length (sdt_says d part number last),
      services_size d.has_eit part,
    )

-- The length of an event's entry
entry_length_is : (free_ca : Bool) (status : RunningStatus) (e : DescribedEvent) → length (event_bytes (event_says free_ca status e)) ≡ event_length e
entry_length_is free_ca status e = omega (arith, length_event_bytes (event_says free_ca status e))

found_or_later : (free_ca : Bool) (status : RunningStatus) (b : Bool) (e : DescribedEvent) (o : Option DescribedEvent) (most : ℕ)
    → length (flat_map event_bytes (map (event_says free_ca status) (option_to_list o))) ≤ most
    → length (flat_map event_bytes (map (event_says free_ca status) (option_to_list (cond b (Some e) o)))) ≤ max (event_length e) most
found_or_later free_ca status true e o most later =
    omega (arith, length-append (event_bytes (event_says free_ca status e)) [], entry_length_is free_ca status e)
found_or_later free_ca status false e o most later = omega (arith, later)

event_fits : (free_ca : Bool) (status : RunningStatus) (q : DescribedEvent → Bool) (es : List DescribedEvent)
    → length (events_bytes (map (event_says free_ca status) (option_to_list (find q es)))) ≤ longest_event es
unfolding events_bytes
event_fits free_ca status q [] = omega arith
event_fits free_ca status q (e ∷ es) = found_or_later free_ca status (q e) e (find q es) (longest_event es) (event_fits free_ca status q es)

either_fits : (moment : ℕ) (p : DescribedProgram) (b : Bool)
    → length (events_bytes
    (if b then map (event_says p.free_ca (program_status p)) (option_to_list (find (is_present_event moment) p.events))
    else map (event_says p.free_ca NotRunning) (option_to_list (find (is_following_event moment) p.events))))
    ≤ longest_event p.events
either_fits moment p true = event_fits p.free_ca (program_status p) (is_present_event moment) p.events
either_fits moment p false = event_fits p.free_ca NotRunning (is_following_event moment) p.events

eit_fits : (d : Described) (moment : ℕ) (p : DescribedProgram) (number : ℕ) → length (eit_bytes d moment p number) ≤ eit_length p
unfolding eit_section
eit_fits d moment p number =
    omega (
      arith,
      long_section_length 0x4E true (eit_says d moment p number).header (eit_body (eit_says d moment p number)),
      eit_body_length (eit_says d moment p number),
      either_fits moment p (number == 0),
    )

-- A section has its room, and a table with one section
within_room : (n most packets l : ℕ) → n ≤ l → n ≤ room_length most packets l
within_room n most packets l le = le_trans le (room_least most packets l)

first_most : (n l section : ℕ) → l ≤ n → section < 1 → l ≤ get_or (n ∷ []) section 0
first_most n l zero le h = le
first_most n l (suc k) le h = absurd (omega (arith, h))

-- The section at a place of the EIT is of the program at its place, in either order.
in_pairs : (n : ℕ) (ps : List DescribedProgram) (j : ℕ) (p : DescribedProgram) → slice_get ps (j / 2) ≡ Some p
    → get_or (eit_lengths n ps) j 0 ≡ schedule_length n p
in_pairs n [] j p h = absurd (cc)
in_pairs n (q ∷ qs) zero p h = let same : q ≡ p = cc in ap (schedule_length n) same
in_pairs n (q ∷ qs) (suc zero) p h = let same : q ≡ p = cc in ap (schedule_length n) same
in_pairs n (q ∷ qs) (suc (suc k)) p h =
    let is : suc (suc k) / 2 ≡ suc (k / 2) = omega arith in
    in_pairs n qs k p (rw is at h)

one_each : (f : DescribedProgram → ℕ) (ps : List DescribedProgram) (j : ℕ) (p : DescribedProgram) → slice_get ps j ≡ Some p → get_or (map f ps) j 0 ≡ f p
one_each f [] j p h = absurd (cc)
one_each f (q ∷ qs) zero p h = let same : q ≡ p = cc in ap f same
one_each f (q ∷ qs) (suc j) p h = one_each f qs j p h

in_turn : (f : DescribedProgram → ℕ) (ps : List DescribedProgram) (j : ℕ) (p : DescribedProgram) → slice_get ps (j % length ps) ≡ Some p → j < 2 * length ps →
    get_or (map f ps ++ map f ps) j 0 ≡ f p
in_turn f ps j p h within = elim (cases_lt j (length ps)) [
  | inl first ↦
      let at : j % length ps ≡ j = mod-eq_of_lt first in
      get_or_append_left (map f ps) (map f ps) 0 j (omega (arith, first, length-map ps f)) ∙ one_each f ps j p (rw at at h)
  | inr past ↦
      let at : j % length ps ≡ j - length ps = mod-eq-sub-mod past ∙ mod-eq_of_lt (omega (arith, past, within)) in
      get_or-append_right (map f ps) (map f ps) (length ps) j 0 (length-map ps f) past ∙ one_each f ps (j - length ps) p (rw at at h)
]

abbrev place_in : Bool → ℕ → ℕ → ℕ × ℕ
place_in b n j = if b then (j % n, j / n) else (j / 2, j % 2)

eit_at : (b : Bool) (n : ℕ) (ps : List DescribedProgram) (j : ℕ) (p : DescribedProgram) → slice_get ps (place_in b (length ps) j).0 ≡ Some p → j < 2 * length ps →
    get_or (if b then map (schedule_length n) ps ++ map (schedule_length n) ps else eit_lengths n ps) j 0 ≡ schedule_length n p
eit_at true n ps j p h within = in_turn (schedule_length n) ps j p h within
eit_at false n ps j p h within = in_pairs n ps j p h

event_section_fits : (d : Described) (section moment number place : ℕ) (o : Option DescribedProgram) → (eit_place d section).0 ≡ place →
    slice_get (scheduled_programs d) place ≡ o → section < length (kind_lengths d kind.Eit)
    → length (elim o as (λ _. List ℕ) [ None ↦ [] | Some program ↦ eit_bytes d moment program number ]) ≤ get_or (kind_lengths d kind.Eit) section 0
event_section_fits d section moment number place None at is within = omega arith
event_section_fits d section moment number place (Some p) at is within =
    let found : slice_get (scheduled_programs d) (eit_place d section).0 ≡ Some p = ap (slice_get (scheduled_programs d)) at ∙ is in
    let long = eit_at d.is_transponder (eit_room d) (scheduled_programs d) section p found (omega (arith, within, eit_count d)) in
    let fits = within_room (length (eit_bytes d moment p number)) most_eit_bytes (eit_room d) (eit_length p) (eit_fits d moment p number) in
    subst (λ (n : ℕ). length (eit_bytes d moment p number) ≤ n) (sym long) fits

tdt_fits : (moment : ℕ) → length (tdt_bytes moment) ≡ 8
unfolding tdt_section section_bytes with_crc header_bytes front_bytes start_bytes
tdt_fits moment = refl

private_fits : (ss : List (List ℕ)) (j : ℕ) → length (get_or ss j []) ≤ get_or (map length ss) j 0
private_fits [] j = omega arith
private_fits (s ∷ ss) zero = omega arith
private_fits (s ∷ ss) (suc j) = private_fits ss j

map_section_fits : (d : Described) (o : Option DescribedProgram) (section : ℕ) → All IsStream d.streams →
    section < length (map (map_length d) (option_to_list o))
    → length (elim o as (λ _. List ℕ) [ None ↦ [] | Some program ↦ section_bytes (pmt_section (pmt_says d program)) ]) ≤ get_or
    (map (map_length d) (option_to_list o)) section 0
map_section_fits d None section h within = omega arith
map_section_fits d (Some p) section h within =
    let size = length (section_bytes (pmt_section (pmt_says d p))) in
    first_most (map_length d p) size section (within_room size most_bytes p.pmt_packets (pmt_length d p) (pmt_fits d p h)) within

nit_parts_fit : (n : DescribedNetwork) (packets version : ℕ) (parts : List (List NetworkStream)) (place number last section : ℕ) → number ≡ place + section
    → length
    (elim (slice_get parts section) as (λ _. List ℕ) [ None ↦ [] | Some part ↦ section_bytes (nit_section (nit_of n part version number last)) ])
    ≤ get_or (map (room_length most_bytes packets) (nit_lengths n place parts)) section 0
nit_parts_fit n packets version [] place number last section is = omega arith
nit_parts_fit n packets version (part ∷ parts) place number last zero is =
    let at : number ≡ place = omega (arith, is) in
    let size : length (section_bytes (nit_section (nit_of n part version number last))) ≡ nit_length n place part =
    nit_fits n part version number last ∙ ap (λ (k : ℕ). nit_length n k part) at in
    within_room (length (section_bytes (nit_section (nit_of n part version number last)))) most_bytes packets (nit_length n place part) (omega (arith, size))
nit_parts_fit n packets version (part ∷ parts) place number last (suc section) is =
    nit_parts_fit n packets version parts (place + 1) number last section (omega (arith, is))

network_section_fits : (d : Described) (o : Option DescribedNetwork) (section : ℕ)
    → length (elim o as (λ _. List ℕ) [ None ↦ [] | Some n ↦ network_bytes n (nit_parts d n) d.versions.nit section ])
    ≤ get_or (elim o as (λ _. List ℕ) [ None ↦ [] | Some n ↦ network_lengths d n ]) section 0
network_section_fits d None section = omega arith
network_section_fits d (Some n) section =
    nit_parts_fit n d.rooms.nit d.versions.nit (nit_parts d n) 0 section (length (nit_parts d n) - 1) section (omega arith)

-- The length of a section of the NIT among those of all its sections
lengths_at : (n : DescribedNetwork) (place : ℕ) (parts : List (List NetworkStream)) (j : ℕ) (part : List NetworkStream) → slice_get parts j ≡ Some part
    → slice_get (nit_lengths n place parts) j ≡ Some (nit_length n (place + j) part)
lengths_at n place [] j part e = absurd (cc)
lengths_at n place (p ∷ ps) zero part e =
    let same : p ≡ part = cc in
    let on : place ≡ place + 0 = omega arith in
    ap₂ (λ (k : ℕ) (q : List NetworkStream). Some (nit_length n k q)) on same
lengths_at n place (p ∷ ps) (suc j) part e =
    let on : place + 1 + j ≡ place + suc j = omega arith in
    lengths_at n (place + 1) ps j part e ∙ ap (λ (k : ℕ). Some (nit_length n k part)) on

pub nit_length_at : (n : DescribedNetwork) (parts : List (List NetworkStream)) (j : ℕ) (part : List NetworkStream) → slice_get parts j ≡ Some part
    → slice_get (nit_lengths n 0 parts) j ≡ Some (nit_length n j part)
nit_length_at n parts j part e =
    let on : 0 + j ≡ j = omega arith in
    lengths_at n 0 parts j part e ∙ ap (λ (k : ℕ). Some (nit_length n k part)) on

part_fits : (d : Described) (parts : List (List DescribedProgram)) (number last section : ℕ)
    → length
    (elim (slice_get parts section) as (λ _. List ℕ) [ None ↦ [] | Some part ↦ section_bytes (sdt_section (sdt_says d part number last)) ])
    ≤ get_or (map (part_length d) parts) section 0
part_fits d [] number last section = omega arith
part_fits d (part ∷ parts) number last zero =
    within_room (length (section_bytes (sdt_section (sdt_says d part number last)))) most_bytes d.rooms.sdt (sdt_length part)
    (omega (arith, sdt_fits d part number last))
part_fits d (part ∷ parts) number last (suc section) = part_fits d parts number last section

services_section_fits : (d : Described) (b : Bool) (section : ℕ) → length (if b then sdt_bytes d section else []) ≤ get_or (kind_lengths d kind.Sdt) section 0
services_section_fits d true section = part_fits d (sdt_parts d) section (length (sdt_parts d) - 1) section
services_section_fits d false section = omega arith

private_section_fits : (o : Option DescribedTable) (section : ℕ)
    → length (elim o as (λ _. List ℕ) [ None ↦ [] | Some private ↦ get_or private.sections section [] ])
    ≤ get_or (elim o as (λ _. List ℕ) [ None ↦ [] | Some private ↦ map length private.sections ]) section 0
private_section_fits None section = omega arith
private_section_fits (Some t) section = private_fits t.sections section

kind_fits : (d : Described) (k : TableKind) (section moment : ℕ) → IsInRange d → section < length (kind_lengths d k)
    → length (kind_bytes d k section moment) ≤ get_or (kind_lengths d k) section 0
kind_fits d kind.Pat section moment h within =
    let size = length (section_bytes (pat_section (pat_says d))) in
    first_most (room_length most_bytes d.rooms.pat (pat_length d)) size section
    (within_room size most_bytes d.rooms.pat (pat_length d) (omega (arith, pat_fits d))) within
kind_fits d (kind.Pmt p) section moment h within = map_section_fits d (slice_get d.programs p) section h.streams within
kind_fits d kind.Nit section moment h within = network_section_fits d d.network section
kind_fits d kind.Sdt section moment h within = services_section_fits d d.has_sdt section
kind_fits d kind.Eit section moment h within =
    event_section_fits d section moment (eit_place d section).1 (eit_place d section).0 (slice_get (scheduled_programs d) (eit_place d section).0) refl refl
    within
kind_fits d kind.Tdt section moment h within = first_most 8 (length (tdt_bytes moment)) section (omega (arith, tdt_fits moment)) within
kind_fits d (kind.Private i) section moment h within = private_section_fits (slice_get d.tables i) section

any_fits : (d : Described) (o : Option TableKind) (section moment : ℕ) → IsInRange d
    → section < length (elim o as (λ _. List ℕ) [ None ↦ [] | Some k ↦ kind_lengths d k ])
    → length (elim o as (λ _. List ℕ) [ None ↦ [] | Some k ↦ kind_bytes d k section moment ])
    ≤ get_or (elim o as (λ _. List ℕ) [ None ↦ [] | Some k ↦ kind_lengths d k ]) section 0
any_fits d None section moment h within = omega arith
any_fits d (Some k) section moment h within = kind_fits d k section moment h within

pub table_bytes_fit : (d : Described) (t section moment : ℕ) → IsInRange d → section < length (section_lengths d t)
    → length (table_bytes d t section moment) ≤ greatest_length d t section
table_bytes_fit d t section moment h within = any_fits d (table_kind d t) section moment h within
