-- What the packets of a PID that carries units leave in the main buffer of a view
use Rattle.std.proofs.Common.{◌≡◌, ◌∙◌, sym, ℕ, zero, suc, ◌+◌, ◌≤◌, List, [], ◌∷◌, ◌++◌, length, map, take, drop, Option, None, refl, ap, subst, inl, arith}
use Rattle.std.proofs.Common.{All}
use Rattle.std.proofs.lemmas.List.{length-append}
use Rattle.clock27.specs.Departure.{last_left}
use Rattle.ts_packet.specs.PidList.{Entry, payload_of, pid_list}
use Rattle.pes_packet.specs.AccessUnits.{AccessUnit}
use Rattle.unit_timing.specs.MainBuffer.{mb_fullness}
use Rattle.unit_timing.specs.Schedule.{Packet}
use Rattle.unit_timing.specs.Transport.{pes_left}
use Rattle.description_parts.specs.Described.{DescribedStream}
use Rattle.tstd.specs.Carried.{packets_on, timed_pes_packets}
use Rattle.arrival.specs.declared.arrival.Arrival.TheVariants.{AtRate}
use Rattle.tstd_rows.specs.History.{arrivals_of, main_fullness, until_of}
use Rattle.tstd_rows.specs.declared.arriving.Arriving.{Arriving}
use Rattle.tstd_rows.specs.Held.{empty}
use Rattle.ts_watch.specs.Choices.{RequestView}
use Rattle.es_view.specs.Entries.{EntryState}
use Rattle.laws_view.specs.StreamPackets.{Before, Followed, after_each, clocks_seen, most_packets}
use Rattle.laws_view.specs.CarriedStreams.{BegunPayload, CarriesUnits, CutUnit, IsCut, cut_pieces, cut_senders, cut_units, payload_in}
use Rattle.laws_view.specs.WholeStreams.{followed, known_at_begin, nothing_known, stream_packets}
use Rattle.laws_view.proofs.EnteredBytes.{ComeFrom}
use Rattle.laws_view.proofs.MainBytes.{timed_packet, until_at}
use Rattle.laws_view.proofs.KeptBytes.{Follows, UnderWay, kept_each, main_each, main_each_is, many_left, total}
use Rattle.laws_view.proofs.SentBytes.{kept_later, kept_units, packet_sizes, sizes_of, total_two}
use Rattle.laws_view.proofs.SentUnits.{AllSent, entry_packet, many_packets}
use Rattle.laws_view.proofs.ClockAhead.{entries_from}
use Rattle.laws_view.proofs.FollowedUnits.{Clocked, Known, all_follow}
use Rattle.laws_view.proofs.PidEntries.{seen_packets}
use Rattle.laws_view.proofs.StreamIndices.{they_come}
use Rattle.laws_view.proofs.Whole.{index_all}

-- The sizes of the packets are the sizes of the payloads that the units are cut into.

sizes_entries : (es : List Entry) → packet_sizes (map entry_packet es) ≡ sizes_of (map payload_in es)
sizes_entries [] = refl
sizes_entries (e ∷ es) = ap (λ (ns : List ℕ). length (payload_of e.packet) ∷ ns) (sizes_entries es)

sizes_front : (n : ℕ) (ps : List BegunPayload) → sizes_of (take n ps) ≡ take n (sizes_of ps)
sizes_front zero ps = refl
sizes_front (suc n) [] = refl
sizes_front (suc n) (p ∷ ps) = ap (λ (ns : List ℕ). length p.bytes ∷ ns) (sizes_front n ps)

pub carried_sizes : (id base0 pid : ℕ) (cuts : List CutUnit) (bytes : List ℕ) → CarriesUnits id base0 pid cuts bytes →
    packet_sizes (map entry_packet (pid_list pid bytes)) ≡ take (length (map entry_packet (pid_list pid bytes))) (sizes_of (cut_pieces cuts))
carried_sizes id base0 pid cuts bytes c =
    let es : List Entry = pid_list pid bytes in
    sizes_entries es ∙ ap (λ (ps : List BegunPayload). sizes_of ps) c.pieces ∙ sizes_front (length es) (cut_pieces cuts)
    ∙ ap (λ (n : ℕ). take n (sizes_of (cut_pieces cuts))) (sym (many_packets es))

-- What the packets leave in an empty main buffer

-- The main buffer holds no more than a model's that also has the packets before, if the model's transport buffer is empty again when these packets begin.
pub later_within : (rate rx size low x id base0 : ℕ) (cuts : List CutUnit) (ps : List Arriving) (front back : List Packet) → ComeFrom low ps →
    Follows rate rx None ps (drop (length front) (cut_senders cuts)) → map timed_packet ps ≡ back → All (λ p. p.size ≤ 188) front →
    All (λ p. p.size ≤ 188) back →
    All (IsCut id base0) cuts → packet_sizes (front ++ back) ≡ take (length (front ++ back)) (sizes_of (cut_pieces cuts)) →
    main_fullness rate (after_each (empty rate rx size) (AtRate rate) ps).parts x
    ≤ mb_fullness rate rx x (timed_pes_packets id base0 (cut_units cuts)) (pes_left rate rx 0 front ++ pes_left rate rx 0 back)
unfolding main_fullness arrivals_of last_left until_of until_at
later_within rate rx size low x id base0 cuts ps front back come follows same small small_too cut sizes =
    let vs : List AccessUnit = drop (length front) (cut_senders cuts) in
    let before : List ℕ = pes_left rate rx 0 front in
    let after_it : List ℕ = pes_left rate rx 0 back in
    let all = main_each rate low x (empty rate rx size) ps (drop (length front) (cut_senders cuts)) None come (omega arith) follows refl in
    let here : kept_each rate rx x vs (map timed_packet ps) (pes_left rate rx 0 (map timed_packet ps)) ≡ kept_each rate rx x vs back (pes_left rate rx 0 back) =
    ap (λ (xs : List Packet). kept_each rate rx x vs xs (pes_left rate rx 0 xs)) same in
    let more = kept_later rate rx x (cut_senders cuts) front back before after_it (many_left rate rx 0 front small) in
    let many : length (pes_left rate rx 0 front ++ pes_left rate rx 0 back) ≡ total (packet_sizes (front ++ back)) =
    omega (arith, length-append before after_it, many_left rate rx 0 front small, many_left rate rx 0 back small_too, total_two front back) in
    omega (arith, all, here, more, kept_units rate rx x id base0 cuts (front ++ back) (pes_left rate rx 0 front ++ pes_left rate rx 0 back) cut sizes many)

-- If a unit is open from the first packet on, the main buffer holds exactly what the model's holds.
pub main_is : (rate rx size low x id base0 : ℕ) (cuts : List CutUnit) (ps : List Arriving) (qs : List Packet) → ComeFrom low ps →
    Follows rate rx None ps (cut_senders cuts) →
    UnderWay None ps → map timed_packet ps ≡ qs → All (λ p. p.size ≤ 188) qs → All (IsCut id base0) cuts →
    packet_sizes qs ≡ take (length qs) (sizes_of (cut_pieces cuts)) →
    main_fullness rate (after_each (empty rate rx size) (AtRate rate) ps).parts x ≡ mb_fullness rate rx x (timed_pes_packets id base0 (cut_units cuts))
    (pes_left rate rx 0 qs)
unfolding main_fullness arrivals_of last_left until_of until_at
main_is rate rx size low x id base0 cuts ps qs come follows under_way same small cut sizes =
    let vs : List AccessUnit = cut_senders cuts in
    let all = main_each_is rate low x (empty rate rx size) ps (cut_senders cuts) None come (omega arith) follows under_way refl in
    let here : kept_each rate rx x vs (map timed_packet ps) (pes_left rate rx 0 (map timed_packet ps)) ≡ kept_each rate rx x vs qs (pes_left rate rx 0 qs) =
    ap (λ (xs : List Packet). kept_each rate rx x vs xs (pes_left rate rx 0 xs)) same in
    omega (arith, all, here, kept_units rate rx x id base0 cuts qs (pes_left rate rx 0 qs) cut sizes (many_left rate rx 0 qs small))

-- The fullness of the model's main buffer at each moment, for a stream whose PID carries these units
abbrev pub model_of : ℕ → ℕ → DescribedStream → List AccessUnit → List ℕ → (ℕ → ℕ)
model_of rate base0 s us bytes = λ x. mb_fullness rate s.rx x (timed_pes_packets s.stream_id base0 us) (pes_left rate s.rx 0 (packets_on s.pid bytes))

-- The packets from the begin of the buffers on

pub record FromBegin (rate : ℕ) (us : List AccessUnit) (request : RequestView) (e : EntryState) (pid : ℕ) (before rest : List (List ℕ)) : Type 0 where
  pub come : ComeFrom (known_at_begin (followed request e) before).index (stream_packets request e before rest)
  pub follows : Follows rate e.held.rx None (stream_packets request e before rest) us
  pub packets : map timed_packet (stream_packets request e before rest) ≡ map entry_packet (entries_from pid (length before) rest)

pub from_begin : (rate base0 : ℕ) (us : List AccessUnit) (request : RequestView) (e : EntryState) (pid n : ℕ) (last : Option AccessUnit)
    (before rest : List (List ℕ)) →
    request.options.arrival ≡ AtRate rate → length before + length rest ≤ most_packets → e.pid ≡ pid →
    AllSent base0 n last (entries_from pid (length before) rest) us →
    Clocked rate base0 (entries_from pid (length before) rest) us (clocks_seen (followed request e) (known_at_begin (followed request e) before) rest) →
    FromBegin rate us request e pid before rest
from_begin rate base0 us request e pid n last before rest at_rate few same sent clock =
    let f : Followed = followed request e in
    let b : Before = known_at_begin f before in
    let index : b.index ≡ length before = omega (arith, index_all f nothing_known before) in
    let all : entries_from pid (length before) rest ≡ entries_from f.pid b.index rest =
    ap (λ (i : ℕ). entries_from pid i rest) (sym index) ∙ ap (λ (q : ℕ). entries_from q b.index rest) (sym same) in
    let sent_now : AllSent base0 n last (entries_from f.pid b.index rest) us = subst (λ (es : List Entry). AllSent base0 n last es us) all sent in
    let clock_now : Clocked rate base0 (entries_from f.pid b.index rest) us (clocks_seen f b rest) =
    subst (λ (es : List Entry). Clocked rate base0 es us (clocks_seen f b rest)) all clock in
    let known : Known rate f n b last None = record { counter = inl refl; goes = inl refl; none = λ e. refl } in
    record {
      come = they_come f b rest (omega (arith, index, few));
      follows = all_follow rate base0 f n b last None rest us at_rate known sent_now clock_now;
      packets = seen_packets base0 n last us f b rest sent_now ∙ ap (λ (es : List Entry). map entry_packet es) (sym all);
    }
