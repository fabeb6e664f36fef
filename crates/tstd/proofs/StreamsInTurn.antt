-- Streams and programs, one after another.
use Rattle.std.proofs.Common.{◌≡◌, ◌∙◌, ℕ, zero, suc, ◌+◌, ◌/◌, ◌≤◌, ◌<◌, ◌⊎◌, ◌==◌, ◌&&◌, nat_eq, nat_le, true, Option, Some, None, List, [], ◌∷◌, ◌++◌}
use Rattle.std.proofs.Common.{length, drop, get_or, sum_by, refl, ap, subst, sym, arith, add-one, inl, inr, slice_get}
use Rattle.std.specs.List.{concat, list_all, starts_with}
use Rattle.std.specs.Option.{option_or}
use Rattle.std.proofs.Math.Seq.{drop-cons}
use Rattle.std.proofs.lemmas.Bool.{cases_Bool, cases_lt, eqb-true, and_parts, and_from, leb-true, le-leb, lt-leb}
use Rattle.std.proofs.lemmas.List.{drop_all}
use Rattle.description_parts.specs.Described.{Described, DescribedProgram, DescribedStream}
use Rattle.description_parts.specs.Ranges.{IsStream, IsStreamId}
use Rattle.pes_packet.specs.AccessUnits.{AccessUnit}
use Rattle.pes_packet.specs.StreamIds.{fits_packet, is_unit_id}
use Rattle.ts_packet.specs.PidList.{cut_packets, payloads_on}
use Rattle.unit_timing.specs.Schedule.{Packet}
use Rattle.tstd.specs.declared.fullness.StreamFullness.{StreamFullness}
use Rattle.tstd.specs.declared.fullness.SystemFullness.{SystemFullness}
use Rattle.tstd.specs.declared.fullness.LateUnit.{LateUnit}
use Rattle.pes_packet.specs.Units.{units_of, pes_packets_of}
use Rattle.tstd.specs.Carried.{timed_pes_packets, packets_on, table_packets, carries}
use Rattle.tstd.specs.StreamFit.{fits_of}
use Rattle.tstd.specs.PidPackets.{packets_from}
use Rattle.tstd.specs.PacketLists.{payloads_from, tables_from}
use Rattle.tstd.specs.Measured.{IsStreamFullness, IsSystemFullness, late_in, late_or, late_from}
use Rattle.tstd.specs.Refusals.{is_declared, all_carried}
use Rattle.tstd.proofs.CarriedBytes.{beginning_few, sizes_joined}
use Rattle.tstd.proofs.StreamPackets.{packets_same, payloads_same, tables_same, sizes_same}

-- An element of a list with one more at its end.
pub pushed : {X : Type 0} (xs : List X) (v : X) (n : ℕ) (f : X) → slice_get (xs ++ (v ∷ [])) n ≡ Some f →
    (slice_get xs n ≡ Some f) ⊎ ((n ≡ length xs) × (v ≡ f))
pushed [] v zero f e = inr (refl, cc)
pushed [] v (suc n) f e = absurd (let no : ⊥ = cc in no)
pushed (x ∷ xs) v zero f e = inl e
pushed (x ∷ xs) v (suc n) f e = elim (pushed xs v n f e) [ inl before ↦ inl before | inr last ↦ inr (ap suc last.0, last.1) ]

pub got : {X : Type 0} (xs : List X) (n : ℕ) (p d : X) → slice_get xs n ≡ Some p → get_or xs n d ≡ p
got [] n p d e = absurd (let no : ⊥ = cc in no)
got (x ∷ xs) zero p d e = cc
got (x ∷ xs) (suc n) p d e = got xs n p d e

-- The element at an index within the list is found.
pub gets : {X : Type 0} (xs : List X) (n : ℕ) (d : X) → n < length xs → slice_get xs n ≡ Some (get_or xs n d)
gets [] n d below = absurd (omega (arith, below))
gets (x ∷ xs) zero d below = refl
gets (x ∷ xs) (suc n) d below = gets xs n d (omega (arith, below))

-- The next program is measured.
pub systems_next : (rate : ℕ) (bytes : List ℕ) (chunks : List (List ℕ)) (all : List DescribedProgram) (found : List SystemFullness) (v : SystemFullness)
    (u : DescribedProgram) (pmt_pid i : ℕ) →
    chunks ≡ cut_packets bytes → length found ≡ i → u ≡ get_or all i u → pmt_pid ≡ u.pmt_pid → IsSystemFullness rate (tables_from pmt_pid 0 chunks) v →
    ((number : ℕ) (p : DescribedProgram) (f : SystemFullness) → slice_get all number ≡ Some p → slice_get found number ≡ Some f →
    IsSystemFullness rate (table_packets p.pmt_pid bytes) f) →
    (number : ℕ) (p : DescribedProgram) (f : SystemFullness) → slice_get all number ≡ Some p → slice_get (found ++ (v ∷ [])) number ≡ Some f →
    IsSystemFullness rate (table_packets p.pmt_pid bytes) f
systems_next rate bytes chunks all found v u pmt_pid i cut count at pid is before number p f there full = elim (pushed found v number f full) [
  | inl earlier ↦ before number p f there earlier
  | inr last ↦
      let here : u ≡ p = at ∙ got all i p u (rw (last.0 ∙ count) at there) in
      let same : tables_from pmt_pid 0 chunks ≡ table_packets p.pmt_pid bytes =
      rw (cut, pid ∙ ap (λ (q : DescribedProgram). q.pmt_pid) here) (sym (tables_same p.pmt_pid 0 (cut_packets bytes))) in
      subst (λ (w : SystemFullness). IsSystemFullness rate (table_packets p.pmt_pid bytes) w) last.1
      (subst (λ (slots : List ℕ). IsSystemFullness rate slots v) same is)
]

-- The next stream is measured.
pub streams_next : (rate base0 : ℕ) (units : List (ℕ × AccessUnit)) (bytes : List ℕ) (chunks : List (List ℕ)) (all : List DescribedStream)
    (found : List StreamFullness) (v : StreamFullness) (u : DescribedStream) (i : ℕ) →
    chunks ≡ cut_packets bytes → length found ≡ i → u ≡ get_or all i u → IsStreamFullness rate base0 u (units_of i units) (packets_from u.pid 0 chunks) v →
    ((number : ℕ) (s : DescribedStream) (f : StreamFullness) → slice_get all number ≡ Some s → slice_get found number ≡ Some f →
    IsStreamFullness rate base0 s (units_of number units) (packets_on s.pid bytes) f) →
    (number : ℕ) (s : DescribedStream) (f : StreamFullness) → slice_get all number ≡ Some s → slice_get (found ++ (v ∷ [])) number ≡ Some f →
    IsStreamFullness rate base0 s (units_of number units) (packets_on s.pid bytes) f
streams_next rate base0 units bytes chunks all found v u i cut count at is before number s f there full = elim (pushed found v number f full) [
  | inl earlier ↦ before number s f there earlier
  | inr last ↦
      let place : number ≡ i = last.0 ∙ count in
      let here : u ≡ s = at ∙ got all i s u (rw place at there) in
      let same : packets_from u.pid 0 chunks ≡ packets_on u.pid bytes = rw cut (sym (packets_same u.pid 0 (cut_packets bytes))) in
      let first : IsStreamFullness rate base0 u (units_of i units) (packets_on u.pid bytes) v =
      subst (λ (ps : List Packet). IsStreamFullness rate base0 u (units_of i units) ps v) same is in
      let second : IsStreamFullness rate base0 u (units_of i units) (packets_on u.pid bytes) f =
      subst (λ (w : StreamFullness). IsStreamFullness rate base0 u (units_of i units) (packets_on u.pid bytes) w) last.1 first in
      let third : IsStreamFullness rate base0 s (units_of i units) (packets_on s.pid bytes) f =
      subst (λ (w : DescribedStream). IsStreamFullness rate base0 w (units_of i units) (packets_on w.pid bytes) f) here second in
      subst (λ (n : ℕ). IsStreamFullness rate base0 s (units_of n units) (packets_on s.pid bytes) f) (sym place) third
]

-- All streams from i on carry their units if and only if stream i and all later streams carry their units.
pub carried_next : (d : Described) (units : List (ℕ × AccessUnit)) (bytes : List ℕ) (all : List DescribedStream) (u : DescribedStream) (i : ℕ) →
    i < length all → u ≡ get_or all i u →
    all_carried d units bytes i (drop i all) ≡
    (carries u.pid u.stream_id d.base0 (units_of i units) bytes && all_carried d units bytes (i + 1) (drop (i + 1) all))
unfolding all_carried
carried_next d units bytes all u i below at =
    let s : drop (i + 1) all ≡ drop (suc i) all = ap (λ (n : ℕ). drop n all) (add-one i) in
    rw (drop-cons all i u below, sym at, s) refl

pub carried_end : (d : Described) (units : List (ℕ × AccessUnit)) (bytes : List ℕ) (all : List DescribedStream) (i : ℕ) → length all ≤ i →
    all_carried d units bytes i (drop i all) ≡ true
unfolding all_carried
carried_end d units bytes all i over = rw (drop_all i all over) refl

pub late_step : (d : Described) (units : List (ℕ × AccessUnit)) (bytes : List ℕ) (all : List DescribedStream) (u : DescribedStream) (i : ℕ)
    (late : Option LateUnit) (first : Option ℕ) →
    i < length all → u ≡ get_or all i u → first ≡ late_in d.rate d.base0 (length bytes / 188) u (units_of i units) (packets_on u.pid bytes) u.multiplexing →
    option_or (option_or late (late_or i first None)) (late_from d units bytes (i + 1) (drop (i + 1) all)) ≡ option_or late
    (late_from d units bytes i (drop i all))
unfolding late_from
late_step d units bytes all u i late first below at is =
    let s : drop (i + 1) all ≡ drop (suc i) all = ap (λ (n : ℕ). drop n all) (add-one i) in
    rw (drop-cons all i u below, sym at, s, sym is) (joined late first (late_from d units bytes (i + 1) (drop (suc i) all)))
  where
    joined : (late : Option LateUnit) (first : Option ℕ) (rest : Option LateUnit) →
        option_or (option_or late (late_or i first None)) rest ≡ option_or late (late_or i first rest)
    joined None None rest = refl
    joined None (Some n) rest = refl
    joined (Some l) first rest = refl

pub late_done : (d : Described) (units : List (ℕ × AccessUnit)) (bytes : List ℕ) (all : List DescribedStream) (i : ℕ) (late : Option LateUnit) →
    length all ≤ i →
    option_or late (late_from d units bytes i (drop i all)) ≡ late
unfolding late_from
late_done d units bytes all i None over = rw (drop_all i all over) refl
late_done d units bytes all i (Some l) over = refl

-- The payloads of a stream that carries its units are no longer than its PES packets.
pub enough : (pid id base0 : ℕ) (units : List AccessUnit) (bytes : List ℕ) (chunks : List (List ℕ)) → chunks ≡ cut_packets bytes →
    carries pid id base0 units bytes ≡ true →
    sum_by (λ p. p.size) (packets_from pid 0 chunks) ≤ sum_by (λ t. t.size) (timed_pes_packets id base0 units)
enough pid id base0 units bytes chunks cut is =
    let part : payloads_on pid bytes ≡ payloads_from pid chunks = payloads_same pid 0 (cut_packets bytes) ∙ ap (payloads_from pid) (sym cut) in
    let few = beginning_few (concat (pes_packets_of id base0 units)) (payloads_on pid bytes) is in
    omega (arith, few, ap length part, sizes_same pid 0 chunks, sizes_joined id base0 units)

-- Whether a stream carries its units, judged packet by packet.
pub carries_same : (pid id base0 : ℕ) (units : List AccessUnit) (bytes : List ℕ) (chunks : List (List ℕ)) → chunks ≡ cut_packets bytes →
    starts_with nat_eq (concat (pes_packets_of id base0 units)) (payloads_from pid chunks) ≡ carries pid id base0 units bytes
carries_same pid id base0 units bytes chunks cut =
    ap (starts_with nat_eq (concat (pes_packets_of id base0 units))) (ap (payloads_from pid) cut ∙ sym (payloads_same pid 0 (cut_packets bytes)))

-- A unit within the declaration of its stream fits into a PES packet.
fits_stream : (id size largest : ℕ) → IsStreamId id → (id < 224 → largest ≤ 65522) → largest ≤ 4000000 → (nat_le 1 size && nat_le size largest) ≡ true →
    fits_packet id size ≡ true
fits_stream id size largest (inl e) short long within =
    let parts = and_parts (nat_le 1 size) (nat_le size largest) within in
    let few : size ≤ 65522 = omega (arith, leb-true size largest parts.1, short (omega (arith, e))) in
    rw (e, parts.0, le-leb size 65522 few) refl
fits_stream id size largest (inr range) short long within =
    let parts = and_parts (nat_le 1 size) (nat_le size largest) within in
    let unit : is_unit_id id ≡ true =
    rw (le-leb 192 id range.0, le-leb id 239 range.1) (elim (cases_Bool (id == 189)) [ inl y ↦ rw y refl | inr n ↦ rw n refl ]) in
    elim (cases_lt id 224) [
      | inl audio ↦
          let few : size ≤ 65522 = omega (arith, leb-true size largest parts.1, short audio) in
          rw (unit, parts.0, lt-leb 224 id audio, le-leb size 65522 few) refl
      | inr video ↦
          let few : size ≤ 4000000 = omega (arith, leb-true size largest parts.1, long) in
          rw (unit, parts.0, le-leb 224 id video, le-leb id 239 range.1, le-leb size 4000000 few) refl
    ]

pub declared_fit : (d : Described) (number : ℕ) (s : DescribedStream) (units : List (ℕ × AccessUnit)) → slice_get d.streams number ≡ Some s → IsStream s →
    list_all (is_declared d) units ≡ true → list_all (fits_of number s.stream_id) units ≡ true
declared_fit d number s [] there stream all = refl
declared_fit d number s (u ∷ units) there stream all =
    let parts = and_parts (is_declared d u) (list_all (is_declared d) units) all in
    and_from (fits_of number s.stream_id u) (list_all (fits_of number s.stream_id) units) (elim (cases_Bool (u.0 == number)) [
      | inl own ↦
          let at : slice_get d.streams u.0 ≡ Some s = ap (slice_get d.streams) (eqb-true u.0 number own) ∙ there in
          let within : (nat_le 1 (length u.1.bytes) && nat_le (length u.1.bytes) s.size) ≡ true = rw at at parts.0 in
          rw (own, fits_stream s.stream_id (length u.1.bytes) s.size stream.stream_id stream.bounded_size stream.most_size within) refl
      | inr other ↦ rw other refl
    ]) (declared_fit d number s units there stream parts.1)

pub late_same : (rate rate' base0 base0' n : ℕ) (s : DescribedStream) (units : List AccessUnit) (bytes : List ℕ) (chunks : List (List ℕ)) → rate' ≡ rate →
    base0' ≡ base0 →
    n ≡ length bytes / 188 → chunks ≡ cut_packets bytes →
    late_in rate' base0' n s units (packets_from s.pid 0 chunks) s.multiplexing ≡ late_in rate base0 (length bytes / 188) s units (packets_on s.pid bytes)
    s.multiplexing
late_same rate rate' base0 base0' n s units bytes chunks same_rate same_base count cut =
    rw (same_rate, same_base, count, cut)
    (ap (λ (ps : List Packet). late_in rate base0 (length bytes / 188) s units ps s.multiplexing) (sym (packets_same s.pid 0 (cut_packets bytes))))

pub full_same : (rate rate' base0 base0' : ℕ) (s : DescribedStream) (units : List AccessUnit) (packets : List Packet) (f : StreamFullness) → rate' ≡ rate →
    base0' ≡ base0 →
    IsStreamFullness rate' base0' s units packets f → IsStreamFullness rate base0 s units packets f
full_same rate rate' base0 base0' s units packets f same_rate same_base is =
    subst (λ (n : ℕ). IsStreamFullness rate n s units packets f) same_base (subst (λ (n : ℕ). IsStreamFullness n base0' s units packets f) same_rate is)
