-- Units that are sent whole are found again.
use Rattle.std.proofs.Common.{◌≡◌, ◌≤◌, ◌<◌, ℕ, ◌+◌, ◌-◌, ◌*◌, ◌^◌, ◌==◌, ◌&&◌, Bool, true, false, Option, Some, None, List, [], ◌∷◌, ◌++◌, length, map, take}
use Rattle.std.proofs.Common.{drop, All, refl, ap, ◌∙◌, arith, inl, inr, append-nil}
use Rattle.std.proofs.lemmas.Bool.{cases_Bool, eq-eqb, eqb-true, le-leb}
use Rattle.std.proofs.lemmas.Bool.Decides.{nat_tests}
use Rattle.std.proofs.lemmas.List.{length-append, take_all}
use Rattle.std.proofs.lemmas.List.Elements.{All-nil, All-cons, All-head, All-tail}
use Rattle.pes_packet.specs.AccessUnits.{AccessUnit}
use Rattle.pes_packet.specs.Encoding.{pes_packet_bytes, pes_header_bytes, header_size, on_wire}
use Rattle.pes_packet.specs.Laws.{HasSixteen, written_header}
use Rattle.pes_packet.specs.HeaderMarks.{header_marks}
use Rattle.pes_packet.specs.declared.marks.Marks.{Marks}
use Rattle.pes_packet.proofs.Written.{marks_are_read}
use Rattle.pes_packet.proofs.Written.{header_sizes}
use Rattle.pid_findings.specs.Views.{FindingView}
use Rattle.demux.specs.Laws.{with_pid_at}
use Rattle.unit_queue.specs.OwnedStreams.{OwnedStream, first_slot, end_slot, has_access, packet_count}
use Rattle.laws_run.specs.Sent.{Sending, Ending, next_of, if_sent, each_found}
use Rattle.laws_run.specs.Units.{carried_in, unit_header, unit_packets, unit_found}
use Rattle.laws_run.specs.Placed.{units_placed}
use Rattle.es_units.specs.CarriedUnits.{Start, pes_role, role_of_what, is_access_point, is_unstamped, first_packet, role_of, more_bytes}
use Rattle.es_units.specs.CarriedUnits.{continued_by, continuation, end_of, is_cut, is_split, units_from, units_in, wire_units}
use Rattle.es_moments.specs.Stamps.{distance, dts_at, unit_at, moved}
use Rattle.laws_job.specs.Laws.{later_by}
use Rattle.laws_job.proofs.PrivateData.{Sixteen}
use Rattle.laws_job.proofs.SentWhole.{IsWhole}
use Rattle.es_moments.specs.WireUnits.{CarriedUnit}

-- 1. One unit

-- A unit as it is found
abbrev found_unit : ℕ → ℕ → ℕ → AccessUnit → CarriedUnit
found_unit i id base0 u = record { packet = i; stream_id = id; unit = later_by base0 u }

text_bytes : (id base0 : ℕ) (u : AccessUnit) → length (pes_packet_bytes id base0 u) ≡ header_size u.marks (u.pts + base0) (u.dts + base0) + length u.bytes
unfolding pes_packet_bytes
text_bytes id base0 u =
    let head = pes_header_bytes id (length u.bytes) u.marks (u.pts + base0) (u.dts + base0) in
    omega (arith, length-append head u.bytes, header_sizes id (length u.bytes) u.marks (u.pts + base0) (u.dts + base0))

-- The role of a PES packet follows from the stamps of its header.
by_stamps : (i id size : ℕ) (marks : Marks) (pts dts : ℕ) (bytes : List ℕ) →
    pes_role i (written_header id size marks pts dts).id marks (written_header id size marks pts dts).stamps bytes
    ≡ Start (record { packet = i; stream_id = id; unit = record { dts = on_wire dts; pts = on_wire pts; marks = marks; bytes = bytes } })
unfolding pes_role written_header
by_stamps i id size marks pts dts bytes = elim (cases_Bool (on_wire pts == on_wire dts)) [
  | inl same ↦
      let e : on_wire pts ≡ on_wire dts = eqb-true (on_wire pts) (on_wire dts) same in
      rw same (ap (λ (d : ℕ). Start (record { packet = i; stream_id = id; unit = record { dts = d; pts = on_wire pts; marks = marks; bytes = bytes } })) e)
  | inr differ ↦ rw differ refl
]

-- The marks of a unit follow from the header of its PES packet.
by_header : (i id size : ℕ) (marks : Marks) (pts dts : ℕ) (bytes : List ℕ) → HasSixteen marks →
    pes_role i (written_header id size marks pts dts).id (header_marks marks.random_access (written_header id size marks pts dts))
    (written_header id size marks pts dts).stamps bytes
    ≡ Start (record { packet = i; stream_id = id; unit = record { dts = on_wire dts; pts = on_wire pts; marks = marks; bytes = bytes } })
by_header i id size marks pts dts bytes sixteen =
    ap (λ (m : Marks). pes_role i (written_header id size marks pts dts).id m (written_header id size marks pts dts).stamps bytes)
    (marks_are_read id size marks pts dts sixteen)
    ∙ by_stamps i id size marks pts dts bytes

own_pid : (pid : ℕ) (f : FindingView) → f.pid ≡ Some pid →
    role_of pid f ≡ role_of_what (first_packet f.packet f.begun) (is_unstamped f.begun) (is_access_point f.begun) f.what
unfolding role_of
own_pid pid f e = rw (e, eq-eqb pid pid refl) refl

begins : (pid id base0 : ℕ) (e : Ending) (u : AccessUnit) (i : ℕ) (is : List ℕ) → unit_packets id base0 u ≤ length (i ∷ is) → Sixteen u →
    role_of pid (with_pid_at pid (unit_found id base0 e u i is)) ≡ Start (found_unit i id base0 u)
unfolding unit_found role_of_what first_packet is_access_point
begins pid id base0 e u i is whole sixteen =
    let text = text_bytes id base0 u in
    let room = carried_in (has_access u) (i ∷ is) in
    let fits : length (pes_packet_bytes id base0 u) ≤ room = omega (arith, whole) in
    let all : take (room - header_size u.marks (u.pts + base0) (u.dts + base0)) u.bytes ≡ u.bytes =
    take_all (room - header_size u.marks (u.pts + base0) (u.dts + base0)) u.bytes (omega (arith, text, fits)) in
    let head = by_header i id (length u.bytes) u.marks (u.pts + base0) (u.dts + base0) u.bytes sixteen in
    own_pid pid (with_pid_at pid (unit_found id base0 e u i is)) refl ∙
    elim (cases_Bool ((unit_header id base0 u).len == 0)) [
      | inl y ↦ rw (y, all) head
      | inr n ↦ rw (n, le-leb (length (pes_packet_bytes id base0 u)) room fits) head
    ]

-- 2. All units

-- All packets of the unit are there, the unit is not empty, and its PES_private_data has 16 bytes.
abbrev IsThere : ℕ → ℕ → Sending AccessUnit → Type 0
IsThere id base0 x = (unit_packets id base0 x.item ≤ length x.packets) × (1 ≤ length x.item.bytes) × Sixteen x.item

some_packet : (id base0 : ℕ) (u : AccessUnit) → 1 ≤ length u.bytes → 1 ≤ unit_packets id base0 u
some_packet id base0 u some = omega (arith, text_bytes id base0 u, some)

-- The units are found, whether or not units of the PID have several PES packets.
record Found (split : Bool) (pid id base0 : ℕ) (fs : List FindingView) (us : List AccessUnit) : Type 0 where
  alone : continuation id pid fs ≡ []
  uncut : is_cut id pid fs ≡ false
  units : map (λ c. c.unit) (units_in split pid fs) ≡ map (later_by base0) us

none_lost : (split : Bool) → (split && false) ≡ false
none_lost true = refl
none_lost false = refl

one_more : (split : Bool) (pid id base0 : ℕ) (f : FindingView) (fs : List FindingView) (i : ℕ) (u : AccessUnit) (us : List AccessUnit) →
    role_of pid f ≡ Start (found_unit i id base0 u) → 1 ≤ length u.bytes → Found split pid id base0 fs us → Found split pid id base0 (f ∷ fs) (u ∷ us)
unfolding continuation continued_by more_bytes is_cut end_of units_in units_from
one_more split pid id base0 f fs i u us is some rest =
    let bytes : u.bytes ++ [] ≡ u.bytes = append-nil u.bytes in
    let there : (length u.bytes == 0) ≡ false = grind (arith, nat_tests, some) in
    record {
      alone = rw is refl;
      uncut = rw is refl;
      units = rw (is, rest.uncut, none_lost split, rest.alone, bytes, there) (ap (λ (xs : List AccessUnit). later_by base0 u ∷ xs) rest.units);
    }

one_sent : (split : Bool) (pid id base0 n : ℕ) (u : AccessUnit) (packets : List ℕ) (xs : List (Sending AccessUnit)) (us : List AccessUnit) →
    unit_packets id base0 u ≤ length packets →
    1 ≤ length u.bytes → Sixteen u → Found split pid id base0 (map (with_pid_at pid) (each_found (unit_found id base0) n xs)) us →
    Found split pid id base0 (map (with_pid_at pid) (if_sent (unit_found id base0 (next_of n xs) u) packets ++ each_found (unit_found id base0) n xs)) (u ∷ us)
unfolding if_sent
one_sent split pid id base0 n u [] xs us whole some sixteen rest = absurd (omega (arith, whole, some_packet id base0 u some))
one_sent split pid id base0 n u (i ∷ is) xs us whole some sixteen rest =
    one_more split pid id base0 (with_pid_at pid (unit_found id base0 (next_of n xs) u i is)) (map (with_pid_at pid) (each_found (unit_found id base0) n xs)) i
    u us
    (begins pid id base0 (next_of n xs) u i is whole sixteen) some rest

all_found_again : (split : Bool) (pid id base0 n : ℕ) (xs : List (Sending AccessUnit)) → All (IsThere id base0) xs →
    Found split pid id base0 (map (with_pid_at pid) (each_found (unit_found id base0) n xs)) (map (λ x. x.item) xs)
unfolding each_found
all_found_again split pid id base0 n [] all = record { alone = unfold continuation in refl; uncut = unfold is_cut in refl; units = unfold units_in in refl }
all_found_again split pid id base0 n (x ∷ xs) all =
    let there = All-head (IsThere id base0) x xs all in
    one_sent split pid id base0 n x.item x.packets xs (map (λ y. y.item) xs) there.0 there.1 there.2
    (all_found_again split pid id base0 n xs (All-tail (IsThere id base0) x xs all))

-- 3. The units of a lane

items : (l : OwnedStream) (free : ℕ) (us : List AccessUnit) (slots : List ℕ) → map (λ x. x.item) (units_placed l free us slots) ≡ us
unfolding units_placed
items l free [] slots = refl
items l free (u ∷ us) slots = ap (λ (xs : List AccessUnit). u ∷ xs) (items l (end_slot l free u) us slots)

both : (l : OwnedStream) (free : ℕ) (us : List AccessUnit) (slots : List ℕ) → All (IsWhole l) (units_placed l free us slots) →
    All (λ u. 1 ≤ length u.bytes) us →
    All Sixteen us → All (IsThere l.parameters.stream_id l.parameters.base0) (units_placed l free us slots)
unfolding units_placed
both l free [] slots whole some sixteen = All-nil (IsThere l.parameters.stream_id l.parameters.base0)
both l free (u ∷ us) slots whole some sixteen =
    let rest = units_placed l (end_slot l free u) us slots in
    let x : Sending AccessUnit = record { item = u; packets = take (packet_count l u) (drop (first_slot l free u) slots) } in
    All-cons (IsThere l.parameters.stream_id l.parameters.base0) x rest
    (All-head (IsWhole l) x rest whole, All-head (λ v. 1 ≤ length v.bytes) u us some, All-head Sixteen u us sixteen)
    (both l (end_slot l free u) us slots (All-tail (IsWhole l) x rest whole) (All-tail (λ v. 1 ≤ length v.bytes) u us some) (All-tail Sixteen u us sixteen))

pub found_again : (pid n : ℕ) (l : OwnedStream) (us : List AccessUnit) (slots : List ℕ) → All (IsWhole l) (units_placed l 0 us slots) →
    All (λ u. 1 ≤ length u.bytes) us →
    All Sixteen us → wire_units pid (map (with_pid_at pid) (each_found (unit_found l.parameters.stream_id l.parameters.base0) n (units_placed l 0 us slots))) ≡
    map (later_by l.parameters.base0) us
found_again pid n l us slots whole some sixteen =
    let fs = map (with_pid_at pid) (each_found (unit_found l.parameters.stream_id l.parameters.base0) n (units_placed l 0 us slots)) in
    (all_found_again (is_split pid fs) pid l.parameters.stream_id l.parameters.base0 n (units_placed l 0 us slots) (both l 0 us slots whole some sixteen)).units
    ∙ ap (map (later_by l.parameters.base0)) (items l 0 us slots)

-- 4. Stamps on the wire

dts_later : (base base0 : ℕ) (before : Option ℕ) (w : ℕ) → base < 2 ^ 33 → on_wire (dts_at base before w + base0) ≡ on_wire (w + (base0 + 2 ^ 33 - base))
unfolding distance dts_at
dts_later base base0 None w range = omega (arith, range)
dts_later base base0 (Some d) w range = omega (arith, range)

pts_later : (base base0 dts w : ℕ) → base < 2 ^ 33 → on_wire (dts + distance (dts + base) w + base0) ≡ on_wire (w + (base0 + 2 ^ 33 - base))
unfolding distance
pts_later base base0 dts w range = omega (arith, range)

pub moved_later : (base base0 : ℕ) (before : Option ℕ) (wire : List AccessUnit) → base < 2 ^ 33 →
    map (later_by base0) (moved base before wire) ≡ map (later_by (base0 + 2 ^ 33 - base)) wire
unfolding moved unit_at
moved_later base base0 before [] range = refl
moved_later base base0 before (u ∷ us) range =
    rw (
      dts_later base base0 before u.dts range,
      pts_later base base0 (dts_at base before u.dts) u.pts range,
      moved_later base base0 (Some (dts_at base before u.dts)) us range,
    ) refl
