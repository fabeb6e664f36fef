-- The round of a table is not long.
use Rattle.std.specs.Prelude.{sum_by, All, if◌then◌else◌}
use Rattle.std.proofs.Common.{◌≡◌, ℕ, suc, ◌+◌, ◌*◌, ◌≤◌, Bool, true, false, List, [], ◌∷◌, ◌++◌, length, map, get_or, Option, None, Some, slice_get, refl, ap, sym, ◌∙◌}
use Rattle.std.proofs.Common.{flat_map, length-append, arith}
use Rattle.std.specs.Option.{option_to_list, unwrap_or}
use Rattle.std.proofs.lemmas.List.Elements.{All-filter, All-get_or, All-head, All-tail}
use Rattle.std.proofs.lemmas.List.Sums.{count_by-le-length, length-filter, sum_by-append, sum_by-cons}
use Rattle.std.proofs.lemmas.Option.{slice_get_within, unwrap_or-slice_get}
use Rattle.description_parts.specs.Described.{Described, DescribedNetwork, DescribedProgram, DescribedEvent, DescribedTable}
use Rattle.description_parts.specs.Ranges.{IsInRange, IsNetwork, IsProgram, IsEvent, IsBytes, IsTable}
use Rattle.description_parts.specs.Tables.{packets_of_section, pat_length, map_length, most_bytes, most_eit_bytes, network_lengths, nit_lengths, nit_parts, pmt_length}
use Rattle.description_parts.specs.Tables.{room_length, service_length, longest_event, eit_length, eit_lengths, eit_room, is_scheduled, schedule_length, services_length}
use Rattle.description_parts.specs.Tables.{kind_lengths, sdt_length, sdt_parts, scheduled_programs, table_kind, round_packets}
use Rattle.description_parts.specs.declared.network_stream.NetworkStream.{NetworkStream}
use Rattle.description_parts.proofs.NitParts.{nit_few}
use Rattle.description_parts.proofs.RoomLengths.{room_most, room_places}
use Rattle.description_parts.proofs.SdtParts.{sdt_parts_law}
use Rattle.description_parts.specs.declared.table_kind.TableKind.{TableKind}
use Rattle.description_parts.specs.declared.table_kind.TableKind.TheVariants.{Pat, Pmt, Nit, Sdt, Eit, Tdt, Private}

-- A property of all elements is a property of each element.
found_at : {X : Type 0} (P : X → Type 0) (xs : List X) (i : ℕ) (x : X) → slice_get xs i ≡ Some x → All P xs → P x
found_at P xs i x e all = rw (there x xs e) at (All-get_or P xs i x (slice_get_within xs i x e) all)
  where
    there : {X : Type 0} (x : X) (xs : List X) → slice_get xs i ≡ Some x → get_or xs i x ≡ x
    there {X = X} x xs e = sym (unwrap_or-slice_get xs i x) ∙ ap (λ (o : Option X). unwrap_or o x) e

-- A section that may be absent has few packets.
few_of_option : {X : Type 0} (f : X → ℕ) (o : Option X) → ((x : X) → o ≡ Some x → f x ≤ 1024) → sum_by packets_of_section (map f (option_to_list o)) ≤ 2000
few_of_option f None small = omega arith
few_of_option f (Some x) small = let h = small x refl in omega arith

at_most_one : {X : Type 0} (o : Option X) → length (option_to_list o) ≤ 1
at_most_one None = omega arith
at_most_one (Some x) = omega arith

few_services : (ps : List DescribedProgram) → All IsProgram ps → sum_by service_length ps ≤ 1009 * length ps
few_services [] all = omega arith
few_services (p ∷ ps) all = let is = All-head IsProgram p ps all in
    omega (arith, is.service_descriptors.fits, few_services ps (All-tail IsProgram p ps all), sum_by-cons service_length p ps)

longest : (es : List DescribedEvent) → All IsEvent es → longest_event es ≤ 4012
longest [] all = omega arith
longest (e ∷ es) all = let is = All-head IsEvent e es all in omega (arith, is.descriptors.fits, longest es (All-tail IsEvent e es all))

short_section : (n : ℕ) (p : DescribedProgram) → n ≤ 23 → IsProgram p → packets_of_section (schedule_length n p) ≤ 45
short_section n p few is = omega (arith, longest p.events is.events, room_places most_eit_bytes n (eit_length p), few)

-- The sections of the EIT are two for each program, in either order.
few_firsts : (n : ℕ) (ps : List DescribedProgram) → n ≤ 23 → All IsProgram ps
    → sum_by packets_of_section (map (schedule_length n) ps) ≤ 45 * length ps
few_firsts n [] few all = omega arith
few_firsts n (p ∷ ps) few all =
    omega (
      arith,
      short_section n p few (All-head IsProgram p ps all),
      few_firsts n ps few (All-tail IsProgram p ps all),
      sum_by-cons packets_of_section (schedule_length n p) (map (schedule_length n) ps),
    )

few_pairs : (n : ℕ) (ps : List DescribedProgram) → n ≤ 23 → All IsProgram ps → sum_by packets_of_section (eit_lengths n ps) ≤ 90 * length ps
few_pairs n [] few all = omega arith
few_pairs n (p ∷ ps) few all =
    omega (
      arith,
      short_section n p few (All-head IsProgram p ps all),
      few_pairs n ps few (All-tail IsProgram p ps all),
      sum_by-cons packets_of_section (schedule_length n p) (schedule_length n p ∷ eit_lengths n ps),
      sum_by-cons packets_of_section (schedule_length n p) (eit_lengths n ps),
    )

few_events : (b : Bool) (n : ℕ) (ps : List DescribedProgram) → n ≤ 23 → All IsProgram ps →
    sum_by packets_of_section (if b then map (schedule_length n) ps ++ map (schedule_length n) ps else eit_lengths n ps) ≤ 90 * length ps
few_events true n ps few all =
    omega (arith, few_firsts n ps few all, sum_by-append packets_of_section (map (schedule_length n) ps) (map (schedule_length n) ps))
few_events false n ps few all = few_pairs n ps few all

room_if : (b : Bool) (n : ℕ) → n ≤ 23 → (if b then n else 1) ≤ 23
room_if true n few = few
room_if false n few = omega arith

-- The sections of the SDT have few services each.
few_of_parts : (d : Described) (pss : List (List DescribedProgram)) → d.rooms.sdt ≤ 6 → All (All IsProgram) pss →
    sum_by packets_of_section (map (services_length d) pss) ≤ 8 * length pss + 6 * length (flat_map (λ ps. ps) pss)
few_of_parts d [] few all = omega arith
few_of_parts d (ps ∷ pss) few all =
    omega (
      arith,
      few_services ps (All-head (All IsProgram) ps pss all),
      room_places most_bytes d.rooms.sdt (sdt_length ps),
      few,
      few_of_parts d pss few (All-tail (All IsProgram) ps pss all),
      sum_by-cons packets_of_section (services_length d ps) (map (services_length d) pss),
      length-append ps (flat_map (λ (qs : List DescribedProgram). qs) pss),
    )

few_parts : (d : Described) → IsInRange d → sum_by packets_of_section (kind_lengths d Sdt) ≤ 896
few_parts d r = let parts = sdt_parts_law d r in
    omega (arith, few_of_parts d (sdt_parts d) r.rooms.most_sdt parts.programs, parts.most, ap (λ (ps : List DescribedProgram). length ps) parts.whole, r.most_programs)

few_privates : (ss : List (List ℕ)) → All (IsBytes 4096) ss → sum_by packets_of_section (map length ss) ≤ 24 * length ss
few_privates [] all = omega arith
few_privates (s ∷ ss) all = let is = All-head (IsBytes 4096) s ss all in
    omega (arith, is.fits, few_privates ss (All-tail (IsBytes 4096) s ss all), sum_by-cons packets_of_section (length s) (map length ss))

few_of_table : (o : Option DescribedTable) → ((t : DescribedTable) → o ≡ Some t → IsTable t) →
    sum_by packets_of_section (elim o [ None ↦ [] | Some private ↦ map length private.sections ]) ≤ 20000
few_of_table None is = omega arith
few_of_table (Some t) is = let table = is t refl in omega (arith, few_privates t.sections table.sections, table.most_sections)

small_room : (packets l : ℕ) → l ≤ 1024 → room_length most_bytes packets l ≤ 1024
small_room packets l small = room_most most_bytes packets l 1024 small (omega arith)

small_association : (d : Described) → IsInRange d → pat_length d ≤ 1024
small_association d r = omega (arith, at_most_one d.network, r.most_programs)

-- The sections of the NIT are one more than the transport streams, at most.
few_lengths : (packets : ℕ) (ls : List ℕ) → All (λ l. l ≤ 1024) ls
    → sum_by packets_of_section (map (room_length most_bytes packets) ls) ≤ 6 * length ls
few_lengths packets [] all = omega arith
few_lengths packets (l ∷ ls) all =
    omega (
      arith,
      small_room packets l (All-head (λ m. m ≤ 1024) l ls all),
      few_lengths packets ls (All-tail (λ m. m ≤ 1024) l ls all),
      sum_by-cons packets_of_section (room_length most_bytes packets l) (map (room_length most_bytes packets) ls),
    )

count : (n : DescribedNetwork) (place : ℕ) (parts : List (List NetworkStream)) → length (nit_lengths n place parts) ≡ length parts
count n place [] = refl
count n place (part ∷ parts) = ap suc (count n (place + 1) parts)

few_network : (d : Described) (o : Option DescribedNetwork) → All IsNetwork (option_to_list o)
    → All (λ n. All (λ l. l ≤ 1024) (nit_lengths n 0 (nit_parts d n))) (option_to_list o)
    → sum_by packets_of_section (elim o [ None ↦ [] | Some n ↦ network_lengths d n ]) ≤ 396
few_network d None is short = omega arith
few_network d (Some n) is short =
    let network = All-head IsNetwork n [] is in
    let all = All-head (λ n. All (λ l. l ≤ 1024) (nit_lengths n 0 (nit_parts d n))) n [] short in
    omega (arith, few_lengths d.rooms.nit (nit_lengths n 0 (nit_parts d n)) all, count n 0 (nit_parts d n), nit_few d n, network.most_streams)

few_of_kind : (d : Described) → IsInRange d → (kind : TableKind) → sum_by packets_of_section (kind_lengths d kind) ≤ 20000
few_of_kind d r Pat =
    omega (arith, at_most_one d.network, r.most_programs, room_most most_bytes d.rooms.pat (pat_length d) 1024 (small_association d r) (omega arith))
few_of_kind d r (Pmt p) =
    omega (
      arith,
      few_of_option (map_length d) (slice_get d.programs p) (λ x e. small_room x.pmt_packets (pmt_length d x)
          (found_at (λ q. pmt_length d q ≤ 1024) d.programs p x e r.pmt_lengths)),
    )
few_of_kind d r Nit = omega (arith, few_network d d.network r.network r.nit_lengths)
few_of_kind d r Sdt = omega (arith, few_parts d r)
few_of_kind d r Eit =
    omega (
      arith,
      few_events d.is_transponder (eit_room d) (scheduled_programs d) (room_if d.has_eit d.rooms.eit r.rooms.most_eit)
          (All-filter (is_scheduled d.has_eit) IsProgram d.programs r.programs),
      length-filter (is_scheduled d.has_eit) d.programs,
      count_by-le-length (is_scheduled d.has_eit) d.programs,
      r.most_programs,
    )
few_of_kind d r Tdt = omega arith
few_of_kind d r (Private i) = few_of_table (slice_get d.tables i) (λ t e. found_at IsTable d.tables i t e r.tables)

-- The packets of a round are few.
pub few_places : (d : Described) → IsInRange d → (t : ℕ) → round_packets d t ≤ 20000
few_places d r t = of_kind (table_kind d t)
  where
    of_kind : (o : Option TableKind) → sum_by packets_of_section (elim o [ None ↦ [] | Some kind ↦ kind_lengths d kind ]) ≤ 20000
    of_kind None = omega arith
    of_kind (Some kind) = few_of_kind d r kind
