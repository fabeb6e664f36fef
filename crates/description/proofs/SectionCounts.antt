-- Each table has at least one section, and at most 128.
use Rattle.std.proofs.Common.{◌≡◌, ℕ, zero, suc, ◌+◌, ◌*◌, ◌<◌, ◌≤◌, ◌||◌, Bool, true, false, List, [], ◌∷◌, ◌++◌, length, map, filter, slice_get, sum_by, Option}
use Rattle.std.proofs.Common.{if◌then◌else◌, None, Some, is_some, refl, ap, sym, subst, ◌∙◌, arith, All, zero-add}
use Rattle.std.proofs.lemmas.List.{length-map, length-append}
use Rattle.std.proofs.lemmas.List.Sums.{sum_by-cons, length-filter, count_by-le-length}
use Rattle.std.proofs.lemmas.List.Elements.{All-nil, All-cons, All-append}
use Rattle.std.specs.List.{list_any}
use Rattle.description_parts.specs.Described.{Described, DescribedNetwork, DescribedProgram, DescribedTable}
use Rattle.description_parts.specs.Ranges.{IsInRange, IsNetwork, IsTable}
use Rattle.description_parts.specs.Tables.{numbers_from, only_if, has_event, is_scheduled, scheduled_programs, has_events_table, service_tables, table_kinds, table_count, table_kind}
use Rattle.description_parts.specs.Tables.{sdt_parts, services_length, kind_lengths, eit_room, schedule_length, eit_lengths, packets_of_section, section_lengths, section_count}
use Rattle.description_parts.specs.Tables.{most_bytes, network_lengths, nit_lengths, nit_parts, room_length}
use Rattle.description_parts.specs.declared.network_stream.NetworkStream.{NetworkStream}
use Rattle.description_parts.specs.declared.table_kind.TableKind.{TableKind}
use Rattle.description_parts.specs.declared.table_kind.TableKind.TheVariants.{Pat, Pmt, Nit, Sdt, Eit, Tdt, Private}
use Rattle.description_parts.proofs.NitParts.{nit_parts_law}
use Rattle.description_parts.proofs.SdtParts.{sdt_parts_law}
use Rattle.description.specs.Pids.{SectionsLaw}
use Rattle.description.proofs.NetworkFacts.{of_some}
use Rattle.description.proofs.Pids.{at_place}

-- A table of this kind has 1 to 128 sections.
record Some128 (d : Described) (k : TableKind) : Type 0 where
  some : 0 < length (kind_lengths d k)
  most : length (kind_lengths d k) ≤ 128

of_one : (d : Described) (k : TableKind) → length (kind_lengths d k) ≡ 1 → Some128 d k
of_one d k e = record { some = omega (arith, e); most = omega (arith, e) }

numbered : (d : Described) {X : Type 0} (c : ℕ → TableKind) (n : ℕ) (xs : List X) → ((i : ℕ) (x : X) → slice_get xs i ≡ Some x → Some128 d (c (n + i))) →
    All (Some128 d) (map c (numbers_from n xs))
numbered d c n [] h = All-nil (Some128 d)
numbered d c n (x ∷ xs) h =
    let zero_on : n + 0 ≡ n = omega arith in
    All-cons (Some128 d) (c n) (map c (numbers_from (n + 1) xs)) (subst (λ (k : ℕ). Some128 d (c k)) zero_on (h 0 x refl))
    (numbered d c (n + 1) xs (λ i y e. let is : n + suc i ≡ n + 1 + i = omega arith in subst (λ (k : ℕ). Some128 d (c k)) is (h (suc i) y e)))

one_if : (d : Described) (b : Bool) (k : TableKind) → (b ≡ true → Some128 d k) → All (Some128 d) (only_if b k)
one_if d true k h = All-cons (Some128 d) k [] (h refl) (All-nil (Some128 d))
one_if d false k h = All-nil (Some128 d)

-- The EIT has two sections for each program with events, in either order.
pairs_count : (n : ℕ) (ps : List DescribedProgram) → length (eit_lengths n ps) ≡ 2 * length ps
pairs_count n [] = refl
pairs_count n (p ∷ ps) = omega (arith, pairs_count n ps)

order_count : (b : Bool) (n : ℕ) (ps : List DescribedProgram)
    → length (if b then map (schedule_length n) ps ++ map (schedule_length n) ps else eit_lengths n ps) ≡ 2 * length ps
order_count true n ps = omega (arith, length-append (map (schedule_length n) ps) (map (schedule_length n) ps), length-map ps (schedule_length n))
order_count false n ps = pairs_count n ps

pub eit_count : (d : Described) → length (kind_lengths d Eit) ≡ 2 * length (scheduled_programs d)
eit_count d = order_count d.is_transponder (eit_room d) (scheduled_programs d)

filtered_step : (p : DescribedProgram) (ps : List DescribedProgram) (b : Bool) → has_event p ≡ b → list_any has_event (p ∷ ps) ≡ true
    → (list_any has_event ps ≡ true → 0 < length (filter has_event ps)) → 0 < length (filter has_event (p ∷ ps))
filtered_step p ps true y e later = rw y (omega arith)
filtered_step p ps false n e later =
    let f : list_any has_event (p ∷ ps) ≡ list_any has_event ps = rw n refl in
    rw n (later (sym f ∙ e))

some_filtered : (ps : List DescribedProgram) → list_any has_event ps ≡ true → 0 < length (filter has_event ps)
some_filtered [] e = absurd (cc)
some_filtered (p ∷ ps) e = filtered_step p ps (has_event p) refl e (some_filtered ps)

some_scheduled : (all : Bool) (ps : List DescribedProgram) → 1 ≤ length ps → (all || list_any has_event ps) ≡ true → 0 < length (filter (is_scheduled all) ps)
some_scheduled true [] some e = absurd (omega (arith, some))
some_scheduled true (p ∷ ps) some e = omega arith
some_scheduled false ps some e = some_filtered ps e

-- The NIT has as many sections as its transport streams need.
lengths_count : (n : DescribedNetwork) (place : ℕ) (parts : List (List NetworkStream)) → length (nit_lengths n place parts) ≡ length parts
lengths_count n place [] = refl
lengths_count n place (part ∷ parts) = ap suc (lengths_count n (place + 1) parts)

pub network_count : (d : Described) (n : DescribedNetwork) → d.network ≡ Some n → length (kind_lengths d Nit) ≡ length (nit_parts d n)
network_count d n there =
    let is : kind_lengths d Nit ≡ network_lengths d n =
    ap (λ (o : Option DescribedNetwork). elim o as (λ _. List ℕ) [ None ↦ [] | Some m ↦ network_lengths d m ]) there in
    ap (length {A = ℕ}) is ∙ length-map (nit_lengths n 0 (nit_parts d n)) (room_length most_bytes d.rooms.nit) ∙ lengths_count n 0 (nit_parts d n)

network_good : (d : Described) → IsInRange d → (o : Option DescribedNetwork) → d.network ≡ o → is_some d.network ≡ true → Some128 d Nit
network_good d r None e y = absurd (cc)
network_good d r (Some n) e y =
    let parts = nit_parts_law d r n e in
    let few = (of_some IsNetwork d.network n e r.network).most_streams in
    record { some = omega (arith, network_count d n e, parts.some); most = omega (arith, network_count d n e, parts.most, few) }

kinds_good : (d : Described) → IsInRange d → All (Some128 d) (table_kinds d)
kinds_good d r =
    All-append (Some128 d) (Pat ∷ map Pmt (numbers_from 0 d.programs)) (service_tables d ++ map Private (numbers_from 0 d.tables))
    (All-cons (Some128 d) Pat (map Pmt (numbers_from 0 d.programs)) (of_one d Pat refl)
    (numbered d Pmt 0 d.programs (λ i p e. let f : slice_get d.programs (0 + i) ≡ Some p = ap (slice_get d.programs) (zero-add i) ∙ e in
    of_one d (Pmt (0 + i)) (rw f refl))))
    (All-append (Some128 d) (service_tables d) (map Private (numbers_from 0 d.tables))
    (All-append (Some128 d) (nit ++ sdt ++ eit) tdt
    (All-append (Some128 d) (nit ++ sdt) eit
    (All-append (Some128 d) nit sdt
    (one_if d (is_some d.network) Nit (network_good d r d.network refl))
    (one_if d d.has_sdt Sdt (λ y. services)))
    (one_if d (has_events_table d) Eit events))
    (one_if d d.has_tdt Tdt (λ y. of_one d Tdt refl)))
    (numbered d Private 0 d.tables (λ i t e. private (0 + i) t (ap (slice_get d.tables) (zero-add i) ∙ e) (at_place IsTable d.tables i t r.tables e))))
  where
    nit : List TableKind
    nit = only_if (is_some d.network) Nit

    sdt : List TableKind
    sdt = only_if d.has_sdt Sdt

    eit : List TableKind
    eit = only_if (has_events_table d) Eit

    tdt : List TableKind
    tdt = only_if d.has_tdt Tdt

    services : Some128 d Sdt
    services =
        let parts = sdt_parts_law d r in
        let all : length (kind_lengths d Sdt) ≡ length (sdt_parts d) = length-map (sdt_parts d) (services_length d) in
        record { some = omega (arith, all, parts.some); most = omega (arith, all, parts.most, r.most_programs) }

    events : has_events_table d ≡ true → Some128 d Eit
    events y =
        let all = eit_count d in
        record {
          some = omega (arith, all, some_scheduled d.has_eit d.programs r.some_programs y);
          most =
              omega (
                arith,
                all,
                length-filter (is_scheduled d.has_eit) d.programs,
                count_by-le-length (is_scheduled d.has_eit) d.programs,
                r.most_programs,
              );
        }

    private : (i : ℕ) (t : DescribedTable) → slice_get d.tables i ≡ Some t → IsTable t → Some128 d (Private i)
    private i t e is =
        let all : length (kind_lengths d (Private i)) ≡ length t.sections = rw (e, kind_lengths) (length-map t.sections (length {A = ℕ})) in
        record { some = omega (arith, all, is.some_sections); most = omega (arith, all, is.most_sections) }

some_places : (ls : List ℕ) → 0 < length ls → 0 < sum_by packets_of_section ls
some_places [] some = absurd (omega (arith, some))
some_places (l ∷ ls) some = omega (arith, sum_by-cons packets_of_section l ls)

by_kind : (d : Described) (t : ℕ) (o : Option TableKind) → IsInRange d → t < table_count d → table_kind d t ≡ o →
    (0 < section_count d t) × (section_count d t ≤ 128)
by_kind d t None r lt e = absurd (none_there (table_kinds d) t lt e)
  where
    none_there : (ks : List TableKind) (i : ℕ) → i < length ks → slice_get ks i ≡ None → ⊥
    none_there [] i lt e = absurd (omega (arith, lt))
    none_there (k ∷ ks) zero lt e = absurd (cc)
    none_there (k ∷ ks) (suc i) lt e = none_there ks i (omega (arith, lt)) e
by_kind d t (Some k) r lt e =
    let is = at_place (Some128 d) (table_kinds d) t k (kinds_good d r) e in
    let all : section_count d t ≡ length (kind_lengths d k) = rw e refl in
    (omega (arith, all, is.some), omega (arith, all, is.most))

pub sections_law : SectionsLaw
sections_law d t r lt = let c = by_kind d t (table_kind d t) r lt refl in (c.0, c.1, some_places (section_lengths d t) c.0)
