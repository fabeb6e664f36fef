-- Versions change no table, length or section but for its version.
use Rattle.std.proofs.Common.{◌≡◌, ℕ, zero, suc, ◌+◌, ◌-◌, ◌*◌, ◌/◌, ◌%◌, ◌==◌, ◌&&◌, ◌||◌, nat_le, Bool, true, false, List, [], ◌∷◌, ◌++◌, length, map, filter, sum_by, slice_get, Option, None, Some}
use Rattle.std.proofs.Common.{option_map, option_and_then, is_some, if◌then◌else◌, refl, ap, ap₂, sym, ◌∙◌}
use Rattle.std.proofs.lemmas.List.{length-map, map-append}
use Rattle.std.proofs.lemmas.List.Sums.{sum_by-cons}
use Rattle.std.specs.List.{list_any}
use Rattle.std.specs.Option.{option_to_list}
use Rattle.psi_tables.specs.Encoding.{section_bytes}
use Rattle.psi_tables.specs.ProgramAssociation.{pat_section}
use Rattle.psi_tables.specs.ProgramMap.{pmt_section}
use Rattle.psi_tables.specs.declared.pat.programs.Program.{Program as PatEntry}
use Rattle.dvb_tables.specs.Services.{ServiceView}
use Rattle.dvb_tables.specs.ServiceDescription.{sdt_section}
use Rattle.dvb_tables.specs.EventInformation.{eit_section}
use Rattle.description_parts.specs.Described.{Described, DescribedProgram}
use Rattle.description_parts.specs.Tables.{numbers_from, only_if, has_event, is_scheduled, scheduled_programs, service_tables, table_kinds, table_kind}
use Rattle.description_parts.specs.Tables.{kind_pid, kind_limit, table_pid, table_limit, service_length, sdt_parts, most_services, services_length}
use Rattle.description_parts.specs.Cuts.{cut, takes_next}
use Rattle.description_parts.specs.Tables.{room_length, most_bytes, section_overhead, eit_lengths, schedule_length, eit_room, eit_place, map_length, kind_lengths, section_lengths}
use Rattle.description_parts.specs.declared.table_kind.TableKind.{TableKind}
use Rattle.description_parts.specs.declared.table_kind.TableKind.TheVariants as kind
use Rattle.description.specs.declared.sub_table.SubTable.{SubTable}
use Rattle.description.specs.declared.sub_table.SubTable.TheVariants.{Pat, Nit, Sdt, Map, Events}
use Rattle.description.specs.SectionBytes.{part_header, network_entries, pat_entry, pmt_of, service_says, sdt_of, sdt_part_bytes, eit_of}
use Rattle.description.specs.SubTables.{places_where, sub_table_in, sub_table_of, number_in, number_of, sections_in, section_of}
use Rattle.description.specs.Versions.{without_number, without_versions, SameTablesLaw}

abbrev pub bare : List DescribedProgram → List DescribedProgram
bare ps = map without_number ps

-- What lists of programs say without their versions
numbers_bare : (n : ℕ) (ps : List DescribedProgram) → numbers_from n (bare ps) ≡ numbers_from n ps
numbers_bare n [] = refl
numbers_bare n (p ∷ ps) = ap (λ (ns : List ℕ). n ∷ ns) (numbers_bare (n + 1) ps)

get_bare : (ps : List DescribedProgram) (i : ℕ) → slice_get (bare ps) i ≡ option_map without_number (slice_get ps i)
get_bare [] i = refl
get_bare (p ∷ ps) zero = refl
get_bare (p ∷ ps) (suc i) = get_bare ps i

any_bare : (ps : List DescribedProgram) → list_any has_event (bare ps) ≡ list_any has_event ps
any_bare [] = refl
any_bare (p ∷ ps) = ap (λ (b : Bool). has_event p || b) (any_bare ps)

kept_if : (b : Bool) (p : DescribedProgram) (ps : List DescribedProgram)
    → (if b then without_number p ∷ bare ps else bare ps) ≡ bare (if b then p ∷ ps else ps)
kept_if true p ps = refl
kept_if false p ps = refl

kept_bare : (all : Bool) (ps : List DescribedProgram) → filter (is_scheduled all) (bare ps) ≡ bare (filter (is_scheduled all) ps)
kept_bare all [] = refl
kept_bare all (p ∷ ps) =
    ap (λ (qs : List DescribedProgram). if is_scheduled all p then without_number p ∷ qs else qs) (kept_bare all ps)
    ∙ kept_if (is_scheduled all p) p (filter (is_scheduled all) ps)

places_bare : (all : Bool) (ps : List DescribedProgram) → places_where (is_scheduled all) (bare ps) ≡ places_where (is_scheduled all) ps
places_bare all [] = refl
places_bare all (p ∷ ps) =
    ap (λ (is : List ℕ). if is_scheduled all p then 0 ∷ map suc is else map suc is) (places_bare all ps)

-- A number, or anything else, that versions have no part in
pub each_bare : {X : Type 0} (f g : DescribedProgram → X) (ps : List DescribedProgram) → ((p : DescribedProgram) → f (without_number p) ≡ g p) → map f (bare ps) ≡ map g ps
each_bare f g [] same = refl
each_bare f g (p ∷ ps) same = ap₂ (λ x xs. x ∷ xs) (same p) (each_bare f g ps same)

pub sum_bare : (f : DescribedProgram → ℕ) (ps : List DescribedProgram) → ((p : DescribedProgram) → f (without_number p) ≡ f p) → sum_by f (bare ps) ≡ sum_by f ps
sum_bare f [] same = refl
sum_bare f (p ∷ ps) same =
    sum_by-cons f (without_number p) (bare ps) ∙ ap₂ (λ (a b : ℕ). a + b) (same p) (sum_bare f ps same) ∙ sym (sum_by-cons f p ps)

-- The services of the sections of the SDT
sum_last : (ps : List DescribedProgram) (p : DescribedProgram) → sum_by service_length (bare ps ++ without_number p ∷ []) ≡ sum_by service_length (ps ++ p ∷ [])
sum_last ps p =
    ap (sum_by service_length) (sym (map-append without_number ps (p ∷ []))) ∙ sum_bare service_length (ps ++ p ∷ []) (λ q. refl)

takes_bare : (used : ℕ) (begun : List DescribedProgram) (p : DescribedProgram)
    → takes_next service_length most_services used (bare begun) (without_number p) ≡ takes_next service_length most_services used begun p
takes_bare used begun p =
    ap₂ (λ (a b : ℕ). (used == 0 && a == 0) || nat_le (used + b) most_services) (length-map begun without_number) (sum_last begun p)

parts_if : (b : Bool) (these others : List (List DescribedProgram)) (these' others' : List (List DescribedProgram)) → these' ≡ map bare these → others' ≡ map bare others
    → (if b then these' else others') ≡ map bare (if b then these else others)
parts_if true these others these' others' e f = e
parts_if false these others these' others' e f = f

abbrev cut_into : ℕ → List DescribedProgram → List DescribedProgram → List (List DescribedProgram)
cut_into used begun ps = cut service_length most_services used begun ps

cut_bare : (used : ℕ) (begun ps : List DescribedProgram) → cut_into used (bare begun) (bare ps) ≡ map bare (cut_into used begun ps)
cut_bare used begun [] = refl
cut_bare used begun (p ∷ ps) =
    let more = ap (λ (qs : List DescribedProgram). cut_into used qs (bare ps)) (sym (map-append without_number begun (p ∷ []))) ∙ cut_bare used (begun ++ p ∷ []) ps in
    let next = ap (λ (rest : List (List DescribedProgram)). bare begun ∷ rest) (cut_bare 0 (p ∷ []) ps) in
    ap (λ (b : Bool). if b then cut_into used (bare begun ++ without_number p ∷ []) (bare ps) else bare begun ∷ cut_into 0 (without_number p ∷ []) (bare ps))
    (takes_bare used begun p)
    ∙ parts_if (takes_next service_length most_services used begun p) (cut_into used (begun ++ p ∷ []) ps) (begun ∷ cut_into 0 (p ∷ []) ps)
    (cut_into used (bare begun ++ without_number p ∷ []) (bare ps)) (bare begun ∷ cut_into 0 (without_number p ∷ []) (bare ps)) more next

parts_bare : (d : Described) → sdt_parts (without_versions d) ≡ map bare (sdt_parts d)
parts_bare d = parts_if d.is_transponder (cut_into 0 [] d.programs) (d.programs ∷ []) (cut_into 0 [] (bare d.programs)) (bare d.programs ∷ []) (cut_bare 0 [] d.programs) refl

-- Tables
service_tables_bare : (d : Described) → service_tables (without_versions d) ≡ service_tables d
service_tables_bare d =
    ap (λ (b : Bool). only_if (is_some d.network) kind.Nit ++ only_if d.has_sdt kind.Sdt ++ only_if (d.has_eit || b) kind.Eit ++ only_if d.has_tdt kind.Tdt)
    (any_bare d.programs)

pub kinds_bare : (d : Described) → table_kinds (without_versions d) ≡ table_kinds d
kinds_bare d =
    ap₂ (λ (ns : List ℕ) (ks : List TableKind). (kind.Pat ∷ map kind.Pmt ns) ++ (ks ++ map kind.Private (numbers_from 0 d.tables)))
    (numbers_bare 0 d.programs) (service_tables_bare d)

pid_of : (o : Option DescribedProgram)
    → (elim (option_map without_number o) as (λ _. ℕ) [ None ↦ 0 | Some p ↦ p.pmt_pid ]) ≡ (elim o as (λ _. ℕ) [ None ↦ 0 | Some p ↦ p.pmt_pid ])
pid_of None = refl
pid_of (Some p) = refl

pid_bare : (d : Described) (k : TableKind) → kind_pid (without_versions d) k ≡ kind_pid d k
pid_bare d kind.Pat = refl
pid_bare d (kind.Pmt p) =
    ap (λ (o : Option DescribedProgram). elim o as (λ _. ℕ) [ None ↦ 0 | Some q ↦ q.pmt_pid ]) (get_bare d.programs p) ∙ pid_of (slice_get d.programs p)
pid_bare d kind.Nit = refl
pid_bare d kind.Sdt = refl
pid_bare d kind.Eit = refl
pid_bare d kind.Tdt = refl
pid_bare d (kind.Private i) = refl

limit_bare : (d : Described) (k : TableKind) → kind_limit (without_versions d) k ≡ kind_limit d k
limit_bare d kind.Pat = refl
limit_bare d (kind.Pmt p) = refl
limit_bare d kind.Nit = refl
limit_bare d kind.Sdt = refl
limit_bare d kind.Eit = refl
limit_bare d kind.Tdt = refl
limit_bare d (kind.Private i) = refl

-- Lengths
map_lengths : (d : Described) (o : Option DescribedProgram)
    → map (map_length (without_versions d)) (option_to_list (option_map without_number o)) ≡ map (map_length d) (option_to_list o)
map_lengths d None = refl
map_lengths d (Some p) = refl

part_lengths : (d : Described) (parts : List (List DescribedProgram)) → map (services_length (without_versions d)) (map bare parts) ≡ map (services_length d) parts
part_lengths d [] = refl
part_lengths d (part ∷ parts) =
    ap₂ (λ (n : ℕ) (ns : List ℕ). room_length most_bytes d.rooms.sdt (section_overhead + 3 + n) ∷ ns) (sum_bare service_length part (λ p. refl)) (part_lengths d parts)

pairs_bare : (n : ℕ) (ps : List DescribedProgram) → eit_lengths n (bare ps) ≡ eit_lengths n ps
pairs_bare n [] = refl
pairs_bare n (p ∷ ps) = ap (λ (ns : List ℕ). schedule_length n p ∷ schedule_length n p ∷ ns) (pairs_bare n ps)

scheduled_bare : (d : Described) → scheduled_programs (without_versions d) ≡ bare (scheduled_programs d)
scheduled_bare d = kept_bare d.has_eit d.programs

abbrev event_lengths : Bool → ℕ → List DescribedProgram → List ℕ
event_lengths b n ps = if b then map (schedule_length n) ps ++ map (schedule_length n) ps else eit_lengths n ps

events_bare : (b : Bool) (n : ℕ) (ps : List DescribedProgram) → event_lengths b n (bare ps) ≡ event_lengths b n ps
events_bare true n ps =
    let one = each_bare (schedule_length n) (schedule_length n) ps (λ p. refl) in
    ap₂ (λ (ls ms : List ℕ). ls ++ ms) one one
events_bare false n ps = pairs_bare n ps

pub lengths_bare : (d : Described) (k : TableKind) → kind_lengths (without_versions d) k ≡ kind_lengths d k
lengths_bare d kind.Pat =
    ap (λ (n : ℕ). room_length most_bytes d.rooms.pat (section_overhead + 4 * (length (option_to_list d.network) + n)) ∷ []) (length-map d.programs without_number)
lengths_bare d (kind.Pmt p) =
    ap (λ (o : Option DescribedProgram). map (map_length (without_versions d)) (option_to_list o)) (get_bare d.programs p) ∙ map_lengths d (slice_get d.programs p)
lengths_bare d kind.Nit = refl
lengths_bare d kind.Sdt = ap (map (services_length (without_versions d))) (parts_bare d) ∙ part_lengths d (sdt_parts d)
lengths_bare d kind.Eit =
    ap (event_lengths d.is_transponder (eit_room d)) (scheduled_bare d) ∙ events_bare d.is_transponder (eit_room d) (scheduled_programs d)
lengths_bare d kind.Tdt = refl
lengths_bare d (kind.Private i) = refl

-- Sub-tables
place_bare : (d : Described) (section : ℕ) → eit_place (without_versions d) section ≡ eit_place d section
place_bare d section =
    ap (λ (n : ℕ). if d.is_transponder then (section % n, section / n) else (section / 2, section % 2))
    (ap (length {A = DescribedProgram}) (scheduled_bare d) ∙ length-map (scheduled_programs d) without_number)

sub_table_bare : (d : Described) (k : TableKind) (section : ℕ) → sub_table_in (without_versions d) k section ≡ sub_table_in d k section
sub_table_bare d kind.Pat section = refl
sub_table_bare d (kind.Pmt p) section = refl
sub_table_bare d kind.Nit section = refl
sub_table_bare d kind.Sdt section = refl
sub_table_bare d kind.Eit section =
    ap₂ (λ (places : List ℕ) (at : ℕ × ℕ). option_map Events (slice_get places at.0)) (places_bare d.has_eit d.programs) (place_bare d section)
sub_table_bare d kind.Tdt section = refl
sub_table_bare d (kind.Private i) section = refl

number_bare : (d : Described) (k : TableKind) (section : ℕ) → number_in (without_versions d) k section ≡ number_in d k section
number_bare d kind.Pat section = refl
number_bare d (kind.Pmt p) section = refl
number_bare d kind.Nit section = refl
number_bare d kind.Sdt section = refl
number_bare d kind.Eit section = ap (λ (at : ℕ × ℕ). at.1) (place_bare d section)
number_bare d kind.Tdt section = refl
number_bare d (kind.Private i) section = refl

part_bytes : (d : Described) (v number last : ℕ) (o : Option (List DescribedProgram))
    → (elim (option_map bare o) as (λ _. List ℕ) [ None ↦ [] | Some part ↦ section_bytes (sdt_section (sdt_of (without_versions d) part v number last)) ])
    ≡ (elim o as (λ _. List ℕ) [ None ↦ [] | Some part ↦ section_bytes (sdt_section (sdt_of d part v number last)) ])
part_bytes d v number last None = refl
part_bytes d v number last (Some part) =
    ap (λ (ss : List ServiceView). section_bytes (sdt_section (record {
      header = part_header d.transport_stream_id v number last;
      original_network_id = d.original_network_id;
      services = ss;
    })))
    (each_bare (service_says d.has_eit) (service_says d.has_eit) part (λ p. refl))

get_parts : (parts : List (List DescribedProgram)) (i : ℕ) → slice_get (map bare parts) i ≡ option_map bare (slice_get parts i)
get_parts [] i = refl
get_parts (part ∷ parts) zero = refl
get_parts (part ∷ parts) (suc i) = get_parts parts i

abbrev part_of : Described → ℕ → ℕ → List (List DescribedProgram) → List ℕ
part_of d v number parts =
    elim (slice_get parts number) as (λ _. List ℕ) [ None ↦ [] | Some part ↦ section_bytes (sdt_section (sdt_of d part v number (length parts - 1))) ]

services_in : (d : Described) (v number : ℕ) (parts : List (List DescribedProgram)) → part_of (without_versions d) v number (map bare parts) ≡ part_of d v number parts
services_in d v number parts =
    ap₂ (λ (o : Option (List DescribedProgram)) (n : ℕ). elim o as (λ _. List ℕ) [
      | None ↦ []
      | Some part ↦ section_bytes (sdt_section (sdt_of (without_versions d) part v number (n - 1)))
    ])
    (get_parts parts number) (length-map parts bare)
    ∙ part_bytes d v number (length parts - 1) (slice_get parts number)

services_bytes_bare : (d : Described) (v number : ℕ) → sdt_part_bytes (without_versions d) v number ≡ sdt_part_bytes d v number
services_bytes_bare d v number = ap (part_of (without_versions d) v number) (parts_bare d) ∙ services_in d v number (sdt_parts d)

map_bytes : (d : Described) (v : ℕ) (o : Option DescribedProgram)
    → (elim (option_map without_number o) as (λ _. List ℕ) [ None ↦ [] | Some q ↦ section_bytes (pmt_section (pmt_of (without_versions d) q v)) ])
    ≡ (elim o as (λ _. List ℕ) [ None ↦ [] | Some q ↦ section_bytes (pmt_section (pmt_of d q v)) ])
map_bytes d v None = refl
map_bytes d v (Some q) = refl

event_bytes : (d : Described) (moment v number : ℕ) (o : Option DescribedProgram)
    → (elim (option_map without_number o) as (λ _. List ℕ) [ None ↦ [] | Some q ↦ section_bytes (eit_section (eit_of (without_versions d) moment q v number)) ])
    ≡ (elim o as (λ _. List ℕ) [ None ↦ [] | Some q ↦ section_bytes (eit_section (eit_of d moment q v number)) ])
event_bytes d moment v number None = refl
event_bytes d moment v number (Some q) = refl

section_bare : (d : Described) (x : SubTable) (v number moment : ℕ) → section_of (without_versions d) x v number moment ≡ section_of d x v number moment
section_bare d Pat v number moment =
    ap (λ (es : List PatEntry). section_bytes (pat_section (record {
      header = part_header d.transport_stream_id v 0 0;
      programs = network_entries d ++ es;
    })))
    (each_bare pat_entry pat_entry d.programs (λ p. refl))
section_bare d Nit v number moment = refl
section_bare d Sdt v number moment = ap (λ (bytes : List ℕ). if d.has_sdt then bytes else []) (services_bytes_bare d v number)
section_bare d (Map p) v number moment =
    ap (λ (o : Option DescribedProgram). elim o as (λ _. List ℕ) [ None ↦ [] | Some q ↦ section_bytes (pmt_section (pmt_of (without_versions d) q v)) ])
    (get_bare d.programs p)
    ∙ map_bytes d v (slice_get d.programs p)
section_bare d (Events p) v number moment =
    ap (λ (o : Option DescribedProgram). elim o as (λ _. List ℕ) [
      | None ↦ []
      | Some q ↦ section_bytes (eit_section (eit_of (without_versions d) moment q v number))
    ])
    (get_bare d.programs p)
    ∙ event_bytes d moment v number (slice_get d.programs p)

sections_bare : (d : Described) (o : Option DescribedProgram)
    → (elim (option_map without_number o) as (λ _. ℕ) [ None ↦ 0 | Some q ↦ if is_scheduled d.has_eit q then 2 else 0 ])
    ≡ (elim o as (λ _. ℕ) [ None ↦ 0 | Some q ↦ if is_scheduled d.has_eit q then 2 else 0 ])
sections_bare d None = refl
sections_bare d (Some q) = refl

count_bare : (d : Described) (x : SubTable) → sections_in (without_versions d) x ≡ sections_in d x
count_bare d Pat = refl
count_bare d Nit = refl
count_bare d Sdt = ap (length {A = List DescribedProgram}) (parts_bare d) ∙ length-map (sdt_parts d) bare
count_bare d (Map p) = ap (length {A = ℕ}) (lengths_bare d (kind.Pmt p))
count_bare d (Events p) =
    ap (λ (o : Option DescribedProgram). elim o as (λ _. ℕ) [ None ↦ 0 | Some q ↦ if is_scheduled d.has_eit q then 2 else 0 ]) (get_bare d.programs p)
    ∙ sections_bare d (slice_get d.programs p)

-- What does not depend on versions is the same of two descriptions that differ in these alone.
abbrev Alike : Described → Described → Type 0
Alike d e = without_versions d ≡ without_versions e

carried : {X : Type 0} (f : Described → X) (d e : Described) → ((c : Described) → f (without_versions c) ≡ f c) → Alike d e → f d ≡ f e
carried f d e bare same = sym (bare d) ∙ ap f same ∙ bare e

kind_bare : {X : Type 0} (f : Described → TableKind → X) (none : X) (c : Described) (o : Option TableKind) → ((k : TableKind) → f (without_versions c) k ≡ f c k)
    → (elim o as (λ _. X) [ None ↦ none | Some k ↦ f (without_versions c) k ]) ≡ (elim o as (λ _. X) [ None ↦ none | Some k ↦ f c k ])
kind_bare f none c None same = refl
kind_bare f none c (Some k) same = same k

table_bare : {X : Type 0} (f : Described → TableKind → X) (none : X) (t : ℕ) (c : Described) → ((k : TableKind) → f (without_versions c) k ≡ f c k)
    → (elim (table_kind (without_versions c) t) as (λ _. X) [ None ↦ none | Some k ↦ f (without_versions c) k ])
    ≡ (elim (table_kind c t) as (λ _. X) [ None ↦ none | Some k ↦ f c k ])
table_bare {X = X} f none t c same =
    ap (λ (ks : List TableKind). elim (slice_get ks t) as (λ _. X) [ None ↦ none | Some k ↦ f (without_versions c) k ]) (kinds_bare c)
    ∙ kind_bare f none c (table_kind c t) same

then_bare : (c : Described) (section : ℕ) (o : Option TableKind)
    → option_and_then (λ k. sub_table_in (without_versions c) k section) o ≡ option_and_then (λ k. sub_table_in c k section) o
then_bare c section None = refl
then_bare c section (Some k) = sub_table_bare c k section

pub same_tables_law : SameTablesLaw
same_tables_law d e same = record {
  kinds = carried table_kinds d e kinds_bare same;
  pids = λ t. carried (λ c. table_pid c t) d e (λ c. table_bare kind_pid 0 t c (pid_bare c)) same;
  limits = λ t. carried (λ c. table_limit c t) d e (λ c. table_bare kind_limit 0 t c (limit_bare c)) same;
  lengths = λ t. carried (λ c. section_lengths c t) d e (λ c. table_bare kind_lengths [] t c (lengths_bare c)) same;
  sub_tables = λ t section. carried (λ c. sub_table_of c t section) d e (λ c.
      ap (λ (ks : List TableKind). option_and_then (λ k. sub_table_in (without_versions c) k section) (slice_get ks t)) (kinds_bare c)
      ∙ then_bare c section (table_kind c t)) same;
  numbers = λ t section. carried (λ c. number_of c t section) d e (λ c.
      table_bare (λ c k. number_in c k section) section t c (λ k. number_bare c k section)) same;
  counts = λ x. carried (λ c. sections_in c x) d e (λ c. count_bare c x) same;
  sections = λ x v number moment. carried (λ c. section_of c x v number moment) d e (λ c. section_bare c x v number moment) same;
}
