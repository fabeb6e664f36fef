-- Another number of a sub-table changes nothing else in a description.
use Rattle.std.proofs.Common.{◌≡◌, ◌≢◌, ℕ, zero, suc, ◌+◌, ◌<◌, ◌≤◌, Bool, true, false, List, [], ◌∷◌, ◌++◌, length, map, filter, sum_by, get_or, slice_get, slice_set, All, Contains}
use Rattle.std.proofs.Common.{Option, None, Some, nat_eq, if◌then◌else◌, refl, ap, sym, subst, ◌∙◌, arith}
use Rattle.std.proofs.lemmas.List.{length-map}
use Rattle.std.proofs.lemmas.List.Elements.{All-nil, All-cons, All-head, All-tail}
use Rattle.std.specs.List.{IsDistinct}
use Rattle.std.specs.Option.{option_to_list}
use Rattle.description_parts.specs.Described.{Described, DescribedProgram}
use Rattle.description_parts.specs.declared.versions.Versions.{Versions}
use Rattle.description_parts.specs.Numbers.{with_versions, with_programs, with_pmt_version, with_eit_count, numbered_if, numbered_at}
use Rattle.description_parts.specs.Ranges.{IsInRange, IsProgram, AreVersions, named_pids, longest_section}
use Rattle.description_parts.specs.Tables.{pmt_length, kind_lengths}
use Rattle.description_parts.specs.declared.table_kind.TableKind.TheVariants as kind
use Rattle.description.specs.declared.sub_table.SubTable.{SubTable}
use Rattle.description.specs.declared.sub_table.SubTable.TheVariants.{Pat, Nit, Sdt, Map, Events}
use Rattle.description.specs.SubTables.{sub_table_number, program_number_by, count_of, with_count, sections_in}
use Rattle.description.specs.Versions.{without_number, without_versions, CountedLaw, CountLaw}
use Rattle.description.proofs.Pids.{at_place}
use Rattle.description.proofs.SameTables.{bare, sum_bare, each_bare, lengths_bare}
use Rattle.description.proofs.Versions.{number_within, no_map, no_section}

-- Numbers of one program
set_bare : (ps : List DescribedProgram) (i : ℕ) (p q : DescribedProgram) → slice_get ps i ≡ Some p → without_number q ≡ without_number p → bare (slice_set ps i q) ≡ bare ps
set_bare [] i p q at same = absurd (cc)
set_bare (x ∷ ps) zero p q at same =
    let is : x ≡ p = cc in
    ap (λ (y : DescribedProgram). y ∷ bare ps) (same ∙ ap without_number (sym is))
set_bare (x ∷ ps) (suc i) p q at same = ap (λ (ys : List DescribedProgram). without_number x ∷ ys) (set_bare ps i p q at same)

if_bare : (g : DescribedProgram → DescribedProgram) (ps : List DescribedProgram) (i : ℕ) (o : Option DescribedProgram) → slice_get ps i ≡ o →
    ((p : DescribedProgram) → without_number (g p) ≡ without_number p) → bare (numbered_if g i ps o) ≡ bare ps
if_bare g ps i None at same = refl
if_bare g ps i (Some p) at same = set_bare ps i p (g p) at (same p)

at_bare : (g : DescribedProgram → DescribedProgram) (ps : List DescribedProgram) (i : ℕ) → ((p : DescribedProgram) → without_number (g p) ≡ without_number p) →
    bare (numbered_at g i ps) ≡ bare ps
at_bare g ps i same = if_bare g ps i (slice_get ps i) refl same

abbrev erased : Described → List DescribedProgram → Described
erased d ps = record d { versions = record { pat = 0; nit = 0; sdt = 0 }; programs = ps }

same_without : (d : Described) (x : SubTable) (n : ℕ) → without_versions (with_count d x n) ≡ without_versions d
same_without d Pat n = refl
same_without d Nit n = refl
same_without d Sdt n = refl
same_without d (Map p) n = ap (erased d) (at_bare (with_pmt_version n) d.programs p (λ q. refl))
same_without d (Events p) n = ap (erased d) (at_bare (with_eit_count n) d.programs p (λ q. refl))

-- The number of another program, and another number of a program
set_other : (ps : List DescribedProgram) (i j : ℕ) (q : DescribedProgram) → j ≢ i → slice_get (slice_set ps i q) j ≡ slice_get ps j
set_other [] i j q other = refl
set_other (x ∷ ps) zero zero q other = absurd (other refl)
set_other (x ∷ ps) zero (suc j) q other = refl
set_other (x ∷ ps) (suc i) zero q other = refl
set_other (x ∷ ps) (suc i) (suc j) q other = set_other ps i j q (λ e. other (ap suc e))

at_other : (g : DescribedProgram → DescribedProgram) (ps : List DescribedProgram) (i j : ℕ) (o : Option DescribedProgram) → j ≢ i →
    slice_get (numbered_if g i ps o) j ≡ slice_get ps j
at_other g ps i j None other = refl
at_other g ps i j (Some p) other = set_other ps i j (g p) other

set_kept : (number : DescribedProgram → ℕ) (ps : List DescribedProgram) (i j : ℕ) (p q : DescribedProgram) → slice_get ps i ≡ Some p → number q ≡ number p →
    program_number_by number (slice_get (slice_set ps i q) j) ≡ program_number_by number (slice_get ps j)
set_kept number [] i j p q at same = refl
set_kept number (x ∷ ps) zero zero p q at same = let is : x ≡ p = cc in same ∙ ap number (sym is)
set_kept number (x ∷ ps) zero (suc j) p q at same = refl
set_kept number (x ∷ ps) (suc i) zero p q at same = refl
set_kept number (x ∷ ps) (suc i) (suc j) p q at same = set_kept number ps i j p q at same

number_kept : (number : DescribedProgram → ℕ) (g : DescribedProgram → DescribedProgram) (ps : List DescribedProgram) (i j : ℕ) (o : Option DescribedProgram) →
    slice_get ps i ≡ o → ((p : DescribedProgram) → number (g p) ≡ number p) →
    program_number_by number (slice_get (numbered_if g i ps o) j) ≡ program_number_by number (slice_get ps j)
number_kept number g ps i j None at same = refl
number_kept number g ps i j (Some p) at same = set_kept number ps i j p (g p) at (same p)

others_keep : (d : Described) (x : SubTable) (n : ℕ) (y : SubTable) → sub_table_number y ≢ sub_table_number x → count_of (with_count d x n) y ≡ count_of d y
others_keep d Pat n Pat other = absurd (other refl)
others_keep d Pat n Nit other = refl
others_keep d Pat n Sdt other = refl
others_keep d Pat n (Map q) other = refl
others_keep d Pat n (Events q) other = refl
others_keep d Nit n Pat other = refl
others_keep d Nit n Nit other = absurd (other refl)
others_keep d Nit n Sdt other = refl
others_keep d Nit n (Map q) other = refl
others_keep d Nit n (Events q) other = refl
others_keep d Sdt n Pat other = refl
others_keep d Sdt n Nit other = refl
others_keep d Sdt n Sdt other = absurd (other refl)
others_keep d Sdt n (Map q) other = refl
others_keep d Sdt n (Events q) other = refl
others_keep d (Map p) n Pat other = refl
others_keep d (Map p) n Nit other = refl
others_keep d (Map p) n Sdt other = refl
others_keep d (Map p) n (Map q) other =
    ap (program_number_by (λ r. r.pmt_version))
    (at_other (with_pmt_version n) d.programs p q (slice_get d.programs p) (λ e. other (ap (λ (i : ℕ). 3 + i) e)))
others_keep d (Map p) n (Events q) other = number_kept (λ r. r.eit_count) (with_pmt_version n) d.programs p q (slice_get d.programs p) refl (λ r. refl)
others_keep d (Events p) n Pat other = refl
others_keep d (Events p) n Nit other = refl
others_keep d (Events p) n Sdt other = refl
others_keep d (Events p) n (Map q) other = number_kept (λ r. r.pmt_version) (with_eit_count n) d.programs p q (slice_get d.programs p) refl (λ r. refl)
others_keep d (Events p) n (Events q) other =
    ap (program_number_by (λ r. r.eit_count))
    (at_other (with_eit_count n) d.programs p q (slice_get d.programs p) (λ e. other (ap (λ (i : ℕ). 67 + i) e)))

-- The number itself
set_there : (number : DescribedProgram → ℕ) (ps : List DescribedProgram) (i : ℕ) (p q : DescribedProgram) → slice_get ps i ≡ Some p →
    program_number_by number (slice_get (slice_set ps i q) i) ≡ number q
set_there number [] i p q at = absurd (cc)
set_there number (x ∷ ps) zero p q at = refl
set_there number (x ∷ ps) (suc i) p q at = set_there number ps i p q at

number_there : (number : DescribedProgram → ℕ) (g : DescribedProgram → DescribedProgram) (n : ℕ) (ps : List DescribedProgram) (i : ℕ) (o : Option DescribedProgram) →
    slice_get ps i ≡ o → ((p : DescribedProgram) → number (g p) ≡ n) → (o ≡ None → ⊥) → program_number_by number (slice_get (numbered_if g i ps o) i) ≡ n
number_there number g n ps i None at is some = absurd (some refl)
number_there number g n ps i (Some p) at is some = set_there number ps i p (g p) at ∙ is p

number_is : (d : Described) (x : SubTable) (n : ℕ) → 0 < sections_in d x → count_of (with_count d x n) x ≡ n
number_is d Pat n some = refl
number_is d Nit n some = refl
number_is d Sdt n some = refl
number_is d (Map p) n some =
    number_there (λ r. r.pmt_version) (with_pmt_version n) n d.programs p (slice_get d.programs p) refl (λ r. refl) (no_map d (slice_get d.programs p) some)
number_is d (Events p) n some =
    number_there (λ r. r.eit_count) (with_eit_count n) n d.programs p (slice_get d.programs p) refl (λ r. refl) (no_section d (slice_get d.programs p) some)

pub count_law : CountLaw
count_law d t section n x lt is = number_is d x n (omega (arith, number_within d t section x lt is))

-- Ranges: a statement about programs that versions have no part in
from_bare : (P : DescribedProgram → Type 0) (ps : List DescribedProgram) → ((p : DescribedProgram) → P (without_number p) → P p) → All P (bare ps) → All P ps
from_bare P [] h all = All-nil P
from_bare P (p ∷ ps) h all =
    All-cons P p ps (h p (All-head P (without_number p) (bare ps) all)) (from_bare P ps h (All-tail P (without_number p) (bare ps) all))

to_bare : (P : DescribedProgram → Type 0) (ps : List DescribedProgram) → ((p : DescribedProgram) → P p → P (without_number p)) → All P ps → All P (bare ps)
to_bare P [] h all = All-nil P
to_bare P (p ∷ ps) h all = All-cons P (without_number p) (bare ps) (h p (All-head P p ps all)) (to_bare P ps h (All-tail P p ps all))

over : (P : DescribedProgram → Type 0) (ps qs : List DescribedProgram) → bare qs ≡ bare ps → ((p : DescribedProgram) → P p → P (without_number p)) →
    ((p : DescribedProgram) → P (without_number p) → P p) → All P ps → All P qs
over P ps qs same to from all = from_bare P qs from (subst (All P) (sym same) (to_bare P ps to all))

kept_by : {X : Type 0} (f : DescribedProgram → X) (ps qs : List DescribedProgram) → bare qs ≡ bare ps → ((p : DescribedProgram) → f (without_number p) ≡ f p) → map f qs ≡ map f ps
kept_by f ps qs same is = sym (each_bare f f qs is) ∙ ap (map f) same ∙ each_bare f f ps is

clocks_if : (b : Bool) (p : DescribedProgram) (qs : List DescribedProgram)
    → (if b then without_number p ∷ bare qs else bare qs) ≡ bare (if b then p ∷ qs else qs)
clocks_if true p qs = refl
clocks_if false p qs = refl

own_clocks : (ps : List DescribedProgram) → filter (λ p. p.has_clock) (bare ps) ≡ bare (filter (λ p. p.has_clock) ps)
own_clocks [] = refl
own_clocks (p ∷ ps) =
    ap (λ (qs : List DescribedProgram). if p.has_clock then without_number p ∷ qs else qs) (own_clocks ps)
    ∙ clocks_if p.has_clock p (filter (λ q. q.has_clock) ps)

-- Other programs that differ in their numbers alone are in range if each program is.
other_programs : (d : Described) (ps : List DescribedProgram) → bare ps ≡ bare d.programs → All IsProgram ps → IsInRange d → IsInRange (with_programs d ps)
other_programs d ps same programs r = record {
  least_rate = r.least_rate;
  most_rate = r.most_rate;
  start = r.start;
  base0 = r.base0;
  transport_stream_id = r.transport_stream_id;
  original_network_id = r.original_network_id;
  rooms = r.rooms;
  versions = r.versions;
  network = r.network;
  some_programs = omega (arith, long, r.some_programs);
  most_programs = omega (arith, long, r.most_programs);
  programs = programs;
  clocks = over (λ p. p.has_clock ≡ false → d.clock_pid ≡ Some p.pcr_pid) d.programs ps same (λ p h. h) (λ p h. h) r.clocks;
  most_events = subst (λ (n : ℕ). n ≤ 1024) (sym events) r.most_events;
  most_streams = r.most_streams;
  streams = r.streams;
  declared = subst (λ (ns : List ℕ). All (λ s. Contains ns s.program) d.streams) (sym numbers) r.declared;
  sharing = λ k s lt. let is = r.sharing k s lt in
      record { declared = subst (λ (ns : List ℕ). All (Contains ns) (get_or d.streams k s).shared_with) (sym numbers) is.declared; others = is.others; once = is.once };
  most_tables = r.most_tables;
  tables = r.tables;
  listed = subst (λ (ns : List ℕ). All (λ t. All (λ e. Contains ns e.program) (option_to_list t.entry)) d.tables) (sym numbers) r.listed;
  distinct_pids = subst (IsDistinct nat_eq) (sym pids) r.distinct_pids;
  distinct_numbers = subst (IsDistinct nat_eq) (sym numbers) r.distinct_numbers;
  pmt_lengths = over (λ p. pmt_length d p ≤ longest_section) d.programs ps same (λ p h. h) (λ p h. h) r.pmt_lengths;
  nit_lengths = r.nit_lengths;
  sdt_lengths = λ there. subst (All (λ l. l ≤ longest_section)) (sym lengths) (r.sdt_lengths there);
}
  where
    long : length ps ≡ length d.programs
    long = sym (length-map ps without_number) ∙ ap (length {A = DescribedProgram}) same ∙ length-map d.programs without_number

    numbers : map (λ p. p.number) ps ≡ map (λ p. p.number) d.programs
    numbers = kept_by (λ p. p.number) d.programs ps same (λ p. refl)

    events : sum_by (λ p. length p.events) ps ≡ sum_by (λ p. length p.events) d.programs
    events =
        sym (sum_bare (λ p. length p.events) ps (λ p. refl)) ∙ ap (sum_by (λ p. length p.events)) same ∙ sum_bare (λ p. length p.events) d.programs (λ p. refl)

    clocks : map (λ p. p.pcr_pid) (filter (λ p. p.has_clock) ps) ≡ map (λ p. p.pcr_pid) (filter (λ p. p.has_clock) d.programs)
    clocks = kept_by (λ p. p.pcr_pid) (filter (λ p. p.has_clock) d.programs) (filter (λ p. p.has_clock) ps)
        (sym (own_clocks ps) ∙ ap (filter (λ p. p.has_clock)) same ∙ own_clocks d.programs) (λ p. refl)

    pids : named_pids (with_programs d ps) ≡ named_pids d
    pids =
        ap (λ (xs : List ℕ). xs ++ map (λ p. p.pcr_pid) (filter (λ p. p.has_clock) ps) ++ option_to_list d.clock_pid ++ map (λ s. s.pid) d.streams
        ++ map (λ t. t.pid) d.tables) (kept_by (λ p. p.pmt_pid) d.programs ps same (λ p. refl))
        ∙ ap (λ (xs : List ℕ). map (λ p. p.pmt_pid) d.programs ++ xs ++ option_to_list d.clock_pid ++ map (λ s. s.pid) d.streams
        ++ map (λ t. t.pid) d.tables) clocks

    lengths : kind_lengths (with_programs d ps) kind.Sdt ≡ kind_lengths d kind.Sdt
    lengths = sym (lengths_bare (with_programs d ps) kind.Sdt) ∙ ap (λ (qs : List DescribedProgram). kind_lengths (erased d qs) kind.Sdt) same ∙ lengths_bare d kind.Sdt

pub other_versions : (d : Described) (v : Versions) → AreVersions v → IsInRange d → IsInRange (with_versions d v)
other_versions d v versions r = record {
  least_rate = r.least_rate;
  most_rate = r.most_rate;
  start = r.start;
  base0 = r.base0;
  transport_stream_id = r.transport_stream_id;
  original_network_id = r.original_network_id;
  rooms = r.rooms;
  versions = versions;
  network = r.network;
  some_programs = r.some_programs;
  most_programs = r.most_programs;
  programs = r.programs;
  clocks = r.clocks;
  most_events = r.most_events;
  most_streams = r.most_streams;
  streams = r.streams;
  declared = r.declared;
  sharing = λ k s lt. let is = r.sharing k s lt in record { declared = is.declared; others = is.others; once = is.once };
  most_tables = r.most_tables;
  tables = r.tables;
  listed = r.listed;
  distinct_pids = r.distinct_pids;
  distinct_numbers = r.distinct_numbers;
  pmt_lengths = r.pmt_lengths;
  nit_lengths = r.nit_lengths;
  sdt_lengths = r.sdt_lengths;
}

-- A program with another number in its range
set_all : (ps : List DescribedProgram) (i : ℕ) (q : DescribedProgram) → IsProgram q → All IsProgram ps → All IsProgram (slice_set ps i q)
set_all [] i q is all = all
set_all (p ∷ ps) zero q is all = All-cons IsProgram q ps is (All-tail IsProgram p ps all)
set_all (p ∷ ps) (suc i) q is all =
    All-cons IsProgram p (slice_set ps i q) (All-head IsProgram p ps all) (set_all ps i q is (All-tail IsProgram p ps all))

numbered_all : (g : DescribedProgram → DescribedProgram) (ps : List DescribedProgram) (i : ℕ) (o : Option DescribedProgram) → slice_get ps i ≡ o →
    ((p : DescribedProgram) → IsProgram p → IsProgram (g p)) → All IsProgram ps → All IsProgram (numbered_if g i ps o)
numbered_all g ps i None at keeps all = all
numbered_all g ps i (Some p) at keeps all = set_all ps i (g p) (keeps p (at_place IsProgram ps i p all at)) all

renumbered_program : (p : DescribedProgram) (v n : ℕ) → v < 32 → n < 32 → IsProgram p → IsProgram (record p { pmt_version = v; eit_count = n })
renumbered_program p v n small few is = record {
  some_number = is.some_number;
  most_number = is.most_number;
  pmt_pid = is.pmt_pid;
  pcr_pid = is.pcr_pid;
  some_limit = is.some_limit;
  most_limit = is.most_limit;
  some_packets = is.some_packets;
  most_packets = is.most_packets;
  pmt_version = small;
  eit_count = few;
  descriptors = is.descriptors;
  service_descriptors = is.service_descriptors;
  running_status = is.running_status;
  events = is.events;
}

pub in_range : (d : Described) (x : SubTable) (n : ℕ) → IsInRange d → n < 32 → IsInRange (with_count d x n)
in_range d Pat n r small = other_versions d (record d.versions { pat = n }) (record { pat = small; sdt = r.versions.sdt; nit = r.versions.nit }) r
in_range d Nit n r small = other_versions d (record d.versions { nit = n }) (record { pat = r.versions.pat; sdt = r.versions.sdt; nit = small }) r
in_range d Sdt n r small = other_versions d (record d.versions { sdt = n }) (record { pat = r.versions.pat; sdt = small; nit = r.versions.nit }) r
in_range d (Map p) n r small =
    other_programs d (numbered_at (with_pmt_version n) p d.programs) (at_bare (with_pmt_version n) d.programs p (λ q. refl))
    (numbered_all (with_pmt_version n) d.programs p (slice_get d.programs p) refl (λ q is. renumbered_program q n q.eit_count small is.eit_count is) r.programs) r
in_range d (Events p) n r small =
    other_programs d (numbered_at (with_eit_count n) p d.programs) (at_bare (with_eit_count n) d.programs p (λ q. refl))
    (numbered_all (with_eit_count n) d.programs p (slice_get d.programs p) refl (λ q is. renumbered_program q q.pmt_version n is.pmt_version small is) r.programs) r

pub counted_law : CountedLaw
counted_law d x n = record { same = same_without d x n; others = others_keep d x n; range = in_range d x n }
