-- Each section of each table that is not ready-made can be written.
use Rattle.std.proofs.Common.{◌≡◌, ℕ, zero, suc, ◌+◌, ◌-◌, ◌*◌, ◌/◌, ◌%◌, ◌<◌, ◌≤◌, Bool, true, false, List, [], ◌∷◌, ◌++◌, length, map, get_or, slice_get}
use Rattle.std.proofs.Common.{Option, None, Some, refl, ap, sym, subst, ◌∙◌, arith, All, if◌then◌else◌}
use Rattle.std.specs.Option.{option_to_list}
use Rattle.std.specs.Prelude.{is_some, ⊤}
use Rattle.std.proofs.lemmas.List.{length-map}
use Rattle.std.proofs.lemmas.Nat.{div_below, mod_below}
use Rattle.std.proofs.lemmas.Option.{slice_get_within}
use Rattle.std.proofs.lemmas.List.Elements.{All-head, All-tail, All-nil, All-cons, All-append, All-filter, All-get_or}
use Rattle.description_parts.specs.Described.{Described, DescribedNetwork, DescribedProgram, DescribedEvent}
use Rattle.description_parts.specs.Ranges.{IsInRange, IsNetwork, IsProgram, IsEvent}
use Rattle.description_parts.specs.Tables.{numbers_from, only_if, has_events_table, is_scheduled, scheduled_programs, service_tables, table_kinds, table_kind, kind_lengths}
use Rattle.description_parts.specs.Tables.{section_lengths, section_count, pat_length, services_length, sdt_parts, eit_length, eit_lengths}
use Rattle.description_parts.specs.Tables.{eit_room, most_bytes, most_eit_bytes, network_lengths, nit_lengths, nit_parts, pmt_length, room_length, schedule_length}
use Rattle.description_parts.specs.Tables.{eit_place, longest_event}
use Rattle.description.specs.SectionBytes.{kind_bytes, network_bytes, table_bytes}
use Rattle.description_parts.specs.declared.table_kind.TableKind.{TableKind}
use Rattle.description_parts.specs.declared.table_kind.TableKind.TheVariants.{Pat, Pmt, Nit, Sdt, Eit, Tdt, Private}
use Rattle.description_parts.proofs.RoomLengths.{room_most}
use Rattle.description.proofs.SectionBounds.{table_bytes_fit}
use Rattle.description.proofs.Pids.{at_place}
use Rattle.laws_run.proofs.DescribedSections.{IsWritten, Fits4096, pat_written, pmt_written, nit_written, sdt_written, eit_written, tdt_written}
use Rattle.description.proofs.NetworkFacts.{of_some}
use Rattle.description.proofs.SectionCounts.{eit_count, network_count, sections_law}

-- The SDT, which is a table only if the description has one

abbrev pub IsThere : Described → TableKind → Type 0
IsThere d Sdt = d.has_sdt ≡ true
IsThere d Pat = ⊤
IsThere d (Pmt p) = ⊤
IsThere d Nit = ⊤
IsThere d Eit = ⊤
IsThere d Tdt = ⊤
IsThere d (Private i) = ⊤

numbered : (d : Described) {X : Type 0} (c : ℕ → TableKind) (n : ℕ) (xs : List X) → ((i : ℕ) → IsThere d (c i)) → All (IsThere d) (map c (numbers_from n xs))
numbered d c n [] h = All-nil (IsThere d)
numbered d c n (x ∷ xs) h = All-cons (IsThere d) (c n) (map c (numbers_from (n + 1) xs)) (h n) (numbered d c (n + 1) xs h)

one_if : (d : Described) (b : Bool) (k : TableKind) → (b ≡ true → IsThere d k) → All (IsThere d) (only_if b k)
one_if d true k h = All-cons (IsThere d) k [] (h refl) (All-nil (IsThere d))
one_if d false k h = All-nil (IsThere d)

pub kinds_there : (d : Described) → All (IsThere d) (table_kinds d)
kinds_there d =
    All-append (IsThere d) (Pat ∷ map Pmt (numbers_from 0 d.programs)) (service_tables d ++ map Private (numbers_from 0 d.tables))
    (All-cons (IsThere d) Pat (map Pmt (numbers_from 0 d.programs)) tt (numbered d Pmt 0 d.programs (λ i. tt)))
    (All-append (IsThere d) (service_tables d) (map Private (numbers_from 0 d.tables))
    (All-append (IsThere d) (nit ++ sdt ++ eit) tdt
    (All-append (IsThere d) (nit ++ sdt) eit
    (All-append (IsThere d) nit sdt
    (one_if d (is_some d.network) Nit (λ y. tt))
    (one_if d d.has_sdt Sdt (λ y. y)))
    (one_if d (has_events_table d) Eit (λ y. tt)))
    (one_if d d.has_tdt Tdt (λ y. tt)))
    (numbered d Private 0 d.tables (λ i. tt)))
  where
    nit : List TableKind
    nit = only_if (is_some d.network) Nit

    sdt : List TableKind
    sdt = only_if d.has_sdt Sdt

    eit : List TableKind
    eit = only_if (has_events_table d) Eit

    tdt : List TableKind
    tdt = only_if d.has_tdt Tdt

-- Bounds for the lengths of sections

abbrev Below4096 : ℕ → Type 0
Below4096 l = l ≤ 4096

events_short : (es : List DescribedEvent) → All IsEvent es → longest_event es ≤ 4012
events_short [] h = omega arith
events_short (e ∷ es) h =
    let first = All-head IsEvent e es h in
    omega (arith, first.descriptors.fits, events_short es (All-tail IsEvent e es h))

program_short : (n : ℕ) (p : DescribedProgram) (ps : List DescribedProgram) → All IsProgram (p ∷ ps) → schedule_length n p ≤ 4096
program_short n p ps h =
    room_most most_eit_bytes n (eit_length p) 4096 (omega (arith, events_short p.events (All-head IsProgram p ps h).events)) (omega arith)

programs_short : (n : ℕ) (ps : List DescribedProgram) → All IsProgram ps → All Below4096 (map (schedule_length n) ps)
programs_short n [] h = All-nil Below4096
programs_short n (p ∷ ps) h =
    All-cons Below4096 (schedule_length n p) (map (schedule_length n) ps) (program_short n p ps h) (programs_short n ps (All-tail IsProgram p ps h))

pairs_short : (n : ℕ) (ps : List DescribedProgram) → All IsProgram ps → All Below4096 (eit_lengths n ps)
pairs_short n [] h = All-nil Below4096
pairs_short n (p ∷ ps) h =
    let short = program_short n p ps h in
    All-cons Below4096 (schedule_length n p) (schedule_length n p ∷ eit_lengths n ps) short
    (All-cons Below4096 (schedule_length n p) (eit_lengths n ps) short (pairs_short n ps (All-tail IsProgram p ps h)))

schedules_short : (b : Bool) (n : ℕ) (ps : List DescribedProgram) → All IsProgram ps →
    All Below4096 (if b then map (schedule_length n) ps ++ map (schedule_length n) ps else eit_lengths n ps)
schedules_short true n ps h =
    All-append Below4096 (map (schedule_length n) ps) (map (schedule_length n) ps) (programs_short n ps h) (programs_short n ps h)
schedules_short false n ps h = pairs_short n ps h

one_short : (l : ℕ) → l ≤ 4096 → All Below4096 (l ∷ [])
one_short l le = All-cons Below4096 l [] le (All-nil Below4096)

room_short : (packets l : ℕ) → l ≤ 1024 → room_length most_bytes packets l ≤ 4096
room_short packets l small = room_most most_bytes packets l 4096 (omega (arith, small)) (omega arith)

mapped_short : {X : Type 0} (packets f : X → ℕ) (o : Option X) → All (λ x. f x ≤ 1024) (option_to_list o) →
    All Below4096 (map (λ x. room_length most_bytes (packets x) (f x)) (option_to_list o))
mapped_short packets f None h = All-nil Below4096
mapped_short {X} packets f (Some x) h =
    one_short (room_length most_bytes (packets x) (f x)) (room_short (packets x) (f x) (All-head (λ (y : X). f y ≤ 1024) x [] h))

lengths_short : (packets : ℕ) (ls : List ℕ) → All (λ l. l ≤ 1024) ls → All Below4096 (map (room_length most_bytes packets) ls)
lengths_short packets [] h = All-nil Below4096
lengths_short packets (l ∷ ls) h =
    All-cons Below4096 (room_length most_bytes packets l) (map (room_length most_bytes packets) ls) (room_short packets l (All-head (λ n. n ≤ 1024) l ls h))
    (lengths_short packets ls (All-tail (λ n. n ≤ 1024) l ls h))

abbrev lengths_of : Described → Option DescribedNetwork → List ℕ
lengths_of d o = elim o as (λ _. List ℕ) [ None ↦ [] | Some n ↦ network_lengths d n ]

network_short : (d : Described) (o : Option DescribedNetwork) → All (λ n. All (λ l. l ≤ 1024) (nit_lengths n 0 (nit_parts d n))) (option_to_list o) →
    All Below4096 (lengths_of d o)
network_short d None h = All-nil Below4096
network_short d (Some n) h =
    lengths_short d.rooms.nit (nit_lengths n 0 (nit_parts d n)) (All-head (λ m. All (λ l. l ≤ 1024) (nit_lengths m 0 (nit_parts d m))) n [] h)

-- An element at a place of a list satisfies what all its elements satisfy.
pub at_most_one : {X : Type 0} (P : X → Type 0) (xs : List X) (i : ℕ) (o : Option X) → All P xs → slice_get xs i ≡ o → All P (option_to_list o)
at_most_one P xs i None h e = All-nil P
at_most_one P xs i (Some x) h e = All-cons P x [] (at_place P xs i x h e) (All-nil P)

network_list : (o : Option DescribedNetwork) → length (option_to_list o) ≤ 1
network_list None = omega arith
network_list (Some n) = omega arith

-- The kinds of tables that are not ready-made
abbrev pub IsMade : TableKind → Type 0
IsMade (Private i) = ⊥
IsMade Pat = ⊤
IsMade (Pmt p) = ⊤
IsMade Nit = ⊤
IsMade Sdt = ⊤
IsMade Eit = ⊤
IsMade Tdt = ⊤

kind_short : (d : Described) (k : TableKind) → IsInRange d → IsThere d k → IsMade k → All Below4096 (kind_lengths d k)
kind_short d Pat r there made =
    one_short (room_length most_bytes d.rooms.pat (pat_length d))
    (room_short d.rooms.pat (pat_length d) (omega (arith, r.most_programs, network_list d.network)))
kind_short d (Pmt p) r there made =
    mapped_short (λ (x : DescribedProgram). x.pmt_packets) (pmt_length d) (slice_get d.programs p)
    (at_most_one (λ (x : DescribedProgram). pmt_length d x ≤ 1024) d.programs p (slice_get d.programs p) r.pmt_lengths refl)
kind_short d Nit r there made = network_short d d.network r.nit_lengths
kind_short d Sdt r there made = λ k z within. let le = r.sdt_lengths there k z within in omega (arith, le)
kind_short d Eit r there made =
    schedules_short d.is_transponder (eit_room d) (scheduled_programs d) (All-filter (is_scheduled d.has_eit) IsProgram d.programs r.programs)
kind_short d Tdt r there made = one_short 8 (omega arith)
kind_short d (Private i) r there made = absurd made

-- Sections that exist

pub some_there : {X : Type 0} (xs : List X) (i : ℕ) → i < length xs → is_some (slice_get xs i) ≡ true
some_there [] i lt = absurd (omega (arith, lt))
some_there (x ∷ xs) zero lt = refl
some_there (x ∷ xs) (suc i) lt = some_there xs i (omega (arith, lt))

-- the place of the program of a section of the EIT, and the number of the section
abbrev place_in : Bool → ℕ → ℕ → ℕ × ℕ
place_in b n section = if b then (section % n, section / n) else (section / 2, section % 2)

place_there : (b : Bool) (n section : ℕ) → section < 2 * n → ((place_in b n section).0 < n) × ((place_in b n section).1 < 2)
place_there true n section lt = let some : 0 < n = omega (arith, lt) in (mod_below section n some, div_below section n 2 some lt)
place_there false n section lt = (omega (arith, lt), omega arith)

pub eit_there : (d : Described) (section : ℕ) → section < length (kind_lengths d Eit) →
    ((eit_place d section).0 < length (scheduled_programs d)) × ((eit_place d section).1 < 2)
eit_there d section within = place_there d.is_transponder (length (scheduled_programs d)) section (omega (arith, within, eit_count d))

pub part_there : (d : Described) (section : ℕ) → section < length (kind_lengths d Sdt) → is_some (slice_get (sdt_parts d) section) ≡ true
part_there d section within = some_there (sdt_parts d) section (omega (arith, within, length-map (sdt_parts d) (services_length d)))

pub streams_there : (d : Described) (n : DescribedNetwork) (section : ℕ) → d.network ≡ Some n → section < length (network_lengths d n) →
    (is_some (slice_get (nit_parts d n) section) ≡ true) × (length (nit_parts d n) ≡ length (network_lengths d n))
streams_there d n section e within =
    let count : length (nit_parts d n) ≡ length (network_lengths d n) = sym (network_count d n e) ∙ ap (λ (o : Option DescribedNetwork). length (lengths_of d o)) e in
    (some_there (nit_parts d n) section (omega (arith, within, count)), count)

network_written : (d : Described) (o : Option DescribedNetwork) (section : ℕ) → IsInRange d → d.network ≡ o → section < length (lengths_of d o) →
    length (lengths_of d o) ≤ 128 → Fits4096 (elim o as (λ _. List ℕ) [ None ↦ [] | Some n ↦ network_bytes n (nit_parts d n) d.versions.nit section ]) →
    IsWritten (elim o as (λ _. List ℕ) [ None ↦ [] | Some n ↦ network_bytes n (nit_parts d n) d.versions.nit section ])
network_written d None section r e within few le = absurd (omega (arith, within))
network_written d (Some n) section r e within few le =
    let is = streams_there d n section e within in
    nit_written n d.versions.nit (slice_get (nit_parts d n) section) section (length (nit_parts d n) - 1) (of_some IsNetwork d.network n e r.network)
    r.versions.nit is.0 (omega (arith, within, few)) (omega (arith, is.1, few)) le

kind_written : (d : Described) (k : TableKind) (section moment : ℕ) → IsInRange d → IsThere d k → IsMade k → section < length (kind_lengths d k) →
    length (kind_lengths d k) ≤ 128 → Fits4096 (kind_bytes d k section moment) → IsWritten (kind_bytes d k section moment)
kind_written d Pat section moment r there made within few le = pat_written d section moment r le
kind_written d (Pmt p) section moment r there made within few le =
    pmt_written d (slice_get d.programs p) section (at_most_one IsProgram d.programs p (slice_get d.programs p) r.programs refl) within le
kind_written d Nit section moment r there made within few le = network_written d d.network section r refl within few le
kind_written d Sdt section moment r there made within few le =
    let count = length-map (sdt_parts d) (services_length d) in
    sdt_written d d.has_sdt (slice_get (sdt_parts d) section) section (length (sdt_parts d) - 1) r there (part_there d section within)
    (omega (arith, within, few)) (omega (arith, count, few)) le
kind_written d Eit section moment r there made within few le =
    let place : ℕ = (eit_place d section).0 in
    let is = eit_there d section within in
    let o : Option DescribedProgram = slice_get (scheduled_programs d) place in
    eit_written d o (eit_place d section).1 moment is.1
    (at_most_one IsProgram (scheduled_programs d) place o (All-filter (is_scheduled d.has_eit) IsProgram d.programs r.programs) refl)
    (some_there (scheduled_programs d) place is.0) le
kind_written d Tdt section moment r there made within few le = tdt_written d section moment
kind_written d (Private i) section moment r there made within few le = absurd made

-- The section of a table that is not ready-made can be written.
pub text_written : (d : Described) (t section moment : ℕ) (k : TableKind) → IsInRange d → table_kind d t ≡ Some k → IsMade k → section < section_count d t →
    IsWritten (table_bytes d t section moment)
text_written d t section moment k r is made within =
    let there : IsThere d k = at_place (IsThere d) (table_kinds d) t k (kinds_there d) is in
    let lengths : section_lengths d t ≡ kind_lengths d k = rw is refl in
    let text : table_bytes d t section moment ≡ kind_bytes d k section moment = rw is refl in
    let inside : section < length (kind_lengths d k) = subst (λ (ls : List ℕ). section < length ls) lengths within in
    let size : length (kind_bytes d k section moment) ≤ get_or (kind_lengths d k) section 0 =
    subst (λ (bytes : List ℕ). length bytes ≤ get_or (kind_lengths d k) section 0) text
    (subst (λ (ls : List ℕ). length (table_bytes d t section moment) ≤ get_or ls section 0) lengths (table_bytes_fit d t section moment r within)) in
    let short : get_or (kind_lengths d k) section 0 ≤ 4096 = All-get_or Below4096 (kind_lengths d k) section 0 inside (kind_short d k r there made) in
    let few : length (kind_lengths d k) ≤ 128 =
    subst (λ (ls : List ℕ). length ls ≤ 128) lengths (sections_law d t r (slice_get_within (table_kinds d) t k is)).1 in
    subst IsWritten (sym text) (kind_written d k section moment r there made inside few (omega (arith, size, short)))
