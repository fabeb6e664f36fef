-- The program association sections of a run name only the PIDs of the description's program maps.
use Rattle.std.proofs.Common.{◌≡◌, ℕ, suc, ◌+◌, ◌-◌, ◌*◌, ◌/◌, ◌^◌, ◌<◌, ◌≤◌, ◌==◌, nat_le, nat_eq, Bool, true, false, cond, List, [], ◌∷◌, ◌++◌, length, map}
use Rattle.std.proofs.Common.{take, drop, Option, Some, None, Ok, slice_get, refl, sym, ap, subst, ◌∙◌, arith, All, inl, inr, eqb-true, append-nil}
use Rattle.std.specs.Map.{lookup}
use Rattle.std.specs.Option.{option_to_list}
use Rattle.std.proofs.lemmas.Bool.{cases_Bool}
use Rattle.std.proofs.lemmas.List.{length-map}
use Rattle.std.proofs.lemmas.List.Concat.{flat_map-cons}
use Rattle.std.proofs.lemmas.List.Elements.{All-nil, All-cons, All-head, All-tail, All-append}
use Rattle.own_slots.specs.Slots.{own_slots}
use Rattle.own_slots.specs.Rounds.{starts}
use Rattle.pes_packet.specs.AccessUnits.{AccessUnit}
use Rattle.psi_tables.specs.Reading.{section_at}
use Rattle.psi_tables.specs.Encoding.{section_bytes}
use Rattle.psi_tables.specs.ProgramAssociation.{PatFits, ProgramsFit, pat_section}
use Rattle.psi_tables.specs.declared.pat.programs.Program.{Program}
use Rattle.psi_tables.proofs.PatForms.{written}
use Rattle.psi_tables.proofs.SectionWritten.{written as section_written}
use Rattle.slot_contents.specs.Contents.{Content, run_bytes}
use Rattle.slot_contents.specs.RunLaws.{Fits}
use Rattle.slot_contents.proofs.Runs.{run_length}
use Rattle.description_parts.specs.Described.{Described, DescribedNetwork, DescribedProgram}
use Rattle.description_parts.specs.Ranges.{IsInRange, IsProgram}
use Rattle.description_parts.specs.Tables.{table_count}
use Rattle.description.specs.SectionBytes.{network_entries, pat_entry, pat_says, table_bytes}
use Rattle.pid_findings.specs.Views.{WhatView, IsSection, IsTruncated, PidFinding, FindingView}
use Rattle.demux.specs.Laws.{with_pid_at}
use Rattle.table_rounds.specs.Tables.{round_places}
use Rattle.table_rounds.specs.Payloads.{TableIsAlone}
use Rattle.monitor.specs.ProgramMaps.{programs_in_section, programs_by}
use Rattle.monitor.specs.Begins.{found_on}
use Rattle.monitor.specs.NamedPids.{program_pids, pids_named_in, namings, named_since}
use Rattle.laws_run.specs.Sent.{Ending, next_of, if_sent, each_found, sendings}
use Rattle.laws_run.specs.Sections.{section_found, section_packets, IsRecognized}
use Rattle.laws_run.specs.Rounds.{sections_of_rounds}
use Rattle.laws_run.specs.PidLaws.{packets_on}
use Rattle.laws_run.proofs.TablesAndStreams.{tables_come_back}
use Rattle.mux_core.specs.Scheduled.{Scheduled}
use Rattle.mux_core.specs.Histories.{table_of, content_at}
use Rattle.mux_core.specs.Headline.{UnitsKept}
use Rattle.mux_core.proofs.Whole.{contents_fit}
use Rattle.laws_run.specs.Distinguishable.{is_mistaken, IsDistinguishable}
use Rattle.laws_run.proofs.DistinguishableSections.{section_distinguishable, rounds_all}
use Rattle.laws_run.proofs.RunFindings.{is_run, one_table, has_places, has_room}
use Rattle.laws_run.proofs.Soundness.{as_reported}

-- The PID of a program's map
abbrev pub IsMapPid : Described → ℕ → Type 0
IsMapPid d pid = (i : ℕ) × (p : DescribedProgram) × (slice_get d.programs i ≡ Some p) × (p.pmt_pid ≡ pid)

-- The program association section

network_unnamed : (o : Option DescribedNetwork) (programs : List Program) →
    program_pids (map (λ n. record { program_number = 0; pid = 0x10 }) (option_to_list o) ++ programs) ≡ program_pids programs
network_unnamed None programs = refl
network_unnamed (Some n) programs = refl

entries_named : (P : ℕ → Type 0) (ps : List DescribedProgram) → ((i : ℕ) (p : DescribedProgram) → slice_get ps i ≡ Some p → P p.pmt_pid) →
    All P (program_pids (map pat_entry ps))
entries_named P [] h = All-nil P
entries_named P (p ∷ ps) h =
    let rest = entries_named P ps (λ i q e. h (suc i) q e) in
    elim (cases_Bool (p.number == 0)) [
      | inl y ↦ rw y rest
      | inr n ↦ rw n (All-cons P p.pmt_pid (program_pids (map pat_entry ps)) (h 0 p refl) rest)
    ]

programs_fit : (ps : List DescribedProgram) → All IsProgram ps → ProgramsFit (map pat_entry ps)
programs_fit [] h = tt
programs_fit (p ∷ ps) h =
    let is = All-head IsProgram p ps h in
    (record { program_number = omega (arith, is.most_number); pid = omega (arith, is.pmt_pid.high) }, programs_fit ps (All-tail IsProgram p ps h))

entries_fit : (o : Option DescribedNetwork) (programs : List Program) → ProgramsFit programs →
    ProgramsFit (map (λ n. record { program_number = 0; pid = 0x10 }) (option_to_list o) ++ programs)
entries_fit None programs h = h
entries_fit (Some n) programs h = (record { program_number = omega arith; pid = omega arith }, h)

entry_count : (o : Option DescribedNetwork) (programs : List Program) →
    length (map (λ n. record { program_number = 0; pid = 0x10 }) (option_to_list o) ++ programs) ≤ 1 + length programs
entry_count None programs = omega arith
entry_count (Some n) programs = omega arith

pub pat_fits : (d : Described) → IsInRange d → PatFits (pat_says d)
pat_fits d r = record {
  header = record {
    table_id_extension = omega (arith, r.transport_stream_id);
    version_number = omega (arith, r.versions.pat);
    section_number = omega arith;
    last_section_number =
        omega arith;
  };
  programs = entries_fit d.network (map pat_entry d.programs) (programs_fit d.programs r.programs);
  room = omega (arith, entry_count d.network (map pat_entry d.programs), length-map d.programs pat_entry, r.most_programs);
}

-- A reader of the section gets the same programs, whatever bytes follow the section.
pub pat_read_before : (d : Described) (fill : List ℕ) → IsInRange d →
    programs_in_section (section_at (section_bytes (pat_section (pat_says d)) ++ fill)) ≡ network_entries d ++ map pat_entry d.programs
unfolding programs_in_section programs_by
pat_read_before d fill r =
    let table = pat_section (pat_says d) in
    let again = written (pat_says d) (pat_fits d r) in
    let read : section_at (section_bytes (pat_section (pat_says d)) ++ fill) ≡ Ok
    (pat_section (pat_says d), length (section_bytes (pat_section (pat_says d)))) =
    (section_written table again.writable).read fill in
    ap programs_in_section read ∙ ap programs_by again.read

pat_read : (d : Described) → IsInRange d → programs_in_section (section_at (section_bytes (pat_section (pat_says d)))) ≡ network_entries d
    ++ map pat_entry d.programs
pat_read d r = ap (λ (bytes : List ℕ). programs_in_section (section_at bytes)) (sym (append-nil (section_bytes (pat_section (pat_says d)))))
    ∙ pat_read_before d [] r

-- A finding names only PIDs of program maps.
abbrev Names : Described → WhatView → Type 0
Names d what = All (IsMapPid d) (pids_named_in what)

text_names : (d : Described) (j moment : ℕ) → IsInRange d → Names d (IsSection (table_bytes d 0 j moment))
unfolding pids_named_in
text_names d j moment r =
    subst (λ (programs : List Program). All (IsMapPid d) (program_pids programs)) (sym (pat_read d r))
    (subst (All (IsMapPid d)) (sym (network_unnamed d.network (map pat_entry d.programs)))
    (entries_named (IsMapPid d) d.programs (λ i p e. (i, p, e, refl))))

-- Findings on PID 0

abbrev NamesAt : Described → PidFinding → Type 0
NamesAt d at = Names d at.found.what

either : (d : Described) (b : Bool) (x y : PidFinding) → NamesAt d x → NamesAt d y → NamesAt d (cond b x y)
either d true x y h k = h
either d false x y h k = k

cut_names : (d : Described) (bytes : List ℕ) → Names d (IsTruncated bytes)
unfolding pids_named_in
cut_names d bytes = All-nil (IsMapPid d)

section_names : (d : Described) (e : Ending) (text : List ℕ) (i : ℕ) (is : List ℕ) → Names d (IsSection text) → NamesAt d (section_found e text i is)
unfolding section_found
section_names d e text i is h = either d (nat_le (1 + length text) (184 * length (i ∷ is))) _ _ h (cut_names d _)

one_names : (d : Described) (e : Ending) (text packets : List ℕ) → Names d (IsSection text) → All (NamesAt d) (if_sent (section_found e text) packets)
unfolding if_sent
one_names d e text [] h = All-nil (NamesAt d)
one_names d e text (i ∷ is) h = All-cons (NamesAt d) (section_found e text i is) [] (section_names d e text i is h) (All-nil (NamesAt d))

sent_name : (d : Described) (n : ℕ) (texts : List (List ℕ)) (packets : List ℕ) → All (λ text. Names d (IsSection text)) texts →
    All (NamesAt d) (each_found section_found n (sendings section_packets texts packets))
unfolding each_found sendings
sent_name d n [] packets h = All-nil (NamesAt d)
sent_name d n (text ∷ texts) packets h =
    let more = drop (section_packets text) packets in
    let first = take (section_packets text) packets in
    let e = next_of n (sendings section_packets texts more) in
    All-append (NamesAt d) (if_sent (section_found e text) first) (each_found section_found n (sendings section_packets texts more))
    (one_names d e text first (All-head (λ (t : List ℕ). Names d (IsSection t)) text texts h))
    (sent_name d n texts more (All-tail (λ (t : List ℕ). Names d (IsSection t)) text texts h))

-- The same names, in the findings of the whole run

abbrev NamesReported : Described → FindingView → Type 0
NamesReported d f = Names d f.what

reported_name : (d : Described) (pid : ℕ) (xs : List PidFinding) → All (NamesAt d) xs → All (NamesReported d) (map (with_pid_at pid) xs)
reported_name d pid [] h = All-nil (NamesReported d)
reported_name d pid (x ∷ xs) h =
    All-cons (NamesReported d) (with_pid_at pid x) (map (with_pid_at pid) xs) (All-head (NamesAt d) x xs h)
    (reported_name d pid xs (All-tail (NamesAt d) x xs h))

found_name : (d : Described) (pid : ℕ) (xs : List PidFinding) → All (NamesReported d) (map (with_pid_at pid) xs) → All (NamesAt d) xs
found_name d pid [] h = All-nil (NamesAt d)
found_name d pid (x ∷ xs) h =
    All-cons (NamesAt d) x xs (All-head (NamesReported d) (with_pid_at pid x) (map (with_pid_at pid) xs) h)
    (found_name d pid xs (All-tail (NamesReported d) (with_pid_at pid x) (map (with_pid_at pid) xs) h))

-- Named PIDs

by_one : (d : Described) (pid since packet : ℕ) (pids : List ℕ) (rest : List (ℕ × ℕ)) → All (IsMapPid d) pids →
    (lookup (nat_eq pid) rest ≡ Some since → IsMapPid d pid) →
    lookup (nat_eq pid) (map (λ q. (q, packet)) pids ++ rest) ≡ Some since → IsMapPid d pid
by_one d pid since packet [] rest h others e = others e
by_one d pid since packet (q ∷ pids) rest h others e = elim (cases_Bool (nat_eq pid q)) [
  | inl y ↦ subst (IsMapPid d) (sym (eqb-true pid q y)) (All-head (IsMapPid d) q pids h)
  | inr n ↦
      by_one d pid since packet pids rest (All-tail (IsMapPid d) q pids h) others
      (sym (ap (λ (b : Bool). cond b (Some packet) (lookup (nat_eq pid) (map (λ (r : ℕ). (r, packet)) pids ++ rest))) n) ∙ e)
]

by_all : (d : Described) (pid since : ℕ) (found : List PidFinding) → All (NamesAt d) found → lookup (nat_eq pid) (namings found) ≡ Some since → IsMapPid d pid
by_all d pid since [] h e = absurd (cc)
by_all d pid since (x ∷ xs) h e =
    by_one d pid since x.packet (pids_named_in x.found.what) (namings xs) (All-head (NamesAt d) x xs h)
    (by_all d pid since xs (All-tail (NamesAt d) x xs h))
    (sym (ap (lookup (nat_eq pid)) (flat_map-cons (λ (at : PidFinding). map (λ (q : ℕ). (q, at.packet)) (pids_named_in at.found.what)) x xs)) ∙ e)

-- Each PID that a run names for program maps is the PID of a program's map.
pub named_are_maps : (d : Scheduled) (units : ℕ → List AccessUnit) (n pid since : ℕ) → IsInRange d.description → UnitsKept d units → n < 2 ^ 64 - 1 →
    named_since pid (run_bytes (content_at d units) 0 n) ≡ Some since → IsMapPid d.description pid
named_are_maps d units n pid since r kept few e = by_all d.description pid since (found_on 0 bytes) names e
  where
    content : ℕ → Content
    content = content_at d units

    bytes : List ℕ
    bytes = run_bytes content 0 n

    fits : Fits content
    fits = contents_fit d units r kept

    count : length bytes / 188 ≡ n
    count = let size : length bytes ≡ 188 * n = run_length content 0 n fits in omega (arith, size)

    there : 0 < table_count d.description
    there = omega arith

    reported : IsDistinguishable d.description 0
    reported = All-nil (λ (text : List ℕ). is_mistaken text ≡ false)

    alone : TableIsAlone (table_of d 0) content
    alone = one_table d units 0 r kept there

    slots : List ℕ
    slots = own_slots (starts (table_of d 0).own (round_places (table_of d 0).lengths) 0) 0 n

    given : All IsRecognized (sections_of_rounds (table_of d 0) n)
    given = rounds_all IsRecognized (table_of d 0) slots (λ s j moment lt. section_distinguishable d.description 0 j moment r there reported lt)

    texts_name : All (λ text. Names d.description (IsSection text)) (sections_of_rounds (table_of d 0) n)
    texts_name = rounds_all (λ text. Names d.description (IsSection text)) (table_of d 0) slots (λ s j moment lt. text_names d.description j moment r)

    back : map (with_pid_at 0) (each_found section_found n (sendings section_packets (sections_of_rounds (table_of d 0) n) (packets_on 0 bytes))) ≡ map
        (with_pid_at 0) (found_on 0 bytes)
    back = sym (tables_come_back (table_of d 0) n content (is_run d units n r kept few) alone (has_places d 0 r there) (has_room d 0 r) given)
        ∙ as_reported 0 bytes refl (omega (arith, count, few))

    names : All (NamesAt d.description) (found_on 0 bytes)
    names = found_name d.description 0 (found_on 0 bytes)
        (subst (All (NamesReported d.description)) back
        (reported_name d.description 0 _ (sent_name d.description n (sections_of_rounds (table_of d 0) n) (packets_on 0 bytes) texts_name)))
