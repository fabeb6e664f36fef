-- The streams that the first slots of a run name are known once each section of the PAT and of the PMTs has begun twice.
use Rattle.std.proofs.Common.{◌≡◌, ◌∙◌, ◌⊎◌, sym, ℕ, suc, ◌+◌, ◌*◌, ◌/◌, ◌-◌, ◌^◌, ◌≤◌, ◌<◌, ◌==◌, ◌||◌, is_some, Bool, true, false, List, [], ◌∷◌, ◌++◌}
use Rattle.std.proofs.Common.{length, map, take, drop, Option, Some, None, Result, Ok, Err, if◌then◌else◌, refl, ap, subst, inl, inr, arith, All, append-nil}
use Rattle.std.specs.Prelude.{reverse, slice_get}
use Rattle.std.specs.List.{list_all}
use Rattle.std.specs.Option.{option_or, option_to_list}
use Rattle.std.proofs.lemmas.Bool.Decides.{leb_tells}
use Rattle.std.proofs.lemmas.List.{length-map, length-take, map-append}
use Rattle.std.proofs.lemmas.List.Concat.{flat_map-cons}
use Rattle.std.proofs.lemmas.List.Elements.{All-append, All-cons, All-head, All-nil, All-tail}
use Rattle.std.proofs.lemmas.Option.{slice_get_within}
use Rattle.own_slots.specs.Slots.{own_slots}
use Rattle.own_slots.specs.Rounds.{starts}
use Rattle.ts_packet.specs.PidList.{pid_list}
use Rattle.pes_packet.specs.AccessUnits.{AccessUnit}
use Rattle.pes_packet.specs.declared.reading.PesHeader.{PesHeader}
use Rattle.pes_packet.specs.declared.refusal.PesError.{PesError}
use Rattle.psi_tables.specs.Encoding.{section_bytes as section_text}
use Rattle.psi_tables.specs.ProgramAssociation.{pat_section}
use Rattle.psi_tables.specs.ProgramMap.{PmtFits, pmt_section}
use Rattle.psi_tables.specs.Reading.{section_at}
use Rattle.psi_tables.specs.declared.pat.programs.Program.{Program}
use Rattle.psi_tables.proofs.PatForms.{written as pat_written}
use Rattle.psi_tables.proofs.PmtForms.{written as pmt_written}
use Rattle.psi_tables.proofs.SectionWritten.{written as section_written}
use Rattle.slot_contents.specs.Contents.{run_bytes}
use Rattle.description_parts.specs.Described.{Described, DescribedNetwork, DescribedProgram}
use Rattle.description_parts.specs.Ranges.{IsInRange, IsProgram}
use Rattle.description.specs.SectionBytes.{network_entries, pat_entry, pat_says, pmt_says, table_bytes}
use Rattle.description_parts.specs.Tables.{section_lengths, table_count, table_kinds, table_limit, table_pid}
use Rattle.description_parts.specs.declared.table_kind.TableKind.TheVariants.{Pmt}
use Rattle.description.proofs.Pids.{at_place}
use Rattle.description.proofs.SectionCounts.{sections_law}
use Rattle.pid_findings.specs.Findings.{at_packet, end_of, ended, findings, open_after}
use Rattle.demux.specs.Laws.{found_of, with_pid_at}
use Rattle.pid_findings.specs.Marks.{marked}
use Rattle.pid_findings.specs.OpenUnits.{OpenUnit}
use Rattle.demux.specs.Stream.{pushed, start}
use Rattle.pid_findings.specs.Views.{FindingView, IsPes, IsSection, IsTruncated, PidFinding}
use Rattle.pid_findings.specs.declared.open_unit.UnitKind.{UnitKind}
use Rattle.pid_findings.specs.declared.open_unit.UnitKind.TheVariants as unit_kinds
use Rattle.demux.proofs.WholeStream.{each_pid_alone}
use Rattle.table_rounds.specs.Tables.{Table, round_places}
use Rattle.slot_plan.specs.TableRounds.{section_starts}
use Rattle.laws_run.specs.PidLaws.{found_on, packets_on}
use Rattle.laws_run.specs.Rounds.{sections_of_rounds}
use Rattle.laws_run.specs.Sections.{IsRecognized, begun_table, section_found, section_packets}
use Rattle.laws_run.specs.Sent.{Ending, each_found, if_sent, is_none, last_of, next_of, sendings}
use Rattle.laws_run.proofs.TablesAndStreams.{tables_come_back}
use Rattle.mux_core.specs.Decoder.{pieces_on}
use Rattle.mux_core.specs.Headline.{Headline, UnitsKept}
use Rattle.mux_core.specs.Histories.{content_at, table_of}
use Rattle.mux_core.specs.Scheduled.{Scheduled}
use Rattle.laws_run.specs.Distinguishable.{IsDistinguishable, is_mistaken}
use Rattle.laws_run.proofs.DistinguishableSections.{rounds_all, section_distinguishable}
use Rattle.laws_run.proofs.FollowedTables.{map_bytes, map_fits}
use Rattle.laws_run.proofs.MapsNamed.{pat_fits}
use Rattle.laws_run.proofs.MapsRecur.{map_table}
use Rattle.laws_run.proofs.RunFindings.{has_places, has_room, is_run, one_table}
use Rattle.laws_run.proofs.TwoStarts.{FirstSent, TwoStarts, table_sent}
use Rattle.program_tables.specs.Association.{AssociationView, association, entries, entries_of, first_pat, is_named, pat_found, pat_in, pat_of_section}
use Rattle.program_tables.specs.Association.{in_force as pat_in_force, with_program, with_programs}
use Rattle.program_tables.specs.ProgramMaps.{pmt_found, pmt_in, pmt_of_section, program_map, in_force as pmt_in_force}
use Rattle.stream_programs.specs.Programs.{FoundProgramsView, programs_of}
use Rattle.program_tables.specs.Sections.{section_bytes, section_on}
use Rattle.stream_programs.proofs.TablesAlone.{of_the_map, pid_zero}
use Rattle.ts_tables.specs.NamedStreams.{have_maps, streams_at, streams_by}
use Rattle.laws_view.proofs.Lists.{apart, itself}

-- The findings of a PID, without sections at the end of the stream

abbrev IsNoSection : FindingView → Type 0
IsNoSection f = section_bytes f.what ≡ None

end_is : (bytes : List ℕ) (kind : UnitKind) (r : Result (PesHeader × ℕ) PesError) → section_bytes (end_of true bytes kind r) ≡ None
unfolding section_bytes
end_is bytes unit_kinds.Pes (Ok h) = by (h.0.len == 0)
  where
    by : (b : Bool) → section_bytes (if b then IsPes h.0 true (drop h.1 bytes) else IsTruncated bytes) ≡ None
    by true = refl
    by false = refl
end_is bytes unit_kinds.Pes (Err e) = refl
end_is bytes unit_kinds.Section (Ok h) = refl
end_is bytes unit_kinds.Section (Err e) = refl

end_adds : (pid count : ℕ) (o : Option OpenUnit) → All IsNoSection (map (with_pid_at pid) (map (at_packet count) (ended true o)))
unfolding ended
end_adds pid count None = All-nil IsNoSection
end_adds pid count (Some unit) = All-cons IsNoSection _ [] (end_is unit.bytes unit.kind _) (All-nil IsNoSection)

record WithoutEnd (pid : ℕ) (bytes : List ℕ) : Type 0 where
  ends : List FindingView
  none : All IsNoSection ends
  split : found_on pid bytes ≡ found_of pid (pushed start bytes).found ++ ends

without_end : (pid : ℕ) (bytes : List ℕ) → (pid == 8191) ≡ false → length bytes / 188 < 2 ^ 64 - 1 → WithoutEnd pid bytes
without_end pid bytes p n =
    let alone = each_pid_alone pid bytes p n in
    let o : Option OpenUnit = open_after (reverse (marked None (pid_list pid bytes))) in
    let last : List PidFinding = map (at_packet (length bytes / 188)) (ended true o) in
    record {
      ends = map (with_pid_at pid) last;
      none = end_adds pid (length bytes / 188) o;
      split = alone.1 ∙ map-append (with_pid_at pid) (findings (pid_list pid bytes)) last
          ∙ ap (λ (fs : List FindingView). fs ++ map (with_pid_at pid) last) (sym alone.0);
    }

all_front : {X : Type 0} (P : X → Type 0) (xs ys : List X) → All P (xs ++ ys) → All P xs
all_front P [] ys h = All-nil P
all_front P (x ∷ xs) ys h = All-cons P x xs (All-head P x (xs ++ ys) h) (all_front P xs ys (All-tail P x (xs ++ ys) h))

is_section : (f : FindingView) (text : List ℕ) → f.what ≡ IsSection text → section_bytes f.what ≡ Some text
unfolding section_bytes
is_section f text e = rw e refl

-- The first section is found before the end of the stream.
first_before : (xs ends more : List FindingView) (f : FindingView) (text : List ℕ) → All IsNoSection ends → section_bytes f.what ≡ Some text →
    xs ++ ends ≡ f ∷ more →
    (rest : List FindingView) × (xs ≡ f ∷ rest)
first_before [] [] more f text none is e = absurd (let no : ⊥ = cc in no)
first_before [] (y ∷ ends) more f text none is e =
    let same : y ≡ f = cc in
    let nothing : section_bytes f.what ≡ None = ap (λ (x : FindingView). section_bytes x.what) (sym same) ∙ All-head IsNoSection y ends none in
    let both : Some text ≡ None = sym is ∙ nothing in
    absurd (let no : ⊥ = cc in no)
first_before (y ∷ xs) ends more f text none is e = let same : y ≡ f = cc in (xs, ap (λ (x : FindingView). x ∷ xs) same)

-- A table whose first section has all its packets

record FirstOf (n : ℕ) (section : List ℕ) (rest : List (List ℕ)) (packets : List ℕ) : Type 0 where
  at : PidFinding
  more : List PidFinding
  is : each_found section_found n (sendings section_packets (section ∷ rest) packets) ≡ at ∷ more
  what : at.found.what ≡ IsSection section

first_of : (n : ℕ) (section : List ℕ) (rest : List (List ℕ)) (packets : List ℕ) → section_packets section ≤ length packets → FirstOf n section rest packets
unfolding sendings each_found if_sent section_found
first_of n section rest packets enough = by (take (section_packets section) packets) refl
  where
    by : (sent : List ℕ) → take (section_packets section) packets ≡ sent → FirstOf n section rest packets
    by [] e = absurd (omega (arith, enough, length-take (section_packets section) packets, ap (λ (l : List ℕ). length l) e))
    by (i ∷ is) e = elim (leb_tells (1 + length section) (184 * length (i ∷ is))) [
      | inl whole ↦ record {
        at = record { packet = last_of i is; found = begun_table i section (IsSection section) (is_none is) };
        more = each_found section_found n (sendings section_packets rest (drop (section_packets section) packets));
        is = rw (e, whole.0) refl;
        what = refl;
      }
      | inr less ↦ absurd (omega (arith, enough, less.1, length-take (section_packets section) packets, ap (λ (l : List ℕ). length l) e))
    ]

-- The first section that is found on a PID, and the later findings
record TableFound (P : List ℕ → Type 0) (n pid : ℕ) (bytes : List ℕ) : Type 0 where
  text : List ℕ
  is : P text
  finding : FindingView
  what : finding.what ≡ IsSection text
  on : finding.pid ≡ Some pid
  more : List FindingView
  first : found_of pid (pushed start bytes).found ≡ finding ∷ more
  texts : List (List ℕ)
  each : All P texts
  packets : List ℕ
  back : found_on pid bytes ≡ map (with_pid_at pid) (each_found section_found n (sendings section_packets texts packets))

found_by : (P : List ℕ → Type 0) (n pid : ℕ) (bytes : List ℕ) (sections : List (List ℕ)) (packets : List ℕ) → (pid == 8191) ≡ false →
    length bytes / 188 < 2 ^ 64 - 1 →
    FirstSent sections (length packets) → All P sections →
    found_on pid bytes ≡ map (with_pid_at pid) (each_found section_found n (sendings section_packets sections packets)) → TableFound P n pid bytes
found_by P n pid bytes [] packets other few sent each back = absurd (let none : None ≡ Some sent.section = sent.first in (let no : ⊥ = cc in no))
found_by P n pid bytes (x ∷ xs) packets other few sent each back =
    let same : x ≡ sent.section = (let there : Some x ≡ Some sent.section = sent.first in cc) in
    let of = first_of n x xs packets (omega (arith, sent.sent, ap (λ (t : List ℕ). length t) same)) in
    let w = without_end pid bytes other few in
    let f : FindingView = with_pid_at pid of.at in
    let all : found_of pid (pushed start bytes).found ++ w.ends ≡ f ∷ map (with_pid_at pid) of.more =
    sym w.split ∙ back ∙ ap (λ (l : List PidFinding). map (with_pid_at pid) l) of.is in
    let split = first_before (found_of pid (pushed start bytes).found) w.ends (map (with_pid_at pid) of.more) f x w.none (is_section f x of.what) all in
    record {
      text = x;
      is = All-head P x xs each;
      finding = f;
      what = of.what;
      on = refl;
      more = split.0;
      first = split.1;
      texts = x ∷ xs;
      each = each;
      packets = packets;
      back = back;
    }

table_found : (P : List ℕ → Type 0) (d : Scheduled) (units : ℕ → List AccessUnit) (n t : ℕ) → IsInRange d.description → UnitsKept d units → n < 2 ^ 64 - 1 →
    Headline d units n (run_bytes (content_at d units) 0 n) → t < table_count d.description → IsDistinguishable d.description t →
    TwoStarts (section_starts d.description d.schedule t 0) n →
    (table_pid d.description t == 8191) ≡ false → ((j moment : ℕ) → j < length (section_lengths d.description t) → P (table_bytes d.description t j moment)) →
    TableFound P n (table_pid d.description t) (run_bytes (content_at d units) 0 n)
table_found P d units n t r kept few h lt reported two other each =
    let bytes : List ℕ = run_bytes (content_at d units) 0 n in
    let pid : ℕ = table_pid d.description t in
    let table : Table = table_of d t in
    let slots : List ℕ = own_slots (starts table.own (round_places table.lengths) 0) 0 n in
    let given : All IsRecognized (sections_of_rounds table n) =
    rounds_all IsRecognized table slots (λ s j moment within. section_distinguishable d.description t j moment r lt reported within) in
    let back = tables_come_back table n (content_at d units) (is_run d units n r kept few) (one_table d units t r kept lt) (has_places d t r lt)
    (has_room d t r) given in
    let sent = table_sent d t n bytes r lt (sections_law d.description t r lt).0 (h.tables t lt) two in
    let many : length (pieces_on pid bytes) ≡ length (packets_on pid bytes) = length-map (pid_list pid bytes) _ ∙ sym (length-map (pid_list pid bytes) _) in
    found_by P n pid bytes (sections_of_rounds table n) (packets_on pid bytes) other (omega (arith, few, h.size))
    (subst (λ (m : ℕ). FirstSent (sections_of_rounds table n) m) many sent) (rounds_all P table slots (λ s. each)) back

-- The PAT

abbrev SaysPrograms : Described → List ℕ → Type 0
SaysPrograms d text = pat_in text ≡ Some (pat_says d)

pat_read : (d : Described) → IsInRange d → SaysPrograms d (section_text (pat_section (pat_says d)))
unfolding pat_in pat_of_section pat_in_force
pat_read d r =
    let again = pat_written (pat_says d) (pat_fits d r) in
    let read = (section_written (pat_section (pat_says d)) again.writable).read [] in
    let here = ap (λ (x : List ℕ). section_at x) (sym (append-nil (section_text (pat_section (pat_says d))))) ∙ read in
    rw (here, again.read) refl

pat_there : (d : Described) (f : FindingView) (text : List ℕ) → f.pid ≡ Some 0 → f.what ≡ IsSection text → SaysPrograms d text → pat_found f ≡ Some (pat_says d)
unfolding pat_found section_on section_bytes
pat_there d f text on what says = rw (on, what) says

-- The entry is the PAT entry of a program in the description.
abbrev OfProgram : Described → Program → Type 0
OfProgram d p = (i : ℕ) × (q : DescribedProgram) × (slice_get d.programs i ≡ Some q) × (p ≡ pat_entry q)

abbrev IsEntry : Described → Program → Type 0
IsEntry d p = ((p.program_number == 0) ≡ true) ⊎ OfProgram d p

network_is : (d : Described) (o : Option DescribedNetwork) → All (IsEntry d) (map (λ n. record { program_number = 0; pid = 0x10 }) (option_to_list o))
network_is d None = All-nil (IsEntry d)
network_is d (Some n) = All-cons (IsEntry d) (record { program_number = 0; pid = 0x10 }) [] (inl refl) (All-nil (IsEntry d))

programs_are : (d : Described) (ps : List DescribedProgram) → ((i : ℕ) (p : DescribedProgram) → slice_get ps i ≡ Some p → OfProgram d (pat_entry p)) →
    All (IsEntry d) (map pat_entry ps)
programs_are d [] h = All-nil (IsEntry d)
programs_are d (p ∷ ps) h = All-cons (IsEntry d) (pat_entry p) (map pat_entry ps) (inr (h 0 p refl)) (programs_are d ps (λ i q e. h (suc i) q e))

says_entries : (d : Described) → All (IsEntry d) (pat_says d).programs
says_entries d =
    All-append (IsEntry d) (network_entries d) (map pat_entry d.programs) (network_is d d.network) (programs_are d d.programs (λ i p e. (i, p, e, refl)))

-- A finding on PID 0 has no PAT, or the PAT of the description.
abbrev HasIts : Described → FindingView → Type 0
HasIts d f = (pat_found f ≡ None) ⊎ (pat_found f ≡ Some (pat_says d))

section_has : (d : Described) (e : Ending) (text : List ℕ) (i : ℕ) (is : List ℕ) → SaysPrograms d text → HasIts d (with_pid_at 0 (section_found e text i is))
unfolding section_found pat_found section_on section_bytes
section_has d e text i is says = elim (leb_tells (1 + length text) (184 * length (i ∷ is))) [
  | inl whole ↦ rw whole.0 (inr says)
  | inr less ↦ rw less.0 (inl refl)
]

one_has : (d : Described) (e : Ending) (text : List ℕ) (sent : List ℕ) (rest : List PidFinding) → SaysPrograms d text →
    All (HasIts d) (map (with_pid_at 0) rest) →
    All (HasIts d) (map (with_pid_at 0) (if_sent (section_found e text) sent ++ rest))
unfolding if_sent
one_has d e text [] rest says all = all
one_has d e text (i ∷ is) rest says all =
    All-cons (HasIts d) (with_pid_at 0 (section_found e text i is)) (map (with_pid_at 0) rest) (section_has d e text i is says) all

sent_has : (d : Described) (n : ℕ) (texts : List (List ℕ)) (packets : List ℕ) → All (SaysPrograms d) texts →
    All (HasIts d) (map (with_pid_at 0) (each_found section_found n (sendings section_packets texts packets)))
unfolding each_found sendings
sent_has d n [] packets h = All-nil (HasIts d)
sent_has d n (text ∷ texts) packets h =
    let more : List ℕ = drop (section_packets text) packets in
    one_has d (next_of n (sendings section_packets texts more)) text (take (section_packets text) packets)
    (each_found section_found n (sendings section_packets texts more))
    (All-head (SaysPrograms d) text texts h) (sent_has d n texts more (All-tail (SaysPrograms d) text texts h))

entries_are : (d : Described) (version : ℕ) (fs : List FindingView) → All (HasIts d) fs → All (IsEntry d) (entries version fs)
unfolding entries entries_of
entries_are d version [] h = All-nil (IsEntry d)
entries_are d version (f ∷ fs) h =
    let rest = entries_are d version fs (All-tail (HasIts d) f fs h) in
    subst (All (IsEntry d)) (sym (flat_map-cons (λ (x : FindingView). entries_of version (pat_found x)) f fs))
    (All-append (IsEntry d) (entries_of version (pat_found f)) (entries version fs) (one (All-head (HasIts d) f fs h)) rest)
  where
    those : (b : Bool) → All (IsEntry d) (if b then (pat_says d).programs else [])
    those true = says_entries d
    those false = All-nil (IsEntry d)

    one : HasIts d f → All (IsEntry d) (entries_of version (pat_found f))
    one (inl none) = rw none (All-nil (IsEntry d))
    one (inr some) = rw some (those (d.versions.pat == version))

-- All programs that are named are programs of the description.
program_with : (d : Described) (named : List Program) (p : Program) → All (OfProgram d) named → IsEntry d p → All (OfProgram d) (with_program named p)
unfolding with_program
program_with d named p all (inl network) = rw network all
program_with d named p all (inr of) = by ((p.program_number == 0) || is_named p.program_number named)
  where
    by : (b : Bool) → All (OfProgram d) (if b then named else named ++ p ∷ [])
    by true = all
    by false = All-append (OfProgram d) named (p ∷ []) all (All-cons (OfProgram d) p [] of (All-nil (OfProgram d)))

programs_with : (d : Described) (named ps : List Program) → All (OfProgram d) named → All (IsEntry d) ps → All (OfProgram d) (with_programs named ps)
unfolding with_programs
programs_with d named [] all h = all
programs_with d named (p ∷ ps) all h =
    programs_with d (with_program named p) ps (program_with d named p all (All-head (IsEntry d) p ps h)) (All-tail (IsEntry d) p ps h)

-- The map of a program

abbrev SaysStreams : Described → DescribedProgram → List ℕ → Type 0
SaysStreams d p text = pmt_in p.number text ≡ Some (pmt_says d p)

pmt_read : (d : Described) (p : DescribedProgram) → PmtFits (pmt_says d p) → SaysStreams d p (section_text (pmt_section (pmt_says d p)))
unfolding pmt_in pmt_of_section pmt_in_force
pmt_read d p fits =
    let again = pmt_written (pmt_says d p) fits in
    let read = (section_written (pmt_section (pmt_says d p)) again.writable).read [] in
    let here = ap (λ (x : List ℕ). section_at x) (sym (append-nil (section_text (pmt_section (pmt_says d p))))) ∙ read in
    rw (here, again.read, itself p.number) refl

some_of : {X : Type 0} (o : Option X) (x : X) → is_some (option_or o (Some x)) ≡ true
some_of None x = refl
some_of (Some y) x = refl

has_map : (d : Described) (n : ℕ) (p : DescribedProgram) (bytes : List ℕ) → TableFound (SaysStreams d p) n p.pmt_pid bytes →
    is_some (program_map (pat_entry p) (pushed start bytes).found) ≡ true
unfolding program_map pmt_found section_on section_bytes
has_map d n p bytes t =
    let here : pmt_found (pat_entry p) t.finding ≡ Some (pmt_says d p) = rw (t.on, itself p.pmt_pid, t.what) t.is in
    ap (λ o. is_some o) (sym (of_the_map (pat_entry p) (pushed start bytes).found) ∙ ap (λ (fs : List FindingView). program_map (pat_entry p) fs) t.first)
    ∙ rw here (some_of (program_map (pat_entry p) t.more) (pmt_says d p))

-- The streams of a run are known.

pub record RunTables (d : Scheduled) (n : ℕ) : Type 0 where
  pub twice : (t : ℕ) → t < table_count d.description → table_limit d.description t ≡ 500 → TwoStarts (section_starts d.description d.schedule t 0) n

-- The PID of a program map is not the PID of null packets.
map_apart : (d : Described) (i : ℕ) (p : DescribedProgram) (pid : ℕ) → IsInRange d → slice_get d.programs i ≡ Some p → pid ≡ p.pmt_pid → (pid == 8191) ≡ false
map_apart d i p pid r is same =
    let program = at_place IsProgram d.programs i p r.programs is in
    apart pid 8191 (λ e. omega (arith, e, same, program.pmt_pid.high))

map_known : (d : Scheduled) (units : ℕ → List AccessUnit) (n : ℕ) → IsInRange d.description → UnitsKept d units → n < 2 ^ 64 - 1 →
    Headline d units n (run_bytes (content_at d units) 0 n) → RunTables d n → (i : ℕ) (q : DescribedProgram) → slice_get d.description.programs i ≡ Some q →
    is_some (program_map (pat_entry q) (pushed start (run_bytes (content_at d units) 0 n)).found) ≡ true
map_known d units n r kept few h tables i q is =
    let bytes : List ℕ = run_bytes (content_at d units) 0 n in
    let m = map_table d.description i q is in
    let lt : i + 1 < table_count d.description = slice_get_within (table_kinds d.description) (i + 1) (Pmt i) m.kind in
    let limit : table_limit d.description (i + 1) ≡ 500 = let kind = m.kind in rw (kind, table_limit) refl in
    let fits = map_fits d.description (i + 1) i q r lt m.kind is in
    let reported : IsDistinguishable d.description (i + 1) = let kind = m.kind in rw kind (All-nil (λ (text : List ℕ). is_mistaken text ≡ false)) in
    let other : (table_pid d.description (i + 1) == 8191) ≡ false = map_apart d.description i q (table_pid d.description (i + 1)) r is m.same in
    let t = table_found (SaysStreams d.description q) d units n (i + 1) r kept few h lt reported (tables.twice (i + 1) lt limit) other
    (λ j moment within. subst (SaysStreams d.description q) (sym (map_bytes d.description (i + 1) i j moment q m.kind is)) (pmt_read d.description q fits)) in
    has_map d.description n q bytes (subst (λ (pid : ℕ). TableFound (SaysStreams d.description q) n pid bytes) m.same t)

list_all_of : {X : Type 0} (P : X → Type 0) (f : X → Bool) (xs : List X) → All P xs → ((x : X) → P x → f x ≡ true) → list_all f xs ≡ true
list_all_of P f [] h each = refl
list_all_of P f (x ∷ xs) h each = rw (each x (All-head P x xs h)) (list_all_of P f xs (All-tail P x xs h) each)

either_known : (last maps : Bool) (found : FoundProgramsView) → maps ≡ true → is_some (if last || maps then Some found else None) ≡ true
either_known true maps found e = refl
either_known false maps found e = rw e refl

pub streams_known : (d : Scheduled) (units : ℕ → List AccessUnit) (n : ℕ) (last : Bool) → IsInRange d.description → UnitsKept d units → n < 2 ^ 64 - 1 →
    Headline d units n (run_bytes (content_at d units) 0 n) → RunTables d n →
    is_some (streams_at last (pushed start (run_bytes (content_at d units) 0 n)).found) ≡ true
unfolding association first_pat streams_by
streams_known d units n last r kept few h tables =
    let bytes : List ℕ = run_bytes (content_at d units) 0 n in
    let found : List FindingView = (pushed start bytes).found in
    let there : 0 < table_count d.description = omega arith in
    let t = table_found (SaysPrograms d.description) d units n 0 r kept few h there (All-nil (λ (text : List ℕ). is_mistaken text ≡ false))
    (tables.twice 0 there refl) refl
    (λ j moment within. pat_read d.description r) in
    let here = pat_there d.description t.finding t.text t.on t.what t.is in
    let w = without_end 0 bytes refl (omega (arith, few, h.size)) in
    let its : All (HasIts d.description) (found_of 0 found) =
    all_front (HasIts d.description) (found_of 0 found) w.ends
    (subst (All (HasIts d.description)) (sym t.back ∙ w.split) (sent_has d.description n t.texts t.packets t.each)) in
    let version : ℕ = d.description.versions.pat in
    let a : AssociationView = record {
      transport_stream_id = d.description.transport_stream_id;
      version_number = version;
      programs = with_programs [] (entries version (found_of 0 found));
    } in
    let is : association found ≡ Some a = sym (pid_zero found) ∙ ap (λ (fs : List FindingView). association fs) t.first
    ∙ rw here refl
    ∙ ap (λ (fs : List FindingView). Some
    (record { transport_stream_id = d.description.transport_stream_id; version_number = version; programs = with_programs [] (entries version fs) })) (sym t.first) in
    let of : All (OfProgram d.description) a.programs =
    programs_with d.description [] (entries version (found_of 0 found)) (All-nil (OfProgram d.description))
    (entries_are d.description version (found_of 0 found) its) in
    let maps : have_maps found a.programs ≡ true = list_all_of (OfProgram d.description) (λ p. is_some (program_map p found)) a.programs of
    (λ p o. ap (λ (q : Program). is_some (program_map q found)) o.3 ∙ map_known d units n r kept few h tables o.0 o.1 o.2) in
    ap (λ (x : Option AssociationView). is_some (streams_by last found x)) is
    ∙ either_known last (have_maps found a.programs) (programs_of a.programs found) maps
