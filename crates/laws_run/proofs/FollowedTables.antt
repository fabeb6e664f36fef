-- A decoder that follows PAT and PMT learns each program and its streams.
use Rattle.std.proofs.Common.{◌≡◌, ◌≤◌, ◌<◌, ℕ, zero, suc, ◌+◌, ◌-◌, Bool, true, false, cond, if◌then◌else◌, List, [], ◌∷◌, ◌++◌, length, map, filter, get_or}
use Rattle.std.proofs.Common.{is_some, Option, Some, Ok, slice_get, All, refl, sym, ap, subst, ◌∙◌, arith}
use Rattle.std.specs.Prelude.{Contains, slice_index_or}
use Rattle.std.specs.List.{flat_map}
use Rattle.std.specs.Option.{option_to_list}
use Rattle.std.proofs.lemmas.List.{length-append}
use Rattle.std.proofs.lemmas.List.Concat.{flat_map-cons}
use Rattle.std.proofs.lemmas.List.Elements.{All-head, All-tail}
use Rattle.psi_tables.specs.CheckWord.{check_word}
use Rattle.psi_tables.specs.Reading.{section_at}
use Rattle.psi_tables.specs.Encoding.{check_word_bytes, start_bytes, long_header_bytes, front_bytes, header_bytes, with_crc, section_bytes}
use Rattle.psi_tables.specs.ProgramMap.{StreamFits, StreamView, StreamsFit, PmtFits, PmtView, pmt_body, pmt_header, pmt_section}
use Rattle.psi_tables.specs.declared.pat.programs.Program.{Program}
use Rattle.psi_tables.proofs.PmtForms.{written}
use Rattle.psi_tables.proofs.SectionWritten.{written as section_written}
use Rattle.description_parts.specs.Described.{Described, DescribedProgram, DescribedStream}
use Rattle.description_parts.specs.Ranges.{IsInRange, IsProgram, IsStream, longest_section}
use Rattle.description_parts.specs.Tables.{table_kinds, table_kind, table_count, table_limit, section_lengths, kind_lengths, map_length, most_bytes, pmt_length, is_shared_with}
use Rattle.description_parts.proofs.RoomLengths.{room_most}
use Rattle.description.specs.SectionBytes.{network_entries, pat_entry, pmt_stream, is_of_program, pmt_streams, pmt_shared, pmt_tables, pmt_entries, pmt_says, kind_bytes}
use Rattle.description.specs.SectionBytes.{table_bytes}
use Rattle.description_parts.specs.declared.table_kind.TableKind.TheVariants.{Pmt}
use Rattle.description.proofs.LoopLengths.{stream_descriptors-length}
use Rattle.description.proofs.Pids.{at_place}
use Rattle.description.proofs.SectionBounds.{table_bytes_fit}
use Rattle.description.proofs.SectionCounts.{sections_law}
use Rattle.std.proofs.lemmas.Option.{slice_get_within}
use Rattle.pes_packet.specs.AccessUnits.{AccessUnit}
use Rattle.slot_plan.specs.TableRounds.{section_starts}
use Rattle.monitor.specs.ProgramMaps.{programs_in_section}
use Rattle.mux_core.specs.Scheduled.{Scheduled}
use Rattle.mux_core.specs.Headline.{Headline}
use Rattle.mux_core.specs.Decoder.{pieces_on, put_together}
use Rattle.laws_run.specs.FollowedTables.{section_in, map_by, map_in, programs_named, maps_on, IsFollowed, FollowedLaw}
use Rattle.laws_run.proofs.ListedTables.{tables_fit, both_fit}
use Rattle.laws_run.proofs.MapsNamed.{pat_read_before}
use Rattle.laws_run.proofs.MapsRecur.{map_table}
use Rattle.laws_run.proofs.PutSections.{fill_after}
use Rattle.laws_run.proofs.TwoStarts.{TwoStarts, two_starts, FindsSection, table_reported}

-- Elements of lists

cons_has : {X : Type 0} (x : X) (xs : List X) (y : X) → Contains xs y → Contains (x ∷ xs) y
cons_has x xs y (k, lt, e) = (suc k, omega (arith, lt), e)

back_has : {X : Type 0} (xs ys : List X) (y : X) → Contains ys y → Contains (xs ++ ys) y
back_has [] ys y c = c
back_has (x ∷ xs) ys y c = cons_has x (xs ++ ys) y (back_has xs ys y c)

get_front : {X : Type 0} (xs ys : List X) (k : ℕ) (y : X) → k < length xs → slice_index_or (xs ++ ys) k y ≡ slice_index_or xs k y
get_front [] ys k y lt = absurd (omega (arith, lt))
get_front (x ∷ xs) ys zero y lt = refl
get_front (x ∷ xs) ys (suc k) y lt = get_front xs ys k y (omega (arith, lt))

front_has : {X : Type 0} (xs ys : List X) (y : X) → Contains xs y → Contains (xs ++ ys) y
front_has xs ys y (k, lt, e) = (k, omega (arith, lt, length-append xs ys), get_front xs ys k y lt ∙ e)

map_has : {X Y : Type 0} (f : X → Y) (xs : List X) (i : ℕ) (x : X) → slice_get xs i ≡ Some x → Contains (map f xs) (f x)
map_has f [] i x is = absurd (let no : ⊥ = cc in no)
map_has f (z ∷ xs) zero x is = let same : z ≡ x = cc in (0, omega arith, ap f same)
map_has f (z ∷ xs) (suc i) x is = cons_has (f z) (map f xs) (f x) (map_has f xs i x is)

-- An element that f gives for the first list is among the elements that f gives for all lists.
first_has : {X : Type 0} (f : List ℕ → List X) (wholes : List (List ℕ)) (whole : List ℕ) (y : X) → slice_get wholes 0 ≡ Some whole → Contains (f whole) y →
    Contains (flat_map f wholes) y
first_has f [] whole y is c = absurd (let no : ⊥ = cc in no)
first_has {X} f (w ∷ ws) whole y is c =
    let same : w ≡ whole = cc in
    subst (λ (xs : List X). Contains xs y) (sym (flat_map-cons f w ws))
    (front_has (f w) (flat_map f ws) y (subst (λ (x : List ℕ). Contains (f x) y) (sym same) c))

-- Writable maps of programs

at_most : (b : Bool) (n : ℕ) → (if b then n else 0) ≤ n
at_most true n = omega arith
at_most false n = omega arith

stream_fits : (s : DescribedStream) → IsStream s → StreamFits (pmt_stream s)
stream_fits s i = record {
  stream_type = omega (arith, i.stream_type);
  elementary_pid = omega (arith, i.pid.high);
  info_length = omega (arith, stream_descriptors-length s i, i.descriptors.fits, at_most (is_some s.tag) 3, at_most (is_some s.language) 6);
}

kept_fit : (b : Bool) (s : DescribedStream) (ss : List DescribedStream) → IsStream s → StreamsFit (map pmt_stream ss) →
    StreamsFit (map pmt_stream (cond b (s ∷ ss) ss))
kept_fit true s ss is rest = (stream_fits s is, rest)
kept_fit false s ss is rest = rest

streams_fit : (p : DescribedStream → Bool) (ss : List DescribedStream) → All IsStream ss → StreamsFit (map pmt_stream (filter p ss))
streams_fit p [] h = tt
streams_fit p (s ∷ ss) h = kept_fit (p s) s (filter p ss) (All-head IsStream s ss h) (streams_fit p ss (All-tail IsStream s ss h))

fit_if : (b : Bool) (ss : List StreamView) → StreamsFit ss → StreamsFit (if b then ss else [])
fit_if true ss fit = fit
fit_if false ss fit = tt

map_size : (m : PmtView) → length (section_bytes (pmt_section m)) ≡ 12 + length (pmt_body m)
unfolding pmt_section pmt_header section_bytes with_crc header_bytes front_bytes start_bytes long_header_bytes check_word_bytes
map_size m =
    let start : List ℕ = start_bytes 2 true false (9 + length (pmt_body m)) in
    let front : List ℕ = start ++ long_header_bytes m.header in
    let whole : List ℕ = front ++ pmt_body m in
    omega (arith, length-append whole (check_word_bytes (check_word whole)), length-append front (pmt_body m), length-append start (long_header_bytes m.header))

pub map_bytes : (d : Described) (t i j moment : ℕ) (p : DescribedProgram) → table_kind d t ≡ Some (Pmt i) → slice_get d.programs i ≡ Some p →
    table_bytes d t j moment ≡ section_bytes (pmt_section (pmt_says d p))
map_bytes d t i j moment p kind is =
    let by_kind : table_bytes d t j moment ≡ kind_bytes d (Pmt i) j moment = rw kind refl in
    let by_program : kind_bytes d (Pmt i) j moment ≡ section_bytes (pmt_section (pmt_says d p)) = rw (is, kind_bytes) refl in
    by_kind ∙ by_program

pub map_fits : (d : Described) (t i : ℕ) (p : DescribedProgram) → IsInRange d → t < table_count d → table_kind d t ≡ Some (Pmt i) →
    slice_get d.programs i ≡ Some p → PmtFits (pmt_says d p)
map_fits d t i p r lt kind is =
    let program = at_place IsProgram d.programs i p r.programs is in
    let short : map_length d p ≤ longest_section =
    room_most most_bytes p.pmt_packets (pmt_length d p) longest_section
    (at_place (λ (x : DescribedProgram). pmt_length d x ≤ longest_section) d.programs i p r.pmt_lengths is) (omega arith) in
    let by_kind : section_lengths d t ≡ kind_lengths d (Pmt i) = rw kind refl in
    let by_program : kind_lengths d (Pmt i) ≡ map_length d p ∷ [] = ap (λ (o : Option DescribedProgram). map (map_length d) (option_to_list o)) is in
    let fit : length (table_bytes d t 0 0) ≤ get_or (section_lengths d t) 0 0 = table_bytes_fit d t 0 0 r (sections_law d t r lt).0 in
    let within : length (section_bytes (pmt_section (pmt_says d p))) ≤ map_length d p =
    subst (λ (ls : List ℕ). length (section_bytes (pmt_section (pmt_says d p))) ≤ get_or ls 0 0) (by_kind ∙ by_program)
    (subst (λ (x : List ℕ). length x ≤ get_or (section_lengths d t) 0 0) (map_bytes d t i 0 0 p kind is) fit) in
    record {
      header = record {
        table_id_extension = omega (arith, program.most_number);
        version_number = omega (arith, program.pmt_version);
        section_number =
            omega arith;
        last_section_number = omega arith;
      };
      pcr_pid = omega (arith, program.pcr_pid.high);
      streams = fit_if p.is_on_air (pmt_entries d p.number)
          (both_fit (pmt_streams p.number d.streams ++ pmt_shared p.number d.streams) (pmt_tables p.number d.tables)
          (both_fit (pmt_streams p.number d.streams) (pmt_shared p.number d.streams) (streams_fit (is_of_program p.number) d.streams r.streams)
          (streams_fit (is_shared_with p.number) d.streams r.streams))
          (tables_fit p.number d.tables r.tables));
      room = omega (arith, map_size (pmt_says d p), within, short);
    }

-- A reader of the map section gets the same map, whatever bytes follow the section.
abbrev GivesMap : Described → DescribedProgram → List ℕ → Type 0
GivesMap d p section = (fill : List ℕ) → map_in (section_at (section ++ fill)) ≡ pmt_says d p ∷ []

map_read : (d : Described) (p : DescribedProgram) → PmtFits (pmt_says d p) → GivesMap d p (section_bytes (pmt_section (pmt_says d p)))
unfolding map_in map_by
map_read d p fits fill =
    let again = written (pmt_says d p) fits in
    let read : section_at (section_bytes (pmt_section (pmt_says d p)) ++ fill) ≡ Ok
    (pmt_section (pmt_says d p), length (section_bytes (pmt_section (pmt_says d p)))) =
    (section_written (pmt_section (pmt_says d p)) again.writable).read fill in
    ap map_in read ∙ ap map_by again.read

abbrev GivesPrograms : Described → List ℕ → Type 0
GivesPrograms d section = (fill : List ℕ) → programs_in_section (section_at (section ++ fill)) ≡ network_entries d ++ map pat_entry d.programs

-- The programs and streams that a decoder learns

program_there : (d : Described) (i : ℕ) (p : DescribedProgram) (bytes : List ℕ) → slice_get d.programs i ≡ Some p → FindsSection (GivesPrograms d) 0 bytes →
    Contains (programs_named bytes) (pat_entry p)
unfolding section_in
program_there d i p bytes is reported =
    first_has (λ whole. programs_in_section (section_in whole)) (put_together (pieces_on 0 bytes)) (0 ∷ (reported.section ++ fill_after reported.section))
    (pat_entry p)
    reported.whole
    (subst (λ (xs : List Program). Contains xs (pat_entry p)) (sym (reported.is (fill_after reported.section)))
    (back_has (network_entries d) (map pat_entry d.programs) (pat_entry p) (map_has pat_entry d.programs i p is)))

map_there : (d : Described) (p : DescribedProgram) (bytes : List ℕ) → FindsSection (GivesMap d p) p.pmt_pid bytes →
    Contains (maps_on p.pmt_pid bytes) (pmt_says d p)
unfolding section_in
map_there d p bytes reported =
    first_has (λ whole. map_in (section_in whole)) (put_together (pieces_on p.pmt_pid bytes)) (0 ∷ (reported.section ++ fill_after reported.section))
    (pmt_says d p)
    reported.whole
    (subst (λ (xs : List PmtView). Contains xs (pmt_says d p)) (sym (reported.is (fill_after reported.section))) (0, omega arith, refl))

-- The law holds for a run, if each table with a limit of 500 ms begins twice.
pub followed_by : (d : Scheduled) (units : ℕ → List AccessUnit) (slots : ℕ) (bytes : List ℕ) → IsInRange d.description → Headline d units slots bytes →
    ((t : ℕ) → t < table_count d.description → table_limit d.description t ≡ 500 → TwoStarts (section_starts d.description d.schedule t 0) slots) →
    IsFollowed d.description bytes
followed_by d units slots bytes r h twice = record {
  programs = λ i p is.
      let there : 0 < table_count d.description = omega arith in
      program_there d.description i p bytes is
      (table_reported (GivesPrograms d.description) d 0 slots bytes r there (sections_law d.description 0 r there).0 (h.tables 0 there) (twice 0 there refl)
      (λ j moment within fill. pat_read_before d.description fill r));
  maps = λ i p is.
      let t = map_table d.description i p is in
      let there : i + 1 < table_count d.description = slice_get_within (table_kinds d.description) (i + 1) (Pmt i) t.kind in
      let limit : table_limit d.description (i + 1) ≡ 500 = let kind = t.kind in rw (kind, table_limit) refl in
      let fits = map_fits d.description (i + 1) i p r there t.kind is in
      map_there d.description p bytes
      (subst (λ (pid : ℕ). FindsSection (GivesMap d.description p) pid bytes) t.same
      (table_reported (GivesMap d.description p) d (i + 1) slots bytes r there (sections_law d.description (i + 1) r there).0 (h.tables (i + 1) there)
      (twice (i + 1) there limit)
      (λ j moment within. subst (GivesMap d.description p) (sym (map_bytes d.description (i + 1) i j moment p t.kind is)) (map_read d.description p fits))));
}

pub followed : FollowedLaw
followed d units slots bytes r h long =
    followed_by d units slots bytes r h
    (λ t lt limit. two_starts (section_starts d.description d.schedule t 0) d.description.rate (table_limit d.description t) slots long limit
    ((h.tables t lt).sections_recur 0 (sections_law d.description t r lt).0))
