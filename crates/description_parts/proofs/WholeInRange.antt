-- If a document is not refused, every part of its description is in range.
use Rattle.std.proofs.Common.{◌≡◌, ℕ, suc, zero, ◌+◌, ◌-◌, ◌≤◌, ◌||◌, ◌&&◌, not, nat_lt, Bool, true, false, List, [], ◌∷◌, ◌++◌, map, get_or, slice_get}
use Rattle.std.proofs.Common.{Option, None, Some, unwrap_or, option_map, refl, ap, sym, ◌∙◌, arith, if◌then◌else◌, All, Contains, codes, is_some, IsTrue}
use Rattle.std.proofs.Common.{is_none, pos}
use Rattle.std.proofs.lemmas.Bool.{or_parts, ltb-false}
use Rattle.std.proofs.lemmas.List.Elements.{All-nil, All-cons, All-map}
use Rattle.std.proofs.lemmas.List.Folds.{list_any-append}
use Rattle.std.proofs.lemmas.Option.{slice_get-get_or}
use Rattle.std.specs.List.{list_any}
use Rattle.std.specs.Option.{option_to_list, option_or}
use Rattle.toml.specs.Data.{Data, get}
use Rattle.description_parts.specs.Described.{Described, DescribedNetwork}
use Rattle.description_parts.specs.Ranges.{IsInRange, IsNetwork, IsProgram, IsStream, IsTable, IsListed, IsSharing, named_pids, program_numbers}
use Rattle.description_parts.specs.Ranges.{longest_section}
use Rattle.description_parts.specs.Tables.{only_if, has_events_table, kind_lengths, service_tables, table_kinds, pmt_length, map_length, nit_lengths, nit_parts, network_lengths}
use Rattle.description_parts.specs.Tables.{most_bytes, numbers_from, room_length}
use Rattle.description_values.specs.Values.{integer_in, is_distinct}
use Rattle.description_keys.specs.ProgramKeys.{clock_pid_in, program_pcr_pid, refuses_pcr_pid}
use Rattle.description_keys.specs.StreamKeys.{owner_number, has_owner, has_sharers, stream_sharers}
use Rattle.description_parts.specs.Contents.{described, described_network, described_program, described_stream, described_entry, described_table}
use Rattle.description_keys.specs.TableKeys.{is_listed}
use Rattle.description_keys.specs.TopKeys.{clock_pid_of, has_own_clock, limit_in}
use Rattle.description_parts.specs.Consistency.{is_too_long, first_place, equal_pids_fault, equal_numbers_fault, event_order_fault, too_long_fault, joint_fault}
use Rattle.description_keys.specs.Refusals.{key_fault, programs_of, streams_of, tables_of, network_of}
use Rattle.description_keys.specs.declared.fault.DescFault.{DescFault}
use Rattle.description_keys.specs.declared.fault.DescFault.TheVariants.{EqualPids, EqualNumbers, TooLong}
use Rattle.description_parts.specs.declared.table_kind.TableKind.{TableKind}
use Rattle.description_parts.specs.declared.table_kind.TableKind.TheVariants.{Pat, Pmt, Nit, Sdt, Eit, Tdt, Private}
use Rattle.description_parts.proofs.KeyRanges.{integer_at-within, integer_or-within, moment_at-within}
use Rattle.description_parts.proofs.Counts.{NoFault, no_fault, or_none, map_none, not_false, has_counts}
use Rattle.description_parts.proofs.Counts.{table_sections, elements-length, limit_most}
use Rattle.description_parts.proofs.PartsInRange.{network_is, program_is, stream_is, table_is}
use Rattle.description_parts.proofs.Declared.{owner_declared}
use Rattle.description_parts.proofs.NamedSharers.{AreSharers, sharers_are}
use Rattle.description_parts.proofs.Distinct.{IsDistinct-is, most_events}
use Rattle.description_parts.proofs.TableNumbers.{table_kind-pmt}
use Rattle.description_parts.proofs.RoomLengths.{room_least, rooms_are}
use Rattle.description_parts.proofs.VersionRanges.{version_at-is}
use Rattle.description_keys.specs.declared.version_keys.NamedTable.TheVariants as table

-- The parts together cause no refusal.
pub record NoJointFault (d : Described) : Type 0 where
  pub pids : is_distinct (named_pids d) ≡ true
  pub numbers : is_distinct (program_numbers d) ≡ true
  pub lengths : list_any (is_too_long d) (table_kinds d) ≡ false

within_trans : {a b c : ℕ} → a ≤ b → b ≤ c → a ≤ c
within_trans h k = omega arith

not_some : {X : Type 0} (b : Bool) (x : X) → (if b then None else Some x) ≡ None → b ≡ true
not_some true x h = refl
not_some false x h = absurd (cc)

this_or_none : (b rest : Bool) (n : ℕ) (o : Option ℕ) → (o ≡ None → rest ≡ false) → (if b then Some n else o) ≡ None → (b || rest) ≡ false
this_or_none true rest n o later h = absurd (cc)
this_or_none false rest n o later h = later h

no_place : {X : Type 0} (p : X → Bool) (n : ℕ) (xs : List X) → first_place p n xs ≡ None → list_any p xs ≡ false
no_place p n [] h = refl
no_place p n (x ∷ xs) h = this_or_none (p x) (list_any p xs) n (first_place p (n + 1) xs) (no_place p (n + 1) xs) h

no_joint_fault : (d : Described) (document : Data) → joint_fault d document ≡ None → NoJointFault d
no_joint_fault d document h =
    let numbers : Option DescFault = option_or (equal_pids_fault d) (equal_numbers_fault d) in
    let order : Option DescFault = option_or numbers (event_order_fault document) in
    let three = or_none order (too_long_fault d) h in
    let two = or_none numbers (event_order_fault document) three.0 in
    let one = or_none (equal_pids_fault d) (equal_numbers_fault d) two.0 in
    record {
      pids = not_some (is_distinct (named_pids d)) EqualPids one.0;
      numbers = not_some (is_distinct (program_numbers d)) EqualNumbers one.1;
      lengths = no_place (is_too_long d) 0 (table_kinds d) (map_none TooLong (first_place (is_too_long d) 0 (table_kinds d)) three.1);
    }

-- No PMT is too long.
none_at : {X : Type 0} (p : X → Bool) (xs : List X) (i : ℕ) (x : X) → list_any p xs ≡ false → slice_get xs i ≡ Some x → p x ≡ false
none_at p [] i x h is = absurd (cc)
none_at p (y ∷ ys) zero x h is = let same : y ≡ x = cc in rw (← same) (or_parts (p y) (list_any p ys) h).0
none_at p (y ∷ ys) (suc i) x h is = none_at p ys i x (or_parts (p y) (list_any p ys) h).1 is

one_length : {X : Type 0} (f : X → ℕ) (o : Option X) (x : X) → o ≡ Some x → list_any (nat_lt longest_section) (map f (option_to_list o)) ≡ false →
    f x ≤ longest_section
one_length f None x is h = absurd (cc)
one_length f (Some y) x is h =
    let same : y ≡ x = cc in
    rw (← same) (ltb-false longest_section (f y) (or_parts (nat_lt longest_section (f y)) false h).0)

pmt_fits : (d : Described) → list_any (is_too_long d) (table_kinds d) ≡ false → All (λ p. pmt_length d p ≤ longest_section) d.programs
pmt_fits d h = λ k other within.
    let is : suc k - 1 ≡ k = omega arith in
    let at : slice_get (table_kinds d) (suc k) ≡ Some (Pmt k) = sym (table_kind-pmt d (suc k) (omega arith) (omega arith)) ∙ ap (λ (i : ℕ). Some (Pmt i)) is in
    let p = get_or d.programs k other in
    within_trans (room_least most_bytes p.pmt_packets (pmt_length d p))
    (one_length (map_length d) (slice_get d.programs k) p (slice_get-get_or d.programs k other within)
    (none_at (is_too_long d) (table_kinds d) (suc k) (Pmt k) h at))

-- Neither the NIT nor the SDT is too long.
only_none : {X : Type 0} (p : X → Bool) (b : Bool) (x : X) → list_any p (only_if b x) ≡ false → b ≡ true → p x ≡ false
only_none p true x h is = (or_parts (p x) false h).0
only_none p false x h is = absurd (cc)

texts_fit : (packets : ℕ) (ls : List ℕ) → list_any (nat_lt longest_section) (map (room_length most_bytes packets) ls) ≡ false
    → All (λ l. l ≤ longest_section) ls
texts_fit packets [] h = All-nil (λ l. l ≤ longest_section)
texts_fit packets (l ∷ ls) h =
    let room = room_length most_bytes packets l in
    let both = or_parts (nat_lt longest_section room) (list_any (nat_lt longest_section) (map (room_length most_bytes packets) ls)) h in
    All-cons (λ m. m ≤ longest_section) l ls (within_trans (room_least most_bytes packets l) (ltb-false longest_section room both.0))
    (texts_fit packets ls both.1)

abbrev NetworkFits : Described → DescribedNetwork → Type 0
NetworkFits d n = All (λ l. l ≤ longest_section) (nit_lengths n 0 (nit_parts d n))

network_fits : (d : Described) (o : Option DescribedNetwork)
    → (is_some o ≡ true → list_any (nat_lt longest_section) (elim o [ None ↦ [] | Some n ↦ network_lengths d n ]) ≡ false)
    → All (NetworkFits d) (option_to_list o)
network_fits d None h = All-nil (NetworkFits d)
network_fits d (Some n) h =
    All-cons (NetworkFits d) n [] (texts_fit d.rooms.nit (nit_lengths n 0 (nit_parts d n)) (h refl)) (All-nil (NetworkFits d))

all_short : (ls : List ℕ) → list_any (nat_lt longest_section) ls ≡ false → All (λ l. l ≤ longest_section) ls
all_short [] h = All-nil (λ l. l ≤ longest_section)
all_short (l ∷ ls) h =
    let both = or_parts (nat_lt longest_section l) (list_any (nat_lt longest_section) ls) h in
    All-cons (λ m. m ≤ longest_section) l ls (ltb-false longest_section l both.0) (all_short ls both.1)

record ServicesFit (d : Described) : Type 0 where
  nit : All (NetworkFits d) (option_to_list d.network)
  sdt : IsTrue d.has_sdt → All (λ l. l ≤ longest_section) (kind_lengths d Sdt)

services_fit : (d : Described) → list_any (is_too_long d) (table_kinds d) ≡ false → ServicesFit d
services_fit d h =
    let p : TableKind → Bool = is_too_long d in
    let first : List TableKind = Pat ∷ map Pmt (numbers_from 0 d.programs) in
    let last : List TableKind = map Private (numbers_from 0 d.tables) in
    let whole = or_parts (list_any p first) (list_any p (service_tables d ++ last)) (sym (list_any-append p first (service_tables d ++ last)) ∙ h) in
    let services = or_parts (list_any p (service_tables d)) (list_any p last) (sym (list_any-append p (service_tables d) last) ∙ whole.1) in
    let nit : List TableKind = only_if (is_some d.network) Nit in
    let sdt : List TableKind = only_if d.has_sdt Sdt in
    let eit : List TableKind = only_if (has_events_table d) Eit in
    let tdt : List TableKind = only_if d.has_tdt Tdt in
    let three = or_parts (list_any p ((nit ++ sdt) ++ eit)) (list_any p tdt) (sym (list_any-append p ((nit ++ sdt) ++ eit) tdt) ∙ services.0) in
    let two = or_parts (list_any p (nit ++ sdt)) (list_any p eit) (sym (list_any-append p (nit ++ sdt) eit) ∙ three.0) in
    let one = or_parts (list_any p nit) (list_any p sdt) (sym (list_any-append p nit sdt) ∙ two.0) in
    record {
      nit = network_fits d d.network (only_none p (is_some d.network) Nit one.0);
      sdt = λ is. all_short (kind_lengths d Sdt) (only_none p d.has_sdt Sdt one.1 is);
    }

-- The program of each stream is declared, and so are the programs that share the stream.
owners_there : (d : Data) → NoFault d → All (λ part. has_owner d part ≡ true) (streams_of d)
owners_there d none = λ k other within. not_false (has_owner d (get_or (streams_of d) k other)) (none.stream.0 k other within)

streams_declared : (d : Data) → NoFault d → All (λ part. Contains (program_numbers (described d)) (unwrap_or (owner_number part) 1)) (streams_of d)
streams_declared d none = λ k other within. owner_declared d (owner_number (get_or (streams_of d) k other)) (owners_there d none k other within)

sharing_of : (document part : Data) → AreSharers document part (stream_sharers part) → IsSharing (described document) (described_stream part)
sharing_of document part are = record { declared = are.declared; others = are.others; once = are.once }

streams_shared : (d : Data) → NoFault d → All (λ part. IsSharing (described d) (described_stream part)) (streams_of d)
streams_shared d none = λ k other within.
    let part = get_or (streams_of d) k other in
    let there : has_sharers d part ≡ true = not_false (has_sharers d part) (none.stream.1.1.1.1.1.1.1.1.1.1.1.1.1.1.1.1.0 k other within) in
    sharing_of d part (sharers_are d part (owners_there d none k other within) there)

-- The program of each table's entry is declared.
listed_declared : (document part : Data) (b : Bool) → (b && not (has_owner document part)) ≡ false
    → All (λ e. Contains (program_numbers (described document)) e.program) (option_to_list (if b then Some (described_entry part) else None))
listed_declared document part false h = All-nil (λ e. Contains (program_numbers (described document)) e.program)
listed_declared document part true h =
    All-cons (λ e. Contains (program_numbers (described document)) e.program) (described_entry part) []
    (owner_declared document (owner_number part) (not_false (has_owner document part) h))
    (All-nil (λ e. Contains (program_numbers (described document)) e.program))

tables_declared : (d : Data) → NoFault d → All (λ part. IsListed (described d) (described_table part)) (tables_of d)
tables_declared d none =
    λ k other within. listed_declared d (get_or (tables_of d) k other) (is_listed (get_or (tables_of d) k other))
    (none.table.1.1.1.0 k other within)

-- A program without clock references of its own has the shared ones.
no_own : (o : Option Data) (read : Data → Option ℕ) → is_some o ≡ false → (elim o as (λ _. Option ℕ) [ None ↦ None | Some value ↦ read value ]) ≡ None
no_own None read h = refl
no_own (Some value) read h = absurd (cc)

shared_pid : (own clock : Option ℕ) (b : Bool) → own ≡ None → b ≡ false → (is_none own && (b || is_none clock)) ≡ false
    → clock ≡ Some (unwrap_or (option_or own clock) 32)
shared_pid (Some n) clock b o f h = absurd (cc)
shared_pid None clock true o f h = absurd (cc)
shared_pid None None false o f h = absurd (cc)
shared_pid None (Some n) false o f h = refl

clock_shared : (document part : Data) → refuses_pcr_pid document part ≡ false → has_own_clock part ≡ false
    → clock_pid_of document ≡ Some (clock_pid_in document part)
clock_shared document part accepted other =
    shared_pid (program_pcr_pid part) (clock_pid_of document) (has_own_clock part)
    (no_own (get (codes "pcr_pid") part) (integer_in (pos 32) (pos 8190)) other) other accepted

clocks_shared : (d : Data) → NoFault d → All (λ part. has_own_clock part ≡ false → clock_pid_of d ≡ Some (clock_pid_in d part)) (programs_of d)
clocks_shared d none = λ k other within. clock_shared d (get_or (programs_of d) k other) (none.program.1.1.0 k other within)

network_in_range : (document : Data) (o : Option Data) → All IsNetwork (option_to_list (option_map (described_network document) o))
network_in_range document None = All-nil IsNetwork
network_in_range document (Some n) = All-cons IsNetwork (described_network document n) [] (network_is document n) (All-nil IsNetwork)

-- A document that is not refused describes values in range.
pub described-in_range : (document : Data) → key_fault document ≡ None → joint_fault (described document) document ≡ None → IsInRange (described document)
described-in_range document keys joint =
    let none = no_fault document keys in
    let parts = no_joint_fault (described document) document joint in
    let counts = has_counts document none in
    let rate = integer_at-within (codes "rate") 100000 100000000 100000 document (omega arith) (omega arith) in
    let base0 = (integer_or-within (codes "base0") 0 8589934591 0 0 document (omega arith) (omega arith) (omega arith) (omega arith)).most in
    let numbers = IsDistinct-is (program_numbers (described document)) parts.numbers in
    let events = within_trans (elements-length true (codes "event") 0 (limit_in document 256 1024) document (λ e. refl) none.events).most
    (limit_most document 256 1024 (omega arith)) in
    let few = most_events document (programs_of document) numbers in
    let services = services_fit (described document) parts.lengths in
    record {
      least_rate = rate.least;
      most_rate = rate.most;
      start = (moment_at-within (codes "start") document).most;
      base0 = omega (arith, base0);
      transport_stream_id = (integer_at-within (codes "ts_id") 0 65535 0 document (omega arith) (omega arith)).most;
      original_network_id = (integer_at-within (codes "original_network_id") 0 65535 0 document (omega arith) (omega arith)).most;
      rooms = rooms_are document;
      versions = record { pat = version_at-is table.Pat 0 document; sdt = version_at-is table.Sdt 0 document; nit = version_at-is table.Nit 0 document };
      network = network_in_range document (network_of document);
      some_programs = counts.some_programs;
      most_programs = counts.most_programs;
      programs = All-map IsProgram (described_program document) (programs_of document)
          (λ k other within. program_is document (get_or (programs_of document) k other));
      clocks = All-map (λ p. p.has_clock ≡ false → clock_pid_of document ≡ Some p.pcr_pid) (described_program document) (programs_of document)
          (clocks_shared document none);
      most_events = within_trans few events;
      most_streams = counts.most_streams;
      streams = All-map IsStream described_stream (streams_of document) (λ k other within. stream_is (get_or (streams_of document) k other));
      declared = All-map (λ s. Contains (program_numbers (described document)) s.program) described_stream (streams_of document)
          (streams_declared document none);
      sharing = All-map (IsSharing (described document)) described_stream (streams_of document) (streams_shared document none);
      most_tables = counts.most_tables;
      tables = All-map IsTable described_table (tables_of document)
          (λ k other within. table_is (get_or (tables_of document) k other) (table_sections document none k other within));
      listed = All-map (IsListed (described document)) described_table (tables_of document) (tables_declared document none);
      distinct_pids = IsDistinct-is (named_pids (described document)) parts.pids;
      distinct_numbers = numbers;
      pmt_lengths = pmt_fits (described document) parts.lengths;
      nit_lengths = services.nit;
      sdt_lengths = services.sdt;
    }
