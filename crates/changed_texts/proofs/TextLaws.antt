-- A description without a fault has only other texts than the frame.
use Rattle.std.proofs.Common.{◌≡◌, ℕ, zero, suc, ◌+◌, ◌≤◌, ◌==◌, ◌&&◌, not, nat_le, Bool, true, false, List, [], ◌∷◌, ◌++◌, length, map, Option, None, Some}
use Rattle.std.proofs.Common.{is_some, is_none, option_map, slice_get, slice_index_or, refl, ap, ap₂, sym, subst, ◌∙◌, arith, if◌then◌else◌, ⊎_elim}
use Rattle.std.proofs.lemmas.Bool.{and_parts, eqb-true, leb-true, cases_lt}
use Rattle.std.proofs.lemmas.Option.{slice_get_past}
use Rattle.std.specs.List.{list_all, zip}
use Rattle.std.specs.Option.{option_or}
use Rattle.description_parts.specs.Described.{Described, DescribedNetwork}
use Rattle.description_parts.specs.Tables.{numbers_from, only_if, has_events_table, service_tables, table_kinds, table_kind, table_count}
use Rattle.description_parts.specs.Tables.{kind_pid, kind_limit, kind_lengths, section_lengths}
use Rattle.description_parts.specs.Tables.{packets_of_section}
use Rattle.description_parts.specs.declared.table_kind.TableKind.{TableKind}
use Rattle.description_parts.specs.declared.table_kind.TableKind.TheVariants.{Pat, Pmt, Nit, Sdt, Eit, Tdt, Private}
use Rattle.changed_texts.specs.Fixed.{fixed_program, fixed_stream, fixed_table, is_same_option, is_same_program, is_same_stream, is_same_table}
use Rattle.changed_texts.specs.TextFaults.{IsTextOf, TextLaw, frame_fault, whole_fault, program_fault, stream_fault, tables_fault}
use Rattle.changed_texts.specs.TextFaults.{shape_fault, version_fault, keeps_shape, has_place, has_same_tables, has_same_services}
use Rattle.changed_texts.specs.declared.fault.TextFault.TheVariants as fault
use Rattle.changed_texts.proofs.Differences.{no_difference, none_passes}
use Rattle.changed_texts.proofs.Sameness.{program_alike, stream_alike, table_alike, same_bool, same_option}

-- No fault of two
no_fault : {X : Type 0} (a b : Option X) → option_or a b ≡ None → (a ≡ None) × (b ≡ None)
no_fault None b h = (refl, h)
no_fault (Some x) b h = absurd (cc)

nothing : {X Y : Type 0} (f : X → Y) (o : Option X) → option_map f o ≡ None → o ≡ None
nothing f None h = refl
nothing f (Some x) h = absurd (cc)

no_if : {X : Type 0} (b : Bool) (x : X) (rest : Option X) → (if not b then Some x else rest) ≡ None → (b ≡ true) × (rest ≡ None)
no_if true x rest h = (refl, h)
no_if false x rest h = absurd (cc)

else_none : {X : Type 0} (b : Bool) (x : X) → (if b then None else Some x) ≡ None → b ≡ true
else_none true x h = refl
else_none false x h = absurd (cc)

-- The rate, the clock and the names
record IsSameWhole (frame e : Described) : Type 0 where
  rate : frame.rate ≡ e.rate
  clock : (frame.base0 == e.base0) ≡ true
  names : (frame.transport_stream_id == e.transport_stream_id && frame.original_network_id == e.original_network_id) ≡ true

same_whole : (frame e : Described) → whole_fault frame e ≡ None → IsSameWhole frame e
same_whole frame e h =
    let rates = no_if _ _ _ h in
    let clock = no_if _ _ _ rates.1 in
    let names = no_if _ _ _ clock.1 in
    record { rate = eqb-true _ _ rates.0; clock = clock.0; names = names.0 }

-- The kinds of the tables
numbers_map : {X Y : Type 0} (f : X → Y) (n : ℕ) (xs : List X) → numbers_from n (map f xs) ≡ numbers_from n xs
numbers_map f n [] = refl
numbers_map f n (x ∷ xs) = ap (λ ns. n ∷ ns) (numbers_map f (n + 1) xs)

same_numbers : {X Y : Type 0} (f : X → Y) (xs ys : List X) → map f xs ≡ map f ys → numbers_from 0 xs ≡ numbers_from 0 ys
same_numbers f xs ys h = sym (numbers_map f 0 xs) ∙ ap (numbers_from 0) h ∙ numbers_map f 0 ys

same_presence : (m n : Option DescribedNetwork)
    → is_same_option (λ a b. a == b) (option_map (λ (x : DescribedNetwork). x.id) m) (option_map (λ (x : DescribedNetwork). x.id) n) ≡ true
    → is_some m ≡ is_some n
same_presence None None h = refl
same_presence None (Some y) h = absurd (cc)
same_presence (Some x) None h = absurd (cc)
same_presence (Some x) (Some y) h = refl

abbrev services_of : (n s v t : Bool) → List TableKind
services_of n s v t = only_if n Nit ++ only_if s Sdt ++ only_if v Eit ++ only_if t Tdt

same_services : (frame e : Described) → has_same_services frame e ≡ true → service_tables e ≡ service_tables frame
same_services frame e h =
    let front = and_parts _ _ h in
    let events = and_parts _ _ front.0 in
    let parts = and_parts _ _ events.0 in
    let network = same_presence frame.network e.network parts.0 in
    let sdt = same_bool _ _ parts.1 in
    let eit = same_bool _ _ events.1 in
    let tdt = same_bool _ _ front.1 in
    ap (λ b. services_of b e.has_sdt (has_events_table e) e.has_tdt) (sym network)
    ∙ ap (λ b. services_of (is_some frame.network) b (has_events_table e) e.has_tdt) (sym sdt)
    ∙ ap (λ b. services_of (is_some frame.network) frame.has_sdt b e.has_tdt) (sym eit)
    ∙ ap (services_of (is_some frame.network) frame.has_sdt (has_events_table frame)) (sym tdt)

same_kinds : (frame e : Described) → map fixed_program e.programs ≡ map fixed_program frame.programs → map fixed_table e.tables ≡ map fixed_table frame.tables
    → has_same_services frame e ≡ true → table_kinds e ≡ table_kinds frame
same_kinds frame e programs tables h =
    ap₂ (λ (xs ys : List TableKind). (Pat ∷ xs) ++ ys) (ap (map Pmt) (same_numbers fixed_program e.programs frame.programs programs))
    (ap₂ (λ (xs ys : List TableKind). xs ++ ys) (same_services frame e h) (ap (map Private) (same_numbers fixed_table e.tables frame.tables tables)))

-- Their PIDs and limits
at_place : {X Y : Type 0} (f : X → Y) (g : Y → ℕ) (xs : List X) (i : ℕ)
    → (elim (slice_get xs i) as (λ _. ℕ) [ None ↦ 0 | Some x ↦ g (f x) ]) ≡ (elim (slice_get (map f xs) i) as (λ _. ℕ) [ None ↦ 0 | Some y ↦ g y ])
at_place f g [] i = refl
at_place f g (x ∷ xs) zero = refl
at_place f g (x ∷ xs) (suc i) = at_place f g xs i

same_at : {X Y : Type 0} (f : X → Y) (g : Y → ℕ) (xs ys : List X) (i : ℕ) → map f xs ≡ map f ys
    → (elim (slice_get xs i) as (λ _. ℕ) [ None ↦ 0 | Some x ↦ g (f x) ]) ≡ (elim (slice_get ys i) as (λ _. ℕ) [ None ↦ 0 | Some y ↦ g (f y) ])
same_at {X} {Y} f g xs ys i h =
    at_place f g xs i ∙ ap (λ (zs : List Y). elim (slice_get zs i) as (λ _. ℕ) [ None ↦ 0 | Some y ↦ g y ]) h ∙ sym (at_place f g ys i)

same_pid : (frame e : Described) → map fixed_program e.programs ≡ map fixed_program frame.programs → map fixed_table e.tables ≡ map fixed_table frame.tables
    → (k : TableKind) → kind_pid e k ≡ kind_pid frame k
same_pid frame e programs tables Pat = refl
same_pid frame e programs tables (Pmt p) = same_at fixed_program (λ q. q.pmt_pid) e.programs frame.programs p programs
same_pid frame e programs tables Nit = refl
same_pid frame e programs tables Sdt = refl
same_pid frame e programs tables Eit = refl
same_pid frame e programs tables Tdt = refl
same_pid frame e programs tables (Private i) = same_at fixed_table (λ t. t.pid) e.tables frame.tables i tables

same_limit : (frame e : Described) → map fixed_table e.tables ≡ map fixed_table frame.tables → (k : TableKind) → kind_limit e k ≡ kind_limit frame k
same_limit frame e tables Pat = refl
same_limit frame e tables (Pmt p) = refl
same_limit frame e tables Nit = refl
same_limit frame e tables Sdt = refl
same_limit frame e tables Eit = refl
same_limit frame e tables Tdt = refl
same_limit frame e tables (Private i) = same_at fixed_table (λ t. t.limit) e.tables frame.tables i tables

same_number : (f g : TableKind → ℕ) → ((k : TableKind) → f k ≡ g k) → (o p : Option TableKind) → o ≡ p
    → (elim o as (λ _. ℕ) [ None ↦ 0 | Some k ↦ f k ]) ≡ (elim p as (λ _. ℕ) [ None ↦ 0 | Some k ↦ g k ])
same_number f g law None p h = ap (λ (q : Option TableKind). elim q as (λ _. ℕ) [ None ↦ 0 | Some k ↦ g k ]) h
same_number f g law (Some j) p h = law j ∙ ap (λ (q : Option TableKind). elim q as (λ _. ℕ) [ None ↦ 0 | Some k ↦ g k ]) h

-- The sections of each table
record HasPlaces (places lengths : List ℕ) : Type 0 where
  count : length lengths ≡ length places
  each : (j : ℕ) → packets_of_section (slice_index_or lengths j 0) ≤ packets_of_section (slice_index_or places j 0)

no_longer : (places lengths : List ℕ) → length places ≡ length lengths
    → list_all (λ p. nat_le (packets_of_section p.1) (packets_of_section p.0)) (zip places lengths) ≡ true
    → (j : ℕ) → packets_of_section (slice_index_or lengths j 0) ≤ packets_of_section (slice_index_or places j 0)
no_longer [] [] n h j = omega arith
no_longer [] (l ∷ ls) n h j = absurd (omega (arith, n))
no_longer (p ∷ ps) [] n h j = absurd (omega (arith, n))
no_longer (p ∷ ps) (l ∷ ls) n h zero = leb-true (packets_of_section l) (packets_of_section p) (and_parts _ _ h).0
no_longer (p ∷ ps) (l ∷ ls) n h (suc j) = no_longer ps ls (omega (arith, n)) (and_parts _ _ h).1 j

has_places : (places lengths : List ℕ) → has_place places lengths ≡ true → HasPlaces places lengths
has_places places lengths h =
    let parts = and_parts _ _ h in
    let same = eqb-true (length places) (length lengths) parts.0 in
    record { count = sym same; each = no_longer places lengths same parts.1 }

no_sections : (d : Described) (o : Option TableKind) → o ≡ None → (elim o as (λ _. List ℕ) [ None ↦ [] | Some k ↦ kind_lengths d k ]) ≡ []
no_sections d None h = refl
no_sections d (Some k) h = absurd (cc)

not_false : (b : Bool) → not b ≡ false → b ≡ true
not_false true h = refl
not_false false h = absurd (cc)

shape_at : (frame e : Described) → table_kinds e ≡ table_kinds frame → shape_fault frame e ≡ None → (t : ℕ)
    → HasPlaces (section_lengths frame t) (section_lengths e t)
shape_at frame e kinds h t =
    ⊎_elim (λ l. has_places (section_lengths frame t) (section_lengths e t)
    (not_false (keeps_shape frame e t) (none_passes (λ u. not (keeps_shape frame e u)) (table_count frame) t (nothing _ _ h) l)))
    (λ past. let here = no_sections frame (table_kind frame t) (slice_get_past (table_kinds frame) t past) in
    let there = no_sections e (table_kind e t) (ap (λ ks. slice_get ks t) kinds ∙ slice_get_past (table_kinds frame) t past) in
    subst (λ places. HasPlaces places (section_lengths e t)) (sym here)
    (subst (λ lengths. HasPlaces [] lengths) (sym there) (record { count = refl; each = λ j. omega arith })))
    (cases_lt t (table_count frame))

-- All of it
parts_alike : (frame e : Described) → IsSameWhole frame e → map fixed_program e.programs ≡ map fixed_program frame.programs
    → map fixed_stream e.streams ≡ map fixed_stream frame.streams → map fixed_table e.tables ≡ map fixed_table frame.tables
    → has_same_tables frame e ≡ true → shape_fault frame e ≡ None → IsTextOf frame e
parts_alike frame e whole programs streams tables h shape =
    let names = and_parts _ _ whole.names in
    let front = and_parts _ _ h in
    let shared = and_parts _ _ front.0 in
    let flags = and_parts _ _ shared.0 in
    let kinds = same_kinds frame e programs tables flags.0 in
    record {
      rate = sym whole.rate;
      base0 = sym (eqb-true _ _ whole.clock);
      transport_stream_id = sym (eqb-true _ _ names.0);
      original_network_id = sym (eqb-true _ _ names.1);
      is_transponder = sym (same_bool _ _ flags.1);
      clock_pid = sym (same_option (λ a b. a == b) eqb-true _ _ shared.1);
      programs = programs;
      streams = streams;
      tables = tables;
      kinds = kinds;
      pids =
          λ t. same_number (kind_pid e) (kind_pid frame) (same_pid frame e programs tables) (table_kind e t) (table_kind frame t)
          (ap (λ ks. slice_get ks t) kinds);
      limits =
          λ t. same_number (kind_limit e) (kind_limit frame) (same_limit frame e tables) (table_kind e t) (table_kind frame t)
          (ap (λ ks. slice_get ks t) kinds);
      counts = λ t. (shape_at frame e kinds shape t).count;
      packets = λ t j. (shape_at frame e kinds shape t).each j;
    }

no_difference_in : (o : Option ℕ) → is_none o ≡ true → o ≡ None
no_difference_in None h = refl
no_difference_in (Some i) h = absurd (cc)

pub text_law : TextLaw
text_law frame now e h =
    let first = no_fault (frame_fault frame e) (option_or (shape_fault frame e) (version_fault now e)) h in
    let frames = no_fault (option_or (whole_fault frame e) (program_fault frame e)) (option_or (stream_fault frame e) (tables_fault frame e)) first.0 in
    let wholes = no_fault (whole_fault frame e) (program_fault frame e) frames.0 in
    let streams = no_fault (stream_fault frame e) (tables_fault frame e) frames.1 in
    let shapes = no_fault (shape_fault frame e) (version_fault now e) first.1 in
    let same_tables = else_none (has_same_tables frame e) fault.Tables streams.1 in
    parts_alike frame e (same_whole frame e wholes.0)
    (sym (no_difference is_same_program fixed_program program_alike frame.programs e.programs (nothing _ _ wholes.1)))
    (sym (no_difference is_same_stream fixed_stream stream_alike frame.streams e.streams (nothing _ _ streams.0)))
    (sym (no_difference is_same_table fixed_table table_alike frame.tables e.tables (no_difference_in _ (and_parts _ _ same_tables).1)))
    same_tables shapes.0
