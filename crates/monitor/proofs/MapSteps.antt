-- The state of one PID's program map, finding by finding.
use Rattle.std.proofs.Common.{◌≡◌, ℕ, ◌-◌, ◌≤◌, ◌==◌, Bool, true, false, cond, nat_eq, List, [], ◌∷◌, ◌++◌, Option, Some, None, refl, sym, ap, ap₂, ◌∙◌, arith}
use Rattle.std.proofs.Common.{append_assoc}
use Rattle.std.specs.Prelude.{◌||◌, nat_le, nat_lt, not}
use Rattle.std.specs.Map.{lookup}
use Rattle.std.proofs.lemmas.List.{append-nil}
use Rattle.indexmap.specs.IndexMap.{insert_entry}
use Rattle.std.proofs.lemmas.Bool.Decides.{nat_tests}
use Rattle.psi_tables.specs.Reading.{section_at}
use Rattle.pid_findings.specs.declared.finding.Kind.{Kind}
use Rattle.pid_findings.specs.declared.finding.Kind.TheVariants.{Table, Pes}
use Rattle.pid_findings.specs.Views.{WhatView, IsDuplicate, BreaksCounter, IsScrambled, IsTruncated, IsSection, IsBadSection, IsPes, IsBadPes, IsBadPacket}
use Rattle.pid_findings.specs.Views.{IsErrored}
use Rattle.pid_findings.specs.Views.{IsStray}
use Rattle.pid_findings.specs.Views.{FindingView}
use Rattle.monitor.specs.declared.program_maps.NamedMap.{NamedMap}
use Rattle.monitor.specs.Gaps.{is_long}
use Rattle.monitor.specs.Laws.{late_of}
use Rattle.monitor.specs.ProgramMaps.{ProgramMapState, map_begins, map_begins_at, named_by, late_map, programs_in_section}
use Rattle.monitor.specs.Begins.{table_begin}
use Rattle.monitor.specs.NamedPids.{program_pids, pids_named_in}
use Rattle.monitor.proofs.LatePlaces.{late_append, same_number, step}
use Rattle.monitor.proofs.PidEntries.{inserted, unique, unique_insert}
use Rattle.monitor.proofs.NamedPids.{at_packet, lookup_named_all, named_all_kept, named_all_unique, or_named}
use Rattle.monitor.proofs.FindingSteps.{map_begun, map_named, map_on, maps_of_all}

-- 1. Names

abbrev pub pids_on : Option ℕ → WhatView → List ℕ
pids_on None what = []
pids_on (Some q) what = cond (q == 0) (pids_named_in what) []

or_none : (o : Option NamedMap) → o ≡ or_named o None
or_none None = refl
or_none (Some n) = refl

-- The state, the late packets and the limit after a finding; no PID has two entries.
record Kept (pid : ℕ) (s t : ProgramMapState) (o : Option NamedMap) (new : List ℕ) : Type 0 where
  state : lookup (nat_eq pid) t.named ≡ o
  late : late_of pid t.late ≡ late_of pid s.late ++ new
  limit_times_rate : t.limit_times_rate ≡ s.limit_times_rate
  own : unique s.named → unique t.named

no_change : (pid : ℕ) (s : ProgramMapState) → Kept pid s s (lookup (nat_eq pid) s.named) []
no_change pid s = record { state = refl; late = sym (append-nil (late_of pid s.late)); limit_times_rate = refl; own = λ h. h }

to_state : (pid : ℕ) (s t : ProgramMapState) (o p : Option NamedMap) (new : List ℕ) → o ≡ p → Kept pid s t o new → Kept pid s t p new
to_state pid s t o p new e k = record { state = k.state ∙ e; late = k.late; limit_times_rate = k.limit_times_rate; own = k.own }

unnamed : (pid packet : ℕ) (s : ProgramMapState) → Kept pid s s (or_named (lookup (nat_eq pid) s.named) None) []
unnamed pid packet s = to_state pid s s (lookup (nat_eq pid) s.named) (or_named (lookup (nat_eq pid) s.named) None) [] (or_none (lookup (nat_eq pid) s.named))
    (no_change pid s)

section_names : (pid q packet : ℕ) (s : ProgramMapState) (bytes : List ℕ) (t : Bool) →
    Kept pid s (cond t (named_by s bytes packet) s)
    (or_named (lookup (nat_eq pid) s.named) (lookup (nat_eq pid) (at_packet packet (cond t (program_pids (programs_in_section (section_at bytes))) [])))) []
unfolding named_by
section_names pid q packet s bytes true =
    let programs = programs_in_section (section_at bytes) in
    let kept = named_all_kept packet s programs in record {
      state = lookup_named_all pid packet s programs;
      late = ap (late_of pid) kept.0 ∙ sym (append-nil (late_of pid s.late));
      limit_times_rate = kept.1;
      own = named_all_unique packet s programs;
    }
section_names pid q packet s bytes false = unnamed pid packet s

nothing_named : (pid packet : ℕ) (s : ProgramMapState) (t : Bool) →
    Kept pid s s (or_named (lookup (nat_eq pid) s.named) (lookup (nat_eq pid) (at_packet packet (cond t [] [])))) []
nothing_named pid packet s true = unnamed pid packet s
nothing_named pid packet s false = unnamed pid packet s

names : (pid q packet : ℕ) (s : ProgramMapState) (what : WhatView) →
    Kept pid s (map_named s q packet what) (or_named (lookup (nat_eq pid) s.named) (lookup (nat_eq pid) (at_packet packet (pids_on (Some q) what)))) []
unfolding map_named pids_named_in
names pid q packet s IsDuplicate = nothing_named pid packet s (q == 0)
names pid q packet s (BreaksCounter expected found) = nothing_named pid packet s (q == 0)
names pid q packet s IsScrambled = nothing_named pid packet s (q == 0)
names pid q packet s (IsTruncated bytes) = nothing_named pid packet s (q == 0)
names pid q packet s (IsSection bytes) = section_names pid q packet s bytes (q == 0)
names pid q packet s (IsBadSection error) = nothing_named pid packet s (q == 0)
names pid q packet s (IsPes header unended body) = nothing_named pid packet s (q == 0)
names pid q packet s (IsBadPes error) = nothing_named pid packet s (q == 0)
names pid q packet s (IsBadPacket error) = nothing_named pid packet s (q == 0)
names pid q packet s IsErrored = nothing_named pid packet s (q == 0)
names pid q packet s (IsStray size) = nothing_named pid packet s (q == 0)

-- 2. Begins of sections

abbrev pub begin_on : ℕ → Option ℕ → Option (ℕ × Kind) → Option ℕ
begin_on pid None begun = None
begin_on pid (Some q) begun = cond (q == pid) (table_begin 0x02 begun) None

-- A section begins no later than the packet at which it is found.
abbrev pub begun_by_then : ℕ → Option (ℕ × Kind) → Type 0
begun_by_then packet None = Unit {0}
begun_by_then packet (Some b) = b.0 ≤ packet

abbrev pub after_begin : Option NamedMap → Option ℕ → Option NamedMap
after_begin None b = None
after_begin (Some n) None = Some n
after_begin (Some n) (Some x) = cond (nat_lt n.since x) (Some (record { since = n.since; last = x })) (Some n)

abbrev pub late_after : ℕ → Option NamedMap → Option ℕ → List ℕ
late_after limit_times_rate None b = []
late_after limit_times_rate (Some n) None = []
late_after limit_times_rate (Some n) (Some x) = cond (nat_lt n.since x) (step limit_times_rate (Some n.last) x) []

after_none : (o : Option NamedMap) → o ≡ after_begin o None
after_none None = refl
after_none (Some n) = refl

late_none : (limit_times_rate : ℕ) (o : Option NamedMap) → [] ≡ late_after limit_times_rate o None
late_none limit_times_rate None = refl
late_none limit_times_rate (Some n) = refl

skipped : (found since x : ℕ) → x ≤ found → (nat_le found since || nat_le x since) ≡ not (nat_lt since x)
skipped found since x h = by (nat_le found since) (nat_le x since) (nat_lt since x) refl refl refl
  where
    by : (a b c : Bool) → nat_le found since ≡ a → nat_le x since ≡ b → nat_lt since x ≡ c → (a || b) ≡ not c
    by true b false e f g = refl
    by true b true e f g = absurd (grind (arith, nat_tests))
    by false true false e f g = refl
    by false true true e f g = absurd (grind (arith, nat_tests))
    by false false true e f g = refl
    by false false false e f g = absurd (grind (arith, nat_tests))

late_map_here : (pid q limit_times_rate last x : ℕ) (t : Bool) → (q == pid) ≡ t →
    late_of pid (late_map limit_times_rate q last x) ≡ cond t (step limit_times_rate (Some last) x) []
unfolding late_map
late_map_here pid q limit_times_rate last x t e = by t e (is_long limit_times_rate (x - last))
  where
    by : (t : Bool) → (q == pid) ≡ t → (u : Bool) → late_of pid (cond u (record { pid = q; packet = x } ∷ []) []) ≡ cond t (cond u (x ∷ []) []) []
    by true e true = rw e refl
    by true e false = refl
    by false e true = rw e refl
    by false e false = refl

-- If no section begins on a PID, the PID's state remains the same.
no_begin : (pid : ℕ) (s : ProgramMapState) →
    Kept pid s s (after_begin (lookup (nat_eq pid) s.named) None) (late_after s.limit_times_rate (lookup (nat_eq pid) s.named) None)
no_begin pid s = record {
  state = after_none (lookup (nat_eq pid) s.named);
  late = sym (append-nil (late_of pid s.late)) ∙ ap (λ (xs : List ℕ). late_of pid s.late ++ xs) (late_none s.limit_times_rate (lookup (nat_eq pid) s.named));
  limit_times_rate = refl;
  own = λ h. h;
}

begins_next : (pid q found x : ℕ) (s : ProgramMapState) (n : NamedMap) → x ≤ found → lookup (nat_eq q) s.named ≡ Some n → (t u : Bool) → (q == pid) ≡ t →
    nat_lt n.since x ≡ u →
    Kept pid s (cond (not u) s (record {
      limit_times_rate = s.limit_times_rate;
      named = insert_entry nat_eq s.named q (record { since = n.since; last = x });
      late = s.late ++ late_map s.limit_times_rate q n.last x;
    })) (after_begin (lookup (nat_eq pid) s.named) (cond t (Some x) None)) (late_after s.limit_times_rate (lookup (nat_eq pid) s.named) (cond t (Some x) None))
begins_next pid q found x s n h e true true f g =
    let here : lookup (nat_eq pid) s.named ≡ Some n = ap (λ (k : ℕ). lookup (nat_eq k) s.named) (sym (same_number q pid f)) ∙ e in record {
      state = inserted pid q (record { since = n.since; last = x }) s.named true f ∙ sym (rw (here, g) refl);
      late = late_append pid s.late (late_map s.limit_times_rate q n.last x)
          ∙ ap (λ (xs : List ℕ). late_of pid s.late ++ xs) (late_map_here pid q s.limit_times_rate n.last x true f ∙ sym (rw (here, g) refl));
      limit_times_rate = refl;
      own = unique_insert q (record { since = n.since; last = x }) s.named;
    }
begins_next pid q found x s n h e true false f g =
    let here : lookup (nat_eq pid) s.named ≡ Some n = ap (λ (k : ℕ). lookup (nat_eq k) s.named) (sym (same_number q pid f)) ∙ e in record {
      state = here ∙ sym (rw (here, g) refl);
      late = sym (append-nil (late_of pid s.late)) ∙ ap (λ (xs : List ℕ). late_of pid s.late ++ xs) (sym (rw (here, g) refl));
      limit_times_rate = refl;
      own = λ k. k;
    }
begins_next pid q found x s n h e false true f g = record {
  state = inserted pid q (record { since = n.since; last = x }) s.named false f ∙ after_none (lookup (nat_eq pid) s.named);
  late = late_append pid s.late (late_map s.limit_times_rate q n.last x)
      ∙ ap (λ (xs : List ℕ). late_of pid s.late ++ xs)
      (late_map_here pid q s.limit_times_rate n.last x false f ∙ late_none s.limit_times_rate (lookup (nat_eq pid) s.named));
  limit_times_rate = refl;
  own = unique_insert q (record { since = n.since; last = x }) s.named;
}
begins_next pid q found x s n h e false false f g = no_begin pid s

begins_at : (pid q found x : ℕ) (s : ProgramMapState) (o : Option NamedMap) → x ≤ found → lookup (nat_eq q) s.named ≡ o → (t : Bool) → (q == pid) ≡ t →
    Kept pid s (map_begins_at s q found x o) (after_begin (lookup (nat_eq pid) s.named) (cond t (Some x) None))
    (late_after s.limit_times_rate (lookup (nat_eq pid) s.named) (cond t (Some x) None))
unfolding map_begins_at
begins_at pid q found x s None h e true f =
    let here : lookup (nat_eq pid) s.named ≡ None = ap (λ (k : ℕ). lookup (nat_eq k) s.named) (sym (same_number q pid f)) ∙ e in record {
      state = here ∙ sym (rw here refl);
      late = sym (append-nil (late_of pid s.late)) ∙ ap (λ (xs : List ℕ). late_of pid s.late ++ xs) (sym (rw here refl));
      limit_times_rate = refl;
      own = λ k. k;
    }
begins_at pid q found x s None h e false f = no_begin pid s
begins_at pid q found x s (Some n) h e t f = rw (skipped found n.since x h) (begins_next pid q found x s n h e t (nat_lt n.since x) f refl)

begins : (pid q found : ℕ) (s : ProgramMapState) (begun : Option (ℕ × Kind)) → begun_by_then found begun →
    Kept pid s (map_begun s q found begun) (after_begin (lookup (nat_eq pid) s.named) (begin_on pid (Some q) begun))
    (late_after s.limit_times_rate (lookup (nat_eq pid) s.named) (begin_on pid (Some q) begun))
unfolding map_begun table_begin
begins pid q found s None h = by (q == pid)
  where
    by : (t : Bool) →
        Kept pid s s (after_begin (lookup (nat_eq pid) s.named) (cond t None None))
        (late_after s.limit_times_rate (lookup (nat_eq pid) s.named) (cond t None None))
    by true = no_begin pid s
    by false = no_begin pid s
begins pid q found s (Some (x, Pes stamped access)) h = by (q == pid)
  where
    by : (t : Bool) →
        Kept pid s s (after_begin (lookup (nat_eq pid) s.named) (cond t None None))
        (late_after s.limit_times_rate (lookup (nat_eq pid) s.named) (cond t None None))
    by true = no_begin pid s
    by false = no_begin pid s
begins pid q found s (Some (x, Table table_id)) h = by (table_id == 0x02) (q == pid) refl
  where
    by : (u t : Bool) → (q == pid) ≡ t → Kept pid s (cond u (map_begins s q found x) s)
        (after_begin (lookup (nat_eq pid) s.named) (cond t (cond u (Some x) None) None))
        (late_after s.limit_times_rate (lookup (nat_eq pid) s.named) (cond t (cond u (Some x) None) None))
    by true t f = begins_at pid q found x s (lookup (nat_eq q) s.named) h refl t f
    by false true f = no_begin pid s
    by false false f = no_begin pid s

-- 3. One finding, and all findings

abbrev pub next_named : Option NamedMap → Option ℕ → Option ℕ → Option NamedMap
next_named o b z = or_named (after_begin o b) z

both : (pid : ℕ) (s t u : ProgramMapState) (o p : Option NamedMap) (xs : List ℕ) → Kept pid s t o xs → Kept pid t u p [] → Kept pid s u p xs
both pid s t u o p xs k l = record {
  state = l.state;
  late = l.late ∙ append-nil (late_of pid t.late) ∙ k.late;
  limit_times_rate = l.limit_times_rate ∙ k.limit_times_rate;
  own = λ h. l.own (k.own h);
}

one : (pid packet : ℕ) (s : ProgramMapState) (q : Option ℕ) (begun : Option (ℕ × Kind)) (what : WhatView) → begun_by_then packet begun →
    Kept pid s (map_on s packet q begun what)
    (next_named (lookup (nat_eq pid) s.named) (begin_on pid q begun) (lookup (nat_eq pid) (at_packet packet (pids_on q what))))
    (late_after s.limit_times_rate (lookup (nat_eq pid) s.named) (begin_on pid q begun))
unfolding map_on
one pid packet s None begun what h = to_state pid s s (after_begin (lookup (nat_eq pid) s.named) None) (next_named (lookup (nat_eq pid) s.named) None None)
    (late_after s.limit_times_rate (lookup (nat_eq pid) s.named) None) (or_none (after_begin (lookup (nat_eq pid) s.named) None)) (no_begin pid s)
one pid packet s (Some q) begun what h =
    let k = begins pid q packet s begun h in
    let t = map_begun s q packet begun in
    let z = lookup (nat_eq pid) (at_packet packet (pids_on (Some q) what)) in
    both pid s t (map_named t q packet what) (after_begin (lookup (nat_eq pid) s.named) (begin_on pid (Some q) begun))
    (next_named (lookup (nat_eq pid) s.named) (begin_on pid (Some q) begun) z)
    (late_after s.limit_times_rate (lookup (nat_eq pid) s.named) (begin_on pid (Some q) begun)) k
    (to_state pid t (map_named t q packet what) (or_named (lookup (nat_eq pid) t.named) z)
    (next_named (lookup (nat_eq pid) s.named) (begin_on pid (Some q) begun) z) []
    (ap (λ (o : Option NamedMap). or_named o z) k.state) (names pid q packet t what))

abbrev pub begin_in : ℕ → FindingView → Option ℕ
begin_in pid f = begin_on pid f.pid f.begun

abbrev pub naming_in : ℕ → FindingView → Option ℕ
naming_in pid f = lookup (nat_eq pid) (at_packet f.packet (pids_on f.pid f.what))

unfoldable pub state_after : ℕ → Option NamedMap → List FindingView → Option NamedMap
state_after pid o [] = o
state_after pid o (f ∷ found) = state_after pid (next_named o (begin_in pid f) (naming_in pid f)) found

unfoldable pub lates_after : ℕ → ℕ → Option NamedMap → List FindingView → List ℕ
lates_after pid limit_times_rate o [] = []
lates_after pid limit_times_rate o (f ∷ found) = late_after limit_times_rate o (begin_in pid f)
    ++ lates_after pid limit_times_rate (next_named o (begin_in pid f) (naming_in pid f)) found

abbrev pub all_begun_by_then : List FindingView → Type 0
all_begun_by_then [] = Unit {0}
all_begun_by_then (f ∷ found) = begun_by_then f.packet f.begun × all_begun_by_then found

pub record KeptOf (pid : ℕ) (s t : ProgramMapState) (found : List FindingView) : Type 0 where
  pub state : lookup (nat_eq pid) t.named ≡ state_after pid (lookup (nat_eq pid) s.named) found
  pub late : late_of pid t.late ≡ late_of pid s.late ++ lates_after pid s.limit_times_rate (lookup (nat_eq pid) s.named) found
  pub limit_times_rate : t.limit_times_rate ≡ s.limit_times_rate
  pub own : unique s.named → unique t.named

pub maps_kept : (pid : ℕ) (s : ProgramMapState) (found : List FindingView) → all_begun_by_then found → KeptOf pid s (maps_of_all s found) found
unfolding maps_of_all state_after lates_after
maps_kept pid s [] h = record { state = refl; late = sym (append-nil (late_of pid s.late)); limit_times_rate = refl; own = λ k. k }
maps_kept pid s (f ∷ found) h =
    let t = map_on s f.packet f.pid f.begun f.what in
    let k = one pid f.packet s f.pid f.begun f.what h.0 in
    let l = maps_kept pid t found h.1 in
    let o = next_named (lookup (nat_eq pid) s.named) (begin_in pid f) (naming_in pid f) in
    let new = late_after s.limit_times_rate (lookup (nat_eq pid) s.named) (begin_in pid f) in record {
      state = l.state ∙ ap (λ (p : Option NamedMap). state_after pid p found) k.state;
      late = l.late ∙ ap₂ (λ (m : ℕ) (p : Option NamedMap). late_of pid t.late ++ lates_after pid m p found) k.limit_times_rate k.state
          ∙ ap (λ (xs : List ℕ). xs ++ lates_after pid s.limit_times_rate o found) k.late
          ∙ append_assoc (late_of pid s.late) new (lates_after pid s.limit_times_rate o found);
      limit_times_rate = l.limit_times_rate ∙ k.limit_times_rate;
      own = λ u. l.own (k.own u);
    }
