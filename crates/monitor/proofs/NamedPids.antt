-- The PIDs that program association sections name, one by one.
use Rattle.std.proofs.Common.{◌≡◌, ℕ, ◌==◌, Bool, true, false, cond, nat_eq, List, [], ◌∷◌, map, filter, Option, Some, None, refl, sym, ap, ◌∙◌}
use Rattle.std.specs.Prelude.{not}
use Rattle.std.specs.Map.{lookup}
use Rattle.psi_tables.specs.declared.pat.programs.Program.{Program}
use Rattle.monitor.specs.declared.program_maps.NamedMap.{NamedMap}
use Rattle.monitor.specs.ProgramMaps.{ProgramMapState, named, named_from, named_all}
use Rattle.monitor.specs.NamedPids.{program_pids}
use Rattle.monitor.proofs.LatePlaces.{same_number, turned_test}
use Rattle.monitor.proofs.PidEntries.{inserted, unique, unique_insert}

abbrev pub fresh : ℕ → NamedMap
fresh packet = record { since = packet; last = packet }

abbrev pub or_named : Option NamedMap → Option ℕ → Option NamedMap
or_named (Some n) o = Some n
or_named None None = None
or_named None (Some packet) = Some (fresh packet)

or_none : (o : Option NamedMap) → o ≡ or_named o None
or_none None = refl
or_none (Some n) = refl

or_twice : (o : Option NamedMap) (t : Bool) (packet : ℕ) (rest : Option ℕ) →
    or_named (or_named o (cond t (Some packet) None)) rest ≡ or_named o (cond t (Some packet) rest)
or_twice None true packet rest = refl
or_twice None false packet rest = refl
or_twice (Some n) true packet rest = refl
or_twice (Some n) false packet rest = refl

-- One more named PID changes the entry of this PID only.
lookup_named : (pid q packet : ℕ) (s : ProgramMapState) (o : Option NamedMap) (t : Bool) → lookup (nat_eq q) s.named ≡ o → (q == pid) ≡ t →
    lookup (nat_eq pid) (named_from s q packet o).named ≡ or_named (lookup (nat_eq pid) s.named) (cond t (Some packet) None)
unfolding named_from
lookup_named pid q packet s (Some n) true e f =
    let h : lookup (nat_eq pid) s.named ≡ Some n = ap (λ (k : ℕ). lookup (nat_eq k) s.named) (sym (same_number q pid f)) ∙ e in rw h refl
lookup_named pid q packet s (Some n) false e f = or_none (lookup (nat_eq pid) s.named)
lookup_named pid q packet s None true e f =
    let h : lookup (nat_eq pid) s.named ≡ None = ap (λ (k : ℕ). lookup (nat_eq k) s.named) (sym (same_number q pid f)) ∙ e in
    inserted pid q (fresh packet) s.named true f ∙ sym (ap (λ (o : Option NamedMap). or_named o (Some packet)) h)
lookup_named pid q packet s None false e f = inserted pid q (fresh packet) s.named false f ∙ or_none (lookup (nat_eq pid) s.named)

named_kept : (q packet : ℕ) (s : ProgramMapState) (o : Option NamedMap) →
    ((named_from s q packet o).late ≡ s.late) × ((named_from s q packet o).limit_times_rate ≡ s.limit_times_rate)
unfolding named_from
named_kept q packet s None = (refl, refl)
named_kept q packet s (Some n) = (refl, refl)

named_unique : (q packet : ℕ) (s : ProgramMapState) (o : Option NamedMap) → unique s.named → unique (named_from s q packet o).named
unfolding named_from
named_unique q packet s None h = unique_insert q (fresh packet) s.named h
named_unique q packet s (Some n) h = h

-- All PIDs of a section
abbrev pub at_packet : ℕ → List ℕ → List (ℕ × ℕ)
at_packet packet pids = map (λ pid. (pid, packet)) pids

pub lookup_named_all : (pid packet : ℕ) (s : ProgramMapState) (programs : List Program) →
    lookup (nat_eq pid) (named_all s programs packet).named ≡ or_named (lookup (nat_eq pid) s.named)
    (lookup (nat_eq pid) (at_packet packet (program_pids programs)))
unfolding named_all
lookup_named_all pid packet s [] = or_none (lookup (nat_eq pid) s.named)
lookup_named_all pid packet s (program ∷ programs) =
    by (program.program_number == 0) (lookup_named_all pid packet (named s program.pid packet) programs) (lookup_named_all pid packet s programs)
  where
    rest : Option ℕ
    rest = lookup (nat_eq pid) (at_packet packet (program_pids programs))

    first : lookup (nat_eq pid) (named s program.pid packet).named ≡ or_named (lookup (nat_eq pid) s.named) (cond (pid == program.pid) (Some packet) None)
    first = lookup_named pid program.pid packet s (lookup (nat_eq program.pid) s.named) (pid == program.pid) refl (turned_test program.pid pid)

    by : (t : Bool) →
        lookup (nat_eq pid) (named_all (named s program.pid packet) programs packet).named ≡ or_named (lookup (nat_eq pid) (named s program.pid packet).named)
        rest →
        lookup (nat_eq pid) (named_all s programs packet).named ≡ or_named (lookup (nat_eq pid) s.named) rest →
        lookup (nat_eq pid) (named_all (cond t s (named s program.pid packet)) programs packet).named
        ≡ or_named (lookup (nat_eq pid) s.named)
        (lookup (nat_eq pid)
        (at_packet packet
        (map (λ p. p.pid)
        (cond (not t) (program ∷ filter (λ p. not (p.program_number == 0)) programs) (filter (λ p. not (p.program_number == 0)) programs)))))
    by true h k = k
    by false h k = h ∙ ap (λ (o : Option NamedMap). or_named o rest) first ∙ or_twice (lookup (nat_eq pid) s.named) (pid == program.pid) packet rest

pub named_all_kept : (packet : ℕ) (s : ProgramMapState) (programs : List Program) →
    ((named_all s programs packet).late ≡ s.late) × ((named_all s programs packet).limit_times_rate ≡ s.limit_times_rate)
unfolding named_all
named_all_kept packet s [] = (refl, refl)
named_all_kept packet s (program ∷ programs) =
    by (program.program_number == 0) (named_all_kept packet (named s program.pid packet) programs) (named_all_kept packet s programs)
  where
    by : (t : Bool) →
        ((named_all (named s program.pid packet) programs packet).late ≡ (named s program.pid packet).late) ×
        ((named_all (named s program.pid packet) programs packet).limit_times_rate ≡ (named s program.pid packet).limit_times_rate) →
        ((named_all s programs packet).late ≡ s.late) × ((named_all s programs packet).limit_times_rate ≡ s.limit_times_rate) →
        ((named_all (cond t s (named s program.pid packet)) programs packet).late ≡ s.late) ×
        ((named_all (cond t s (named s program.pid packet)) programs packet).limit_times_rate ≡ s.limit_times_rate)
    by true h k = k
    by false h k =
        let own = named_kept program.pid packet s (lookup (nat_eq program.pid) s.named) in (h.0 ∙ own.0, h.1 ∙ own.1)

pub named_all_unique : (packet : ℕ) (s : ProgramMapState) (programs : List Program) → unique s.named → unique (named_all s programs packet).named
unfolding named_all
named_all_unique packet s [] h = h
named_all_unique packet s (program ∷ programs) h = by (program.program_number == 0)
    (named_all_unique packet (named s program.pid packet) programs (named_unique program.pid packet s (lookup (nat_eq program.pid) s.named) h))
    (named_all_unique packet s programs h)
  where
    by : (t : Bool) → unique (named_all (named s program.pid packet) programs packet).named → unique (named_all s programs packet).named →
        unique (named_all (cond t s (named s program.pid packet)) programs packet).named
    by true a b = b
    by false a b = a
