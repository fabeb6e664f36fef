-- The PIDs of slots, by their places in the list of a description's PIDs.
use Rattle.std.specs.Prelude.{option_map, if◌then◌else◌}
use Rattle.std.proofs.Common.{◌≡◌, ℕ, ◌+◌, ◌<◌, Bool, true, false, length, Option, None, Some, slice_get, refl, ap, sym, ◌∙◌, arith}
use Rattle.std.proofs.lemmas.Option.{slice_get_within}
use Rattle.description_parts.specs.Described.{Described, DescribedProgram, DescribedStream}
use Rattle.description_parts.specs.Tables.{table_kind, table_kinds, table_count, table_pid, has_references}
use Rattle.description_parts.specs.declared.table_kind.TableKind.{TableKind}
use Rattle.description.specs.Pids.{all_pids}
use Rattle.description.proofs.Pids.{pids_apart, pids_below, pid_positions}
use Rattle.slot_plan.specs.declared.slot.Slot.{Slot}
use Rattle.slot_plan.specs.declared.slot.Slot.TheVariants.{Stream, Pcr, Table, Null}
use Rattle.slot_plan.specs.SlotPids.{slot_pid, SlotsApartLaw, SlotsBelowLaw}

-- The place of a slot's PID
place : Described → Slot → ℕ
place d (Stream k) = table_count d + length d.programs + k
place d (Pcr i) = table_count d + i
place d (Table t) = t
place d Null = 0

stream_named : (d : Described) (k pid : ℕ) (o : Option DescribedStream) → slice_get d.streams k ≡ o → slot_pid d (Stream k) ≡ Some pid →
    slice_get (all_pids d) (table_count d + length d.programs + k) ≡ Some (Some pid)
unfolding slot_pid
stream_named d k pid None e f = let g : slot_pid d (Stream k) ≡ None = rw e refl in absurd (cc)
stream_named d k pid (Some s) e f =
    let g : slot_pid d (Stream k) ≡ Some s.pid = rw e refl in (pid_positions d).stream k s e ∙ ap (λ (o : Option ℕ). Some o) (sym g ∙ f)

of_program : (b : Bool) (o : Option DescribedProgram) (pid : ℕ) → (if b then option_map (λ p. p.pcr_pid) o else None) ≡ Some pid →
    (p : DescribedProgram) × (o ≡ Some p)
of_program true None pid f = absurd (cc)
of_program true (Some p) pid f = (p, refl)
of_program false o pid f = absurd (cc)

pcr_named : (d : Described) (i pid : ℕ) → slot_pid d (Pcr i) ≡ Some pid → (i < length d.programs) × (slice_get (all_pids d) (table_count d + i) ≡ Some (Some pid))
unfolding slot_pid
pcr_named d i pid f =
    let there = of_program (has_references d i) (slice_get d.programs i) pid f in
    let within = slice_get_within d.programs i there.0 there.1 in
    (within, (pid_positions d).clock i within ∙ ap (λ (o : Option ℕ). Some o) f)

table_named : (d : Described) (t pid : ℕ) (o : Option TableKind) → table_kind d t ≡ o → slot_pid d (Table t) ≡ Some pid
    → (t < table_count d) × (slice_get (all_pids d) t ≡ Some (Some pid))
unfolding slot_pid
table_named d t pid None e f = let g : slot_pid d (Table t) ≡ None = rw e refl in absurd (cc)
table_named d t pid (Some k) e f =
    let g : slot_pid d (Table t) ≡ Some (table_pid d t) = rw e refl in
    let within = slice_get_within (table_kinds d) t k e in
    (within, (pid_positions d).table t within ∙ ap (λ (o : Option ℕ). Some o) (sym g ∙ f))

at : (d : Described) (a : Slot) (pid : ℕ) → slot_pid d a ≡ Some pid → slice_get (all_pids d) (place d a) ≡ Some (Some pid)
unfolding place slot_pid
at d (Stream k) pid e = stream_named d k pid (slice_get d.streams k) refl e
at d (Pcr i) pid e = (pcr_named d i pid e).1
at d (Table t) pid e = (table_named d t pid (table_kind d t) refl e).1
at d Null pid e = absurd (cc)

apart : (d : Described) (a b : Slot) (pid : ℕ) → slot_pid d a ≡ Some pid → slot_pid d b ≡ Some pid → place d a ≡ place d b → a ≡ b
unfolding place slot_pid
apart d (Stream k) (Stream j) pid e f same = let g : k ≡ j = omega (arith, same) in ap Stream g
apart d (Stream k) (Pcr i) pid e f same = absurd (omega (arith, same, (pcr_named d i pid f).0))
apart d (Stream k) (Table t) pid e f same = absurd (omega (arith, same, (table_named d t pid (table_kind d t) refl f).0))
apart d (Stream k) Null pid e f same = absurd (cc)
apart d (Pcr i) (Stream k) pid e f same = absurd (omega (arith, same, (pcr_named d i pid e).0))
apart d (Pcr i) (Pcr j) pid e f same = let g : i ≡ j = omega (arith, same) in ap Pcr g
apart d (Pcr i) (Table t) pid e f same = absurd (omega (arith, same, (table_named d t pid (table_kind d t) refl f).0))
apart d (Pcr i) Null pid e f same = absurd (cc)
apart d (Table t) (Stream k) pid e f same = absurd (omega (arith, same, (table_named d t pid (table_kind d t) refl e).0))
apart d (Table t) (Pcr i) pid e f same = absurd (omega (arith, same, (table_named d t pid (table_kind d t) refl e).0))
apart d (Table t) (Table u) pid e f same = ap Table same
apart d (Table t) Null pid e f same = absurd (cc)
apart d Null b pid e f same = absurd (cc)

pub slots_apart : SlotsApartLaw
slots_apart d a b pid r e f = apart d a b pid e f (pids_apart d (place d a) (place d b) pid r (at d a pid e) (at d b pid f))

pub slots_below : SlotsBelowLaw
slots_below d a pid r e = pids_below d (place d a) pid r (at d a pid e)
