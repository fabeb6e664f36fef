-- The clock references of a program, and the buffers of its tables, in the finished bytes.
use Rattle.std.proofs.Common.{◌≡◌, ℕ, zero, suc, ◌+◌, ◌-◌, ◌*◌, ◌<◌, ◌≤◌, ◌==◌, ◌||◌, Bool, true, List, [], ◌∷◌, length, map, Some, slice_get, refl, ap, sym}
use Rattle.std.proofs.Common.{subst, ◌∙◌, arith, inl, inr, eq-eqb}
use Rattle.std.proofs.lemmas.Bool.{cases_Bool, false≢true, eqb-true}
use Rattle.std.proofs.lemmas.Option.{slice_get_within}
use Rattle.clock27.specs.Recurrence.{Recur}
use Rattle.clock27.specs.Reference.{pcr_at}
use Rattle.own_slots.specs.Slots.{own_slots, Rises}
use Rattle.pes_packet.specs.AccessUnits.{AccessUnit}
use Rattle.ts_packet.specs.Packets.{pcr_view}
use Rattle.ts_packet.specs.PidList.{Entry, is_of_pid, pid_list}
use Rattle.slot_contents.specs.Contents.{Content, PcrContent, view_of, run_bytes, entries_in}
use Rattle.slot_contents.specs.RunLaws.{Fits}
use Rattle.slot_contents.proofs.Runs.{run_pid_list, run_indices, run_two}
use Rattle.description_parts.specs.Described.{DescribedProgram}
use Rattle.description_parts.specs.Ranges.{IsInRange}
use Rattle.description_parts.specs.Tables.{clock_of, table_kind, table_pid, kind_pid}
use Rattle.description_parts.specs.declared.table_kind.TableKind.TheVariants.{Pmt}
use Rattle.description_parts.proofs.TableNumbers.{table_kind-pmt}
use Rattle.slot_plan.specs.declared.slot.Slot.{Slot}
use Rattle.slot_plan.specs.declared.slot.Slot.TheVariants.{Stream, Pcr, Table, Null}
use Rattle.slot_plan.specs.declared.slot.Item.TheVariants.{Pcr as PcrItem, System}
use Rattle.slot_plan.specs.Items.{is_own}
use Rattle.slot_plan.specs.Schedule.{slot_of, owned}
use Rattle.slot_plan.specs.SlotPids.{slot_pid}
use Rattle.slot_plan.proofs.SlotPids.{slots_apart, slots_below}
use Rattle.slot_plan.proofs.Clocks.{clock_named}
use Rattle.slot_plan.specs.Promised.{Promised}
use Rattle.unit_timing.specs.SystemBuffer.{system_tb_fullness, bsys_fullness}
use Rattle.tstd.specs.Carried.{table_packets}
use Rattle.mux_core.specs.Scheduled.{Scheduled}
use Rattle.mux_core.specs.Histories.{pcr_content, content_in, content_over, TextsSoFar}
use Rattle.mux_core.specs.Headline.{ProgramKept}
use Rattle.mux_core.proofs.ContentPids.{names_over, silent, content_pid, is_content_pid}
use Rattle.mux_core.proofs.RisingSlots.{part_rises}

-- Clock references

own_is : (i : ℕ) (slot : Slot) → is_own (PcrItem i) slot ≡ true → slot ≡ Pcr i
own_is i (Stream k) e = absurd (false≢true e)
own_is i (Pcr j) e = ap Pcr (sym (eqb-true i j e))
own_is i (Table t) e = absurd (false≢true e)
own_is i Null e = absurd (false≢true e)

-- The clock reference that a slot writes.
abbrev reference_in : (d : Scheduled) (p : DescribedProgram) → ℕ → Content
reference_in d p s = PcrContent p.pcr_pid (pcr_at d.description.rate d.description.base0 (188 * s + 10))

clock_at : (d : Scheduled) (changes : TextsSoFar) (units : ℕ → List AccessUnit) (s k : ℕ) (p : DescribedProgram) → slot_pid d.description (Pcr k) ≡ Some p.pcr_pid →
    slot_of d.schedule s ≡ Pcr k
    → content_over d changes units s ≡ reference_in d p s
unfolding content_over content_in pcr_content
clock_at d changes units s k p named e = ap (content_in d changes units s) e ∙ ap (pcr_content d.description s) named

clock_pid : (d : Scheduled) (p : DescribedProgram) (s : ℕ) → is_of_pid p.pcr_pid (view_of (reference_in d p s)) ≡ true
unfolding content_pid
clock_pid d p s = is_content_pid p.pcr_pid (reference_in d p s) ∙ eq-eqb p.pcr_pid p.pcr_pid refl

-- The packets with a program's PCR PID are exactly the packets in the slots that name its clock.
clock_slots : (d : Scheduled) (changes : TextsSoFar) (units : ℕ → List AccessUnit) (k : ℕ) (p : DescribedProgram) → IsInRange d.description →
    slot_pid d.description (Pcr k) ≡ Some p.pcr_pid → (s : ℕ)
    → is_of_pid p.pcr_pid (view_of (content_over d changes units s)) ≡ owned d.schedule (PcrItem k) s
clock_slots d changes units k p r named s = elim (cases_Bool (owned d.schedule (PcrItem k) s)) [
  | inl y ↦ ap (λ (c : Content). is_of_pid p.pcr_pid (view_of c)) (clock_at d changes units s k p named (own_is k (slot_of d.schedule s) y)) ∙ clock_pid d p s ∙ sym y
  | inr n ↦ silent d changes units s p.pcr_pid (Pcr k) r named (λ e. false≢true (sym n ∙ ap (is_own (PcrItem k)) e ∙ eq-eqb k k refl)) ∙ sym n
]

-- The value of each clock reference is the clock at its slot.
clock_says : (d : Scheduled) (p : DescribedProgram) (content : ℕ → Content) (s n : ℕ) →
    ((t : ℕ) → is_of_pid p.pcr_pid (view_of (content t)) ≡ true → content t ≡ reference_in d p t)
    → map (λ e. e.packet) (entries_in p.pcr_pid content s n)
    ≡ map (λ e. pcr_view p.pcr_pid (pcr_at d.description.rate d.description.base0 (188 * e.index + 10))) (entries_in p.pcr_pid content s n)
unfolding entries_in view_of
clock_says d p content s zero is = refl
clock_says d p content s (suc n) is =
    let rest = clock_says d p content (suc s) n is in
    elim (cases_Bool (is_of_pid p.pcr_pid (view_of (content s)))) [
      | inl y ↦
          let here : view_of (content s) ≡ pcr_view p.pcr_pid (pcr_at d.description.rate d.description.base0 (188 * s + 10)) = ap view_of (is s y) in
          rw (y, here, rest) refl
      | inr k ↦ rw (k, rest) refl
    ]

pub indices_at_ten : (es : List Entry) → map (λ e. 188 * e.index + 10) es ≡ map (λ s. 188 * s + 10) (map (λ e. e.index) es)
indices_at_ten [] = refl
indices_at_ten (e ∷ es) = ap (λ (l : List ℕ). (188 * e.index + 10) ∷ l) (indices_at_ten es)

-- The buffers of tables

pub pat_named : (d : Scheduled) → slot_pid d.description (Table 0) ≡ Some 0
unfolding slot_pid
pat_named d = refl

pub pmt_named : (d : Scheduled) (i : ℕ) (p : DescribedProgram) → slice_get d.description.programs i ≡ Some p →
    slot_pid d.description (Table (i + 1)) ≡ Some p.pmt_pid
unfolding slot_pid
pmt_named d i p is =
    let within : i < length d.description.programs = slice_get_within d.description.programs i p is in
    let less : i + 1 - 1 ≡ i = omega arith in
    let kind : table_kind d.description (i + 1) ≡ Some (Pmt i) =
    sym (table_kind-pmt d.description (i + 1) (omega arith) (omega (arith, within))) ∙ ap (λ (n : ℕ). Some (Pmt n)) less in
    let pid : kind_pid d.description (Pmt i) ≡ p.pmt_pid = rw (is, kind_pid) refl in
    let named : slot_pid d.description (Table (i + 1)) ≡ Some (table_pid d.description (i + 1)) = rw kind refl in
    let of_kind : table_pid d.description (i + 1) ≡ kind_pid d.description (Pmt i) = rw (kind, table_pid) refl in
    named ∙ ap Some (of_kind ∙ pid)

-- Whether a slot's packet enters the program's system buffers.
abbrev enters : ℕ → (ℕ → Content) → ℕ → Bool
enters pmt_pid content s = is_of_pid 0 (view_of (content s)) || is_of_pid pmt_pid (view_of (content s))

system_slot : (d : Scheduled) (changes : TextsSoFar) (units : ℕ → List AccessUnit) (i : ℕ) (p : DescribedProgram) → IsInRange d.description →
    slice_get d.description.programs i ≡ Some p → (s : ℕ)
    → enters p.pmt_pid (content_over d changes units) s ≡ true → owned d.schedule (System i) s ≡ true
system_slot d changes units i p r is s e = elim (cases_Bool (is_of_pid 0 (view_of (content_over d changes units s)))) [
  | inl pat ↦
      let same : slot_of d.schedule s ≡ Table 0 =
      slots_apart d.description (slot_of d.schedule s) (Table 0) 0 r (names_over d changes units s 0 (omega arith) pat) (pat_named d) in
      ap (is_own (System i)) same
  | inr no_pat ↦
      let pmt : is_of_pid p.pmt_pid (view_of (content_over d changes units s)) ≡ true =
      sym (ap (λ (b : Bool). b || is_of_pid p.pmt_pid (view_of (content_over d changes units s))) no_pat) ∙ e in
      let same : slot_of d.schedule s ≡ Table (i + 1) =
      slots_apart d.description (slot_of d.schedule s) (Table (i + 1)) p.pmt_pid r
      (names_over d changes units s p.pmt_pid (slots_below d.description (Table (i + 1)) p.pmt_pid r (pmt_named d i p is)) pmt) (pmt_named d i p is) in
      ap (is_own (System i)) same ∙ of_second (i + 1)
]
  where
    of_second : (n : ℕ) → ((n == 0) || (n == n)) ≡ true
    of_second n = elim (cases_Bool (n == 0)) [
      | inl y ↦ rw y refl
      | inr k ↦ let same : (n == n) ≡ true = eq-eqb n n refl in rw (k, same) refl
    ]

pub program_kept : (d : Scheduled) (changes : TextsSoFar) (units : ℕ → List AccessUnit) (slots i : ℕ) (p : DescribedProgram) → IsInRange d.description →
    Promised d.description d.schedule → Fits (content_over d changes units)
    → slice_get d.description.programs i ≡ Some p → ProgramKept d p slots (run_bytes (content_over d changes units) 0 slots)
program_kept d changes units slots i p r promised fits is = record {
  clocks = ap (map (λ (e : Entry). e.packet)) listed
      ∙ clock_says d p content 0 slots clock
      ∙ sym (ap (map (λ (e : Entry). pcr_view p.pcr_pid (pcr_at d.description.rate d.description.base0 (188 * e.index + 10)))) listed);
  pcrs_recur = subst (λ (l : List ℕ). Recur d.description.rate p.pcr_limit 0 l (188 * slots)) (sym times) (promised.pcrs i p slots is);
  system_transport =
      λ x. subst (λ (l : List ℕ). system_tb_fullness d.description.rate x l ≤ 512) (sym entering) ((promised.programs i within).transport part x rises);
  system_buffer = λ x. subst (λ (l : List ℕ). bsys_fullness d.description.rate x l ≤ 1536) (sym entering) ((promised.programs i within).system part x rises);
}
  where
    content : ℕ → Content
    content = content_over d changes units

    within : i < length d.description.programs
    within = slice_get_within d.description.programs i p is

    listed : pid_list p.pcr_pid (run_bytes content 0 slots) ≡ entries_in p.pcr_pid content 0 slots
    listed = run_pid_list p.pcr_pid slots content fits

    k : ℕ
    k = clock_of d.description i

    named : slot_pid d.description (Pcr k) ≡ Some p.pcr_pid
    named = clock_named d.description i p r is

    clock : (t : ℕ) → is_of_pid p.pcr_pid (view_of (content t)) ≡ true → content t ≡ reference_in d p t
    clock t y = clock_at d changes units t k p named (own_is k (slot_of d.schedule t) (sym (clock_slots d changes units k p r named t) ∙ y))

    times : map (λ e. 188 * e.index + 10) (pid_list p.pcr_pid (run_bytes content 0 slots)) ≡ map (λ s. 188 * s + 10)
        (own_slots (owned d.schedule (PcrItem k)) 0 slots)
    times = indices_at_ten (pid_list p.pcr_pid (run_bytes content 0 slots))
        ∙ ap (map (λ (s : ℕ). 188 * s + 10)) (run_indices p.pcr_pid slots content (owned d.schedule (PcrItem k)) fits (clock_slots d changes units k p r named))

    part : List ℕ
    part = own_slots (enters p.pmt_pid content) 0 slots

    entering : table_packets p.pmt_pid (run_bytes content 0 slots) ≡ part
    entering = run_two 0 p.pmt_pid slots content (enters p.pmt_pid content) fits (λ t. refl)

    rises : Rises (owned d.schedule (System i)) 0 part
    rises = part_rises (owned d.schedule (System i)) (enters p.pmt_pid content) (system_slot d changes units i p r is) 0 slots
