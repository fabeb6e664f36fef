-- The clock references of a run on any PID: on the PCR_PID of a program each packet is one, on any other PID no packet has one.
use Rattle.std.proofs.Common.{◌≡◌, ◌∙◌, sym, ℕ, zero, suc, ◌+◌, ◌*◌, ◌≤◌, false, List, [], ◌∷◌, map, Option, Some, None, refl, subst, inl, inr, arith}
use Rattle.std.proofs.lemmas.Bool.{cases_Bool}
use Rattle.ts_packet.specs.Views.{AdaptationView, NoFlags, WithFlags}
use Rattle.ts_packet.specs.PcrBytes.{has_pcr}
use Rattle.ts_packet.specs.PidList.{Entry, cut_packets, is_of_pid}
use Rattle.clock27.specs.Recurrence.{Recur}
use Rattle.clock27.specs.Reference.{Reference, pcr_at}
use Rattle.ts_packet.specs.Packets.{pcr_view}
use Rattle.std.specs.Prelude.{is_some, slice_get}
use Rattle.std.proofs.lemmas.List.Elements.{All-get_or}
use Rattle.std.proofs.lemmas.Option.{get_or_from_slice_get, slice_get_within}
use Rattle.pes_packet.specs.AccessUnits.{AccessUnit}
use Rattle.slot_contents.specs.Contents.{Content, entries_in, run_bytes, view_of}
use Rattle.slot_contents.proofs.Runs.{run_pid_list}
use Rattle.description_parts.specs.Described.{Described, DescribedProgram}
use Rattle.description_parts.specs.Ranges.{IsInRange, IsProgram}
use Rattle.slot_plan.specs.Promised.{Promised}
use Rattle.mux_core.specs.Scheduled.{Scheduled}
use Rattle.mux_core.specs.Headline.{Headline, ProgramKept, UnitsKept}
use Rattle.mux_core.specs.Histories.{content_at}
use Rattle.mux_core.proofs.Whole.{contents_fit, headline}
use Rattle.laws_run.proofs.ClocksRecur.{NoClock, all_none, find_program, none_here}
use Rattle.es_events.specs.declared.view_options.ViewOptions.{ViewOptions}
use Rattle.es_events.specs.Clocks.{place_of, sample_in}
use Rattle.laws_view.proofs.ClockAhead.{AreClocks, ClockIs, IsReference, NoClocks, entries_from, places}
use Rattle.laws_view.proofs.PidEntries.{pid_entries}

-- No clock reference is read from a packet without one.
none_read : (place : Option ℕ) (a : Option AdaptationView) → has_pcr a ≡ false → sample_in place a ≡ None
unfolding sample_in
none_read place None none = refl
none_read place (Some NoFlags) none = refl
none_read place (Some (WithFlags parts)) none = by parts.pcr none refl
  where
    by : (o : Option Reference) → is_some o ≡ false → parts.pcr ≡ o → sample_in place (Some (WithFlags parts)) ≡ None
    by None none is = rw is refl
    by (Some r) none is = absurd (let no : ⊥ = cc in no)

no_clocks : (options : ViewOptions) (pid : ℕ) (content : ℕ → Content) (s n : ℕ) → ((t : ℕ) → NoClock pid (content t)) →
    NoClocks options (entries_in pid content s n)
unfolding entries_in NoClocks
no_clocks options pid content s zero none = tt
no_clocks options pid content s (suc n) none =
    let rest = no_clocks options pid content (suc s) n none in
    elim (cases_Bool (is_of_pid pid (view_of (content s)))) [
      | inl y ↦ rw y (none_read (place_of options.arrival s) (view_of (content s)).adaptation (none_here pid (content s) (none s) y), rest)
      | inr k ↦ rw k rest
    ]

-- The clock references on the PCR_PID of a program

clocks_of : (rate base0 pid : ℕ) (es : List Entry) → map (λ e. e.packet) es ≡ map (λ e. pcr_view pid (pcr_at rate base0 (188 * e.index + 10))) es →
    AreClocks rate base0 pid es
unfolding AreClocks
clocks_of rate base0 pid [] h = tt
clocks_of rate base0 pid (e ∷ es) h =
    let first : e.packet ≡ pcr_view pid (pcr_at rate base0 (188 * e.index + 10)) = cc in
    let others : map (λ e. e.packet) es ≡ map (λ e. pcr_view pid (pcr_at rate base0 (188 * e.index + 10))) es = cc in
    (first, clocks_of rate base0 pid es others)

-- Each packet on the PCR_PID is a clock reference, and they recur.
pub clocks_kept : (d : Scheduled) (p : DescribedProgram) (slots : ℕ) (bytes : List ℕ) → ProgramKept d p slots bytes →
    AreClocks d.description.rate d.description.base0 p.pcr_pid (entries_from p.pcr_pid 0 (cut_packets bytes))
    × Recur d.description.rate p.pcr_limit 0 (places (entries_from p.pcr_pid 0 (cut_packets bytes))) (188 * slots)
clocks_kept d p slots bytes kept =
    let same = pid_entries p.pcr_pid bytes in
    let rate : ℕ = d.description.rate in
    let base0 : ℕ = d.description.base0 in (
      clocks_of rate base0 p.pcr_pid (entries_from p.pcr_pid 0 (cut_packets bytes))
          (subst (λ (es : List Entry). map (λ e. e.packet) es ≡ map (λ e. pcr_view p.pcr_pid (pcr_at rate base0 (188 * e.index + 10))) es) same kept.clocks),
      subst (λ (es : List Entry). Recur rate p.pcr_limit 0 (places es) (188 * slots)) same kept.pcrs_recur,
    )

pub clock_begins : (d : Scheduled) (p : DescribedProgram) (slots : ℕ) (bytes : List ℕ) (options : ViewOptions) → ProgramKept d p slots bytes →
    ClockIs options d.description.rate d.description.base0 p.pcr_limit slots p.pcr_pid 0 None (entries_from p.pcr_pid 0 (cut_packets bytes))
unfolding ClockIs IsReference
clock_begins d p slots bytes options kept = inl (clocks_kept d p slots bytes kept)

pub program_range : (d : Described) (i : ℕ) (p : DescribedProgram) → IsInRange d → slice_get d.programs i ≡ Some p → IsProgram p
program_range d i p ranges is =
    rw (get_or_from_slice_get d.programs i p p is) at (All-get_or IsProgram d.programs i p (slice_get_within d.programs i p is) ranges.programs)

-- The clock references on any PID
pub run_clock : (d : Scheduled) (units : ℕ → List AccessUnit) (slots : ℕ) (options : ViewOptions) (pid : ℕ) → IsInRange d.description →
    Promised d.description d.schedule → UnitsKept d units →
    (limit : ℕ) ×
    ((limit ≤ 100) × ClockIs options d.description.rate d.description.base0 limit slots pid 0 None
    (entries_from pid 0 (cut_packets (run_bytes (content_at d units) 0 slots))))
unfolding ClockIs
run_clock d units slots options pid ranges promised kept =
    let rate : ℕ = d.description.rate in
    let base0 : ℕ = d.description.base0 in
    let bytes : List ℕ = run_bytes (content_at d units) 0 slots in
    let h : Headline d units slots bytes = headline d units slots ranges promised kept in
    elim (find_program d.description.programs pid) [
      | inl (i, p, is, same) ↦ (
        p.pcr_limit,
        (
          (program_range d.description i p ranges is).most_limit,
          subst (λ (q : ℕ). ClockIs options rate base0 p.pcr_limit slots q 0 None (entries_from q 0 (cut_packets bytes))) same
              (clock_begins d p slots bytes options (h.programs i p is)),
        ),
      )
      | inr none ↦ (
        0,
        (
          omega arith,
          inr (
            refl,
            subst (λ (es : List Entry). NoClocks options es)
                (sym (run_pid_list pid slots (content_at d units) (contents_fit d units ranges kept)) ∙ pid_entries pid bytes)
                (no_clocks options pid (content_at d units) 0 slots (λ t. all_none d units pid t none)),
          ),
        ),
      )
    ]
