-- On a PID without a ready-made table no section of any table is late in a multiplexer's output.
use Rattle.std.proofs.Common.{◌≡◌, ◌∙◌, ℕ, ◌+◌, ◌-◌, ◌*◌, ◌/◌, ◌^◌, ◌<◌, ◌==◌, nat_le, Bool, true, false, cond, List, [], ◌∷◌, ◌++◌, length, take, drop, map}
use Rattle.std.proofs.Common.{filter}
use Rattle.std.proofs.Common.{slice_get, inl, inr, Option, Some, None, refl, sym, ap, subst, arith, All, eqb-true}
use Rattle.std.specs.Prelude.{slice_index}
use Rattle.std.specs.List.{cons_option, filter_map}
use Rattle.std.proofs.lemmas.Bool.{cases_Bool}
use Rattle.std.proofs.lemmas.List.Elements.{All-head, All-tail}
use Rattle.own_slots.specs.Slots.{own_slots}
use Rattle.own_slots.specs.Rounds.{starts}
use Rattle.pes_packet.specs.AccessUnits.{AccessUnit}
use Rattle.pes_packet.specs.Encoding.{pes_packet_bytes}
use Rattle.ts_packet.specs.PidList.{pid_list}
use Rattle.slot_contents.specs.Contents.{run_bytes}
use Rattle.slot_contents.proofs.Runs.{run_length}
use Rattle.description_parts.specs.Described.{DescribedStream}
use Rattle.description_parts.specs.Ranges.{IsInRange}
use Rattle.description_parts.specs.Tables.{kind_pid, table_count, table_kind, table_kinds, table_pid}
use Rattle.description_parts.specs.declared.table_kind.TableKind.{TableKind}
use Rattle.description_parts.specs.declared.table_kind.TableKind.TheVariants.{Eit, Nit, Pat, Pmt, Private, Sdt, Tdt}
use Rattle.slot_plan.specs.Promised.{Promised}
use Rattle.table_rounds.specs.Tables.{Table, round_places}
use Rattle.unit_queue.specs.OwnedStreams.{has_access}
use Rattle.pid_findings.specs.Views.{FindingView, PidFinding}
use Rattle.pid_findings.specs.Findings.{findings_to_end}
use Rattle.demux.specs.Laws.{with_pid_at}
use Rattle.laws_run.specs.Rounds.{sections_of_rounds}
use Rattle.laws_run.specs.Sections.{section_found, section_packets}
use Rattle.laws_run.specs.Sent.{Ending, Sending, each_found, if_sent, next_of, sendings}
use Rattle.laws_run.specs.Units.{carried_in, unit_found, unit_header}
use Rattle.mux_core.specs.Scheduled.{Scheduled}
use Rattle.mux_core.specs.Headline.{UnitsKept}
use Rattle.mux_core.specs.Histories.{content_at, owned_stream, table_of}
use Rattle.mux_core.proofs.TablesRead.{there as kind_there}
use Rattle.mux_core.proofs.Whole.{contents_fit}
use Rattle.monitor.specs.Begins.{found_on}
use Rattle.laws_run.specs.GivenBack.{GivenBack, IsSentOn, stream_findings, table_findings}
use Rattle.laws_run.specs.Placed.{section_slots, sent_units}
use Rattle.laws_run.proofs.DistinguishableSections.{rounds_all}
use Rattle.laws_run.proofs.NothingElse.{sent_or_silent}
use Rattle.laws_run.proofs.RunFindings.{given_back, is_run, silent_back}
use Rattle.laws_run.proofs.Soundness.{as_reported}
use Rattle.laws_run.proofs.TableBegins.{made_distinguishable}
use Rattle.laws_run.proofs.TableIds.{HasId, table_id_of, text_id}
use Rattle.laws_run.proofs.TablesWritten.{IsMade}
use Rattle.tr101290.specs.Intervals.{no_section}
use Rattle.tr101290.specs.Limits.{milliseconds}
use Rattle.tr101290.specs.Sections.{begin_of, section_begin, section_by}
use Rattle.tr101290.specs.declared.intervals.SectionBegin.{SectionBegin}
use Rattle.tr101290.specs.declared.intervals.TableTiming.TheVariants.{ConstantRate}
use Rattle.laws_view.specs.Tables.{errors_from, sections_of}
use Rattle.laws_view.specs.MuxedTables.{table_errors}
use Rattle.laws_view.specs.ViewedTables.{IsNotReadyMade}
use Rattle.laws_view.proofs.MuxedTables.{run_tables_law}
use Rattle.laws_view.proofs.PartErrors.{at_pid}
use Rattle.laws_view.proofs.PartsInTime.{parts_in_time}

-- 1. The sections of a table_id in a demultiplexer's findings on a PID

abbrev reported_sections : ℕ → List FindingView → List SectionBegin
reported_sections table_id fs = filter (λ s. s.table_id == table_id) (filter_map section_begin fs)

-- A unit is no section.
pub unit_none : (id base0 pid : ℕ) (e : Ending) (u : AccessUnit) (i : ℕ) (is : List ℕ) → section_begin (with_pid_at pid (unit_found id base0 e u i is)) ≡ None
unfolding unit_found section_by begin_of
unit_none id base0 pid e u i is = elim (cases_Bool ((unit_header id base0 u).len == 0)) [
  | inl y ↦ rw y refl
  | inr n ↦ elim (cases_Bool (nat_le (length (pes_packet_bytes id base0 u)) (carried_in (has_access u) (i ∷ is)))) [
    | inl y ↦ rw (n, y) refl
    | inr k ↦ rw (n, k) refl
  ]
]

units_none : (id base0 pid n : ℕ) (sent : List (Sending AccessUnit)) →
    filter_map section_begin (map (with_pid_at pid) (each_found (unit_found id base0) n sent)) ≡ []
unfolding each_found if_sent
units_none id base0 pid n [] = refl
units_none id base0 pid n (x ∷ sent) = by (units_none id base0 pid n sent) x.packets
  where
    by : filter_map section_begin (map (with_pid_at pid) (each_found (unit_found id base0) n sent)) ≡ [] → (packets : List ℕ) →
        filter_map section_begin (map (with_pid_at pid)
        (if_sent (unit_found id base0 (next_of n sent) x.item) packets ++ each_found (unit_found id base0) n sent)) ≡ []
    by rest [] = rest
    by rest (i ∷ is) =
        ap (λ (o : Option SectionBegin). cons_option o (filter_map section_begin (map (with_pid_at pid) (each_found (unit_found id base0) n sent))))
        (unit_none id base0 pid (next_of n sent) x.item i is) ∙ rest

-- The section, if any, has this table_id.
unfoldable HasTable : ℕ → Option SectionBegin → Type 0
HasTable id None = Unit {0}
HasTable id (Some s) = s.table_id ≡ id

section_has : (pid : ℕ) (e : Ending) (text : List ℕ) (i : ℕ) (is : List ℕ) →
    HasTable (slice_index text 0) (section_begin (with_pid_at pid (section_found e text i is)))
unfolding section_found section_by begin_of HasTable
section_has pid e text i is = elim (cases_Bool (nat_le (1 + length text) (184 * length (i ∷ is)))) [ inl y ↦ rw y refl | inr k ↦ rw k refl ]

left_out : (id table_id : ℕ) (o : Option SectionBegin) (rest : List SectionBegin) → HasTable id o → (id == table_id) ≡ false →
    filter (λ (s : SectionBegin). s.table_id == table_id) (cons_option o rest) ≡ filter (λ (s : SectionBegin). s.table_id == table_id) rest
unfolding HasTable
left_out id table_id None rest h e = refl
left_out id table_id (Some s) rest h e =
    ap (λ (b : Bool). cond b (s ∷ filter (λ (z : SectionBegin). z.table_id == table_id) rest) (filter (λ (z : SectionBegin). z.table_id == table_id) rest))
    (ap (λ (n : ℕ). n == table_id) h ∙ e)

others_none : (pid id table_id n : ℕ) (texts : List (List ℕ)) (packets : List ℕ) → (id == table_id) ≡ false → All (HasId id) texts →
    reported_sections table_id (map (with_pid_at pid) (each_found section_found n (sendings section_packets texts packets))) ≡ []
unfolding each_found if_sent sendings
others_none pid id table_id n [] packets e ids = refl
others_none pid id table_id n (text ∷ texts) packets e ids =
    by (others_none pid id table_id n texts (drop (section_packets text) packets) e (All-tail (HasId id) text texts ids)) (take (section_packets text) packets)
  where
    left : List (Sending (List ℕ))
    left = sendings section_packets texts (drop (section_packets text) packets)

    by : reported_sections table_id (map (with_pid_at pid) (each_found section_found n left)) ≡ [] → (js : List ℕ) →
        reported_sections table_id (map (with_pid_at pid) (if_sent (section_found (next_of n left) text) js ++ each_found section_found n left)) ≡ []
    by rest [] = rest
    by rest (i ∷ is) =
        left_out id table_id (section_begin (with_pid_at pid (section_found (next_of n left) text i is)))
        (filter_map section_begin (map (with_pid_at pid) (each_found section_found n left)))
        (subst (λ (x : ℕ). HasTable x (section_begin (with_pid_at pid (section_found (next_of n left) text i is)))) (All-head (HasId id) text texts ids)
        (section_has pid (next_of n left) text i is)) e
        ∙ rest

-- 2. The errors of a PID in a run

module _ (d : Scheduled) (units : ℕ → List AccessUnit) (slots : ℕ) (ranges : IsInRange d.description) (promised : Promised d.description d.schedule)
    (kept : UnitsKept d units) (few : slots < 2 ^ 64 - 1) where
  abbrev rate : ℕ
  rate = d.description.rate

  abbrev bytes : List ℕ
  bytes = run_bytes (content_at d units) 0 slots

  few_packets : length bytes / 188 < 2 ^ 64 - 1
  few_packets = let size : length bytes ≡ 188 * slots = run_length (content_at d units) 0 slots (contents_fit d units ranges kept) in omega (arith, size, few)

  -- If the findings of a PID have no section of a table_id, the table_id has no errors on it.
  by_reported : (pid table_id : ℕ) (reported : List FindingView) → map (with_pid_at pid) (found_on pid bytes) ≡ reported →
      reported_sections table_id reported ≡ [] →
      table_errors rate pid table_id bytes ≡ []
  unfolding errors_from
  by_reported pid table_id reported e none =
      ap (λ (l : List SectionBegin). errors_from (no_section (ConstantRate rate)) (filter (λ (s : SectionBegin). s.table_id == table_id) l))
      (sym (at_pid pid (found_on pid bytes)) ∙ ap (filter_map section_begin) e)
      ∙ ap (errors_from (no_section (ConstantRate rate))) none

  back : GivenBack d units slots bytes
  back = given_back d units slots ranges kept few

  -- If the table on a PID has another table_id, this table_id has no errors there.
  other_id : (t table_id : ℕ) (k : TableKind) → table_kind d.description t ≡ Some k → t < table_count d.description → IsMade k →
      (table_pid d.description t == 8191) ≡ false → (table_id_of k == table_id) ≡ false →
      table_errors rate (table_pid d.description t) table_id bytes ≡ []
  other_id t table_id k is lt made no_null e =
      let table : Table = table_of d t in
      let ids : All (HasId (table_id_of k)) (sections_of_rounds table slots) =
      rounds_all (HasId (table_id_of k)) table (own_slots (starts table.own (round_places table.lengths) 0) 0 slots)
      (λ s j moment within. text_id d.description t j moment k is made within) in
      by_reported (table_pid d.description t) table_id (table_findings d slots t)
      (sym (as_reported (table_pid d.description t) bytes no_null few_packets) ∙ back.tables t lt (made_distinguishable d.description t k is made))
      (others_none (table_pid d.description t) (table_id_of k) table_id slots (sections_of_rounds table slots) (section_slots table slots) e ids)

  -- The table_id of the table on a PID has no errors there, whatever the kind of the table.
  same_id : (t : ℕ) (k : TableKind) → table_kind d.description t ≡ Some k → IsMade k → kind_pid d.description k ≡ table_pid d.description t →
      table_errors rate (table_pid d.description t) (table_id_of k) bytes ≡ []
  unfolding milliseconds
  same_id t Pat is made on = subst (λ (pid : ℕ). table_errors rate pid 0x00 bytes ≡ []) on (run_tables_law d units slots ranges promised kept few).associations
  same_id t (Pmt p) is made on = parts_in_time d units slots 500 t (Pmt p) ranges promised kept few is tt (omega arith) refl refl
  same_id t Nit is made on = subst (λ (pid : ℕ). table_errors rate pid 0x40 bytes ≡ []) on (run_tables_law d units slots ranges promised kept few).network
  same_id t Sdt is made on = subst (λ (pid : ℕ). table_errors rate pid 0x42 bytes ≡ []) on (run_tables_law d units slots ranges promised kept few).services
  same_id t Eit is made on = subst (λ (pid : ℕ). table_errors rate pid 0x4E bytes ≡ []) on (run_tables_law d units slots ranges promised kept few).events
  same_id t Tdt is made on = subst (λ (pid : ℕ). table_errors rate pid 0x70 bytes ≡ []) on (run_tables_law d units slots ranges promised kept few).time
  same_id t (Private i) is made on = absurd made

  made_kind : (t : ℕ) (k : TableKind) (pid : ℕ) → table_kind d.description t ≡ Some k → table_pid d.description t ≡ pid → IsNotReadyMade d.description pid →
      IsMade k
  made_kind t Pat pid is on none = tt
  made_kind t (Pmt p) pid is on none = tt
  made_kind t Nit pid is on none = tt
  made_kind t Sdt pid is on none = tt
  made_kind t Eit pid is on none = tt
  made_kind t Tdt pid is on none = tt
  made_kind t (Private i) pid is on none = none t i is on

  of_table : (t table_id : ℕ) → t < table_count d.description → (table_pid d.description t == 8191) ≡ false →
      IsNotReadyMade d.description (table_pid d.description t) →
      table_errors rate (table_pid d.description t) table_id bytes ≡ []
  of_table t table_id lt no_null none =
      let k = kind_there (table_kinds d.description) t lt in
      let kind = k.1 in
      let on : table_pid d.description t ≡ kind_pid d.description k.0 = rw kind refl in
      let made : IsMade k.0 = made_kind t k.0 (table_pid d.description t) k.1 refl none in
      by k.0 k.1 on made (table_id_of k.0 == table_id) refl
    where
      by : (k : TableKind) → table_kind d.description t ≡ Some k → table_pid d.description t ≡ kind_pid d.description k → IsMade k → (b : Bool) →
          (table_id_of k == table_id) ≡ b → table_errors rate (table_pid d.description t) table_id bytes ≡ []
      by k is on made true e =
          subst (λ (x : ℕ). table_errors rate (table_pid d.description t) x bytes ≡ []) (eqb-true (table_id_of k) table_id e) (same_id t k is made (sym on))
      by k is on made false e = other_id t table_id k is lt made no_null e

  of_stream : (k table_id : ℕ) (s : DescribedStream) → slice_get d.description.streams k ≡ Some s → (s.pid == 8191) ≡ false →
      table_errors rate s.pid table_id bytes ≡ []
  of_stream k table_id s is no_null =
      by_reported s.pid table_id (stream_findings d units slots k s) (sym (as_reported s.pid bytes no_null few_packets) ∙ back.streams k s is)
      (ap (filter (λ (z : SectionBegin). z.table_id == table_id))
      (units_none s.stream_id d.description.base0 s.pid slots (sent_units (owned_stream d k s) slots (units k))))

  of_pid : (pid table_id : ℕ) → (pid == 8191) ≡ false → IsNotReadyMade d.description pid → table_errors rate pid table_id bytes ≡ []
  of_pid pid table_id no_null none = elim (sent_or_silent d.description pid) [
    | inl sent ↦ by sent
    | inr silent ↦
        by_reported pid table_id []
        (sym (as_reported pid bytes no_null few_packets) ∙ silent_back d units slots pid (is_run d units slots ranges kept few) no_null silent)
        refl
  ]
    where
      by : IsSentOn d.description pid → table_errors rate pid table_id bytes ≡ []
      by (inl (k, s, is, same)) = subst (λ (q : ℕ). table_errors rate q table_id bytes ≡ []) same
          (of_stream k table_id s is (ap (λ (q : ℕ). q == 8191) same ∙ no_null))
      by (inr (t, lt, same)) = subst (λ (q : ℕ). table_errors rate q table_id bytes ≡ []) same
          (of_table t table_id lt (ap (λ (q : ℕ). q == 8191) same ∙ no_null) (subst (IsNotReadyMade d.description) (sym same) none))

  pub all_in_time : (pid table_id : ℕ) → IsNotReadyMade d.description pid → table_errors rate pid table_id bytes ≡ []
  unfolding errors_from
  all_in_time pid table_id none = by (pid == 8191) refl
    where
      by : (b : Bool) → (pid == 8191) ≡ b → table_errors rate pid table_id bytes ≡ []
      by true e = ap (λ (b : Bool). errors_from (no_section (ConstantRate rate))
          (sections_of pid table_id (cond b [] (findings_to_end (length bytes / 188) (pid_list pid bytes))))) e
      by false e = of_pid pid table_id e none
