-- The finished bytes keep the promises over any number of line-ups.
use Rattle.std.proofs.Common.{◌≡◌, ◌⊎◌, ℕ, suc, ◌+◌, ◌-◌, ◌<◌, List, Some, All, slice_get, refl, sym, subst, arith}
use Rattle.ts_packet.specs.Packets.{null_view}
use Rattle.ts_packet.specs.PidList.{Entry, entries_of}
use Rattle.slot_contents.specs.Contents.{entry_at}
use Rattle.slot_contents.specs.RunLaws.{Fits}
use Rattle.slot_contents.proofs.Runs.{run_entries, run_length}
use Rattle.description_parts.specs.Described.{DescribedProgram}
use Rattle.description_parts.specs.Tables.{table_kinds, table_count, table_pid, clock_of}
use Rattle.slot_plan.specs.declared.slot.Slot.TheVariants.{Stream, Pcr, Table}
use Rattle.slot_plan.specs.SlotPids.{slot_pid}
use Rattle.slot_plan.proofs.Clocks.{clock_named}
use Rattle.tstd.specs.Carried.{table_packets}
use Rattle.mux_core.specs.Headline.{HeadlineOver, IsNamed, IsPayloadAlone, IsClockAlone}
use Rattle.mux_core.proofs.Programs.{pat_named, pmt_named}
use Rattle.mux_core.proofs.RandomAccess.{access_known}
use Rattle.mux_core.proofs.Sizes.{all_read}
use Rattle.mux_core.proofs.TablesRead.{there}
use Rattle.mux_core.proofs.Whole.{headline_over}
use Rattle.turns.specs.Turns.{Turn, turn_at, content_of, content_by, bytes_by, own_bytes, IsKept, TurnsFit}
use Rattle.turns.specs.LineUpRuns.{HeadlineOverLineUps, ProgramOnAir, LineUpsLaw}
use Rattle.turns.proofs.TurnLists.{all_made, at_slot}
use Rattle.turns.proofs.PidsOver.{now_kept, turn_kept, own_fits, fits_by, stream_named, whole_over, clocks_over, comes_somewhere}
use Rattle.turns.proofs.TwoPids.{tables_same}
use Rattle.turns.proofs.SameLists.{stream_kept_same, table_kept_same, program_kept_from}

-- The promises of a turn's own history
own_headline : (turn : Turn) (n : ℕ) → IsKept turn →
    HeadlineOver turn.scheduled turn.history.changes turn.history.units n (own_bytes turn n)
own_headline turn n kept = headline_over turn.scheduled turn.history.changes turn.history.units n kept.ranges kept.promised kept.units

-- ---- Each packet, by the turn in force in its slot

each_packet : (P : Turn → Entry → Type 0) (now : Turn) (earlier : List Turn) (n : ℕ) → TurnsFit now earlier →
    ((turn : Turn) (m : ℕ) → IsKept turn → All (P turn) (entries_of (own_bytes turn m))) →
    All (λ e. P (turn_at now earlier e.index) e) (entries_of (bytes_by now earlier n))
each_packet P now earlier n fit promised =
    subst (All (λ (e : Entry). P (turn_at now earlier e.index) e)) (sym (run_entries (content_by now earlier) n (fits_by now earlier fit)))
    (all_made (λ (e : Entry). P (turn_at now earlier e.index) e) (content_by now earlier) 0 n (λ t le lt. in_slot t))
  where
    in_slot : (t : ℕ) → P (turn_at now earlier t) (entry_at t (content_by now earlier t))
    in_slot t =
        let turn : Turn = turn_at now earlier t in
        let kept : IsKept turn = turn_kept now earlier t fit in
        at_slot (P turn) (content_of turn) t (subst (All (P turn)) (run_entries (content_of turn) (suc t) (own_fits turn kept)) (promised turn (suc t) kept))

abbrev IsKnown : Turn → Entry → Type 0
IsKnown turn e = (e.packet ≡ null_view) ⊎ IsNamed turn.scheduled.description e.packet

abbrev IsClear : Turn → Entry → Type 0
IsClear turn e = IsPayloadAlone e.packet ⊎ IsClockAlone turn.scheduled.description e.packet

-- ---- What the turn in force has on air

table_named : (turn : Turn) (t : ℕ) → t < table_count turn.scheduled.description →
    slot_pid turn.scheduled.description (Table t) ≡ Some (table_pid turn.scheduled.description t)
unfolding slot_pid
table_named turn t lt = let kind = there (table_kinds turn.scheduled.description) t lt in let is = kind.1 in rw is refl

program_on_air : (now : Turn) (earlier : List Turn) (more i : ℕ) (p : DescribedProgram) → TurnsFit now earlier →
    slice_get now.scheduled.description.programs i ≡ Some p → ProgramOnAir now earlier p (now.from + more) (bytes_by now earlier (now.from + more))
program_on_air now earlier more i p fit is =
    let kept : IsKept now = now_kept now earlier fit in
    let n : ℕ = now.from + more in
    let clock : ℕ = clock_of now.scheduled.description i in
    let named : slot_pid now.scheduled.description (Pcr clock) ≡ Some p.pcr_pid = clock_named now.scheduled.description i p kept.ranges is in
    let since = comes_somewhere p.pcr_pid (Pcr clock) now earlier fit named in
    let tables : table_packets p.pmt_pid (bytes_by now earlier n) ≡ table_packets p.pmt_pid (own_bytes now n) =
    tables_same p.pmt_pid n (content_by now earlier) (content_of now) (fits_by now earlier fit) (own_fits now kept)
    (whole_over now earlier 0 (Table 0) more fit (pat_named now.scheduled) refl)
    (whole_over now earlier p.pmt_pid (Table (i + 1)) more fit (pmt_named now.scheduled i p is) refl) in
    record {
      at = since.0;
      comes = since.1;
      kept = program_kept_from now.scheduled p since.0 n (content_of now) (bytes_by now earlier n) (own_fits now kept)
          (clocks_over now earlier p.pcr_pid (Pcr clock) since.0 more fit named since.1) tables ((own_headline now n kept).programs i p is);
    }

kept_over : (now : Turn) (earlier : List Turn) (more : ℕ) → TurnsFit now earlier →
    HeadlineOverLineUps now earlier (now.from + more) (bytes_by now earlier (now.from + more))
kept_over now earlier more fit =
    let n : ℕ = now.from + more in
    let kept : IsKept now = now_kept now earlier fit in
    let fits : Fits (content_by now earlier) = fits_by now earlier fit in
    let own = own_headline now n kept in
    record {
      size = run_length (content_by now earlier) 0 n fits;
      packets = all_read (content_by now earlier) n fits;
      pids = each_packet IsKnown now earlier n fit (λ turn m k. (own_headline turn m k).pids);
      clear = each_packet IsClear now earlier n fit (λ turn m k. (own_headline turn m k).clear);
      access = access_known (content_by now earlier) n fits;
      streams = λ k s is. stream_kept_same now.scheduled k s (now.history.units k) n (own_bytes now n) (bytes_by now earlier n)
          (sym (whole_over now earlier s.pid (Stream k) more fit (stream_named now k s is) refl)) (own.streams k s is);
      programs = λ i p is. program_on_air now earlier more i p fit is;
      tables = λ t lt. table_kept_same now.scheduled now.history.changes t n (own_bytes now n) (bytes_by now earlier n)
          (sym (whole_over now earlier (table_pid now.scheduled.description t) (Table t) more fit (table_named now t lt) refl)) (own.tables t lt);
    }

pub line_ups_law : LineUpsLaw
line_ups_law now earlier slots fit le =
    let count : now.from + (slots - now.from) ≡ slots = omega (arith, le) in
    subst (λ (n : ℕ). HeadlineOverLineUps now earlier n (bytes_by now earlier n)) count (kept_over now earlier (slots - now.from) fit)
