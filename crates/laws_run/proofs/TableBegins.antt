-- The packets where the monitor finds that sections of a table begin, if the table is not ready-made.
use Rattle.std.proofs.Common.{◌≡◌, ℕ, ◌-◌, ◌*◌, ◌/◌, ◌^◌, ◌<◌, true, false, List, length, slice_get, Option, Some, sym, ap, subst, ◌∙◌, arith, All}
use Rattle.std.proofs.lemmas.Option.{slice_get_within}
use Rattle.std.proofs.lemmas.List.Elements.{All-nil}
use Rattle.own_slots.specs.Slots.{own_slots}
use Rattle.own_slots.specs.Rounds.{starts}
use Rattle.pes_packet.specs.AccessUnits.{AccessUnit}
use Rattle.ts_packet.specs.PidList.{Entry, pid_list}
use Rattle.slot_contents.specs.Contents.{Content, run_bytes, entries_in}
use Rattle.slot_contents.specs.RunLaws.{Fits}
use Rattle.slot_contents.proofs.Runs.{run_length, run_pid_list}
use Rattle.description_parts.specs.Described.{Described}
use Rattle.description_parts.specs.Ranges.{IsInRange}
use Rattle.description_parts.specs.Tables.{table_kinds, table_kind, table_count, table_pid}
use Rattle.description_parts.specs.declared.table_kind.TableKind.{TableKind}
use Rattle.description_parts.specs.declared.table_kind.TableKind.TheVariants.{Pat, Pmt, Nit, Sdt, Eit, Tdt, Private}
use Rattle.table_rounds.specs.Tables.{Table, round_places}
use Rattle.table_rounds.specs.Payloads.{TableIsAlone, Begins}
use Rattle.monitor.specs.Begins.{found_on, table_begins}
use Rattle.laws_run.specs.Sections.{IsRecognized}
use Rattle.laws_run.specs.Rounds.{sections_of_rounds}
use Rattle.laws_run.proofs.TablesAndStreams.{tables_carry, tables_come_back}
use Rattle.mux_core.specs.Scheduled.{Scheduled}
use Rattle.mux_core.specs.Histories.{table_of, content_at}
use Rattle.mux_core.specs.Headline.{UnitsKept}
use Rattle.mux_core.proofs.Whole.{contents_fit}
use Rattle.laws_run.specs.Distinguishable.{is_mistaken, ready_made, IsDistinguishable}
use Rattle.laws_run.proofs.TablesWritten.{IsMade}
use Rattle.laws_run.proofs.DistinguishableSections.{section_distinguishable, rounds_all}
use Rattle.laws_run.proofs.RunFindings.{is_run, one_table, has_places, has_room}
use Rattle.laws_run.proofs.Soundness.{as_reported}
use Rattle.laws_run.proofs.SectionBegins.{begun, begin_slots, entry_there}
use Rattle.laws_run.proofs.TableIds.{table_id_of, HasId, text_id}

-- A table that is made from the description has no ready-made sections, so its sections are distinguishable.
none_mistaken : (d : Described) (k : TableKind) → IsMade k → All (λ text. is_mistaken text ≡ false) (ready_made d (Some k))
none_mistaken d Pat made = All-nil (λ (text : List ℕ). is_mistaken text ≡ false)
none_mistaken d (Pmt p) made = All-nil (λ (text : List ℕ). is_mistaken text ≡ false)
none_mistaken d Nit made = All-nil (λ (text : List ℕ). is_mistaken text ≡ false)
none_mistaken d Sdt made = All-nil (λ (text : List ℕ). is_mistaken text ≡ false)
none_mistaken d Eit made = All-nil (λ (text : List ℕ). is_mistaken text ≡ false)
none_mistaken d Tdt made = All-nil (λ (text : List ℕ). is_mistaken text ≡ false)
none_mistaken d (Private i) made = absurd made

pub made_distinguishable : (d : Described) (t : ℕ) (k : TableKind) → table_kind d t ≡ Some k → IsMade k → IsDistinguishable d t
made_distinguishable d t k is made = subst (λ (o : Option TableKind). All (λ text. is_mistaken text ≡ false) (ready_made d o)) (sym is) (none_mistaken d k made)

-- Its sections begin in the packets of its PID with the start indicator, and in no other packets.
pub made_begins : (d : Scheduled) (units : ℕ → List AccessUnit) (n t : ℕ) (k : TableKind) → IsInRange d.description → UnitsKept d units → n < 2 ^ 64 - 1 →
    table_kind d.description t ≡ Some k → IsMade k →
    table_begins (table_id_of k) (found_on (table_pid d.description t) (run_bytes (content_at d units) 0 n)) ≡ own_slots
    (begun (table_pid d.description t) (content_at d units)) 0 n
made_begins d units n t k r kept few is made =
    begin_slots (table_id_of k) pid n content texts (found_on pid bytes) listed (tables_carry table n content alone (has_places d t r there) (has_room d t r))
    ids
    (sym (as_reported pid bytes alone.no_null (omega (arith, count, few)))
    ∙ tables_come_back table n content (is_run d units n r kept few) alone (has_places d t r there) (has_room d t r) given)
  where
    content : ℕ → Content
    content = content_at d units

    table : Table
    table = table_of d t

    pid : ℕ
    pid = table_pid d.description t

    bytes : List ℕ
    bytes = run_bytes content 0 n

    fits : Fits content
    fits = contents_fit d units r kept

    count : length bytes / 188 ≡ n
    count = let size : length bytes ≡ 188 * n = run_length content 0 n fits in omega (arith, size)

    listed : pid_list pid bytes ≡ entries_in pid content 0 n
    listed = run_pid_list pid n content fits

    there : t < table_count d.description
    there = slice_get_within (table_kinds d.description) t k is

    alone : TableIsAlone (table_of d t) content
    alone = one_table d units t r kept there

    texts : List (List ℕ)
    texts = sections_of_rounds table n

    rounds : List ℕ
    rounds = own_slots (starts table.own (round_places table.lengths) 0) 0 n

    given : All IsRecognized texts
    given = rounds_all IsRecognized table rounds
        (λ s j moment lt. section_distinguishable d.description t j moment r there (made_distinguishable d.description t k is made) lt)

    ids : All (HasId (table_id_of k)) texts
    ids = rounds_all (HasId (table_id_of k)) table rounds (λ s j moment lt. text_id d.description t j moment k is made lt)

-- A slot where a section of the table begins has a packet with the start indicator.
pub begins_there : (table : Table) (j s n : ℕ) (content : ℕ → Content) → Fits content → Begins table j s (run_bytes content 0 n) →
    begun table.pid content s ≡ true
begins_there table j s n content fits b =
    subst (λ (x : ℕ). begun table.pid content x ≡ true) b.slot
    (entry_there table.pid content 0 n b.number b.entry
    (ap (λ (es : List Entry). slice_get es b.number) (sym (run_pid_list table.pid n content fits)) ∙ b.listed) b.start)
