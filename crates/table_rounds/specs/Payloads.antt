-- What the packets of a table carry.
use Rattle.std.specs.Prelude.{◌≡◌, ℕ, suc, ◌%◌, ◌^◌, ◌<◌, ◌==◌, true, false, List, Some, length, map, take, slice_get}
use Rattle.std.specs.List.{flat_map}
use Rattle.own_slots.specs.Slots.{own_slots}
use Rattle.own_slots.specs.Rounds.{starts}
use Rattle.ts_packet.specs.PidList.{Entry, is_of_pid, pid_list, payload_of}
use Rattle.slot_contents.specs.Contents.{Content, ContentFits, view_of, run_bytes, Payload, payload_at, put}
use Rattle.slot_contents.specs.RunLaws.{Fits}
use Rattle.table_rounds.specs.Parts.{filled}
use Rattle.table_rounds.specs.Tables.{Table, round_places, moment_before, not_yet, part_at, table_content}
use Rattle.table_rounds.specs.Laws.{first_place}

-- the payloads of a table in its own slots among n
abbrev pub table_payloads : Table → ℕ → List Payload
table_payloads table n = flat_map (λ s. put s (part_at table s)) (own_slots table.own 0 n)

-- what the finished bytes of n slots carry of a table
pub record TableCarried (table : Table) (n : ℕ) (bytes : List ℕ) : Type 0 where
  -- packet number j of the PID has the continuity_counter j modulo 16 (ISO/IEC 13818-1, 2.4.3.3)
  pub counters : (j : ℕ) (e : Entry) → slice_get (pid_list table.pid bytes) j ≡ Some e → e.packet.header.continuity_counter ≡ j % 16
  -- its packets carry the parts of the sections in the places of the own slots, each section as it is at the moment of its round
  pub payloads : map payload_at (pid_list table.pid bytes) ≡ table_payloads table n

-- an output where the table is alone on its PID
pub record TableIsAlone (table : Table) (content : ℕ → Content) : Type 0 where
  pub fits : Fits content
  pub no_null : (table.pid == 8191) ≡ false
  pub own : (t : ℕ) → table.own t ≡ true → content t ≡ table_content table t
  pub others : (t : ℕ) → table.own t ≡ false → is_of_pid table.pid (view_of (content t)) ≡ false

abbrev pub TableCarriedLaw : Type 0
TableCarriedLaw = (table : Table) (n : ℕ) (content : ℕ → Content) → TableIsAlone table content → TableCarried table n (run_bytes content 0 n)

-- the content of an own slot can be a packet
abbrev pub PartFitsLaw : Type 0
PartFitsLaw = (table : Table) (s : ℕ) → table.pid < 2 ^ 13 → ContentFits (table_content table s)

-- in the packet of slot s section j begins: the start indicator is set, and after pointer_field 0 the payload has the first bytes of
-- the section, as it is at the moment of its round
pub record Begins (table : Table) (j s : ℕ) (bytes : List ℕ) : Type 0 where
  pub number : ℕ
  pub entry : Entry
  pub listed : slice_get (pid_list table.pid bytes) number ≡ Some entry
  pub slot : entry.index ≡ s
  pub start : entry.packet.header.payload_unit_start_indicator ≡ true
  pub first : payload_of entry.packet ≡ take 184 (filled (table.bytes s j (moment_before table (suc s))))

-- a section begins in each slot that is its first place, from the slot on in which the table comes on air: it is never too short for that
abbrev pub BeginsLaw : Type 0
BeginsLaw = (table : Table) (n j s : ℕ) (content : ℕ → Content) → TableIsAlone table content → j < length table.lengths →
    not_yet table.from s ≡ false → s < n →
    starts table.own (round_places table.lengths) (first_place table.lengths j) s ≡ true → Begins table j s (run_bytes content 0 n)
