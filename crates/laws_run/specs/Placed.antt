-- What a multiplexer sends, item by item, and in which slots: the units of a stream and the sections of a table.
use Rattle.std.specs.Prelude.{ℕ, List, [], ◌∷◌, take, drop, filter, is_some}
use Rattle.own_slots.specs.Slots.{own_slots}
use Rattle.pes_packet.specs.AccessUnits.{AccessUnit}
use Rattle.unit_queue.specs.OwnedStreams.{OwnedStream, packet_count, first_slot, end_slot}
use Rattle.table_rounds.specs.Tables.{Table, part_at}
use Rattle.laws_run.specs.Sent.{Sending, sendings}
use Rattle.laws_run.specs.Sections.{section_packets}
use Rattle.laws_run.specs.Rounds.{sections_of_rounds}

-- units in these own slots, after the first `free` slots, which are taken: each unit has as many own slots as it has packets, until there are
-- no more slots
unfoldable pub units_placed : OwnedStream → ℕ → List AccessUnit → List ℕ → List (Sending AccessUnit)
units_placed l free [] slots = []
units_placed l free (u ∷ us) slots =
    record { item = u; packets = take (packet_count l u) (drop (first_slot l free u) slots) } ∷ units_placed l (end_slot l free u) us slots

-- the units of a stream in the first n slots
abbrev pub sent_units : OwnedStream → ℕ → List AccessUnit → List (Sending AccessUnit)
sent_units l n us = units_placed l 0 us (own_slots l.own 0 n)

-- a table's own slots among the first n that carry a part of a section: if a section is shorter than its places, the last places are empty
abbrev pub section_slots : Table → ℕ → List ℕ
section_slots table n = filter (λ s. is_some (part_at table s)) (own_slots table.own 0 n)

-- the sections of a table in the first n slots, round after round, each round as of the moment at which its first slot begins: each section
-- has as many of these slots as it has packets, until there are no more slots
abbrev pub sent_sections : Table → ℕ → List (Sending (List ℕ))
sent_sections table n = sendings section_packets (sections_of_rounds table n) (section_slots table n)
