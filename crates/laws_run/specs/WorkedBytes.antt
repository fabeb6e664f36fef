-- The bytes of a small run, packet by packet: the worked service in its first six slots, with one unit.
use Rattle.std.specs.Prelude.{ℕ, ◌+◌, List, [], ◌∷◌, ◌++◌, replicate}
use Rattle.pes_packet.specs.AccessUnits.{AccessUnit}
use Rattle.pes_packet.specs.Marks.{no_marks}

-- the only unit: four bytes, due at 77.8 ms
abbrev pub worked_unit : AccessUnit
worked_unit = record { dts = 7000; pts = 7000; marks = no_marks; bytes = 0x0A ∷ 0x14 ∷ 0x1E ∷ 0x28 ∷ [] }

-- the program association section: program 1 has its map on PID 0x1000
abbrev pub worked_pat : List ℕ
worked_pat = 0x00 ∷ 0xB0 ∷ 0x0D ∷ 0x00 ∷ 0x01 ∷ 0xC1 ∷ 0x00 ∷ 0x00 ∷ 0x00 ∷ 0x01 ∷ 0xF0 ∷ 0x00 ∷ 0x2A ∷ 0xB1 ∷ 0x04 ∷ 0xB2 ∷ []

-- the program map section: clock references on PID 0x101, MPEG-1 audio on PID 0x100
abbrev pub worked_pmt : List ℕ
worked_pmt =
    0x02 ∷ 0xB0 ∷ 0x12 ∷ 0x00 ∷ 0x01 ∷ 0xC1 ∷ 0x00 ∷ 0x00 ∷ 0xE1 ∷ 0x01 ∷ 0xF0 ∷ 0x00
    ∷ 0x03 ∷ 0xE1 ∷ 0x00 ∷ 0xF0 ∷ 0x00 ∷ 0x8C ∷ 0x27 ∷ 0x98 ∷ 0x96 ∷ []

-- the PES packet of the unit: stream_id 0xC0, 12 bytes after its length, a PTS of 7000
abbrev pub worked_pes : List ℕ
worked_pes = 0x00 ∷ 0x00 ∷ 0x01 ∷ 0xC0 ∷ 0x00 ∷ 0x0C ∷ 0x80 ∷ 0x80 ∷ 0x05 ∷ 0x21 ∷ 0x00 ∷ 0x01 ∷ 0x36 ∷ 0xB1 ∷ 0x0A ∷ 0x14 ∷ 0x1E ∷ 0x28 ∷ []

-- packets of the tables with this continuity_counter
abbrev pub pat_packet : ℕ → List ℕ
pat_packet counter = 0x47 ∷ 0x40 ∷ 0x00 ∷ (0x10 + counter) ∷ 0x00 ∷ worked_pat ++ replicate 167 0xFF

abbrev pub pmt_packet : ℕ → List ℕ
pmt_packet counter = 0x47 ∷ 0x50 ∷ 0x00 ∷ (0x10 + counter) ∷ 0x00 ∷ worked_pmt ++ replicate 162 0xFF

-- an adaptation field of 165 bytes before the 18 of the PES packet
abbrev pub unit_packet : List ℕ
unit_packet = 0x47 ∷ 0x41 ∷ 0x00 ∷ 0x30 ∷ 0xA5 ∷ 0x00 ∷ replicate 164 0xFF ++ worked_pes

-- the clock at byte 574, 188 * 3 + 10: 4132 of 90 kHz and 240 of 27 MHz
abbrev pub clock_packet : List ℕ
clock_packet = 0x47 ∷ 0x01 ∷ 0x01 ∷ 0x2F ∷ 0xB7 ∷ 0x10 ∷ 0x00 ∷ 0x00 ∷ 0x08 ∷ 0x12 ∷ 0x7E ∷ 0xF0 ∷ replicate 176 0xFF

-- six slots
abbrev pub worked_bytes : List ℕ
worked_bytes = pat_packet 0 ++ pmt_packet 0 ++ unit_packet ++ clock_packet ++ pat_packet 1 ++ pmt_packet 1
