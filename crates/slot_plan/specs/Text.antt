-- The text of a plan: each line ends with LF, one space is between words, numbers are decimal without leading zeros. A
-- plan has one text.
use Rattle.std.specs.Prelude.{ℕ, suc, ◌%◌, ◌==◌, ◌||◌, List, [], ◌∷◌, ◌++◌, length, codes, decimal, Option, Some, None, if◌then◌else◌}
use Rattle.slot_plan.specs.Words.{field}
use Rattle.slot_plan.specs.declared.slot.Slot.{Slot}
use Rattle.slot_plan.specs.declared.slot.Slot.TheVariants.{Stream, Pcr, Table, Null}
use Rattle.slot_plan.specs.declared.certificate.StreamEntry.{StreamEntry}
use Rattle.slot_plan.specs.declared.certificate.MultiplexingEntry.{MultiplexingEntry}
use Rattle.slot_plan.specs.declared.certificate.ProgramEntry.{ProgramEntry}
use Rattle.slot_plan.specs.Planned.{Planned}
use Rattle.slot_plan.specs.Numbered.{numbered}

-- S, P or T and the item's number, or - for a null packet
abbrev pub slot_text : Slot → List ℕ
slot_text (Stream number) = 83 ∷ decimal number
slot_text (Pcr number) = 80 ∷ decimal number
slot_text (Table number) = 84 ∷ decimal number
slot_text Null = 45 ∷ []

-- what ends slot number i of n: a line has 24 slots, and the last one the rest
abbrev pub slot_ending : ℕ → ℕ → ℕ
slot_ending n i = if ((suc i) % 24 == 0) || (suc i == n) then 10 else 32

abbrev pub slot_word : ℕ → ℕ → Slot → List ℕ
slot_word n i slot = slot_text slot ++ slot_ending n i ∷ []

-- `peak X`, and ` mstart V mpeak Y` if there is a claim for a multiplexing buffer
abbrev pub peak_words : ℕ → Option MultiplexingEntry → List ℕ
peak_words peak None = field (codes "peak ") peak 10
peak_words peak (Some m) = field (codes "peak ") peak 32 ++ (field (codes "mstart ") m.start 32 ++ field (codes "mpeak ") m.peak 10)

-- `stream k spread A start V peak X`, and the claim for a multiplexing buffer
abbrev pub stream_line : ℕ → StreamEntry → List ℕ
stream_line k e =
    field (codes "stream ") k 32 ++ (field (codes "spread ") e.spread 32 ++ (field (codes "start ") e.start 32 ++ peak_words e.peak e.multiplexing))

-- `program k tstart V tpeak X bstart V bpeak X`
abbrev pub program_line : ℕ → ProgramEntry → List ℕ
program_line k e = field (codes "program ") k 32 ++ (field (codes "tstart ") e.transport_start 32 ++ (field (codes "tpeak ") e.transport_peak 32
    ++ (field (codes "bstart ") e.system_start 32 ++ field (codes "bpeak ") e.system_peak 10)))

-- `tsplan 1`, `period N`, the slots, the streams' lines, the programs' lines, `end`
abbrev pub plan_text : Planned → List ℕ
plan_text p = codes "tsplan 1\n" ++ field (codes "period ") (length p.slots) 10
    ++ numbered (slot_word (length p.slots)) 0 p.slots
    ++ numbered stream_line 0 p.certificate.streams
    ++ numbered program_line 0 p.certificate.programs
    ++ codes "end\n"
