-- The same findings packet by packet, with a state for the next packet.
use Rattle.std.specs.Prelude.{◌≡◌, ℕ, true, List, [], ◌∷◌, ◌++◌, map, Option, Some, None, option_map}
use Rattle.ts_packet.specs.PidList.{Entry}
use Rattle.pid_findings.specs.Views.{Found, PidFinding}
use Rattle.pid_findings.specs.Marks.{LastView, Marked, mark, seen}
use Rattle.pid_findings.specs.Roles.{Role, NoPayload, ScrambledPayload, PesStart, SectionStart, PointerPastEnd, Continuation, role}
use Rattle.pid_findings.specs.OpenUnits.{OpenUnit, appended, section, last_in}
use Rattle.pid_findings.specs.declared.open_unit.UnitKind.TheVariants as unit_kinds
use Rattle.pid_findings.specs.Findings.{at_packet, ended, findings, findings_to_end, found_at, undecided}

-- the state of a PID: its last packet, as far as it is kept, and the open unit
pub record PidState : Type 0 where
  pub last : Option LastView
  pub open_unit : Option OpenUnit

-- before the first packet
abbrev pub fresh : PidState
fresh = record { last = None; open_unit = None }

-- the unit that is open after a packet, by the role of its payload and the unit that is open before it
unfoldable pub next_open : ℕ → Role → Option OpenUnit → Option OpenUnit
next_open packet NoPayload open_unit = open_unit
next_open packet ScrambledPayload open_unit = None
next_open packet (PesStart access payload) open_unit = undecided (record { packet = packet; kind = unit_kinds.Pes; access = access; bytes = payload })
next_open packet (SectionStart before bytes) open_unit = option_map (section packet) (last_in 0 bytes)
next_open packet PointerPastEnd open_unit = None
next_open packet (Continuation payload) None = None
next_open packet (Continuation payload) (Some unit) = undecided (appended unit payload)

-- a break leaves no unit open
unfoldable pub unbroken : Option (ℕ × ℕ) → Option OpenUnit → Option OpenUnit
unbroken None open_unit = open_unit
unbroken (Some b) open_unit = None

unfoldable pub step_marked : Marked → PidState → PidState
step_marked m s = record { last = Some (seen m); open_unit = next_open m.entry.index (role m) (unbroken m.broken s.open_unit) }

-- the state after a packet, and the findings at the packet
abbrev pub step : PidState → Entry → PidState
step s entry = step_marked (mark s.last entry) s

abbrev pub found_by : PidState → Entry → List Found
found_by s entry = found_at (mark s.last entry) s.open_unit

-- over the packets of a PID
unfoldable pub run : PidState → List Entry → List PidFinding
run s [] = []
run s (entry ∷ entries) = map (at_packet entry.index) (found_by s entry) ++ run (step s entry) entries

unfoldable pub run_to : PidState → List Entry → PidState
run_to s [] = s
run_to s (entry ∷ entries) = run_to (step s entry) entries

-- packet by packet the same findings result as from all packets at once, with the end of the stream and without it
abbrev pub RunFindsAll : Type 0
RunFindsAll =
    (count : ℕ) (entries : List Entry) → (run fresh entries ≡ findings entries)
    × (run fresh entries ++ map (at_packet count) (ended true (run_to fresh entries).open_unit) ≡ findings_to_end count entries)
