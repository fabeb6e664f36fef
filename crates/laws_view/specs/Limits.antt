-- How often something has to come, by both programs and by ETSI TR 101 290: one table, in milliseconds.
use Rattle.std.specs.Prelude.{◌≡◌, ℕ, ◌*◌, List, codes, Some}
use Rattle.arrival.specs.Clock.{greatest_interval}
use Rattle.tr101290.specs.Limits.{milliseconds}
use Rattle.tr101290.specs.declared.distances.TheConstants.{LEAST_DISTANCE}
use Rattle.tr101290.specs.declared.stamps.TheConstants.{GREATEST_PTS_INTERVAL}
use Rattle.packet_times.specs.declared.gaps.TheConstants.{LONGEST_GAP, LONGEST_SECONDS}
use Rattle.monitor.specs.declared.fault.Rule.{Rule}
use Rattle.monitor.specs.declared.fault.Rule.TheVariants as rules
use Rattle.monitor.specs.MonitorStates.{MonitorState, none_taken}

-- a rule of the monitor, the indicator of TR 101 290 , and the limits
pub record Limit : Type 0 where
  pub rule : Rule
  pub indicator : List ℕ
  pub standard : ℕ
  pub monitor : ℕ
  pub tsview : ℕ

abbrev pub limit : Rule → List ℕ → ℕ → ℕ → ℕ → Limit
limit rule indicator standard monitor tsview = record { rule = rule; indicator = indicator; standard = standard; monitor = monitor; tsview = tsview }

-- 1.3.a PAT_error_2 and 1.5.a PMT_error_2 (5.2.1)
abbrev pub pat_limit : Limit
pat_limit = limit rules.Pat (codes "1.3.a") 500 500 500

abbrev pub pmt_limit : Limit
pmt_limit = limit rules.Pmt (codes "1.5.a") 500 500 500

-- 3.1.a NIT_actual_error, 3.5.a SDT_actual_error, 3.6.a EIT_actual_error and 3.8 TDT_error (5.2.3)
abbrev pub nit_limit : Limit
nit_limit = limit rules.Nit (codes "3.1.a") 10000 10000 10000

abbrev pub sdt_limit : Limit
sdt_limit = limit rules.Sdt (codes "3.5.a") 2000 2000 2000

abbrev pub eit_limit : Limit
eit_limit = limit rules.Eit (codes "3.6.a") 2000 2000 2000

abbrev pub tdt_limit : Limit
tdt_limit = limit rules.Tdt (codes "3.8") 30000 30000 30000

-- 2.3.a PCR_repetition_error (5.2.2): 40 ms, which the monitor is given unless its user gives another one; `tsview` has the 100 ms of ISO/IEC
-- 13818-1, 2.7.2
abbrev pub pcr_limit : ℕ → Limit
pcr_limit given = limit rules.Pcr (codes "2.3.a") 40 given 100

-- 2.5 PTS_error (5.2.2)
abbrev pub pts_limit : Limit
pts_limit = limit rules.Pts (codes "2.5") 700 700 700

-- 1.6 PID_error (5.2.1): at most 5 s without a packet of video or audio, which `tsview` alone looks at
abbrev pub longest_gap : ℕ
longest_gap = 5000

-- EN 300 468, 5.1.4: at least 25 ms from the end of a section to the next one of its table, which `tsview` alone looks at
abbrev pub least_distance : ℕ
least_distance = 25

-- a monitor that has taken nothing keeps these limits, at a rate in bits a second
pub record MonitorKeeps (rate given : ℕ) (m : MonitorState) : Type 0 where
  pub pat : m.found.pat.marks.limit_times_rate ≡ pat_limit.monitor * rate
  pub pmt : m.found.pmt.limit_times_rate ≡ pmt_limit.monitor * rate
  pub nit : m.found.nit.marks.limit_times_rate ≡ nit_limit.monitor * rate
  pub sdt : m.found.sdt.marks.limit_times_rate ≡ sdt_limit.monitor * rate
  pub eit : m.found.eit.marks.limit_times_rate ≡ eit_limit.monitor * rate
  pub tdt : m.found.tdt.marks.limit_times_rate ≡ tdt_limit.monitor * rate
  pub pcr : m.seen.pcr.limit_times_rate ≡ (pcr_limit given).monitor * rate
  pub pts : m.found.pts.limit_times_rate ≡ pts_limit.monitor * rate

abbrev pub MonitorLimits : Type 0
MonitorLimits = (rate given : ℕ) → MonitorKeeps rate given (none_taken rate given)

-- the limits of `tsview`: of tables by PID and table_id in milliseconds; of clock references, time stamps, packets and sections in ticks of 27 MHz; of packets in seconds
pub record TsviewKeeps : Type 0 where
  pub pat : milliseconds 0x00 0x00 ≡ Some pat_limit.tsview
  pub pmt : (pid : ℕ) → milliseconds pid 0x02 ≡ Some pmt_limit.tsview
  pub nit : milliseconds 0x10 0x40 ≡ Some nit_limit.tsview
  pub sdt : milliseconds 0x11 0x42 ≡ Some sdt_limit.tsview
  pub eit : milliseconds 0x12 0x4E ≡ Some eit_limit.tsview
  pub tdt : milliseconds 0x14 0x70 ≡ Some tdt_limit.tsview
  pub pcr : (given : ℕ) → greatest_interval ≡ (pcr_limit given).tsview * 27000
  pub pts : GREATEST_PTS_INTERVAL ≡ pts_limit.tsview * 27000
  pub gap : LONGEST_GAP ≡ longest_gap * 27000
  pub distance : LEAST_DISTANCE ≡ least_distance * 27000
  pub seconds : LONGEST_SECONDS * 1000 ≡ longest_gap
