-- Time stamps that are alone out of order: damaged stamps between stamps that are in order (ISO/IEC 13818-1, 2.4.3.7).
use Rattle.std.specs.Prelude.{ℕ, ◌^◌, ◌==◌, ◌&&◌, ◌||◌, not, nat_eq, nat_le, nat_lt, Bool, true, false, is_some, if◌then◌else◌, Option, Some, None, List, [], ◌∷◌, ◌++◌}
use Rattle.std.specs.Prelude.{filter, length, map}
use Rattle.std.specs.List.{list_any}
use Rattle.std.specs.Map.{lookup}
use Rattle.indexmap.specs.IndexMap.{insert_entry}
use Rattle.pid_findings.specs.Views.{FindingView, IsBadPes}
use Rattle.pes_packet.specs.declared.refusal.PesError.TheVariants.{Marker}
use Rattle.es_moments.specs.Stamps.{distance}
use Rattle.stamp_repair.specs.PesStamps.{begin_of, stamp_at}
use Rattle.stamp_repair.specs.declared.search.LastStamps.{LastStamps}
use Rattle.stamp_repair.specs.declared.search.LonePes.{LonePes}
use Rattle.stamp_repair.specs.declared.pes_stamps.PesStamp.{PesStamp}

-- 1. A stamp between two others

-- a stamp that is before another one by more than a time, the shorter way round the clock's range
abbrev pub falls_by : ℕ → ℕ → ℕ → Bool
falls_by time before stamp = nat_le (2 ^ 32) (distance before stamp) && nat_lt time (distance stamp before)

-- it falls after the stamp before it, or the stamp after it falls, and without it none falls
abbrev pub is_alone : ℕ → ℕ → ℕ → ℕ → Bool
is_alone time before stamp next = (falls_by time before stamp || falls_by time stamp next) && not (falls_by time before next)

-- the DTS is alone out of order by over a second, or the PTS by over 10 s: pictures are presented in another order than decoded, but none that much
-- earlier than one before it
abbrev pub is_lone : PesStamp → PesStamp → PesStamp → Bool
is_lone before stamp next = is_alone 90_000 before.dts stamp.dts next.dts || is_alone 900_000 before.pts stamp.pts next.pts

-- 2. The PES packets of a stream with such stamps

-- after the last stamps of a PID, without stamps that are alone out of order
unfoldable pub is_last_lone : Option PesStamp → PesStamp → PesStamp → Bool
is_last_lone None last next = false
is_last_lone (Some before) last next = is_lone before last next

unfoldable pub lone_at : ℕ → Option LastStamps → PesStamp → Option LonePes
lone_at pid None next = None
lone_at pid (Some l) next = if is_last_lone l.before l.last next then Some (record { pid = pid; packet = l.last.packet }) else None

unfoldable pub next_last : Option LastStamps → PesStamp → LastStamps
next_last None next = record { before = None; last = next }
next_last (Some l) next = record { before = if is_last_lone l.before l.last next then l.before else Some l.last; last = next }

-- the last stamps of each PID, and the PES packets found, 256 at most
pub record SearchView : Type 0 where
  pub last : List (ℕ × LastStamps)
  pub lone : List LonePes

unfoldable pub with_lone : List LonePes → Option LonePes → List LonePes
with_lone lone None = lone
with_lone lone (Some l) = if nat_lt (length lone) 256 then lone ++ l ∷ [] else lone

abbrev pub with_stamp : SearchView → ℕ → PesStamp → SearchView
with_stamp s pid next = record {
  last = insert_entry nat_eq s.last pid (next_last (lookup (nat_eq pid) s.last) next);
  lone = with_lone s.lone (lone_at pid (lookup (nat_eq pid) s.last) next);
}

unfoldable pub with_stamp_if : SearchView → Option ℕ → Option PesStamp → SearchView
with_stamp_if s (Some pid) (Some next) = with_stamp s pid next
with_stamp_if s pid next = s

abbrev pub with_finding : SearchView → FindingView → SearchView
with_finding s f = with_stamp_if s f.pid (stamp_at f)

unfoldable pub search_after : SearchView → List FindingView → SearchView
search_after s [] = s
search_after s (f ∷ fs) = search_after (with_finding s f) fs

abbrev pub no_stamps : SearchView
no_stamps = record { last = []; lone = [] }

abbrev pub all_lone : List FindingView → List LonePes
all_lone findings = (search_after no_stamps findings).lone

-- more than 16 on a PID are no damage: its stamps are in another order; nor is one where the clock goes back: a second recording begins
abbrev pub is_on : ℕ → LonePes → Bool
is_on pid l = l.pid == pid

abbrev pub is_falling : List ℕ → ℕ → Bool
is_falling falling pid = list_any (λ other. other == pid) falling

abbrev pub is_damage : List ℕ → List LonePes → LonePes → Bool
is_damage falling all l = nat_le (length (filter (is_on l.pid) all)) 16 && not (is_falling falling l.pid)

abbrev pub damage_of : List ℕ → List LonePes → List LonePes
damage_of falling all = filter (is_damage falling all) all

-- with streams of these PIDs whose clocks go back
abbrev pub lone_in : List ℕ → List FindingView → List LonePes
lone_in falling findings = damage_of falling (all_lone findings)

-- 3. Such a PES packet is a damaged one, like one with a wrong marker bit in a stamp

unfoldable pub is_at : Option ℕ → ℕ → LonePes → Bool
is_at None packet l = false
is_at (Some pid) packet l = l.pid == pid && l.packet == packet

abbrev pub is_lone_pes : List LonePes → FindingView → Bool
is_lone_pes lone f = list_any (is_at f.pid (begin_of f.begun f.packet)) lone && is_some (stamp_at f)

unfoldable pub damaged_if : Bool → FindingView → FindingView
damaged_if false f = f
damaged_if true f = record { packet = f.packet; pid = f.pid; begun = f.begun; what = IsBadPes Marker }

abbrev pub damaged : List LonePes → FindingView → FindingView
damaged lone f = damaged_if (is_lone_pes lone f) f

unfoldable pub lone_damaged : List ℕ → List FindingView → List FindingView
lone_damaged falling findings = map (damaged (lone_in falling findings)) findings
