-- What the laws of this crate say.
use Rattle.std.specs.Prelude.{◌≡◌, ◌<◌, ◌≤◌, ℕ, ◌&&◌, not, nat_eq, Bool, true, false, if◌then◌else◌, Option, Some, None, List, [], ◌∷◌, ◌++◌}
use Rattle.std.specs.Prelude.{All, filter, filter_map, length, map, slice_get}
use Rattle.std.specs.List.{IsDistinct, list_any}
use Rattle.demux.specs.Laws.{found_of, has_pid}
use Rattle.pid_findings.specs.Views.{FindingView, IsBadPes}
use Rattle.pes_packet.specs.declared.refusal.PesError.TheVariants.{Marker}
use Rattle.stamp_repair.specs.LoneStamps.{all_lone, falls_by, is_at, is_falling, is_lone, is_lone_pes, is_on, lone_damaged, lone_in}
use Rattle.stamp_repair.specs.PesStamps.{stamp_at}
use Rattle.stamp_repair.specs.declared.pes_stamps.PesStamp.{PesStamp}
use Rattle.stamp_repair.specs.declared.search.LonePes.{LonePes}

-- 1. The stamps of a PID

-- the stamps of a PES packet, if it is on the PID and has any
abbrev pub stamp_on : ℕ → FindingView → Option PesStamp
stamp_on pid f = if has_pid pid f.pid then stamp_at f else None

-- in the order of the PES packets
abbrev pub stamps_on : ℕ → List FindingView → List PesStamp
stamps_on pid findings = filter_map (stamp_on pid) findings

-- 2. PIDs are independent

-- if fewer than 256 PES packets are found in all, the findings of a PID decide which of its PES packets are found, and which of them are damaged
abbrev pub EachPidAlone : Type 0
EachPidAlone = (falling : List ℕ) (findings : List FindingView) (pid : ℕ) → length (all_lone findings) < 256 →
    (filter (is_on pid) (all_lone findings) ≡ all_lone (found_of pid findings))
    × (found_of pid (lone_damaged falling findings) ≡ lone_damaged falling (found_of pid findings))

-- 3. What stays

-- the same finding, except that it is a damaged PES packet
abbrev pub as_damaged : FindingView → FindingView
as_damaged f = record { packet = f.packet; pid = f.pid; begun = f.begun; what = IsBadPes Marker }

-- each finding keeps its place: those that are not found stay as they are, and those that are found become damaged PES packets
abbrev pub AllElseStays : Type 0
AllElseStays = (falling : List ℕ) (findings : List FindingView) →
    (length (lone_damaged falling findings) ≡ length findings)
    × ((k : ℕ) (f : FindingView) → slice_get findings k ≡ Some f →
    (is_lone_pes (lone_in falling findings) f ≡ false → slice_get (lone_damaged falling findings) k ≡ Some f)
    × (is_lone_pes (lone_in falling findings) f ≡ true → slice_get (lone_damaged falling findings) k ≡ Some (as_damaged f)))

-- the DTS does not fall by over a second, nor the PTS by over 10 s
abbrev pub is_in_order : PesStamp → PesStamp → Bool
is_in_order before stamp = not (falls_by 90_000 before.dts stamp.dts) && not (falls_by 900_000 before.pts stamp.pts)

unfoldable pub are_in_order_after : PesStamp → List PesStamp → Bool
are_in_order_after before [] = true
are_in_order_after before (s ∷ ss) = is_in_order before s && are_in_order_after s ss

unfoldable pub are_in_order : List PesStamp → Bool
are_in_order [] = true
are_in_order (s ∷ ss) = are_in_order_after s ss

-- if each stamp of a PID is in order after the stamp before it, the PID's findings stay as they are
abbrev pub OrderedStays : Type 0
OrderedStays = (falling : List ℕ) (findings : List FindingView) (pid : ℕ) → are_in_order (stamps_on pid findings) ≡ true →
    found_of pid (lone_damaged falling findings) ≡ found_of pid findings

-- 4. What is found

-- the PES packet of a PID that begins in a packet is found
abbrev pub is_found : List FindingView → ℕ → ℕ → Bool
is_found findings pid packet = list_any (is_at (Some pid) packet) (all_lone findings)

-- each of these stamps, except the last one, is alone out of order between a stamp before all of them and the stamp after it
unfoldable pub are_lone_from : PesStamp → PesStamp → List PesStamp → Bool
are_lone_from before stamp [] = true
are_lone_from before stamp (s ∷ ss) = is_lone before stamp s && are_lone_from before s ss

unfoldable pub are_lone : PesStamp → List PesStamp → Bool
are_lone before [] = true
are_lone before (s ∷ ss) = are_lone_from before s ss

-- among these stamps those of the PES packet that begins in a packet are alone out of order: between stamps before them and the stamps after them. All stamps
-- between `before` and them are alone out of order too
pub record IsAlone (stamps : List PesStamp) (packet : ℕ) : Type 0 where
  pub earlier : List PesStamp
  pub before : PesStamp
  pub between : List PesStamp
  pub stamp : PesStamp
  pub next : PesStamp
  pub later : List PesStamp
  pub are : stamps ≡ earlier ++ before ∷ (between ++ stamp ∷ next ∷ later)
  pub packet_is : stamp.packet ≡ packet
  pub passed : are_lone before (between ++ stamp ∷ []) ≡ true
  pub alone : is_lone before stamp next ≡ true

-- a PES packet that is found is one of its PID, and its stamps are alone out of order among the stamps of the PID. The PES packet before them is not found, if
-- no two of the PID's PES packets begin in one packet
pub record FoundAlone (findings : List FindingView) (pid packet : ℕ) : Type 0 where
  pub alone : IsAlone (stamps_on pid findings) packet
  pub kept : IsDistinct nat_eq (map (λ (s : PesStamp). s.packet) (stamps_on pid findings)) → is_found findings pid alone.before.packet ≡ false

abbrev pub EachIsAlone : Type 0
EachIsAlone = (findings : List FindingView) → All (λ l. FoundAlone findings l.pid l.packet) (all_lone findings)

-- each PES packet with such stamps is found, if the PES packet before it is not, and fewer than 256 are found in all
abbrev pub LoneIsFound : Type 0
LoneIsFound = (findings : List FindingView) (pid packet : ℕ) (lone : IsAlone (stamps_on pid findings) packet) → length (all_lone findings) < 256 →
    is_found findings pid lone.before.packet ≡ false → is_found findings pid packet ≡ true

-- 5. What is damaged

abbrev pub found_on : ℕ → List FindingView → List LonePes
found_on pid findings = filter (is_on pid) (all_lone findings)

abbrev pub damaged_on : List ℕ → ℕ → List FindingView → List LonePes
damaged_on falling pid findings = filter (is_on pid) (lone_in falling findings)

-- all that are found on a PID are damaged, if they are at most 16 and its clock does not go back; otherwise none is
abbrev pub LimitIsExact : Type 0
LimitIsExact = (falling : List ℕ) (findings : List FindingView) (pid : ℕ) →
    (length (found_on pid findings) ≤ 16 → is_falling falling pid ≡ false → damaged_on falling pid findings ≡ found_on pid findings)
    × (16 < length (found_on pid findings) → damaged_on falling pid findings ≡ [])
    × (is_falling falling pid ≡ true → damaged_on falling pid findings ≡ [])
