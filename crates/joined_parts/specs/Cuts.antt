-- Where a recording that was joined from several is cut: where a clock falls, or jumps ahead (ISO/IEC 13818-1, 2.4.3.5).
use Rattle.std.specs.Prelude.{ℕ, nat_eq, nat_lt, if◌then◌else◌, Option, Some, None, List, [], ◌∷◌, ◌++◌, length}
use Rattle.std.specs.Map.{lookup}
use Rattle.indexmap.specs.IndexMap.{insert_entry}
use Rattle.packet_pcr.specs.declared.pcr_reading.FoundPcr.{FoundPcr}
use Rattle.fed_streams.specs.Clocks.{jumps}
use Rattle.joined_parts.specs.declared.cuts.Cut.{Cut}

-- the last reference of each clock, by its PID
abbrev pub LastReferences : Type 0
LastReferences = List (ℕ × FoundPcr)

abbrev pub with_last : LastReferences → FoundPcr → LastReferences
with_last last r = insert_entry nat_eq last r.pid r

-- a cut between two references of a clock
abbrev pub cut_at : FoundPcr → FoundPcr → Cut
cut_at before r = record { pid = r.pid; since = before.packet; before = before.base; packet = r.packet; base = r.base }

-- a cut where the clock jumps from one reference to the next
unfoldable pub cut_between : Option FoundPcr → FoundPcr → Option Cut
cut_between None r = None
cut_between (Some before) r = if jumps (Some before.base) r.base then Some (cut_at before r) else None

-- there are 256 cuts at most
unfoldable pub with_cut : List Cut → Option Cut → List Cut
with_cut cuts None = cuts
with_cut cuts (Some cut) = if nat_lt (length cuts) 256 then cuts ++ cut ∷ [] else cuts

unfoldable pub cuts_after : LastReferences → List Cut → List FoundPcr → List Cut
cuts_after last cuts [] = cuts
cuts_after last cuts (r ∷ rs) = cuts_after (with_last last r) (with_cut cuts (cut_between (lookup (nat_eq r.pid) last) r)) rs

-- the cuts of a recording with these references
abbrev pub cuts_in : List FoundPcr → List Cut
cuts_in references = cuts_after [] [] references
