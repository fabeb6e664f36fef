-- Continuity_count_error (ETSI TR 101 290, 5.2.1, indicator 1.4): a packet whose continuity_counter does not follow the counter of
-- the packet before it on its PID, by the marks of the demultiplexer.
use Rattle.std.specs.Prelude.{◌≡◌, ℕ, ◌==◌, false, if◌then◌else◌, List, [], ◌∷◌, filter, nat_eq, Option, Some, None, option_map, unwrap_or}
use Rattle.std.specs.Map.{lookup}
use Rattle.indexmap.specs.IndexMap.{insert_entry}
use Rattle.ts_packet.specs.PidList.{Entry}
use Rattle.pid_findings.specs.Marks.{LastView, Marked, break_at, mark, marked, seen}
use Rattle.tr101290.specs.declared.continuity.ContinuityError.{ContinuityError}

-- the last packet of each PID, in the order of the PIDs' first packets
abbrev pub Lasts : Type 0
Lasts = List (ℕ × Option LastView)

abbrev pub last_of : ℕ → Lasts → Option LastView
last_of pid lasts = unwrap_or (lookup (nat_eq pid) lasts) None

-- after a packet: the continuity_counter of null packets is undefined (ISO/IEC 13818-1, 2.4.3.3)
unfoldable pub after : Lasts → Entry → Lasts
after lasts entry = if entry.packet.header.pid == 8191 then lasts
    else insert_entry nat_eq lasts entry.packet.header.pid (Some (seen (mark (last_of entry.packet.header.pid lasts) entry)))

-- an error: the expected counter, and the counter found
abbrev pub error_of : ℕ → ℕ → ℕ × ℕ → ContinuityError
error_of pid packet break = record { pid = pid; packet = packet; expected = break.0; found = break.1 }

unfoldable pub error_at : Lasts → Entry → Option ContinuityError
error_at lasts entry = if entry.packet.header.pid == 8191 then None
    else option_map (error_of entry.packet.header.pid entry.index) (break_at (last_of entry.packet.header.pid lasts) entry)

-- the errors of packets, one after another
unfoldable pub before_if : Option ContinuityError → List ContinuityError → List ContinuityError
before_if None errors = errors
before_if (Some e) errors = e ∷ errors

unfoldable pub errors_from : Lasts → List Entry → List ContinuityError
errors_from lasts [] = []
errors_from lasts (entry ∷ entries) = before_if (error_at lasts entry) (errors_from (after lasts entry) entries)

-- the errors of one PID's packets, each packet marked by the packet before it
unfoldable pub breaks : ℕ → List Marked → List ContinuityError
breaks pid [] = []
breaks pid (m ∷ ms) = before_if (option_map (error_of pid m.entry.index) m.broken) (breaks pid ms)

-- the errors on a PID depend on its own packets alone, whatever packets come between
abbrev pub ContinuityLaw : Type 0
ContinuityLaw = (pid : ℕ) (entries : List Entry) → (pid == 8191) ≡ false →
    filter (λ e. e.pid == pid) (errors_from [] entries) ≡ breaks pid (marked None (filter (λ entry. entry.packet.header.pid == pid) entries))
