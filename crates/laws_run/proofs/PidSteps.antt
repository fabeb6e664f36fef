-- The packets of a PID as a fold over its payloads: what they find and what they leave open.
use Rattle.std.proofs.Common.{◌≡◌, ℕ, ◌+◌, true, List, [], ◌∷◌, ◌++◌, map, Option, Some, None, refl, sym, ap, ap₂, ◌∙◌, append_assoc}
use Rattle.slot_contents.specs.Contents.{Payload, payload_entry, payload_entries}
use Rattle.pid_findings.specs.Views.{WhatView, PidFinding}
use Rattle.pid_findings.specs.Roles.{Role, NoPayload, ScrambledPayload, PesStart, SectionStart, PointerPastEnd, Continuation}
use Rattle.pid_findings.specs.OpenUnits.{OpenUnit, decided, appended, section, last_in}
use Rattle.pid_findings.specs.Findings.{at_packet, by_role, ended, findings_to_end, undecided, unless_decided}
use Rattle.pid_findings.specs.Machine.{PidState, fresh, next_open, run, run_to, step}
use Rattle.std.specs.Prelude.{option_map}
use Rattle.pid_findings.proofs.DecidedBytes.{last_undecided}
use Rattle.pid_findings.proofs.MachineRun.{run_finds_all}
use Rattle.laws_run.proofs.CountedPackets.{Follows, does, found_plain, part_plain, last_plain}

-- What payloads find, and what they leave open, after the unit that is open before them
unfoldable pub finds : List Payload → Option OpenUnit → List PidFinding
finds [] held = []
finds (p ∷ ps) held = map (at_packet p.index) (by_role p.index (does p) held) ++ finds ps (next_open p.index (does p) held)

unfoldable pub leaves : List Payload → Option OpenUnit → Option OpenUnit
leaves [] held = held
leaves (p ∷ ps) held = leaves ps (next_open p.index (does p) held)

run_finds : (pid number : ℕ) (ps : List Payload) (s : PidState) → Follows number s.last → run s (payload_entries pid number ps) ≡ finds ps s.open_unit
unfolding run payload_entries finds
run_finds pid number [] s f = refl
run_finds pid number (p ∷ ps) s f =
    rw (
      found_plain pid number p s f,
      run_finds pid (number + 1) ps (step s (payload_entry pid number p)) (last_plain pid number p s),
      part_plain pid number p s f,
    ) refl

run_leaves : (pid number : ℕ) (ps : List Payload) (s : PidState) → Follows number s.last →
    (run_to s (payload_entries pid number ps)).open_unit ≡ leaves ps s.open_unit
unfolding run_to payload_entries leaves
run_leaves pid number [] s f = refl
run_leaves pid number (p ∷ ps) s f =
    run_leaves pid (number + 1) ps (step s (payload_entry pid number p)) (last_plain pid number p s) ∙ ap (leaves ps) (part_plain pid number p s f)

-- All findings in the packets of payloads, and of the end after `count` packets
pub found_to_end : (pid count : ℕ) (ps : List Payload) →
    findings_to_end count (payload_entries pid 0 ps) ≡ finds ps None ++ map (at_packet count) (ended true (leaves ps None))
found_to_end pid count ps =
    sym (run_finds_all count (payload_entries pid 0 ps)).1
    ∙ ap₂ (λ (xs : List PidFinding) (b : Option OpenUnit). xs ++ map (at_packet count) (ended true b)) (run_finds pid 0 ps fresh tt)
    (run_leaves pid 0 ps fresh tt)

pub finds_append : (a b : List Payload) (held : Option OpenUnit) → finds (a ++ b) held ≡ finds a held ++ finds b (leaves a held)
unfolding finds leaves
finds_append [] b held = refl
finds_append (p ∷ a) b held =
    let one : List PidFinding = map (at_packet p.index) (by_role p.index (does p) held) in
    let then : Option OpenUnit = next_open p.index (does p) held in
    ap (λ (xs : List PidFinding). one ++ xs) (finds_append a b then) ∙ sym (append_assoc one (finds a then) (finds b (leaves a then)))

pub leaves_append : (a b : List Payload) (held : Option OpenUnit) → leaves (a ++ b) held ≡ leaves b (leaves a held)
unfolding leaves
leaves_append [] b held = refl
leaves_append (p ∷ a) b held = leaves_append a b (next_open p.index (does p) held)

-- An open unit is undecided.
abbrev pub Waits : Option OpenUnit → Type 0
Waits None = Unit {0}
Waits (Some b) = decided b.kind b.bytes ≡ None

undecided_waits : (b : OpenUnit) → Waits (undecided b)
unfolding undecided unless_decided
undecided_waits b = by (decided b.kind b.bytes) refl
  where
    by : (d : Option WhatView) → decided b.kind b.bytes ≡ d → Waits (unless_decided b d)
    by None e = e
    by (Some w) e = tt

next_waits : (i : ℕ) (r : Role) (held : Option OpenUnit) → Waits held → Waits (next_open i r held)
unfolding next_open
next_waits i NoPayload held h = h
next_waits i ScrambledPayload held h = tt
next_waits i (PesStart access payload) held h = undecided_waits _
next_waits i (SectionStart before bytes) held h = by (last_in 0 bytes) refl
  where
    by : (o : Option (List ℕ)) → last_in 0 bytes ≡ o → Waits (option_map (section i) o)
    by None e = tt
    by (Some rest) e = last_undecided 0 bytes rest e
next_waits i PointerPastEnd held h = tt
next_waits i (Continuation payload) None h = tt
next_waits i (Continuation payload) (Some part) h = undecided_waits (appended part payload)

pub leaves_waits : (ps : List Payload) (held : Option OpenUnit) → Waits held → Waits (leaves ps held)
unfolding leaves
leaves_waits [] held h = h
leaves_waits (p ∷ ps) held h = leaves_waits ps (next_open p.index (does p) held) (next_waits p.index (does p) held h)
