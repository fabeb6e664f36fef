-- The machine over the packets of a PID.
use Rattle.std.proofs.Common.{◌≡◌, List, [], ◌∷◌, ◌++◌, Option, Some, None, reverse, refl, sym, ap, ◌∙◌, append_assoc}
use Rattle.ts_packet.specs.PidList.{Entry}
use Rattle.std.proofs.lemmas.List.{append-nil, reverse-append}
use Rattle.pid_findings.specs.Marks.{Marked, mark, marked, seen}
use Rattle.pid_findings.specs.OpenUnits.{OpenUnit}
use Rattle.pid_findings.specs.Roles.{role}
use Rattle.pid_findings.specs.Findings.{findings, findings_after, found_at, open_after, stretch, divider}
use Rattle.pid_findings.specs.Machine.{PidState, RunFindsAll, fresh, next_open, unbroken, run, run_to, step, step_marked}
use Rattle.pid_findings.proofs.OpenUnits.{open_more}

turned : (m : Marked) (ms before : List Marked) → reverse ms ++ (m ∷ before) ≡ reverse (m ∷ ms) ++ before
turned m ms before = sym (ap (λ (x : List Marked). x ++ before) (reverse-append (m ∷ []) ms) ∙ append_assoc (reverse ms) (m ∷ []) before)

step_opens : (before : List Marked) (s : PidState) (entry : Entry) → s.open_unit ≡ open_after before →
    (step s entry).open_unit ≡ open_after (mark s.last entry ∷ before)
unfolding step_marked
step_opens before s entry h =
    let m = mark s.last entry in
    ap (λ (open_unit : Option OpenUnit). next_open m.entry.index (role m) (unbroken m.broken open_unit)) h ∙ sym (open_more m before)

-- A run starts with the unit that is open after the packets so far, listed from the last to the first.
runs_on : (before : List Marked) (s : PidState) (entries : List Entry) → s.open_unit ≡ open_after before →
    run s entries ≡ findings_after before (marked s.last entries)
unfolding run findings_after step_marked mark
runs_on before s [] h = refl
runs_on before s (entry ∷ entries) h =
    let m = mark s.last entry in
    let first : found_at m s.open_unit ≡ found_at m (open_after before) = ap (found_at m) h in
    let after : (step s entry).open_unit ≡ open_after (m ∷ before) = step_opens before s entry h in
    let rest : run (step s entry) entries ≡ findings_after (m ∷ before) (marked (Some (seen m)) entries) = runs_on (m ∷ before) (step s entry) entries after in
    rw (first, rest) refl

ends_on : (before : List Marked) (s : PidState) (entries : List Entry) → s.open_unit ≡ open_after before →
    (run_to s entries).open_unit ≡ open_after (reverse (marked s.last entries) ++ before)
unfolding run_to step_marked
ends_on before s [] h = h
ends_on before s (entry ∷ entries) h =
    let m = mark s.last entry in
    ends_on (m ∷ before) (step s entry) entries (step_opens before s entry h)
    ∙ ap open_after (turned m (marked (Some (seen m)) entries) before)

-- The machine finds the findings of the definition, with and without the end of the stream.
pub run_finds_all : RunFindsAll
unfolding open_after stretch divider
run_finds_all count entries =
    let found : run fresh entries ≡ findings entries = runs_on [] fresh entries refl in
    let open_at_end : (run_to fresh entries).open_unit ≡ open_after (reverse (marked None entries)) =
    ends_on [] fresh entries refl ∙ ap open_after (append-nil (reverse (marked None entries))) in
    (found, rw (found, open_at_end) refl)
