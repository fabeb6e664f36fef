-- The findings at a packet that are no counter breaks.
use Rattle.std.proofs.Common.{◌≡◌, ◌∙◌, ℕ, zero, suc, ◌+◌, ◌-◌, ◌==◌, Bool, true, false, cond, List, [], ◌∷◌, ◌++◌, length, take, drop, map, filter, Option}
use Rattle.std.proofs.Common.{Some, None, Result, Ok, Err, refl, sym, ap}
use Rattle.std.specs.Prelude.{nat_lt}
use Rattle.psi_tables.specs.Views.{SectionView}
use Rattle.psi_tables.specs.Reading.{section_at}
use Rattle.psi_tables.specs.declared.error.SectionError.{SectionError}
use Rattle.psi_tables.specs.declared.error.SectionError.TheVariants as section_errors
use Rattle.pes_packet.specs.Reading.{header_at}
use Rattle.pes_packet.specs.declared.reading.PesHeader.{PesHeader}
use Rattle.pes_packet.specs.declared.refusal.PesError.{PesError}
use Rattle.pes_packet.specs.declared.refusal.PesError.TheVariants as pes_errors
use Rattle.pid_findings.specs.Views.{Found, WhatView, IsDuplicate, IsScrambled, IsTruncated, IsSection, IsBadSection, IsPes, IsBadPes, IsStray}
use Rattle.pid_findings.specs.Marks.{LastView, Marked, break_at, is_repeat, mark}
use Rattle.ts_packet.specs.PidList.{Entry}
use Rattle.pid_findings.specs.Roles.{Role, NoPayload, ScrambledPayload, PesStart, SectionStart, PointerPastEnd, Continuation, role}
use Rattle.pid_findings.specs.OpenUnits.{OpenUnit, about_within, appended, decided, max_unbounded_pes, of_header, of_pes, of_section, plain, section}
use Rattle.pid_findings.specs.OpenUnits.{sections_in}
use Rattle.pid_findings.specs.OpenUnits.{taken_by}
use Rattle.pid_findings.specs.declared.open_unit.UnitKind.{UnitKind}
use Rattle.pid_findings.specs.declared.open_unit.UnitKind.TheVariants as unit_kinds
use Rattle.pid_findings.specs.Findings.{by_break, by_role, cut_short, decided_within, end_of, ended, found_appended, found_at, found_if, found_or_cut}
use Rattle.pid_findings.specs.Findings.{found_within}
use Rattle.pid_findings.specs.Findings.{last_bytes, last_bytes_by, past_end}
use Rattle.pid_findings.specs.Machine.{PidState, found_by}
use Rattle.pid_findings.specs.Shown.{with_pid}
use Rattle.monitor.specs.declared.fault.StreamFault.{StreamFault}
use Rattle.monitor.specs.declared.fault.Rule.TheVariants as rules
use Rattle.monitor.specs.InOrder.{rule_number}
use Rattle.monitor.specs.Rules.{failing, fault, finding_rule}
use Rattle.monitor.proofs.FindingSteps.{faults_of_all, faults_on}
use Rattle.laws_view.specs.FaultsByRule.{is_by}
use Rattle.laws_view.proofs.FaultLists.{right_alone}

-- 1. A finding that is no counter break

abbrev pub quiet : WhatView → Type 0
quiet what = (pid packet : ℕ) → filter (is_by 4) (failing (Some pid) packet (finding_rule what)) ≡ []

abbrev quiet_if : Option WhatView → Type 0
quiet_if None = Unit {0}
quiet_if (Some what) = quiet what

truncated_quiet : (bytes : List ℕ) → quiet (IsTruncated bytes)
unfolding finding_rule failing
truncated_quiet bytes pid packet = refl

section_quiet : (bytes : List ℕ) → quiet (IsSection bytes)
unfolding finding_rule failing
section_quiet bytes pid packet = refl

bad_section_quiet : (e : SectionError) → quiet (IsBadSection e)
unfolding finding_rule failing rule_number
bad_section_quiet section_errors.Short pid packet = refl
bad_section_quiet section_errors.Length pid packet = refl
bad_section_quiet section_errors.CheckWord pid packet = refl
bad_section_quiet section_errors.Syntax pid packet = refl
bad_section_quiet section_errors.Body pid packet = refl
bad_section_quiet section_errors.TooLong pid packet = refl

pes_quiet : (h : PesHeader) (unended : Bool) (body : List ℕ) → quiet (IsPes h unended body)
unfolding finding_rule failing
pes_quiet h unended body pid packet = refl

bad_pes_quiet : (e : PesError) → quiet (IsBadPes e)
unfolding finding_rule failing
bad_pes_quiet e pid packet = refl

duplicate_quiet : quiet IsDuplicate
unfolding finding_rule failing
duplicate_quiet pid packet = refl

scrambled_quiet : quiet IsScrambled
unfolding finding_rule failing
scrambled_quiet pid packet = refl

-- Findings that the bytes of a PES packet decide.
of_header_quiet : (bytes : List ℕ) (h : PesHeader × ℕ) → quiet_if (of_header bytes h)
unfolding of_header
of_header_quiet bytes h = by (h.0.len == 0) (nat_lt max_unbounded_pes (length bytes)) (nat_lt (length bytes) (6 + h.0.len))
  where
    by : (a b c : Bool) →
        quiet_if (cond a (cond b (Some (IsTruncated bytes)) None) (cond c None (Some (IsPes h.0 false (take (6 + h.0.len - h.1) (drop h.1 bytes))))))
    by true true c = truncated_quiet bytes
    by true false c = tt
    by false b true = tt
    by false b false = pes_quiet h.0 false (take (6 + h.0.len - h.1) (drop h.1 bytes))

of_pes_quiet : (bytes : List ℕ) (r : Result (PesHeader × ℕ) PesError) → quiet_if (of_pes bytes r)
unfolding of_pes
of_pes_quiet bytes (Ok h) = of_header_quiet bytes h
of_pes_quiet bytes (Err pes_errors.Short) = tt
of_pes_quiet bytes (Err pes_errors.Prefix) = bad_pes_quiet pes_errors.Prefix
of_pes_quiet bytes (Err pes_errors.BadFlags) = bad_pes_quiet pes_errors.BadFlags
of_pes_quiet bytes (Err pes_errors.Marker) = bad_pes_quiet pes_errors.Marker
of_pes_quiet bytes (Err pes_errors.Length) = bad_pes_quiet pes_errors.Length

of_section_quiet : (bytes : List ℕ) (r : Result (SectionView × ℕ) SectionError) → quiet_if (of_section bytes r)
unfolding of_section
of_section_quiet bytes (Ok s) = section_quiet (take s.1 bytes)
of_section_quiet bytes (Err section_errors.Short) = tt
of_section_quiet bytes (Err section_errors.Length) = bad_section_quiet section_errors.Length
of_section_quiet bytes (Err section_errors.CheckWord) = bad_section_quiet section_errors.CheckWord
of_section_quiet bytes (Err section_errors.Syntax) = bad_section_quiet section_errors.Syntax
of_section_quiet bytes (Err section_errors.Body) = bad_section_quiet section_errors.Body
of_section_quiet bytes (Err section_errors.TooLong) = bad_section_quiet section_errors.TooLong

decided_quiet : (kind : UnitKind) (bytes : List ℕ) → quiet_if (decided kind bytes)
unfolding decided
decided_quiet unit_kinds.Pes bytes = of_pes_quiet bytes (header_at bytes)
decided_quiet unit_kinds.Section bytes = of_section_quiet bytes (section_at bytes)

end_quiet : (unended : Bool) (bytes : List ℕ) (kind : UnitKind) (r : Result (PesHeader × ℕ) PesError) → quiet (end_of unended bytes kind r)
end_quiet unended bytes unit_kinds.Pes (Ok h) = by (h.0.len == 0)
  where
    by : (t : Bool) → quiet (cond t (IsPes h.0 unended (drop h.1 bytes)) (IsTruncated bytes))
    by true = pes_quiet h.0 unended (drop h.1 bytes)
    by false = truncated_quiet bytes
end_quiet unended bytes unit_kinds.Pes (Err e) = truncated_quiet bytes
end_quiet unended bytes unit_kinds.Section (Ok h) = truncated_quiet bytes
end_quiet unended bytes unit_kinds.Section (Err e) = truncated_quiet bytes

-- 2. All findings at a packet except the counter break

abbrev pub all_quiet : List Found → Type 0
all_quiet [] = Unit {0}
all_quiet (x ∷ found) = quiet x.what × all_quiet found

join : (xs ys : List Found) → all_quiet xs → all_quiet ys → all_quiet (xs ++ ys)
join [] ys h k = k
join (x ∷ xs) ys h k = (h.0, join xs ys h.1 k)

cut_quiet : (held : Option OpenUnit) → all_quiet (cut_short held)
cut_quiet None = tt
cut_quiet (Some unit) = (truncated_quiet unit.bytes, tt)

pub ended_quiet : (unended : Bool) (held : Option OpenUnit) → all_quiet (ended unended held)
unfolding ended
ended_quiet unended None = tt
ended_quiet unended (Some unit) = (end_quiet unended unit.bytes unit.kind (header_at unit.bytes), tt)

stray_quiet : (n : ℕ) (none : Bool) → all_quiet (cond none [] (plain (IsStray n) ∷ []))
unfolding finding_rule failing
stray_quiet n true = tt
stray_quiet n false = (λ pid packet. refl, tt)

if_quiet : (unit : OpenUnit) (what : Option WhatView) → quiet_if what → all_quiet (found_if unit what)
unfolding found_if
if_quiet unit None h = tt
if_quiet unit (Some what) h = let n = past_end (length unit.bytes) what in (h, stray_quiet n (n == 0))

within_quiet : (unit : OpenUnit) (what : Option WhatView) → quiet_if what → all_quiet (found_within unit what)
unfolding found_within
within_quiet unit None h = tt
within_quiet unit (Some what) h = let n = past_end (length unit.bytes) what in (h, stray_quiet n (n == 0))

or_cut_quiet : (unit : OpenUnit) (what : Option WhatView) → quiet_if what → all_quiet (found_or_cut unit what)
unfolding found_or_cut
or_cut_quiet unit None h = (truncated_quiet unit.bytes, tt)
or_cut_quiet unit (Some what) h = (h, tt)

last_quiet : (bytes : List ℕ) (held : Option OpenUnit) → all_quiet (last_bytes bytes held)
unfolding last_bytes last_bytes_by
last_quiet bytes None = tt
last_quiet bytes (Some unit) = by unit.kind
  where
    by : (kind : UnitKind) → all_quiet (last_bytes_by bytes unit kind)
    by unit_kinds.Pes = ended_quiet false (Some unit)
    by unit_kinds.Section =
        or_cut_quiet (appended unit bytes) (decided unit_kinds.Section (unit.bytes ++ bytes)) (decided_quiet unit_kinds.Section (unit.bytes ++ bytes))

appended_quiet : (payload : List ℕ) (held : Option OpenUnit) → all_quiet (found_appended payload held)
unfolding found_appended
appended_quiet payload None = stray_quiet (length payload) (length payload == 0)
appended_quiet payload (Some unit) =
    if_quiet (appended unit payload) (decided unit.kind (unit.bytes ++ payload)) (decided_quiet unit.kind (unit.bytes ++ payload))

sections_quiet : (index k : ℕ) (bytes : List ℕ) → all_quiet (sections_in index k bytes)
unfolding sections_in
sections_quiet index k [] = tt
sections_quiet index (suc k) (b ∷ bytes) = sections_quiet index k bytes
sections_quiet index zero (b ∷ bytes) =
    by (b == 0xFF) (decided unit_kinds.Section (b ∷ bytes)) (decided_quiet unit_kinds.Section (b ∷ bytes)) (λ n. sections_quiet index n bytes)
  where
    by : (t : Bool) (o : Option WhatView) → quiet_if o → ((n : ℕ) → all_quiet (sections_in index n bytes)) →
        all_quiet (cond t [] (elim o [
          | None ↦ []
          | Some what ↦ about_within (section index (b ∷ bytes)) what ∷ sections_in index (taken_by (b ∷ bytes) what - 1) bytes
        ]))
    by true o q h = tt
    by false None q h = tt
    by false (Some what) q h = (q, h (taken_by (b ∷ bytes) what - 1))

role_quiet : (index : ℕ) (r : Role) (held : Option OpenUnit) → all_quiet (by_role index r held)
unfolding by_role
role_quiet index NoPayload held = tt
role_quiet index ScrambledPayload held = (scrambled_quiet, cut_quiet held)
role_quiet index (PesStart access payload) held =
    join (ended false held) (decided_within (record { packet = index; kind = unit_kinds.Pes; access = access; bytes = payload })) (ended_quiet false held)
    (within_quiet (record { packet = index; kind = unit_kinds.Pes; access = access; bytes = payload }) (decided unit_kinds.Pes payload)
    (decided_quiet unit_kinds.Pes payload))
role_quiet index (SectionStart before bytes) held =
    join (last_bytes before held) (sections_in index 0 bytes) (last_quiet before held) (sections_quiet index 0 bytes)
role_quiet index PointerPastEnd held = (bad_section_quiet section_errors.Body, cut_quiet held)
role_quiet index (Continuation payload) held = appended_quiet payload held

-- 3. By the counter rule, the faults at a packet are its counter break

-- The counter faults among the findings on a PID at a packet.
abbrev pub faults_at : ℕ → ℕ → List Found → List StreamFault
faults_at pid packet found = filter (is_by 4) (faults_of_all (map (with_pid pid packet) found))

unfoldable pub break_fault : ℕ → ℕ → Option (ℕ × ℕ) → List StreamFault
break_fault pid packet None = []
break_fault pid packet (Some b) = fault rules.Counter (Some pid) packet ∷ []

pub quiet_faults : (pid packet : ℕ) (found : List Found) → all_quiet found → faults_at pid packet found ≡ []
unfolding faults_of_all faults_on
quiet_faults pid packet [] h = refl
quiet_faults pid packet (x ∷ found) h =
    right_alone (is_by 4) (failing (Some pid) packet (finding_rule x.what)) (faults_of_all (map (with_pid pid packet) found)) (h.0 pid packet)
    ∙ quiet_faults pid packet found h.1

break_faults : (pid packet : ℕ) (broken : Option (ℕ × ℕ)) (r : Role) (held : Option OpenUnit) →
    faults_at pid packet (by_break packet broken r held) ≡ break_fault pid packet broken
unfolding by_break break_fault faults_of_all faults_on finding_rule failing rule_number
break_faults pid packet None r held = quiet_faults pid packet (by_role packet r held) (role_quiet packet r held)
break_faults pid packet (Some b) r held =
    ap (λ (l : List StreamFault). fault rules.Counter (Some pid) packet ∷ l)
    (quiet_faults pid packet (cut_short held ++ by_role packet r None)
    (join (cut_short held) (by_role packet r None) (cut_quiet held) (role_quiet packet r None)))

-- A packet that repeats the packet before it is no counter break.
no_break_of : (last : Option LastView) (entry : Entry) → is_repeat last entry ≡ true → break_at last entry ≡ None
unfolding is_repeat break_at
no_break_of None entry e = refl
no_break_of (Some last) entry e = rw e refl

pub counter_at : (pid : ℕ) (s : PidState) (entry : Entry) → faults_at pid entry.index (found_by s entry) ≡ break_fault pid entry.index (break_at s.last entry)
unfolding found_at mark break_fault
counter_at pid s entry = by (is_repeat s.last entry) refl
  where
    m : Marked
    m = mark s.last entry

    by : (t : Bool) → is_repeat s.last entry ≡ t →
        faults_at pid entry.index (cond t (plain IsDuplicate ∷ []) (by_break entry.index (break_at s.last entry) (role m) s.open_unit)) ≡ break_fault pid
        entry.index (break_at s.last entry)
    by true e = quiet_faults pid entry.index (plain IsDuplicate ∷ []) (duplicate_quiet, tt)
        ∙ sym (ap (break_fault pid entry.index) (no_break_of s.last entry e))
    by false e = break_faults pid entry.index (break_at s.last entry) (role m) s.open_unit
