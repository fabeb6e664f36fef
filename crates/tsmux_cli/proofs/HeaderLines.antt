-- The lines of findings need no body.
use Rattle.std.proofs.Common.{◌≡◌, ◌∙◌, ℕ, suc, ◌<◌, ◌≤◌, Bool, true, false, List, [], ◌∷◌, ◌++◌, length, map, drop, slice_get, Some, Result, Ok, Err, OnOk}
use Rattle.std.proofs.Common.{inl, inr, refl, sym, ap, ap₂, arith, append_assoc}
use Rattle.std.specs.Prelude.{◌||◌, if◌then◌else◌, IfOk, codes, decimal}
use Rattle.std.proofs.lemmas.List.{append-nil, drop_all, length-replicate}
use Rattle.std.proofs.lemmas.Grind.{flat_map-append}
use Rattle.std.proofs.lemmas.List.Folds.{list_any-append}
use Rattle.std.proofs.lemmas.Option.{slice_get_cases}
use Rattle.pid_findings.specs.Views.{WhatView, IsDuplicate, BreaksCounter, IsScrambled, IsTruncated, IsSection, IsBadSection, IsPes, IsBadPes, IsBadPacket}
use Rattle.pid_findings.specs.Views.{IsErrored}
use Rattle.pid_findings.specs.Views.{IsStray}
use Rattle.pid_findings.specs.Views.{FindingView}
use Rattle.pid_findings.specs.Machine.{PidState}
use Rattle.pid_findings.specs.Findings.{ended}
use Rattle.pid_findings.specs.Shown.{with_pid}
use Rattle.demux.specs.Stream.{States, ended_found}
use Rattle.pid_findings.specs.Bodies.{all_without_body, finding_without_body, without_body}
use Rattle.demux.specs.StreamBodies.{AddsHeaders}
use Rattle.demux.proofs.StreamEnd.{ended_next}
use Rattle.tsmux_cli.specs.FindingLines.{finding_lines, has_fault, is_fault, is_listed, listed_line, pes_text, place_text, what_text}

pub both_lines : (found more : List FindingView) → finding_lines (found ++ more) ≡ finding_lines found ++ finding_lines more
both_lines found more = flat_map-append listed_line found more

pub both_faults : (found more : List FindingView) → has_fault (found ++ more) ≡ (has_fault found || has_fault more)
both_faults found more = list_any-append (λ (finding : FindingView). is_fault finding.what) found more

-- 1. Bodies

text_besides : (w : WhatView) → what_text (without_body w) ≡ what_text w
unfolding what_text
text_besides (IsPes header unended body) = ap (pes_text header unended) (length-replicate {A = ℕ} (length body) 0)
text_besides (IsTruncated bytes) = ap (λ (n : ℕ). codes " truncated " ++ decimal n) (length-replicate {A = ℕ} (length bytes) 0)
text_besides IsDuplicate = refl
text_besides (BreaksCounter expected found) = refl
text_besides IsScrambled = refl
text_besides (IsSection bytes) = refl
text_besides (IsBadSection error) = refl
text_besides (IsBadPes error) = refl
text_besides (IsBadPacket error) = refl
text_besides IsErrored = refl
text_besides (IsStray size) = refl

fault_besides : (w : WhatView) → is_fault (without_body w) ≡ is_fault w
unfolding is_fault
fault_besides (IsPes header unended body) = refl
fault_besides (IsTruncated bytes) = refl
fault_besides IsDuplicate = refl
fault_besides (BreaksCounter expected found) = refl
fault_besides IsScrambled = refl
fault_besides (IsSection bytes) = refl
fault_besides (IsBadSection error) = refl
fault_besides (IsBadPes error) = refl
fault_besides (IsBadPacket error) = refl
fault_besides IsErrored = refl
fault_besides (IsStray size) = refl

listed_besides : (w : WhatView) → is_listed (without_body w) ≡ is_listed w
unfolding is_listed
listed_besides (IsPes header unended body) = refl
listed_besides (IsTruncated bytes) = refl
listed_besides IsDuplicate = refl
listed_besides (BreaksCounter expected found) = refl
listed_besides IsScrambled = refl
listed_besides (IsSection bytes) = refl
listed_besides (IsBadSection error) = refl
listed_besides (IsBadPes error) = refl
listed_besides (IsBadPacket error) = refl
listed_besides IsErrored = refl
listed_besides (IsStray size) = refl

line_besides : (x : FindingView) → listed_line (finding_without_body x) ≡ listed_line x
line_besides x =
    ap₂ (λ (listed : Bool) (text : List ℕ). if listed then place_text x.packet x.pid ++ text ++ codes "\n" else []) (listed_besides x.what)
    (text_besides x.what)

lines_besides : (found : List FindingView) → finding_lines (all_without_body found) ≡ finding_lines found
lines_besides [] = refl
lines_besides (x ∷ found) = ap₂ (λ (text rest : List ℕ). text ++ rest) (line_besides x) (lines_besides found)

faults_besides : (found : List FindingView) → has_fault (all_without_body found) ≡ has_fault found
faults_besides [] = refl
faults_besides (x ∷ found) = ap₂ (λ (a b : Bool). a || b) (fault_besides x.what) (faults_besides found)

pub lines_alike : (x y : List FindingView) → all_without_body x ≡ all_without_body y → finding_lines x ≡ finding_lines y
lines_alike x y e = sym (lines_besides x) ∙ ap finding_lines e ∙ lines_besides y

pub faults_alike : (x y : List FindingView) → all_without_body x ≡ all_without_body y → has_fault x ≡ has_fault y
faults_alike x y e = sym (faults_besides x) ∙ ap has_fault e ∙ faults_besides y

-- If there were no findings before, all findings, without their bodies, are the added findings.
pub added_to_none : (none new found : List FindingView) → none ≡ [] → AddsHeaders none new found → all_without_body new ≡ all_without_body found
added_to_none none new found e added = added ∙ ap (λ (x : List FindingView). all_without_body x ++ all_without_body found) e

-- 2. The end of a stream, PID by PID

abbrev of_entry : ℕ → ℕ × PidState → List FindingView
of_entry packet x = map (with_pid x.0 packet) (ended true x.1.open_unit)

lines_more : (packet i : ℕ) (states : States) (x : ℕ × PidState) (lines next all : List ℕ) → slice_get states i ≡ Some x →
    next ≡ lines ++ finding_lines (of_entry packet x) → lines ++ finding_lines (ended_found packet (drop i states)) ≡ all →
    next ++ finding_lines (ended_found packet (drop (suc i) states)) ≡ all
lines_more packet i states x lines next all there more e =
    let rest = ended_found packet (drop (suc i) states) in
    ap (λ (text : List ℕ). text ++ finding_lines rest) more ∙ append_assoc lines (finding_lines (of_entry packet x)) (finding_lines rest)
    ∙ ap (λ (text : List ℕ). lines ++ text) (sym (both_lines (of_entry packet x) rest) ∙ ap finding_lines (sym (ended_next packet i states x there))) ∙ e

or_both : (a b c : Bool) → ((a || b) || c) ≡ (a || (b || c))
or_both true b c = refl
or_both false b c = refl

faults_more : (packet i : ℕ) (states : States) (x : ℕ × PidState) (faulty here next all : Bool) → slice_get states i ≡ Some x →
    here ≡ has_fault (of_entry packet x) → next ≡ (faulty || here) → (faulty || has_fault (ended_found packet (drop i states))) ≡ all →
    (next || has_fault (ended_found packet (drop (suc i) states))) ≡ all
faults_more packet i states x faulty here next all there is more e =
    let rest = ended_found packet (drop (suc i) states) in
    ap (λ (b : Bool). b || has_fault rest) (more ∙ ap (λ (b : Bool). faulty || b) is) ∙ or_both faulty (has_fault (of_entry packet x)) (has_fault rest)
    ∙ ap (λ (b : Bool). faulty || b) (sym (both_faults (of_entry packet x) rest) ∙ ap has_fault (sym (ended_next packet i states x there))) ∙ e

pub record AtEnd (packet i : ℕ) (states : States) (lines all : List ℕ) (faulty fault : Bool) : Type 0 where
  pub lines_are : lines ++ finding_lines (ended_found packet (drop i states)) ≡ all
  pub faults_are : (faulty || has_fault (ended_found packet (drop i states))) ≡ fault

pub end_more : (packet i : ℕ) (states : States) (lines next all : List ℕ) (faulty here more fault : Bool) → i < length states →
    ((x : ℕ × PidState) → slice_get states i ≡ Some x → next ≡ lines ++ finding_lines (of_entry packet x)) →
    ((x : ℕ × PidState) → slice_get states i ≡ Some x → here ≡ has_fault (of_entry packet x)) → more ≡ (faulty || here) →
    AtEnd packet i states lines all faulty fault → AtEnd packet (suc i) states next all more fault
end_more packet i states lines next all faulty here more fault less listed known joined h = elim (slice_get_cases states i).1 [
  | inl found ↦ record {
    lines_are = lines_more packet i states found.0 lines next all found.2 (listed found.0 found.2) h.lines_are;
    faults_are = faults_more packet i states found.0 faulty here more fault found.2 (known found.0 found.2) joined h.faults_are;
  }
  | inr past ↦ absurd (omega (arith, less, past.0))
]

pub lines_end : (packet i : ℕ) (states : States) (lines all : List ℕ) (faulty fault : Bool) → length states ≤ i → AtEnd packet i states lines all faulty fault →
    lines ≡ all
unfolding ended_found
lines_end packet i states lines all faulty fault past h =
    sym (append-nil lines) ∙ ap (λ (xs : States). lines ++ finding_lines (ended_found packet xs)) (sym (drop_all i states past)) ∙ h.lines_are

or_none : (b : Bool) → b ≡ (b || false)
or_none true = refl
or_none false = refl

pub faults_end : (packet i : ℕ) (states : States) (lines all : List ℕ) (faulty fault : Bool) → length states ≤ i →
    AtEnd packet i states lines all faulty fault → faulty ≡ fault
unfolding ended_found
faults_end packet i states lines all faulty fault past h =
    or_none faulty ∙ ap (λ (xs : States). faulty || has_fault (ended_found packet xs)) (sym (drop_all i states past)) ∙ h.faults_are

-- The state before the first PID.
pub at_first : (packet : ℕ) (states : States) (held : List FindingView) (old lines : List ℕ) (faulty : Bool) → lines ≡ old ++ finding_lines held →
    faulty ≡ has_fault held →
    AtEnd packet 0 states lines (old ++ finding_lines (held ++ ended_found packet states)) faulty (has_fault (held ++ ended_found packet states))
at_first packet states held old lines faulty listed known =
    let rest = ended_found packet states in record {
      lines_are = ap (λ (text : List ℕ). text ++ finding_lines rest) listed ∙ append_assoc old (finding_lines held) (finding_lines rest)
          ∙ ap (λ (text : List ℕ). old ++ text) (sym (both_lines held rest));
      faults_are = ap (λ (b : Bool). b || has_fault rest) known ∙ sym (both_faults held rest);
    }

-- 3. The lines of the first findings

pub lines_after : {V E : Type 0} (r : Result V E) (old lines : List ℕ) (none new found : List FindingView) → none ≡ [] → AddsHeaders none new found →
    OnOk r (lines ≡ old ++ finding_lines new) → OnOk r (lines ≡ old ++ finding_lines found)
lines_after (Ok v) old lines none new found e added is =
    is ∙ ap (λ (text : List ℕ). old ++ text) (lines_alike new found (added_to_none none new found e added))
lines_after (Err v) old lines none new found e added is = tt

pub faults_after : {E : Type 0} (r : Result Bool E) (none new found : List FindingView) → none ≡ [] → AddsHeaders none new found →
    IfOk r (λ faulty. faulty ≡ has_fault new) → IfOk r (λ faulty. faulty ≡ has_fault found)
faults_after (Ok v) none new found e added is = is ∙ faults_alike new found (added_to_none none new found e added)
faults_after (Err v) none new found e added is = tt
