-- The sections of tables do not depend on the body of a PES packet.
use Rattle.std.proofs.Common.{◌≡◌, ◌∙◌, ℕ, ◌+◌, ◌^◌, ◌-◌, Bool, List, [], ◌∷◌, ◌++◌, map, Option, Some, None, refl, sym, ap, ap₂}
use Rattle.std.specs.Prelude.{◌==◌, ◌&&◌, ◌||◌, min, if◌then◌else◌, option_and_then, unwrap_or}
use Rattle.psi_tables.specs.declared.error.SectionError.TheVariants as refusals
use Rattle.pid_findings.specs.declared.finding.Kind.{Kind}
use Rattle.pid_findings.specs.declared.finding.Kind.TheVariants.{Table, Pes}
use Rattle.pid_findings.specs.Views.{WhatView, IsDuplicate, BreaksCounter, IsScrambled, IsTruncated, IsSection, IsBadSection, IsPes, IsBadPes, IsBadPacket}
use Rattle.pid_findings.specs.Views.{IsErrored}
use Rattle.pid_findings.specs.Views.{IsStray}
use Rattle.pid_findings.specs.Views.{FindingView}
use Rattle.pid_findings.specs.Bodies.{all_without_body, finding_without_body, without_body}
use Rattle.events.specs.declared.event.Event.{Event}
use Rattle.events.specs.declared.event.Event.TheVariants as found
use Rattle.tr101290.specs.Parts.{part_of}
use Rattle.tr101290.specs.Sections.{begin_of, extension_of, section_begin, section_by, whole_by, whole_section}
use Rattle.tr101290.specs.declared.distances.WholeSection.{WholeSection}
use Rattle.tr101290.specs.declared.intervals.SectionBegin.{SectionBegin}
use Rattle.es_events.specs.declared.view_options.ViewOptions.{ViewOptions}
use Rattle.ts_watch.specs.TableNames.{NamesState, with_each, with_found}
use Rattle.ts_watch.specs.TableEvents.{TimesState, begin_events, distance_events, finding_events, findings_events, has_word, has_wrong_word, is_bad, is_wrong}
use Rattle.ts_watch.specs.TableEvents.{is_wrong_short, other_events, placed, placed_if}
use Rattle.ts_watch.specs.TableEvents.{with_begin, with_finding, with_findings, with_whole}

-- 1. A finding

part_besides : (pid table_id : ℕ) (w : WhatView) → part_of pid table_id (without_body w) ≡ part_of pid table_id w
unfolding part_of
part_besides pid table_id (IsPes header unended body) = refl
part_besides pid table_id (IsTruncated bytes) = refl
part_besides pid table_id IsDuplicate = refl
part_besides pid table_id (BreaksCounter expected found) = refl
part_besides pid table_id IsScrambled = refl
part_besides pid table_id (IsSection bytes) = refl
part_besides pid table_id (IsBadSection error) = refl
part_besides pid table_id (IsBadPes error) = refl
part_besides pid table_id (IsBadPacket error) = refl
part_besides pid table_id IsErrored = refl
part_besides pid table_id (IsStray size) = refl

begin_besides : (pid packet : ℕ) (kind : Kind) (w : WhatView) → begin_of pid packet kind (without_body w) ≡ begin_of pid packet kind w
unfolding begin_of
begin_besides pid packet (Table table_id) w = rw (part_besides pid table_id w) refl
begin_besides pid packet (Pes stamped access) w = refl

section_besides : (pid : Option ℕ) (begun : Option (ℕ × Kind)) (w : WhatView) → section_by pid begun (without_body w) ≡ section_by pid begun w
unfolding section_by
section_besides None begun w = refl
section_besides (Some pid) None w = refl
section_besides (Some pid) (Some begun) w = begin_besides pid begun.0 begun.1 w

extension_besides : (w : WhatView) → extension_of (without_body w) ≡ extension_of w
unfolding extension_of
extension_besides (IsPes header unended body) = refl
extension_besides (IsTruncated bytes) = refl
extension_besides IsDuplicate = refl
extension_besides (BreaksCounter expected found) = refl
extension_besides IsScrambled = refl
extension_besides (IsSection bytes) = refl
extension_besides (IsBadSection error) = refl
extension_besides (IsBadPes error) = refl
extension_besides (IsBadPacket error) = refl
extension_besides IsErrored = refl
extension_besides (IsStray size) = refl

whole_besides : (f : FindingView) → whole_section (finding_without_body f) ≡ whole_section f
whole_besides f = ap₂ (λ (section : Option SectionBegin) (extension : Option ℕ). whole_by section extension f.packet) (section_besides f.pid f.begun f.what)
    (extension_besides f.what)

wrong_besides : (w : WhatView) → is_wrong (without_body w) ≡ is_wrong w
unfolding is_wrong
wrong_besides (IsPes header unended body) = refl
wrong_besides (IsTruncated bytes) = refl
wrong_besides IsDuplicate = refl
wrong_besides (BreaksCounter expected found) = refl
wrong_besides IsScrambled = refl
wrong_besides (IsSection bytes) = refl
wrong_besides (IsBadSection error) = refl
wrong_besides (IsBadPes error) = refl
wrong_besides (IsBadPacket error) = refl
wrong_besides IsErrored = refl
wrong_besides (IsStray size) = refl

word_besides : (w : WhatView) → has_wrong_word (without_body w) ≡ has_wrong_word w
unfolding has_wrong_word
word_besides (IsPes header unended body) = refl
word_besides (IsTruncated bytes) = refl
word_besides IsDuplicate = refl
word_besides (BreaksCounter expected found) = refl
word_besides IsScrambled = refl
word_besides (IsSection bytes) = refl
word_besides (IsBadSection error) = refl
word_besides (IsBadPes error) = refl
word_besides (IsBadPacket error) = refl
word_besides IsErrored = refl
word_besides (IsStray size) = refl

offset_besides : (o : Option SectionBegin) (w : WhatView) → is_wrong_short o (without_body w) ≡ is_wrong_short o w
unfolding is_wrong_short
offset_besides None w = refl
offset_besides (Some s) w = ap (λ (b : Bool). has_word s.pid s.table_id && b) (word_besides w)

bad_besides : (f : FindingView) → is_bad (finding_without_body f) ≡ is_bad f
bad_besides f = ap₂ (λ (a b : Bool). a || b) (wrong_besides f.what)
    (ap (λ (o : Option SectionBegin). is_wrong_short o (without_body f.what)) (section_besides f.pid f.begun f.what)
    ∙ offset_besides (section_begin f) f.what)

-- 2. The state after a finding, and its events

abbrev with_by : ViewOptions → TimesState → Bool → Option WholeSection → Option SectionBegin → TimesState
with_by options s wrong whole section =
    with_begin (with_whole (record { intervals = s.intervals; distances = s.distances; errors = min (s.errors + (if wrong then 1 else 0)) (2 ^ 64 - 1) })
    (placed_if options.arrival whole))
    (option_and_then (placed options.arrival) section)

finding_besides : (options : ViewOptions) (s : TimesState) (f : FindingView) → with_finding options s (finding_without_body f) ≡ with_finding options s f
finding_besides options s f =
    ap (λ (b : Bool). with_by options s b (whole_section (finding_without_body f)) (section_begin (finding_without_body f))) (bad_besides f)
    ∙ ap₂ (λ (x : Option WholeSection) (y : Option SectionBegin). with_by options s (is_bad f) x y) (whole_besides f)
    (section_besides f.pid f.begun f.what)

abbrev events_by : ViewOptions → TimesState → FindingView → Bool → Option WholeSection → Option SectionBegin → List Event
events_by options s f wrong whole section =
    (if wrong then found.CheckWord (record { pid = unwrap_or f.pid 0; packet = f.packet }) ∷ [] else [])
    ++ (other_events whole
    ++ (distance_events s.distances (placed_if options.arrival whole) ++ begin_events s (option_and_then (placed options.arrival) section)))

event_besides : (options : ViewOptions) (s : TimesState) (f : FindingView) → finding_events options s (finding_without_body f) ≡ finding_events options s f
event_besides options s f =
    ap (λ (b : Bool). events_by options s f b (whole_section (finding_without_body f)) (section_begin (finding_without_body f))) (bad_besides f)
    ∙ ap₂ (λ (x : Option WholeSection) (y : Option SectionBegin). events_by options s f (is_bad f) x y) (whole_besides f)
    (section_besides f.pid f.begun f.what)

-- 3. Findings

all_besides : (options : ViewOptions) (s : TimesState) (fs : List FindingView) → with_findings options s (all_without_body fs) ≡ with_findings options s fs
unfolding with_findings
all_besides options s [] = refl
all_besides options s (f ∷ fs) =
    ap (λ (t : TimesState). with_findings options t (all_without_body fs)) (finding_besides options s f) ∙ all_besides options (with_finding options s f) fs

events_besides : (options : ViewOptions) (s : TimesState) (fs : List FindingView) →
    findings_events options s (all_without_body fs) ≡ findings_events options s fs
unfolding findings_events
events_besides options s [] = refl
events_besides options s (f ∷ fs) =
    ap₂ (λ (xs : List Event) (t : TimesState). xs ++ findings_events options t (all_without_body fs)) (event_besides options s f) (finding_besides options s f)
    ∙ ap (λ (xs : List Event). finding_events options s f ++ xs) (events_besides options (with_finding options s f) fs)

pub times_alike : (options : ViewOptions) (s : TimesState) (x y : List FindingView) → all_without_body x ≡ all_without_body y →
    with_findings options s x ≡ with_findings options s y
times_alike options s x y e = sym (all_besides options s x) ∙ ap (with_findings options s) e ∙ all_besides options s y

pub events_alike : (options : ViewOptions) (s : TimesState) (x y : List FindingView) → all_without_body x ≡ all_without_body y →
    findings_events options s x ≡ findings_events options s y
events_alike options s x y e = sym (events_besides options s x) ∙ ap (findings_events options s) e ∙ events_besides options s y

-- 4. What sections name

found_besides : (names : NamesState) (pid : ℕ) (w : WhatView) → with_found names pid (without_body w) ≡ with_found names pid w
unfolding with_found
found_besides names pid (IsPes header unended body) = refl
found_besides names pid (IsTruncated bytes) = refl
found_besides names pid IsDuplicate = refl
found_besides names pid (BreaksCounter expected found) = refl
found_besides names pid IsScrambled = refl
found_besides names pid (IsSection bytes) = refl
found_besides names pid (IsBadSection error) = refl
found_besides names pid (IsBadPes error) = refl
found_besides names pid (IsBadPacket error) = refl
found_besides names pid IsErrored = refl
found_besides names pid (IsStray size) = refl

each_besides : (names : NamesState) (fs : List FindingView) → with_each names (all_without_body fs) ≡ with_each names fs
unfolding with_each
each_besides names [] = refl
each_besides names (f ∷ fs) =
    ap (λ (t : NamesState). with_each t (all_without_body fs)) (found_besides names (unwrap_or f.pid 8191) f.what)
    ∙ each_besides (with_found names (unwrap_or f.pid 8191) f.what) fs

pub names_alike : (names : NamesState) (x y : List FindingView) → all_without_body x ≡ all_without_body y → with_each names x ≡ with_each names y
names_alike names x y e = sym (each_besides names x) ∙ ap (with_each names) e ∙ each_besides names y
