-- The packets of a section give one finding.
use Rattle.std.proofs.Common.{◌≡◌, ℕ, suc, ◌+◌, ◌-◌, ◌*◌, ◌<◌, ◌≤◌, nat_le, Bool, true, false, List, [], ◌∷◌, ◌++◌, length, map, take, drop, replicate}
use Rattle.std.proofs.Common.{slice_index, Option, Some, None, refl, sym, ap, ap₂, subst, ◌∙◌, inl, inr, arith, mul-suc, take-add, append-nil, le-leb, le-ltb}
use Rattle.std.specs.Prelude.{option_map}
use Rattle.std.proofs.lemmas.List.{map-append}
use Rattle.std.proofs.lemmas.Bool.{lt-leb, cases_lt}
use Rattle.ts_packet.specs.declared.start.Start.TheVariants.{Continues, Begins}
use Rattle.slot_contents.specs.Contents.{Payload}
use Rattle.pid_findings.specs.declared.finding.Kind.{Kind}
use Rattle.pid_findings.specs.declared.finding.Kind.TheVariants.{Table}
use Rattle.pid_findings.specs.declared.open_unit.UnitKind.{UnitKind}
use Rattle.pid_findings.specs.declared.open_unit.UnitKind.TheVariants as unit_kinds
use Rattle.pid_findings.specs.Views.{IsSection, IsTruncated, Found, PidFinding}
use Rattle.pid_findings.specs.Roles.{Role, SectionStart, role_by, role_by_pointer, may_begin_pes}
use Rattle.pid_findings.specs.OpenUnits.{OpenUnit, decided, about_within, begun_kind, section, sections_in, last_in, taken_by}
use Rattle.pid_findings.specs.Findings.{at_packet, by_role, ended, found_or_cut, last_bytes, last_bytes_by}
use Rattle.pid_findings.specs.Machine.{next_open}
use Rattle.pid_findings.proofs.SectionWalk.{fill_found, fill_last, cut_found, cut_last, more_found, more_last}
use Rattle.laws_run.specs.Sent.{cut, Ending, begin_or, if_sent, last_of}
use Rattle.laws_run.specs.Sections.{filled_section, begun_table, section_found, IsRecognized}
use Rattle.laws_run.proofs.CountedPackets.{does}
use Rattle.laws_run.proofs.PidSteps.{finds, leaves, Waits}
use Rattle.laws_run.proofs.LaterPackets.{rest_quiet, rest_decided}
use Rattle.laws_run.proofs.AllSendings.{Gives, ends_at}
use Rattle.laws_run.proofs.SectionPrefixes.{filled_to, given_size, open_before, whole_at, kind_at, no_fill_at, no_pes_at, fill_after, filled_less}

-- The first payload of a section: pointer_field 0, and bytes
abbrev pub pointing : ℕ → List ℕ → Payload
pointing i bytes = record { index = i; start = Begins; bytes = 0 ∷ bytes }

-- The unit that is open before a section gets no byte.
no_last_by : (f : UnitKind) (packet : ℕ) (access : Bool) (bytes : List ℕ) → decided f bytes ≡ None →
    last_bytes_by [] (record { packet = packet; kind = f; access = access; bytes = bytes }) f ≡ ended false
    (Some (record { packet = packet; kind = f; access = access; bytes = bytes }))
unfolding last_bytes_by ended found_or_cut
no_last_by unit_kinds.Pes packet access bytes e = refl
no_last_by unit_kinds.Section packet access bytes e = rw (append-nil bytes, e) refl

no_last : (held : Option OpenUnit) → Waits held → last_bytes [] held ≡ ended false held
unfolding last_bytes ended
no_last None w = refl
no_last (Some b) w = no_last_by b.kind b.packet b.access b.bytes w

does_point : (i : ℕ) (bytes : List ℕ) → may_begin_pes (0 ∷ bytes) ≡ false → does (pointing i bytes) ≡ SectionStart [] bytes
unfolding role_by role_by_pointer
does_point i bytes e = rw (e, le-ltb (length bytes) 0 (omega arith)) refl

pub first_found : (i : ℕ) (bytes : List ℕ) (held : Option OpenUnit) → may_begin_pes (0 ∷ bytes) ≡ false → Waits held →
    by_role i (does (pointing i bytes)) held ≡ ended false held ++ sections_in i 0 bytes
unfolding by_role
first_found i bytes held e w =
    ap (λ (r : Role). by_role i r held) (does_point i bytes e) ∙ ap (λ (xs : List Found). xs ++ sections_in i 0 bytes) (no_last held w)

pub first_left : (i : ℕ) (bytes : List ℕ) (held : Option OpenUnit) → may_begin_pes (0 ∷ bytes) ≡ false →
    next_open i (does (pointing i bytes)) held ≡ option_map (section i) (last_in 0 bytes)
unfolding next_open
first_left i bytes held e = ap (λ (r : Role). next_open i r held) (does_point i bytes e)

-- A first packet that leaves the section undecided ends only the unit before it.
open_found : (text : List ℕ) (i : ℕ) (held : Option OpenUnit) → IsRecognized text → Waits held → 183 < length text →
    by_role i (does (pointing i (filled_to 183 text))) held ≡ ended false held
open_found text i held g w less =
    first_found i (filled_to 183 text) held (no_pes_at text g) w
    ∙ ap (λ (xs : List Found). ended false held ++ xs) (cut_found i (filled_to 183 text) (open_before text 183 g less))
    ∙ append-nil (ended false held)

open_left : (text : List ℕ) (i : ℕ) (held : Option OpenUnit) → IsRecognized text → 183 < length text →
    next_open i (does (pointing i (filled_to 183 text))) held ≡ Some (section i (filled_to 183 text))
open_left text i held g less =
    first_left i (filled_to 183 text) held (no_pes_at text g)
    ∙ ap (λ (o : Option (List ℕ)). option_map (section i) o)
    (cut_last (filled_to 183 text) (no_fill_at text 183 g (omega arith)) (open_before text 183 g less))

-- A first packet with the whole section gives the section.
within_found : (text : List ℕ) (i : ℕ) (held : Option OpenUnit) → IsRecognized text → Waits held → length text ≤ 183 →
    by_role i (does (pointing i (filled_to 183 text))) held ≡ ended false held ++ begun_table i text (IsSection text) true ∷ []
within_found text i held g w le =
    let bytes : List ℕ = filled_to 183 text in
    let is : decided unit_kinds.Section bytes ≡ Some (IsSection text) = whole_at text 183 g le in
    let rest : List ℕ = drop (taken_by bytes (IsSection text)) bytes in
    let none : sections_in i 0 rest ≡ [] = fill_found i rest (fill_after text 183 g le) in
    let kind : begun_kind unit_kinds.Section false bytes ≡ Table (slice_index text 0) = kind_at text 183 (omega (arith, given_size text g)) (omega arith) in
    first_found i bytes held (no_pes_at text g) w
    ∙ ap (λ (xs : List Found). ended false held ++ xs) (more_found i bytes (IsSection text) (no_fill_at text 183 g (omega arith)) is)
    ∙ ap (λ (xs : List Found). ended false held ++ about_within (section i bytes) (IsSection text) ∷ xs) none
    ∙ ap (λ (k : Kind). ended false held ++ record { begun = Some (i, k); what = IsSection text; within = true } ∷ []) kind

within_left : (text : List ℕ) (i : ℕ) (held : Option OpenUnit) → IsRecognized text → length text ≤ 183 →
    next_open i (does (pointing i (filled_to 183 text))) held ≡ None
within_left text i held g le =
    let bytes : List ℕ = filled_to 183 text in
    let is : decided unit_kinds.Section bytes ≡ Some (IsSection text) = whole_at text 183 g le in
    let rest : List ℕ = drop (taken_by bytes (IsSection text)) bytes in
    first_left i bytes held (no_pes_at text g)
    ∙ ap (λ (o : Option (List ℕ)). option_map (section i) o)
    (more_last bytes (IsSection text) (no_fill_at text 183 g (omega arith)) is ∙ fill_last rest (fill_after text 183 g le))

-- The bytes of the first packet, and n bytes of the section after them
after_first : (n : ℕ) (text : List ℕ) → filled_to (183 + n) text ≡ filled_to 183 text ++ take n (drop 183 (text ++ replicate 184 0xFF))
after_first n text = take-add 183 n (text ++ replicate 184 0xFF)

-- What the packets i and `is` of a section have to find
abbrev SectionGives : Ending → List ℕ → ℕ → List ℕ → Option OpenUnit → Type 0
SectionGives e text i is held =
    finds (cut Begins (filled_section text) (i ∷ is)) held ++ ends_at e (leaves (cut Begins (filled_section text) (i ∷ is)) held)
    ≡ map (at_packet i) (ended false held) ++ section_found e text i is ∷ []

-- The packets of a section that is cut short find only the end of the unit before it.
cut_packets : (text : List ℕ) (i : ℕ) (is : List ℕ) → IsRecognized text → (held : Option OpenUnit) → Waits held → 183 + 184 * length is < length text →
    (finds (cut Begins (filled_section text) (i ∷ is)) held ≡ map (at_packet i) (ended false held))
    × (leaves (cut Begins (filled_section text) (i ∷ is)) held ≡ Some (section i (filled_to (183 + 184 * length is) text)))
unfolding finds leaves cut filled_section
cut_packets text i is g held w less =
    let body : List ℕ = text ++ replicate 184 0xFF in
    let n : ℕ = 184 * length is in
    let found = open_found text i held g w (omega (arith, less)) in
    let left = open_left text i held g (omega (arith, less)) in
    let stays : decided unit_kinds.Section (filled_to 183 text ++ take n (drop 183 body)) ≡ None =
    subst (λ (t : List ℕ). decided unit_kinds.Section t ≡ None) (after_first n text) (open_before text (183 + n) g less) in
    let rest = rest_quiet (drop 183 body) is (section i (filled_to 183 text)) stays in (
      rw (found, left, rest.0) (append-nil (map (at_packet i) (ended false held))),
      ap (leaves (cut Continues (drop 183 body) is)) left ∙ rest.1 ∙ ap (λ (t : List ℕ). Some (section i t)) (sym (after_first n text)),
    )

-- A section that is cut short ends truncated.
cut_ends : (e : Ending) (i m : ℕ) (text : List ℕ) → IsRecognized text → 0 < m → m < length text →
    ends_at e (Some (section i (filled_to m text))) ≡ record { packet = e.packet; found = begun_table i text (IsTruncated (take m text)) false } ∷ []
unfolding ended
cut_ends e i m text g some less =
    ap₂ (λ (k : Kind) (t : List ℕ). record { packet = e.packet; found = record { begun = Some (i, k); what = IsTruncated t; within = false } } ∷ [])
    (kind_at text m (omega (arith, given_size text g)) some) (filled_less m text (omega (arith, less)))

section_cut : (text : List ℕ) (i : ℕ) (is : List ℕ) → IsRecognized text → (e : Ending) (held : Option OpenUnit) → Waits held →
    184 * suc (length is) < 1 + length text →
    SectionGives e text i is held
unfolding section_found
section_cut text i is g e held w less =
    let m : ℕ = 183 + 184 * length is in
    let size : 184 * suc (length is) - 1 ≡ m = omega (arith, mul-suc 184 (length is)) in
    let short : m < length text = omega (arith, less, mul-suc 184 (length is)) in
    let test : nat_le (1 + length text) (184 * suc (length is)) ≡ false = lt-leb (1 + length text) (184 * suc (length is)) less in
    let is_found : section_found e text i is ≡ record { packet = e.packet; found = begun_table i text (IsTruncated (take m text)) false } =
    rw (test, size) refl in
    let o = cut_packets text i is g held w short in
    ap₂ (λ (a : List PidFinding) (b : Option OpenUnit). a ++ ends_at e b) o.0 o.1
    ∙ ap (λ (xs : List PidFinding). map (at_packet i) (ended false held) ++ xs)
    (cut_ends e i m text g (omega arith) short ∙ ap (λ (x : PidFinding). x ∷ []) (sym is_found))

-- A section that is whole in its first packet
section_within : (text : List ℕ) (i : ℕ) → IsRecognized text → (e : Ending) (held : Option OpenUnit) → Waits held → length text ≤ 183 →
    SectionGives e text i [] held
unfolding finds leaves cut filled_section section_found ended
section_within text i g e held w le =
    let found = within_found text i held g w le in
    let left = within_left text i held g le in
    let test : nat_le (1 + length text) 184 ≡ true = le-leb (1 + length text) 184 (omega arith) in
    let one : Found = begun_table i text (IsSection text) true in
    rw (found, left, test)
    (append-nil (map (at_packet i) (ended false held ++ one ∷ []) ++ []) ∙ append-nil (map (at_packet i) (ended false held ++ one ∷ []))
    ∙ map-append (at_packet i) (ended false held) (one ∷ []))

-- A section that is whole in a later packet
later_packets : (text : List ℕ) (i j : ℕ) (is : List ℕ) → IsRecognized text → (held : Option OpenUnit) → Waits held → 184 * suc (length is) < 1 + length text →
    1 + length text ≤ 184 * suc (suc (length is)) →
    (finds (cut Begins (filled_section text) (i ∷ j ∷ is)) held
    ≡ map (at_packet i) (ended false held) ++ record { packet = last_of j is; found = begun_table i text (IsSection text) false } ∷ [])
    × (leaves (cut Begins (filled_section text) (i ∷ j ∷ is)) held ≡ None)
unfolding finds leaves cut filled_section
later_packets text i j is g held w few whole =
    let body : List ℕ = text ++ replicate 184 0xFF in
    let n : ℕ = 184 * suc (length is) in
    let more : n ≡ 184 + 184 * length is = omega (arith, mul-suc 184 (length is)) in
    let many : 184 * suc (suc (length is)) ≡ 184 + n = omega (arith, mul-suc 184 (suc (length is))) in
    let found = open_found text i held g w (omega (arith, more)) in
    let left = open_left text i held g (omega (arith, more)) in
    let stays : (m : ℕ) → m < length text - 183 → decided unit_kinds.Section (filled_to 183 text ++ take m (drop 183 body)) ≡ None =
    λ m less. subst (λ (t : List ℕ). decided unit_kinds.Section t ≡ None) (after_first m text) (open_before text (183 + m) g (omega (arith, less))) in
    let is_whole : decided unit_kinds.Section (filled_to 183 text ++ take n (drop 183 body)) ≡ Some (IsSection text) =
    subst (λ (t : List ℕ). decided unit_kinds.Section t ≡ Some (IsSection text)) (after_first n text) (whole_at text (183 + n) g (omega (arith, many))) in
    let rest = rest_decided (drop 183 body) j is (section i (filled_to 183 text)) (length text - 183) (IsSection text) (omega (arith, more)) stays is_whole
    refl in
    let kind : begun_kind unit_kinds.Section false (filled_to 183 text ++ take n (drop 183 body)) ≡ Table (slice_index text 0) =
    subst (λ (t : List ℕ). begun_kind unit_kinds.Section false t ≡ Table (slice_index text 0)) (after_first n text)
    (kind_at text (183 + n) (omega (arith, given_size text g)) (omega arith)) in (
      rw (found, left, rest.0)
          (ap (λ (k : Kind). map (at_packet i) (ended false held)
          ++ record { packet = last_of j is; found = record { begun = Some (i, k); what = IsSection text; within = false } } ∷ []) kind),
      ap (leaves (cut Continues (drop 183 body) (j ∷ is))) left ∙ rest.1,
    )

section_whole : (text : List ℕ) (i j : ℕ) (is : List ℕ) → IsRecognized text → (e : Ending) (held : Option OpenUnit) → Waits held →
    184 * suc (length is) < 1 + length text → 1 + length text ≤ 184 * suc (suc (length is)) → SectionGives e text i (j ∷ is) held
unfolding section_found ended
section_whole text i j is g e held w few whole =
    let test : nat_le (1 + length text) (184 * suc (suc (length is))) ≡ true = le-leb (1 + length text) (184 * suc (suc (length is))) whole in
    let one : PidFinding = record { packet = last_of j is; found = begun_table i text (IsSection text) false } in
    let is_found : section_found e text i (j ∷ is) ≡ one = rw test refl in
    let o = later_packets text i j is g held w few whole in
    ap₂ (λ (a : List PidFinding) (b : Option OpenUnit). a ++ ends_at e b) o.0 o.1
    ∙ append-nil (map (at_packet i) (ended false held) ++ one ∷ [])
    ∙ ap (λ (x : PidFinding). map (at_packet i) (ended false held) ++ x ∷ []) (sym is_found)

by_packets : (text : List ℕ) (i : ℕ) (is : List ℕ) → IsRecognized text → (e : Ending) (held : Option OpenUnit) → Waits held →
    184 * suc (length is) < 1 + length text + 184 →
    1 + length text ≤ 184 * suc (length is) → SectionGives e text i is held
by_packets text i [] g e held w few whole = section_within text i g e held w (omega (arith, whole))
by_packets text i (j ∷ is) g e held w few whole =
    section_whole text i j is g e held w (omega (arith, few, mul-suc 184 (suc (length is)))) whole

-- A section in some packets gives one finding.
pub section_gives : (text is : List ℕ) → IsRecognized text → 184 * length is < 1 + length text + 184 →
    Gives (λ _. Begins) filled_section section_found (record { item = text; packets = is })
unfolding begin_or if_sent cut finds leaves
section_gives text [] g few e held w = sym (append-nil (ends_at e held))
section_gives text (i ∷ is) g few e held w = elim (cases_lt (184 * suc (length is)) (1 + length text)) [
  | inl less ↦ section_cut text i is g e held w less
  | inr whole ↦ by_packets text i is g e held w few whole
]
