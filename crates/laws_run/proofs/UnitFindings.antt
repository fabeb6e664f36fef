-- The packets of a unit give one finding.
use Rattle.std.proofs.Common.{◌≡◌, ℕ, suc, ◌+◌, ◌-◌, ◌*◌, ◌<◌, ◌≤◌, ◌==◌, nat_le, Bool, true, false, IsTrue, List, [], ◌∷◌, ◌++◌, length, map, take, drop}
use Rattle.std.proofs.Common.{Option, Some, None, refl, sym, ap, ap₂, subst, ◌∙◌, inl, inr, arith, mul-suc, take-add, append-nil, le-leb}
use Rattle.std.proofs.lemmas.List.{map-append}
use Rattle.std.proofs.lemmas.Bool.{lt-leb, cases_Bool, cases_lt}
use Rattle.pes_packet.specs.AccessUnits.{AccessUnit}
use Rattle.pes_packet.specs.Encoding.{pes_packet_bytes}
use Rattle.pes_packet.specs.StreamIds.{fits_packet}
use Rattle.pes_packet.specs.Reading.{header_at}
use Rattle.pes_packet.specs.declared.reading.PesHeader.{PesHeader}
use Rattle.pes_packet.specs.Marks.{field_size}
use Rattle.ts_packet.specs.declared.start.Start.TheVariants.{Continues}
use Rattle.ts_packet.specs.Beginnings.{room_of, start_by}
use Rattle.unit_queue.specs.OwnedStreams.{has_access}
use Rattle.unit_queue.proofs.PieceBytes.{field_most}
use Rattle.slot_contents.specs.Contents.{Payload}
use Rattle.pid_findings.specs.declared.finding.Kind.{Kind}
use Rattle.pid_findings.specs.declared.finding.Kind.TheVariants.{Pes}
use Rattle.pid_findings.specs.declared.open_unit.UnitKind.TheVariants as unit_kinds
use Rattle.pid_findings.specs.Views.{WhatView, IsPes, IsTruncated, is_whole, PidFinding}
use Rattle.pid_findings.specs.Roles.{role_by, may_begin_pes}
use Rattle.pid_findings.specs.OpenUnits.{OpenUnit, decided, about_within, begun_kind}
use Rattle.pid_findings.specs.Findings.{at_packet, by_role, decided_within, ended, end_of, found_within, past_end, stray_bytes, undecided, unless_decided}
use Rattle.pid_findings.specs.Machine.{next_open}
use Rattle.pid_findings.proofs.DecidedBytes.{undecided_before}
use Rattle.laws_run.specs.Sent.{cut, Ending, begin_or, if_sent, last_of, is_none}
use Rattle.laws_run.specs.Units.{unit_start, unit_header, unit_header_size, begun_pes, unit_found}
use Rattle.laws_run.proofs.CountedPackets.{does}
use Rattle.laws_run.proofs.PidSteps.{finds, leaves}
use Rattle.laws_run.proofs.LaterPackets.{covered_from, rest_quiet, rest_decided}
use Rattle.laws_run.proofs.AllSendings.{Gives, ends_at}
use Rattle.laws_run.proofs.PesPrefixes.{PesText, none_past, unit_is_pes, open_before, open_without, whole_at, kind_at, end_without, end_within}

-- The first payload of a PES packet
abbrev opening : ℕ → Bool → List ℕ → Payload
opening i access front = record { index = i; start = start_by true access; bytes = front }

-- A PES packet from packet i on, with these bytes
abbrev pes_at : ℕ → Bool → List ℕ → OpenUnit
pes_at i access bytes = record { packet = i; kind = unit_kinds.Pes; access = access; bytes = bytes }

first_found : (i : ℕ) (access : Bool) (front : List ℕ) (held : Option OpenUnit) → may_begin_pes front ≡ true →
    by_role i (does (opening i access front)) held ≡ ended false held ++ decided_within (pes_at i access front)
unfolding by_role role_by
first_found i true front held e = rw e refl
first_found i false front held e = rw e refl

first_left : (i : ℕ) (access : Bool) (front : List ℕ) (held : Option OpenUnit) → may_begin_pes front ≡ true →
    next_open i (does (opening i access front)) held ≡ undecided (pes_at i access front)
unfolding next_open role_by
first_left i true front held e = rw e refl
first_left i false front held e = rw e refl

-- The room of the first packet
abbrev room : Bool → ℕ
room access = room_of (start_by true access)

-- Packets whose bytes leave a PES packet undecided find only the end of the unit before it.
text_open : (access : Bool) (text : List ℕ) (i : ℕ) (is : List ℕ) (held : Option OpenUnit) → may_begin_pes (take (room access) text) ≡ true →
    decided unit_kinds.Pes (take (room access + 184 * length is) text) ≡ None →
    (finds (cut (start_by true access) text (i ∷ is)) held ≡ map (at_packet i) (ended false held))
    × (leaves (cut (start_by true access) text (i ∷ is)) held ≡ Some (pes_at i access (take (room access + 184 * length is) text)))
unfolding finds leaves cut found_within undecided unless_decided
text_open access text i is held begins e =
    let front : List ℕ = take (room access) text in
    let all : decided unit_kinds.Pes (front ++ take (184 * length is) (drop (room access) text)) ≡ None =
    subst (λ (t : List ℕ). decided unit_kinds.Pes t ≡ None) (covered_from (room access) (length is) [] text) e in
    let first : decided unit_kinds.Pes front ≡ None = undecided_before unit_kinds.Pes front (take (184 * length is) (drop (room access) text)) all in
    let rest = rest_quiet (drop (room access) text) is (pes_at i access front) all in
    let left : next_open i (does (opening i access front)) held ≡ Some (pes_at i access front) =
    first_left i access front held begins ∙ ap (unless_decided (pes_at i access front)) first in
    let none : by_role i (does (opening i access front)) held ≡ ended false held =
    first_found i access front held begins ∙ ap (λ (d : Option WhatView). ended false held ++ found_within (pes_at i access front) d) first
    ∙ append-nil (ended false held) in (
      rw (none, left, rest.0) (append-nil (map (at_packet i) (ended false held))),
      ap (leaves (cut Continues (drop (room access) text) is)) left ∙ rest.1
          ∙ ap (λ (t : List ℕ). Some (pes_at i access t)) (sym (covered_from (room access) (length is) [] text)),
    )

room_least : (access : Bool) → 182 ≤ room access
room_least true = omega arith
room_least false = omega arith

-- Packets find the PES packet if only the last packet decides it and no byte lies past its end.
text_decided : (access : Bool) (text : List ℕ) (i : ℕ) (is : List ℕ) (held : Option OpenUnit) (w : WhatView) → may_begin_pes (take (room access) text) ≡ true →
    is_whole w ≡ true →
    ((m : ℕ) → 182 ≤ m → begun_kind unit_kinds.Pes access (take m text) ≡ Pes true access) → room access + 184 * length is < length text + 184 →
    ((m : ℕ) → 182 ≤ m → m < length text → decided unit_kinds.Pes (take m text) ≡ None) →
    decided unit_kinds.Pes (take (room access + 184 * length is) text) ≡ Some w →
    past_end (length (take (room access + 184 * length is) text)) w ≡ 0 →
    (finds (cut (start_by true access) text (i ∷ is)) held ≡ map (at_packet i) (ended false held)
    ++ record { packet = last_of i is; found = begun_pes i access w (is_none is) } ∷ [])
    × (leaves (cut (start_by true access) text (i ∷ is)) held ≡ None)
unfolding finds leaves cut found_within undecided unless_decided
text_decided access text i [] held w begins whole kind h u e none =
    let front : List ℕ = take (room access) text in
    let one : room access + 184 * 0 ≡ room access = omega arith in
    let here' : decided unit_kinds.Pes front ≡ Some w = rw one at e in
    let past : past_end (length front) w ≡ 0 = rw one at none in
    let k : begun_kind unit_kinds.Pes access front ≡ Pes true access = kind (room access) (room_least access) in
    let here : by_role i (does (opening i access front)) held ≡ ended false held ++ about_within (pes_at i access front) w ∷ [] =
    first_found i access front held begins ∙ ap (λ (d : Option WhatView). ended false held ++ found_within (pes_at i access front) d) here'
    ∙ ap (λ (n : ℕ). ended false held ++ about_within (pes_at i access front) w ∷ stray_bytes n) past in
    let left : next_open i (does (opening i access front)) held ≡ None =
    first_left i access front held begins ∙ ap (unless_decided (pes_at i access front)) here' in (
      rw here (append-nil (map (at_packet i) (ended false held ++ about_within (pes_at i access front) w ∷ []))
          ∙ map-append (at_packet i) (ended false held) (about_within (pes_at i access front) w ∷ [])
          ∙ ap₂ (λ (kd : Kind) (b : Bool). map (at_packet i) (ended false held)
          ++ record { packet = i; found = record { begun = Some (i, kd); what = w; within = b } } ∷ []) k whole),
      left,
    )
text_decided access text i (j ∷ is) held w begins whole kind h u e past =
    let front : List ℕ = take (room access) text in
    let more : room access + 184 * suc (length is) ≡ room access + 184 + 184 * length is = omega (arith, mul-suc 184 (length is)) in
    let first : decided unit_kinds.Pes front ≡ None = u (room access) (room_least access) (omega (arith, h, more)) in
    let left : next_open i (does (opening i access front)) held ≡ Some (pes_at i access front) =
    first_left i access front held begins ∙ ap (unless_decided (pes_at i access front)) first in
    let none : by_role i (does (opening i access front)) held ≡ ended false held =
    first_found i access front held begins ∙ ap (λ (d : Option WhatView). ended false held ++ found_within (pes_at i access front) d) first
    ∙ append-nil (ended false held) in
    let then : (m : ℕ) → m < length text - room access → decided unit_kinds.Pes (front ++ take m (drop (room access) text)) ≡ None =
    λ m less. subst (λ (t : List ℕ). decided unit_kinds.Pes t ≡ None) (take-add (room access) m text)
    (u (room access + m) (omega (arith, room_least access)) (omega (arith, less))) in
    let all : decided unit_kinds.Pes (front ++ take (184 * suc (length is)) (drop (room access) text)) ≡ Some w =
    subst (λ (t : List ℕ). decided unit_kinds.Pes t ≡ Some w) (covered_from (room access) (suc (length is)) [] text) e in
    let k : begun_kind unit_kinds.Pes access (front ++ take (184 * suc (length is)) (drop (room access) text)) ≡ Pes true access =
    subst (λ (t : List ℕ). begun_kind unit_kinds.Pes access t ≡ Pes true access) (covered_from (room access) (suc (length is)) [] text)
    (kind (room access + 184 * suc (length is)) (omega (arith, room_least access))) in
    let no_more : past_end (length (front ++ take (184 * suc (length is)) (drop (room access) text))) w ≡ 0 =
    subst (λ (t : List ℕ). past_end (length t) w ≡ 0) (covered_from (room access) (suc (length is)) [] text) past in
    let rest = rest_decided (drop (room access) text) j is (pes_at i access front) (length text - room access) w (omega (arith, h, more)) then all no_more in (
      rw (none, left, rest.0)
          (ap (λ (kd : Kind). map (at_packet i) (ended false held)
          ++ record { packet = last_of j is; found = record { begun = Some (i, kd); what = w; within = false } } ∷ []) k),
      ap (leaves (cut Continues (drop (room access) text) (j ∷ is))) left ∙ rest.1,
    )

-- The end of a PES packet that is left open
open_ends : (e : Ending) (i : ℕ) (access : Bool) (bytes : List ℕ) (w : WhatView) → begun_kind unit_kinds.Pes access bytes ≡ Pes true access →
    end_of e.open_ended bytes unit_kinds.Pes (header_at bytes) ≡ w →
    ends_at e (Some (pes_at i access bytes)) ≡ record { packet = e.packet; found = begun_pes i access w false } ∷ []
unfolding ended
open_ends e i access bytes w k f = rw (k, f) refl

-- What the packets i and `is` of a unit have to find
abbrev UnitGives : ℕ → ℕ → Ending → AccessUnit → ℕ → List ℕ → Option OpenUnit → Type 0
UnitGives id base0 e u i is held =
    finds (cut (unit_start u) (pes_packet_bytes id base0 u) (i ∷ is)) held
    ++ ends_at e (leaves (cut (unit_start u) (pes_packet_bytes id base0 u) (i ∷ is)) held)
    ≡ map (at_packet i) (ended false held) ++ unit_found id base0 e u i is ∷ []

-- The number of bytes of a unit for which packets i and `is` have room
abbrev reach : AccessUnit → List ℕ → ℕ
reach u is = room (has_access u) + 184 * length is

reach_is : (access : Bool) (n : ℕ) → 184 * suc n - field_size access ≡ room access + 184 * n
reach_is true n = omega (arith, mul-suc 184 n)
reach_is false n = omega (arith, mul-suc 184 n)

-- The beginning of a unit that stays open, and its end
unit_open : (id base0 : ℕ) (e : Ending) (u : AccessUnit) (i : ℕ) (is : List ℕ) (held : Option OpenUnit) (w : WhatView) →
    PesText (pes_packet_bytes id base0 u) (unit_header id base0 u) (unit_header_size base0 u) u.bytes →
    decided unit_kinds.Pes (take (reach u is) (pes_packet_bytes id base0 u)) ≡ None →
    end_of e.open_ended (take (reach u is) (pes_packet_bytes id base0 u)) unit_kinds.Pes (header_at (take (reach u is) (pes_packet_bytes id base0 u))) ≡ w →
    unit_found id base0 e u i is ≡ record { packet = e.packet; found = begun_pes i (has_access u) w false } →
    UnitGives id base0 e u i is held
unit_open id base0 e u i is held w t stays end found =
    let text : List ℕ = pes_packet_bytes id base0 u in
    let m : ℕ = reach u is in
    let same = reach_is (has_access u) (length is) in
    let le : unit_header_size base0 u ≤ m = omega (arith, t.short, room_least (has_access u)) in
    let o = text_open (has_access u) text i is held (t.begins (has_access u)) stays in
    let last = open_ends e i (has_access u) (take m text) w (kind_at (has_access u) text (unit_header id base0 u) (unit_header_size base0 u) u.bytes m t le)
    end in
    ap₂ (λ (a : List PidFinding) (b : Option OpenUnit). a ++ ends_at e b) o.0 o.1
    ∙ ap (λ (xs : List PidFinding). map (at_packet i) (ended false held) ++ xs) (last ∙ ap (λ (x : PidFinding). x ∷ []) (sym found))

unit_without : (id base0 : ℕ) (u : AccessUnit) (i : ℕ) (is : List ℕ) → IsTrue (fits_packet id (length u.bytes)) → (e : Ending) (held : Option OpenUnit) →
    ((unit_header id base0 u).len == 0) ≡ true → UnitGives id base0 e u i is held
unfolding unit_found
unit_without id base0 u i is fits e held len =
    let text : List ℕ = pes_packet_bytes id base0 u in
    let h : PesHeader = unit_header id base0 u in
    let n : ℕ = unit_header_size base0 u in
    let m : ℕ = reach u is in
    let same = reach_is (has_access u) (length is) in
    let t = unit_is_pes id base0 u fits in
    let le : n ≤ m = omega (arith, t.short, room_least (has_access u)) in
    unit_open id base0 e u i is held (IsPes h e.open_ended (take (m - n) u.bytes)) t (open_without text h n u.bytes m t le len)
    (end_without text h n u.bytes m e.open_ended t le len) (rw (len, same) refl)

unit_cut : (id base0 : ℕ) (u : AccessUnit) (i : ℕ) (is : List ℕ) → IsTrue (fits_packet id (length u.bytes)) → (e : Ending) (held : Option OpenUnit) →
    ((unit_header id base0 u).len == 0) ≡ false → reach u is < length (pes_packet_bytes id base0 u) → UnitGives id base0 e u i is held
unfolding unit_found
unit_cut id base0 u i is fits e held len less =
    let text : List ℕ = pes_packet_bytes id base0 u in
    let h : PesHeader = unit_header id base0 u in
    let n : ℕ = unit_header_size base0 u in
    let m : ℕ = reach u is in
    let same = reach_is (has_access u) (length is) in
    let t = unit_is_pes id base0 u fits in
    let le : n ≤ m = omega (arith, t.short, room_least (has_access u)) in
    let test : nat_le (length text) m ≡ false = lt-leb (length text) m less in
    unit_open id base0 e u i is held (IsTruncated (take m text)) t (open_before text h n u.bytes m t le len less)
    (end_within text h n u.bytes m e.open_ended t le len) (rw (len, same, test) refl)

unit_whole : (id base0 : ℕ) (u : AccessUnit) (i : ℕ) (is : List ℕ) → IsTrue (fits_packet id (length u.bytes)) →
    reach u is < length (pes_packet_bytes id base0 u) + 184 → (e : Ending) (held : Option OpenUnit) →
    ((unit_header id base0 u).len == 0) ≡ false → length (pes_packet_bytes id base0 u) ≤ reach u is → UnitGives id base0 e u i is held
unfolding unit_found ended
unit_whole id base0 u i is fits few e held len whole =
    let text : List ℕ = pes_packet_bytes id base0 u in
    let h : PesHeader = unit_header id base0 u in
    let n : ℕ = unit_header_size base0 u in
    let m : ℕ = reach u is in
    let same = reach_is (has_access u) (length is) in
    let t = unit_is_pes id base0 u fits in
    let test : nat_le (length text) m ≡ true = le-leb (length text) m whole in
    let found : unit_found id base0 e u i is ≡ record { packet = last_of i is; found = begun_pes i (has_access u) (IsPes h false u.bytes) (is_none is) } =
    rw (len, same, test) refl in
    let o = text_decided (has_access u) text i is held (IsPes h false u.bytes) (t.begins (has_access u)) refl
    (λ k more. kind_at (has_access u) text h n u.bytes k t (omega (arith, t.short, more))) few
    (λ k more less. open_before text h n u.bytes k t (omega (arith, t.short, more)) len less) (whole_at text h n u.bytes m t len whole)
    (none_past text h n u.bytes m t len) in
    ap₂ (λ (a : List PidFinding) (b : Option OpenUnit). a ++ ends_at e b) o.0 o.1
    ∙ append-nil (map (at_packet i) (ended false held)
    ++ record { packet = last_of i is; found = begun_pes i (has_access u) (IsPes h false u.bytes) (is_none is) } ∷ [])
    ∙ ap (λ (x : PidFinding). map (at_packet i) (ended false held) ++ x ∷ []) (sym found)

-- A unit in some packets gives one finding, by cases on its length and on the bytes in them.
pub unit_gives : (id base0 : ℕ) (u : AccessUnit) (is : List ℕ) → IsTrue (fits_packet id (length u.bytes)) →
    184 * length is < field_size (has_access u) + length (pes_packet_bytes id base0 u) + 184 →
    Gives unit_start (pes_packet_bytes id base0) (unit_found id base0) (record { item = u; packets = is })
unfolding begin_or if_sent cut finds leaves
unit_gives id base0 u [] fits few e held w = sym (append-nil (ends_at e held))
unit_gives id base0 u (i ∷ is) fits few e held w = elim (cases_Bool ((unit_header id base0 u).len == 0)) [
  | inl zero_len ↦ unit_without id base0 u i is fits e held zero_len
  | inr len ↦ elim (cases_lt (reach u is) (length (pes_packet_bytes id base0 u))) [
    | inl less ↦ unit_cut id base0 u i is fits e held len less
    | inr whole ↦ unit_whole id base0 u i is fits (omega (arith, few, reach_is (has_access u) (length is), field_most (has_access u), mul-suc 184 (length is)))
        e held len whole
  ]
]
