-- The packets of a PES packet or a section after its first packet.
use Rattle.std.proofs.Common.{◌≡◌, ℕ, suc, ◌+◌, ◌-◌, ◌*◌, ◌<◌, List, [], ◌∷◌, ◌++◌, length, take, drop, Some, None, refl, sym, ap, subst, ◌∙◌, arith}
use Rattle.std.proofs.Common.{append_assoc, append-nil, mul-suc, take-add}
use Rattle.ts_packet.specs.declared.start.Start.TheVariants.{Continues}
use Rattle.slot_contents.specs.Contents.{Payload}
use Rattle.pid_findings.specs.Views.{WhatView}
use Rattle.pid_findings.specs.Roles.{role_by}
use Rattle.pid_findings.specs.OpenUnits.{OpenUnit, decided, about, appended}
use Rattle.pid_findings.specs.Findings.{at_packet, by_role, found_if, found_appended, past_end, stray_bytes, undecided, unless_decided}
use Rattle.pid_findings.specs.Machine.{next_open}
use Rattle.pid_findings.proofs.DecidedBytes.{undecided_before}
use Rattle.laws_run.specs.Sent.{cut, last_of}
use Rattle.laws_run.proofs.CountedPackets.{does}
use Rattle.laws_run.proofs.PidSteps.{finds, leaves}

-- A payload that continues a unit
abbrev pub later : ℕ → List ℕ → Payload
later i front = record { index = i; start = Continues; bytes = front }

quiet_found : (i : ℕ) (front : List ℕ) (b : OpenUnit) → decided b.kind (b.bytes ++ front) ≡ None → by_role i (does (later i front)) (Some b) ≡ []
unfolding by_role role_by found_appended found_if
quiet_found i front b e = ap (found_if (appended b front)) e

quiet_left : (i : ℕ) (front : List ℕ) (b : OpenUnit) → decided b.kind (b.bytes ++ front) ≡ None →
    next_open i (does (later i front)) (Some b) ≡ Some (appended b front)
unfolding next_open role_by undecided unless_decided
quiet_left i front b e = ap (unless_decided (appended b front)) e

last_found : (i : ℕ) (front : List ℕ) (b : OpenUnit) (w : WhatView) → decided b.kind (b.bytes ++ front) ≡ Some w →
    past_end (length (b.bytes ++ front)) w ≡ 0 →
    by_role i (does (later i front)) (Some b) ≡ about (appended b front) w ∷ []
unfolding by_role role_by found_appended found_if
last_found i front b w e none =
    let found : found_if (appended b front) (Some w) ≡ about (appended b front) w ∷ [] =
    ap (λ (n : ℕ). about (appended b front) w ∷ stray_bytes n) none in
    ap (found_if (appended b front)) e ∙ found

last_left : (i : ℕ) (front : List ℕ) (b : OpenUnit) (w : WhatView) → decided b.kind (b.bytes ++ front) ≡ Some w →
    next_open i (does (later i front)) (Some b) ≡ None
unfolding next_open role_by undecided unless_decided
last_left i front b w e = ap (unless_decided (appended b front)) e

-- The text in one packet and n more is the text in the first packet, and the text in the n packets after it.
pub covered_from : (room n : ℕ) (before text : List ℕ) → before ++ take (room + 184 * n) text ≡ (before ++ take room text) ++ take (184 * n) (drop room text)
covered_from room n before text =
    ap (λ (t : List ℕ). before ++ t) (take-add room (184 * n) text) ∙ sym (append_assoc before (take room text) (take (184 * n) (drop room text)))

pub covered : (n : ℕ) (before text : List ℕ) → before ++ take (184 * suc n) text ≡ (before ++ take 184 text) ++ take (184 * n) (drop 184 text)
covered n before text =
    let more : 184 * suc n ≡ 184 + 184 * n = omega (arith, mul-suc 184 n) in
    ap (λ (k : ℕ). before ++ take k text) more ∙ covered_from 184 n before text

-- Packets that leave a unit undecided find nothing, and append their bytes to it.
pub rest_quiet : (text is : List ℕ) (b : OpenUnit) → decided b.kind (b.bytes ++ take (184 * length is) text) ≡ None →
    (finds (cut Continues text is) (Some b) ≡ []) × (leaves (cut Continues text is) (Some b) ≡ Some (appended b (take (184 * length is) text)))
unfolding finds leaves cut
rest_quiet text [] b e = (refl, ap (λ (t : List ℕ). Some (record b { bytes = t })) (sym (append-nil b.bytes)))
rest_quiet text (i ∷ is) b e =
    let front : List ℕ = take 184 text in
    let after : decided b.kind ((b.bytes ++ front) ++ take (184 * length is) (drop 184 text)) ≡ None =
    subst (λ (t : List ℕ). decided b.kind t ≡ None) (covered (length is) b.bytes text) e in
    let first : decided b.kind (b.bytes ++ front) ≡ None = undecided_before b.kind (b.bytes ++ front) (take (184 * length is) (drop 184 text)) after in
    let rest = rest_quiet (drop 184 text) is (appended b front) after in (
      rw (quiet_found i front b first, quiet_left i front b first, rest.0) refl,
      ap (leaves (cut Continues (drop 184 text) is)) (quiet_left i front b first) ∙ rest.1
          ∙ ap (λ (t : List ℕ). Some (record b { bytes = t })) (sym (covered (length is) b.bytes text)),
    )

-- The packets that first reach the decisive number of bytes find what these bytes decide, if no byte lies past its end.
pub rest_decided : (text : List ℕ) (i : ℕ) (is : List ℕ) (b : OpenUnit) (size : ℕ) (w : WhatView) → 184 * length is < size →
    ((n : ℕ) → n < size → decided b.kind (b.bytes ++ take n text) ≡ None) → decided b.kind (b.bytes ++ take (184 * suc (length is)) text) ≡ Some w →
    past_end (length (b.bytes ++ take (184 * suc (length is)) text)) w ≡ 0 →
    (finds (cut Continues text (i ∷ is)) (Some b) ≡ at_packet (last_of i is) (about (appended b (take (184 * suc (length is)) text)) w) ∷ [])
    × (leaves (cut Continues text (i ∷ is)) (Some b) ≡ None)
unfolding finds leaves cut
rest_decided text i [] b size w h u e none = (rw (last_found i (take 184 text) b w e none) refl, last_left i (take 184 text) b w e)
rest_decided text i (j ∷ is) b size w h u e none =
    let front : List ℕ = take 184 text in
    let more : 184 * suc (length is) ≡ 184 + 184 * length is = omega (arith, mul-suc 184 (length is)) in
    let first : decided b.kind (b.bytes ++ front) ≡ None = u 184 (omega arith) in
    let then : (n : ℕ) → n < size - 184 → decided b.kind ((b.bytes ++ front) ++ take n (drop 184 text)) ≡ None =
    λ n k. subst (λ (t : List ℕ). decided b.kind t ≡ None)
    (ap (λ (t : List ℕ). b.bytes ++ t) (take-add 184 n text) ∙ sym (append_assoc b.bytes front (take n (drop 184 text)))) (u (184 + n) (omega arith)) in
    let whole : decided b.kind ((b.bytes ++ front) ++ take (184 * suc (length is)) (drop 184 text)) ≡ Some w =
    subst (λ (t : List ℕ). decided b.kind t ≡ Some w) (covered (suc (length is)) b.bytes text) e in
    let past : past_end (length ((b.bytes ++ front) ++ take (184 * suc (length is)) (drop 184 text))) w ≡ 0 =
    subst (λ (t : List ℕ). past_end (length t) w ≡ 0) (covered (suc (length is)) b.bytes text) none in
    let rest = rest_decided (drop 184 text) j is (appended b front) (size - 184) w (omega arith) then whole past in (
      rw (quiet_found i front b first, quiet_left i front b first, rest.0)
          (ap (λ (t : List ℕ). at_packet (last_of j is) (about (record b { bytes = t }) w) ∷ []) (sym (covered (suc (length is)) b.bytes text))),
      ap (leaves (cut Continues (drop 184 text) (j ∷ is))) (quiet_left i front b first) ∙ rest.1,
    )
