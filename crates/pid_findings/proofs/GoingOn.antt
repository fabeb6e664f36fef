-- Packets that continue an open unit.
use Rattle.std.proofs.Common.{◌≡◌, ◌<◌, ℕ, ◌+◌, ◌/◌, ◌%◌, ◌==◌, Bool, true, false, List, [], drop, Option, Some, None, is_some, Ok, refl, arith, ◌∙◌, ap, ap₂}
use Rattle.std.proofs.Common.{sym}
use Rattle.std.specs.Prelude.{slice_index, not, ◌&&◌}
use Rattle.std.proofs.lemmas.Bool.Decides.{nat_tests}
use Rattle.bit_fields.specs.Fields.{flag}
use Rattle.ts_packet.specs.Reading.{body_at, header_of, packet_at}
use Rattle.ts_packet.specs.PcrBytes.{without_pcr}
use Rattle.pid_findings.specs.Findings.{by_break, by_role, found_appended, found_at}
use Rattle.pid_findings.specs.GoingOn.{counter_in, is_next, plain_entry, plain_last, plain_view}
use Rattle.pid_findings.specs.Machine.{PidState, found_by, next_open, step, step_marked, unbroken}
use Rattle.pid_findings.specs.Marks.{LastView, Marked, break_after, break_at, is_repeat, mark, repeats, seen}
use Rattle.pid_findings.specs.OpenUnits.{OpenUnit}
use Rattle.pid_findings.specs.Roles.{Continuation, role, role_by, role_of}

-- 1. The fields of these packets

sync_is : (n : ℕ) → n ≡ 0x47 → (n == 0x47) ≡ true
sync_is n e = grind (arith, nat_tests)

no_error : (n : ℕ) → n < 64 → flag n 128 ≡ false
no_error n lt = grind (arith, nat_tests)

no_start : (n : ℕ) → n < 64 → flag n 64 ≡ false
no_start n lt = grind (arith, nat_tests)

clear : (n : ℕ) → n / 16 ≡ 1 → n / 64 ≡ 0
clear n e = grind arith

control : (n : ℕ) → n / 16 ≡ 1 → n / 16 % 4 ≡ 1
control n e = rw e refl

pub plain_read : (bytes : List ℕ) → slice_index bytes 0 ≡ 0x47 → slice_index bytes 1 < 64 → slice_index bytes 3 / 16 ≡ 1 →
    packet_at bytes ≡ Ok (plain_view bytes)
unfolding packet_at body_at header_of
plain_read bytes sync low high =
    rw (
      sync_is (slice_index bytes 0) sync,
      no_error (slice_index bytes 1) low,
      no_start (slice_index bytes 1) low,
      clear (slice_index bytes 3) high,
      control (slice_index bytes 3) high,
    ) refl

-- 2. The last packet of the PID before a packet that continues a unit

not_same : (n c : ℕ) → (n == (c + 1) % 16) ≡ true → (n == c) ≡ false
not_same n c e = grind (arith, nat_tests)

no_repeat : (a b c d e : Bool) → d ≡ false → (a && b && c && d && e) ≡ false
no_repeat a b c d e h = rw h (none a b c e)
  where
    none : (a b c e : Bool) → (a && b && c && false && e) ≡ false
    none true true true e = refl
    none true true false e = refl
    none true false c e = refl
    none false b c e = refl

abbrev next_mark : ℕ → List ℕ → Marked
next_mark index bytes = record { entry = plain_entry index bytes; duplicate = false; broken = None }

no_repeats : (last : LastView) (index : ℕ) (bytes : List ℕ) → is_next (Some last) bytes ≡ true → repeats last (plain_entry index bytes) ≡ false
unfolding repeats
no_repeats last index bytes e =
    no_repeat (not last.duplicate) last.has_payload true (counter_in bytes == last.counter) _ (not_same (counter_in bytes) last.counter e)

marks_next : (last : LastView) (index : ℕ) (bytes : List ℕ) → is_next (Some last) bytes ≡ true →
    mark (Some last) (plain_entry index bytes) ≡ next_mark index bytes
unfolding mark is_repeat break_at break_after
marks_next last index bytes e = rw (no_repeats last index bytes e, e) refl

-- 3. The open unit after a packet that continues it, and the findings of the packet

pub plain_step : (last : Option LastView) (index : ℕ) (bytes : List ℕ) (open_unit : Option OpenUnit) → is_next last bytes ≡ true →
    step (record { last = last; open_unit = open_unit }) (plain_entry index bytes)
    ≡ record { last = Some (plain_last bytes); open_unit = next_open index (Continuation (drop 4 bytes)) open_unit }
unfolding step_marked seen role role_of role_by unbroken without_pcr
plain_step None index bytes open_unit e = absurd cc
plain_step (Some last) index bytes open_unit e = rw (marks_next last index bytes e) refl

pub plain_found : (last : Option LastView) (index : ℕ) (bytes : List ℕ) (open_unit : Option OpenUnit) → is_next last bytes ≡ true →
    found_by (record { last = last; open_unit = open_unit }) (plain_entry index bytes) ≡ found_appended (drop 4 bytes) open_unit
unfolding found_at role role_of role_by by_break by_role
plain_found None index bytes open_unit e = absurd cc
plain_found (Some last) index bytes open_unit e = rw (marks_next last index bytes e) refl

-- 4. The same facts from the parts of the program

next_some : (last : Option LastView) (bytes : List ℕ) → is_next last bytes ≡ true → is_some last ≡ true
next_some None bytes e = absurd cc
next_some (Some last) bytes e = refl

abbrev state : Option LastView → Option OpenUnit → PidState
state last open_unit = record { last = last; open_unit = open_unit }

pub goes_on : (s : PidState) (last new_last : Option LastView) (open_unit new_unit : Option OpenUnit) (index : ℕ) (bytes payload : List ℕ) →
    record { last = last; open_unit = open_unit } ≡ s → true ≡ is_next last bytes → payload ≡ drop 4 bytes →
    (is_some last ≡ true → new_last ≡ Some (plain_last bytes)) →
    new_unit ≡ next_open index (Continuation payload) open_unit → record { last = new_last; open_unit = new_unit } ≡ step s (plain_entry index bytes)
goes_on s last new_last open_unit new_unit index bytes payload view follows rest kept opened =
    let next : is_next last bytes ≡ true = sym follows in
    ap₂ state (kept (next_some last bytes next))
    (opened ∙ ap (λ (p : List ℕ). next_open index (Continuation p) open_unit) rest)
    ∙ sym (plain_step last index bytes open_unit next) ∙ ap (λ (t : PidState). step t (plain_entry index bytes)) view

pub finds_none : (s : PidState) (last : Option LastView) (open_unit : Option OpenUnit) (index : ℕ) (bytes payload : List ℕ) →
    record { last = last; open_unit = open_unit } ≡ s → true ≡ is_next last bytes → payload ≡ drop 4 bytes → found_appended payload open_unit ≡ [] →
    found_by s (plain_entry index bytes) ≡ []
finds_none s last open_unit index bytes payload view follows rest none =
    ap (λ (t : PidState). found_by t (plain_entry index bytes)) (sym view) ∙ plain_found last index bytes open_unit (sym follows)
    ∙ ap (λ (p : List ℕ). found_appended p open_unit) (sym rest) ∙ none
