-- Payload packets with consecutive counters are neither duplicates nor breaks.
use Rattle.std.proofs.Common.{◌≡◌, ℕ, ◌+◌, ◌%◌, ◌==◌, ◌&&◌, ◌||◌, not, Bool, true, false, cond, Option, Some, None, refl, sym, ap, ◌∙◌, arith, eq-eqb, ne_eqb}
use Rattle.ts_packet.specs.declared.start.Start.{Start}
use Rattle.ts_packet.specs.PidList.{Entry}
use Rattle.ts_packet.proofs.PlainWritten.{start_again}
use Rattle.slot_contents.specs.Contents.{Payload, payload_entry, view_of}
use Rattle.pid_findings.specs.Marks.{LastView, Marked, mark, is_repeat, break_at, repeats, break_after, seen}
use Rattle.pid_findings.specs.Roles.{Role, role_by, role_of, role}
use Rattle.pid_findings.specs.Findings.{by_role, by_break, found_at}
use Rattle.pid_findings.specs.Machine.{PidState, found_by, next_open, step, step_marked, unbroken}

-- A payload packet with this number follows the last packet.
abbrev pub Follows : ℕ → Option LastView → Type 0
Follows number None = Unit {0}
Follows number (Some last) = (last.counter + 1) % 16 ≡ number % 16

-- The role of a payload
abbrev pub does : Payload → Role
does p = role_by p.start (Some p.bytes)

differs : (l n : ℕ) → (l + 1) % 16 ≡ n % 16 → (n % 16 == l) ≡ false
differs l n h = ne_eqb (n % 16) l (λ e. omega (arith, e, h))

not_same : (a b c d e : Bool) → d ≡ false → (a && b && c && d && e) ≡ false
not_same a b c true e h = absurd cc
not_same false b c false e h = refl
not_same true false c false e h = refl
not_same true true false false e h = refl
not_same true true true false e h = refl

unbroken_by : (d e : Bool) (x : ℕ × ℕ) → e ≡ true → ◌≡◌ {A = Option (ℕ × ℕ)} (cond (d || e) None (Some x)) None
unbroken_by true e x h = refl
unbroken_by false true x h = refl
unbroken_by false false x h = absurd cc

no_repeat : (last : LastView) (pid number : ℕ) (p : Payload) → (last.counter + 1) % 16 ≡ number % 16 → repeats last (payload_entry pid number p) ≡ false
unfolding repeats view_of
no_repeat last pid number p h = not_same (not last.duplicate) last.has_payload true (number % 16 == last.counter) _ (differs last.counter number h)

no_break : (last : LastView) (pid number : ℕ) (p : Payload) → (last.counter + 1) % 16 ≡ number % 16 → break_after last (payload_entry pid number p) ≡ None
unfolding break_after view_of
no_break last pid number p h = unbroken_by _ (number % 16 == (last.counter + 1) % 16) _ (eq-eqb (number % 16) ((last.counter + 1) % 16) (sym h))

-- A packet without a mark
abbrev plain_mark : Entry → Marked
plain_mark entry = record { entry = entry; duplicate = false; broken = None }

mark_plain : (last : Option LastView) (pid number : ℕ) (p : Payload) → Follows number last →
    mark last (payload_entry pid number p) ≡ plain_mark (payload_entry pid number p)
unfolding mark is_repeat break_at
mark_plain None pid number p f = refl
mark_plain (Some last) pid number p f = rw (no_repeat last pid number p f, no_break last pid number p f) refl

-- The packet of a payload has the role of the payload.
does_again : (pid number : ℕ) (p : Payload) → role (plain_mark (payload_entry pid number p)) ≡ does p
unfolding role role_of view_of
does_again pid number p = ap (λ (start : Start). role_by start (Some p.bytes)) (start_again pid p.start (number % 16) p.bytes)

pub found_plain : (pid number : ℕ) (p : Payload) (s : PidState) → Follows number s.last →
    found_by s (payload_entry pid number p) ≡ by_role p.index (does p) s.open_unit
unfolding found_at by_break
found_plain pid number p s f =
    ap (λ (m : Marked). found_at m s.open_unit) (mark_plain s.last pid number p f) ∙ ap (λ (r : Role). by_role p.index r s.open_unit) (does_again pid number p)

pub part_plain : (pid number : ℕ) (p : Payload) (s : PidState) → Follows number s.last →
    (step s (payload_entry pid number p)).open_unit ≡ next_open p.index (does p) s.open_unit
unfolding step_marked unbroken
part_plain pid number p s f =
    ap (λ (m : Marked). (step_marked m s).open_unit) (mark_plain s.last pid number p f)
    ∙ ap (λ (r : Role). next_open p.index r s.open_unit) (does_again pid number p)

pub last_plain : (pid number : ℕ) (p : Payload) (s : PidState) → Follows (number + 1) (step s (payload_entry pid number p)).last
unfolding step_marked seen mark view_of
last_plain pid number p s = omega arith
