-- The number of bytes for which a PES packet waits after its header is read.
use Rattle.std.proofs.Common.{◌≡◌, ◌≢◌, ℕ, ◌+◌, ◌<◌, ◌==◌, Bool, true, false, cond, List, ◌++◌, length, None, Ok, refl, arith, ◌∙◌, length-append}
use Rattle.std.specs.Prelude.{nat_lt}
use Rattle.std.proofs.lemmas.Bool.Decides.{nat_tests}
use Rattle.pes_packet.specs.Reading.{header_at}
use Rattle.pes_packet.specs.declared.reading.PesHeader.{PesHeader}
use Rattle.pes_packet.proofs.LongerRead.{longer_is_read}
use Rattle.pid_findings.specs.OpenUnits.{UnitKind, IsUndecidedBelow, decided, of_header, of_pes, max_unbounded_pes}
use Rattle.pid_findings.specs.declared.open_unit.UnitKind.TheVariants as unit_kinds

fewer : (n m : ℕ) → n < m → nat_lt n m ≡ true
fewer n m lt = grind (arith, nat_tests)

no_more : (n m : ℕ) → n < m + 1 → nat_lt m n ≡ false
no_more n m lt = grind (arith, nat_tests)

pub not_zero : (n : ℕ) → n ≢ 0 → n == 0 ≡ false
not_zero n more = grind (arith, nat_tests)

of_header_none : (bytes : List ℕ) (h : PesHeader × ℕ) (least : ℕ) → length bytes < least → (z : Bool) → h.0.len == 0 ≡ z →
    least ≡ cond z (max_unbounded_pes + 1) (6 + h.0.len) → of_header bytes h ≡ None
unfolding of_header
of_header_none bytes h least lt true test is = rw (test, no_more (length bytes) max_unbounded_pes (omega (arith, lt, is))) refl
of_header_none bytes h least lt false test is = rw (test, fewer (length bytes) (6 + h.0.len) (omega (arith, lt, is))) refl

pub least_by : (bytes : List ℕ) (h : PesHeader × ℕ) (least : ℕ) (z : Bool) → header_at bytes ≡ Ok h → h.0.len == 0 ≡ z →
    least ≡ cond z (max_unbounded_pes + 1) (6 + h.0.len) → IsUndecidedBelow unit_kinds.Pes bytes least
unfolding decided of_pes
least_by bytes h least z is test size more lt =
    let read : header_at (bytes ++ more) ≡ Ok h = longer_is_read bytes more (rw is (λ x. absurd cc)) ∙ is in
    rw read (of_header_none (bytes ++ more) h least lt z test size)

-- Fewer bytes leave the unit open.
pub still_open : (kind : UnitKind) (bytes payload : List ℕ) (least : ℕ) → IsUndecidedBelow kind bytes least → length bytes + length payload < least →
    decided kind (bytes ++ payload) ≡ None
still_open kind bytes payload least waits lt = waits payload (omega (arith, lt, length-append bytes payload))
