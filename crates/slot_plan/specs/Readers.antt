-- A plan text, read from left to right. Each reader gives what it finds at the front and the text after it, or nothing.
use Rattle.std.specs.Prelude.{ℕ, zero, suc, ◌+◌, ◌-◌, ◌/◌, ◌==◌, Bool, false, List, [], ◌∷◌, Option, None, Some, Result, Ok, Err, nat_lt, length, codes}
use Rattle.std.specs.Prelude.{if◌then◌else◌}
use Rattle.slot_plan.specs.Words.{◌>>=◌, after_word, number_before, field_at, after_number}
use Rattle.slot_plan.specs.declared.slot.Slot.{Slot}
use Rattle.slot_plan.specs.declared.slot.Slot.TheVariants.{Stream, Pcr, Table, Null}
use Rattle.slot_plan.specs.declared.certificate.StreamEntry.{StreamEntry}
use Rattle.slot_plan.specs.declared.certificate.MultiplexingEntry.{MultiplexingEntry}
use Rattle.slot_plan.specs.declared.certificate.ProgramEntry.{ProgramEntry}
use Rattle.slot_plan.specs.Planned.{Planned, Certified, max_slots, max_entries}
use Rattle.slot_plan.specs.Text.{slot_ending}

-- the slot of that letter and number
abbrev pub slot_of_letter : ℕ → ℕ → Option Slot
slot_of_letter letter n = if letter == 83 then Some (Stream n) else (if letter == 80 then Some (Pcr n) else (if letter == 84 then Some (Table n) else None))

-- a slot and the byte that ends it
abbrev pub slot_at : ℕ → List ℕ → Option (Slot × List ℕ)
slot_at ending [] = None
slot_at ending (b ∷ bs) =
    if b == 45 then after_word (ending ∷ []) bs >>= (λ rest. Some (Null, rest))
    else number_before ending 256 bs >>= (λ n. slot_of_letter b n.0 >>= (λ slot. Some (slot, n.1)))

-- the claim on a multiplexing buffer that ends a line
abbrev pub multiplexing_at : List ℕ → Option (MultiplexingEntry × List ℕ)
multiplexing_at xs =
    field_at (codes "mstart ") 32 xs >>= (λ start.
    field_at (codes "mpeak ") 10 start.1 >>= (λ peak.
    Some (record { start = start.0; peak = peak.0 }, peak.1)))

-- the last words of the line of a stream entry: a peak that ends it, or one with a claim on a multiplexing buffer after it
abbrev pub peaks_beside : Option (ℕ × List ℕ) → List ℕ → Option ((ℕ × Option MultiplexingEntry) × List ℕ)
peaks_beside (Some peak) xs = Some ((peak.0, None), peak.1)
peaks_beside None xs =
    field_at (codes "peak ") 32 xs >>= (λ peak.
    multiplexing_at peak.1 >>= (λ claim.
    Some ((peak.0, Some claim.0), claim.1)))

abbrev pub peaks_at : List ℕ → Option ((ℕ × Option MultiplexingEntry) × List ℕ)
peaks_at xs = peaks_beside (field_at (codes "peak ") 10 xs) xs

-- the rest of the line of a stream entry, and of a program entry
abbrev pub stream_claims : List ℕ → Option (StreamEntry × List ℕ)
stream_claims xs =
    field_at (codes "spread ") 32 xs >>= (λ spread.
    field_at (codes "start ") 32 spread.1 >>= (λ start.
    peaks_at start.1 >>= (λ peaks.
    Some (record { spread = spread.0; start = start.0; peak = peaks.0.0; multiplexing = peaks.0.1 }, peaks.1))))

abbrev pub program_claims : List ℕ → Option (ProgramEntry × List ℕ)
program_claims xs =
    field_at (codes "tstart ") 32 xs >>= (λ a.
    field_at (codes "tpeak ") 32 a.1 >>= (λ b.
    field_at (codes "bstart ") 32 b.1 >>= (λ c.
    field_at (codes "bpeak ") 10 c.1 >>= (λ d.
    Some (record { transport_start = a.0; transport_peak = b.0; system_start = c.0; system_peak = d.0 }, d.1)))))

-- the line of stream entry number k, of program entry number k
abbrev pub stream_at : ℕ → List ℕ → Option (StreamEntry × List ℕ)
stream_at k xs = after_number (codes "stream ") k xs >>= stream_claims

abbrev pub program_at : ℕ → List ℕ → Option (ProgramEntry × List ℕ)
program_at k xs = after_number (codes "program ") k xs >>= program_claims

-- the line that has slot number i
abbrev pub line_of_slot : ℕ → ℕ
line_of_slot i = 3 + i / 24

-- a reading of a list begins with this element
abbrev pub with_first : {X : Type 0} → X → Result (List X × List ℕ) ℕ → Result (List X × List ℕ) ℕ
with_first x (Ok r) = Ok (x ∷ r.0, r.1)
with_first x (Err line) = Err line

-- a list read from its first element on: the element found there and then the rest of the list; if there is no element, the line is
-- bad
abbrev pub continued : {X : Type 0} → ℕ → (List ℕ → Result (List X × List ℕ) ℕ) → Option (X × List ℕ) → Result (List X × List ℕ) ℕ
continued line next None = Err line
continued line next (Some r) = with_first r.0 (next r.1)

-- the last k slots of n, and the rest; or the line of the first that is none
abbrev pub slots_at : ℕ → ℕ → List ℕ → Result (List Slot × List ℕ) ℕ
slots_at n zero xs = Ok ([], xs)
slots_at n (suc k) xs = continued (line_of_slot (n - suc k)) (slots_at n k) (slot_at (slot_ending n (n - suc k)) xs)

-- whether a text begins with this letter
abbrev pub begins_with : ℕ → List ℕ → Bool
begins_with letter [] = false
begins_with letter (x ∷ xs) = x == letter

-- stream entries from number k on, at most m, and the rest; number 0 is on that line; or the line of the first that is
-- none
unfoldable pub streams_at : ℕ → ℕ → ℕ → List ℕ → Result (List StreamEntry × List ℕ) ℕ
streams_at zero line k xs = Ok ([], xs)
streams_at (suc m) line k xs = if begins_with 115 xs then continued (line + k) (streams_at m line (suc k)) (stream_at k xs) else Ok ([], xs)

-- program entries in the same way
unfoldable pub programs_at : ℕ → ℕ → ℕ → List ℕ → Result (List ProgramEntry × List ℕ) ℕ
programs_at zero line k xs = Ok ([], xs)
programs_at (suc m) line k xs = if begins_with 112 xs then continued (line + k) (programs_at m line (suc k)) (program_at k xs) else Ok ([], xs)

-- the lines of n slots
abbrev pub slot_lines : ℕ → ℕ
slot_lines n = (n + 23) / 24

-- what a reader gave, or its line as a bad one
abbrev pub or_line : {A : Type 0} → ℕ → Option A → Result A ℕ
or_line line None = Err line
or_line line (Some x) = Ok x

-- one reader, and then another on what it gave; a bad line stays
infixr 10 ◌>>>◌
abbrev pub ◌>>>◌ : {A B : Type 0} → Result A ℕ → (A → Result B ℕ) → Result B ℕ
(Ok x) >>> f = f x
(Err line) >>> f = Err line

-- the entries after the slots, the first on that line, and the end
abbrev pub certificate_at : ℕ → List ℕ → Result (Certified × List ℕ) ℕ
certificate_at line xs =
    streams_at max_entries line 0 xs >>> (λ streams.
    programs_at max_entries (line + length streams.0) 0 streams.1 >>> (λ programs.
    or_line (line + length streams.0 + length programs.0) (after_word (codes "end\n") programs.1) >>> (λ rest.
    Ok (record { streams = streams.0; programs = programs.0 }, rest))))

-- `period N`, N at most 99,999
abbrev pub period_at : List ℕ → Option (ℕ × List ℕ)
period_at xs = field_at (codes "period ") 10 xs >>= (λ n. if nat_lt max_slots n.0 then None else Some n)

-- the plan whose text is at the front, and the rest; or the number of the first line that is not as it must be, from 1
abbrev pub plan_at : List ℕ → Result (Planned × List ℕ) ℕ
plan_at xs =
    or_line 1 (after_word (codes "tsplan 1\n") xs) >>> (λ after.
    or_line 2 (period_at after) >>> (λ n.
    slots_at n.0 n.0 n.1 >>> (λ slots.
    certificate_at (3 + slot_lines n.0) slots.1 >>> (λ certificate.
    Ok (record { slots = slots.0; certificate = certificate.0 }, certificate.1)))))
