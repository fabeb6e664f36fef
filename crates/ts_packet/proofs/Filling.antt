-- The adaptation field that fills a packet
use Rattle.std.proofs.Common.{◌≡◌, ℕ, zero, suc, ◌+◌, ◌-◌, ◌<◌, ◌≤◌, List, [], ◌∷◌, ◌++◌, length, replicate, Some, refl, ap, ◌∙◌, arith}
use Rattle.std.proofs.lemmas.List.{length-replicate}
use Rattle.clock27.specs.Reference.{Reference}
use Rattle.ts_packet.specs.Syntax.{control_of}
use Rattle.ts_packet.specs.Views.{WithFlags}
use Rattle.ts_packet.specs.Writing.{optional_bytes, adaptation_bytes, parts_bytes, flags_of, reference_bytes}
use Rattle.ts_packet.specs.declared.start.Start.{Start}
use Rattle.ts_packet.specs.declared.start.Start.TheVariants.{Continues, Begins, Access}
use Rattle.ts_packet.specs.Beginnings.{room_of}
use Rattle.ts_packet.specs.Packets.{plain_parts, stuffing_field, field_of}

-- If nothing is to be filled, the field has no byte.
pub stuffing_none : (n : ℕ) → n ≡ 0 → optional_bytes adaptation_bytes (stuffing_field n) ≡ []
unfolding stuffing_field
stuffing_none zero e = refl
stuffing_none (suc n) e = absurd (omega arith)

-- A field of one byte has only its length.
pub stuffing_one : (n : ℕ) → n ≡ 1 → optional_bytes adaptation_bytes (stuffing_field n) ≡ 0 ∷ []
unfolding stuffing_field adaptation_bytes
stuffing_one zero e = absurd (omega arith)
stuffing_one (suc zero) e = refl
stuffing_one (suc (suc n)) e = absurd (omega arith)

-- A longer field has its length, its flags and stuffing.
pub stuffing_long : (n : ℕ) → 1 < n → optional_bytes adaptation_bytes (stuffing_field n) ≡ (n - 1) ∷ 0 ∷ replicate (n - 2) 0xFF
unfolding stuffing_field adaptation_bytes parts_bytes flags_of
stuffing_long zero h = absurd (omega arith)
stuffing_long (suc zero) h = absurd (omega arith)
stuffing_long (suc (suc n)) h =
    let size : length (replicate {A = ℕ} n 0xFF) ≡ n = length-replicate n 0xFF in
    let first : 1 + length (replicate {A = ℕ} n 0xFF) ≡ suc (suc n) - 1 = omega arith in
    let left : n ≡ suc (suc n) - 2 = omega arith in
    ap (λ (m : ℕ). m ∷ 0 ∷ replicate n 0xFF) first ∙ ap (λ (m : ℕ). (suc (suc n) - 1) ∷ 0 ∷ replicate m 0xFF) left

-- A packet with a payload has no adaptation field exactly if nothing is to be filled.
pub control_none : (n : ℕ) (payload : List ℕ) → n ≡ 0 → control_of (stuffing_field n) (Some payload) ≡ 1
unfolding stuffing_field
control_none zero payload e = refl
control_none (suc n) payload e = absurd (omega arith)

pub control_some : (n : ℕ) (payload : List ℕ) → 0 < n → control_of (stuffing_field n) (Some payload) ≡ 3
unfolding stuffing_field
control_some zero payload h = absurd (omega arith)
control_some (suc zero) payload h = refl
control_some (suc (suc n)) payload h = refl

-- If no decoder can start at the packet, the field is only stuffing.
pub field_continues : (n : ℕ) → field_of Continues n ≡ stuffing_field n
unfolding field_of
field_continues n = refl

pub field_begins : (n : ℕ) → field_of Begins n ≡ stuffing_field n
unfolding field_of
field_begins n = refl

-- If a decoder can start at the packet, the field is its length, its flags and stuffing.
pub access_bytes : (n : ℕ) → 1 < n → optional_bytes adaptation_bytes (field_of Access n) ≡ (n - 1) ∷ 64 ∷ replicate (n - 2) 0xFF
unfolding field_of adaptation_bytes parts_bytes flags_of
access_bytes n h =
    let size : length (replicate {A = ℕ} (n - 2) 0xFF) ≡ n - 2 = length-replicate (n - 2) 0xFF in
    let first : 1 + length (replicate {A = ℕ} (n - 2) 0xFF) ≡ n - 1 = omega arith in
    ap (λ (m : ℕ). m ∷ 64 ∷ replicate (n - 2) 0xFF) first

pub field_none : (start : Start) (n : ℕ) (payload : List ℕ) → 184 ≤ n + room_of start → n ≡ 0 → control_of (field_of start n) (Some payload) ≡ 1
unfolding field_of
field_none Continues n payload room e = control_none n payload e
field_none Begins n payload room e = control_none n payload e
field_none Access n payload room e = absurd (omega arith)

pub field_some : (start : Start) (n : ℕ) (payload : List ℕ) → 0 < n → control_of (field_of start n) (Some payload) ≡ 3
unfolding field_of
field_some Continues n payload h = control_some n payload h
field_some Begins n payload h = control_some n payload h
field_some Access n payload h = refl

pub ruleset filling = (stuffing_none, stuffing_one, stuffing_long, field_none, field_some)

pub ruleset fields = (field_continues, field_begins, access_bytes)

-- The adaptation field of a clock reference and stuffing
pub pcr_field_bytes : (pcr : Reference) →
    optional_bytes adaptation_bytes (Some (WithFlags (plain_parts (Some pcr) 176))) ≡ 183 ∷ 16 ∷ (reference_bytes pcr ++ replicate 176 0xFF)
unfolding adaptation_bytes parts_bytes flags_of reference_bytes
pcr_field_bytes pcr = refl

pub ruleset clock = (pcr_field_bytes)
