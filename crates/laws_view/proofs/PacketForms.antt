-- How a packet is read: only a wrong first byte gives Sync, and a packet that can be read has the fields of its header.
use Rattle.std.proofs.Common.{◌≡◌, ℕ, ◌/◌, ◌%◌, ◌==◌, Bool, true, false, cond, List, [], ◌∷◌, length, take, drop, Option, Some, None, Result, Ok, Err, refl}
use Rattle.std.specs.Prelude.{nat_lt, slice_index}
use Rattle.bit_fields.specs.Fields.{flag}
use Rattle.bit_fields.specs.Reading.{◌>>=◌}
use Rattle.clock27.specs.Reference.{Reference}
use Rattle.ts_packet.specs.declared.header.Header.{Header}
use Rattle.ts_packet.specs.declared.packet.PacketError.{PacketError}
use Rattle.ts_packet.specs.declared.packet.PacketError.TheVariants.{Sync, ReservedControl, FieldTooLong, PartTooLong}
use Rattle.ts_packet.specs.Views.{AdaptationView, PacketView}
use Rattle.ts_packet.specs.Reading.{adaptation_at, body_at, countdown_at, field_at, header_of, length_prefixed_at, packet_at, parts_at, reference_at}
use Rattle.ts_packet.specs.Reading.{reference_of}

-- 1. A result that is not Sync

abbrev Later : {A : Type 0} → Result A PacketError → Type 0
Later (Ok x) = Unit {0}
Later (Err Sync) = ⊥
Later (Err ReservedControl) = Unit {0}
Later (Err FieldTooLong) = Unit {0}
Later (Err PartTooLong) = Unit {0}

bound : {A B : Type 0} (r : Result A PacketError) (f : A → Result B PacketError) → Later r → ((x : A) → Later (f x)) → Later (r >>= f)
bound (Ok x) f h k = k x
bound (Err Sync) f h k = h
bound (Err ReservedControl) f h k = tt
bound (Err FieldTooLong) f h k = tt
bound (Err PartTooLong) f h k = tt

reference_later : (set : Bool) (bytes : List ℕ) → Later (reference_at set bytes)
unfolding reference_at
reference_later false bytes = tt
reference_later true bytes = by (nat_lt (length bytes) 6)
  where
    by : (t : Bool) → Later {A = Option Reference × List ℕ} (cond t (Err PartTooLong) (Ok (Some (reference_of (take 6 bytes)), drop 6 bytes)))
    by true = tt
    by false = tt

countdown_later : (set : Bool) (bytes : List ℕ) → Later (countdown_at set bytes)
unfolding countdown_at
countdown_later false bytes = tt
countdown_later true [] = tt
countdown_later true (byte ∷ bytes) = tt

prefixed_later : (set : Bool) (bytes : List ℕ) → Later (length_prefixed_at set bytes)
unfolding length_prefixed_at
prefixed_later false bytes = tt
prefixed_later true [] = tt
prefixed_later true (n ∷ bytes) = by (nat_lt (length bytes) n)
  where
    by : (t : Bool) → Later {A = Option (List ℕ) × List ℕ} (cond t (Err PartTooLong) (Ok (Some (take n bytes), drop n bytes)))
    by true = tt
    by false = tt

parts_later : (flags : ℕ) (bytes : List ℕ) → Later (parts_at flags bytes)
unfolding parts_at
parts_later flags bytes =
    bound _ _ (reference_later (flag flags 16) bytes) (λ pcr.
    bound _ _ (reference_later (flag flags 8) pcr.1) (λ opcr.
    bound _ _ (countdown_later (flag flags 4) opcr.1) (λ splice.
    bound _ _ (prefixed_later (flag flags 2) splice.1) (λ private.
    bound _ _ (prefixed_later (flag flags 1) private.1) (λ extension. tt)))))

adaptation_later : (bytes : List ℕ) → Later (adaptation_at bytes)
unfolding adaptation_at
adaptation_later [] = tt
adaptation_later (flags ∷ bytes) = bound _ _ (parts_later flags bytes) (λ parts. tt)

field_later : (most : ℕ) (bytes : List ℕ) → Later (field_at most bytes)
unfolding field_at
field_later most [] = tt
field_later most (n ∷ bytes) = by (nat_lt most n) (bound _ _ (adaptation_later (take n bytes)) (λ adaptation. tt))
  where
    read : Result (AdaptationView × List ℕ) PacketError
    read = adaptation_at (take n bytes) >>= (λ adaptation. Ok (adaptation, drop n bytes))

    by : (t : Bool) → Later read → Later (cond t (Err FieldTooLong) read)
    by true h = tt
    by false h = h

-- 2. A packet after its first byte

abbrev pub IsBody : Header → Result PacketView PacketError → Type 0
IsBody header (Ok packet) = packet.header ≡ header
IsBody header (Err Sync) = ⊥
IsBody header (Err ReservedControl) = Unit {0}
IsBody header (Err FieldTooLong) = Unit {0}
IsBody header (Err PartTooLong) = Unit {0}

fielded : (header : Header) (r : Result (AdaptationView × List ℕ) PacketError) (f : AdaptationView × List ℕ → Result PacketView PacketError) → Later r →
    ((x : AdaptationView × List ℕ) → IsBody header (f x)) → IsBody header (r >>= f)
fielded header (Ok x) f h k = k x
fielded header (Err Sync) f h k = h
fielded header (Err ReservedControl) f h k = tt
fielded header (Err FieldTooLong) f h k = tt
fielded header (Err PartTooLong) f h k = tt

body_is : (header : Header) (control : ℕ) (bytes : List ℕ) → IsBody header (body_at header control bytes)
unfolding body_at
body_is header control bytes =
    by (control == 0) (control == 1) (control == 2)
    (fielded header (field_at 183 bytes) _ (field_later 183 bytes) (λ field. refl))
    (fielded header (field_at 182 bytes) _ (field_later 182 bytes) (λ field. refl))
  where
    alone : Result PacketView PacketError
    alone = field_at 183 bytes >>= (λ field. Ok (record { header = header; adaptation = Some field.0; payload = None }))

    both : Result PacketView PacketError
    both = field_at 182 bytes >>= (λ field. Ok (record { header = header; adaptation = Some field.0; payload = Some field.1 }))

    by : (a b c : Bool) → IsBody header alone → IsBody header both →
        IsBody header (cond a (Err ReservedControl) (cond b (Ok (record { header = header; adaptation = None; payload = Some bytes })) (cond c alone both)))
    by true b c h k = tt
    by false true c h k = refl
    by false false true h k = h
    by false false false h k = k

-- The result of reading a packet, by its first byte.
pub read_as : (bytes : List ℕ) (t : Bool) → (slice_index bytes 0 == 0x47) ≡ t → (r : Result PacketView PacketError) × (packet_at bytes ≡ r)
    × (cond t (IsBody (header_of bytes) r) (r ≡ Err Sync))
unfolding packet_at
read_as bytes true e =
    let body = body_at (header_of bytes) (slice_index bytes 3 / 16 % 4) (drop 4 bytes) in
    (body, rw e refl, body_is (header_of bytes) (slice_index bytes 3 / 16 % 4) (drop 4 bytes))
read_as bytes false e = (Err Sync, rw e refl, refl)
