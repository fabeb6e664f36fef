-- The services of a loop: from its bytes, and back
use Rattle.std.proofs.Common.{◌≡◌, ℕ, true, Ok, List, [], ◌∷◌, ◌++◌, ◌+◌, ◌≤◌, append_assoc, length-append, length, map, ap, ◌∙◌, subst, arith}
use Rattle.std.specs.Prelude.{flat_map, is_some, All}
use Rattle.std.specs.Prelude.{unwrap_or}
use Rattle.std.proofs.Common.{append-nil}
use Rattle.std.proofs.lemmas.List.Concat.{flat_map-append}
use Rattle.psi_tables.proofs.LoopParts.{loop_at-end}
use Rattle.psi_tables.specs.declared.error.SectionError.TheVariants.{Body}
use Rattle.dvb_tables.proofs.Seams.{accepted}
use Rattle.bit_fields.specs.Fields.{IsBytes}
use Rattle.psi_tables.specs.Loops.{loop_at, entries_in}
use Rattle.dvb_tables.specs.Sequences.{IsSequence}
use Rattle.dvb_tables.specs.Services.{ServiceView, IsService, service_of, service_bytes, service_front, services_in, services_at, services_bytes}
use Rattle.dvb_tables.specs.Fits.{ServiceFits}
use Rattle.dvb_tables.proofs.EntrySequences.{SaysAll, whole_entries, sequence_of, entries_of, written_length, written_sequence, written_entries, entries_whole}
use Rattle.dvb_tables.proofs.EntrySequences.{values_read, values_after}
use Rattle.dvb_tables.proofs.ServiceFields.{service_found, service_only, service_length}
use Rattle.dvb_tables.proofs.ServiceWritten.{service_written, service_said}

-- A whole loop is a sequence of services.
pub services_found : (bytes : List ℕ) → IsBytes bytes → is_some (loop_at 5 bytes) ≡ true → IsSequence IsService bytes (services_in bytes)
unfolding services_in
services_found bytes fits whole = sequence_of 5 IsService service_of service_found bytes (entries_in 5 bytes) fits (whole_entries 5 bytes whole)

read : (bytes : List ℕ) (ss : List ServiceView) → SaysAll 5 service_of bytes ss → services_at bytes ≡ Ok ss
unfolding services_at services_in
read bytes ss h =
    let whole : is_some (loop_at 5 bytes) ≡ true = entries_whole 5 bytes h.es (omega arith) h.entries in
    rw whole (ap Ok (values_read 5 service_of bytes ss (omega arith) h))

-- A sequence of services is read back.
pub services_only : (bytes : List ℕ) (ss : List ServiceView) → IsBytes bytes → IsSequence IsService bytes ss → services_at bytes ≡ Ok ss
services_only bytes ss fits h = read bytes ss (entries_of 5 IsService service_of service_only bytes ss fits h)

-- Written services are read back.
pub services_again : (ss : List ServiceView) → All ServiceFits ss → services_at (services_bytes ss) ≡ Ok ss
unfolding services_bytes
services_again ss h = read (flat_map service_bytes ss) ss (written_entries 5 service_of service_bytes ServiceFits service_said ss h)

-- Written services are a sequence of services.
pub services_written : (ss : List ServiceView) → All ServiceFits ss → IsSequence IsService (services_bytes ss) ss
unfolding services_bytes
services_written ss h = written_sequence IsService service_bytes ServiceFits service_written ss h

-- Writing the services of a whole loop yields as many bytes as the loop has.
pub services_length : (bytes : List ℕ) → is_some (loop_at 5 bytes) ≡ true → length (services_bytes (services_in bytes)) ≡ length bytes
unfolding services_in services_bytes
services_length bytes whole = written_length 5 service_of service_bytes service_length bytes (entries_in 5 bytes) (whole_entries 5 bytes whole)

-- Writing one service and then the remaining services writes them all.
pub service_step : (out : List ℕ) (x : ServiceView) (xs : List ServiceView) → (out ++ service_bytes x) ++ services_bytes xs ≡ out ++ services_bytes (x ∷ xs)
unfolding services_bytes
service_step out x xs = append_assoc out (service_bytes x) (services_bytes xs)

-- If there is room for all services, there is room for the first.
pub service_room : (out : List ℕ) (x : ServiceView) (xs : List ServiceView) (n : ℕ) → length (out ++ services_bytes (x ∷ xs)) ≤ n →
    length out + (5 + length x.descriptors) ≤ n
unfolding services_bytes service_bytes service_front
service_room out x xs n h =
    omega (
      arith,
      h,
      length-append out (service_bytes x ++ services_bytes xs),
      length-append (service_bytes x) (services_bytes xs),
      length-append (service_front x) x.descriptors,
    )

-- An empty loop has no services.
pub no_services : services_in [] ≡ []
unfolding services_in
no_services = ap (λ o. map service_of (unwrap_or o [])) (loop_at-end 5)

-- A loop with one more service
pub record OneMore (bytes : List ℕ) (x : ServiceView) : Type 0 where
  pub whole : is_some (loop_at 5 (bytes ++ service_bytes x)) ≡ true
  pub values : services_in (bytes ++ service_bytes x) ≡ services_in bytes ++ x ∷ []

pub one_more : (bytes : List ℕ) (x : ServiceView) → ServiceFits x → is_some (loop_at 5 bytes) ≡ true → OneMore bytes x
unfolding services_in
one_more bytes x fits whole =
    let h = values_after 5 service_of bytes (service_bytes x) (entries_in 5 bytes) x (whole_entries 5 bytes whole) (service_said x fits) in
    record {
      whole = entries_whole 5 (bytes ++ service_bytes x) h.es (omega arith) h.entries;
      values = values_read 5 service_of (bytes ++ service_bytes x) (map service_of (entries_in 5 bytes) ++ x ∷ []) (omega arith) h;
    }

more_bytes : (xs : List ServiceView) (x : ServiceView) → services_bytes (xs ++ x ∷ []) ≡ services_bytes xs ++ service_bytes x
unfolding services_bytes
more_bytes xs x = flat_map-append service_bytes xs (x ∷ []) ∙ ap (λ (t : List ℕ). flat_map service_bytes xs ++ t) (append-nil (service_bytes x))

size : (x : ServiceView) → length (service_bytes x) ≡ 5 + length x.descriptors
unfolding service_bytes service_front
size x = omega arith

-- The length of a loop with one more service
pub more_length : (bytes : List ℕ) (x : ServiceView) → is_some (loop_at 5 bytes) ≡ true → length (services_bytes (services_in bytes ++ x ∷ [])) ≡ length bytes
    + (5 + length x.descriptors)
more_length bytes x whole =
    let all : length (services_bytes (services_in bytes ++ x ∷ [])) ≡ length (services_bytes (services_in bytes) ++ service_bytes x) =
    ap (length {A = ℕ}) (more_bytes (services_in bytes) x) in
    omega (arith, all, size x, services_length bytes whole, length-append (services_bytes (services_in bytes)) (service_bytes x))

-- Services that are read from a loop are the sequence in its bytes.
pub services_is : (bytes : List ℕ) (xs : List ServiceView) → IsBytes bytes → services_at bytes ≡ Ok xs → IsSequence IsService bytes xs
unfolding services_at
services_is bytes xs fits e =
    let a = accepted (is_some (loop_at 5 bytes)) (services_in bytes) Body xs e in
    subst (λ (ys : List ServiceView). IsSequence IsService bytes ys) a.1 (services_found bytes fits a.0)
