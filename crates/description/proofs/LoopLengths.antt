-- The lengths of loops of entries and of their descriptors.
use Rattle.std.proofs.Common.{◌≡◌, ℕ, ◌+◌, ◌*◌, ◌/◌, ◌%◌, ◌≤◌, List, [], ◌∷◌, ◌++◌, length, flat_map, Option, None, Some, All, arith, ap, ◌∙◌, length-append}
use Rattle.std.proofs.Common.{refl, is_some, if◌then◌else◌}
use Rattle.std.proofs.lemmas.List.Elements.{All-head}
use Rattle.std.specs.Option.{option_to_list}
use Rattle.psi_tables.specs.ProgramMap.{StreamView, streams_bytes, stream_bytes}
use Rattle.psi_tables.proofs.StreamEncodings.{length_stream_bytes}
use Rattle.bit_fields.specs.Fields.{bit}
use Rattle.dvb_tables.specs.RunningStates.{status_code}
use Rattle.dvb_tables.specs.Descriptors.{iso_639_language_descriptor, stream_identifier_descriptor}
use Rattle.dvb_tables.specs.Services.{ServiceView, services_bytes, service_bytes, service_front}
use Rattle.dvb_tables.specs.TransportStreams.{TransportStreamView, transport_streams_bytes, transport_stream_bytes, transport_stream_front}
use Rattle.dvb_tables.specs.EventEntries.{EventView, events_bytes, event_bytes, event_status}
use Rattle.description_parts.specs.Described.{DescribedStream}
use Rattle.description_parts.specs.Ranges.{IsLanguage, IsStream}
use Rattle.description_parts.specs.Tables.{es_info_length}
use Rattle.description.specs.SectionBytes.{tag_bytes, language_bytes, stream_descriptors}

-- One more entry adds its length to the length of the loop.
flat_push : {X : Type 0} (f : X → List ℕ) (xs : List X) (x : X) → length (flat_map f (xs ++ x ∷ [])) ≡ length (flat_map f xs) + length (f x)
flat_push f [] x = omega (arith, length-append (f x) [])
flat_push f (y ∷ ys) x = omega (arith, length-append (f y) (flat_map f (ys ++ x ∷ [])), length-append (f y) (flat_map f ys), flat_push f ys x)

pub streams_bytes-push : (ss : List StreamView) (s : StreamView) → length (streams_bytes (ss ++ s ∷ [])) ≡ length (streams_bytes ss) + 5 + length s.descriptors
unfolding streams_bytes
streams_bytes-push ss s = omega (arith, flat_push stream_bytes ss s, length_stream_bytes s)

pub length_service_bytes : (s : ServiceView) → length (service_bytes s) ≡ 5 + length s.descriptors
unfolding service_bytes service_front
length_service_bytes s = omega arith

pub services_bytes-push : (ss : List ServiceView) (s : ServiceView) → length (services_bytes (ss ++ s ∷ [])) ≡ length (services_bytes ss) + 5
    + length s.descriptors
unfolding services_bytes
services_bytes-push ss s = omega (arith, flat_push service_bytes ss s, length_service_bytes s)

pub length_transport_stream_bytes : (t : TransportStreamView) → length (transport_stream_bytes t) ≡ 6 + length t.descriptors
unfolding transport_stream_bytes transport_stream_front
length_transport_stream_bytes t = omega arith

pub transport_streams_bytes-push : (ts : List TransportStreamView) (t : TransportStreamView)
    → length (transport_streams_bytes (ts ++ t ∷ [])) ≡ length (transport_streams_bytes ts) + 6 + length t.descriptors
unfolding transport_streams_bytes
transport_streams_bytes-push ts t = omega (arith, flat_push transport_stream_bytes ts t, length_transport_stream_bytes t)

-- The lengths of a stream's descriptors
tag-length : (o : Option ℕ) → length (tag_bytes o) ≡ (if is_some o then 3 else 0)
unfolding stream_identifier_descriptor
tag-length None = refl
tag-length (Some tag) = refl

language-length : (o : Option (List ℕ)) → All IsLanguage (option_to_list o) → length (language_bytes o) ≡ (if is_some o then 6 else 0)
unfolding iso_639_language_descriptor
language-length None h = refl
language-length (Some language) h =
    let three = (All-head IsLanguage language [] h).letters in
    omega (arith, three, length-append language (0 ∷ []))

pub stream_descriptors-length : (s : DescribedStream) → IsStream s → length (stream_descriptors s) ≡ es_info_length s
stream_descriptors-length s h =
    omega (
      arith,
      tag-length s.tag,
      language-length s.language h.language,
      length-append (tag_bytes s.tag ++ language_bytes s.language) s.descriptors,
      length-append (tag_bytes s.tag) (language_bytes s.language),
    )

pub tag-most : (o : Option ℕ) → length (tag_bytes o) ≤ 3
tag-most None = omega arith
tag-most (Some tag) = let is = tag-length (Some tag) in omega (arith, is)

pub language-most : (o : Option (List ℕ)) → All IsLanguage (option_to_list o) → length (language_bytes o) ≤ 6
language-most None h = omega arith
language-most (Some language) h = let is = language-length (Some language) h in omega (arith, is)

-- The number of bytes after an entry was pushed
pub encoded_length : {X : Type 0} (encode : List X → List ℕ) (entries after : List X) (n : ℕ) → entries ≡ after → length (encode after) ≡ n →
    length (encode entries) ≡ n
encoded_length {X = X} encode entries after n is h = ap (λ (xs : List X). length (encode xs)) is ∙ h

-- The lengths of empty loops
pub no_stream_bytes : length (streams_bytes []) ≡ 0
unfolding streams_bytes
no_stream_bytes = refl

pub no_service_bytes : length (services_bytes []) ≡ 0
unfolding services_bytes
no_service_bytes = refl

pub no_transport_stream_bytes : length (transport_streams_bytes []) ≡ 0
unfolding transport_streams_bytes
no_transport_stream_bytes = refl

pub length_event_bytes : (e : EventView) → length (event_bytes e) ≡ 4 + length e.start_time + length e.duration + length e.descriptors
unfolding event_bytes event_status
length_event_bytes e =
    let id : List ℕ = (e.event_id / 256) ∷ (e.event_id % 256) ∷ [] in
    let status : List ℕ = ((status_code e.running_status * 2 + bit e.free_ca_mode) * 16 + length e.descriptors / 256) ∷ (length e.descriptors % 256) ∷ [] in
    omega (
      arith,
      length-append (id ++ e.start_time ++ e.duration ++ status) e.descriptors,
      length-append (id ++ e.start_time ++ e.duration) status,
      length-append (id ++ e.start_time) e.duration,
      length-append id e.start_time,
    )

pub one_event_entry : (e : EventView) (held : List EventView) → held ≡ [] → length e.start_time ≡ 5 → length e.duration ≡ 3 → length e.descriptors ≤ 4000
    → length (events_bytes (held ++ e ∷ [])) ≤ 4078
unfolding events_bytes
one_event_entry e held none start duration few =
    let is : length (flat_map event_bytes (held ++ e ∷ [])) ≡ length (event_bytes e) = rw none (omega (arith, length-append (event_bytes e) [])) in
    omega (arith, is, start, duration, few, length_event_bytes e)
