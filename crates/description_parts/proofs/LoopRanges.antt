-- The loops of services, of events and of the network are bytes, as many as their sections may have.
use Rattle.std.proofs.Common.{◌≡◌, ℕ, ◌+◌, ◌≤◌, ◌<◌, Bool, true, false, List, [], ◌∷◌, ◌++◌, length, unwrap_or, arith, if◌then◌else◌, codes}
use Rattle.std.proofs.lemmas.List.Elements.{All-from_recursion, All-weaker}
use Rattle.toml.specs.Data.{Data}
use Rattle.dvb_tables.specs.Descriptors.{descriptor, length_prefixed, network_name_descriptor, service_descriptor, short_event_descriptor}
use Rattle.description_keys.specs.EventKeys.{event_descriptors, event_language, event_name, event_text, has_loop}
use Rattle.description_keys.specs.NetworkKeys.{has_name, network_name, own_descriptors}
use Rattle.description_keys.specs.ProgramKeys.{has_service_loop, program_name, program_provider, program_service_descriptors, program_service_type}
use Rattle.description_parts.specs.Contents.{event_loop, name_descriptors, named_service, no_language, service_loop, short_event}
use Rattle.description_parts.specs.Ranges.{IsBytes, IsLanguage}
use Rattle.description_parts.proofs.ChannelRanges.{two_are}
use Rattle.description_parts.proofs.KeyRanges.{integer_or-within}
use Rattle.description_parts.proofs.TextRanges.{descriptors-is, language_at-is, no_bytes, text_at-is, text_or-is}

-- Bytes that are few
fewer : (a b : ℕ) (xs : List ℕ) → a ≤ b → IsBytes a xs → IsBytes b xs
fewer a b xs h is = record { fits = omega (arith, is.fits, h); octets = is.octets }

one_is : (n : ℕ) → n < 256 → IsBytes 1 (n ∷ [])
one_is n h = record { fits = omega arith; octets = All-from_recursion (λ x. x < 256) (n ∷ []) (h, tt) }

prefixed_is : (most : ℕ) (text : List ℕ) → most ≤ 255 → IsBytes most text → IsBytes (1 + most) (length_prefixed text)
prefixed_is most text few is = two_are 1 most (length text ∷ []) text (one_is (length text) (omega (arith, is.fits, few))) is

descriptor_is : (tag most : ℕ) (body : List ℕ) → tag < 256 → most ≤ 255 → IsBytes most body → IsBytes (1 + (1 + most)) (descriptor tag body)
descriptor_is tag most body small few is = two_are 1 (1 + most) (tag ∷ []) (length_prefixed body) (one_is tag small) (prefixed_is most body few is)

either_is : (most : ℕ) (b : Bool) (xs ys : List ℕ) → IsBytes most xs → IsBytes most ys → IsBytes most (if b then xs else ys)
either_is most true xs ys h k = h
either_is most false xs ys h k = k

-- The loop of a service
service_is : (kind : ℕ) (provider name : List ℕ) → kind ≤ 255 → IsBytes 100 provider → IsBytes 100 name
    → IsBytes 205 (service_descriptor kind provider name)
unfolding service_descriptor
service_is kind provider name k p n =
    descriptor_is 0x48 203 ((kind ∷ length_prefixed provider) ++ length_prefixed name) (omega arith) (omega arith)
    (two_are 102 101 (kind ∷ length_prefixed provider) (length_prefixed name)
    (two_are 1 101 (kind ∷ []) (length_prefixed provider) (one_is kind (omega (arith, k))) (prefixed_is 100 provider (omega arith) p))
    (prefixed_is 100 name (omega arith) n))

named_is : (d : Data) → IsBytes 205 (named_service d)
named_is d =
    service_is (unwrap_or (program_service_type d) 0) (unwrap_or (program_provider d) []) (unwrap_or (program_name d) [])
    (integer_or-within (codes "service_type") 0 255 1 0 d (omega arith) (omega arith) (omega arith) (omega arith)).most
    (text_or-is 100 (codes "provider") d) (text_or-is 100 (codes "name") d)

pub service_loop_is : (d : Data) → IsBytes 1004 (service_loop d)
service_loop_is d =
    either_is 1004 (has_service_loop d) (unwrap_or (program_service_descriptors d) []) (named_service d)
    (descriptors-is 1004 (codes "service_descriptors") d) (fewer 205 1004 (named_service d) (omega arith) (named_is d))

-- The loop of an event
language_is : (code : List ℕ) → IsLanguage code → IsBytes 3 code
language_is code is = record {
  fits = omega (arith, is.letters);
  octets = All-weaker (λ b. b < 128) (λ b. b < 256) (λ b h. omega (arith, h)) code is.octets;
}

event_is : (language name text : List ℕ) → IsLanguage language → IsBytes 100 name → IsBytes 150 text
    → IsBytes 257 (short_event_descriptor language name text)
unfolding short_event_descriptor
event_is language name text l n t =
    descriptor_is 0x4D 255 ((language ++ length_prefixed name) ++ length_prefixed text) (omega arith) (omega arith)
    (two_are 104 151 (language ++ length_prefixed name) (length_prefixed text)
    (two_are 3 101 language (length_prefixed name) (language_is language l) (prefixed_is 100 name (omega arith) n))
    (prefixed_is 150 text (omega arith) t))

short_is : (d : Data) → IsBytes 257 (short_event d)
short_is d =
    event_is (unwrap_or (event_language d) no_language) (unwrap_or (event_name d) []) (unwrap_or (event_text d) [])
    (language_at-is (codes "language") d) (text_at-is 100 (codes "name") d) (text_at-is 150 (codes "text") d)

pub event_loop_is : (d : Data) → IsBytes 4000 (event_loop d)
event_loop_is d =
    either_is 4000 (has_loop d) (unwrap_or (event_descriptors d) []) (short_event d)
    (descriptors-is 4000 (codes "descriptors") d) (fewer 257 4000 (short_event d) (omega arith) (short_is d))

-- The loop of the network
name_is : (name : List ℕ) → IsBytes 200 name → IsBytes 202 (network_name_descriptor name)
unfolding network_name_descriptor
name_is name n = descriptor_is 0x40 200 name (omega arith) (omega arith) n

pub network_loop_is : (d : Data) → IsBytes 902 (name_descriptors d ++ unwrap_or (own_descriptors d) [])
network_loop_is d =
    two_are 202 700 (name_descriptors d) (unwrap_or (own_descriptors d) [])
    (either_is 202 (has_name d) (network_name_descriptor (unwrap_or (network_name d) [])) []
    (name_is (unwrap_or (network_name d) []) (text_at-is 200 (codes "name") d)) (no_bytes 202))
    (descriptors-is 700 (codes "network_descriptors") d)
