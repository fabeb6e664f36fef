-- Descriptors that the texts of a description give, and descriptors that a description has as they are (EN 300 468, 6.2).
use Rattle.std.specs.Prelude.{ℕ, ◌&&◌, nat_le, not, Bool, false, if◌then◌else◌, List, length, Option, Some, None, option_map, option_and_then}
use Rattle.std.specs.Str.{bytes_eq}
use Rattle.description_values.specs.Values.{language_of}
use Rattle.dvb_tables.specs.CharacterCoding.{text_bytes}
use Rattle.dvb_tables.specs.DescriptorLoops.{are_whole_descriptors}
use Rattle.dvb_tables.specs.Descriptors.{network_name_descriptor, service_descriptor, short_event_descriptor}

-- 1. Descriptors that texts give, if a description takes these texts

-- a text as it is written, if it has at most this number of bytes then
unfoldable pub coded : ℕ → List ℕ → Option (List ℕ)
coded most text = if nat_le (length (text_bytes text)) most then Some (text_bytes text) else None

-- service_type, provider and name of a service
unfoldable pub given_service : ℕ → List ℕ → List ℕ → Option (List ℕ)
given_service service_type provider name =
    option_and_then (λ p. option_map (λ n. service_descriptor service_type p n) (coded 100 name)) (coded 100 provider)

-- the name of a network
unfoldable pub given_network : List ℕ → Option (List ℕ)
given_network name = option_map network_name_descriptor (coded 200 name)

-- language, name and text of an event; a language has three letters
unfoldable pub given_event : List ℕ → List ℕ → List ℕ → Option (List ℕ)
given_event language name text =
    option_and_then (λ l. option_and_then (λ n. option_map (λ t. short_event_descriptor l n t) (coded 150 text)) (coded 100 name)) (language_of language)

-- whether they are exactly these descriptors
unfoldable pub is_loop : List ℕ → Option (List ℕ) → Bool
is_loop descriptors None = false
is_loop descriptors (Some given) = bytes_eq descriptors given

-- 2. Descriptors that a description has as they are

-- whole descriptors, and at most this number of bytes
unfoldable pub can_be_kept : ℕ → List ℕ → Bool
can_be_kept most descriptors = nat_le (length descriptors) most && are_whole_descriptors descriptors

-- if texts do not give them
unfoldable pub kept_loop : ℕ → Option (List ℕ) → List ℕ → Option (List ℕ)
kept_loop most given descriptors = if not (is_loop descriptors given) && can_be_kept most descriptors then Some descriptors else None
