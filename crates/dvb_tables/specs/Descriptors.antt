-- Descriptors (ISO/IEC 13818-1, 2.6, and EN 300 468, 6.2).
use Rattle.std.specs.Prelude.{ℕ, List, [], ◌∷◌, ◌++◌, length}

-- a descriptor: its tag, the number of bytes after it, and these bytes
abbrev pub descriptor : ℕ → List ℕ → List ℕ
descriptor tag body = tag ∷ length body ∷ body

-- a text with the number of its bytes before it
abbrev pub length_prefixed : List ℕ → List ℕ
length_prefixed text = length text ∷ text

-- ISO_639_language_descriptor of one language (ISO/IEC 13818-1, 2.6.18)
unfoldable pub iso_639_language_descriptor : List ℕ → ℕ → List ℕ
iso_639_language_descriptor language audio_type = descriptor 0x0A (language ++ audio_type ∷ [])

-- network_name_descriptor (EN 300 468, 6.2.28)
unfoldable pub network_name_descriptor : List ℕ → List ℕ
network_name_descriptor name = descriptor 0x40 name

-- service_descriptor (EN 300 468, 6.2.34)
unfoldable pub service_descriptor : ℕ → List ℕ → List ℕ → List ℕ
service_descriptor service_type provider name = descriptor 0x48 ((service_type ∷ length_prefixed provider) ++ length_prefixed name)

-- short_event_descriptor (EN 300 468, 6.2.38)
unfoldable pub short_event_descriptor : List ℕ → List ℕ → List ℕ → List ℕ
short_event_descriptor language name text = descriptor 0x4D ((language ++ length_prefixed name) ++ length_prefixed text)

-- stream_identifier_descriptor (EN 300 468, 6.2.40)
unfoldable pub stream_identifier_descriptor : ℕ → List ℕ
stream_identifier_descriptor component_tag = descriptor 0x52 (component_tag ∷ [])
