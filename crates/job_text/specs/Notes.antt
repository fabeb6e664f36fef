-- The comments of TOML that explain numbers to people.
use Rattle.std.specs.Prelude.{ℕ, pos, ◌*◌, ◌/◌, ◌%◌, ◌==◌, ◌&&◌, nat_le, nat_lt, not, Bool, if◌then◌else◌, List, [], ◌∷◌, ◌++◌, length, bytes_eq, codes, decimal}
use Rattle.std.specs.List.{list_all, list_any}
use Rattle.toml.specs.Data.{Data, integer}
use Rattle.job_text.specs.declared.measure.Measure.{Measure}
use Rattle.job_text.specs.declared.measure.Measure.TheVariants.{Plain, Ticks, Clock, BitRate, Bytes, Milliseconds, Seconds, ServiceType}
use Rattle.stream_coding.specs.declared.profiles.ProfileLevel.{ProfileLevel}
use Rattle.job_text.specs.ProfileWords.{said_words}

-- 1. The measure of each key; a key has the same measure in each table

abbrev pub is_among : List (List ℕ) → List ℕ → Bool
is_among names key = list_any (λ name. bytes_eq name key) names

abbrev pub tick_keys : List (List ℕ)
tick_keys = codes "frame" ∷ codes "frame_rest" ∷ codes "interval" ∷ codes "lead" ∷ codes "pts_limit" ∷ []

abbrev pub bit_rate_keys : List (List ℕ)
bit_rate_keys = codes "pace" ∷ codes "rate" ∷ codes "rbx" ∷ codes "rx" ∷ []

abbrev pub byte_keys : List (List ℕ)
byte_keys = codes "main" ∷ codes "mb" ∷ codes "size" ∷ []

abbrev pub millisecond_keys : List (List ℕ)
millisecond_keys = codes "limit" ∷ codes "pcr_limit" ∷ []

unfoldable pub measure_of : List ℕ → Measure
measure_of key =
    if is_among tick_keys key then Ticks
    else if is_among bit_rate_keys key then BitRate
    else if is_among byte_keys key then Bytes
    else if is_among millisecond_keys key then Milliseconds
    else if is_among (codes "service_type" ∷ []) key then ServiceType
    else if is_among (codes "base0" ∷ []) key then Clock
    else if is_among (codes "duration" ∷ []) key then Seconds
    else Plain

-- 2. Numbers: their digits in groups of three; fractions in thousandths, rounded down

unfoldable pub group : ℕ → List ℕ
group n = codes "," ++ (decimal (n / 100 % 10) ++ (decimal (n / 10 % 10) ++ decimal (n % 10)))

unfoldable pub grouped : ℕ → List ℕ
grouped n =
    if nat_lt n 1_000 then decimal n
    else if nat_lt n 1_000_000 then decimal (n / 1_000) ++ group n
    else if nat_lt n 1_000_000_000 then decimal (n / 1_000_000) ++ (group (n / 1_000) ++ group n)
    else decimal (n / 1_000_000_000) ++ (group (n / 1_000_000) ++ (group (n / 1_000) ++ group n))

unfoldable pub thousandths : ℕ → List ℕ
thousandths n = if n == 0 then [] else codes "." ++ (decimal (n / 100 % 10) ++ (decimal (n / 10 % 10) ++ decimal (n % 10)))

unfoldable pub quotient : ℕ → ℕ → List ℕ
quotient whole n = grouped (n / whole) ++ thousandths (n % whole * 1_000 / whole)

unfoldable pub two_digits : ℕ → List ℕ
two_digits n = decimal (n / 10 % 10) ++ decimal (n % 10)

-- 3. Names: of stream_type (ISO/IEC 13818-1, table 2-34), of service_type (EN 300 468, table 87)

unfoldable pub stream_type_name : ℕ → List ℕ
stream_type_name n =
    if n == 1 then codes "MPEG-1 video"
    else if n == 2 then codes "MPEG-2 video"
    else if n == 3 then codes "MPEG-1 audio"
    else if n == 4 then codes "MPEG-2 audio"
    else if n == 6 then codes "private data: its descriptors say which"
    else if n == 15 then codes "AAC audio, ADTS"
    else if n == 17 then codes "AAC audio, LATM"
    else if n == 21 then codes "metadata"
    else if n == 27 then codes "H.264 video"
    else if n == 33 then codes "JPEG 2000 video"
    else if n == 36 then codes "H.265 video"
    else if n == 129 then codes "AC-3 audio"
    else if n == 135 then codes "Enhanced AC-3 audio"
    else []

unfoldable pub service_type_name : ℕ → List ℕ
service_type_name n =
    if n == 1 then codes "digital television"
    else if n == 2 then codes "digital radio"
    else if n == 3 then codes "teletext"
    else if n == 10 then codes "digital radio, advanced codec"
    else if n == 12 then codes "data broadcast"
    else if n == 17 then codes "digital television, MPEG-2 HD"
    else if n == 22 then codes "digital television, H.264 SD"
    else if n == 25 then codes "digital television, H.264 HD"
    else if n == 31 then codes "digital television, H.265"
    else []

-- 4. The comment

-- its bytes: printable ASCII
abbrev pub is_shown : ℕ → Bool
is_shown c = nat_le 32 c && nat_le c 126

abbrev pub note : List ℕ → List ℕ
note words = codes " # " ++ words

unfoldable pub note_if_any : List ℕ → List ℕ
note_if_any words = if length words == 0 then [] else note words

abbrev pub number_note : Measure → ℕ → List ℕ
number_note Plain n = []
number_note Ticks n = note (quotient 90 n ++ codes " ms")
number_note Clock n = note (quotient 90_000 n ++ codes " s")
number_note BitRate n = note (grouped n ++ codes " bits/s")
number_note Bytes n = note (grouped n ++ codes " bytes")
number_note Milliseconds n = note (codes "ms")
number_note Seconds n = note (decimal (n / 3_600) ++ (codes ":" ++ (two_digits (n / 60 % 60) ++ (codes ":" ++ two_digits (n % 60)))))
number_note ServiceType n = note_if_any (service_type_name n)

-- beside a stream_type that has a name: its name, and the profile and level in the stream's headers
unfoldable pub type_note : ℕ → ProfileLevel → List ℕ
type_note n said = if length (stream_type_name n) == 0 then [] else note (stream_type_name n ++ said_words said)

-- a byte of a name in a comment: TOML allows no control character there, and any other character of UTF-8
abbrev pub is_named : ℕ → Bool
is_named c = nat_le 32 c && not (c == 127)

-- beside descriptors: the name in them, if it has one without control characters
unfoldable pub name_note : List ℕ → List ℕ
name_note name = if length name == 0 then [] else (if list_all is_named name then note name else [])

-- a value that is no number has no comment
abbrev pub note_of : List ℕ → Data → List ℕ
note_of key (integer (pos n)) = number_note (measure_of key) n
note_of key _ = []
