-- The profile and the level in the headers of a stream, in words.
use Rattle.std.specs.Prelude.{ℕ, ◌+◌, ◌*◌, ◌/◌, ◌%◌, ◌==◌, nat_lt, if◌then◌else◌, List, [], ◌++◌, length, codes, decimal}
use Rattle.stream_coding.specs.declared.profiles.ProfileLevel.{ProfileLevel}
use Rattle.stream_coding.specs.declared.profiles.ProfileLevel.TheVariants.{Unsaid, Mpeg, Avc, Hevc, Aac}

-- a name after its lead, if there is one
unfoldable pub joined : List ℕ → List ℕ → List ℕ
joined lead name = if length name == 0 then [] else lead ++ name

-- a level by its tenths, if it is not 0
unfoldable pub tenth : ℕ → List ℕ
tenth n = if n == 0 then [] else codes "." ++ decimal n

unfoldable pub level_words : List ℕ → ℕ → List ℕ
level_words lead tenths = if tenths == 0 then [] else lead ++ (decimal (tenths / 10) ++ tenth (tenths % 10))

-- 1. ISO/IEC 13818-2, 8.1: the escape bit, three bits of the profile (table 8-2), four of the level (table 8-3); with the escape bit table 8-4

unfoldable pub mpeg_profile_name : ℕ → List ℕ
mpeg_profile_name n =
    if n == 1 then codes "High profile"
    else if n == 2 then codes "Spatially Scalable profile"
    else if n == 3 then codes "SNR Scalable profile"
    else if n == 4 then codes "Main profile"
    else if n == 5 then codes "Simple profile"
    else []

unfoldable pub mpeg_level_name : ℕ → List ℕ
mpeg_level_name n =
    if n == 4 then codes "High level"
    else if n == 6 then codes "High 1440 level"
    else if n == 8 then codes "Main level"
    else if n == 10 then codes "Low level"
    else []

unfoldable pub mpeg_words : ℕ → List ℕ
mpeg_words n =
    if n == 0x82 then codes ", 4:2:2 profile at High level"
    else if n == 0x85 then codes ", 4:2:2 profile at Main level"
    else if nat_lt n 128 then joined (codes ", ") (mpeg_profile_name (n / 16)) ++ joined (codes " at ") (mpeg_level_name (n % 16))
    else []

-- 2. ISO/IEC 14496-10, A.2: profile_idc, and the flags of sets 0 to 5 in the first six bits; A.3: level_idc is ten times the level, 9 for
-- level 1b

unfoldable pub avc_profile_name : ℕ → ℕ → List ℕ
avc_profile_name profile flags =
    if profile == 44 then codes "CAVLC 4:4:4 Intra profile"
    else if profile == 66 then (if flags / 64 % 2 == 1 then codes "Constrained Baseline profile" else codes "Baseline profile")
    else if profile == 77 then codes "Main profile"
    else if profile == 88 then codes "Extended profile"
    else if profile == 100
    then (if flags / 4 % 4 == 3 then codes "Constrained High profile"
    else if flags / 4 % 4 == 2 then codes "Progressive High profile"
    else codes "High profile")
    else if profile == 110 then (if flags / 16 % 2 == 1 then codes "High 10 Intra profile" else codes "High 10 profile")
    else if profile == 122 then (if flags / 16 % 2 == 1 then codes "High 4:2:2 Intra profile" else codes "High 4:2:2 profile")
    else if profile == 244 then (if flags / 16 % 2 == 1 then codes "High 4:4:4 Intra profile" else codes "High 4:4:4 Predictive profile")
    else []

unfoldable pub avc_level_words : ℕ → List ℕ
avc_level_words level = if level == 9 then codes ", level 1b" else level_words (codes ", level ") level

-- 3. ISO/IEC 23008-2, A.3: general_profile_idc, in a general_profile_space of 0; of the format range extensions by the flags of table A.2:
-- 12, 10 and 8 bits, 4:2:2, 4:2:0, monochrome, intra. A.4: general_level_idc is thirty times the level

unfoldable pub range_profile_name : ℕ → List ℕ
range_profile_name flags =
    if flags == 64 then codes "Main 4:4:4 12 profile"
    else if flags == 72 then codes "Main 4:2:2 12 profile"
    else if flags == 76 then codes "Main 12 profile"
    else if flags == 96 then codes "Main 4:4:4 10 profile"
    else if flags == 104 then codes "Main 4:2:2 10 profile"
    else if flags == 105 then codes "Main 4:2:2 10 Intra profile"
    else if flags == 112 then codes "Main 4:4:4 profile"
    else codes "format range extensions"

unfoldable pub hevc_profile_name : ℕ → ℕ → List ℕ
hevc_profile_name profile flags =
    if profile == 1 then codes "Main profile"
    else if profile == 2 then codes "Main 10 profile"
    else if profile == 3 then codes "Main Still Picture profile"
    else if profile == 4 then range_profile_name flags
    else []

unfoldable pub tier_lead : ℕ → List ℕ
tier_lead profile = if profile / 32 % 2 == 1 then codes ", High tier, level " else codes ", Main tier, level "

-- 4. ISO/IEC 13818-7, 6.2: profile, which is the audio object type less 1; channel_configuration by table 42

unfoldable pub aac_profile_name : ℕ → List ℕ
aac_profile_name n =
    if n == 1 then codes "Main profile"
    else if n == 2 then codes "LC profile"
    else if n == 3 then codes "SSR profile"
    else []

unfoldable pub channels_name : ℕ → List ℕ
channels_name n =
    if n == 1 then codes "1 channel"
    else if n == 2 then codes "2 channels"
    else if n == 3 then codes "3 channels"
    else if n == 4 then codes "4 channels"
    else if n == 5 then codes "5 channels"
    else if n == 6 then codes "5.1 channels"
    else if n == 7 then codes "7.1 channels"
    else []

-- 5. Words after the name of a stream_type

unfoldable pub avc_words : ℕ → ℕ → ℕ → List ℕ
avc_words profile flags level = joined (codes ", ") (avc_profile_name profile flags) ++ avc_level_words level

unfoldable pub hevc_words : ℕ → ℕ → ℕ → ℕ → List ℕ
hevc_words profile depths formats level =
    joined (codes ", ") (hevc_profile_name (if nat_lt profile 64 then profile % 32 else 0) (depths % 16 * 8 + formats / 32))
    ++ level_words (tier_lead profile) (if level % 3 == 0 then level / 3 else 0)

unfoldable pub aac_words : ℕ → ℕ → List ℕ
aac_words object_type channels = joined (codes ", ") (aac_profile_name object_type) ++ joined (codes ", ") (channels_name channels)

abbrev pub said_words : ProfileLevel → List ℕ
said_words Unsaid = []
said_words (Mpeg indication) = mpeg_words indication
said_words (Avc profile flags level) = avc_words profile flags level
said_words (Hevc profile depths formats level) = hevc_words profile depths formats level
said_words (Aac object_type channels) = aac_words object_type channels
