-- The words for the profile and level in the headers of a stream are printable ASCII.
use Rattle.std.proofs.Common.{◌≡◌, ℕ, ◌+◌, ◌*◌, ◌/◌, ◌%◌, ◌==◌, nat_lt, List, [], ◌++◌, if◌then◌else◌, length, codes, decimal, refl}
use Rattle.std.proofs.lemmas.Bool.{cond_both}
use Rattle.stream_coding.specs.declared.profiles.ProfileLevel.{ProfileLevel}
use Rattle.stream_coding.specs.declared.profiles.ProfileLevel.TheVariants.{Unsaid, Mpeg, Avc, Hevc, Aac}
use Rattle.job_text.specs.ProfileWords.{joined, tenth, level_words, mpeg_profile_name, mpeg_level_name, mpeg_words, avc_profile_name, avc_level_words}
use Rattle.job_text.specs.ProfileWords.{range_profile_name, hevc_profile_name, tier_lead, aac_profile_name, channels_name, avc_words, hevc_words, aac_words}
use Rattle.job_text.specs.ProfileWords.{said_words}
use Rattle.job_text.proofs.ShownTexts.{Shown, shown_both, decimal_shown}

joined_shown : (lead name : List ℕ) → Shown lead → Shown name → Shown (joined lead name)
unfolding joined
joined_shown lead name a b = cond_both (length name == 0) [] (lead ++ name) Shown (λ _. refl) (λ _. shown_both lead name a b)

tenth_shown : (n : ℕ) → Shown (tenth n)
unfolding tenth
tenth_shown n = cond_both (n == 0) [] (codes "." ++ decimal n) Shown (λ _. refl) (λ _. shown_both (codes ".") (decimal n) refl (decimal_shown n))

level_shown : (lead : List ℕ) (n : ℕ) → Shown lead → Shown (level_words lead n)
unfolding level_words
level_shown lead n h =
    let number = decimal (n / 10) ++ tenth (n % 10) in
    cond_both (n == 0) [] (lead ++ number) Shown (λ _. refl)
    (λ _. shown_both lead number h (shown_both (decimal (n / 10)) (tenth (n % 10)) (decimal_shown (n / 10)) (tenth_shown (n % 10))))

mpeg_profile_shown : (n : ℕ) → Shown (mpeg_profile_name n)
unfolding mpeg_profile_name
mpeg_profile_shown n =
    cond_both (n == 1) (codes "High profile") _ Shown (λ _. refl) (λ _.
    cond_both (n == 2) (codes "Spatially Scalable profile") _ Shown (λ _. refl) (λ _.
    cond_both (n == 3) (codes "SNR Scalable profile") _ Shown (λ _. refl) (λ _.
    cond_both (n == 4) (codes "Main profile") _ Shown (λ _. refl) (λ _.
    cond_both (n == 5) (codes "Simple profile") _ Shown (λ _. refl) (λ _. refl)))))

mpeg_level_shown : (n : ℕ) → Shown (mpeg_level_name n)
unfolding mpeg_level_name
mpeg_level_shown n =
    cond_both (n == 4) (codes "High level") _ Shown (λ _. refl) (λ _.
    cond_both (n == 6) (codes "High 1440 level") _ Shown (λ _. refl) (λ _.
    cond_both (n == 8) (codes "Main level") _ Shown (λ _. refl) (λ _.
    cond_both (n == 10) (codes "Low level") _ Shown (λ _. refl) (λ _. refl))))

mpeg_shown : (n : ℕ) → Shown (mpeg_words n)
unfolding mpeg_words
mpeg_shown n =
    let profile = joined (codes ", ") (mpeg_profile_name (n / 16)) in
    let level = joined (codes " at ") (mpeg_level_name (n % 16)) in
    let profile_is = joined_shown (codes ", ") (mpeg_profile_name (n / 16)) refl (mpeg_profile_shown (n / 16)) in
    let level_is = joined_shown (codes " at ") (mpeg_level_name (n % 16)) refl (mpeg_level_shown (n % 16)) in
    cond_both (n == 0x82) (codes ", 4:2:2 profile at High level") _ Shown (λ _. refl) (λ _.
    cond_both (n == 0x85) (codes ", 4:2:2 profile at Main level") _ Shown (λ _. refl) (λ _.
    cond_both (nat_lt n 128) (profile ++ level) _ Shown (λ _. shown_both profile level profile_is level_is) (λ _. refl)))

avc_profile_shown : (p f : ℕ) → Shown (avc_profile_name p f)
unfolding avc_profile_name
avc_profile_shown p f =
    cond_both (p == 44) (codes "CAVLC 4:4:4 Intra profile") _ Shown (λ _. refl) (λ _.
    cond_both (p == 66) _ _ Shown (λ _.
    cond_both (f / 64 % 2 == 1) (codes "Constrained Baseline profile") (codes "Baseline profile") Shown (λ _. refl) (λ _. refl)) (λ _.
    cond_both (p == 77) (codes "Main profile") _ Shown (λ _. refl) (λ _.
    cond_both (p == 88) (codes "Extended profile") _ Shown (λ _. refl) (λ _.
    cond_both (p == 100) _ _ Shown (λ _.
    cond_both (f / 4 % 4 == 3) (codes "Constrained High profile") _ Shown (λ _. refl) (λ _.
    cond_both (f / 4 % 4 == 2) (codes "Progressive High profile") (codes "High profile") Shown (λ _. refl) (λ _. refl))) (λ _.
    cond_both (p == 110) _ _ Shown (λ _.
    cond_both (f / 16 % 2 == 1) (codes "High 10 Intra profile") (codes "High 10 profile") Shown (λ _. refl) (λ _. refl)) (λ _.
    cond_both (p == 122) _ _ Shown (λ _.
    cond_both (f / 16 % 2 == 1) (codes "High 4:2:2 Intra profile") (codes "High 4:2:2 profile") Shown (λ _. refl) (λ _. refl)) (λ _.
    cond_both (p == 244) _ _ Shown (λ _.
    cond_both (f / 16 % 2 == 1) (codes "High 4:4:4 Intra profile") (codes "High 4:4:4 Predictive profile") Shown (λ _. refl) (λ _. refl))
    (λ _. refl))))))))

avc_level_shown : (n : ℕ) → Shown (avc_level_words n)
unfolding avc_level_words
avc_level_shown n =
    cond_both (n == 9) (codes ", level 1b") (level_words (codes ", level ") n) Shown (λ _. refl) (λ _. level_shown (codes ", level ") n refl)

avc_shown : (p f n : ℕ) → Shown (avc_words p f n)
unfolding avc_words
avc_shown p f n =
    shown_both (joined (codes ", ") (avc_profile_name p f)) (avc_level_words n)
    (joined_shown (codes ", ") (avc_profile_name p f) refl (avc_profile_shown p f)) (avc_level_shown n)

range_shown : (n : ℕ) → Shown (range_profile_name n)
unfolding range_profile_name
range_shown n =
    cond_both (n == 64) (codes "Main 4:4:4 12 profile") _ Shown (λ _. refl) (λ _.
    cond_both (n == 72) (codes "Main 4:2:2 12 profile") _ Shown (λ _. refl) (λ _.
    cond_both (n == 76) (codes "Main 12 profile") _ Shown (λ _. refl) (λ _.
    cond_both (n == 96) (codes "Main 4:4:4 10 profile") _ Shown (λ _. refl) (λ _.
    cond_both (n == 104) (codes "Main 4:2:2 10 profile") _ Shown (λ _. refl) (λ _.
    cond_both (n == 105) (codes "Main 4:2:2 10 Intra profile") _ Shown (λ _. refl) (λ _.
    cond_both (n == 112) (codes "Main 4:4:4 profile") _ Shown (λ _. refl) (λ _. refl)))))))

hevc_profile_shown : (p f : ℕ) → Shown (hevc_profile_name p f)
unfolding hevc_profile_name
hevc_profile_shown p f =
    cond_both (p == 1) (codes "Main profile") _ Shown (λ _. refl) (λ _.
    cond_both (p == 2) (codes "Main 10 profile") _ Shown (λ _. refl) (λ _.
    cond_both (p == 3) (codes "Main Still Picture profile") _ Shown (λ _. refl) (λ _.
    cond_both (p == 4) (range_profile_name f) [] Shown (λ _. range_shown f) (λ _. refl))))

tier_shown : (p : ℕ) → Shown (tier_lead p)
unfolding tier_lead
tier_shown p = cond_both (p / 32 % 2 == 1) (codes ", High tier, level ") (codes ", Main tier, level ") Shown (λ _. refl) (λ _. refl)

hevc_shown : (p d f n : ℕ) → Shown (hevc_words p d f n)
unfolding hevc_words
hevc_shown p d f n =
    let name = hevc_profile_name (if nat_lt p 64 then p % 32 else 0) (d % 16 * 8 + f / 32) in
    let tenths = if n % 3 == 0 then n / 3 else 0 in
    let name_is = hevc_profile_shown (if nat_lt p 64 then p % 32 else 0) (d % 16 * 8 + f / 32) in
    shown_both (joined (codes ", ") name) (level_words (tier_lead p) tenths)
    (joined_shown (codes ", ") name refl name_is) (level_shown (tier_lead p) tenths (tier_shown p))

aac_profile_shown : (n : ℕ) → Shown (aac_profile_name n)
unfolding aac_profile_name
aac_profile_shown n =
    cond_both (n == 1) (codes "Main profile") _ Shown (λ _. refl) (λ _.
    cond_both (n == 2) (codes "LC profile") _ Shown (λ _. refl) (λ _.
    cond_both (n == 3) (codes "SSR profile") _ Shown (λ _. refl) (λ _. refl)))

channels_shown : (n : ℕ) → Shown (channels_name n)
unfolding channels_name
channels_shown n =
    cond_both (n == 1) (codes "1 channel") _ Shown (λ _. refl) (λ _.
    cond_both (n == 2) (codes "2 channels") _ Shown (λ _. refl) (λ _.
    cond_both (n == 3) (codes "3 channels") _ Shown (λ _. refl) (λ _.
    cond_both (n == 4) (codes "4 channels") _ Shown (λ _. refl) (λ _.
    cond_both (n == 5) (codes "5 channels") _ Shown (λ _. refl) (λ _.
    cond_both (n == 6) (codes "5.1 channels") _ Shown (λ _. refl) (λ _.
    cond_both (n == 7) (codes "7.1 channels") _ Shown (λ _. refl) (λ _. refl)))))))

aac_shown : (o c : ℕ) → Shown (aac_words o c)
unfolding aac_words
aac_shown o c =
    shown_both (joined (codes ", ") (aac_profile_name o)) (joined (codes ", ") (channels_name c))
    (joined_shown (codes ", ") (aac_profile_name o) refl (aac_profile_shown o)) (joined_shown (codes ", ") (channels_name c) refl (channels_shown c))

pub said_shown : (said : ProfileLevel) → Shown (said_words said)
said_shown Unsaid = refl
said_shown (Mpeg indication) = mpeg_shown indication
said_shown (Avc profile flags level) = avc_shown profile flags level
said_shown (Hevc profile depths formats level) = hevc_shown profile depths formats level
said_shown (Aac object_type channels) = aac_shown object_type channels
