-- The header of a frame of sound at the front of bytes: how many bytes the frame has, header and all, and how long it sounds, in units of
-- 90 kHz and rounded up. A time is 0 if an earlier frame says it. No header is found if the bytes begin with none, or if a number in the
-- header is free, reserved or forbidden.
use Rattle.std.specs.Prelude.{ℕ, ◌+◌, ◌*◌, ◌/◌, ◌%◌, ◌==◌, ◌&&◌, ◌||◌, not, nat_le, if◌then◌else◌, Option, Some, None, List, ◌∷◌}
use Rattle.std.specs.Int.{div_ceil}
use Rattle.sound_frames.specs.declared.frame.FrameHeader.{FrameHeader}
use Rattle.sound_frames.specs.declared.frame_headers.FrameKind.{FrameKind}
use Rattle.sound_frames.specs.declared.frame_headers.FrameKind.TheVariants.{Layer, Adts, Loas, Ac3}
use Rattle.stream_coding.specs.Codings.{is_ac3}

-- a frame of `size` bytes and of `samples` samples, at `frequency` samples a second
unfoldable pub sounding : ℕ → ℕ → ℕ → Option FrameHeader
sounding size samples frequency =
    if size == 0 || frequency == 0 then None else Some (record { size = size; time = div_ceil (samples * 90000) frequency })

-- 1. Layers I to III of ISO/IEC 11172-3 (ID 1) and 13818-3 (ID 0), by 2.4.1.3 and 2.4.2.3; layer is 3, 2, 1 for I, II, III

-- kbit/s by bitrate_index, 0 if the rate is free or forbidden: for ID 1 of layers I, II and III, for ID 0 of layer I, and of layers II and III
unfoldable pub first_layer_rate : ℕ → ℕ
first_layer_rate index = if index == 15 then 0 else 32 * index

unfoldable pub second_layer_rate : ℕ → ℕ
second_layer_rate index =
    if index == 1 then 32 else (if index == 2 then 48 else (if index == 3 then 56 else (if index == 4 then 64
    else (if index == 5 then 80 else (if index == 6 then 96 else (if index == 7 then 112 else (if index == 8 then 128
    else (if index == 9 then 160 else (if index == 10 then 192 else (if index == 11 then 224 else (if index == 12 then 256
    else (if index == 13 then 320 else (if index == 14 then 384 else 0)))))))))))))

unfoldable pub third_layer_rate : ℕ → ℕ
third_layer_rate index =
    if index == 1 then 32 else (if index == 2 then 40 else (if index == 3 then 48 else (if index == 4 then 56
    else (if index == 5 then 64 else (if index == 6 then 80 else (if index == 7 then 96 else (if index == 8 then 112
    else (if index == 9 then 128 else (if index == 10 then 160 else (if index == 11 then 192 else (if index == 12 then 224
    else (if index == 13 then 256 else (if index == 14 then 320 else 0)))))))))))))

unfoldable pub low_first_layer_rate : ℕ → ℕ
low_first_layer_rate index =
    if index == 1 then 32 else (if index == 2 then 48 else (if index == 3 then 56 else (if index == 4 then 64
    else (if index == 5 then 80 else (if index == 6 then 96 else (if index == 7 then 112 else (if index == 8 then 128
    else (if index == 9 then 144 else (if index == 10 then 160 else (if index == 11 then 176 else (if index == 12 then 192
    else (if index == 13 then 224 else (if index == 14 then 256 else 0)))))))))))))

unfoldable pub low_layer_rate : ℕ → ℕ
low_layer_rate index =
    if index == 1 then 8 else (if index == 2 then 16 else (if index == 3 then 24 else (if index == 4 then 32
    else (if index == 5 then 40 else (if index == 6 then 48 else (if index == 7 then 56 else (if index == 8 then 64
    else (if index == 9 then 80 else (if index == 10 then 96 else (if index == 11 then 112 else (if index == 12 then 128
    else (if index == 13 then 144 else (if index == 14 then 160 else 0)))))))))))))

unfoldable pub layer_rate : ℕ → ℕ → ℕ → ℕ
layer_rate id layer index =
    if id == 1 then (if layer == 3 then first_layer_rate index else (if layer == 2 then second_layer_rate index else third_layer_rate index))
    else (if layer == 3 then low_first_layer_rate index else low_layer_rate index)

-- samples a second by sampling_frequency; 0 if the code is reserved
unfoldable pub layer_frequency : ℕ → ℕ → ℕ
layer_frequency id code =
    if code == 0 then (if id == 1 then 44100 else 22050)
    else (if code == 1 then (if id == 1 then 48000 else 24000)
    else (if code == 2 then (if id == 1 then 32000 else 16000) else 0))

-- the samples of a frame
unfoldable pub layer_samples : ℕ → ℕ → ℕ
layer_samples id layer = if layer == 3 then 384 else (if id == 0 && layer == 1 then 576 else 1152)

-- the bytes of a frame: slots of four bytes in layer I, of one byte in layers II and III
unfoldable pub layer_size : ℕ → ℕ → ℕ → ℕ → ℕ → ℕ
layer_size id layer rate frequency padding =
    if layer == 3 then (12 * rate / frequency + padding) * 4
    else (if id == 0 && layer == 1 then 72 else 144) * rate / frequency + padding

unfoldable pub layer_frame : ℕ → ℕ → ℕ → ℕ → ℕ → Option FrameHeader
layer_frame id layer rate frequency padding =
    if rate == 0 || frequency == 0 then None
    else sounding (layer_size id layer (1000 * rate) frequency padding) (layer_samples id layer) frequency

-- a syncword of 12 bits, ID, layer in 2, protection_bit; bitrate_index in 4, sampling_frequency in 2, padding_bit, private_bit
unfoldable pub layer_header : List ℕ → Option FrameHeader
layer_header (a ∷ b ∷ c ∷ rest) =
    if a == 0xFF && b / 16 == 15 && not (b / 2 % 4 == 0)
    then layer_frame (b / 8 % 2) (b / 2 % 4) (layer_rate (b / 8 % 2) (b / 2 % 4) (c / 16)) (layer_frequency (b / 8 % 2) (c / 4 % 4)) (c / 2 % 2)
    else None
layer_header _ = None

-- 2. ADTS of ISO/IEC 13818-7 (6.2)

-- samples a second by sampling_frequency_index; 0 if the code is reserved
unfoldable pub aac_frequency : ℕ → ℕ
aac_frequency index =
    if index == 0 then 96000 else (if index == 1 then 88200 else (if index == 2 then 64000 else (if index == 3 then 48000
    else (if index == 4 then 44100 else (if index == 5 then 32000 else (if index == 6 then 24000 else (if index == 7 then 22050
    else (if index == 8 then 16000 else (if index == 9 then 12000 else (if index == 10 then 11025 else (if index == 11 then 8000
    else (if index == 12 then 7350 else 0))))))))))))

-- a syncword of 12 bits, ID, layer 0, protection_absent; profile, sampling_frequency_index in 4 bits from bit 18 on; frame_length in 13 bits
-- from bit 30 on; number_of_raw_data_blocks_in_frame, less one, in the last 2 of 56
unfoldable pub adts_frame : List ℕ → Option FrameHeader
adts_frame (a ∷ b ∷ c ∷ d ∷ e ∷ f ∷ g ∷ rest) =
    if a == 0xFF && b / 16 == 15 && b / 2 % 4 == 0
    then sounding (d % 4 * 2048 + e * 8 + f / 32) (1024 * (g % 4 + 1)) (aac_frequency (c / 4 % 16))
    else None
adts_frame _ = None

-- 3. AudioSyncStream of ISO/IEC 14496-3 (1.7.2): a syncword of 11 bits, and the number of bytes after the 13 bits that say it

-- with useSameStreamMux an earlier frame says the time. Otherwise StreamMuxConfig (1.7.3) follows, here of audioMuxVersion 0: numSubFrames,
-- less one, in 6 bits; after numProgram and numLayer audioObjectType in 5 bits and samplingFrequencyIndex in 4
unfoldable pub loas_config : ℕ → ℕ → ℕ → ℕ → ℕ → Option FrameHeader
loas_config size d e f g =
    if d / 128 == 1 then Some (record { size = size; time = 0 })
    else (if d / 64 == 1 || f / 8 == 31 then None
    else sounding size (1024 * (d % 32 * 2 + e / 128 + 1)) (aac_frequency (f % 8 * 2 + g / 128)))

unfoldable pub loas_frame : List ℕ → Option FrameHeader
loas_frame (a ∷ b ∷ c ∷ d ∷ e ∷ f ∷ g ∷ rest) =
    if a == 0x56 && b / 32 == 7 then loas_config (3 + (b % 32 * 256 + c)) d e f g else None
loas_frame _ = None

-- 4. AC-3 and Enhanced AC-3 (ETSI TS 102 366)

-- samples a second by fscod; 0 if the code is reserved (4.4.1.3)
unfoldable pub ac3_frequency : ℕ → ℕ
ac3_frequency code = if code == 0 then 48000 else (if code == 1 then 44100 else (if code == 2 then 32000 else 0))

-- kbit/s by frmsizecod / 2; 0 if the code is reserved (table 4.13)
unfoldable pub ac3_rate : ℕ → ℕ
ac3_rate code =
    if code == 0 then 32 else (if code == 1 then 40 else (if code == 2 then 48 else (if code == 3 then 56
    else (if code == 4 then 64 else (if code == 5 then 80 else (if code == 6 then 96 else (if code == 7 then 112
    else (if code == 8 then 128 else (if code == 9 then 160 else (if code == 10 then 192 else (if code == 11 then 224
    else (if code == 12 then 256 else (if code == 13 then 320 else (if code == 14 then 384 else (if code == 15 then 448
    else (if code == 16 then 512 else (if code == 17 then 576 else (if code == 18 then 640 else 0))))))))))))))))))

-- the bytes of 1,536 samples, in whole words of two bytes: at 44,100 samples a second one word more if frmsizecod is odd
unfoldable pub ac3_size : ℕ → ℕ → ℕ → ℕ
ac3_size fscod rate odd =
    if rate == 0 then 0
    else (if fscod == 0 then 4 * rate
    else (if fscod == 1 then 2 * (rate * 320 / 147 + odd)
    else 6 * rate))

-- bsid up to 10
unfoldable pub plain_ac3 : ℕ → Option FrameHeader
plain_ac3 e = sounding (ac3_size (e / 64) (ac3_rate (e % 64 / 2)) (e % 2)) 1536 (ac3_frequency (e / 64))

-- Enhanced AC-3 (annex E): samples a second, and blocks of 256 samples, by fscod and the two bits after it
unfoldable pub enhanced_frequency : ℕ → ℕ → ℕ
enhanced_frequency fscod code =
    if fscod == 3 then (if code == 0 then 24000 else (if code == 1 then 22050 else (if code == 2 then 16000 else 0))) else ac3_frequency fscod

unfoldable pub enhanced_blocks : ℕ → ℕ → ℕ
enhanced_blocks fscod code = if fscod == 3 || code == 3 then 6 else code + 1

-- strmtyp in 2 bits, substreamid in 3, frmsiz in 11; no frame is found if the substream is dependent, or belongs to another program
unfoldable pub enhanced_ac3 : ℕ → ℕ → ℕ → Option FrameHeader
enhanced_ac3 c d e =
    if c / 64 == 1 || not (c / 8 % 8 == 0) then None
    else sounding ((c % 8 * 256 + d + 1) * 2) (256 * enhanced_blocks (e / 64) (e / 16 % 4)) (enhanced_frequency (e / 64) (e / 16 % 4))

-- a syncword of 16 bits; bsid in 5 bits from bit 40 on
unfoldable pub ac3_frame : List ℕ → Option FrameHeader
ac3_frame (a ∷ b ∷ c ∷ d ∷ e ∷ f ∷ rest) =
    if a == 0x0B && b == 0x77 then (if nat_le (f / 8) 10 then plain_ac3 e else enhanced_ac3 c d e) else None
ac3_frame _ = None

-- 5. Streams

unfoldable pub frame_header : FrameKind → List ℕ → Option FrameHeader
frame_header Layer bytes = layer_header bytes
frame_header Adts bytes = adts_frame bytes
frame_header Loas bytes = loas_frame bytes
frame_header Ac3 bytes = ac3_frame bytes

-- which frames a stream has, by its entry in the program map (ISO/IEC 13818-1, table 2-34); none if it is no sound of these kinds
unfoldable pub frame_kind : ℕ → List ℕ → Option FrameKind
frame_kind stream_type descriptors =
    if stream_type == 0x03 || stream_type == 0x04 then Some Layer
    else (if stream_type == 0x0F then Some Adts
    else (if stream_type == 0x11 then Some Loas
    else (if is_ac3 stream_type descriptors then Some Ac3 else None)))
