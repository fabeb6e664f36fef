-- The longest time that a byte may stay in a decoder before it is decoded (ISO/IEC 13818-1, 2.4.2.6; 2.14.3.1 and 2.17.2 of ISO/IEC 14496-10
-- and 23008-2 video).
use Rattle.std.specs.Prelude.{ℕ, ◌/◌, ◌%◌, ◌==◌, ◌&&◌, ◌||◌, Bool, true, false, if◌then◌else◌, Option, Some, None, List, slice_get}
use Rattle.std.specs.List.{list_any}
use Rattle.descriptor_loops.specs.Descriptors.{DescriptorView, descriptors_in}
use Rattle.stream_coding.specs.Codings.{is_ac3}

-- a bit of a byte, if there is the byte
unfoldable pub has_bit : Option ℕ → ℕ → Bool
has_bit None unit = false
has_bit (Some byte) unit = byte / unit % 2 == 1

-- still_picture_flag of a video_stream_descriptor (2.6.2), AVC_still_present of an AVC_video_descriptor (2.6.64), HEVC_still_present_flag of
-- an HEVC_video_descriptor (2.6.95)
unfoldable pub names_stills : DescriptorView → Bool
names_stills d =
    (d.tag == 2 && has_bit (slice_get d.body 0) 1) || (d.tag == 40 && has_bit (slice_get d.body 3) 128) || (d.tag == 56 && has_bit (slice_get d.body 12) 64)

abbrev pub has_stills : List ℕ → Bool
has_stills descriptors = list_any names_stills (descriptors_in descriptors)

-- video of ISO/IEC 11172-2 and 13818-2, and video of ISO/IEC 14496-2, 14496-10 and 23008-2
unfoldable pub is_mpeg_video : ℕ → Bool
is_mpeg_video stream_type = stream_type == 0x01 || stream_type == 0x02

unfoldable pub is_later_video : ℕ → Bool
is_later_video stream_type = stream_type == 0x10 || stream_type == 0x1B || stream_type == 0x24

-- in seconds: 60 of still pictures, 10 of other such video and of sound of ISO/IEC 14496-3, 1 of other video and sound; none of other data is
-- said, and no byte may stay longer than 60
unfoldable pub longest_stay : ℕ → List ℕ → ℕ
longest_stay stream_type descriptors =
    if is_mpeg_video stream_type then (if has_stills descriptors then 60 else 1)
    else (if is_later_video stream_type then (if has_stills descriptors then 60 else 10)
    else (if stream_type == 0x11 || stream_type == 0x1C then 10
    else (if stream_type == 0x03 || stream_type == 0x04 || stream_type == 0x0F || is_ac3 stream_type descriptors then 1
    else 60)))
