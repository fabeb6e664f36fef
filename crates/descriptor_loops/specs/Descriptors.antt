-- The descriptors of a loop (ISO/IEC 13818-1, 2.6): a tag, the number of the bytes after it, and these bytes.
use Rattle.std.specs.Prelude.{ℕ, zero, suc, ◌/◌, ◌%◌, ◌==◌, ◌||◌, ◌&&◌, nat_lt, Bool, false, if◌then◌else◌, List, [], ◌∷◌, length, take, drop, flat_map, Option}
use Rattle.std.specs.Prelude.{Some, None}
use Rattle.std.specs.Option.{option_map_or}
use Rattle.std.specs.List.{list_any}
use Rattle.descriptor_loops.specs.declared.descriptors.Descriptor.{Descriptor}
use Rattle.descriptor_loops.specs.declared.descriptors.Descriptors.{Descriptors}

pub record DescriptorView : Type 0 where
  pub tag : ℕ
  pub size : ℕ
  pub body : List ℕ

abbrev pub descriptor_view : Descriptor → DescriptorView
descriptor_view d = record { tag = d.tag; size = d.size; body = d.body.now }

-- the descriptor at the front, and what follows it; none if it is not complete
unfoldable pub first_descriptor : List ℕ → Option (DescriptorView × List ℕ)
first_descriptor [] = None
first_descriptor (tag ∷ []) = None
first_descriptor (tag ∷ size ∷ rest) =
    if nat_lt (length rest) size then None else Some (record { tag = tag; size = size; body = take size rest }, drop size rest)

-- at most n descriptors, up to the first incomplete descriptor
unfoldable pub descriptors_from : ℕ → List ℕ → List DescriptorView
descriptors_from zero bytes = []
descriptors_from (suc n) bytes = option_map_or (λ p. p.0 ∷ descriptors_from n p.1) (first_descriptor bytes) []

-- the complete descriptors, up to the first incomplete descriptor
unfoldable pub descriptors_in : List ℕ → List DescriptorView
descriptors_in bytes = descriptors_from (length bytes) bytes

unfoldable pub descriptors_of : Descriptors → List DescriptorView
descriptors_of d = descriptors_in d.bytes.now

-- a descriptor has a tag
unfoldable pub is_tagged : ℕ → DescriptorView → Bool
is_tagged tag d = d.tag == tag

unfoldable pub has_tag : ℕ → List ℕ → Bool
has_tag tag bytes = list_any (is_tagged tag) (descriptors_in bytes)

-- a CA descriptor (2.6.16)
unfoldable pub is_ca : DescriptorView → Bool
is_ca d = is_tagged 9 d

unfoldable pub has_ca : List ℕ → Bool
has_ca bytes = has_tag 9 bytes

-- 2. Descriptors of a multiplex: their rates and buffers apply to the multiplex that contains them, and to no other

-- an STD_descriptor (2.6.32): if leak_valid_flag, the last bit of its byte, is 0, bytes go from the multiplexing buffer into the
-- elementary stream buffer at the times that vbv_delay says
unfoldable pub is_by_vbv_delay : List ℕ → Bool
is_by_vbv_delay [] = false
is_by_vbv_delay (b ∷ rest) = b % 2 == 0

-- an AVC_timing_and_HRD_descriptor (2.6.66): if hrd_management_valid_flag, its first bit, is 1, they go at the times of the HRD
unfoldable pub is_by_hrd : List ℕ → Bool
is_by_hrd [] = false
is_by_hrd (b ∷ rest) = b / 128 == 1

-- an HEVC_timing_and_HRD_descriptor (2.6.97): an extension descriptor whose descriptor_tag_extension is 3; its hrd_management_valid_flag, the
-- first bit after the extension, says the same
unfoldable pub is_by_hevc_hrd : List ℕ → Bool
is_by_hevc_hrd [] = false
is_by_hevc_hrd (extension ∷ []) = false
is_by_hevc_hrd (extension ∷ b ∷ rest) = extension == 3 && b / 128 == 1

-- these three; multiplex_buffer_utilization_descriptor (2.6.22), maximum_bitrate_descriptor (2.6.26), smoothing_buffer_descriptor (2.6.30)
unfoldable pub is_of_multiplex : DescriptorView → Bool
is_of_multiplex d =
    d.tag == 12 || d.tag == 14 || d.tag == 16 || (d.tag == 17 && is_by_vbv_delay d.body) || (d.tag == 42 && is_by_hrd d.body)
    || (d.tag == 63 && is_by_hevc_hrd d.body)

unfoldable pub has_of_multiplex : List ℕ → Bool
has_of_multiplex bytes = list_any is_of_multiplex (descriptors_in bytes)

-- 3. The bytes that are kept of a loop

-- a descriptor's bytes; none for a descriptor of conditional access or of a multiplex
unfoldable pub kept_bytes : DescriptorView → List ℕ
kept_bytes d = if is_ca d || is_of_multiplex d then [] else d.tag ∷ d.size ∷ d.body

-- the complete descriptors of a loop without these descriptors
unfoldable pub kept_descriptors : List ℕ → List ℕ
kept_descriptors bytes = flat_map kept_bytes (descriptors_in bytes)
