-- The streams of a description's text, read as TOML and then as a description, have the buffers that the text gives them.
use Rattle.std.proofs.Common.{◌≡◌, ℕ, zero, suc, pos, ◌-◌, ◌*◌, ◌&&◌, ◌||◌, Bool, true, false, List, [], ◌∷◌, ◌++◌, length, map, slice_get, Option, Some, None, Result}
use Rattle.std.proofs.Common.{Ok, Err, refl, sym, ap, subst, ◌∙◌, inl, inr, codes, is_some, is_none, unwrap_or, option_map, int_le, All, if◌then◌else◌, ◌==◌, ℤ}
use Rattle.std.proofs.Common.{unsigned_abs, ◌≤◌, not, nat_le, arith}
use Rattle.std.specs.Prelude.{IfSome}
use Rattle.std.proofs.lemmas.Bool.{cases_Bool}
use Rattle.std.proofs.lemmas.Bool.Decides.{nat_tests}
use Rattle.std.proofs.lemmas.List.Elements.{All-head, All-tail}
use Rattle.std.specs.List.{cons_option, flat_map, filter_map, list_all}
use Rattle.toml.specs.Data.{Data, Items, Members, table, integer, array, get, get_member, member}
use Rattle.toml.specs.Parse.{parse_document}
use Rattle.unit_timing.specs.declared.allowance.Allowance.{Allowance}
use Rattle.unit_timing.specs.declared.allowance.Allowance.TheVariants.{Groups, Pace}
use Rattle.unit_timing.specs.declared.framing.FrameDeclaration.{FrameDeclaration}
use Rattle.unit_timing.specs.declared.framing.LastBytes.TheVariants.{Each, Sums}
use Rattle.unit_timing.specs.declared.multiplexing_buffer.MultiplexingBuffer.{MultiplexingBuffer}
use Rattle.description_parts.specs.Described.{Described, DescribedStream}
use Rattle.description_parts.specs.Contents.{described, described_stream}
use Rattle.description.specs.Reading.{description_of, fault}
use Rattle.description_parts.specs.Consistency.{joint_fault}
use Rattle.description_keys.specs.Refusals.{key_fault, streams_of}
use Rattle.description_keys.specs.StreamKeys.{refuses_rbx, refuses_mb, refuses_frames, refuses_frame, refuses_frame_size, stream_multiplexing}
use Rattle.description_keys.specs.StreamKeys.{stream_framing, greatest_rbx, greatest_frame, stream_interval, stream_size, frame_left_of, has_frame_left}
use Rattle.description_keys.specs.StreamKeys.{are_frame_left, bytes_in, other_frames, padded, stream_frame_rest}
use Rattle.description_values.specs.Values.{elements, elements_in, integer_in, list_of}
use Rattle.description_keys.specs.declared.fault.DescFault.{DescFault}
use Rattle.description_keys.specs.declared.fault.DescError.{DescError}
use Rattle.description_keys.specs.declared.fault.DescError.TheVariants.{Refused}
use Rattle.description_parts.proofs.Counts.{no_fault, or_none}
use Rattle.description_parts.proofs.KeyRanges.{integer_at-within}
use Rattle.job_text.specs.DescriptionParts.{EventPartView, FramingPartView, HeadingView, NetworkPartView, ProgramPartView, StreamPartView, TablePartView}
use Rattle.job_text.specs.Documents.{document, elements_of, event_table, network_table, program_table, stream_table, table_table, stream_members, stream_rest}
use Rattle.job_text.specs.Documents.{stream_middle, with_table, with_tables}
use Rattle.job_text.specs.KeyLines.{items_of, number_if_any, with_hex, with_list, with_numbers, with_set}
use Rattle.job_text.specs.Laws.{TextsAreRead, FitsHeading, FitsEvent, FitsNetwork, FitsProgram, FitsStream, FitsTable}
use Rattle.job_text.specs.Texts.{event_text, heading_text, network_if_any, program_text, stream_text, table_text}
use Rattle.laws_job.specs.DeclaredBuffers.{HasBuffersOf, declared_framing}

-- The members of a stream

-- A search for the key `k` passes over a member with the key `key`.
abbrev IsBehind : List ℕ → List ℕ → Type 0
IsBehind key k = (d : Data) (ms : Members) → get_member k (member key d ms) ≡ get_member k ms

past_hex : (key k bytes : List ℕ) (more : Members) → IsBehind key k → get_member k (with_hex key bytes more) ≡ get_member k more
unfolding with_hex
past_hex key k bytes more behind = elim (cases_Bool (length bytes == 0)) [ inl y ↦ rw y refl | inr n ↦ rw n (behind _ more) ]

past_list : (key k : List ℕ) (ns : List ℕ) (more : Members) → IsBehind key k → get_member k (with_list key ns more) ≡ get_member k more
past_list key k [] more behind = refl
past_list key k (n ∷ ns) more behind = behind _ more

past_number : (key k : List ℕ) (n : Option ℕ) (more : Members) → IsBehind key k →
    get_member k (with_numbers (number_if_any key n) more) ≡ get_member k more
past_number key k None more behind = refl
past_number key k (Some n) more behind = behind _ more

past_set : (key k : List ℕ) (b : Bool) (more : Members) → IsBehind key k → get_member k (with_set key b more) ≡ get_member k more
past_set key k false more behind = refl
past_set key k true more behind = behind _ more

past_limit : (k : List ℕ) (l : Option ℕ) (more : Members) → IsBehind (codes "pts_limit") k →
    get_member k (with_numbers (number_if_any (codes "pts_limit") l) more) ≡ get_member k more
past_limit k l more behind = past_number (codes "pts_limit") k l more behind

-- The leak of a stream
abbrev leak_value : Option MultiplexingBuffer → Option Data
leak_value None = None
leak_value (Some m) = Some (integer (pos m.rbx))

middle_leak : (a : Allowance) (m : Option MultiplexingBuffer) (l : Option ℕ) (s : StreamPartView) → get_member (codes "rbx") (stream_middle a m l s) ≡ leak_value m
middle_leak (Groups u p) None l s = past_limit (codes "rbx") l _ (λ d ms. refl) ∙ past_list (codes "shared_with") (codes "rbx") s.shared_with _ (λ d ms. refl)
middle_leak (Groups u p) (Some m) l s = past_limit (codes "rbx") l _ (λ d ms. refl)
middle_leak (Pace u p) None l s = past_limit (codes "rbx") l _ (λ d ms. refl) ∙ past_list (codes "shared_with") (codes "rbx") s.shared_with _ (λ d ms. refl)
middle_leak (Pace u p) (Some m) l s = past_limit (codes "rbx") l _ (λ d ms. refl)

rest_leak : (a : Allowance) (m : Option MultiplexingBuffer) (f : Option FramingPartView) (l : Option ℕ) (s : StreamPartView) →
    get_member (codes "rbx") (stream_rest a m f l s) ≡ leak_value m
rest_leak a m None l s = middle_leak a m l s
rest_leak a m (Some f) l s = past_list (codes "frame_left") (codes "rbx") f.left _ (λ d ms. refl) ∙ middle_leak a m l s

-- A key after the burst and the descriptors of a stream
at_rest : (k : List ℕ) → IsBehind (codes "burst_packets") k → IsBehind (codes "descriptors") k →
    (a : Allowance) (m : Option MultiplexingBuffer) (f : Option FramingPartView) (l : Option ℕ) (s : StreamPartView) →
    get_member k (stream_members a m f l s) ≡ get_member k (stream_rest a m f l s)
at_rest k burst hex (Groups u p) m f l s = past_hex (codes "descriptors") k s.descriptors _ hex
at_rest k burst hex (Pace u p) m f l s = burst _ _ ∙ past_hex (codes "descriptors") k s.descriptors _ hex

pub leak_at : (a : Allowance) (m : Option MultiplexingBuffer) (f : Option FramingPartView) (l : Option ℕ) (s : StreamPartView) →
    get_member (codes "rbx") (stream_members a m f l s) ≡ leak_value m
leak_at a m f l s = at_rest (codes "rbx") (λ d ms. refl) (λ d ms. refl) a m f l s ∙ rest_leak a m f l s

-- The size of the multiplexing buffer of a stream
abbrev size_value : Option MultiplexingBuffer → Option Data
size_value None = None
size_value (Some m) = Some (integer (pos m.size))

middle_size : (a : Allowance) (m : Option MultiplexingBuffer) (l : Option ℕ) (s : StreamPartView) → get_member (codes "mb") (stream_middle a m l s) ≡ size_value m
middle_size (Groups u p) None l s = past_limit (codes "mb") l _ (λ d ms. refl) ∙ past_list (codes "shared_with") (codes "mb") s.shared_with _ (λ d ms. refl)
middle_size (Groups u p) (Some m) l s = refl
middle_size (Pace u p) None l s = past_limit (codes "mb") l _ (λ d ms. refl) ∙ past_list (codes "shared_with") (codes "mb") s.shared_with _ (λ d ms. refl)
middle_size (Pace u p) (Some m) l s = refl

rest_size : (a : Allowance) (m : Option MultiplexingBuffer) (f : Option FramingPartView) (l : Option ℕ) (s : StreamPartView) →
    get_member (codes "mb") (stream_rest a m f l s) ≡ size_value m
rest_size a m None l s = middle_size a m l s
rest_size a m (Some f) l s = past_list (codes "frame_left") (codes "mb") f.left _ (λ d ms. refl) ∙ middle_size a m l s

pub size_at : (a : Allowance) (m : Option MultiplexingBuffer) (f : Option FramingPartView) (l : Option ℕ) (s : StreamPartView) →
    get_member (codes "mb") (stream_members a m f l s) ≡ size_value m
size_at a m f l s = at_rest (codes "mb") (λ d ms. refl) (λ d ms. refl) a m f l s ∙ rest_size a m f l s

-- The number at a key of the access units of a stream
abbrev frame_value : (FramingPartView → ℕ) → Option FramingPartView → Option Data
frame_value of None = None
frame_value of (Some f) = Some (integer (pos (of f)))

-- The sums of their bytes, if there are any
abbrev list_value : List ℕ → Option Data
list_value [] = None
list_value (n ∷ ns) = Some (array (items_of (n ∷ ns)))

abbrev left_value : Option FramingPartView → Option Data
left_value None = None
left_value (Some f) = list_value f.left

middle_frames : (a : Allowance) (m : Option MultiplexingBuffer) (l : Option ℕ) (s : StreamPartView) → get_member (codes "frames") (stream_middle a m l s) ≡ None
middle_frames (Groups u p) None l s = past_limit (codes "frames") l _ (λ d ms. refl) ∙ past_list (codes "shared_with") (codes "frames") s.shared_with _ (λ d ms. refl)
middle_frames (Groups u p) (Some m) l s = past_limit (codes "frames") l _ (λ d ms. refl) ∙ past_list (codes "shared_with") (codes "frames") s.shared_with _ (λ d ms. refl)
middle_frames (Pace u p) None l s = past_limit (codes "frames") l _ (λ d ms. refl) ∙ past_list (codes "shared_with") (codes "frames") s.shared_with _ (λ d ms. refl)
middle_frames (Pace u p) (Some m) l s = past_limit (codes "frames") l _ (λ d ms. refl) ∙ past_list (codes "shared_with") (codes "frames") s.shared_with _ (λ d ms. refl)

rest_frames : (a : Allowance) (m : Option MultiplexingBuffer) (f : Option FramingPartView) (l : Option ℕ) (s : StreamPartView) →
    get_member (codes "frames") (stream_rest a m f l s) ≡ frame_value (λ f. f.frames) f
rest_frames a m None l s = middle_frames a m l s
rest_frames a m (Some f) l s = past_list (codes "frame_left") (codes "frames") f.left _ (λ d ms. refl)

pub frames_at : (a : Allowance) (m : Option MultiplexingBuffer) (f : Option FramingPartView) (l : Option ℕ) (s : StreamPartView) →
    get_member (codes "frames") (stream_members a m f l s) ≡ frame_value (λ f. f.frames) f
frames_at a m f l s = at_rest (codes "frames") (λ d ms. refl) (λ d ms. refl) a m f l s ∙ rest_frames a m f l s

middle_frame : (a : Allowance) (m : Option MultiplexingBuffer) (l : Option ℕ) (s : StreamPartView) → get_member (codes "frame") (stream_middle a m l s) ≡ None
middle_frame (Groups u p) None l s = past_limit (codes "frame") l _ (λ d ms. refl) ∙ past_list (codes "shared_with") (codes "frame") s.shared_with _ (λ d ms. refl)
middle_frame (Groups u p) (Some m) l s = past_limit (codes "frame") l _ (λ d ms. refl) ∙ past_list (codes "shared_with") (codes "frame") s.shared_with _ (λ d ms. refl)
middle_frame (Pace u p) None l s = past_limit (codes "frame") l _ (λ d ms. refl) ∙ past_list (codes "shared_with") (codes "frame") s.shared_with _ (λ d ms. refl)
middle_frame (Pace u p) (Some m) l s = past_limit (codes "frame") l _ (λ d ms. refl) ∙ past_list (codes "shared_with") (codes "frame") s.shared_with _ (λ d ms. refl)

rest_frame : (a : Allowance) (m : Option MultiplexingBuffer) (f : Option FramingPartView) (l : Option ℕ) (s : StreamPartView) →
    get_member (codes "frame") (stream_rest a m f l s) ≡ frame_value (λ f. f.frame) f
rest_frame a m None l s = middle_frame a m l s
rest_frame a m (Some f) l s = refl

pub frame_at : (a : Allowance) (m : Option MultiplexingBuffer) (f : Option FramingPartView) (l : Option ℕ) (s : StreamPartView) →
    get_member (codes "frame") (stream_members a m f l s) ≡ frame_value (λ f. f.frame) f
frame_at a m f l s = at_rest (codes "frame") (λ d ms. refl) (λ d ms. refl) a m f l s ∙ rest_frame a m f l s

middle_frame_rest : (a : Allowance) (m : Option MultiplexingBuffer) (l : Option ℕ) (s : StreamPartView) → get_member (codes "frame_rest") (stream_middle a m l s) ≡ None
middle_frame_rest (Groups u p) None l s = past_limit (codes "frame_rest") l _ (λ d ms. refl) ∙ past_list (codes "shared_with") (codes "frame_rest") s.shared_with _ (λ d ms. refl)
middle_frame_rest (Groups u p) (Some m) l s = past_limit (codes "frame_rest") l _ (λ d ms. refl) ∙ past_list (codes "shared_with") (codes "frame_rest") s.shared_with _ (λ d ms. refl)
middle_frame_rest (Pace u p) None l s = past_limit (codes "frame_rest") l _ (λ d ms. refl) ∙ past_list (codes "shared_with") (codes "frame_rest") s.shared_with _ (λ d ms. refl)
middle_frame_rest (Pace u p) (Some m) l s = past_limit (codes "frame_rest") l _ (λ d ms. refl) ∙ past_list (codes "shared_with") (codes "frame_rest") s.shared_with _ (λ d ms. refl)

rest_frame_rest : (a : Allowance) (m : Option MultiplexingBuffer) (f : Option FramingPartView) (l : Option ℕ) (s : StreamPartView) →
    get_member (codes "frame_rest") (stream_rest a m f l s) ≡ frame_value (λ f. f.rest) f
rest_frame_rest a m None l s = middle_frame_rest a m l s
rest_frame_rest a m (Some f) l s = past_list (codes "frame_left") (codes "frame_rest") f.left _ (λ d ms. refl)

pub frame_rest_at : (a : Allowance) (m : Option MultiplexingBuffer) (f : Option FramingPartView) (l : Option ℕ) (s : StreamPartView) →
    get_member (codes "frame_rest") (stream_members a m f l s) ≡ frame_value (λ f. f.rest) f
frame_rest_at a m f l s = at_rest (codes "frame_rest") (λ d ms. refl) (λ d ms. refl) a m f l s ∙ rest_frame_rest a m f l s

middle_frame_size : (a : Allowance) (m : Option MultiplexingBuffer) (l : Option ℕ) (s : StreamPartView) → get_member (codes "frame_size") (stream_middle a m l s) ≡ None
middle_frame_size (Groups u p) None l s = past_limit (codes "frame_size") l _ (λ d ms. refl) ∙ past_list (codes "shared_with") (codes "frame_size") s.shared_with _ (λ d ms. refl)
middle_frame_size (Groups u p) (Some m) l s = past_limit (codes "frame_size") l _ (λ d ms. refl) ∙ past_list (codes "shared_with") (codes "frame_size") s.shared_with _ (λ d ms. refl)
middle_frame_size (Pace u p) None l s = past_limit (codes "frame_size") l _ (λ d ms. refl) ∙ past_list (codes "shared_with") (codes "frame_size") s.shared_with _ (λ d ms. refl)
middle_frame_size (Pace u p) (Some m) l s = past_limit (codes "frame_size") l _ (λ d ms. refl) ∙ past_list (codes "shared_with") (codes "frame_size") s.shared_with _ (λ d ms. refl)

rest_frame_size : (a : Allowance) (m : Option MultiplexingBuffer) (f : Option FramingPartView) (l : Option ℕ) (s : StreamPartView) →
    get_member (codes "frame_size") (stream_rest a m f l s) ≡ None
rest_frame_size a m None l s = middle_frame_size a m l s
rest_frame_size a m (Some f) l s = past_list (codes "frame_left") (codes "frame_size") f.left _ (λ d ms. refl) ∙ middle_frame_size a m l s

pub frame_size_at : (a : Allowance) (m : Option MultiplexingBuffer) (f : Option FramingPartView) (l : Option ℕ) (s : StreamPartView) →
    get_member (codes "frame_size") (stream_members a m f l s) ≡ None
frame_size_at a m f l s = at_rest (codes "frame_size") (λ d ms. refl) (λ d ms. refl) a m f l s ∙ rest_frame_size a m f l s

middle_frame_left : (a : Allowance) (m : Option MultiplexingBuffer) (l : Option ℕ) (s : StreamPartView) → get_member (codes "frame_left") (stream_middle a m l s) ≡ None
middle_frame_left (Groups u p) None l s = past_limit (codes "frame_left") l _ (λ d ms. refl) ∙ past_list (codes "shared_with") (codes "frame_left") s.shared_with _ (λ d ms. refl)
middle_frame_left (Groups u p) (Some m) l s = past_limit (codes "frame_left") l _ (λ d ms. refl) ∙ past_list (codes "shared_with") (codes "frame_left") s.shared_with _ (λ d ms. refl)
middle_frame_left (Pace u p) None l s = past_limit (codes "frame_left") l _ (λ d ms. refl) ∙ past_list (codes "shared_with") (codes "frame_left") s.shared_with _ (λ d ms. refl)
middle_frame_left (Pace u p) (Some m) l s = past_limit (codes "frame_left") l _ (λ d ms. refl) ∙ past_list (codes "shared_with") (codes "frame_left") s.shared_with _ (λ d ms. refl)

left_found : (ns : List ℕ) (more : Members) → get_member (codes "frame_left") more ≡ None
    → get_member (codes "frame_left") (with_list (codes "frame_left") ns more) ≡ list_value ns
left_found [] more none = none
left_found (n ∷ ns) more none = refl

rest_frame_left : (a : Allowance) (m : Option MultiplexingBuffer) (f : Option FramingPartView) (l : Option ℕ) (s : StreamPartView) →
    get_member (codes "frame_left") (stream_rest a m f l s) ≡ left_value f
rest_frame_left a m None l s = middle_frame_left a m l s
rest_frame_left a m (Some f) l s = left_found f.left _ (middle_frame_left a m l s)

pub frame_left_at : (a : Allowance) (m : Option MultiplexingBuffer) (f : Option FramingPartView) (l : Option ℕ) (s : StreamPartView) →
    get_member (codes "frame_left") (stream_members a m f l s) ≡ left_value f
frame_left_at a m f l s = at_rest (codes "frame_left") (λ d ms. refl) (λ d ms. refl) a m f l s ∙ rest_frame_left a m f l s

-- The numbers that are read

-- A number that is not refused is read unchanged.
tested : (b : Bool) (n else_n : ℕ) → is_none (if b then Some n else None) ≡ false → unwrap_or (if b then Some n else None) else_n ≡ n
tested true n m h = refl
tested false n m h = absurd (cc)

itself : (low high : ℤ) (n else_n : ℕ) → is_none (integer_in low high (integer (pos n))) ≡ false → unwrap_or (integer_in low high (integer (pos n))) else_n ≡ n
itself low high n m h = tested (int_le low (pos n) && int_le (pos n) high) n m h

-- The number that is read at a key
abbrev reads : ℤ → ℤ → Option Data → Option ℕ
reads low high o = elim o [ None ↦ None | Some value ↦ integer_in low high value ]

abbrev BufferIs : ℕ → Option MultiplexingBuffer → Option Data → Option Data → Type 0
BufferIs most m o p =
    ((is_some o || is_some p) && is_none (reads (pos 64000) (pos most) o)) ≡ false
    → ((is_some o || is_some p) && is_none (reads (pos 1) (pos 10000000) p)) ≡ false
    → (if is_some o || is_some p then Some
    (record { rbx = unwrap_or (reads (pos 64000) (pos most) o) 64000; size = unwrap_or (reads (pos 1) (pos 10000000) p) 1 }) else None) ≡ m

same_buffer : (a b : ℕ) (m : MultiplexingBuffer) → a ≡ m.rbx → b ≡ m.size → ◌≡◌ {A = Option MultiplexingBuffer} (Some (record { rbx = a; size = b })) (Some m)
same_buffer a b m e f = rw (e, f) refl

buffer_value : (most : ℕ) (m : Option MultiplexingBuffer) → BufferIs most m (leak_value m) (size_value m)
buffer_value most None r s = refl
buffer_value most (Some m) r s = same_buffer _ _ m (itself (pos 64000) (pos most) m.rbx 64000 r) (itself (pos 1) (pos 10000000) m.size 1 s)

pub buffer_same : (d : Data) (m : Option MultiplexingBuffer) → get (codes "rbx") d ≡ leak_value m → get (codes "mb") d ≡ size_value m
    → refuses_rbx d ≡ false → refuses_mb d ≡ false → stream_multiplexing d ≡ m
buffer_same d m o p =
    subst (λ x. BufferIs (greatest_rbx d) m x (get (codes "mb") d)) (sym o)
    (subst (λ x. BufferIs (greatest_rbx d) m (leak_value m) x) (sym p) (buffer_value (greatest_rbx d) m))

-- The number that is read at a key that may be absent
abbrev reads_if : ℤ → ℤ → Option Data → Option (Option ℕ)
reads_if low high o = elim o [ None ↦ Some None | Some value ↦ option_map Some (integer_in low high value) ]

abbrev any_some : Option Data → Option Data → Option Data → Option Data → Option Data → Bool
any_some o p q r t = is_some o || is_some p || is_some q || is_some r || is_some t

abbrev FramingIs : ℕ → ℕ → ℕ → List ℕ → Option FrameDeclaration → Option Data → Option Data → Option Data → Option Data → Option Data → Type 0
FramingIs interval most size sums w o p q r t =
    (any_some o p q r t && is_none (reads (pos 1) (pos 64) o)) ≡ false
    → (any_some o p q r t && is_none (reads (pos 1) (pos most) p)) ≡ false
    → (any_some o p q r t && (if is_some t then is_some q else is_none (reads (pos 1) (pos size) q))) ≡ false
    → is_none (reads_if (pos 0) (pos 90000) r) ≡ false
    → (if any_some o p q r t
    then Some (record {
      frames = unwrap_or (reads (pos 1) (pos 64) o) 1;
      frame = unwrap_or (reads (pos 1) (pos most) p) 0;
      rest =
          unwrap_or (unwrap_or (reads_if (pos 0) (pos 90000) r) None)
          (interval - (unwrap_or (reads (pos 1) (pos 64) o) 1 - 1) * unwrap_or (reads (pos 1) (pos most) p) 0);
      left = if is_some t then Sums sums else Each (unwrap_or (reads (pos 1) (pos size) q) 1);
    })
    else None) ≡ w

-- A number that may be absent is read unchanged.
tested_if : (b : Bool) (n else_n : ℕ) → is_none (option_map Some (if b then Some n else None)) ≡ false
    → unwrap_or (unwrap_or (option_map Some (if b then Some n else None)) None) else_n ≡ n
tested_if true n m h = refl
tested_if false n m h = absurd (cc)

itself_if : (low high : ℤ) (n else_n : ℕ) → is_none (option_map Some (integer_in low high (integer (pos n)))) ≡ false
    → unwrap_or (unwrap_or (option_map Some (integer_in low high (integer (pos n)))) None) else_n ≡ n
itself_if low high n m h = tested_if (int_le low (pos n) && int_le (pos n) high) n m h

same_framing : (a b c : ℕ) (sums left : List ℕ) (f : FramingPartView) → a ≡ f.frames → b ≡ f.frame → c ≡ f.rest → sums ≡ padded left →
    ◌≡◌ {A = Option FrameDeclaration} (Some (record { frames = a; frame = b; rest = c; left = Sums sums }))
    (Some (record { frames = f.frames; frame = f.frame; rest = f.rest; left = Sums (padded left) }))
same_framing a b c sums left f x y z e = rw (x, y, z, e) refl

framing_with : (interval most size : ℕ) (sums left : List ℕ) (f : FramingPartView) → sums ≡ padded left →
    FramingIs interval most size sums (Some (record { frames = f.frames; frame = f.frame; rest = f.rest; left = Sums (padded left) }))
    (Some (integer (pos f.frames))) (Some (integer (pos f.frame))) None (Some (integer (pos f.rest))) (list_value left)
framing_with interval most size sums [] f is x y z u = absurd (cc)
framing_with interval most size sums (n ∷ ns) f is x y z u =
    same_framing _ _ _ sums (n ∷ ns) f (itself (pos 1) (pos 64) f.frames 1 x) (itself (pos 1) (pos most) f.frame 0 y) (itself_if (pos 0) (pos 90000) f.rest _ u) is

framing_value : (interval most size : ℕ) (sums : List ℕ) (f : Option FramingPartView) → IfSome f (λ f. sums ≡ padded f.left) →
    FramingIs interval most size sums (option_map declared_framing f) (frame_value (λ f. f.frames) f) (frame_value (λ f. f.frame) f) None
    (frame_value (λ f. f.rest) f) (left_value f)
framing_value interval most size sums None is x y z u = refl
framing_value interval most size sums (Some f) is x y z u = framing_with interval most size sums f.left f is x y z u

-- Sums that are not refused are read unchanged.
both : (a b : Bool) → (a && b) ≡ true → (a ≡ true) × (b ≡ true)
both true b h = (refl, h)
both false b h = absurd (cc)

one_more : (b all : Bool) (n : ℕ) (ns ms : List ℕ) → (is_some (if b then Some n else None) && all) ≡ true → (all ≡ true → ms ≡ ns) →
    cons_option (if b then Some n else None) ms ≡ n ∷ ns
one_more true all n ns ms h later = ap (λ (l : List ℕ). n ∷ l) (later h)
one_more false all n ns ms h later = absurd (cc)

numbers_read : (high : ℤ) (ns : List ℕ) → list_all (λ d. is_some (integer_in (pos 1) high d)) (list_of (items_of ns)) ≡ true →
    filter_map (integer_in (pos 1) high) (list_of (items_of ns)) ≡ ns
numbers_read high [] h = refl
numbers_read high (n ∷ ns) h =
    one_more (int_le (pos 1) (pos n) && int_le (pos n) high) (list_all (λ d. is_some (integer_in (pos 1) high d)) (list_of (items_of ns))) n ns
    (filter_map (integer_in (pos 1) high) (list_of (items_of ns))) h (numbers_read high ns)

few_enough : (a b : ℕ) → (a == b) ≡ true → b ≤ 63 → nat_le a 63 ≡ true
few_enough a b e le = grind (arith, nat_tests)

padded_if : (b : Bool) (xs ys : List ℕ) → b ≡ true → xs ≡ ys → padded (if b then xs else []) ≡ padded ys
padded_if true xs ys h e = ap padded e
padded_if false xs ys h e = absurd (cc)

-- The elements at a key
abbrev elements_at : Option Data → List Data
elements_at o = elim o as (λ _. List Data) [ None ↦ [] | Some value ↦ elements_in value ]

abbrev SumsAre : Data → List ℕ → Option Data → Type 0
SumsAre d left o =
    (elim o [ None ↦ true | Some value ↦ are_frame_left d value ]) ≡ true → other_frames d ≤ 63 → frame_left_of d (elements_at o) ≡ padded left

sums_value : (d : Data) (left : List ℕ) → SumsAre d left (list_value left)
sums_value d [] h few = refl
sums_value d (n ∷ ns) h few =
    let ds : List Data = list_of (items_of (n ∷ ns)) in
    let tests = both (length ds == other_frames d) _ h in
    let all = both (list_all (λ e. is_some (bytes_in d e)) ds) _ tests.1 in
    padded_if (nat_le (length ds) 63) (filter_map (bytes_in d) ds) (n ∷ ns) (few_enough (length ds) (other_frames d) tests.0 few)
    (numbers_read (pos (unwrap_or (stream_size d) 1)) (n ∷ ns) all.0)

sums_same : (d : Data) (left : List ℕ) → get (codes "frame_left") d ≡ list_value left → has_frame_left d ≡ true →
    frame_left_of d (elements (codes "frame_left") d) ≡ padded left
sums_same d left is taken =
    subst (SumsAre d left) (sym is) (sums_value d left) taken
    (let w = integer_at-within (codes "frames") 1 64 1 d (omega arith) (omega arith) in omega (arith, w.most))

sums_if_any : (d : Data) (f : Option FramingPartView) → get (codes "frame_left") d ≡ left_value f → has_frame_left d ≡ true →
    IfSome f (λ f. frame_left_of d (elements (codes "frame_left") d) ≡ padded f.left)
sums_if_any d None is taken = tt
sums_if_any d (Some f) is taken = sums_same d f.left is taken

pub framing_same : (d : Data) (f : Option FramingPartView) → get (codes "frames") d ≡ frame_value (λ f. f.frames) f →
    get (codes "frame") d ≡ frame_value (λ f. f.frame) f → get (codes "frame_size") d ≡ None →
    get (codes "frame_rest") d ≡ frame_value (λ f. f.rest) f → get (codes "frame_left") d ≡ left_value f →
    refuses_frames d ≡ false → refuses_frame d ≡ false → refuses_frame_size d ≡ false → is_none (stream_frame_rest d) ≡ false → has_frame_left d ≡ true →
    stream_framing d ≡ option_map declared_framing f
framing_same d f o p q r t x y z u v =
    let i : ℕ = unwrap_or (stream_interval d) 1 in
    let size : ℕ = unwrap_or (stream_size d) 1 in
    let sums : List ℕ = frame_left_of d (elements (codes "frame_left") d) in
    let most : ℕ = greatest_frame d in
    let w : Option FrameDeclaration = option_map declared_framing f in
    let frames : Option Data = frame_value (λ f. f.frames) f in
    let frame : Option Data = frame_value (λ f. f.frame) f in
    let rest : Option Data = get (codes "frame_rest") d in
    let left : Option Data = get (codes "frame_left") d in
    (subst (λ x. FramingIs i most size sums w x (get (codes "frame") d) (get (codes "frame_size") d) rest left) (sym o)
    (subst (λ x. FramingIs i most size sums w frames x (get (codes "frame_size") d) rest left) (sym p)
    (subst (λ x. FramingIs i most size sums w frames frame x rest left) (sym q)
    (subst (λ x. FramingIs i most size sums w frames frame None x left) (sym r)
    (subst (λ x. FramingIs i most size sums w frames frame None (frame_value (λ f. f.rest) f) x) (sym t)
    (framing_value i most size sums f (sums_if_any d f t v))))))) x y z u

-- The streams of a document

past_tables : (key k : List ℕ) (ts : List Members) (more : Members) → IsBehind key k → get_member k (with_tables key ts more) ≡ get_member k more
past_tables key k [] more behind = refl
past_tables key k (t ∷ ts) more behind = behind _ more

past_table : (key k : List ℕ) (t : Option Members) (more : Members) → IsBehind key k → get_member k (with_table key t more) ≡ get_member k more
past_table key k None more behind = refl
past_table key k (Some t) more behind = behind _ more

abbrev array_value : List Members → Option Data
array_value [] = None
array_value (t ∷ ts) = Some (array (elements_of (t ∷ ts)))

streams_value : (ss ts : List Members) (more : Members) → get_member (codes "stream") more ≡ None
    → get_member (codes "stream") (with_tables (codes "stream") ss (with_tables (codes "table") ts more)) ≡ array_value ss
streams_value [] ts more none = past_tables (codes "table") (codes "stream") ts more (λ d ms. refl) ∙ none
streams_value (s ∷ ss) ts more none = refl

streams_at : (h : HeadingView) (es : List Members) (n : Option Members) (ps ss ts : List Members) →
    get (codes "stream") (table (document h es n ps ss ts)) ≡ array_value ss
streams_at h es n ps ss ts =
    past_number (codes "clock_pid") (codes "stream") h.clock_pid _ (λ d ms. refl)
    ∙ past_tables (codes "event") (codes "stream") es _ (λ d ms. refl)
    ∙ past_table (codes "network") (codes "stream") n _ (λ d ms. refl)
    ∙ past_tables (codes "program") (codes "stream") ps _ (λ d ms. refl)
    ∙ streams_value ss ts _ (past_set (codes "transponder") (codes "stream") h.transponder _ (λ d ms. refl))

listed : (ts : List Members) → list_of (elements_of ts) ≡ map table ts
listed [] = refl
listed (t ∷ ts) = ap (λ (ds : List Data). table t ∷ ds) (listed ts)

elements_value : (ts : List Members) → elements_at (array_value ts) ≡ map table ts
elements_value [] = refl
elements_value (t ∷ ts) = listed (t ∷ ts)

elements_is : (key : List ℕ) (d : Data) (ts : List Members) → get key d ≡ array_value ts → elements key d ≡ map table ts
elements_is key d ts is = ap elements_at is ∙ elements_value ts

-- A text that is read

read_ok : (d e : Described) (o : Option DescFault) → Ok d ≡ (elim o as (λ _. Result Described DescError) [ None ↦ Ok e | Some f ↦ Err (Refused f) ]) →
    (o ≡ None) × (d ≡ e)
read_ok d e None is = (refl, cc)
read_ok d e (Some f) is = absurd (cc)

-- The keys of a buffer and of access units are not refused.
record KeysTaken (ds : List Data) : Type 0 where
  rbx : All (λ d. refuses_rbx d ≡ false) ds
  mb : All (λ d. refuses_mb d ≡ false) ds
  frames : All (λ d. refuses_frames d ≡ false) ds
  frame : All (λ d. refuses_frame d ≡ false) ds
  frame_size : All (λ d. refuses_frame_size d ≡ false) ds
  frame_rest : All (λ d. is_none (stream_frame_rest d) ≡ false) ds
  frame_left : All (λ d. not (has_frame_left d) ≡ false) ds

keys_taken : (d : Data) → key_fault d ≡ None → KeysTaken (streams_of d)
keys_taken d h =
    let last = (no_fault d h).stream.1.1.1.1.1.1.1.1.1.1.1.1.1.1.1.1.1 in
    let sound = last.1.1 in
    record {
      rbx = last.0;
      mb = last.1.0;
      frames = sound.0;
      frame = sound.1.0;
      frame_size = sound.1.1.0;
      frame_rest = sound.1.1.1.1.0;
      frame_left = sound.1.1.1.1.1.0;
    }

not_not : (b : Bool) → not b ≡ false → b ≡ true
not_not true h = refl
not_not false h = absurd (cc)

stream_has : (p : StreamPartView) → let d : Data = table (stream_table p) in
    refuses_rbx d ≡ false → refuses_mb d ≡ false → refuses_frames d ≡ false → refuses_frame d ≡ false → refuses_frame_size d ≡ false →
    is_none (stream_frame_rest d) ≡ false → not (has_frame_left d) ≡ false → HasBuffersOf p (described_stream d)
stream_has p r s x y z u v =
    let a : Allowance = p.allowance in
    let m : Option MultiplexingBuffer = p.multiplexing in
    let f : Option FramingPartView = p.framing in
    let l : Option ℕ = p.pts_limit in
    let d : Data = table (stream_table p) in
    record {
      multiplexing = buffer_same d m (leak_at a m f l p) (size_at a m f l p) r s;
      framing = framing_same d f (frames_at a m f l p) (frame_at a m f l p) (frame_size_at a m f l p) (frame_rest_at a m f l p) (frame_left_at a m f l p) x y z u
          (not_not (has_frame_left d) v);
    }

each_has : (ps : List StreamPartView) → KeysTaken (map table (map stream_table ps)) → (k : ℕ) (s : DescribedStream) (p : StreamPartView)
    → slice_get (map described_stream (map table (map stream_table ps))) k ≡ Some s → slice_get ps k ≡ Some p → HasBuffersOf p s
each_has [] taken k s p is_s is_p = absurd (cc)
each_has (q ∷ qs) taken zero s p is_s is_p =
    let d : Data = table (stream_table q) in
    let ds : List Data = map table (map stream_table qs) in
    let same : q ≡ p = cc in
    let here : described_stream d ≡ s = cc in
    subst (λ x. HasBuffersOf x s) same (subst (HasBuffersOf q) here
    (stream_has q (All-head (λ d. refuses_rbx d ≡ false) d ds taken.rbx) (All-head (λ d. refuses_mb d ≡ false) d ds taken.mb)
    (All-head (λ d. refuses_frames d ≡ false) d ds taken.frames) (All-head (λ d. refuses_frame d ≡ false) d ds taken.frame)
    (All-head (λ d. refuses_frame_size d ≡ false) d ds taken.frame_size) (All-head (λ d. is_none (stream_frame_rest d) ≡ false) d ds taken.frame_rest)
    (All-head (λ d. not (has_frame_left d) ≡ false) d ds taken.frame_left)))
each_has (q ∷ qs) taken (suc k) s p is_s is_p =
    let d : Data = table (stream_table q) in
    let ds : List Data = map table (map stream_table qs) in
    each_has qs (record {
      rbx = All-tail (λ d. refuses_rbx d ≡ false) d ds taken.rbx;
      mb = All-tail (λ d. refuses_mb d ≡ false) d ds taken.mb;
      frames = All-tail (λ d. refuses_frames d ≡ false) d ds taken.frames;
      frame = All-tail (λ d. refuses_frame d ≡ false) d ds taken.frame;
      frame_size = All-tail (λ d. refuses_frame_size d ≡ false) d ds taken.frame_size;
      frame_rest = All-tail (λ d. is_none (stream_frame_rest d) ≡ false) d ds taken.frame_rest;
      frame_left = All-tail (λ d. not (has_frame_left d) ≡ false) d ds taken.frame_left;
    }) k s p is_s is_p

of_document : (d : Described) (ms : Members) (parts : List StreamPartView) → streams_of (table ms) ≡ map table (map stream_table parts) →
    Ok d ≡ description_of (Some ms)
    → (k : ℕ) (s : DescribedStream) (p : StreamPartView) → slice_get d.streams k ≡ Some s → slice_get parts k ≡ Some p → HasBuffersOf p s
of_document d ms parts are is k s p is_s is_p =
    let read = read_ok d (described (table ms)) (fault (table ms)) is in
    let keys = (or_none (key_fault (table ms)) (joint_fault (described (table ms)) (table ms)) read.0).0 in
    let streams : d.streams ≡ map described_stream (map table (map stream_table parts)) = ap (λ (x : Described). x.streams) read.1
    ∙ ap (map described_stream) are in
    each_has parts (subst KeysTaken are (keys_taken (table ms) keys)) k s p (sym (ap (λ (xs : List DescribedStream). slice_get xs k) streams) ∙ is_s) is_p

pub texts_are_described : TextsAreRead →
    (d : Described) (h : HeadingView) (es : List EventPartView) (n : Option NetworkPartView) (ps : List ProgramPartView) (ss : List StreamPartView)
    (ts : List TablePartView)
    → FitsHeading h → All FitsEvent es → FitsNetwork n → All FitsProgram ps → All FitsStream ss → All FitsTable ts
    → Ok d ≡ description_of (parse_document
    (heading_text h ++ (flat_map event_text es ++ (network_if_any n ++ (flat_map program_text ps ++ (flat_map stream_text ss ++ flat_map table_text ts))))))
    → (k : ℕ) (s : DescribedStream) (p : StreamPartView) → slice_get d.streams k ≡ Some s → slice_get ss k ≡ Some p → HasBuffersOf p s
texts_are_described law d h es n ps ss ts fh fe fn fp fs ft is =
    let ms : Members = document h (map event_table es) (option_map network_table n) (map program_table ps) (map stream_table ss) (map table_table ts) in
    of_document d ms ss
    (elements_is (codes "stream") (table ms) (map stream_table ss)
    (streams_at h (map event_table es) (option_map network_table n) (map program_table ps) (map stream_table ss) (map table_table ts)))
    (is ∙ ap description_of (law h es n ps ss ts fh fe fn fp fs ft))
