-- The form of an input by its first bytes, if it is no transport stream.
use Rattle.std.specs.Prelude.{ℕ, ◌==◌, ◌&&◌, ◌||◌, not, nat_eq, nat_le, Bool, false, if◌then◌else◌, List, [], ◌∷◌, codes, drop, length, take}
use Rattle.std.specs.List.{list_all, starts_with}
use Rattle.packet_sync.specs.declared.file_form.FileForm.{FileForm}
use Rattle.packet_sync.specs.declared.file_form.FileForm.TheVariants.{Mp4, Matroska, Avi, Wave, Ogg, ProgramStream, ElementaryStream, NetworkCapture, Text, Unknown}

abbrev pub begins : List ℕ → List ℕ → Bool
begins front bytes = starts_with nat_eq front bytes

-- the type of the first box of a file follows its size (ISO/IEC 14496-12, 4.2 and 4.3)
unfoldable pub is_mp4 : List ℕ → Bool
is_mp4 front = if nat_le 4 (length front) then begins (drop 4 front) (codes "ftyp") else false

-- the element ID of the EBML header (RFC 8794, 11.2.1)
unfoldable pub is_matroska : List ℕ → Bool
is_matroska front = begins front (26 ∷ 69 ∷ 223 ∷ 163 ∷ [])

-- the first chunk of a file of the Resource Interchange File Format, and after its size what the file contains: "AVI " or "WAVE"
unfoldable pub is_riff : List ℕ → List ℕ → Bool
is_riff front kind = if nat_le 8 (length front) then begins front (codes "RIFF") && begins (drop 8 front) kind else false

-- capture_pattern (RFC 3533, 6)
unfoldable pub is_ogg : List ℕ → Bool
is_ogg front = begins front (codes "OggS")

-- pack_start_code (ISO/IEC 13818-1, 2.5.3.3)
unfoldable pub is_program_stream : List ℕ → Bool
is_program_stream front = begins front (0 ∷ 0 ∷ 1 ∷ 186 ∷ [])

-- start_code_prefix, with one zero byte before it or none
unfoldable pub is_elementary_stream : List ℕ → Bool
is_elementary_stream front = begins front (0 ∷ 0 ∷ 1 ∷ []) || begins front (0 ∷ 0 ∷ 0 ∷ 1 ∷ [])

-- the first bytes of pcap in both orders of bytes, with microseconds, and of pcapng
unfoldable pub is_network_capture : List ℕ → Bool
is_network_capture front = begins front (212 ∷ 195 ∷ 178 ∷ 161 ∷ []) || begins front (161 ∷ 178 ∷ 195 ∷ 212 ∷ []) || begins front (10 ∷ 13 ∷ 13 ∷ 10 ∷ [])

-- a character of ASCII that is printed, or a tab, line feed or carriage return
abbrev pub is_text_byte : ℕ → Bool
is_text_byte b = (nat_le 32 b && nat_le b 126) || b == 9 || b == 10 || b == 13

abbrev pub is_text : List ℕ → Bool
is_text front = not (length front == 0) && list_all is_text_byte front

-- a stream without a container, or a text
unfoldable pub stream_form : List ℕ → FileForm
stream_form front =
    if is_program_stream front then ProgramStream else (if is_elementary_stream front then ElementaryStream
    else (if is_network_capture front then NetworkCapture else (if is_text front then Text else Unknown)))

unfoldable pub form_in : List ℕ → FileForm
form_in front =
    if is_mp4 front then Mp4 else (if is_matroska front then Matroska else (if is_riff front (codes "AVI ") then Avi
    else (if is_riff front (codes "WAVE") then Wave else (if is_ogg front then Ogg else stream_form front))))

-- the first 188 bytes count
abbrev pub form_of : List ℕ → FileForm
form_of bs = form_in (take 188 bs)
