-- What an input that is no transport stream is called.
use Rattle.std.specs.Prelude.{ℕ, List, codes, Bool, true, false}
use Rattle.packet_sync.specs.declared.file_form.FileForm.{FileForm}
use Rattle.packet_sync.specs.declared.file_form.FileForm.TheVariants.{Mp4, Matroska, Avi, Wave, Ogg, ProgramStream, ElementaryStream, NetworkCapture, Text, Unknown}

-- in a line
unfoldable pub line_word : FileForm → List ℕ
line_word Mp4 = codes "mp4"
line_word Matroska = codes "matroska"
line_word Avi = codes "avi"
line_word Wave = codes "wav"
line_word Ogg = codes "ogg"
line_word ProgramStream = codes "program_stream"
line_word ElementaryStream = codes "elementary_stream"
line_word NetworkCapture = codes "network_capture"
line_word Text = codes "text"
line_word Unknown = codes "unknown"

-- in a page
unfoldable pub words : FileForm → List ℕ
words Mp4 = codes "MP4"
words Matroska = codes "Matroska"
words Avi = codes "AVI"
words Wave = codes "WAV"
words Ogg = codes "Ogg"
words ProgramStream = codes "MPEG program stream"
words ElementaryStream = codes "elementary stream of video"
words NetworkCapture = codes "capture of network packets"
words Text = codes "text"
words Unknown = codes "of unknown form"

-- the first bytes show it
unfoldable pub is_known : FileForm → Bool
is_known Unknown = false
is_known _ = true
