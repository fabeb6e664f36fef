-- The lines for packets that are out of step, and for inputs that are no transport stream.
use Rattle.std.specs.Prelude.{ℕ, List, [], ◌++◌, flat_map, codes, decimal}
use Rattle.packet_sync.specs.FileForms.{words}
use Rattle.packet_sync.specs.declared.file_form.FileForm.{FileForm}
use Rattle.packet_sync.specs.declared.file_form.FileForm.TheVariants.{Mp4, Matroska, Avi, Wave, Ogg, ProgramStream, ElementaryStream, NetworkCapture, Text, Unknown}
use Rattle.packet_sync.specs.declared.slip.Slip.{Slip}

unfoldable pub slip_line : Slip → List ℕ
slip_line s = codes "packet " ++ decimal s.packet ++ codes " slip of " ++ decimal s.size ++ codes " bytes\n"

-- a line each
abbrev pub slip_lines : List Slip → List ℕ
slip_lines slips = flat_map slip_line slips

-- how ffmpeg makes a transport stream of a file: with its streams as they are, or coded again
unfoldable pub remedy : FileForm → List ℕ
remedy Mp4 = codes ": ffmpeg -i IN -c copy -f mpegts OUT makes one"
remedy Matroska = codes ": ffmpeg -i IN -c copy -f mpegts OUT makes one"
remedy Avi = codes ": ffmpeg -i IN -c copy -f mpegts OUT makes one"
remedy ProgramStream = codes ": ffmpeg -i IN -c copy -f mpegts OUT makes one"
remedy Wave = codes ": ffmpeg -i IN -f mpegts OUT makes one"
remedy Ogg = codes ": ffmpeg -i IN -f mpegts OUT makes one"
remedy ElementaryStream = codes ": ffmpeg -i IN -f mpegts OUT makes one"
remedy NetworkCapture = []
remedy Text = []
remedy Unknown = []

-- what an input is that is no transport stream
abbrev pub form_text : FileForm → List ℕ
form_text form = words form ++ codes ", not a transport stream"

-- what makes one
abbrev pub remedy_text : FileForm → List ℕ
remedy_text form = remedy form ++ codes "\n"

-- an input that is no transport stream
abbrev pub no_stream_line : FileForm → List ℕ
no_stream_line form = form_text form ++ remedy_text form
