-- What a PID is called: a table by its PID (ISO/IEC 13818-1, table 2-3; EN 300 468, table 1), null packets, the map of a program, its
-- clock references alone, or a stream of a coding.
use Rattle.std.specs.Prelude.{ℕ, ◌==◌, if◌then◌else◌, unwrap_or, List, codes, Option, Some, None}
use Rattle.stream_coding.specs.declared.coding.Coding.{Coding}
use Rattle.stream_coding.specs.declared.coding.Coding.TheVariants as codings
use Rattle.events.specs.declared.pid_name.PidName.{PidName}
use Rattle.events.specs.declared.pid_name.PidName.TheVariants.{Pat, Cat, Nit, Sdt, Eit, Tdt, Null, Pmt, Pcr, Mpeg2, Avc, Hevc, Audio, Aac, Ac3, Subtitles}
use Rattle.events.specs.declared.pid_name.PidName.TheVariants.{Teletext, Other}

-- the label of a PID that is the same in every stream
abbrev pub fixed : ℕ → Option PidName
fixed pid =
    if pid == 0 then Some Pat else (if pid == 1 then Some Cat else (if pid == 16 then Some Nit else (if pid == 17 then Some Sdt
    else (if pid == 18 then Some Eit else (if pid == 20 then Some Tdt else (if pid == 8191 then Some Null else None))))))

abbrev pub of_pid : ℕ → PidName
of_pid pid = unwrap_or (fixed pid) Other

unfoldable pub of_coding : Coding → PidName
of_coding (codings.Mpeg level) = Mpeg2
of_coding (codings.Avc level) = Avc
of_coding (codings.Hevc level) = Hevc
of_coding (codings.Jpeg2000 limits) = Other
of_coding codings.Audio = Audio
of_coding (codings.Aac channels) = Aac
of_coding codings.Ac3 = Ac3
of_coding (codings.Pcm pairs) = Other
of_coding codings.Subtitles = Subtitles
of_coding codings.Teletext = Teletext
of_coding codings.Other = Other

-- in a line
unfoldable pub line_word : PidName → List ℕ
line_word Pat = codes "pat"
line_word Cat = codes "cat"
line_word Nit = codes "nit"
line_word Sdt = codes "sdt"
line_word Eit = codes "eit"
line_word Tdt = codes "tdt"
line_word Null = codes "null"
line_word Pmt = codes "pmt"
line_word Pcr = codes "pcr"
line_word Mpeg2 = codes "mpeg2"
line_word Avc = codes "avc"
line_word Hevc = codes "hevc"
line_word Audio = codes "audio"
line_word Aac = codes "aac"
line_word Ac3 = codes "ac3"
line_word Subtitles = codes "subtitles"
line_word Teletext = codes "teletext"
line_word Other = codes "other"

-- in a page
unfoldable pub word : PidName → List ℕ
word Pat = codes "PAT"
word Cat = codes "CAT"
word Nit = codes "NIT"
word Sdt = codes "SDT"
word Eit = codes "EIT"
word Tdt = codes "TDT"
word Null = codes "null"
word Pmt = codes "PMT"
word Pcr = codes "PCR"
word Mpeg2 = codes "MPEG-2 video"
word Avc = codes "H.264"
word Hevc = codes "H.265"
word Audio = codes "MPEG audio"
word Aac = codes "AAC"
word Ac3 = codes "AC-3"
word Subtitles = codes "subtitles"
word Teletext = codes "teletext"
word Other = codes "other"
