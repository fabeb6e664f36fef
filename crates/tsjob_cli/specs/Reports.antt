-- Reports, in words, of a fault of a named file.
use Rattle.std.specs.Prelude.{ℕ, List, codes}

abbrev pub unopened_text : List ℕ
unopened_text = codes ": can't be opened\n"

abbrev pub unread_text : List ℕ
unread_text = codes ": can't be read\n"

-- packets are not written to a terminal
abbrev pub terminal_line : List ℕ
terminal_line = codes "standard output is a terminal: name a file by -o FILE\n"
