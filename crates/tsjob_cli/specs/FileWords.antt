-- Words after `--`: the names of files, each with a transport stream.
use Rattle.std.specs.Prelude.{◌==◌, List, drop, length, Option, Some, None, if◌then◌else◌, is_some}
use Rattle.std.specs.List.{after_first, before_first, position_or_len}
use Rattle.clap.specs.Words.{Text}
use Rattle.job_run.specs.JobArguments.{JobArgumentsView}
use Rattle.tsjob_cli.specs.Arguments.{arguments_in}
use Rattle.tsjob_cli.specs.FileMark.{is_mark}

-- the words before it, and the names
abbrev pub option_words : List Text → List Text
option_words words = before_first is_mark words

-- `--` and the names
abbrev pub marked_names : List Text → List Text
marked_names words = drop (position_or_len is_mark words) words

abbrev pub file_words : List Text → List Text
file_words words = after_first is_mark words

-- no file of a description may be named with names of files
unfoldable pub unless_streamed : Option JobArgumentsView → Option JobArgumentsView
unless_streamed None = None
unless_streamed (Some a) = if is_some a.stream then None else Some a

-- the request of the words before `--` for the streams in the files; none for a usage error, or if no file is named
unfoldable pub file_arguments : List Text → Option JobArgumentsView
file_arguments words = if length (file_words words) == 0 then None else unless_streamed (arguments_in (option_words words))
