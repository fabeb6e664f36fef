-- The line that counts the elementary streams that a job leaves out.
use Rattle.std.specs.Prelude.{ℕ, ◌+◌, ◌==◌, Bool, true, false, List, [], ◌++◌, length, filter, if◌then◌else◌, codes, decimal}
use Rattle.job_inputs.specs.JobInput.{JobInputView}
use Rattle.job_programs.specs.declared.warning.Warning.{Warning}
use Rattle.job_programs.specs.declared.warning.Warning.TheVariants.{LeftOut, StreamId}

-- a warning says that the job leaves a stream out: the stream can't be carried, or its stream_id can't be written
unfoldable pub leaves_out : Warning → Bool
leaves_out (LeftOut stream why) = true
leaves_out (StreamId stream packet id) = true
leaves_out _ = false

-- each stream that is left out has one such warning
abbrev pub left_out_count : List Warning → ℕ
left_out_count warnings = length (filter leaves_out warnings)

unfoldable pub count_text : ℕ → ℕ → List ℕ
count_text left_out all = decimal left_out ++ codes " of " ++ decimal all ++ codes " streams left out\n"

-- no line if no stream is left out; the streams are those that the job carries and those that it leaves out
abbrev pub line_if : ℕ → ℕ → List ℕ
line_if left_out carried = if left_out == 0 then [] else count_text left_out (left_out + carried)

abbrev pub count_line : JobInputView → List ℕ
count_line m = line_if (left_out_count m.warnings) (length m.streams)
