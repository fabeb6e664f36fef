use Rattle.word_faults.specs.GivenOptions.{greatest_by}
use Rattle.word_faults.specs.OptionRows.{kind_named}
use Rattle.tsjob_cli.proofs.arguments.frames_in.Goals as goal

pub frames_of-frames-requires : goal.frames_of-frames-requires
unfolding kind_named greatest_by
frames_of-frames-requires c = c.in_ok-given.ensures.upper
