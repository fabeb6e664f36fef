use Rattle.tstd.proofs.Peaks.{leak_range}
use Rattle.tstd.proofs.streams.measure_stream.Goals as goal

pub measure_video-requires-clause-leak : goal.measure_video-requires-clause-leak
measure_video-requires-clause-leak g c = leak_range c.args.stream.now c.in-Some.leak c.requires.stream c.in-Some.is
