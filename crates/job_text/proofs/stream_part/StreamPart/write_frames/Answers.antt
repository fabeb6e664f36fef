use Rattle.job_text.proofs.stream_part.StreamPart.write_frames.Goals as goal

pub returns-in-Some : goal.returns-in-Some
returns-in-Some g c = rw c.in-Some.is c.write_framing.ensures
