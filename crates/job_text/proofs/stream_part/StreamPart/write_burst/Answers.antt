use Rattle.job_text.proofs.stream_part.StreamPart.write_burst.Goals as goal

pub returns-in-Pace : goal.returns-in-Pace
returns-in-Pace g c = rw c.in-Pace.is c.write_numbers.ensures
