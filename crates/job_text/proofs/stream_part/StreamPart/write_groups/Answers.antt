use Rattle.job_text.proofs.stream_part.StreamPart.write_groups.Goals as goal

pub returns-in-Groups : goal.returns-in-Groups
returns-in-Groups g c = rw c.in-Groups.is c.write_numbers.ensures
