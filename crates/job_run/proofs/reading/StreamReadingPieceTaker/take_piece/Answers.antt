use Rattle.std.proofs.Common.{◌++◌, List, ℕ, inr, length-append, subst, append_assoc, arith}
use Rattle.job_run.specs.Streams.{IsRead}
use Rattle.job_run.proofs.reading.StreamReadingPieceTaker.take_piece.Goals as goal

pub returns-in-Ok-clause-taken : goal.returns-in-Ok-clause-taken
returns-in-Ok-clause-taken c first bytes whole so before long begun =
    subst (λ (x : List ℕ). IsRead x c.take.new.self) (append_assoc before bytes c.args.piece.now)
    (c.in-Ok.ensures (before ++ bytes) (inr (omega (arith, long, length-append before bytes))) (so before long begun))
