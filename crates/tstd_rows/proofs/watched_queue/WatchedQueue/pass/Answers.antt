use Rattle.tstd_rows.proofs.EvenBytes.{even_entered, even_ended}
use Rattle.tstd_rows.proofs.watched_queue.WatchedQueue.pass.Goals as goal

pub returns-clause-entered : goal.returns-clause-entered
returns-clause-entered c = λ times is.
    rw (c.max-self.ensures, c.saturating_sub-residence.ensures, c.take.ensures.after)
    (even_entered c.args.self.now c.args.even.now c.args.left.now times c.requires.some c.requires.pass is)

pub returns-clause-ended : goal.returns-clause-ended
returns-clause-ended c = λ times is.
    rw c.take.ensures.value (even_ended c.args.self.now c.args.even.now c.args.left.now times c.requires.some c.requires.pass is)
