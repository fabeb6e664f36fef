use Rattle.std.proofs.Common.{◌++◌, sym, subst}
use Rattle.job_run.specs.Streams.{IsRead, ReadingView}
use Rattle.job_run.proofs.Readings.{read_on, refused_now, still_refused}
use Rattle.job_run.proofs.reading.StreamReading.take.Goals as goal

pub returns-then-self : goal.returns-then-self
returns-then-self c = λ bytes known so.
    let r : ReadingView = record { search = c.self.inside.search; refused = c.self.inside.refused; stream = c.self.inside.stream } in
    let begun = subst (λ (x : ReadingView). IsRead bytes x) (sym c.self.view_is) so in
    still_refused bytes c.args.piece.now c.take.new.self r c.if-self.true (c.in_ok-take.ensures bytes begun.searched) begun

pub returns-then-is_settled : goal.returns-then-is_settled
returns-then-is_settled c = λ bytes known so.
    let begun = subst (λ (x : ReadingView). IsRead bytes x) (sym c.self.view_is) so in
    let searched = c.in_ok-take.ensures bytes begun.searched in
    refused_now (bytes ++ c.args.piece.now) c.take.new.self c.self.inside.stream searched
    (λ more. c.is_settled.ensures (bytes ++ c.args.piece.now) more searched c.if-is_settled.true)

pub returns : goal.returns
returns c = λ bytes known so.
    let begun = subst (λ (x : ReadingView). IsRead bytes x) (sym c.self.view_is) so in
    read_on (bytes ++ c.args.piece.now) c.take.new.self c.self.inside.refused c.take-2.new.self c.if-self.false
    (c.in_ok-take.ensures bytes begun.searched)
    (c.in_ok-take-2.ensures.taken bytes known (c.other_packets-other.ensures (bytes ++ c.args.piece.now) (c.in_ok-take.ensures bytes begun.searched))
    (begun.so_far c.if-self.false))
