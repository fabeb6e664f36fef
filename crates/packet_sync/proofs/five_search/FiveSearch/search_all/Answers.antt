use Rattle.std.proofs.Common.{◌++◌, arith}
use Rattle.packet_sync.proofs.Fives.{all_searched, in_place}
use Rattle.packet_sync.proofs.five_search.FiveSearch.search_all.Goals as goal

pub returns : goal.returns
returns c = λ part s.
    let next = c.args.next.now in
    let front = c.split_at.result.0.now in
    let later = c.split_at.result.1.now in
    all_searched part next front later c.search.new.self c.split_at.ensures.front c.split_at.ensures.back
    (c.in_ok-search.ensures.searched (part ++ front) (c.in_ok-search_joined.ensures.searched part s)
    (λ off. in_place part next front later (omega (arith, c.if-next-le-FOUR_PACKETS.false)) c.split_at.ensures.front c.split_at.ensures.back))
