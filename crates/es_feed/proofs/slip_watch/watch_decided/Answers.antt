use Rattle.std.proofs.Common.{◌+◌, ◌++◌, ℕ, List, ap, arith, drop, length, length-drop, subst, sym}
use Rattle.packet_sync.specs.declared.slip.Slip.{Slip}
use Rattle.es_feed.specs.Watching.{AreSlips, slips_with}
use Rattle.es_feed.specs.declared.slip_watch.StreamPlace.{StreamPlace}
use Rattle.es_feed.proofs.WatchedStreams.{slips_more}
use Rattle.es_feed.proofs.slip_watch.watch_decided.Goals as goal

pub loop-at-preserved : goal.loop-at-preserved
loop-at-preserved c =
    let bytes = c.args.bytes.now in
    let at = c.loop-at.at in
    let rest = c.split_at.result.1.now in
    let s = c.next_stretch-stretch.result in
    let e = c.next_stretch-stretch.ensures in
    let i = c.loop-at.invariant in
    let p = c.loop-at.place in
    let next = drop (at + (s.in_step + s.slipped)) bytes in
    record {
      within = omega (arith, e.within, ap (length {A = ℕ}) c.split_at.ensures.back, length-drop at bytes, i.within);
      taken = λ stream gone so.
          subst (λ (found : List Slip). AreSlips stream c.args.ended next c.in_ok-next.next (gone ++ found)) (sym c.in_ok-note_slip.ensures)
          (subst (λ (q : StreamPlace). AreSlips stream c.args.ended next q (gone ++ slips_with s p c.loop-at.found.items)) (sym c.in_ok-next.ensures)
          (slips_more stream bytes c.args.ended at rest s p gone c.loop-at.found.items c.split_at.ensures.back e.within e.stepped e.packets
          (i.taken stream gone so)));
    }
