use Rattle.std.proofs.Common.{◌≡◌, refl, ℕ, ◌∙◌, ap, List, length, arith}
use Rattle.std.specs.Prelude.{is_some}
use Rattle.psi_tables.specs.Loops.{loop_at}
use Rattle.dvb_tables.specs.EventEntries.{event_view, events_in}
use Rattle.dvb_tables.specs.EventInformation.{event_loop_of}
use Rattle.dvb_tables.specs.Fits.{EventFits}
use Rattle.dvb_tables.proofs.EventLoops.{more_length, one_more}
use Rattle.dvb_tables.proofs.event_loop.EventLoop.push.Goals as goal

pub returns-then-room-event-clause-variant : goal.returns-then-room-event-clause-variant
unfolding event_loop_of
returns-then-room-event-clause-variant c =
    let five : length c.args.event.now.start_time ≡ 5 = omega arith in
    let three : length c.args.event.now.duration ≡ 3 = omega arith in
    let n = more_length c.args.self.now.bytes.items (event_view c.args.event.now) c.args.self.now.whole five three in
    (λ e. absurd cc, λ h. absurd (omega (arith, n, c.len-room.ensures.value, c.if-room-event.true)))

pub invariant_of-self : goal.invariant_of-self
invariant_of-self c =
    let fits : EventFits (event_view c.args.event.now) =
    record { event_id = omega arith; start_time = omega arith; duration = omega arith; descriptors = omega (arith, c.if-room-event.false) } in
    let more = one_more c.args.self.now.bytes.items (event_view c.args.event.now) fits c.args.self.now.whole in
    record { whole = ap (λ (bytes : List ℕ). is_some (loop_at 12 bytes)) c.append_to.ensures.items ∙ more.whole }

pub returns-clause-variant : goal.returns-clause-variant
unfolding event_loop_of
returns-clause-variant c =
    let five : length c.args.event.now.start_time ≡ 5 = omega arith in
    let three : length c.args.event.now.duration ≡ 3 = omega arith in
    let n = more_length c.args.self.now.bytes.items (event_view c.args.event.now) c.args.self.now.whole five three in
    (λ e. omega (arith, n, c.len-room.ensures.value, c.len-room.ensures.fits, c.if-room-event.false), λ h. refl)

pub returns-clause-ok : goal.returns-clause-ok
unfolding event_loop_of
returns-clause-ok c =
    let fits : EventFits (event_view c.args.event.now) =
    record { event_id = omega arith; start_time = omega arith; duration = omega arith; descriptors = omega (arith, c.if-room-event.false) } in
    let more = one_more c.args.self.now.bytes.items (event_view c.args.event.now) fits c.args.self.now.whole in
    ap events_in c.append_to.ensures.items ∙ more.events
