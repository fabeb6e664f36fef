use Rattle.std.proofs.Common.{rules, ◌≡◌, ◌∙◌, ◌*◌, true, arith}
use Rattle.arrival.specs.Arrivals.{has_times}
use Rattle.tstd_rows.specs.HeldVideo.{nothing_of_video}
use Rattle.tstd_rows.specs.Entering.{lead_in, size_of, takes_in}
use Rattle.tstd_rows.proofs.Packets.{packet_entered, packet_held, packet_video, packet_video_entered, packet_video_unit, taken_in}
use Rattle.tstd_rows.proofs.stream_buffers.StreamBuffers.enter_first.Goals as goal

pub returns-clause-held : goal.returns-clause-held
returns-clause-held c = λ h k.
    let p = c.args.packet.now in
    let a = c.args.arrival.now in
    let times : has_times a (188 * p.index) 188 ≡ true = search rules in
    let size : c.min-size.result ≡ size_of p = search rules in
    let lead : c.min-lead.result ≡ lead_in a p = search rules in
    let takes : takes_in h a p ≡ true =
    taken_in c.args.self.now h a p k (omega (arith, c.if-packet-ge-LAST_INDEX.false)) (omega (arith, c.if-self-gt-LAST_BYTES.false)) times in
    packet_held c.args.self.now c.pass_if-before.new.self c.pass_if-header.new.self c.begin.new.self c.take-payload.new.self h a p c.min-size.result
    c.min-lead.result c.args.count k takes size lead
    c.pass_if-before.ensures.held c.pass_if-header.ensures.held c.in_ok-begin.ensures.held c.take-payload.ensures.held

pub returns-clause-entered : goal.returns-clause-entered
returns-clause-entered c = λ h k.
    let p = c.args.packet.now in
    let a = c.args.arrival.now in
    let times : has_times a (188 * p.index) 188 ≡ true = search rules in
    let size : c.min-size.result ≡ size_of p = search rules in
    let lead : c.min-lead.result ≡ lead_in a p = search rules in
    let takes : takes_in h a p ≡ true =
    taken_in c.args.self.now h a p k (omega (arith, c.if-packet-ge-LAST_INDEX.false)) (omega (arith, c.if-self-gt-LAST_BYTES.false)) times in
    packet_entered c.args.self.now c.pass_if-before.new.self c.pass_if-header.new.self c.begin.new.self h a p
    (record { lead = _; header = _; payload = _; main = _; unit = _; transport_most = _; main_most = _; main_least = _; video = nothing_of_video })
    c.min-size.result c.min-lead.result c.args.count c.pass_if-before.result c.pass_if-header.result c.take-payload.result.transport k takes size lead
    (record {
      first = c.pass_if-before.ensures.held;
      lead = c.pass_if-before.ensures.ended;
      lead_found = c.pass_if-before.ensures.most;
      pass = c.pass_if-header.ensures.held;
      header = c.pass_if-header.ensures.ended;
      header_found = c.pass_if-header.ensures.most;
      begin = c.in_ok-begin.ensures.held;
      unit = c.in_ok-begin.ensures.unit;
      transport = c.take-payload.ensures.ended;
      main = c.take-payload.ensures.main;
      payload_found = c.take-payload.ensures.most;
      main_found = c.take-payload.ensures.main_most;
      least_found = c.take-payload.ensures.main_least;
      most = search rules;
    })

pub returns-clause-video : goal.returns-clause-video
returns-clause-video c = λ h sizes k v.
    let p = c.args.packet.now in
    let a = c.args.arrival.now in
    let times : has_times a (188 * p.index) 188 ≡ true = search rules in
    let size : c.min-size.result ≡ size_of p = search rules in
    let lead : c.min-lead.result ≡ lead_in a p = search rules in
    let takes : takes_in h a p ≡ true =
    taken_in c.args.self.now h a p k (omega (arith, c.if-packet-ge-LAST_INDEX.false)) (omega (arith, c.if-self-gt-LAST_BYTES.false)) times in
    packet_video c.args.self.now c.pass_if-before.new.self c.pass_if-header.new.self c.begin.new.self c.take-payload.new.self sizes h a p c.min-size.result
    c.min-lead.result c.args.count k v takes size lead
    (record {
      first = c.pass_if-before.ensures.held;
      header = c.pass_if-header.ensures.held;
      begin = c.in_ok-begin.ensures.held;
      first_video = c.pass_if-before.ensures.video;
      header_video = c.pass_if-header.ensures.video;
      begin_video = c.in_ok-begin.ensures.video;
    })
    c.take-payload.ensures.video

pub returns-clause-entered_video : goal.returns-clause-entered_video
returns-clause-entered_video c = λ h sizes k v.
    let p = c.args.packet.now in
    let a = c.args.arrival.now in
    let times : has_times a (188 * p.index) 188 ≡ true = search rules in
    let size : c.min-size.result ≡ size_of p = search rules in
    let lead : c.min-lead.result ≡ lead_in a p = search rules in
    let takes : takes_in h a p ≡ true =
    taken_in c.args.self.now h a p k (omega (arith, c.if-packet-ge-LAST_INDEX.false)) (omega (arith, c.if-self-gt-LAST_BYTES.false)) times in
    packet_video_entered c.args.self.now c.pass_if-before.new.self c.pass_if-header.new.self c.begin.new.self sizes h a p c.min-size.result c.min-lead.result
    c.args.count _ k v takes size lead
    (record {
      first = c.pass_if-before.ensures.held;
      header = c.pass_if-header.ensures.held;
      begin = c.in_ok-begin.ensures.held;
      first_video = c.pass_if-before.ensures.video;
      header_video = c.pass_if-header.ensures.video;
      begin_video = c.in_ok-begin.ensures.video;
    })
    c.take-payload.ensures.entered_video

pub returns-clause-unit_video : goal.returns-clause-unit_video
returns-clause-unit_video c = λ h sizes k v.
    let p = c.args.packet.now in
    let a = c.args.arrival.now in
    let times : has_times a (188 * p.index) 188 ≡ true = search rules in
    let size : c.min-size.result ≡ size_of p = search rules in
    let lead : c.min-lead.result ≡ lead_in a p = search rules in
    let takes : takes_in h a p ≡ true =
    taken_in c.args.self.now h a p k (omega (arith, c.if-packet-ge-LAST_INDEX.false)) (omega (arith, c.if-self-gt-LAST_BYTES.false)) times in
    c.take-payload.ensures.unit_video
    ∙ packet_video_unit c.args.self.now c.pass_if-before.new.self c.pass_if-header.new.self c.begin.new.self sizes h a p c.min-size.result c.min-lead.result _ k
    v takes size lead
    (record {
      first = c.pass_if-before.ensures.held;
      header = c.pass_if-header.ensures.held;
      begin = c.in_ok-begin.ensures.held;
      first_video = c.pass_if-before.ensures.video;
      header_video = c.pass_if-header.ensures.video;
      begin_video = c.in_ok-begin.ensures.video;
    })
    c.in_ok-begin.ensures.unit_video
