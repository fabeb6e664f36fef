use Rattle.std.proofs.Common.{◌≡◌, ◌+◌, ◌-◌, ◌++◌, true, false, length, refl, ◌∙◌, rules, arith}
use Rattle.std.proofs.lemmas.Bool.{ltb-true}
use Rattle.std.proofs.lemmas.List.{length-append}
use Rattle.pes_packet.specs.Marks.{field_size}
use Rattle.unit_queue.specs.QueueSteps.{goes_on}
use Rattle.mux_core.proofs.Written.{next_is, next_put}
use Rattle.mux_core.proofs.UnitPackets.{part_start, part_more, part_end, part_failed}
use Rattle.mux_core.proofs.pid_packets.push_pieces.Goals as goal

pub pieces-init : goal.pieces-init
pieces-init g c = record {
  counter = c.requires.counter;
  inside = omega (arith, c.requires.lower, length-append c.args.header.now c.args.bytes.now);
  hex = refl;
  clean = refl;
  written = λ start all number h e. part_start _ _ _ _ _ _ start _ _ all (omega (arith, c.requires.lower, length-append c.args.header.now c.args.bytes.now)) h
      e;
}

pub returns-in-Err-clause-err : goal.returns-in-Err-clause-err
returns-in-Err-clause-err g c = λ start all number h e.
    let w = c.pieces.invariant.written start all number h e in
    part_failed _ _ _ _ _ _ _ _ _ _ start _ _ _ all w c.pieces.invariant.inside c.pieces.invariant.hex c.write_piece-more.ensures.packet
    (c.in-Err.ensures.err start w.written c.write_piece-more.new.packet (next_is c.pieces.packets c.write_piece-more.new.packet c.room.ensures.there)
    (next_put start _ c.pieces.packets w.written c.write_piece-more.new.packet w.holds))

pub returns-then-not-more-clause-ok : goal.returns-then-not-more-clause-ok
returns-then-not-more-clause-ok g c = λ start all number h e.
    let w = c.pieces.invariant.written start all number h e in
    let last : goes_on c.args.access (c.args.header.now ++ c.args.bytes.now) c.pieces.sent ≡ false = search rules in
    part_end _ _ _ _ _ _ _ _ _ _ start _ _ _ _ all w c.pieces.invariant.inside c.pieces.invariant.hex c.write_piece-more.ensures.packet
    c.next_counter-counter.ensures last (c.in-Ok.ensures.ok start w.written c.write_piece-more.new.packet
    (next_is c.pieces.packets c.write_piece-more.new.packet c.room.ensures.there)
    (next_put start _ c.pieces.packets w.written c.write_piece-more.new.packet w.holds))

pub pieces-preserved : goal.pieces-preserved
pieces-preserved g c =
    let more : goes_on c.args.access (c.args.header.now ++ c.args.bytes.now) c.pieces.sent ≡ true = search rules in
    record {
      counter = search rules;
      inside = omega (arith, ltb-true 184 (field_size c.args.access + length (c.args.header.now ++ c.args.bytes.now) - c.pieces.sent) more);
      hex = c.in-Ok.ensures.hex ∙ c.pieces.invariant.hex;
      clean = c.in-Ok.ensures.clean ∙ c.pieces.invariant.clean;
      written = λ start all number h e.
          let w = c.pieces.invariant.written start all number h e in
          part_more _ _ _ _ _ _ _ _ _ _ start _ _ _ _ all w c.pieces.invariant.inside c.pieces.invariant.hex c.write_piece-more.ensures.packet
          c.next_counter-counter.ensures (c.in-Ok.ensures.ok start w.written c.write_piece-more.new.packet
          (next_is c.pieces.packets c.write_piece-more.new.packet c.room.ensures.there)
          (next_put start _ c.pieces.packets w.written c.write_piece-more.new.packet w.holds));
    }
