use Rattle.std.proofs.Common.{◌≡◌, ◌≤◌, ◌-◌, ◌∙◌, ◌++◌, ℕ, List, [], length, length-drop, refl, sym, ap, append_assoc, append-nil, arith}
use Rattle.packet_sync.specs.PacketBytes.{decisive, next_bytes, next_slip}
use Rattle.packet_sync.proofs.PacketBytes.{more_found, none_found}
use Rattle.packet_sync.proofs.packet_bytes.push_inner.Goals as goal

pub loop-at-init : goal.loop-at-init
loop-at-init c = record {
  within = omega arith;
  pushed = ([], sym (append-nil c.args.packets.now.items), none_found c.args.other c.args.bytes.now c.args.ended);
}

pub loop-at-preserved : goal.loop-at-preserved
loop-at-preserved c =
    let i = c.loop-at.invariant in
    let bytes = c.args.bytes.now in
    let rest = c.split_at.result.1.now in
    let next = next_bytes (next_slip c.args.other rest) c.args.other rest in
    let left : length rest ≡ length bytes - c.loop-at.at = ap (length {A = ℕ}) c.split_at.ensures.back ∙ length-drop c.loop-at.at bytes in
    let enough : decisive c.args.other c.args.ended ≤ length rest = omega (arith, left, c.loop-at-test.true, c.decisive-enough.ensures.value) in
    record {
      within = omega (arith, c.min-at.ensures, left, i.within);
      pushed = (
        i.pushed.0 ++ next,
        c.in_ok-size.ensures.pushed ∙ ap (λ (r : List ℕ). r ++ next) i.pushed.1 ∙ append_assoc c.args.packets.now.items i.pushed.0 next,
        more_found c.args.other bytes rest i.pushed.0 next c.args.ended c.loop-at.at c.in_ok-size.size c.min-at.result c.split_at.ensures.back enough refl
            c.in_ok-size.ensures.size (omega (arith, c.min-at.ensures)) i.pushed.2,
      );
    }
