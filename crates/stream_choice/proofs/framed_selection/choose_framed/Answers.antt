use Rattle.std.proofs.Common.{◌≡◌, ℕ, ◌+◌, Option, length, ap, ap₂, sym, ◌∙◌, arith}
use Rattle.std.specs.Prelude.{slice_index}
use Rattle.stream_choice.specs.Choices.{better, best}
use Rattle.stream_choice.specs.FramedChoices.{framed_group}
use Rattle.stream_choice.proofs.BestChoice.{best_none, best_more}
use Rattle.stream_choice.proofs.FramedFacts.{is_framed_choice}
use Rattle.stream_choice.proofs.framed_selection.choose_framed.Goals as goal

pub loop-i-init : goal.loop-i-init
loop-i-init c =
    sym (best_none (λ i. framed_group c.args.needs c.args.framing c.args.sum c.args.max_lead (i + 1) (slice_index c.args.max_packets.now i)))

pub loop-i-preserved : goal.loop-i-preserved
loop-i-preserved c =
    c.better-best.ensures ∙ ap₂ better c.loop-i.invariant c.framed_group.ensures
    ∙ sym (best_more c.loop-i.i (λ i. framed_group c.args.needs c.args.framing c.args.sum c.args.max_lead (i + 1) (slice_index c.args.max_packets.now i)))

pub returns : goal.returns
returns c =
    let groups : ℕ → Option _ = λ i. framed_group c.args.needs c.args.framing c.args.sum c.args.max_lead (i + 1) (slice_index c.args.max_packets.now i) in
    let end : c.loop-i.i ≡ length c.args.max_packets.now = omega arith in
    let value = c.loop-i.invariant ∙ ap (λ (n : ℕ). best n groups) end in
    record {
      value = value;
      kept = is_framed_choice c.args.needs c.args.framing c.args.max_packets.now c.args.sum c.args.max_lead c.loop-i.best c.requires.max_packets value;
    }
