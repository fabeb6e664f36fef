use Rattle.std.proofs.Common.{◌≡◌, ℕ, ◌+◌, Option, length, ap, ap₂, sym, ◌∙◌, arith}
use Rattle.std.specs.Prelude.{slice_index}
use Rattle.stream_choice.specs.Choices.{better, best, group_choice}
use Rattle.stream_choice.proofs.BestChoice.{best_none, best_more}
use Rattle.stream_choice.proofs.ChoiceFacts.{is_choice, is_groups_choice, is_best, is_refused}
use Rattle.stream_choice.proofs.selection.choose_groups.Goals as goal

pub loop-i-init : goal.loop-i-init
loop-i-init c = sym (best_none (λ i. group_choice c.args.needs c.args.delay c.args.max_lead (i + 1) (slice_index c.args.max_packets.now i)))

pub loop-i-preserved : goal.loop-i-preserved
loop-i-preserved c =
    c.better-best.ensures ∙ ap₂ better c.loop-i.invariant c.group_choice.ensures
    ∙ sym (best_more c.loop-i.i (λ i. group_choice c.args.needs c.args.delay c.args.max_lead (i + 1) (slice_index c.args.max_packets.now i)))

pub returns : goal.returns
returns c =
    let groups : ℕ → Option _ = λ i. group_choice c.args.needs c.args.delay c.args.max_lead (i + 1) (slice_index c.args.max_packets.now i) in
    let end : c.loop-i.i ≡ length c.args.max_packets.now = omega arith in
    let value = c.loop-i.invariant ∙ ap (λ (n : ℕ). best n groups) end in
    record {
      value = value;
      holds = is_choice c.args.needs c.args.max_packets.now c.args.delay c.args.max_lead c.loop-i.best c.requires.max_packets value;
      groups = is_groups_choice c.args.needs c.args.max_packets.now c.args.delay c.args.max_lead c.loop-i.best c.requires.max_packets value;
      best = is_best c.args.needs c.args.max_packets.now c.args.delay c.args.max_lead c.loop-i.best value;
      refused = is_refused c.args.needs c.args.max_packets.now c.args.delay c.args.max_lead c.loop-i.best value;
    }
