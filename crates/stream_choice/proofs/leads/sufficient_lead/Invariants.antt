use Rattle.std.proofs.Common.{◌≡◌, ◌≤◌, ◌+◌}
use Rattle.own_slots.specs.Extremes.{greatest}
use Rattle.stream_choice.specs.Leads.{row_lead}
use Rattle.stream_choice.proofs.leads.sufficient_lead.Given as goal

abbrev pub invariant-loop-before : goal.invariant-loop-before
invariant-loop-before l = record {
  greatest : l.greatest ≡ greatest l.before (λ before. row_lead l.needs l.group l.packets (before + 1));
  upper : l.greatest ≤ 5760000;
}
