use Rattle.std.proofs.Common.{◌≡◌, true, [], ◌∷◌, take}
use Rattle.std.specs.List.{list_all}
use Rattle.slot_plan.specs.Numbered.{numbered}
use Rattle.slot_plan.specs.Planned.{is_small_stream}
use Rattle.plan_maker.specs.Certificates.{stream_entry_of}
use Rattle.plan_maker.proofs.certificates.stream_entries.Given as goal

abbrev pub invariant-loop-i : goal.invariant-loop-i
invariant-loop-i g l = record {
  entries : l.entries.items ≡ numbered (λ i s. stream_entry_of l.description l.slots i s ∷ []) 0 (take l.i l.description.streams);
  small : list_all is_small_stream l.entries.items ≡ true;
}
