-- Facts about a unit that no cause refuses
use Rattle.std.proofs.Common.{◌≡◌, ℕ, ◌==◌, not, false, None, arith}
use Rattle.pes_packet.specs.AccessUnits.{AccessUnit}
use Rattle.pes_packet.specs.StreamIds.{greatest_size}
use Rattle.unit_queue.specs.Causes.{or_cause, own_cause, time_cause}
use Rattle.unit_queue.specs.declared.refusal.FeedError.TheVariants.{UnknownStream}
use Rattle.unit_queue.proofs.CauseLemmas.{test_none, or_none, own_facts, time_facts}
use Rattle.mux_core.specs.Refusals.{pts_limit, refusal}
use Rattle.mux_core.specs.RunSteps.{IsAccepted}

pub is_accepted : (id min_next_dts stream : ℕ) (unit : AccessUnit) → refusal id min_next_dts stream unit ≡ None → IsAccepted id min_next_dts unit
unfolding refusal
is_accepted id min_next_dts stream unit h =
    let own = own_cause (greatest_size id) pts_limit min_next_dts unit in
    let time = time_cause false unit.dts in
    let known = test_none (not (stream == 0)) UnknownStream (or_cause own time) h in
    let both = or_none own time known.1 in
    let facts = own_facts (greatest_size id) pts_limit min_next_dts unit both.0 in
    record { some = facts.some; most = omega (arith, facts.most); marked = facts.most; later = facts.spaced; last = (time_facts false unit.dts both.1).1 }
