-- The best of all groups and leads
use Rattle.std.proofs.Common.{◌≡◌, ℕ, ◌+◌, ◌-◌, ◌^◌, ◌<◌, ◌≤◌, Option, Some, None, List, length, ap, sym, subst, arith, true≢false}
use Rattle.std.specs.Prelude.{slice_index, IfSome, IsNone}
use Rattle.std.proofs.lemmas.List.Elements.{All-get_or}
use Rattle.unit_timing.specs.declared.allowance.Allowance.{Allowance}
use Rattle.stream_choice.specs.declared.needs.Needs.{Needs}
use Rattle.stream_choice.specs.declared.choice.Choice.{Choice}
use Rattle.stream_choice.specs.Ranges.{IsGroup, IsAllowance, AreMaxPackets}
use Rattle.stream_choice.specs.Leads.{leads}
use Rattle.stream_choice.specs.Choices.{best, numbered_choice, group_choice, groups_choice, IsChoice, IsGroupsChoice, IsBest, IsRefused}
use Rattle.stream_choice.proofs.BestChoice.{Precedes, along, best_precedes, best_found, not_better, nothing_left, Found}
use Rattle.stream_choice.specs.Shares.{lead_share}
use Rattle.stream_choice.proofs.ShareTimes.{least_of}
use Rattle.stream_choice.proofs.KeptChoices.{IsTried, tried_kept, some_lead}

record IsKeptChoice (needs : Needs) (max_packets : List ℕ) (delay max_lead : ℕ) (c : Choice) : Type 0 where
  pub either : IsChoice needs max_lead c
  pub of_groups : IsGroupsChoice needs max_packets delay c

kept : (needs : Needs) (max_packets : List ℕ) (delay max_lead : ℕ) (c : Choice) → AreMaxPackets max_packets →
    groups_choice needs max_packets delay max_lead ≡ Some c →
    IsKeptChoice needs max_packets delay max_lead c
kept needs max_packets delay max_lead c ranges e =
    let groups : ℕ → Option Choice = λ i. group_choice needs delay max_lead (i + 1) (slice_index max_packets i) in
    let r : Found (length max_packets) groups c = best_found (length max_packets) groups c e in
    let packets : ℕ = slice_index max_packets r.at in
    let q : Found leads (numbered_choice needs delay max_lead (r.at + 1) packets) c =
    best_found leads (numbered_choice needs delay max_lead (r.at + 1) packets) c r.same in
    let k : IsTried needs delay max_lead (r.at + 1) packets c = tried_kept needs delay max_lead (r.at + 1) packets q.at c q.same in
    let here : packets ≡ slice_index max_packets (r.at + 1 - 1) = ap (slice_index max_packets) (omega arith) in
    let group : IsGroup (r.at + 1) packets = record {
      some_units = omega arith;
      most_units = omega (arith, r.below, ranges.most_groups);
      some_packets = All-get_or (λ (n : ℕ). 1 ≤ n) max_packets r.at 0 r.below ranges.some_packets;
      most_packets = All-get_or (λ (n : ℕ). n ≤ 2 ^ 21) max_packets r.at 0 r.below ranges.most_packets;
    } in
    record {
      either = record {
        allowance = subst (λ (a : Allowance). IsAllowance a) (sym k.allowance) group;
        some_lead = some_lead needs (r.at + 1) packets delay c.lead c.share k.share;
        greatest_lead = k.in_range;
        drained = k.drained;
        held = k.held;
      };
      of_groups = record {
        group = r.at + 1;
        packets = packets;
        allowance = k.allowance;
        some_units = omega arith;
        most_units = omega (arith, r.below);
        packets_are = here;
        share = k.share;
        no_less = least_of needs max_packets delay c.lead c.share (r.at + 1) (omega arith) (omega (arith, r.below))
            (subst (λ (n : ℕ). lead_share needs (r.at + 1) n delay c.lead ≡ Some c.share) here k.share);
      };
    }

precedes_all : (needs : Needs) (max_packets : List ℕ) (delay max_lead : ℕ) (o : Option Choice) → o ≡ groups_choice needs max_packets delay max_lead →
    (i number : ℕ) → i < length max_packets → number < leads → Precedes o (numbered_choice needs delay max_lead (i + 1) (slice_index max_packets i) number)
precedes_all needs max_packets delay max_lead o e i number lt few =
    let groups : ℕ → Option Choice = λ i. group_choice needs delay max_lead (i + 1) (slice_index max_packets i) in
    let of_group : ℕ → Option Choice = numbered_choice needs delay max_lead (i + 1) (slice_index max_packets i) in
    subst (λ (a : Option Choice). Precedes a (of_group number)) (sym e)
    (along (best (length max_packets) groups) (groups i) (of_group number) (best_precedes (length max_packets) groups i lt)
    (best_precedes leads of_group number few))

pub is_choice : (needs : Needs) (max_packets : List ℕ) (delay max_lead : ℕ) (o : Option Choice) → AreMaxPackets max_packets →
    o ≡ groups_choice needs max_packets delay max_lead →
    IfSome o (IsChoice needs max_lead)
is_choice needs max_packets delay max_lead None ranges e = _
is_choice needs max_packets delay max_lead (Some c) ranges e = (kept needs max_packets delay max_lead c ranges (sym e)).either

pub is_groups_choice : (needs : Needs) (max_packets : List ℕ) (delay max_lead : ℕ) (o : Option Choice) → AreMaxPackets max_packets →
    o ≡ groups_choice needs max_packets delay max_lead →
    IfSome o (IsGroupsChoice needs max_packets delay)
is_groups_choice needs max_packets delay max_lead None ranges e = _
is_groups_choice needs max_packets delay max_lead (Some c) ranges e = (kept needs max_packets delay max_lead c ranges (sym e)).of_groups

pub is_best : (needs : Needs) (max_packets : List ℕ) (delay max_lead : ℕ) (o : Option Choice) → o ≡ groups_choice needs max_packets delay max_lead →
    IfSome o (IsBest needs max_packets delay max_lead)
is_best needs max_packets delay max_lead None e = _
is_best needs max_packets delay max_lead (Some c) e = λ i number lt few.
    not_better (numbered_choice needs delay max_lead (i + 1) (slice_index max_packets i) number) c
    (precedes_all needs max_packets delay max_lead (Some c) e i number lt few)

pub is_refused : (needs : Needs) (max_packets : List ℕ) (delay max_lead : ℕ) (o : Option Choice) → o ≡ groups_choice needs max_packets delay max_lead →
    IsNone o → IsRefused needs max_packets delay max_lead
is_refused needs max_packets delay max_lead None e none = λ i number lt few.
    nothing_left (numbered_choice needs delay max_lead (i + 1) (slice_index max_packets i) number)
    (precedes_all needs max_packets delay max_lead None e i number lt few)
is_refused needs max_packets delay max_lead (Some c) e none = absurd (true≢false none)
