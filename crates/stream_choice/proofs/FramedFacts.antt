-- The best of all groups and leads that keep access units can be declared, and keeps them.
use Rattle.std.proofs.Common.{◌≡◌, ℕ, ◌+◌, ◌*◌, ◌/◌, ◌^◌, ◌≤◌, Bool, true, false, Option, Some, None, List, length, refl, sym, subst, arith, nat_le}
use Rattle.std.specs.Prelude.{slice_index, IfSome, if◌then◌else◌}
use Rattle.std.proofs.lemmas.Bool.Decides.{nat_tests}
use Rattle.std.proofs.lemmas.List.Elements.{All-get_or}
use Rattle.unit_timing.specs.declared.allowance.Allowance.{Allowance}
use Rattle.stream_choice.specs.declared.frame_counts.FrameCounts.{FrameCounts}
use Rattle.stream_choice.specs.declared.needs.Needs.{Needs}
use Rattle.stream_choice.specs.declared.choice.Choice.{Choice}
use Rattle.stream_choice.specs.Ranges.{IsGroup, IsAllowance, AreMaxPackets}
use Rattle.stream_choice.specs.Choices.{choice_of, IsChoice}
use Rattle.stream_choice.specs.Frames.{keeps_framing}
use Rattle.stream_choice.specs.Shares.{delay_before}
use Rattle.stream_choice.specs.FramedChoices.{framed_choice, framed_leads, numbered_framed, framed_group, framed_groups, IsFramedChoice}
use Rattle.stream_choice.proofs.BestChoice.{Found, best_found}
use Rattle.stream_choice.proofs.KeptChoices.{IsKept, choice_kept, some_lead}

nothing : (x : Choice) → ◌≡◌ {A = Option Choice} None (Some x) → ⊥
nothing x e = cc

same : (x y : Choice) → Some x ≡ Some y → x ≡ y
same x y e = cc

-- A choice that keeps access units is a choice.
record IsFramedAt (needs : Needs) (f : FrameCounts) (sum group packets lead : ℕ) (c : Choice) : Type 0 where
  pub kept : IsKept needs (delay_before None needs sum) group packets lead c
  pub framed : keeps_framing needs f c.lead c.share sum ≡ true

framed_at : (needs : Needs) (f : FrameCounts) (sum group packets lead : ℕ) (c : Choice) → framed_choice needs f sum group packets lead ≡ Some c →
    IsFramedAt needs f sum group packets lead c
framed_at needs f sum group packets lead c e = step (choice_of needs group packets (delay_before None needs sum) lead) refl e
  where
    tests : (d : Choice) → choice_of needs group packets (delay_before None needs sum) lead ≡ Some d → (b : Bool) → keeps_framing needs f d.lead d.share sum ≡ b →
        ◌≡◌ {A = Option Choice} (if b then Some d else None) (Some c) → IsFramedAt needs f sum group packets lead c
    tests d is true keeps e = subst (λ (x : Choice). IsFramedAt needs f sum group packets lead x) (same d c e)
        (record { kept = choice_kept needs group packets (delay_before None needs sum) lead d is; framed = keeps })
    tests d is false keeps e = absurd (nothing c e)

    step : (o : Option Choice) → choice_of needs group packets (delay_before None needs sum) lead ≡ o →
        ◌≡◌ {A = Option Choice} (elim o [
          | None ↦ None
          | Some d ↦ if keeps_framing needs f d.lead d.share sum then Some d else None
        ]) (Some c) → IsFramedAt needs f sum group packets lead c
    step None is e = absurd (nothing c e)
    step (Some d) is e = tests d is (keeps_framing needs f d.lead d.share sum) refl e

-- With a lead by its number
record IsFramedIn (needs : Needs) (f : FrameCounts) (sum max_lead group packets : ℕ) (c : Choice) : Type 0 where
  pub lead : ℕ
  pub in_range : lead ≤ max_lead
  pub here : IsFramedAt needs f sum group packets lead c

framed_in : (needs : Needs) (f : FrameCounts) (sum max_lead group packets number : ℕ) (c : Choice) →
    numbered_framed needs f sum max_lead group packets number ≡ Some c → IsFramedIn needs f sum max_lead group packets c
framed_in needs f sum max_lead group packets number c e = step (nat_le lead max_lead) refl e
  where
    lead : ℕ
    lead = (number + 1) * needs.interval / 32

    below : (a b : ℕ) → nat_le a b ≡ true → a ≤ b
    below a b e = grind (arith, nat_tests)

    step : (b : Bool) → nat_le lead max_lead ≡ b →
        ◌≡◌ {A = Option Choice} (if b then framed_choice needs f sum group packets lead else None) (Some c) →
        IsFramedIn needs f sum max_lead group packets c
    step true le e = record { lead = lead; in_range = below lead max_lead le; here = framed_at needs f sum group packets lead c e }
    step false gt e = absurd (nothing c e)

framed : (needs : Needs) (f : FrameCounts) (max_packets : List ℕ) (sum max_lead : ℕ) (c : Choice) → AreMaxPackets max_packets →
    framed_groups needs f max_packets sum max_lead ≡ Some c → IsFramedChoice needs f sum max_lead c
framed needs f max_packets sum max_lead c ranges e =
    let groups : ℕ → Option Choice = λ i. framed_group needs f sum max_lead (i + 1) (slice_index max_packets i) in
    let r : Found (length max_packets) groups c = best_found (length max_packets) groups c e in
    let packets : ℕ = slice_index max_packets r.at in
    let q : Found framed_leads (numbered_framed needs f sum max_lead (r.at + 1) packets) c =
    best_found framed_leads (numbered_framed needs f sum max_lead (r.at + 1) packets) c r.same in
    let k : IsFramedIn needs f sum max_lead (r.at + 1) packets c = framed_in needs f sum max_lead (r.at + 1) packets q.at c q.same in
    let group : IsGroup (r.at + 1) packets = record {
      some_units = omega arith;
      most_units = omega (arith, r.below, ranges.most_groups);
      some_packets = All-get_or (λ (n : ℕ). 1 ≤ n) max_packets r.at 0 r.below ranges.some_packets;
      most_packets = All-get_or (λ (n : ℕ). n ≤ 2 ^ 21) max_packets r.at 0 r.below ranges.most_packets;
    } in
    record {
      choice = record {
        allowance = subst (λ (a : Allowance). IsAllowance a) (sym k.here.kept.allowance) group;
        some_lead = some_lead needs (r.at + 1) packets (delay_before None needs sum) c.lead c.share k.here.kept.share;
        greatest_lead = omega (arith, k.here.kept.same_lead, k.in_range);
        drained = k.here.kept.drained;
        held = k.here.kept.held;
      };
      framed = k.here.framed;
    }

pub is_framed_choice : (needs : Needs) (f : FrameCounts) (max_packets : List ℕ) (sum max_lead : ℕ) (o : Option Choice) → AreMaxPackets max_packets →
    o ≡ framed_groups needs f max_packets sum max_lead →
    IfSome o (IsFramedChoice needs f sum max_lead)
is_framed_choice needs f max_packets sum max_lead None ranges e = _
is_framed_choice needs f max_packets sum max_lead (Some c) ranges e = framed needs f max_packets sum max_lead c ranges (sym e)
