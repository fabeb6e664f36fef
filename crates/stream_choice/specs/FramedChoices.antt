-- The best of the groups and leads that are tried for a stream whose access units leave its main buffer one by one.
use Rattle.std.specs.Prelude.{◌≡◌, ℕ, ◌+◌, ◌*◌, ◌/◌, nat_le, true, if◌then◌else◌, List, length, slice_index, Option, Some, None}
use Rattle.stream_choice.specs.declared.frame_counts.FrameCounts.{FrameCounts}
use Rattle.stream_choice.specs.declared.needs.Needs.{Needs}
use Rattle.stream_choice.specs.declared.choice.Choice.{Choice}
use Rattle.stream_choice.specs.Choices.{best, choice_of, IsChoice}
use Rattle.stream_choice.specs.Frames.{keeps_framing}
use Rattle.stream_choice.specs.Shares.{delay_before}

-- the choice of a group and a lead in an output whose shares have this sum, if the main buffer also holds what waits when some access units of
-- a unit have left
abbrev pub framed_choice : Needs → FrameCounts → ℕ → ℕ → ℕ → ℕ → Option Choice
framed_choice needs f sum group packets lead = elim (choice_of needs group packets (delay_before None needs sum) lead) [
  | None ↦ None
  | Some c ↦ if keeps_framing needs f c.lead c.share sum then Some c else None
]

-- the number of leads that are tried for each group: 1 to 64 32nds of the distance of units
abbrev pub framed_leads : ℕ
framed_leads = 64

-- the choice of a lead by its number; no lead above the greatest is tried
abbrev pub numbered_framed : Needs → FrameCounts → ℕ → ℕ → ℕ → ℕ → ℕ → Option Choice
numbered_framed needs f sum max_lead group packets number =
    let lead = (number + 1) * needs.interval / 32 in
    if nat_le lead max_lead then framed_choice needs f sum group packets lead else None

-- the best choice of one group, and of all groups
abbrev pub framed_group : Needs → FrameCounts → ℕ → ℕ → ℕ → ℕ → Option Choice
framed_group needs f sum max_lead group packets = best framed_leads (numbered_framed needs f sum max_lead group packets)

abbrev pub framed_groups : Needs → FrameCounts → List ℕ → ℕ → ℕ → Option Choice
framed_groups needs f max_packets sum max_lead =
    best (length max_packets) (λ i. framed_group needs f sum max_lead (i + 1) (slice_index max_packets i))

-- such a choice can be declared, its lead is in range, its buffers hold, and its access units may be declared
pub record IsFramedChoice (needs : Needs) (f : FrameCounts) (sum max_lead : ℕ) (c : Choice) : Type 0 where
  pub choice : IsChoice needs max_lead c
  pub framed : keeps_framing needs f c.lead c.share sum ≡ true
