-- Slots are written up to a settled slot.
use Rattle.std.proofs.Common.{◌≡◌, ℕ, suc, ◌+◌, ◌-◌, ◌<◌, ◌≤◌, Bool, List, [], ◌++◌, Option, Some, None, Ok, refl, sym, ap, ◌∙◌, subst, arith}
use Rattle.slot_contents.specs.Contents.{Content, packet_of}
use Rattle.mux_core.specs.Buffer.{Buffered, IsOutput, Took}
use Rattle.mux_core.specs.Formats.{formatted}
use Rattle.mux_core.specs.Scheduled.{Scheduled}
use Rattle.mux_core.specs.Histories.{History, content_over}
use Rattle.mux_core.specs.MuxStates.{MuxState, Represents, Gives}
use Rattle.mux_core.specs.WholeJobs.{run_output}
use Rattle.mux_core.proofs.JobWriting.{at_slot, output_more}
use Rattle.mux_core.proofs.Written.{took_longer}
use Rattle.on_air.specs.Airing.{Run, settled, last_by, on_to}
use Rattle.on_air.specs.AirStates.{Carries, GoesOn, with_slots, WroteOn}
use Rattle.on_air.proofs.Contents.{output_begins}

-- n slots are written by the same multiplexer.
pub record OnWay (h : History) (old new : MuxState) (content : ℕ → Content) (hex : Bool) (n : ℕ) (start now : Option (List ℕ)) (packets : Buffered) : Type 0 where
  pub represents : Represents (at_slot h n) new
  pub same_schedule : new.schedule ≡ old.schedule
  pub capacity : new.capacity ≡ old.capacity
  pub holds : IsOutput start now packets (run_output hex content 0 n)

pub way_begins : (h : History) (old : MuxState) (content : ℕ → Content) (hex : Bool) (start now : Option (List ℕ)) (packets : Buffered) (n : ℕ) → n ≡ h.slots →
    Represents h old → IsOutput start now packets (run_output hex content 0 h.slots) → OnWay h old old content hex n start now packets
way_begins h old content hex start now packets n same represents holds =
    subst (λ (k : ℕ). OnWay h old old content hex k start now packets) (sym same)
    (record { represents = represents; same_schedule = refl; capacity = refl; holds = holds })

-- One more packet extends the output by one slot.
next_output : (h : History) (old mid new : MuxState) (content : ℕ → Content) (hex phex : Bool) (n : ℕ) (packet : List ℕ) → mid.schedule ≡ old.schedule →
    GoesOn old.schedule h content → h.slots ≤ n → phex ≡ hex → Gives (at_slot h n) mid (Ok packet) new →
    run_output hex content 0 n ++ formatted phex packet ≡ run_output hex content 0 (n + 1)
next_output h old mid new content hex phex n packet line goes_on later same gives =
    ap (λ (x : Bool). run_output hex content 0 n ++ formatted x packet) same
    ∙ ap (λ (x : List ℕ). run_output hex content 0 n ++ formatted hex x) (gives.1
    ∙ ap (λ (d : Scheduled). packet_of (content_over d h.changes h.units n)) line ∙ ap packet_of (sym (goes_on n later)))
    ∙ sym (output_more hex content n)

pub way_goes_on : (h : History) (old mid new : MuxState) (content : ℕ → Content) (hex phex : Bool) (n : ℕ) (start now later : Option (List ℕ))
    (packets after : Buffered) (packet : List ℕ) → GoesOn old.schedule h content → h.slots ≤ n →
    OnWay h old mid content hex n start now packets → phex ≡ hex → Gives (at_slot h n) mid (Ok packet) new →
    IsOutput start later after (run_output hex content 0 n ++ formatted phex packet) → OnWay h old new content hex (n + 1) start later after
way_goes_on h old mid new content hex phex n start now later packets after packet goes_on le w same gives holds =
    let next : suc n ≡ n + 1 = omega arith in
    record {
      represents = subst (λ (k : ℕ). Represents (at_slot h k) new) next gives.3;
      same_schedule = gives.2 ∙ w.same_schedule;
      capacity = gives.4 ∙ w.capacity;
      holds = subst (λ (l : List ℕ). IsOutput start later after l) (next_output h old mid new content hex phex n packet w.same_schedule goes_on le same gives) holds;
    }

-- The multiplexer that was fed goes on as the run does.
pub way_of_run : (run : Run) (h : History) (old : MuxState) (content : ℕ → Content) → Carries run h old → GoesOn run.scheduled h content →
    GoesOn old.schedule h content
way_of_run run h old content c goes_on = subst (λ (d : Scheduled). GoesOn d h content) (sym c.scheduled) goes_on

pub way_ends : (run : Run) (h : History) (old mid : MuxState) (content : ℕ → Content) (hex : Bool) (n target : ℕ) (start now : Option (List ℕ))
    (packets : Buffered) → Carries run h old → OnWay h old mid content hex n start now packets → n ≡ on_to h.slots target → packets.hex ≡ hex →
    WroteOn run (with_slots h (on_to h.slots target)) content hex start now mid packets
way_ends run h old mid content hex n target start now packets c w is same = record {
  mux = record {
    represents = subst (λ (k : ℕ). Represents (at_slot h k) mid) is w.represents;
    scheduled = w.same_schedule ∙ c.scheduled;
    capacity = w.capacity ∙ c.capacity;
  };
  hex_is = same;
  output = subst (λ (k : ℕ). IsOutput start now packets (run_output hex content 0 k)) is w.holds;
}

-- The writer fails.
pub way_failed : (h : History) (old mid new : MuxState) (content : ℕ → Content) (hex phex : Bool) (n slots sent : ℕ) (start now later : Option (List ℕ))
    (packets : Buffered) (packet : List ℕ) → GoesOn old.schedule h content → h.slots ≤ n → OnWay h old mid content hex n start now packets → n < slots →
    phex ≡ hex → Gives (at_slot h n) mid (Ok packet) new → Took start later sent (run_output hex content 0 n ++ formatted phex packet) →
    Took start later sent (run_output hex content 0 slots)
way_failed h old mid new content hex phex n slots sent start now later packets packet goes_on le w below same gives took =
    let count : (n + 1) + (slots - (n + 1)) ≡ slots = omega (arith, below) in
    let rest = output_begins hex content (n + 1) (slots - (n + 1)) in
    let here = subst (λ (l : List ℕ). Took start later sent l) (next_output h old mid new content hex phex n packet w.same_schedule goes_on le same gives) took in
    subst (λ (k : ℕ). Took start later sent (run_output hex content 0 k)) count
    (subst (λ (l : List ℕ). Took start later sent l) (sym rest.is) (took_longer start later sent (run_output hex content 0 (n + 1)) rest.more here))

-- The number of slots of a whole run
pub last_some : (rate limit greatest slots : ℕ) (o : Option ℕ) → o ≡ Some slots → last_by rate limit greatest o ≡ limit
unfolding last_by
last_some rate limit greatest slots o is = rw is refl

pub last_none : (rate limit greatest : ℕ) (o : Option ℕ) → o ≡ None → last_by rate limit greatest o ≡ settled rate 0 limit greatest
unfolding last_by
last_none rate limit greatest o is = rw is refl
