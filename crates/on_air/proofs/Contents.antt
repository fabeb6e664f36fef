-- What slots carry over line-ups, and outputs that begin with other outputs
use Rattle.std.proofs.Common.{◌≡◌, ℕ, zero, suc, ◌+◌, ◌-◌, ◌<◌, ◌≤◌, Bool, true, false, cond, nat_lt, List, [], ◌∷◌, ◌++◌, refl, sym, ap, ◌∙◌, arith}
use Rattle.std.proofs.Common.{append_assoc, append-nil}
use Rattle.pes_packet.specs.AccessUnits.{AccessUnit}
use Rattle.slot_contents.specs.Contents.{Content, packet_of}
use Rattle.mux_core.specs.Formats.{formatted}
use Rattle.mux_core.specs.Scheduled.{Scheduled}
use Rattle.mux_core.specs.Histories.{History, TextsSoFar, content_over}
use Rattle.mux_core.specs.WholeJobs.{run_output}
use Rattle.mux_core.proofs.JobWriting.{output_more}
use Rattle.turns.specs.Turns.{Turn, content_by, content_of, turn_at, turn_with}
use Rattle.turns.proofs.PidsOver.{turn_before, turn_since}
use Rattle.on_air.specs.Airing.{Air, Before, Run, content_with, history_by, job_of, on_to, output_with}
use Rattle.on_air.specs.AirStates.{GoesOn}
use Rattle.on_air.specs.EndlessRuns.{BeginsWith}

-- ---- Lists that begin with other lists

pub begins_same : {V : Type 0} (first all : List V) → all ≡ first → BeginsWith all first
begins_same first all e = record { more = []; is = e ∙ sym (append-nil first) }

pub begins_more : {V : Type 0} (first mid all : List V) → BeginsWith mid first → BeginsWith all mid → BeginsWith all first
begins_more {V} first mid all a b = record {
  more = a.more ++ b.more;
  is = b.is ∙ ap (λ (l : List V). l ++ b.more) a.is ∙ append_assoc first a.more b.more;
}

-- The output of more slots begins with the output of the slots before.
pub output_begins : (hex : Bool) (content : ℕ → Content) (n k : ℕ) → BeginsWith (run_output hex content 0 (n + k)) (run_output hex content 0 n)
output_begins hex content n zero =
    let same : n + 0 ≡ n = omega arith in
    begins_same (run_output hex content 0 n) (run_output hex content 0 (n + 0)) (ap (λ (m : ℕ). run_output hex content 0 m) same)
output_begins hex content n (suc k) =
    let next : n + suc k ≡ (n + k) + 1 = omega arith in
    begins_more (run_output hex content 0 n) (run_output hex content 0 (n + k)) (run_output hex content 0 (n + suc k)) (output_begins hex content n k)
    (record {
      more = formatted hex (packet_of (content (n + k)));
      is = ap (λ (m : ℕ). run_output hex content 0 m) next ∙ output_more hex content (n + k);
    })

-- ---- Outputs of the same contents

pub outputs_same : (hex : Bool) (f g : ℕ → Content) (s n : ℕ) → ((t : ℕ) → t < s + n → f t ≡ g t) → run_output hex f s n ≡ run_output hex g s n
unfolding run_output
outputs_same hex f g s zero same = refl
outputs_same hex f g s (suc n) same =
    ap (λ (c : Content). formatted hex (packet_of c) ++ run_output hex f (suc s) n) (same s (omega arith))
    ∙ ap (λ (l : List ℕ). formatted hex (packet_of (g s)) ++ l) (outputs_same hex f g (suc s) n (λ t lt. same t (omega (arith, lt))))

chosen_same : (earlier : Bool) (before now other : Turn) (t : ℕ) → content_of other t ≡ content_of now t →
    content_of (cond earlier before other) t ≡ content_of (cond earlier before now) t
chosen_same true before now other t e = refl
chosen_same false before now other t e = e

-- A slot carries what it carried if the line-up in force has the same in it.
pub turns_same : (from : ℕ) (d : Scheduled) (g h : History) (earlier : List Turn) (t : ℕ) →
    content_over d g.changes g.units t ≡ content_over d h.changes h.units t →
    content_by (turn_with from d g) earlier t ≡ content_by (turn_with from d h) earlier t
turns_same from d g h [] t e = e
turns_same from d g h (before ∷ earlier) t e =
    chosen_same (nat_lt t from) (turn_at before earlier t) (turn_with from d h) (turn_with from d g) t e

pub output_same : (run : Run) (before : Before) (us vs : List (ℕ × AccessUnit)) (n : ℕ) (cs ds : TextsSoFar) →
    ((t : ℕ) → t < n → content_over run.scheduled ds (history_by before vs n ds).units t ≡ content_over run.scheduled cs (history_by before us n cs).units t) →
    output_with run before vs n ds ≡ output_with run before us n cs
output_same run before us vs n cs ds same =
    outputs_same run.hex (content_with run before vs ds) (content_with run before us cs) 0 n
    (λ t lt. turns_same before.from run.scheduled (history_by before vs before.from ds) (history_by before us before.from cs) before.turns t
    (same t (omega (arith, lt))))

-- ---- The line-up in force

-- From its first slot on, slots carry what the line-up in force has in them.
pub line_up_goes_on : (run : Run) (a : Air) → a.before.from ≤ a.slots → GoesOn run.scheduled (job_of a) (content_with run a.before a.accepted a.changes)
line_up_goes_on run a begun =
    let now = turn_with a.before.from run.scheduled (history_by a.before a.accepted a.before.from a.changes) in
    λ slot le. ap (λ (turn : Turn). content_of turn slot) (turn_since now a.before.turns slot (omega (arith, begun, le)))

-- Before it, they carry what the line-ups before have in them.
pub carried_before : (now before : Turn) (earlier : List Turn) (t : ℕ) → t < now.from → content_by now (before ∷ earlier) t ≡ content_by before earlier t
carried_before now before earlier t lt = ap (λ (turn : Turn). content_of turn t) (turn_before now before earlier t lt)

-- The output of more slots
pub on_more : (run : Run) (before : Before) (units : List (ℕ × AccessUnit)) (slots target : ℕ) (changes : TextsSoFar) →
    BeginsWith (output_with run before units (on_to slots target) changes) (output_with run before units slots changes)
on_more run before units slots target changes = output_begins run.hex (content_with run before units changes) slots (target - slots)
