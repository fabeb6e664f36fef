-- The slots of a job, written one by one.
use Rattle.std.proofs.Common.{◌≡◌, ℕ, zero, suc, ◌+◌, ◌-◌, ◌<◌, ◌≤◌, ◌^◌, Bool, false, List, [], ◌++◌, Option, Ok, Err, refl, sym, ap, ◌∙◌, subst, arith}
use Rattle.std.proofs.Common.{append_assoc, append-nil}
use Rattle.slot_contents.specs.Contents.{Content, packet_of, run_bytes}
use Rattle.mux_core.specs.Buffer.{Buffered, IsOutput, Took}
use Rattle.mux_core.specs.Formats.{formatted}
use Rattle.mux_core.specs.Scheduled.{Scheduled}
use Rattle.mux_core.specs.Histories.{History, content_over}
use Rattle.mux_core.specs.MuxStates.{MuxState, Represents, Gives}
use Rattle.mux_core.specs.WholeJobs.{run_output}
use Rattle.mux_core.specs.declared.done.Done.{Done}
use Rattle.mux_core.proofs.Written.{took_longer}

-- Output in binary form is the bytes of the packets.
pub output_bytes : (content : ℕ → Content) (s n : ℕ) → run_output false content s n ≡ run_bytes content s n
unfolding run_output run_bytes formatted
output_bytes content s zero = refl
output_bytes content s (suc n) = ap (λ (l : List ℕ). packet_of (content s) ++ l) (output_bytes content (suc s) n)

-- The output of n + m slots is the output of n slots, then of m slots.
output_parts : (hex : Bool) (content : ℕ → Content) (s n m : ℕ) → run_output hex content s (n + m) ≡ run_output hex content s n
    ++ run_output hex content (s + n) m
unfolding run_output
output_parts hex content s zero m =
    let e : 0 + m ≡ m = omega arith in let f : s + 0 ≡ s = omega arith in rw (e, f) refl
output_parts hex content s (suc n) m =
    let e : suc n + m ≡ suc (n + m) = omega arith in
    let f : suc s + n ≡ s + suc n = omega arith in
    rw (e, append_assoc (formatted hex (packet_of (content s))) (run_output hex content (suc s) n) (run_output hex content (s + suc n) m))
    (ap (λ (l : List ℕ). formatted hex (packet_of (content s)) ++ l)
    (output_parts hex content (suc s) n m ∙ ap (λ (k : ℕ). run_output hex content (suc s) n ++ run_output hex content k m) f))

output_one : (hex : Bool) (content : ℕ → Content) (s : ℕ) → run_output hex content s 1 ≡ formatted hex (packet_of (content s))
unfolding run_output
output_one hex content s = append-nil (formatted hex (packet_of (content s)))

pub output_more : (hex : Bool) (content : ℕ → Content) (n : ℕ) → run_output hex content 0 (n + 1) ≡ run_output hex content 0 n
    ++ formatted hex (packet_of (content n))
output_more hex content n =
    let f : 0 + n ≡ n = omega arith in
    output_parts hex content 0 n 1 ∙ ap (λ (k : ℕ). run_output hex content 0 n ++ run_output hex content k 1) f
    ∙ ap (λ (l : List ℕ). run_output hex content 0 n ++ l) (output_one hex content n)

-- The history with n written slots.
abbrev pub at_slot : History → ℕ → History
at_slot h n = record { units = h.units; changes = h.changes; slots = n }

-- The state and the output after n slots.
pub record SlotsWritten (h : History) (old new : MuxState) (hex : Bool) (n : ℕ) (start now : Option (List ℕ)) (packets : Buffered) : Type 0 where
  pub represents : Represents (at_slot h n) new
  pub same_schedule : new.schedule ≡ old.schedule
  pub holds : IsOutput start now packets (run_output hex (content_over old.schedule h.changes h.units) 0 n)

pub written_none : (h : History) (old : MuxState) (hex : Bool) (start now : Option (List ℕ)) (packets : Buffered) → h.slots ≡ 0 →
    Represents h old → IsOutput start now packets [] → SlotsWritten h old old hex 0 start now packets
unfolding run_output
written_none h old hex start now packets none represents holds = record {
  represents = subst (λ (n : ℕ). Represents (record { units = h.units; changes = h.changes; slots = n }) old) none represents;
  same_schedule = refl;
  holds = holds;
}

-- One more packet extends the output by one slot.
next_output : (h : History) (old mid new : MuxState) (hex phex : Bool) (n : ℕ) (packet : List ℕ) → mid.schedule ≡ old.schedule → phex ≡ hex →
    Gives (at_slot h n) mid (Ok packet) new →
    run_output hex (content_over old.schedule h.changes h.units) 0 n ++ formatted phex packet ≡ run_output hex (content_over old.schedule h.changes h.units) 0 (n + 1)
next_output h old mid new hex phex n packet line same gives =
    let content = content_over old.schedule h.changes h.units in
    ap (λ (x : Bool). run_output hex content 0 n ++ formatted x packet) same
    ∙ ap (λ (x : List ℕ). run_output hex content 0 n ++ formatted hex x) (gives.1 ∙ ap (λ (d : Scheduled). packet_of (content_over d h.changes h.units n)) line)
    ∙ sym (output_more hex content n)

pub written_more : (h : History) (old mid new : MuxState) (hex phex : Bool) (n : ℕ) (start now later : Option (List ℕ)) (packets after : Buffered)
    (packet : List ℕ) →
    SlotsWritten h old mid hex n start now packets → phex ≡ hex → Gives (at_slot h n) mid (Ok packet) new →
    IsOutput start later after (run_output hex (content_over old.schedule h.changes h.units) 0 n ++ formatted phex packet) →
    SlotsWritten h old new hex (n + 1) start later after
written_more h old mid new hex phex n start now later packets after packet w same gives holds =
    let next : suc n ≡ n + 1 = omega arith in
    record {
      represents = subst (λ (k : ℕ). Represents (at_slot h k) new) next gives.3;
      same_schedule = gives.2 ∙ w.same_schedule;
      holds = subst (λ (l : List ℕ). IsOutput start later after l) (next_output h old mid new hex phex n packet w.same_schedule same gives) holds;
    }

pub written_failed : (h : History) (old mid new : MuxState) (hex phex : Bool) (n slots sent : ℕ) (start now later : Option (List ℕ)) (packets : Buffered)
    (packet : List ℕ) →
    SlotsWritten h old mid hex n start now packets → n < slots → phex ≡ hex → Gives (at_slot h n) mid (Ok packet) new →
    Took start later sent (run_output hex (content_over old.schedule h.changes h.units) 0 n ++ formatted phex packet) →
    Took start later sent (run_output hex (content_over old.schedule h.changes h.units) 0 slots)
written_failed h old mid new hex phex n slots sent start now later packets packet w below same gives took =
    let content = content_over old.schedule h.changes h.units in
    let count : slots ≡ (n + 1) + (slots - (n + 1)) = omega arith in
    let rest = run_output hex content (0 + (n + 1)) (slots - (n + 1)) in
    let whole : run_output hex content 0 slots ≡ run_output hex content 0 (n + 1) ++ rest =
    ap (λ (k : ℕ). run_output hex content 0 k) count ∙ output_parts hex content 0 (n + 1) (slots - (n + 1)) in
    let here = subst (λ (l : List ℕ). Took start later sent l) (next_output h old mid new hex phex n packet w.same_schedule same gives) took in
    subst (λ (l : List ℕ). Took start later sent l) (sym whole) (took_longer start later sent (run_output hex content 0 (n + 1)) rest here)

-- A run of at most 2^40 slots does not end early.
pub not_done : {V : Type 0} (h : History) (mid new : MuxState) (n slots : ℕ) (e : Done) → n < slots → slots ≤ 2 ^ 40 → Gives (at_slot h n) mid (Err e) new → V
not_done h mid new n slots e below most gives = absurd (omega (arith, below, most, gives.0))
