-- A PID without payloads is silent.
use Rattle.std.proofs.Common.{◌≡◌, ℕ, zero, suc, ◌+◌, ◌<◌, ◌==◌, ◌&&◌, not, Bool, true, false, cond, List, [], ◌∷◌, ◌++◌, map, Option, Some, None, refl, sym}
use Rattle.std.proofs.Common.{ap, ◌∙◌, inl, inr, arith}
use Rattle.std.proofs.lemmas.Bool.{cases_Bool}
use Rattle.clock27.specs.Reference.{Reference}
use Rattle.ts_packet.specs.PidList.{Entry, is_of_pid}
use Rattle.slot_contents.specs.Contents.{Content, PayloadContent, PcrContent, NullContent, view_of, entry_at, entries_in, Payload, payload_in}
use Rattle.pid_findings.specs.Views.{PidFinding}
use Rattle.pid_findings.specs.Marks.{LastView, Marked, mark, is_repeat, break_at, repeats, break_after, seen}
use Rattle.pid_findings.specs.Roles.{role, role_by, role_of}
use Rattle.pid_findings.specs.Findings.{at_packet, by_break, by_role, ended, findings_to_end, found_at}
use Rattle.pid_findings.specs.Machine.{PidState, fresh, found_by, next_open, run, run_to, step, step_marked, unbroken}
use Rattle.pid_findings.proofs.MachineRun.{run_finds_all}
use Rattle.slot_contents.proofs.Counts.{null_other}

-- After clock references alone, the last packet, if any, has counter 15.
abbrev LastClock : Option LastView → Type 0
LastClock None = Unit {0}
LastClock (Some last) = last.counter ≡ 15

abbrev clock_entry : ℕ → ℕ → Reference → Entry
clock_entry s pid pcr = entry_at s (PcrContent pid pcr)

-- A packet without a mark
abbrev plain_mark : Entry → Marked
plain_mark entry = record { entry = entry; duplicate = false; broken = None }

not_third : (a b c d e : Bool) → c ≡ false → (a && b && c && d && e) ≡ false
not_third false b c d e h = refl
not_third true false c d e h = refl
not_third true true false d e h = refl
not_third true true true d e h = absurd cc

clock_repeats : (s pid : ℕ) (pcr : Reference) (last : LastView) → repeats last (clock_entry s pid pcr) ≡ false
unfolding repeats view_of
clock_repeats s pid pcr last = not_third (not last.duplicate) last.has_payload false _ _ refl

clock_breaks : (s pid : ℕ) (pcr : Reference) (last : LastView) → last.counter ≡ 15 → break_after last (clock_entry s pid pcr) ≡ None
unfolding break_after view_of
clock_breaks s pid pcr last h = rw h refl

clock_mark : (s pid : ℕ) (pcr : Reference) (last : Option LastView) → LastClock last → mark last (clock_entry s pid pcr) ≡ plain_mark (clock_entry s pid pcr)
unfolding mark is_repeat break_at
clock_mark s pid pcr None h = refl
clock_mark s pid pcr (Some last) h = rw (clock_repeats s pid pcr last, clock_breaks s pid pcr last h) refl

clock_found : (i pid : ℕ) (pcr : Reference) (s : PidState) → LastClock s.last → found_by s (clock_entry i pid pcr) ≡ []
unfolding found_at by_break by_role role role_of role_by view_of
clock_found i pid pcr s h = ap (λ (m : Marked). found_at m s.open_unit) (clock_mark i pid pcr s.last h)

clock_part : (i pid : ℕ) (pcr : Reference) (s : PidState) → LastClock s.last → (step s (clock_entry i pid pcr)).open_unit ≡ s.open_unit
unfolding step_marked unbroken next_open role role_of role_by view_of
clock_part i pid pcr s h = ap (λ (m : Marked). (step_marked m s).open_unit) (clock_mark i pid pcr s.last h)

clock_last : (i pid : ℕ) (pcr : Reference) (s : PidState) → LastClock (step s (clock_entry i pid pcr)).last
unfolding step_marked seen mark view_of
clock_last i pid pcr s = refl

some_left : (p : Payload) → ◌≡◌ {A = List Payload} (p ∷ []) [] → ⊥
some_left p e = cc

-- Packets that find nothing and leave the open unit as it is
abbrev Quiet : PidState → List Entry → Type 0
Quiet s es = (run s es ≡ []) × ((run_to s es).open_unit ≡ s.open_unit)

quiet_one : (pid i : ℕ) (c : Content) (s : PidState) (es : List Entry) → (pid == 8191) ≡ false → payload_in pid i c ≡ [] → LastClock s.last →
    ((t : PidState) → LastClock t.last → Quiet t es) → Quiet s (cond (is_of_pid pid (view_of c)) (entry_at i c ∷ es) es)
unfolding view_of run run_to
quiet_one pid i (PayloadContent other number start payload) s es not_null none h rest = elim (cases_Bool (other == pid)) [
  | inl y ↦ absurd (some_left (record { index = i; start = start; bytes = payload })
      (sym (ap (λ (b : Bool). cond {A = List Payload} b (record { index = i; start = start; bytes = payload } ∷ []) []) y) ∙ none))
  | inr k ↦ rw k (rest s h)
]
quiet_one pid i (PcrContent other pcr) s es not_null none h rest = elim (cases_Bool (other == pid)) [
  | inl y ↦
      let then = rest (step s (clock_entry i other pcr)) (clock_last i other pcr s) in
      rw y (rw (clock_found i other pcr s h) then.0, then.1 ∙ clock_part i other pcr s h)
  | inr k ↦ rw k (rest s h)
]
quiet_one pid i NullContent s es not_null none h rest = rw (null_other pid not_null) (rest s h)

quiet : (pid : ℕ) (content : ℕ → Content) (i n : ℕ) → (pid == 8191) ≡ false → ((t : ℕ) → t < i + n → payload_in pid t (content t) ≡ []) → (s : PidState) →
    LastClock s.last →
    Quiet s (entries_in pid content i n)
unfolding entries_in run run_to
quiet pid content i zero not_null none s h = (refl, refl)
quiet pid content i (suc n) not_null none s h =
    quiet_one pid i (content i) s (entries_in pid content (suc i) n) not_null (none i (omega arith)) h
    (λ t k. quiet pid content (suc i) n not_null (λ u less. none u (omega (arith, less))) t k)

-- The packets of a PID without payloads, and the end of the stream, find nothing.
pub silent : (pid n count : ℕ) (content : ℕ → Content) → (pid == 8191) ≡ false → ((t : ℕ) → t < n → payload_in pid t (content t) ≡ []) →
    findings_to_end count (entries_in pid content 0 n) ≡ []
unfolding ended
silent pid n count content not_null none =
    let es : List Entry = entries_in pid content 0 n in
    let q = quiet pid content 0 n not_null (λ t less. none t (omega (arith, less))) fresh tt in
    let all = (run_finds_all count es).1 in
    let found : run fresh es ≡ [] = q.0 in
    let left : (run_to fresh es).open_unit ≡ None = q.1 in
    sym all ∙ ap (λ (xs : List PidFinding). xs ++ map (at_packet count) (ended true (run_to fresh es).open_unit)) found ∙ rw left refl
