-- Turns go on: a history that has more, with the same bytes so far, takes the place of the one in force.
use Rattle.std.proofs.Common.{◌≡◌, ◌⊎◌, ℕ, zero, suc, ◌+◌, ◌-◌, ◌≤◌, List, [], ◌∷◌, refl, sym, ap, ◌∙◌, subst, inl, inr, arith}
use Rattle.ts_packet.specs.PidList.{Entry, entries_of, pid_list}
use Rattle.slot_contents.specs.Contents.{Content, run_bytes, entry_at}
use Rattle.slot_contents.specs.RunLaws.{Fits}
use Rattle.slot_contents.proofs.Runs.{all_entries, run_entries}
use Rattle.slot_plan.specs.declared.slot.Slot.{Slot}
use Rattle.turns.specs.Turns.{Turn, turn_with, content_of, own_bytes, StaysOn, ComesOn}
use Rattle.turns.specs.LineUpRuns.{GoesOnLaw}
use Rattle.turns.proofs.TurnLists.{on, listed}
use Rattle.turns.proofs.PidsOver.{own_fits}

entries_less : (f g : ℕ → Content) (s a b : ℕ) → all_entries f s (a + b) ≡ all_entries g s (a + b) → all_entries f s a ≡ all_entries g s a
unfolding all_entries
entries_less f g s zero b same = refl
entries_less f g s (suc a) b same =
    let one : suc a + b ≡ suc (a + b) = omega arith in
    let both : entry_at s (f s) ∷ all_entries f (suc s) (a + b) ≡ entry_at s (g s) ∷ all_entries g (suc s) (a + b) =
    ap (λ (n : ℕ). all_entries f s n) (sym one) ∙ same ∙ ap (λ (n : ℕ). all_entries g s n) one in
    let first : entry_at s (f s) ≡ entry_at s (g s) = cc in
    let others : all_entries f (suc s) (a + b) ≡ all_entries g (suc s) (a + b) = cc in
    ap (λ (e : Entry). e ∷ all_entries f (suc s) a) first ∙ ap (λ (es : List Entry). entry_at s (g s) ∷ es) (entries_less f g (suc s) a b others)

lists_less : (pid from n : ℕ) (f g : ℕ → Content) → Fits f → Fits g → from ≤ n → run_bytes f 0 n ≡ run_bytes g 0 n →
    pid_list pid (run_bytes f 0 from) ≡ pid_list pid (run_bytes g 0 from)
lists_less pid from n f g one two le same =
    let count : from + (n - from) ≡ n = omega (arith, le) in
    let all : all_entries f 0 n ≡ all_entries g 0 n = sym (run_entries f n one) ∙ ap entries_of same ∙ run_entries g n two in
    listed pid from f one
    ∙ ap (on pid) (entries_less f g 0 from (n - from) (subst (λ (m : ℕ). all_entries f 0 m ≡ all_entries g 0 m) (sym count) all))
    ∙ sym (listed pid from g two)

pub goes_on : GoesOnLaw
goes_on from n d old new [] le same kept fit = (kept, fit.1)
goes_on from n d old new (before ∷ earlier) le same kept fit =
    (kept, (record { later = fit.1.0.later; pids = λ pid slot named. by pid slot (fit.1.0.pids pid slot named) }, fit.1.1))
  where
    was : Turn
    was = turn_with from d old

    goes : Turn
    goes = turn_with from d new

    so_far : (pid : ℕ) → pid_list pid (own_bytes was from) ≡ pid_list pid (own_bytes goes from)
    so_far pid = lists_less pid from n (content_of was) (content_of goes) (own_fits was fit.0) (own_fits goes kept) le (sym same)

    by : (pid : ℕ) (slot : Slot) → StaysOn was before pid slot ⊎ ComesOn was (before ∷ earlier) pid slot →
        StaysOn goes before pid slot ⊎ ComesOn goes (before ∷ earlier) pid slot
    by pid slot (inl stays) =
        inl (record { slot_before = stays.slot_before; named = stays.named; clock = stays.clock; same = stays.same ∙ so_far pid })
    by pid slot (inr comes) = inr (record { off = comes.off; silent = λ other. sym (so_far pid) ∙ comes.silent other })
