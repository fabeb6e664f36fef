-- The counter faults of a PID depend on the packets of that PID only.
use Rattle.std.proofs.Common.{◌≡◌, ◌∙◌, ℕ, ◌==◌, Bool, true, false, cond, List, [], ◌∷◌, map, filter, Option, Some, None}
use Rattle.std.proofs.Common.{refl, ap}
use Rattle.std.specs.Prelude.{◌&&◌, is_some, not, option_map}
use Rattle.ts_packet.specs.PidList.{Entry, entries_of, is_of_pid, pid_list}
use Rattle.pid_findings.specs.Marks.{LastView, Marked, break_at, mark, marked, seen}
use Rattle.tr101290.specs.Continuity.{Lasts, after, before_if, breaks, error_at, error_of, errors_from, last_of}
use Rattle.tr101290.specs.declared.continuity.ContinuityError.{ContinuityError}
use Rattle.tr101290.proofs.Continuities.{continuity_law}
use Rattle.monitor.specs.declared.fault.StreamFault.{StreamFault}
use Rattle.monitor.specs.declared.fault.Rule.TheVariants as rules
use Rattle.monitor.specs.InOrder.{in_order}
use Rattle.monitor.specs.Rules.{fault}
use Rattle.laws_view.specs.Continuity.{EachCounterLaw, broken_places, counter_fault, is_sound, sound_packets}
use Rattle.laws_view.specs.FaultsByRule.{is_on, is_pid}
use Rattle.laws_view.proofs.InsertedEntries.{same_number}
use Rattle.laws_view.proofs.PlaceOrder.{Increasing, Over, order_stays, rising_places}
use Rattle.laws_view.proofs.EachPid.{increasing_pid, places}
use Rattle.laws_view.proofs.FaultLists.{filter_in_order}
use Rattle.laws_view.proofs.Continuity.{counter_law}

-- 1. Counter errors of a PID

abbrev of_pid : ℕ → ContinuityError → Bool
of_pid pid e = e.pid == pid

faults_of_pid : (pid : ℕ) (es : List ContinuityError) → filter (is_on pid) (map counter_fault es) ≡ map counter_fault (filter (of_pid pid) es)
unfolding is_pid
faults_of_pid pid [] = refl
faults_of_pid pid (e ∷ es) = by (e.pid == pid) (faults_of_pid pid es)
  where
    by : (t : Bool) → filter (is_on pid) (map counter_fault es) ≡ map counter_fault (filter (of_pid pid) es) →
        cond t (counter_fault e ∷ filter (is_on pid) (map counter_fault es)) (filter (is_on pid) (map counter_fault es))
        ≡ map counter_fault (cond t (e ∷ filter (of_pid pid) es) (filter (of_pid pid) es))
    by true h = ap (λ (l : List StreamFault). counter_fault e ∷ l) h
    by false h = h

-- Null packets have no counter errors.
no_error : (lasts : Lasts) (entry : Entry) (es : List ContinuityError) → filter (of_pid 8191) (before_if (error_at lasts entry) es) ≡ filter (of_pid 8191) es
unfolding error_at before_if
no_error lasts entry es = by (entry.packet.header.pid == 8191) refl (break_at (last_of entry.packet.header.pid lasts) entry)
  where
    by : (t : Bool) → (entry.packet.header.pid == 8191) ≡ t → (o : Option (ℕ × ℕ)) →
        filter (of_pid 8191) (before_if (cond t None (option_map (error_of entry.packet.header.pid entry.index) o)) es) ≡ filter (of_pid 8191) es
    by true e o = refl
    by false e None = refl
    by false e (Some b) = rw e refl

no_null : (lasts : Lasts) (entries : List Entry) → filter (of_pid 8191) (errors_from lasts entries) ≡ []
unfolding errors_from
no_null lasts [] = refl
no_null lasts (entry ∷ entries) = no_error lasts entry (errors_from (after lasts entry) entries) ∙ no_null (after lasts entry) entries

-- 2. The packets of a PID

own_packets : (pid : ℕ) (entries : List Entry) →
    filter (λ entry. entry.packet.header.pid == pid) (filter is_sound entries) ≡ filter (λ entry. is_of_pid pid entry.packet) entries
own_packets pid [] = refl
own_packets pid (x ∷ entries) = by (x.packet.header.pid == pid) refl x.packet.header.transport_error_indicator (own_packets pid entries)
  where
    own : Entry → Bool
    own entry = entry.packet.header.pid == pid

    of : List Entry
    of = filter (λ entry. is_of_pid pid entry.packet) entries

    by : (t : Bool) → (x.packet.header.pid == pid) ≡ t → (w : Bool) → filter own (filter is_sound entries) ≡ of →
        filter own (cond (not w) (x ∷ filter is_sound entries) (filter is_sound entries)) ≡ cond (t && not w) (x ∷ of) of
    by true e true h = h
    by true e false h = rw e (ap (λ (l : List Entry). x ∷ l) h)
    by false e true h = h
    by false e false h = rw e h

break_is : (pid : ℕ) (m : Marked) (o : Option (ℕ × ℕ)) (es : List ContinuityError) (ms : List Marked) →
    map counter_fault es ≡ map (fault rules.Counter (Some pid)) (broken_places ms) →
    map counter_fault (before_if (option_map (error_of pid m.entry.index) o) es)
    ≡ map (fault rules.Counter (Some pid))
    (map (λ n. n.entry.index) (cond (is_some o) (m ∷ filter (λ n. is_some n.broken) ms) (filter (λ n. is_some n.broken) ms)))
unfolding before_if
break_is pid m None es ms h = h
break_is pid m (Some b) es ms h = ap (λ (l : List StreamFault). fault rules.Counter (Some pid) m.entry.index ∷ l) h

breaks_are : (pid : ℕ) (ms : List Marked) → map counter_fault (breaks pid ms) ≡ map (fault rules.Counter (Some pid)) (broken_places ms)
unfolding breaks
breaks_are pid [] = refl
breaks_are pid (m ∷ ms) = break_is pid m m.broken (breaks pid ms) ms (breaks_are pid ms)

-- 3. The order of packets

over_marked : (n : ℕ) (last : Option LastView) (entries : List Entry) → Over n (places entries) → Over n (broken_places (marked last entries))
unfolding mark
over_marked n last [] h = tt
over_marked n last (x ∷ entries) h = by (is_some (break_at last x)) (over_marked n (Some (seen (mark last x))) entries h.1)
  where
    rest : List Marked
    rest = marked (Some (seen (mark last x))) entries

    by : (t : Bool) → Over n (broken_places rest) →
        Over n (map (λ m. m.entry.index) (cond t (mark last x ∷ filter (λ m. is_some m.broken) rest) (filter (λ m. is_some m.broken) rest)))
    by true k = (h.0, k)
    by false k = k

increasing_marked : (last : Option LastView) (entries : List Entry) → Increasing (places entries) → Increasing (broken_places (marked last entries))
unfolding mark
increasing_marked last [] h = tt
increasing_marked last (x ∷ entries) h = by (is_some (break_at last x)) (increasing_marked (Some (seen (mark last x))) entries h.1)
  where
    rest : List Marked
    rest = marked (Some (seen (mark last x))) entries

    by : (t : Bool) → Increasing (broken_places rest) →
        Increasing (map (λ m. m.entry.index) (cond t (mark last x ∷ filter (λ m. is_some m.broken) rest) (filter (λ m. is_some m.broken) rest)))
    by true k = (over_marked x.index (Some (seen (mark last x))) entries h.0, k)
    by false k = k

-- 4. The counter faults of a PID

pub each_counter_law : EachCounterLaw
unfolding in_order
each_counter_law rate limit pid bytes n =
    ap (filter (is_on pid)) (counter_law rate limit bytes n)
    ∙ filter_in_order (is_on pid) (map counter_fault errors)
    ∙ ap in_order (faults_of_pid pid errors)
    ∙ by (pid == 8191) refl
  where
    errors : List ContinuityError
    errors = errors_from [] (sound_packets bytes)

    broken : List ℕ
    broken = broken_places (marked None (pid_list pid bytes))

    by : (t : Bool) → (pid == 8191) ≡ t → in_order (map counter_fault (filter (of_pid pid) errors)) ≡ cond t [] (map (fault rules.Counter (Some pid)) broken)
    by true e =
        ap (λ (k : ℕ). in_order (map counter_fault (filter (of_pid k) errors))) (same_number pid 8191 e)
        ∙ ap (λ (l : List ContinuityError). in_order (map counter_fault l)) (no_null [] (sound_packets bytes))
    by false e =
        ap (λ (l : List ContinuityError). in_order (map counter_fault l)) (continuity_law pid (sound_packets bytes) e)
        ∙ ap in_order (breaks_are pid (marked None (filter (λ entry. entry.packet.header.pid == pid) (sound_packets bytes))))
        ∙ ap (λ (l : List Entry). in_order (map (fault rules.Counter (Some pid)) (broken_places (marked None l)))) (own_packets pid (entries_of bytes))
        ∙ order_stays (map (fault rules.Counter (Some pid)) broken)
        (rising_places rules.Counter (Some pid) broken (increasing_marked None (pid_list pid bytes) (increasing_pid pid bytes)))
