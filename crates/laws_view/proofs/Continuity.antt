-- The counter breaks that the monitor finds in a stream are the continuity errors of its packets.
use Rattle.std.proofs.Common.{◌≡◌, ◌∙◌, ℕ, ◌+◌, ◌-◌, ◌/◌, ◌^◌, ◌<◌, ◌==◌, Bool, true, false, cond, nat_eq, List, [], ◌∷◌, ◌++◌, length, map, filter}
use Rattle.std.proofs.Common.{Option, Some, None, Result, Ok, Err, refl, sym, ap, ap₂, subst, arith, append_assoc}
use Rattle.std.specs.Prelude.{not, option_map, unwrap_or}
use Rattle.std.specs.List.{cons_option, enumerate_from, filter_map}
use Rattle.std.proofs.lemmas.List.{append-nil}
use Rattle.std.proofs.lemmas.List.Elements.{filter-append}
use Rattle.indexmap.specs.IndexMap.{insert_entry}
use Rattle.ts_packet.specs.declared.packet.PacketError.{PacketError}
use Rattle.ts_packet.specs.Views.{PacketView}
use Rattle.ts_packet.specs.Reading.{packet_at}
use Rattle.ts_packet.specs.PidList.{Entry, cut_packets, entry_of}
use Rattle.pid_findings.specs.Views.{FindingView, IsErrored}
use Rattle.pid_findings.specs.Marks.{LastView, break_at, mark, seen}
use Rattle.pid_findings.specs.Machine.{PidState, found_by, step, step_marked}
use Rattle.pid_findings.specs.Shown.{with_pid}
use Rattle.pid_findings.specs.Findings.{ended}
use Rattle.demux.specs.Stream.{States, StreamState, ended_found, findings_by, finished, found_in, next_packet, start, state_of, states_by, taken, with_state}
use Rattle.demux.specs.Stream.{without_pid}
use Rattle.demux.specs.FoundSoFar.{found_in_all, taken_all}
use Rattle.tr101290.specs.Continuity.{Lasts, after, before_if, error_at, error_of, errors_from, last_of}
use Rattle.tr101290.specs.declared.continuity.ContinuityError.{ContinuityError}
use Rattle.monitor.specs.declared.fault.StreamFault.{StreamFault}
use Rattle.monitor.specs.InOrder.{rule_number}
use Rattle.monitor.specs.Faults.{faults_of}
use Rattle.monitor.specs.ReportOf.{stream_report}
use Rattle.monitor.proofs.FindingSteps.{faults_of_all, faults_on}
use Rattle.monitor.proofs.FoundWhole.{ended_whole, found_whole, packet_count}
use Rattle.monitor.proofs.GroupedFaults.{findings_alike}
use Rattle.monitor.proofs.SameOrder.{has}
use Rattle.laws_view.specs.Continuity.{CounterLaw, counter_fault, is_sound, sound_packets}
use Rattle.laws_view.specs.FaultsByRule.{is_by}
use Rattle.laws_view.proofs.FaultLists.{alike_filter, part_in_order}
use Rattle.laws_view.proofs.InsertedEntries.{kept, same_number, turned_test}
use Rattle.laws_view.proofs.FaultGroups.{counter_group, findings_part}
use Rattle.laws_view.proofs.CounterFindings.{break_fault, counter_at, ended_quiet, faults_at, quiet_faults}

-- 1. The last packet of each PID, as the findings and the continuity errors keep it

last_kept : (pid q : ℕ) (x : Option LastView) (es : Lasts) (t : Bool) → (q == pid) ≡ t → last_of pid (insert_entry nat_eq es q x) ≡ cond t x (last_of pid es)
last_kept pid q x es true e = ap (λ (o : Option (Option LastView)). unwrap_or o None) (kept pid q x es true e)
last_kept pid q x es false e = ap (λ (o : Option (Option LastView)). unwrap_or o None) (kept pid q x es false e)

state_kept : (pid q : ℕ) (state : PidState) (states : States) (t : Bool) → (q == pid) ≡ t →
    state_of pid (with_state q state states) ≡ cond t state (state_of pid states)
state_kept pid q state [] t e = rw (turned_test pid q ∙ e) refl
state_kept pid q state (y ∷ es) t e = by t e (q == y.0) refl (state_kept pid q state es t e)
  where
    by : (t : Bool) → (q == pid) ≡ t → (u : Bool) → (q == y.0) ≡ u → state_of pid (with_state q state es) ≡ cond t state (state_of pid es) →
        state_of pid (cond u ((y.0, state) ∷ es) (y ∷ with_state q state es)) ≡ cond t state (cond (pid == y.0) y.1 (state_of pid es))
    by true e true f h = let g : (pid == y.0) ≡ true = subst (λ (n : ℕ). (n == y.0) ≡ true) (same_number q pid e) f in rw g refl
    by false e true f h = let g : (pid == y.0) ≡ false = subst (λ (n : ℕ). (pid == n) ≡ false) (same_number q y.0 f) (turned_test pid q ∙ e) in rw g refl
    by true e false f h = let g : (pid == y.0) ≡ false = subst (λ (n : ℕ). (n == y.0) ≡ false) (same_number q pid e) f in rw g h
    by false e false f h = ap (λ (s : PidState). cond (pid == y.0) y.1 s) h

-- The findings and the continuity errors keep the same last packet of each PID.
abbrev pub Agree : Lasts → States → Type 0
Agree lasts states = (pid : ℕ) → last_of pid lasts ≡ (state_of pid states).last

step_last : (s : PidState) (entry : Entry) → (step s entry).last ≡ Some (seen (mark s.last entry))
unfolding step_marked
step_last s entry = refl

agree_next : (lasts : Lasts) (states : States) (entry : Entry) (q : ℕ) → Agree lasts states →
    Agree (insert_entry nat_eq lasts q (Some (seen (mark (last_of q lasts) entry)))) (with_state q (step (state_of q states) entry) states)
agree_next lasts states entry q h pid = by (q == pid) refl
  where
    by : (t : Bool) → (q == pid) ≡ t →
        last_of pid (insert_entry nat_eq lasts q (Some (seen (mark (last_of q lasts) entry)))) ≡
        (state_of pid (with_state q (step (state_of q states) entry) states)).last
    by true e =
        last_kept pid q (Some (seen (mark (last_of q lasts) entry))) lasts true e
        ∙ ap (λ (l : Option LastView). Some (seen (mark l entry))) (h q)
        ∙ sym (step_last (state_of q states) entry)
        ∙ ap (λ (s : PidState). s.last) (sym (state_kept pid q (step (state_of q states) entry) states true e))
    by false e =
        last_kept pid q (Some (seen (mark (last_of q lasts) entry))) lasts false e
        ∙ h pid
        ∙ ap (λ (s : PidState). s.last) (sym (state_kept pid q (step (state_of q states) entry) states false e))

-- 2. Packet by packet

-- The packets that can be read and are not known to be wrong, with their indices.
abbrev pub sound_in : List (ℕ × List ℕ) → List Entry
sound_in packets = filter is_sound (filter_map (λ p. entry_of p.0 p.1 (packet_at p.1)) packets)

abbrev errors_at : Lasts → List Entry → List StreamFault
errors_at lasts entries = map counter_fault (errors_from lasts entries)

error_fault : (pid index : ℕ) (o : Option (ℕ × ℕ)) (errors : List ContinuityError) →
    map counter_fault (before_if (option_map (error_of pid index) o) errors) ≡ break_fault pid index o ++ map counter_fault errors
unfolding before_if break_fault
error_fault pid index None errors = refl
error_fault pid index (Some b) errors = refl

faults_append : (xs ys : List FindingView) → filter (is_by 4) (faults_of_all (xs ++ ys)) ≡ filter (is_by 4) (faults_of_all xs)
    ++ filter (is_by 4) (faults_of_all ys)
unfolding faults_of_all
faults_append [] ys = refl
faults_append (x ∷ xs) ys =
    filter-append (is_by 4) (faults_on x.packet x.pid x.what) (faults_of_all (xs ++ ys))
    ∙ ap (λ (l : List StreamFault). filter (is_by 4) (faults_on x.packet x.pid x.what) ++ l) (faults_append xs ys)
    ∙ sym (append_assoc (filter (is_by 4) (faults_on x.packet x.pid x.what)) (filter (is_by 4) (faults_of_all xs)) (filter (is_by 4) (faults_of_all ys)))
    ∙ ap (λ (l : List StreamFault). l ++ filter (is_by 4) (faults_of_all ys))
    (sym (filter-append (is_by 4) (faults_on x.packet x.pid x.what) (faults_of_all xs)))

-- A null packet gives no error.
null_packet : (lasts : Lasts) (entry : Entry) (rest : List Entry) → (entry.packet.header.pid == 8191) ≡ true →
    errors_at lasts (entry ∷ rest) ≡ errors_at lasts rest
unfolding errors_from error_at after before_if
null_packet lasts entry rest n = rw n refl

real_error : (lasts : Lasts) (entry : Entry) → (entry.packet.header.pid == 8191) ≡ false →
    error_at lasts entry ≡ option_map (error_of entry.packet.header.pid entry.index) (break_at (last_of entry.packet.header.pid lasts) entry)
unfolding error_at
real_error lasts entry n = rw n refl

abbrev next_lasts : Lasts → Entry → Lasts
next_lasts lasts entry = insert_entry nat_eq lasts entry.packet.header.pid (Some (seen (mark (last_of entry.packet.header.pid lasts) entry)))

real_after : (lasts : Lasts) (entry : Entry) → (entry.packet.header.pid == 8191) ≡ false → after lasts entry ≡ next_lasts lasts entry
unfolding after
real_after lasts entry n = rw n refl

real_packet : (lasts : Lasts) (states : States) (entry : Entry) (rest : List Entry) → (entry.packet.header.pid == 8191) ≡ false → Agree lasts states →
    errors_at lasts (entry ∷ rest)
    ≡ faults_at entry.packet.header.pid entry.index (found_by (state_of entry.packet.header.pid states) entry) ++ errors_at (next_lasts lasts entry) rest
unfolding errors_from
real_packet lasts states entry rest n h =
    ap₂ (λ (o : Option ContinuityError) (l : Lasts). map counter_fault (before_if o (errors_from l rest))) (real_error lasts entry n) (real_after lasts entry n)
    ∙ error_fault q entry.index (break_at (last_of q lasts) entry) (errors_from next rest)
    ∙ ap (λ (l : Option LastView). break_fault q entry.index (break_at l entry) ++ errors_at next rest) (h q)
    ∙ ap (λ (l : List StreamFault). l ++ errors_at next rest) (sym (counter_at q (state_of q states) entry))
  where
    q : ℕ
    q = entry.packet.header.pid

    next : Lasts
    next = next_lasts lasts entry

-- The state and the errors after one packet.
record Stepped (lasts : Lasts) (states : States) (index : ℕ) (bytes : List ℕ) (r : Result PacketView PacketError) (rest : List Entry) : Type 0 where
  next : Lasts
  agree : Agree next (states_by index bytes states r)
  errors : errors_at lasts (filter is_sound (cons_option (entry_of index bytes r) rest))
      ≡ filter (is_by 4) (faults_of_all (findings_by index bytes states r)) ++ errors_at next (filter is_sound rest)

one : (lasts : Lasts) (states : States) (index : ℕ) (bytes : List ℕ) (r : Result PacketView PacketError) (rest : List Entry) → Agree lasts states →
    Stepped lasts states index bytes r rest
unfolding states_by findings_by entry_of faults_of_all faults_on
one lasts states index bytes (Err error) rest h = record { next = lasts; agree = h; errors = refl }
one lasts states index bytes (Ok packet) rest h =
    let c = cases packet.header.transport_error_indicator (packet.header.pid == 8191) refl in record { next = c.0; agree = c.1; errors = c.2 }
  where
    q : ℕ
    q = packet.header.pid

    entry : Entry
    entry = record { index = index; bytes = bytes; packet = packet }

    sound : List Entry
    sound = filter is_sound rest

    found : Bool → Bool → List FindingView
    found e z = cond e (without_pid index IsErrored ∷ []) (cond z [] (map (with_pid q index) (found_by (state_of q states) entry)))

    cases : (e z : Bool) → (q == 8191) ≡ z → (next : Lasts) × Agree next (cond e states (cond z states (with_state q (step (state_of q states) entry) states)))
        × (errors_at lasts (cond (not e) (entry ∷ sound) sound) ≡ filter (is_by 4) (faults_of_all (found e z)) ++ errors_at next sound)
    cases true z n = (lasts, h, refl)
    cases false true n = (lasts, h, null_packet lasts entry sound n)
    cases false false n = (next_lasts lasts entry, agree_next lasts states entry q h, real_packet lasts states entry sound n h)

along : (lasts : Lasts) (s : StreamState) (packets : List (List ℕ)) → s.packets + length packets < 2 ^ 64 → Agree lasts s.states →
    errors_at lasts (sound_in (enumerate_from s.packets packets)) ≡ filter (is_by 4) (faults_of_all (found_in_all s packets))
unfolding found_in_all found_in taken faults_of_all errors_from
along lasts s [] f h = refl
along lasts s (bytes ∷ packets) f h =
    let e : next_packet s.packets ≡ s.packets + 1 = omega arith in
    let p = one lasts s.states s.packets bytes (packet_at bytes) (filter_map (λ p. entry_of p.0 p.1 (packet_at p.1)) (enumerate_from (s.packets + 1) packets))
    h in
    p.errors
    ∙ ap (λ (l : List StreamFault). filter (is_by 4) (faults_of_all (found_in s bytes)) ++ l)
    (ap (λ (i : ℕ). errors_at p.next (sound_in (enumerate_from i packets))) (sym e) ∙ along p.next (taken s bytes) packets (omega arith) p.agree)
    ∙ sym (faults_append (found_in s bytes) (found_in_all (taken s bytes) packets))

-- 3. A whole stream

none_at_end : (packet : ℕ) (states : States) → filter (is_by 4) (faults_of_all (ended_found packet states)) ≡ []
unfolding ended_found faults_of_all
none_at_end packet [] = refl
none_at_end packet (x ∷ states) =
    faults_append (map (with_pid x.0 packet) (ended true x.1.open_unit)) (ended_found packet states)
    ∙ ap₂ (λ (a b : List StreamFault). a ++ b) (quiet_faults x.0 packet (ended true x.1.open_unit) (ended_quiet true x.1.open_unit)) (none_at_end packet states)

agree_first : Agree [] []
agree_first pid = refl

pub whole_errors : (bytes : List ℕ) → length bytes / 188 < 2 ^ 64 - 1 →
    filter (is_by 4) (faults_of_all (found_whole bytes)) ≡ map counter_fault (errors_from [] (sound_packets bytes))
whole_errors bytes n =
    let packets = cut_packets bytes in
    let s = taken_all start packets in
    let k : length packets ≡ length bytes / 188 = packet_count (length bytes / 188) bytes in
    faults_append (found_in_all start packets) (finished s).found
    ∙ ap₂ (λ (a b : List StreamFault). a ++ b) (sym (along [] start packets (omega arith) agree_first))
    (ap (λ (found : List FindingView). filter (is_by 4) (faults_of_all found)) (ended_whole bytes) ∙ none_at_end s.packets s.states)
    ∙ append-nil (map counter_fault (errors_from [] (sound_packets bytes)))

pub counter_law : CounterLaw
unfolding stream_report rule_number
counter_law rate limit bytes n =
    part_in_order (is_by 4) (faults_of rate limit bytes) (map counter_fault (errors_from [] (sound_packets bytes)))
    (λ z. ap (has z) (counter_group rate limit bytes)
    ∙ alike_filter (is_by 4) (findings_part bytes) (faults_of_all (found_whole bytes)) (λ y. sym (findings_alike bytes n y)) z
    ∙ ap (has z) (whole_errors bytes n))
