-- A view and the stream have the same findings of tables on each PID until a stream's buffers begin on it; after that the view has none.
use Rattle.std.proofs.Common.{◌≡◌, ◌∙◌, ℕ, ◌==◌, Bool, true, false, cond, nat_eq, List, [], ◌∷◌, length, map}
use Rattle.std.proofs.Common.{◌⊎◌, inl, inr, Option, Some, None, Result, Ok, Err, refl, sym, ap, ap₂, subst}
use Rattle.std.specs.Prelude.{is_some}
use Rattle.std.specs.Map.{lookup}
use Rattle.indexmap.specs.IndexMap.{insert_entry}
use Rattle.ts_packet.specs.declared.packet.PacketError.{PacketError}
use Rattle.ts_packet.specs.Packets.{null_packet}
use Rattle.ts_packet.specs.Views.{PacketView}
use Rattle.ts_packet.specs.Reading.{packet_at}
use Rattle.ts_packet.specs.PidList.{Entry}
use Rattle.ts_packet.proofs.PlainWritten.{null_again}
use Rattle.pid_findings.specs.Views.{FindingView, Found, IsErrored}
use Rattle.pid_findings.specs.Machine.{PidState, found_by, step}
use Rattle.pid_findings.specs.Shown.{with_pid}
use Rattle.pid_findings.specs.Bodies.{all_without_body, found_without_body, state_without_body}
use Rattle.demux.specs.StreamBodies.{headers_pushed, headers_taken, states_without_bodies}
use Rattle.demux.specs.Stream.{States, StreamState, entry_of, findings_by, found_in, next_packet, pushed, state_of, states_by, taken, with_state}
use Rattle.demux.specs.FoundSoFar.{with_found}
use Rattle.pid_findings.proofs.Bodies.{bodies_decide_nothing, state_again}
use Rattle.laws_view.proofs.InsertedEntries.{kept, same_number, turned_test}
use Rattle.stream_programs.specs.Streams.{FoundStreamView}
use Rattle.es_events.specs.declared.view_options.ViewOptions.{ViewOptions}
use Rattle.es_view.specs.Entries.{EntryState}
use Rattle.es_events.specs.Clocks.{ClockEntries}
use Rattle.ts_watch.specs.TableEvents.{TablesState, TakesPackets}
use Rattle.ts_watch.proofs.TablePackets.{null_found, pushed_forgotten, pushed_found, taken_takes}
use Rattle.ts_report.specs.Seen.{SeenState, with_counter_read}
use Rattle.ts_report.specs.StreamTables.{TableState, begun_if, beginning, has_stream, taken_at, taken_if}
use Rattle.ts_report.specs.Views.{ViewState, after_packet, after_read, clocked, with_begun, with_packet, with_tables, without, without_stream}
use Rattle.ts_report.specs.Seen as seeing

-- 1. The streams of a view stay

has_after_insert : (pid q x : ℕ) (places : List (ℕ × ℕ)) → is_some (lookup (nat_eq pid) (insert_entry nat_eq places q x)) ≡ false →
    is_some (lookup (nat_eq pid) places) ≡ false
has_after_insert pid q x places h = by (q == pid) refl
  where
    by : (t : Bool) → (q == pid) ≡ t → is_some (lookup (nat_eq pid) places) ≡ false
    by true e = absurd (let k = kept pid q x places true e in let no : ⊥ = cc in no)
    by false e = ap (λ (o : Option ℕ). is_some o) (sym (kept pid q x places false e)) ∙ h

begun_keeps : (options : ViewOptions) (s : ViewState) (packet : PacketView) (pid : ℕ) (o : Option FoundStreamView) →
    has_stream (begun_if options s.seen.named s.table packet o) pid ≡ false → has_stream s.table pid ≡ false
unfolding begun_if
begun_keeps options s packet pid None h = h
begun_keeps options s packet pid (Some stream) h = has_after_insert pid packet.header.pid (length s.table.entries) s.table.places h

at_keeps : (options : ViewOptions) (index window : ℕ) (clocks : ClockEntries) (t : TableState) (packet : PacketView) (place : ℕ) (o : Option EntryState) →
    (taken_at options index window clocks t packet place o).places ≡ t.places
unfolding taken_at
at_keeps options index window clocks t packet place None = refl
at_keeps options index window clocks t packet place (Some e) = refl

taken_keeps : (options : ViewOptions) (index window : ℕ) (clocks : ClockEntries) (t : TableState) (packet : PacketView) (o : Option ℕ) →
    (taken_if options index window clocks t packet o).places ≡ t.places
unfolding taken_if
taken_keeps options index window clocks t packet None = refl
taken_keeps options index window clocks t packet (Some place) = at_keeps options index window clocks t packet place _

pub packet_keeps : (s : ViewState) (packet : PacketView) (pid : ℕ) → has_stream (with_packet s packet).table pid ≡ false → has_stream s.table pid ≡ false
packet_keeps s packet pid h =
    begun_keeps s.seen.options (clocked s packet) packet pid (beginning s.seen.named s.table packet)
    (ap (λ (places : List (ℕ × ℕ)). is_some (lookup (nat_eq pid) places))
    (sym (taken_keeps s.seen.options s.seen.packets (seeing.next_window (clocked s packet).seen) (clocked s packet).seen.clocks
    (with_begun (clocked s packet) packet)
    packet _)) ∙ h)

-- 2. The state that is kept

pub record Alike (s : ViewState) (o : StreamState) : Type 0 where
  pub takes : TakesPackets s.seen.tables.demux
  pub packets : s.seen.tables.demux.packets ≡ o.packets
  pub states : (pid : ℕ) → has_stream s.table pid ≡ false →
      state_without_body (state_of pid s.seen.tables.demux.states) ≡ state_without_body (state_of pid o.states)

pub read_alike : (s : ViewState) (o : StreamState) (r : Result PacketView PacketError) → Alike s o → Alike (after_read s r) o
unfolding after_read
read_alike s o (Err error) h = record { takes = h.takes; packets = h.packets; states = h.states }
read_alike s o (Ok packet) h = by packet.header.transport_error_indicator
  where
    by : (t : Bool) → Alike (cond t (without s) (with_packet s packet)) o
    by true = record { takes = h.takes; packets = h.packets; states = h.states }
    by false = record { takes = h.takes; packets = h.packets; states = λ pid none. h.states pid (packet_keeps s packet pid none) }

-- 3. Findings without bodies

with_pid_left : (q index : ℕ) (found : List Found) →
    all_without_body (map (with_pid q index) found) ≡ map (with_pid q index) (map found_without_body found)
with_pid_left q index [] = refl
with_pid_left q index (f ∷ found) =
    ap (λ (rest : List FindingView). with_pid q index (found_without_body f) ∷ rest) (with_pid_left q index found)

one_pid : (q index : ℕ) (v o : PidState) (entry : Entry) → state_without_body v ≡ state_without_body o →
    all_without_body (map (with_pid q index) (found_by v entry)) ≡ all_without_body (map (with_pid q index) (found_by o entry))
one_pid q index v o entry e =
    with_pid_left q index (found_by v entry)
    ∙ ap (map (with_pid q index)) (sym (bodies_decide_nothing v entry).0
    ∙ ap (λ (s : PidState). map found_without_body (found_by s entry)) e ∙ (bodies_decide_nothing o entry).0)
    ∙ sym (with_pid_left q index (found_by o entry))

step_alike : (v o : PidState) (entry : Entry) → state_without_body v ≡ state_without_body o →
    state_without_body (step v entry) ≡ state_without_body (step o entry)
step_alike v o entry e =
    sym (bodies_decide_nothing v entry).1 ∙ ap (λ (s : PidState). state_without_body (step s entry)) e ∙ (bodies_decide_nothing o entry).1

-- 4. States of PIDs

state_by : (b : Bool) (x y z : PidState) → z ≡ state_without_body y → cond b (state_without_body x) z ≡ state_without_body (cond b x y)
state_by true x y z e = refl
state_by false x y z e = e

state_left : (pid : ℕ) (states : States) → state_of pid (states_without_bodies states) ≡ state_without_body (state_of pid states)
state_left pid [] = refl
state_left pid (x ∷ states) = state_by (pid == x.0) x.1 (state_of pid states) _ (state_left pid states)

-- Removing bodies twice equals removing them once.
left_twice : (pid : ℕ) (states : States) → state_without_body (state_of pid (states_without_bodies states)) ≡ state_without_body (state_of pid states)
left_twice pid states = ap state_without_body (state_left pid states) ∙ state_again (state_of pid states)

pub state_kept : (pid q : ℕ) (state : PidState) (states : States) (t : Bool) → (q == pid) ≡ t →
    state_of pid (with_state q state states) ≡ cond t state (state_of pid states)
state_kept pid q state [] t e = rw (turned_test pid q ∙ e) refl
state_kept pid q state (y ∷ es) t e = by t e (q == y.0) refl (state_kept pid q state es t e)
  where
    by : (t : Bool) → (q == pid) ≡ t → (u : Bool) → (q == y.0) ≡ u → state_of pid (with_state q state es) ≡ cond t state (state_of pid es) →
        state_of pid (cond u ((y.0, state) ∷ es) (y ∷ with_state q state es)) ≡ cond t state (cond (pid == y.0) y.1 (state_of pid es))
    by true e true f h = let g : (pid == y.0) ≡ true = subst (λ (n : ℕ). (n == y.0) ≡ true) (same_number q pid e) f in rw g refl
    by false e true f h = let g : (pid == y.0) ≡ false = subst (λ (n : ℕ). (pid == n) ≡ false) (same_number q y.0 f) (turned_test pid q ∙ e) in rw g refl
    by true e false f h = let g : (pid == y.0) ≡ false = subst (λ (n : ℕ). (n == y.0) ≡ false) (same_number q pid e) f in rw g h
    by false e false f h = ap (λ (s : PidState). cond (pid == y.0) y.1 s) h

-- A packet of another PID leaves the state of a PID as it is.
others_stay : (pid index : ℕ) (bytes : List ℕ) (states : States) (packet : PacketView) → (packet.header.pid == pid) ≡ false →
    state_of pid (states_by index bytes states (Ok packet)) ≡ state_of pid states
unfolding states_by
others_stay pid index bytes states packet e = by packet.header.transport_error_indicator (packet.header.pid == 8191)
  where
    q : ℕ
    q = packet.header.pid

    next : States
    next = with_state q (step (state_of q states) (entry_of index bytes packet)) states

    by : (t z : Bool) → state_of pid (cond t states (cond z states next)) ≡ state_of pid states
    by true z = refl
    by false true = refl
    by false false = state_kept pid q (step (state_of q states) (entry_of index bytes packet)) states false e

-- 5. A packet that the view looks at

record Step (t : TableState) (index : ℕ) (bytes : List ℕ) (vs os : States) (r : Result PacketView PacketError) : Type 0 where
  found : all_without_body (findings_by index bytes vs r) ≡ all_without_body (findings_by index bytes os r)
  states : (pid : ℕ) → has_stream t pid ≡ false →
      state_without_body (state_of pid (states_by index bytes vs r)) ≡ state_without_body (state_of pid (states_by index bytes os r))

-- The PID of the packet, if it can be read, has no stream.
unfoldable pub IsLookedAt : TableState → Result PacketView PacketError → Type 0
IsLookedAt t (Err error) = Unit {0}
IsLookedAt t (Ok packet) = has_stream t packet.header.pid ≡ false

-- The packet can be read, and its PID has a stream.
unfoldable pub IsOfStream : TableState → Result PacketView PacketError → Type 0
IsOfStream t (Err error) = ⊥
IsOfStream t (Ok packet) = has_stream t packet.header.pid ≡ true

-- Either the packet belongs to a stream and has no findings, or it has the findings of the stream.
abbrev pub FindsAlike : TableState → List FindingView → StreamState → List ℕ → Type 0
FindsAlike t found o bytes = ((found ≡ []) × IsOfStream t (packet_at bytes))
    ⊎ ((all_without_body found ≡ all_without_body (found_in o bytes)) × IsLookedAt t (packet_at bytes))

looked_at : (t : TableState) (index : ℕ) (bytes : List ℕ) (vs os : States) (r : Result PacketView PacketError) →
    ((pid : ℕ) → has_stream t pid ≡ false → state_without_body (state_of pid vs) ≡ state_without_body (state_of pid os)) → IsLookedAt t r →
    Step t index bytes vs os r
unfolding findings_by states_by IsLookedAt
looked_at t index bytes vs os (Err error) h none = record { found = refl; states = h }
looked_at t index bytes vs os (Ok packet) h none =
    let c = cases packet.header.transport_error_indicator (packet.header.pid == 8191) in record { found = c.0; states = c.1 }
  where
    q : ℕ
    q = packet.header.pid

    entry : Entry
    entry = entry_of index bytes packet

    next : States → States
    next states = with_state q (step (state_of q states) entry) states

    reported : Bool → Bool → States → List FindingView
    reported e z states = cond e (seen_wrong ∷ []) (cond z [] (map (with_pid q index) (found_by (state_of q states) entry)))
      where
        seen_wrong : FindingView
        seen_wrong = record { packet = index; pid = None; begun = None; what = IsErrored }

    kept_in : (pid : ℕ) → (b : Bool) → (q == pid) ≡ b → has_stream t pid ≡ false →
        state_without_body (state_of pid (next vs)) ≡ state_without_body (state_of pid (next os))
    kept_in pid true e free =
        ap state_without_body (state_kept pid q (step (state_of q vs) entry) vs true e)
        ∙ step_alike (state_of q vs) (state_of q os) entry (h q none)
        ∙ ap state_without_body (sym (state_kept pid q (step (state_of q os) entry) os true e))
    kept_in pid false e free =
        ap state_without_body (state_kept pid q (step (state_of q vs) entry) vs false e)
        ∙ h pid free
        ∙ ap state_without_body (sym (state_kept pid q (step (state_of q os) entry) os false e))

    cases : (e z : Bool) → (all_without_body (reported e z vs) ≡ all_without_body (reported e z os))
        × ((pid : ℕ) → has_stream t pid ≡ false →
        state_without_body (state_of pid (cond e vs (cond z vs (next vs)))) ≡ state_without_body (state_of pid (cond e os (cond z os (next os)))))
    cases true z = (refl, h)
    cases false true = (refl, h)
    cases false false = (one_pid q index (state_of q vs) (state_of q os) entry (h q none), λ pid free. kept_in pid (q == pid) refl free)

-- 6. One packet of a view

-- The view looks at the packets of the stream, with a null packet in place of each packet whose PID has buffers.
pub counter_keeps : (x : SeenState) (bytes : List ℕ) (r : Result PacketView PacketError) → (with_counter_read x bytes r).tables ≡ x.tables
unfolding with_counter_read
counter_keeps x bytes (Err error) = refl
counter_keeps x bytes (Ok packet) = by packet.header.transport_error_indicator
  where
    by : (t : Bool) → (cond t x (seeing.with_counter x (seeing.counted_entry x bytes packet))).tables ≡ x.tables
    by true = refl
    by false = refl

-- The tables of a view after some bytes
record Taken (t : TableState) (d o : StreamState) (given bytes : List ℕ) : Type 0 where
  found : FindsAlike t (pushed d given).found o bytes
  demux : with_found [] (headers_pushed d given) ≡ headers_taken d given
  takes : TakesPackets (headers_taken d given)
  packets : (headers_taken d given).packets ≡ (taken o bytes).packets
  states : (pid : ℕ) → has_stream t pid ≡ false →
      state_without_body (state_of pid (headers_taken d given).states) ≡ state_without_body (state_of pid (taken o bytes).states)

abbrev AgreeIn : TableState → StreamState → StreamState → Type 0
AgreeIn t d o = (pid : ℕ) → has_stream t pid ≡ false → state_without_body (state_of pid d.states) ≡ state_without_body (state_of pid o.states)

plain_taken : (t : TableState) (d o : StreamState) (bytes : List ℕ) → length bytes ≡ 188 → TakesPackets d → d.packets ≡ o.packets → AgreeIn t d o →
    IsLookedAt t (packet_at bytes) → Taken t d o bytes bytes
unfolding taken found_in
plain_taken t d o bytes size takes count h none =
    let step = looked_at t o.packets bytes d.states o.states (packet_at bytes) h none in
    record {
      found = inr (
        ap all_without_body (pushed_found d bytes takes size)
            ∙ ap (λ (i : ℕ). all_without_body (findings_by i bytes d.states (packet_at bytes))) count ∙ step.found,
        none,
      );
      demux = pushed_forgotten d bytes takes size;
      takes = taken_takes d bytes takes;
      packets = ap next_packet count;
      states = λ pid free. left_twice pid (states_by d.packets bytes d.states (packet_at bytes))
          ∙ ap (λ (i : ℕ). state_without_body (state_of pid (states_by i bytes d.states (packet_at bytes)))) count ∙ step.states pid free;
    }

null_states : (index : ℕ) (states : States) → states_by index null_packet states (packet_at null_packet) ≡ states
unfolding states_by
null_states index states = rw (null_again.read) refl

pub other_pid : (t : TableState) (q pid : ℕ) → has_stream t q ≡ true → has_stream t pid ≡ false → (q == pid) ≡ false
other_pid t q pid there free = by (q == pid) refl
  where
    by : (b : Bool) → (q == pid) ≡ b → b ≡ false
    by true e = absurd (let k : has_stream t pid ≡ true = subst (λ (n : ℕ). has_stream t n ≡ true) (same_number q pid e) there in let no : ⊥ = cc in no)
    by false e = refl

null_taken : (t : TableState) (d o : StreamState) (bytes : List ℕ) (packet : PacketView) → TakesPackets d → d.packets ≡ o.packets → AgreeIn t d o →
    packet_at bytes ≡ Ok packet → has_stream t packet.header.pid ≡ true → Taken t d o null_packet bytes
unfolding taken IsOfStream
null_taken t d o bytes packet takes count h e there = record {
  found = inl (pushed_found d null_packet takes null_again.size ∙ null_found d, subst (IsOfStream t) (sym e) there);
  demux = pushed_forgotten d null_packet takes null_again.size;
  takes = taken_takes d null_packet takes;
  packets = ap next_packet count;
  states = λ pid free. left_twice pid (states_by d.packets null_packet d.states (packet_at null_packet))
      ∙ ap (λ (states : States). state_without_body (state_of pid states)) (null_states d.packets d.states)
      ∙ h pid free
      ∙ ap state_without_body (sym (others_stay pid o.packets bytes o.states packet (other_pid t packet.header.pid pid there free)))
      ∙ ap (λ (r : Result PacketView PacketError). state_without_body (state_of pid (states_by o.packets bytes o.states r))) (sym e);
}

given_taken : (s : ViewState) (o : StreamState) (bytes : List ℕ) (r : Result PacketView PacketError) → packet_at bytes ≡ r → length bytes ≡ 188 → Alike s o →
    Taken s.table s.seen.tables.demux o (without_stream s bytes r) bytes
unfolding without_stream IsLookedAt
given_taken s o bytes (Err error) e size h =
    plain_taken s.table s.seen.tables.demux o bytes size h.takes h.packets h.states (subst (IsLookedAt s.table) (sym e) tt)
given_taken s o bytes (Ok packet) e size h = by (has_stream s.table packet.header.pid) refl
  where
    by : (b : Bool) → has_stream s.table packet.header.pid ≡ b → Taken s.table s.seen.tables.demux o (cond b null_packet bytes) bytes
    by true there = null_taken s.table s.seen.tables.demux o bytes packet h.takes h.packets h.states e there
    by false free = plain_taken s.table s.seen.tables.demux o bytes size h.takes h.packets h.states (subst (IsLookedAt s.table) (sym e) free)

alike_by : (v : ViewState) (o d : StreamState) → v.seen.tables.demux ≡ d → TakesPackets d → d.packets ≡ o.packets → AgreeIn v.table d o → Alike v o
alike_by v o d e takes count h = record {
  takes = subst TakesPackets (sym e) takes;
  packets = ap (λ (x : StreamState). x.packets) e ∙ count;
  states = λ pid free. ap (λ (x : StreamState). state_without_body (state_of pid x.states)) e ∙ h pid free;
}

-- The tables of a view after a packet
pub record Next (s : ViewState) (o : StreamState) (bytes : List ℕ) : Type 0 where
  pub alike : Alike (after_packet s bytes) (taken o bytes)
  pub found : FindsAlike (after_read s (packet_at bytes)).table
      (pushed (after_read s (packet_at bytes)).seen.tables.demux (without_stream (after_read s (packet_at bytes)) bytes (packet_at bytes))).found o bytes

pub next : (s : ViewState) (o : StreamState) (bytes : List ℕ) → length bytes ≡ 188 → Alike s o → Next s o bytes
next s o bytes size h =
    let v : ViewState = after_read s (packet_at bytes) in
    let k = given_taken v o bytes (packet_at bytes) refl size (read_alike s o (packet_at bytes) h) in
    let same = ap (λ (t : TablesState). t.demux) (counter_keeps (with_tables v bytes).seen bytes (packet_at bytes)) in
    record {
      alike = alike_by (after_packet s bytes) (taken o bytes) (headers_taken v.seen.tables.demux (without_stream v bytes (packet_at bytes)))
          (same ∙ k.demux) k.takes k.packets k.states;
      found = k.found;
    }
