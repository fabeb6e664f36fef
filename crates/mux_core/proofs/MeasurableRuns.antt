-- Bytes that keep their promises can be measured if their units are declared; accepted units are declared.
use Rattle.std.proofs.Common.{◌≡◌, ℕ, suc, ◌+◌, ◌%◌, ◌&&◌, Bool, true, List, [], ◌∷◌, ◌++◌, length, slice_get, Option, Some, None, Ok, All, refl, subst}
use Rattle.std.proofs.Common.{arith}
use Rattle.std.specs.List.{list_all}
use Rattle.std.proofs.lemmas.Bool.{le-leb}
use Rattle.std.proofs.lemmas.List.Elements.{All-head, All-tail}
use Rattle.pes_packet.specs.AccessUnits.{AccessUnit}
use Rattle.pes_packet.specs.Units.{units_of}
use Rattle.ts_packet.specs.Reading.{packet_at}
use Rattle.ts_packet.proofs.Again.{packet_read}
use Rattle.description_parts.specs.Described.{Described, DescribedStream}
use Rattle.tstd.specs.Carried.{carries}
use Rattle.tstd.specs.Refusals.{first_unreadable, is_within, is_declared, all_carried}
use Rattle.unit_queue.specs.declared.refusal.FeedError.{FeedError}
use Rattle.unit_queue.specs.Causes.{own_cause, time_cause, room_cause, or_cause as or_feed_cause, is_late, is_full, over_cause, min_next_dts_of}
use Rattle.unit_queue.proofs.CauseLemmas.{or_none as feed_or_none, own_facts}
use Rattle.mux_core.specs.Rooms.{room_in}
use Rattle.mux_core.specs.Scheduled.{Scheduled}
use Rattle.mux_core.specs.Histories.{History, unchanged, owned_stream}
use Rattle.mux_core.specs.Headline.{Headline, IsTransportPacket}
use Rattle.mux_core.specs.MeasuredRuns.{MeasurableLaw, MeasuresWell}
use Rattle.mux_core.specs.MuxStates.{feed_cause}
use Rattle.mux_core.specs.WholeJobs.{job_history, or_cause, unit_refused, cause_after, first_refused}
use Rattle.mux_core.specs.declared.multiplexing.MuxError.{MuxError}
use Rattle.mux_core.specs.declared.room.Room.{Room}
use Rattle.mux_core.proofs.FedUnits.{accepted_on_air}
use Rattle.mux_core.proofs.MeasuredRuns.{measured}

and_true : (a b : Bool) → a ≡ true → b ≡ true → (a && b) ≡ true
and_true a b p q = rw (p, q) refl

-- No cause of refusal

first_none : (index : ℕ) (chunks : List (List ℕ)) → All IsTransportPacket chunks → first_unreadable index chunks ≡ None
unfolding first_unreadable
first_none index [] all = refl
first_none index (chunk ∷ chunks) all =
    let first = All-head IsTransportPacket chunk chunks all in
    let read : packet_at chunk ≡ Ok first.0 = packet_read chunk first.0 first.1 in
    rw read (first_none (index + 1) chunks (All-tail IsTransportPacket chunk chunks all))

each_carried : (d : Described) (units : List (ℕ × AccessUnit)) (bytes : List ℕ) (number : ℕ) (streams : List DescribedStream) →
    ((k : ℕ) (s : DescribedStream) → slice_get streams k ≡ Some s → carries s.pid s.stream_id d.base0 (units_of (number + k) units) bytes ≡ true) →
    all_carried d units bytes number streams ≡ true
unfolding all_carried
each_carried d units bytes number [] each = refl
each_carried d units bytes number (s ∷ streams) each =
    let here : number + 0 ≡ number = omega arith in
    let first : carries s.pid s.stream_id d.base0 (units_of number units) bytes ≡ true =
    subst (λ (n : ℕ). carries s.pid s.stream_id d.base0 (units_of n units) bytes ≡ true) here (each 0 s refl) in
    and_true _ _ first (each_carried d units bytes (number + 1) streams (λ k t e.
    let there : number + suc k ≡ number + 1 + k = omega arith in
    subst (λ (n : ℕ). carries t.pid t.stream_id d.base0 (units_of n units) bytes ≡ true) there (each (suc k) t e)))

pub measurable : MeasurableLaw
measurable d changes units slots bytes h declared =
    let whole : length bytes % 188 ≡ 0 = omega (arith, h.size) in
    let carried : all_carried d.description units bytes 0 d.description.streams ≡ true =
    each_carried d.description units bytes 0 d.description.streams (λ k s e.
    let at : k ≡ 0 + k = omega arith in
    subst (λ (n : ℕ). carries s.pid s.stream_id d.description.base0 (units_of n units) bytes ≡ true) at (h.streams k s e).carried) in
    rw (whole, first_none 0 _ h.packets, declared, carried) refl

-- Accepted units are declared

within : (d : Scheduled) (capacity : Room) (h : History) (k : ℕ) (u : AccessUnit) (o : Option DescribedStream) → feed_cause d capacity h k u o ≡ None →
    is_within (length u.bytes) o ≡ true
unfolding feed_cause
within d capacity h k u None e = absurd (let no : ⊥ = cc in no)
within d capacity h k u (Some s) e =
    let l = owned_stream d k s in
    let us = h.units k in
    let own = (feed_or_none (own_cause s.size s.pts_limit (min_next_dts_of l us) u)
    (or_feed_cause (time_cause (is_late l h.slots u) u.dts) (room_cause (is_full l h.slots (room_in capacity s) us) (over_cause l us u))) (accepted_on_air _ _ e).1).0 in
    let facts = own_facts s.size s.pts_limit (min_next_dts_of l us) u own in
    and_true _ _ (le-leb 1 (length u.bytes) facts.some) (le-leb (length u.bytes) s.size (omega (arith, facts.most)))

both_none : (a b : Option MuxError) → or_cause a b ≡ None → (a ≡ None) × (b ≡ None)
unfolding or_cause
both_none (Some x) b e = absurd (let no : ⊥ = cc in no)
both_none None b e = (refl, e)

not_refused : (index : ℕ) (o : Option FeedError) → unit_refused index o ≡ None → o ≡ None
unfolding unit_refused
not_refused index None e = refl
not_refused index (Some cause) e = absurd (let no : ⊥ = cc in no)

pub accepted_declared : (d : Scheduled) (capacity : Room) (fed rest : List (ℕ × AccessUnit)) → first_refused d capacity fed rest ≡ None →
    list_all (is_declared d.description) rest ≡ true
unfolding first_refused
accepted_declared d capacity fed [] e = refl
accepted_declared d capacity fed (entry ∷ rest) e =
    let parts = both_none (unit_refused (length fed) (cause_after d capacity fed entry)) (first_refused d capacity (fed ++ (entry ∷ [])) rest) e in
    let none = not_refused (length fed) (cause_after d capacity fed entry) parts.0 in
    and_true _ _ (within d capacity (job_history fed 0) entry.0 entry.1 (slice_get d.description.streams entry.0) none)
    (accepted_declared d capacity (fed ++ (entry ∷ [])) rest parts.1)

-- The bytes can be measured, and no fault is found

pub measures_well : (d : Scheduled) (units : List (ℕ × AccessUnit)) (slots : ℕ) (bytes : List ℕ) → Headline d (λ k. units_of k units) slots bytes →
    list_all (is_declared d.description) units ≡ true → MeasuresWell d units bytes
measures_well d units slots bytes h declared = record {
  not_refused = measurable d unchanged units slots bytes h declared;
  no_fault = λ found streams programs late. measured d unchanged units slots bytes found h streams programs late;
}
