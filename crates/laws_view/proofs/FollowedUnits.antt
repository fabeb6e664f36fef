-- In a view each packet of a PID that carries units goes with its unit. Once a clock reference has come, the view reads the stamp of a unit that begins and
-- finds it due by the clock.
use Rattle.std.proofs.Common.{◌≡◌, ◌∙◌, ◌⊎◌, sym, ℕ, zero, suc, ◌+◌, ◌%◌, Bool, true, false, List, [], ◌∷◌, ◌++◌, Option, Some, None, if◌then◌else◌, refl, ap}
use Rattle.std.proofs.Common.{subst, inl, inr, nat_eq, arith}
use Rattle.std.specs.Prelude.{is_some, slice_get}
use Rattle.std.specs.Option.{option_or}
use Rattle.std.proofs.lemmas.Bool.{cases_Bool}
use Rattle.ts_packet.specs.Views.{PacketView}
use Rattle.ts_packet.specs.Reading.{packet_at}
use Rattle.ts_packet.specs.PidList.{Entry}
use Rattle.pes_packet.specs.AccessUnits.{AccessUnit}
use Rattle.arrival.specs.declared.clock.PcrSample.{PcrSample}
use Rattle.arrival.specs.Arrivals.{step_of}
use Rattle.arrival.specs.declared.arrival.Arrival.TheVariants.{AtRate}
use Rattle.tstd_rows.specs.ConstantRate.{due_time}
use Rattle.tstd_rows.specs.declared.unit_seen.DueTime.{DueTime}
use Rattle.tstd_rows.specs.declared.arriving.Arriving.{Arriving}
use Rattle.es_events.specs.declared.view_options.ViewOptions.{ViewOptions}
use Rattle.es_events.specs.declared.clocks.Beginning.{Beginning}
use Rattle.es_events.specs.declared.clocks.Beginning.TheVariants.{Nothing, Stamped}
use Rattle.es_events.specs.Clocks.{beginning_of}
use Rattle.es_view.specs.Entries.{arriving, beginning_in, due_by}
use Rattle.es_view.specs.LastPayloads.{LastView, counter_after, is_repeated, same_counter}
use Rattle.laws_view.specs.StreamPackets.{Before, Followed, clock_in, clock_with, clocks_seen, known_after, reference_in, seen_among, seen_in, sound_packet}
use Rattle.laws_view.specs.CarriedStreams.{GoesBy}
use Rattle.laws_view.proofs.Lists.{apart, some_is}
use Rattle.laws_view.proofs.StreamIndices.{index_more}
use Rattle.laws_view.proofs.MainBytes.{due_with}
use Rattle.laws_view.proofs.KeptBytes.{Follows}
use Rattle.laws_view.proofs.SentUnits.{AllSent, IsSent, number_after, wire_dts}
use Rattle.laws_view.proofs.DueByClock.{due_by_clock}
use Rattle.laws_view.proofs.ClockAhead.{entries_from, listed}

-- The clock reference of a unit that begins with a packet

abbrev pub BeginsBy : ℕ → ℕ → Entry → AccessUnit → Option PcrSample → Type 0
BeginsBy rate base0 e u clock = (k : PcrSample) → e.packet.header.payload_unit_start_indicator ≡ true → clock ≡ Some k → GoesBy rate base0 k u

unfoldable pub Clocked : ℕ → ℕ → List Entry → List AccessUnit → List (Option PcrSample) → Type 0
Clocked rate base0 [] us clocks = Unit {0}
Clocked rate base0 (e ∷ es) [] clocks = Unit {0}
Clocked rate base0 (e ∷ es) (u ∷ us) [] = Unit {0}
Clocked rate base0 (e ∷ es) (u ∷ us) (clock ∷ clocks) = BeginsBy rate base0 e u clock × Clocked rate base0 es us clocks

-- `Clocked` by the numbers of the entries
abbrev pub ClockedAt : ℕ → ℕ → List Entry → List AccessUnit → List (Option PcrSample) → Type 0
ClockedAt rate base0 es us clocks = (j : ℕ) (e : Entry) (u : AccessUnit) (k : PcrSample) → slice_get es j ≡ Some e → slice_get us j ≡ Some u →
    e.packet.header.payload_unit_start_indicator ≡ true → slice_get clocks j ≡ Some (Some k) → GoesBy rate base0 k u

pub clocked_by_number : (rate base0 : ℕ) (es : List Entry) (us : List AccessUnit) (clocks : List (Option PcrSample)) → ClockedAt rate base0 es us clocks →
    Clocked rate base0 es us clocks
unfolding Clocked
clocked_by_number rate base0 [] us clocks h = tt
clocked_by_number rate base0 (e ∷ es) [] clocks h = tt
clocked_by_number rate base0 (e ∷ es) (u ∷ us) [] h = tt
clocked_by_number rate base0 (e ∷ es) (u ∷ us) (clock ∷ clocks) h = (
  λ k starts is. h 0 e u k refl refl starts (ap (λ (c : Option PcrSample). Some c) is),
  clocked_by_number rate base0 es us clocks (λ j f v k found sender starts is. h (suc j) f v k found sender starts is),
)

pub number_clocked : (rate base0 : ℕ) (es : List Entry) (us : List AccessUnit) (clocks : List (Option PcrSample)) → Clocked rate base0 es us clocks →
    ClockedAt rate base0 es us clocks
unfolding Clocked
number_clocked rate base0 [] us clocks h j e u k found sender starts is = absurd (let no : ⊥ = cc in no)
number_clocked rate base0 (f ∷ es) [] clocks h j e u k found sender starts is = absurd (let no : ⊥ = cc in no)
number_clocked rate base0 (f ∷ es) (v ∷ us) [] h j e u k found sender starts is = absurd (let no : ⊥ = cc in no)
number_clocked rate base0 (f ∷ es) (v ∷ us) (clock ∷ clocks) h zero e u k found sender starts is =
    let entry : f ≡ e = some_is f e found in
    let unit : v ≡ u = some_is v u sender in
    let here : clock ≡ Some k = some_is clock (Some k) is in
    subst (λ (w : AccessUnit). GoesBy rate base0 k w) unit
    (h.0 k (subst (λ (x : Entry). x.packet.header.payload_unit_start_indicator ≡ true) (sym entry) starts) here)
number_clocked rate base0 (f ∷ es) (v ∷ us) (clock ∷ clocks) h (suc j) e u k found sender starts is =
    number_clocked rate base0 es us clocks h.1 j e u k found sender starts is

-- Before payload packet n of the PID: the last counter, the unit of the last packet, and no open unit before the first clock reference.
pub record Known (rate : ℕ) (f : Followed) (n : ℕ) (b : Before) (before : Option AccessUnit) (due : Option DueTime) : Type 0 where
  pub counter : (b.last.counter ≡ None) ⊎ (b.last.counter ≡ Some ((n + 15) % 16))
  pub goes : (due ≡ None) ⊎ ((u : AccessUnit) × ((before ≡ Some u) × (due ≡ Some (due_time rate f.rx u.dts))))
  pub none : b.clock ≡ None → due ≡ None

-- The counter of the packet differs from the last one.
other_counter : (n : ℕ) (o : Option ℕ) → (o ≡ None) ⊎ (o ≡ Some ((n + 15) % 16)) → same_counter o (n % 16) ≡ false
unfolding same_counter
other_counter n o (inl none) = rw none refl
other_counter n o (inr some) = rw some (apart ((n + 15) % 16) (n % 16) (λ same. omega (arith, same)))

not_repeated : (n : ℕ) (last : LastView) (packet : PacketView) → (is_some packet.payload ≡ true → packet.header.continuity_counter ≡ n % 16) →
    (last.counter ≡ None) ⊎ (last.counter ≡ Some ((n + 15) % 16)) → is_repeated last packet ≡ false
not_repeated n last packet counter known = elim (cases_Bool (is_some packet.payload)) [
  | inl some ↦ rw (some, counter some, other_counter n last.counter known) refl
  | inr none ↦ rw none refl
]

next_counter : (n : ℕ) (o : Option ℕ) (index : ℕ) (bytes : List ℕ) (packet : PacketView) →
    (is_some packet.payload ≡ true → packet.header.continuity_counter ≡ n % 16) →
    (o ≡ None) ⊎ (o ≡ Some ((n + 15) % 16)) →
    (counter_after o packet ≡ None) ⊎ (counter_after o packet ≡ Some ((number_after n (record { index = index; bytes = bytes; packet = packet }) + 15) % 16))
next_counter n o index bytes packet counter known = elim (cases_Bool (is_some packet.payload)) [
  | inl some ↦ let same : n % 16 ≡ (suc n + 15) % 16 = omega arith in inr (rw (some, counter some, same) refl)
  | inr none ↦ rw none known
]

-- When a unit that begins with the packet is due
due_reported : (rate base0 : ℕ) (f : Followed) (clock : Option PcrSample) (u : AccessUnit) → f.options.arrival ≡ AtRate rate →
    ((k : PcrSample) → clock ≡ Some k → GoesBy rate base0 k u) →
    (clock ≡ None) ⊎ (due_by f.options f.rx clock (Stamped (wire_dts base0 u)) ≡ Some (due_time rate f.rx u.dts))
unfolding due_by step_of
due_reported rate base0 f None u at_rate goes = inl refl
due_reported rate base0 f (Some k) u at_rate goes = inr (rw (at_rate, due_by_clock rate f.rx base0 k u (goes k refl)) refl)

no_due : (options : ViewOptions) (rx : ℕ) (clock : Option PcrSample) → due_by options rx clock Nothing ≡ None
unfolding due_by
no_due options rx None = refl
no_due options rx (Some clock) = refl

none_due : (options : ViewOptions) (rx : ℕ) (clock : Option PcrSample) (beginning : Beginning) → clock ≡ None → due_by options rx clock beginning ≡ None
unfolding due_by
none_due options rx clock beginning e = rw e refl

-- If no clock is known with the packet, none was known before it.
earlier : (w : Bool) (o c : Option PcrSample) → (if w then option_or o c else c) ≡ None → c ≡ None
earlier true None c e = e
earlier true (Some s) c e = absurd (let no : ⊥ = cc in no)
earlier false o c e = e

-- The packet goes with its unit, or no unit has begun.
goes_with : (rate base0 : ℕ) (f : Followed) (n : ℕ) (b : Before) (before : Option AccessUnit) (due : Option DueTime) (e : Entry) (u : AccessUnit)
    (now : Option PcrSample) →
    f.options.arrival ≡ AtRate rate → Known rate f n b before due → (now ≡ None → due ≡ None) → IsSent base0 n before e u → BeginsBy rate base0 e u now →
    (due_with (due_by f.options f.rx now (beginning_of e.packet)) due ≡ None) ⊎
    (due_with (due_by f.options f.rx now (beginning_of e.packet)) due ≡ Some (due_time rate f.rx u.dts))
goes_with rate base0 f n b before due e u now at_rate known nothing_yet sent clock = elim sent.begins [
  | inl stamped ↦ elim (due_reported rate base0 f now u at_rate (λ k is. clock k stamped.0 is)) [
    | inl nothing ↦ inl (rw (none_due f.options f.rx now (beginning_of e.packet) nothing, nothing_yet nothing) refl)
    | inr some ↦ inr (rw (stamped.1, some) refl)
  ]
  | inr goes ↦
      let nothing : due_by f.options f.rx now (beginning_of e.packet) ≡ None = ap (λ (x : Beginning). due_by f.options f.rx now x) goes.0
      ∙ no_due f.options f.rx now in
      elim known.goes [
        | inl nought ↦ inl (rw (nothing, nought) refl)
        | inr of ↦
            let same : of.0 ≡ u = some_is of.0 u (sym of.1.0 ∙ goes.1) in
            inr (rw nothing (of.1.1 ∙ ap (λ (v : AccessUnit). Some (due_time rate f.rx v.dts)) same))
      ]
]

-- The packet enters and goes with its unit, and the next packet finds `Known`.
pub record Goes (rate : ℕ) (f : Followed) (n : ℕ) (b : Before) (packet : PacketView) (due : Option DueTime) (u : AccessUnit) (p : Arriving) : Type 0 where
  pub enters : p.enters ≡ true
  pub unit : (due_with p.begins due ≡ None) ⊎ (due_with p.begins due ≡ Some (due_time rate f.rx u.dts))
  pub known : Known rate f n (known_after f b (Some packet)) (Some u) (due_with p.begins due)

packet_goes : (rate base0 : ℕ) (f : Followed) (n : ℕ) (b : Before) (before : Option AccessUnit) (due : Option DueTime) (bytes : List ℕ) (packet : PacketView)
    (u : AccessUnit) →
    f.options.arrival ≡ AtRate rate → nat_eq f.pid packet.header.pid ≡ true → Known rate f n b before due →
    IsSent base0 n before (record { index = b.index; bytes = bytes; packet = packet }) u →
    BeginsBy rate base0 (record { index = b.index; bytes = bytes; packet = packet }) u (clock_with f.options f.clock_pid b.index packet b.clock) →
    Goes rate f (number_after n (record { index = b.index; bytes = bytes; packet = packet })) b packet due u
    (arriving f.options b.index f.rx b.last (clock_with f.options f.clock_pid b.index packet b.clock) packet)
unfolding known_after
packet_goes rate base0 f n b before due bytes packet u at_rate own known sent clock =
    let e : Entry = record { index = b.index; bytes = bytes; packet = packet } in
    let now : Option PcrSample = clock_with f.options f.clock_pid b.index packet b.clock in
    let nothing_yet : clock_with f.options f.clock_pid b.index packet b.clock ≡ None → due ≡ None =
    λ nothing. known.none (earlier (nat_eq f.clock_pid packet.header.pid) (reference_in f.options b.index packet) b.clock nothing) in
    let new : is_repeated b.last packet ≡ false = not_repeated n b.last packet sent.counter known.counter in
    let begins : due_by f.options f.rx now (beginning_in b.last packet) ≡ due_by f.options f.rx now (beginning_of packet) = rw new refl in
    let with_unit = goes_with rate base0 f n b before due e u now at_rate known nothing_yet sent clock in
    let is : (due_with (due_by f.options f.rx now (beginning_in b.last packet)) due ≡ None) ⊎
    (due_with (due_by f.options f.rx now (beginning_in b.last packet)) due ≡ Some (due_time rate f.rx u.dts)) =
    rw begins with_unit in
    record {
      enters = rw new refl;
      unit = is;
      known = record {
        counter = rw own (next_counter n b.last.counter b.index bytes packet sent.counter known.counter);
        goes = elim is [ inl none ↦ inl none | inr some ↦ inr (u, (refl, some)) ];
        none = λ nothing. rw (begins, none_due f.options f.rx now (beginning_of packet) nothing, nothing_yet nothing) refl;
      };
    }

-- A packet of another PID keeps `Known`.
other_known : (rate : ℕ) (f : Followed) (n : ℕ) (b : Before) (before : Option AccessUnit) (due : Option DueTime) (packet : PacketView) →
    nat_eq f.pid packet.header.pid ≡ false →
    Known rate f n b before due → Known rate f n (known_after f b (Some packet)) before due
unfolding known_after
other_known rate f n b before due packet other known = record {
  counter = rw other known.counter;
  goes = known.goes;
  none = λ nothing. known.none (earlier (nat_eq f.clock_pid packet.header.pid) (reference_in f.options b.index packet) b.clock nothing);
}

-- All packets of the PID

abbrev Rest : ℕ → ℕ → Followed → Before → List (List ℕ) → Type 0
Rest rate base0 f b chunks = (n : ℕ) (before : Option AccessUnit) (due : Option DueTime) (us : List AccessUnit) →
    AllSent base0 n before (entries_from f.pid b.index chunks) us →
    Clocked rate base0 (entries_from f.pid b.index chunks) us (clocks_seen f b chunks) → Known rate f n b before due →
    Follows rate f.rx due (seen_among f b chunks) us

none_known : (rate : ℕ) (f : Followed) (n : ℕ) (b : Before) (before : Option AccessUnit) (due : Option DueTime) → Known rate f n b before due →
    Known rate f n (known_after f b None) before due
unfolding known_after
none_known rate f n b before due k = record { counter = k.counter; goes = k.goes; none = k.none }

own_follows : (rate base0 : ℕ) (f : Followed) (n : ℕ) (b : Before) (before : Option AccessUnit) (due : Option DueTime) (bytes : List ℕ) (packet : PacketView)
    (chunks : List (List ℕ)) (us : List AccessUnit) →
    f.options.arrival ≡ AtRate rate → nat_eq f.pid packet.header.pid ≡ true → Known rate f n b before due →
    AllSent base0 n before (record { index = b.index; bytes = bytes; packet = packet } ∷ entries_from f.pid (known_after f b (Some packet)).index chunks) us →
    Clocked rate base0 (record { index = b.index; bytes = bytes; packet = packet } ∷ entries_from f.pid (known_after f b (Some packet)).index chunks) us
    (clock_with f.options f.clock_pid b.index packet b.clock ∷ clocks_seen f (known_after f b (Some packet)) chunks) →
    Rest rate base0 f (known_after f b (Some packet)) chunks →
    Follows rate f.rx due
    (arriving f.options b.index f.rx b.last (clock_with f.options f.clock_pid b.index packet b.clock) packet ∷ seen_among f
    (known_after f b (Some packet)) chunks) us
unfolding AllSent Clocked Follows
own_follows rate base0 f n b before due bytes packet chunks [] at_rate own known all clock rest = absurd all
own_follows rate base0 f n b before due bytes packet chunks (u ∷ us) at_rate own known all clock rest =
    let e : Entry = record { index = b.index; bytes = bytes; packet = packet } in
    let p : Arriving = arriving f.options b.index f.rx b.last (clock_with f.options f.clock_pid b.index packet b.clock) packet in
    let goes = packet_goes rate base0 f n b before due bytes packet u at_rate own known all.0 clock.0 in
    (goes.enters, goes.unit, rest (number_after n e) (Some u) (due_with p.begins due) us all.1 clock.1 goes.known)

one_follows : (rate base0 : ℕ) (f : Followed) (n : ℕ) (b : Before) (before : Option AccessUnit) (due : Option DueTime) (bytes : List ℕ) (o : Option PacketView)
    (chunks : List (List ℕ)) (us : List AccessUnit) →
    f.options.arrival ≡ AtRate rate → Known rate f n b before due →
    AllSent base0 n before (listed f.pid b.index bytes o (entries_from f.pid (known_after f b o).index chunks)) us →
    Clocked rate base0 (listed f.pid b.index bytes o (entries_from f.pid (known_after f b o).index chunks)) us
    (clock_in f b o ++ clocks_seen f (known_after f b o) chunks) →
    Rest rate base0 f (known_after f b o) chunks → Follows rate f.rx due (seen_in f b o ++ seen_among f (known_after f b o) chunks) us
unfolding seen_in clock_in listed
one_follows rate base0 f n b before due bytes None chunks us at_rate known sent clock rest =
    rest n before due us sent clock (none_known rate f n b before due known)
one_follows rate base0 f n b before due bytes (Some packet) chunks us at_rate known sent clock rest = by (nat_eq f.pid packet.header.pid) refl sent clock
  where
    e : Entry
    e = record { index = b.index; bytes = bytes; packet = packet }

    later : List Entry
    later = entries_from f.pid (known_after f b (Some packet)).index chunks

    now : Option PcrSample
    now = clock_with f.options f.clock_pid b.index packet b.clock

    p : Arriving
    p = arriving f.options b.index f.rx b.last (clock_with f.options f.clock_pid b.index packet b.clock) packet

    by : (w : Bool) → nat_eq f.pid packet.header.pid ≡ w → AllSent base0 n before (if nat_eq f.pid packet.header.pid then e ∷ later else later) us →
        Clocked rate base0 (if nat_eq f.pid packet.header.pid then e ∷ later else later) us
        ((if nat_eq f.pid packet.header.pid then now ∷ [] else []) ++ clocks_seen f (known_after f b (Some packet)) chunks) →
        Follows rate f.rx due ((if nat_eq f.pid packet.header.pid then p ∷ [] else []) ++ seen_among f (known_after f b (Some packet)) chunks) us
    by true own all clocked = rw own (own_follows rate base0 f n b before due bytes packet chunks us at_rate own known (rw own at all) (rw own at clocked) rest)
    by false other all clocked = rw other (rest n before due us (rw other at all) (rw other at clocked) (other_known rate f n b before due packet other known))

pub all_follow : (rate base0 : ℕ) (f : Followed) (n : ℕ) (b : Before) (before : Option AccessUnit) (due : Option DueTime) (chunks : List (List ℕ))
    (us : List AccessUnit) → f.options.arrival ≡ AtRate rate →
    Known rate f n b before due → AllSent base0 n before (entries_from f.pid b.index chunks) us →
    Clocked rate base0 (entries_from f.pid b.index chunks) us (clocks_seen f b chunks) →
    Follows rate f.rx due (seen_among f b chunks) us
unfolding seen_among clocks_seen entries_from
all_follow rate base0 f n b before due [] us at_rate known sent clock = unfold Follows in tt
all_follow rate base0 f n b before due (bytes ∷ chunks) us at_rate known sent clock =
    let o : Option PacketView = sound_packet (packet_at bytes) in
    let b' : Before = known_after f b o in
    let more : b'.index ≡ b.index + 1 = index_more f b o in
    let sent_is : AllSent base0 n before (listed f.pid b.index bytes o (entries_from f.pid b'.index chunks)) us =
    subst (λ (i : ℕ). AllSent base0 n before (listed f.pid b.index bytes o (entries_from f.pid i chunks)) us) (sym more) sent in
    let clock_is : Clocked rate base0 (listed f.pid b.index bytes o (entries_from f.pid b'.index chunks)) us (clock_in f b o ++ clocks_seen f b' chunks) =
    subst (λ (i : ℕ). Clocked rate base0 (listed f.pid b.index bytes o (entries_from f.pid i chunks)) us (clock_in f b o ++ clocks_seen f b' chunks)) (sym more)
    clock in
    one_follows rate base0 f n b before due bytes o chunks us at_rate known sent_is clock_is
    (λ m v d vs all reported k. all_follow rate base0 f m b' v d chunks vs at_rate k all reported)
