-- The PID of each slot's packet.
use Rattle.std.proofs.Common.{◌≡◌, ◌⊎◌, ℕ, ◌+◌, ◌*◌, ◌/◌, ◌<◌, ◌==◌, ◌&&◌, true, false, List, Option, Some, None, slice_get, option_map, refl, ap, sym, ◌∙◌}
use Rattle.std.proofs.Common.{arith, inl, inr}
use Rattle.std.proofs.lemmas.Bool.{cases_Bool, eqb-true, ne_eqb}
use Rattle.own_slots.specs.Slots.{own_before}
use Rattle.clock27.specs.Reference.{pcr_at}
use Rattle.pes_packet.specs.AccessUnits.{AccessUnit}
use Rattle.ts_packet.specs.Syntax.{ReferenceFits}
use Rattle.ts_packet.specs.PidList.{is_of_pid}
use Rattle.slot_contents.specs.Contents.{Content, ContentFits, PayloadContent, PcrContent, NullContent, view_of, Piece}
use Rattle.slot_contents.specs.RunLaws.{Fits}
use Rattle.description_parts.specs.Described.{DescribedStream}
use Rattle.description_parts.specs.Ranges.{IsInRange}
use Rattle.description_parts.specs.Tables.{table_kinds, table_pid}
use Rattle.description_parts.specs.declared.table_kind.TableKind.{TableKind}
use Rattle.slot_plan.specs.declared.slot.Slot.{Slot}
use Rattle.slot_plan.specs.declared.slot.Slot.TheVariants.{Stream, Pcr, Table, Null}
use Rattle.slot_plan.specs.Schedule.{slot_of}
use Rattle.slot_plan.specs.SlotPids.{slot_pid}
use Rattle.slot_plan.proofs.SlotPids.{slots_apart, slots_below}
use Rattle.unit_queue.specs.Places.{UnitPlace, place_at, content_of, stream_content}
use Rattle.table_rounds.specs.Tables.{payloads_before, part_at}
use Rattle.table_rounds.specs.Parts.{part_content}
use Rattle.table_rounds.proofs.CarriedBytes.{part_fits}
use Rattle.mux_core.specs.Scheduled.{Scheduled}
use Rattle.mux_core.specs.Histories.{owned_stream, table_over, stream_in, pcr_content, table_in, content_in, content_at, content_over, TextsSoFar, unchanged}

-- The PID of a slot's packet.
unfoldable pub content_pid : Content → ℕ
content_pid (PayloadContent pid number start payload) = pid
content_pid (PcrContent pid pcr) = pid
content_pid NullContent = 8191

of_pid : (p pid : ℕ) → ((p == pid) && true) ≡ (p == pid)
of_pid p pid = elim (cases_Bool (p == pid)) [ inl y ↦ rw y refl | inr n ↦ rw n refl ]

pub is_content_pid : (pid : ℕ) (c : Content) → is_of_pid pid (view_of c) ≡ (content_pid c == pid)
unfolding view_of content_pid
is_content_pid pid (PayloadContent p number start payload) = of_pid p pid
is_content_pid pid (PcrContent p pcr) = of_pid p pid
is_content_pid pid NullContent = of_pid 8191 pid

pub content_pid_view : (c : Content) → (view_of c).header.pid ≡ content_pid c
unfolding view_of content_pid
content_pid_view (PayloadContent p number start payload) = refl
content_pid_view (PcrContent p pcr) = refl
content_pid_view NullContent = refl

-- No packet has the transport_error_indicator set.
pub content_unmarked : (c : Content) → (view_of c).header.transport_error_indicator ≡ false
unfolding view_of
content_unmarked (PayloadContent pid number start payload) = refl
content_unmarked (PcrContent pid pcr) = refl
content_unmarked NullContent = refl

-- A packet is the null packet, or has the PID that its slot names.
abbrev Speaks : Option ℕ → Content → Type 0
Speaks o c = (c ≡ NullContent) ⊎ (o ≡ Some (content_pid c))

null_pid : (c : Content) → c ≡ NullContent → content_pid c ≡ 8191
unfolding content_pid
null_pid c e = ap content_pid e

stream_speaks : (d : Scheduled) (units : ℕ → List AccessUnit) (s k : ℕ) (o : Option DescribedStream) →
    Speaks (option_map (λ x. x.pid) o) (stream_in d units s k o)
unfolding stream_in content_pid
stream_speaks d units s k None = inl refl
stream_speaks d units s k (Some x) = by (place_at (owned_stream d k x) 0 0 (units k) (own_before (owned_stream d k x).own s))
  where
    by : (o : Option UnitPlace) → Speaks (Some x.pid) (content_of (owned_stream d k x) o)
    by None = inl refl
    by (Some place) = inr refl

clock_speaks : (d : Scheduled) (s : ℕ) (o : Option ℕ) → Speaks o (pcr_content d.description s o)
unfolding pcr_content content_pid
clock_speaks d s None = inl refl
clock_speaks d s (Some pid) = inr refl

table_speaks : (d : Scheduled) (changes : TextsSoFar) (s t : ℕ) (o : Option TableKind) → Speaks (option_map (λ k. table_pid d.description t) o) (table_in d changes s t o)
unfolding table_in part_content content_pid
table_speaks d changes s t None = inl refl
table_speaks d changes s t (Some kind) = by (part_at (table_over d changes t) s)
  where
    by : (o : Option Piece) → Speaks (Some (table_pid d.description t)) (part_content (table_pid d.description t) (payloads_before (table_over d changes t) s) o)
    by None = inl refl
    by (Some part) = inr refl

pub speaks : (d : Scheduled) (changes : TextsSoFar) (units : ℕ → List AccessUnit) (s : ℕ) (slot : Slot) → Speaks (slot_pid d.description slot) (content_in d changes units s slot)
unfolding content_in slot_pid content_pid
speaks d changes units s (Stream k) = stream_speaks d units s k (slice_get d.description.streams k)
speaks d changes units s (Pcr i) = clock_speaks d s (slot_pid d.description (Pcr i))
speaks d changes units s (Table t) = table_speaks d changes s t (slice_get (table_kinds d.description) t)
speaks d changes units s Null = inl refl

-- A slot whose packet has a PID below 8191 names that PID.
pub names_over : (d : Scheduled) (changes : TextsSoFar) (units : ℕ → List AccessUnit) (s pid : ℕ) → pid < 8191 → is_of_pid pid (view_of (content_over d changes units s)) ≡ true →
    slot_pid d.description (slot_of d.schedule s) ≡ Some pid
unfolding content_over
names_over d changes units s pid below e =
    let same : content_pid (content_over d changes units s) ≡ pid =
    eqb-true (content_pid (content_over d changes units s)) pid (sym (is_content_pid pid (content_over d changes units s)) ∙ e) in
    elim (speaks d changes units s (slot_of d.schedule s)) [
      | inl null ↦ absurd (omega (arith, null_pid (content_over d changes units s) null, same, below))
      | inr named ↦ named ∙ ap Some same
    ]

pub names : (d : Scheduled) (units : ℕ → List AccessUnit) (s pid : ℕ) → pid < 8191 → is_of_pid pid (view_of (content_at d units s)) ≡ true →
    slot_pid d.description (slot_of d.schedule s) ≡ Some pid
names d units s pid below e = names_over d unchanged units s pid below e

-- If a slot of the description names a PID, the packets of all other slots have other PIDs.
pub silent : (d : Scheduled) (changes : TextsSoFar) (units : ℕ → List AccessUnit) (s pid : ℕ) (slot : Slot) → IsInRange d.description → slot_pid d.description slot ≡ Some pid
    → (slot_of d.schedule s ≡ slot → ⊥) → is_of_pid pid (view_of (content_over d changes units s)) ≡ false
silent d changes units s pid slot r is other = elim (cases_Bool (is_of_pid pid (view_of (content_over d changes units s)))) [
  | inl y ↦ absurd (other (slots_apart d.description (slot_of d.schedule s) slot pid r (names_over d changes units s pid (slots_below d.description slot pid r is) y) is))
  | inr n ↦ n
]

pub not_null : (d : Scheduled) (pid : ℕ) (slot : Slot) → IsInRange d.description → slot_pid d.description slot ≡ Some pid → (pid == 8191) ≡ false
not_null d pid slot r is = let below = slots_below d.description slot pid r is in ne_eqb pid 8191 (λ e. omega (arith, e, below))

-- The fields of each packet fit

reference_fits : (rate base0 i : ℕ) → ReferenceFits (pcr_at rate base0 i)
reference_fits rate base0 i =
    let n = 216000000 * i / rate + 300 * base0 in
    record { base = omega arith; extension = omega arith }

table_fits : (d : Scheduled) (changes : TextsSoFar) (s t : ℕ) (o : Option TableKind) → IsInRange d.description →
    slot_pid d.description (Table t) ≡ option_map (λ k. table_pid d.description t) o → ContentFits (table_in d changes s t o)
unfolding table_in
table_fits d changes s t None r e = tt
table_fits d changes s t (Some kind) r e = let below = slots_below d.description (Table t) (table_pid d.description t) r e in
    part_fits (table_over d changes t) s (omega (arith, below))

clock_fits : (d : Scheduled) (s i : ℕ) (o : Option ℕ) → IsInRange d.description → slot_pid d.description (Pcr i) ≡ o →
    ContentFits (pcr_content d.description s o)
unfolding pcr_content
clock_fits d s i None r e = tt
clock_fits d s i (Some pid) r e =
    let below = slots_below d.description (Pcr i) pid r e in
    (omega (arith, below), reference_fits d.description.rate d.description.base0 (188 * s + 10))

-- The contents of all streams fit into packets.
abbrev pub StreamsFit : Scheduled → (ℕ → List AccessUnit) → Type 0
StreamsFit d units = (k s : ℕ) (x : DescribedStream) → slice_get d.description.streams k ≡ Some x →
    ContentFits (stream_content (owned_stream d k x) (units k) s)

stream_fits : (d : Scheduled) (units : ℕ → List AccessUnit) (s k : ℕ) (o : Option DescribedStream) → StreamsFit d units →
    slice_get d.description.streams k ≡ o → ContentFits (stream_in d units s k o)
unfolding stream_in
stream_fits d units s k None fits e = tt
stream_fits d units s k (Some x) fits e = fits k s x e

slot_fits : (d : Scheduled) (changes : TextsSoFar) (units : ℕ → List AccessUnit) (s : ℕ) (slot : Slot) → IsInRange d.description → StreamsFit d units →
    ContentFits (content_in d changes units s slot)
unfolding content_in slot_pid
slot_fits d changes units s (Stream k) r fits = stream_fits d units s k (slice_get d.description.streams k) fits refl
slot_fits d changes units s (Pcr i) r fits = clock_fits d s i (slot_pid d.description (Pcr i)) r refl
slot_fits d changes units s (Table t) r fits = table_fits d changes s t (slice_get (table_kinds d.description) t) r refl
slot_fits d changes units s Null r fits = tt

pub content_fits : (d : Scheduled) (changes : TextsSoFar) (units : ℕ → List AccessUnit) → IsInRange d.description → StreamsFit d units → Fits (content_over d changes units)
unfolding content_over
content_fits d changes units r fits s = slot_fits d changes units s (slot_of d.schedule s) r fits
