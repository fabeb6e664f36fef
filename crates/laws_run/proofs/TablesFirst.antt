-- PAT and PMT come before the packets of a stream.
use Rattle.std.proofs.Common.{◌≡◌, ◌≤◌, ◌<◌, ℕ, zero, suc, ◌+◌, ◌*◌, ◌%◌, nat_eq, Bool, true, false, List, [], ◌∷◌, ◌++◌, length, map, take, replicate}
use Rattle.std.proofs.Common.{option_map, Option, Some, slice_get, refl, sym, ap, subst, ◌∙◌, inl, inr, arith}
use Rattle.std.specs.Prelude.{cond}
use Rattle.std.proofs.Math.Nat.{mul-le-mul_right}
use Rattle.std.proofs.Math.Seq.{take-append-add}
use Rattle.std.proofs.lemmas.Bool.{cases_Bool, cases_lt, false≢true}
use Rattle.std.proofs.lemmas.List.Concat.{flat_map-cons}
use Rattle.std.proofs.lemmas.List.Elements.{All-head, All-tail}
use Rattle.std.proofs.lemmas.Option.{slice_get-map}
use Rattle.slot_plan.specs.Promised.{Promised}
use Rattle.own_slots.specs.Slots.{own_before}
use Rattle.own_slots.specs.Rounds.{starts}
use Rattle.pes_packet.specs.AccessUnits.{AccessUnit}
use Rattle.pes_packet.proofs.UnitPieces.{unit_pieces_join}
use Rattle.ts_packet.specs.Beginnings.{start_by}
use Rattle.ts_packet.specs.PidList.{Entry, is_of_pid, pid_list}
use Rattle.slot_contents.specs.Contents.{Content, Piece, packet_of, view_of, run_bytes, entry_at, entries_in, payload_at}
use Rattle.slot_contents.specs.RunLaws.{Fits}
use Rattle.slot_contents.proofs.Runs.{content_again, run_pid_list}
use Rattle.description_parts.specs.Described.{DescribedStream}
use Rattle.description_parts.specs.Ranges.{IsInRange}
use Rattle.description_parts.specs.Tables.{table_count, table_limit, round_packets}
use Rattle.description.proofs.SectionCounts.{sections_law}
use Rattle.slot_plan.specs.declared.slot.Slot.{Slot}
use Rattle.slot_plan.specs.declared.slot.Slot.TheVariants.{Stream}
use Rattle.slot_plan.specs.declared.slot.Item.TheVariants.{Table as TableItem}
use Rattle.slot_plan.specs.Items.{is_own}
use Rattle.slot_plan.specs.Schedule.{slot_of, owned}
use Rattle.slot_plan.specs.SlotPids.{slot_pid}
use Rattle.slot_plan.specs.TableRounds.{section_starts, first_packet}
use Rattle.slot_plan.proofs.SlotPids.{slots_apart, slots_below}
use Rattle.unit_queue.specs.OwnedStreams.{OwnedStream, pes_bytes, has_access, packet_count}
use Rattle.unit_queue.specs.Payloads.{pes_pieces, piece_in, all_pieces, all_senders}
use Rattle.mux_core.specs.Scheduled.{Scheduled}
use Rattle.mux_core.specs.Histories.{owned_stream, content_at}
use Rattle.mux_core.specs.Headline.{StreamKept, UnitsKept}
use Rattle.mux_core.proofs.ContentPids.{names}
use Rattle.mux_core.proofs.KnownRanges.{stream_range}
use Rattle.mux_core.proofs.PutTogether.{marked_length}
use Rattle.mux_core.proofs.Whole.{contents_fit, headline}
use Rattle.laws_run.specs.FollowedTables.{IsFollowed}
use Rattle.laws_run.specs.TablesFirst.{DueLate, TablesFirstLaw}
use Rattle.laws_run.proofs.TwoStarts.{TwoStarts, two_starts}
use Rattle.laws_run.proofs.FollowedTables.{followed_by}

-- The first slots of a run

prefix : (content : ℕ → Content) (s i n : ℕ) → Fits content → i ≤ n → take (188 * i) (run_bytes content s n) ≡ run_bytes content s i
unfolding run_bytes
prefix content s zero n fits le = refl
prefix content s (suc i) zero fits le = absurd (omega (arith, le))
prefix content s (suc i) (suc n) fits le =
    let size = (content_again (content s) (fits s)).size in
    let more : 188 * suc i ≡ length (packet_of (content s)) + 188 * i = omega (arith, size) in
    ap (λ (m : ℕ). take m (packet_of (content s) ++ run_bytes content (suc s) n)) more
    ∙ take-append-add (packet_of (content s)) (run_bytes content (suc s) n) (188 * i)
    ∙ ap (λ (x : List ℕ). packet_of (content s) ++ x) (prefix content (suc s) i n fits (omega (arith, le)))

-- The slot of a packet

record InSlot (pid s n : ℕ) (content : ℕ → Content) (i : ℕ) : Type 0 where
  of : is_of_pid pid (view_of (content i)) ≡ true
  within : i < s + n

first_or_later : (pid s n : ℕ) (content : ℕ → Content) (rest : List Entry) (j : ℕ) (e : Entry) → is_of_pid pid (view_of (content s)) ≡ true →
    slice_get (entry_at s (content s) ∷ rest) j ≡ Some e → ((i : ℕ) → slice_get rest i ≡ Some e → InSlot pid (suc s) n content e.index) →
    InSlot pid s (suc n) content e.index
first_or_later pid s n content rest zero e y is later =
    let whole : entry_at s (content s) ≡ e = cc in
    let same : s ≡ e.index = ap (λ (x : Entry). x.index) whole in
    record { of = subst (λ (i : ℕ). is_of_pid pid (view_of (content i)) ≡ true) same y; within = omega (arith, same) }
first_or_later pid s n content rest (suc i) e y is later = let found = later i is in record { of = found.of; within = omega (arith, found.within) }

in_slot : (pid : ℕ) (content : ℕ → Content) (s n j : ℕ) (e : Entry) → slice_get (entries_in pid content s n) j ≡ Some e → InSlot pid s n content e.index
unfolding entries_in
in_slot pid content s zero j e is = absurd (let no : ⊥ = cc in no)
in_slot pid content s (suc n) j e is = elim (cases_Bool (is_of_pid pid (view_of (content s)))) [
  | inl y ↦
      let here : entries_in pid content s (suc n) ≡ entry_at s (content s) ∷ entries_in pid content (suc s) n = rw y refl in
      first_or_later pid s n content (entries_in pid content (suc s) n) j e y (subst (λ (es : List Entry). slice_get es j ≡ Some e) here is)
      (λ i later. in_slot pid content (suc s) n i e later)
  | inr k ↦
      let others : entries_in pid content s (suc n) ≡ entries_in pid content (suc s) n = rw k refl in
      let found = in_slot pid content (suc s) n j e (subst (λ (es : List Entry). slice_get es j ≡ Some e) others is) in
      record { of = found.of; within = omega (arith, found.within) }
]

-- The unit that a packet carries

record Sender (l : OwnedStream) (us : List AccessUnit) (j : ℕ) : Type 0 where
  unit : AccessUnit
  is : slice_get (all_senders l us) j ≡ Some unit
  late : DueLate us → 180000 ≤ unit.dts

taken : (xs : List Piece) (m j : ℕ) (p : Piece) → slice_get (take m xs) j ≡ Some p → slice_get xs j ≡ Some p
taken [] zero j p is = absurd (let no : ⊥ = cc in no)
taken [] (suc m) j p is = absurd (let no : ⊥ = cc in no)
taken (x ∷ xs) zero j p is = absurd (let no : ⊥ = cc in no)
taken (x ∷ xs) (suc m) zero p is = is
taken (x ∷ xs) (suc m) (suc j) p is = taken xs m j p is

-- If the list of payloads has an element at a place, the list of units has there the unit of this payload.
side_by_side : (l : OwnedStream) (u : AccessUnit) (us : List AccessUnit) (front : List Piece) (count j : ℕ) (p : Piece) → length front ≡ count →
    slice_get (front ++ all_pieces l us) j ≡ Some p →
    ((i : ℕ) → slice_get (all_pieces l us) i ≡ Some p → Sender l us i) →
    (v : AccessUnit) × (slice_get (replicate count u ++ all_senders l us) j ≡ Some v) × (DueLate (u ∷ us) → 180000 ≤ v.dts)
side_by_side l u us [] zero j p size is rest = let s = rest j is in (s.unit, s.is, λ late. s.late (All-tail (λ x. 180000 ≤ x.dts) u us late))
side_by_side l u us [] (suc count) j p size is rest = absurd (omega (arith, size))
side_by_side l u us (x ∷ front) zero j p size is rest = absurd (omega (arith, size))
side_by_side l u us (x ∷ front) (suc count) zero p size is rest = (u, refl, λ late. All-head (λ x. 180000 ≤ x.dts) u us late)
side_by_side l u us (x ∷ front) (suc count) (suc j) p size is rest = side_by_side l u us front count j p (omega (arith, size)) is rest

piece_counts : (l : OwnedStream) (u : AccessUnit) → length (pes_pieces (has_access u) (pes_bytes l u)) ≡ packet_count l u
piece_counts l u = marked_length (start_by true (has_access u)) _ ∙ (unit_pieces_join (has_access u) (pes_bytes l u)).count

sender : (l : OwnedStream) (us : List AccessUnit) (j : ℕ) (p : Piece) → slice_get (all_pieces l us) j ≡ Some p → Sender l us j
sender l [] j p is = absurd (let no : ⊥ = cc in no)
sender l (u ∷ us) j p is =
    let pieces = flat_map-cons (λ (x : AccessUnit). pes_pieces (has_access x) (pes_bytes l x)) u us in
    let senders = flat_map-cons (λ (x : AccessUnit). replicate (packet_count l x) x) u us in
    let found = side_by_side l u us (pes_pieces (has_access u) (pes_bytes l u)) (packet_count l u) j p (piece_counts l u)
    (subst (λ (xs : List Piece). slice_get xs j ≡ Some p) pieces is)
    (λ i there. sender l us i p there) in
    record { unit = found.0; is = ap (λ (xs : List AccessUnit). slice_get xs j) senders ∙ found.1; late = found.2 }

-- The slot of such a packet begins at least a second after the run's begin.
pub late_slot : (d : Scheduled) (k : ℕ) (s : DescribedStream) (units : List AccessUnit) (n j : ℕ) (bytes : List ℕ) (e : Entry) → IsInRange d.description →
    slice_get d.description.streams k ≡ Some s → StreamKept d k s units n bytes → DueLate units → slice_get (pid_list s.pid bytes) j ≡ Some e →
    1000 * d.description.rate ≤ e.index * 1504000
late_slot d k s units n j bytes e r there kept late is =
    let l = owned_stream d k s in
    let one : slice_get (map (λ x. piece_in (payload_at x)) (pid_list s.pid bytes)) j ≡ Some (piece_in (payload_at e)) =
    slice_get-map (λ (x : Entry). piece_in (payload_at x)) (pid_list s.pid bytes) j
    ∙ ap (λ (o : Option Entry). option_map (λ (x : Entry). piece_in (payload_at x)) o) is in
    let piece = taken (all_pieces l units) (length (pid_list s.pid bytes)) j (piece_in (payload_at e))
    (sym (ap (λ (xs : List Piece). slice_get xs j) kept.pieces) ∙ one) in
    let from = sender l units j (piece_in (payload_at e)) piece in
    let released = kept.not_early j e from.unit is from.is in
    let due = mul-le-mul_right d.description.rate (from.late late) in
    let most = mul-le-mul_right d.description.rate (stream_range d.description k s r there).most_lead in
    omega (arith, released, due, most)

-- Slots of tables, which are not slots of streams

is_table : (t : ℕ) (slot : Slot) → is_own (TableItem t) slot ≡ true → (k : ℕ) → slot ≡ Stream k → ⊥
is_table t slot y k e = false≢true (sym (ap (is_own (TableItem t)) e) ∙ y)

own_of : (own : ℕ → Bool) (k place s : ℕ) → starts own k place s ≡ true → own s ≡ true
own_of own k place s y = elim (cases_Bool (own s)) [
  | inl o ↦ o
  | inr n ↦ absurd (false≢true (sym (ap (λ (b : Bool). cond b (nat_eq (own_before own s % k) place) false) n) ∙ y))
]

stream_pid : (d : Scheduled) (k : ℕ) (s : DescribedStream) → slice_get d.description.streams k ≡ Some s → slot_pid d.description (Stream k) ≡ Some s.pid
unfolding slot_pid
stream_pid d k s is = rw is refl

fewer : (own : ℕ → Bool) (i : ℕ) → (own i ≡ true → ⊥) → TwoStarts own (suc i) → TwoStarts own i
fewer own i none two = elim (cases_lt two.two i) [
  | inl lt ↦ record { one = two.one; two = two.two; one_own = two.one_own; two_own = two.two_own; apart = two.apart; within = lt }
  | inr le ↦
      let same : two.two ≡ i = omega (arith, le, two.within) in
      absurd (none (sym (ap own same) ∙ two.two_own))
]

-- Each table that recurs within half a second begins twice before any packet of a stream whose units are due late.
pub begun_twice : (d : Scheduled) (units : ℕ → List AccessUnit) (n k j : ℕ) (s : DescribedStream) (e : Entry) → IsInRange d.description →
    Promised d.description d.schedule → UnitsKept d units →
    slice_get d.description.streams k ≡ Some s → DueLate (units k) → slice_get (pid_list s.pid (run_bytes (content_at d units) 0 n)) j ≡ Some e →
    (t : ℕ) → t < table_count d.description → table_limit d.description t ≡ 500 → TwoStarts (section_starts d.description d.schedule t 0) e.index
begun_twice d units n k j s e r promised kept there late is t lt limit =
    let h = headline d units n r promised kept in
    let slot = in_slot s.pid (content_at d units) 0 n j e
    (sym (ap (λ (es : List Entry). slice_get es j) (run_pid_list s.pid n (content_at d units) (contents_fit d units r kept))) ∙ is) in
    let long = late_slot d k s (units k) n j (run_bytes (content_at d units) 0 n) e r there (h.streams k s there) late is in
    let pid = stream_pid d k s there in
    let here : slot_of d.schedule e.index ≡ Stream k =
    slots_apart d.description (slot_of d.schedule e.index) (Stream k) s.pid r
    (names d units e.index s.pid (slots_below d.description (Stream k) s.pid r pid) slot.of) pid in
    let more = headline d units (suc e.index) r promised kept in
    fewer (section_starts d.description d.schedule t 0) e.index
    (λ y. is_table t (slot_of d.schedule e.index)
    (own_of (owned d.schedule (TableItem t)) (round_packets d.description t) (first_packet d.description t 0) e.index y) k here)
    (two_starts (section_starts d.description d.schedule t 0) d.description.rate (table_limit d.description t) (suc e.index) (omega (arith, long)) limit
    ((more.tables t lt).sections_recur 0 (sections_law d.description t r lt).0))

pub tables_first : TablesFirstLaw
tables_first d units n k j s e r promised kept there late is =
    let fits = contents_fit d units r kept in
    let slot = in_slot s.pid (content_at d units) 0 n j e
    (sym (ap (λ (es : List Entry). slice_get es j) (run_pid_list s.pid n (content_at d units) fits)) ∙ is) in
    subst (IsFollowed d.description) (sym (prefix (content_at d units) 0 e.index n fits (omega (arith, slot.within))))
    (followed_by d units e.index (run_bytes (content_at d units) 0 e.index) r (headline d units e.index r promised kept)
    (begun_twice d units n k j s e r promised kept there late is))
