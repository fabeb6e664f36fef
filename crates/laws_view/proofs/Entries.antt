-- Each stream whose buffers have begun has one entry, and each packet of its PID enters this entry.
use Rattle.std.proofs.Common.{◌≡◌, ◌∙◌, sym, ℕ, ◌⊎◌, ◌&&◌, not, is_some, Bool, true, false, [], ◌∷◌, ◌++◌, length, Option, Some, None, if◌then◌else◌, refl, ap}
use Rattle.std.proofs.Common.{inl, inr, nat_eq}
use Rattle.std.specs.Prelude.{set, slice_get}
use Rattle.std.specs.Map.{lookup}
use Rattle.std.proofs.lemmas.Bool.Decides.{eqb_tells}
use Rattle.indexmap.specs.IndexMap.{insert_entry}
use Rattle.ts_packet.specs.Views.{PacketView}
use Rattle.stream_programs.specs.Streams.{FoundStreamView}
use Rattle.ts_tables.specs.NamedStreams.{NamedView, clock_of as program_clock, stream_of}
use Rattle.es_events.specs.declared.view_options.ViewOptions.{ViewOptions}
use Rattle.ts_watch.specs.Choices.{chosen}
use Rattle.es_events.specs.Clocks.{ClockEntries}
use Rattle.es_view.specs.Entries.{EntryState}
use Rattle.ts_report.specs.StreamTables.{TableState, beginning, begun, begun_if, entry_taken, new_entry, stream_buffers, stream_frames, stream_limit}
use Rattle.ts_report.specs.StreamTables.{stream_rates, taken, taken_at, taken_if, with_entry}
use Rattle.laws_view.proofs.Lists.{get_either, get_first, get_last, lookup_other, lookup_same, set_other, set_same, some_is}

-- The place of a PID is the place of its entry, and each entry is at the place of its PID.
pub record Agree (t : TableState) : Type 0 where
  pub at : (pid j : ℕ) → lookup (nat_eq pid) t.places ≡ Some j → (e : EntryState) × ((slice_get t.entries j ≡ Some e) × (e.pid ≡ pid))
  pub of : (j : ℕ) (e : EntryState) → slice_get t.entries j ≡ Some e → lookup (nat_eq e.pid) t.places ≡ Some j

none_some : {A : Type 0} {B : Type 0} (a : A) → None ≡ Some a → B
none_some a e = absurd (let no : ⊥ = cc in no)

with_entry_agrees : (t : TableState) (pid : ℕ) (e : EntryState) → Agree t → e.pid ≡ pid → lookup (nat_eq pid) t.places ≡ None → Agree (with_entry t pid e)
with_entry_agrees t pid e agree is new = record { at = there; of = placed }
  where
    many : ℕ
    many = length t.entries

    there : (q j : ℕ) → lookup (nat_eq q) (insert_entry nat_eq t.places pid many) ≡ Some j →
        (d : EntryState) × ((slice_get (t.entries ++ e ∷ []) j ≡ Some d) × (d.pid ≡ q))
    there q j h = elim (eqb_tells pid q) [
      | inl same ↦
          let found : Some many ≡ Some j =
          sym (lookup_same t.places pid many) ∙ ap (λ (p : ℕ). lookup (nat_eq p) (insert_entry nat_eq t.places pid many)) same.1 ∙ h in
          (e, (ap (λ (i : ℕ). slice_get (t.entries ++ e ∷ []) i) (sym (some_is many j found)) ∙ get_last t.entries e, is ∙ same.1))
      | inr other ↦
          let old = agree.at q j (sym (lookup_other t.places pid q many other.1) ∙ h) in
          (old.0, (get_first t.entries (e ∷ []) j old.0 old.1.0, old.1.1))
    ]

    placed : (j : ℕ) (d : EntryState) → slice_get (t.entries ++ e ∷ []) j ≡ Some d → lookup (nat_eq d.pid) (insert_entry nat_eq t.places pid many) ≡ Some j
    placed j d h = elim (get_either t.entries e j d h) [
      | inl old ↦
          let found = agree.of j d old in
          lookup_other t.places pid d.pid many (λ p. none_some j (sym new ∙ ap (λ (q : ℕ). lookup (nat_eq q) t.places) p ∙ found)) ∙ found
      | inr last ↦
          ap (λ (x : EntryState). lookup (nat_eq x.pid) (insert_entry nat_eq t.places pid many)) (sym last.1)
          ∙ ap (λ (q : ℕ). lookup (nat_eq q) (insert_entry nat_eq t.places pid many)) is
          ∙ lookup_same t.places pid many ∙ ap (λ (i : ℕ). Some i) (sym last.0)
    ]

-- A stream begins only if its PID has no place.
pub new_place : (named : NamedView) (t : TableState) (packet : PacketView) (stream : FoundStreamView) → beginning named t packet ≡ Some stream →
    lookup (nat_eq packet.header.pid) t.places ≡ None
new_place named t packet stream h =
    none_if packet.header.payload_unit_start_indicator (lookup (nat_eq packet.header.pid) t.places) (chosen t.choice (stream_of named packet.header.pid)) stream
    h
  where
    none_if : (a : Bool) (o : Option ℕ) (c : Option FoundStreamView) (s : FoundStreamView) → (if a && not (is_some o) then c else None) ≡ Some s → o ≡ None
    none_if a None c s h = refl
    none_if true (Some j) c s h = none_some s h
    none_if false (Some j) c s h = none_some s h

-- The entry of a stream that begins
abbrev pub entry_begun : ViewOptions → NamedView → TableState → PacketView → FoundStreamView → EntryState
entry_begun options named t packet stream =
    new_entry options packet.header.pid (program_clock named stream.program) (stream_buffers t stream packet) (stream_rates t stream packet)
    (stream_frames t stream packet) (stream_limit stream)

pub begun_agrees : (options : ViewOptions) (named : NamedView) (t : TableState) (packet : PacketView) → Agree t → Agree (begun options named t packet)
unfolding begun_if
begun_agrees options named t packet agree = by (beginning named t packet) refl
  where
    by : (o : Option FoundStreamView) → beginning named t packet ≡ o → Agree (begun_if options named t packet o)
    by None h = agree
    by (Some stream) h = with_entry_agrees t packet.header.pid (entry_begun options named t packet stream) agree refl (new_place named t packet stream h)

-- An entry keeps its place when a stream begins.
pub begun_keeps : (options : ViewOptions) (named : NamedView) (t : TableState) (packet : PacketView) (j : ℕ) (e : EntryState) → slice_get t.entries j ≡ Some e →
    slice_get (begun options named t packet).entries j ≡ Some e
unfolding begun_if
begun_keeps options named t packet j e there = by (beginning named t packet)
  where
    by : (o : Option FoundStreamView) → slice_get (begun_if options named t packet o).entries j ≡ Some e
    by None = there
    by (Some stream) = get_first t.entries (entry_begun options named t packet stream ∷ []) j e there

-- A new entry begins with the packet.
pub record BeginsWith (options : ViewOptions) (named : NamedView) (t : TableState) (packet : PacketView) (e : EntryState) : Type 0 where
  pub stream : FoundStreamView
  pub begins : beginning named t packet ≡ Some stream
  pub is : e ≡ entry_begun options named t packet stream

pub begun_or_before : (options : ViewOptions) (named : NamedView) (t : TableState) (packet : PacketView) (j : ℕ) (e : EntryState) →
    slice_get (begun options named t packet).entries j ≡ Some e → (slice_get t.entries j ≡ Some e) ⊎ BeginsWith options named t packet e
unfolding begun_if
begun_or_before options named t packet j e there = by (beginning named t packet) refl there
  where
    by : (o : Option FoundStreamView) → beginning named t packet ≡ o → slice_get (begun_if options named t packet o).entries j ≡ Some e →
        (slice_get t.entries j ≡ Some e) ⊎ BeginsWith options named t packet e
    by None h there = inl there
    by (Some stream) h there = elim (get_either t.entries (entry_begun options named t packet stream) j e there) [
      | inl old ↦ inl old
      | inr last ↦ inr (record { stream = stream; begins = h; is = sym last.1 })
    ]

-- A packet enters its stream's buffers.

set_agrees : (t : TableState) (place : ℕ) (e e' : EntryState) → Agree t → slice_get t.entries place ≡ Some e → e'.pid ≡ e.pid →
    Agree (record t { entries = set t.entries place e' })
set_agrees t place e e' agree here same = record { at = there; of = placed }
  where
    there : (q j : ℕ) → lookup (nat_eq q) t.places ≡ Some j → (d : EntryState) × ((slice_get (set t.entries place e') j ≡ Some d) × (d.pid ≡ q))
    there q j h = elim (eqb_tells place j) [
      | inl is ↦
          let old = agree.at q j h in
          let e_is : e ≡ old.0 = some_is e old.0 (sym here ∙ ap (λ (i : ℕ). slice_get t.entries i) is.1 ∙ old.1.0) in (
            e',
            (
              ap (λ (i : ℕ). slice_get (set t.entries place e') i) (sym is.1) ∙ set_same t.entries place e e' here,
              same ∙ ap (λ (x : EntryState). x.pid) e_is
                  ∙ old.1.1,
            ),
          )
      | inr other ↦
          let old = agree.at q j h in
          (old.0, (set_other t.entries place j e' other.1 ∙ old.1.0, old.1.1))
    ]

    placed : (j : ℕ) (d : EntryState) → slice_get (set t.entries place e') j ≡ Some d → lookup (nat_eq d.pid) t.places ≡ Some j
    placed j d h = elim (eqb_tells place j) [
      | inl is ↦
          let d_is : e' ≡ d = some_is e' d (sym (set_same t.entries place e e' here) ∙ ap (λ (i : ℕ). slice_get (set t.entries place e') i) is.1 ∙ h) in
          ap (λ (q : ℕ). lookup (nat_eq q) t.places) (ap (λ (x : EntryState). x.pid) (sym d_is) ∙ same) ∙ agree.of place e here ∙ ap (λ (i : ℕ). Some i) is.1
      | inr other ↦ agree.of j d (sym (set_other t.entries place j e' other.1) ∙ h)
    ]

none_taken : (options : ViewOptions) (index window : ℕ) (clocks : ClockEntries) (t : TableState) (packet : PacketView) →
    lookup (nat_eq packet.header.pid) t.places ≡ None → taken options index window clocks t packet ≡ t
unfolding taken_if
none_taken options index window clocks t packet none = rw none refl

one_taken : (options : ViewOptions) (index window : ℕ) (clocks : ClockEntries) (t : TableState) (packet : PacketView) (place : ℕ) (e : EntryState) →
    lookup (nat_eq packet.header.pid) t.places ≡ Some place → slice_get t.entries place ≡ Some e →
    taken options index window clocks t packet ≡ record t { entries = set t.entries place (entry_taken options index window clocks packet e) }
unfolding taken_if taken_at
one_taken options index window clocks t packet place e p q = rw (p, q) refl

pub taken_agrees : (options : ViewOptions) (index window : ℕ) (clocks : ClockEntries) (t : TableState) (packet : PacketView) → Agree t →
    Agree (taken options index window clocks t packet)
taken_agrees options index window clocks t packet agree = by (lookup (nat_eq packet.header.pid) t.places) refl
  where
    by : (o : Option ℕ) → lookup (nat_eq packet.header.pid) t.places ≡ o → Agree (taken options index window clocks t packet)
    by None h = rw (none_taken options index window clocks t packet h) agree
    by (Some place) h =
        let found = agree.at packet.header.pid place h in
        rw (one_taken options index window clocks t packet place found.0 h found.1.0)
        (set_agrees t place found.0 (entry_taken options index window clocks packet found.0) agree found.1.0 refl)

-- An entry after a packet
abbrev pub entry_with : ViewOptions → ℕ → ℕ → ClockEntries → EntryState → PacketView → EntryState
entry_with options index window clocks e packet = if nat_eq e.pid packet.header.pid then entry_taken options index window clocks packet e else e

pub taken_entry : (options : ViewOptions) (index window : ℕ) (clocks : ClockEntries) (t : TableState) (packet : PacketView) (j : ℕ) (e : EntryState) → Agree t →
    slice_get t.entries j ≡ Some e → slice_get (taken options index window clocks t packet).entries j ≡ Some (entry_with options index window clocks e packet)
taken_entry options index window clocks t packet j e agree there = elim (eqb_tells e.pid packet.header.pid) [
  | inl same ↦
      let place : lookup (nat_eq packet.header.pid) t.places ≡ Some j = ap (λ (q : ℕ). lookup (nat_eq q) t.places) (sym same.1) ∙ agree.of j e there in
      rw (same.0, one_taken options index window clocks t packet j e place there)
      (set_same t.entries j e (entry_taken options index window clocks packet e) there)
  | inr other ↦ rw other.0 (by other.1 (lookup (nat_eq packet.header.pid) t.places) refl)
]
  where
    by : (e.pid ≡ packet.header.pid → ⊥) → (o : Option ℕ) → lookup (nat_eq packet.header.pid) t.places ≡ o →
        slice_get (taken options index window clocks t packet).entries j ≡ Some e
    by f None h = rw (none_taken options index window clocks t packet h) there
    by f (Some place) h =
        let found = agree.at packet.header.pid place h in
        let apart : place ≡ j → ⊥ =
        λ p. f (ap (λ (x : EntryState). x.pid) (some_is e found.0 (sym there ∙ ap (λ (i : ℕ). slice_get t.entries i) (sym p) ∙ found.1.0)) ∙ found.1.1) in
        rw (one_taken options index window clocks t packet place found.0 h found.1.0)
        (set_other t.entries place j (entry_taken options index window clocks packet found.0) apart ∙ there)

-- A packet that enters begins no entry.
pub taken_before : (options : ViewOptions) (index window : ℕ) (clocks : ClockEntries) (t : TableState) (packet : PacketView) (j : ℕ) (e' : EntryState) →
    Agree t →
    slice_get (taken options index window clocks t packet).entries j ≡ Some e' →
    (e : EntryState) × ((slice_get t.entries j ≡ Some e) × (e' ≡ entry_with options index window clocks e packet))
taken_before options index window clocks t packet j e' agree there = by (slice_get t.entries j) refl
  where
    none_there : slice_get t.entries j ≡ None → (o : Option ℕ) → lookup (nat_eq packet.header.pid) t.places ≡ o →
        slice_get (taken options index window clocks t packet).entries j ≡ None
    none_there none None h = rw (none_taken options index window clocks t packet h) none
    none_there none (Some place) h =
        let found = agree.at packet.header.pid place h in
        let apart : place ≡ j → ⊥ = λ p. none_some found.0 (sym none ∙ ap (λ (i : ℕ). slice_get t.entries i) (sym p) ∙ found.1.0) in
        rw (one_taken options index window clocks t packet place found.0 h found.1.0)
        (set_other t.entries place j (entry_taken options index window clocks packet found.0) apart ∙ none)

    by : (o : Option EntryState) → slice_get t.entries j ≡ o →
        (e : EntryState) × ((slice_get t.entries j ≡ Some e) × (e' ≡ entry_with options index window clocks e packet))
    by None h = none_some e' (sym (none_there h (lookup (nat_eq packet.header.pid) t.places) refl) ∙ there)
    by (Some e) h =
        (e, (h, some_is e' (entry_with options index window clocks e packet) (sym there ∙ taken_entry options index window clocks t packet j e agree h)))
