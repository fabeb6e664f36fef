-- What a decoder reads in packets that have a payload alone or a clock reference alone, in PES headers, and of the sections of a table.
use Rattle.std.proofs.Common.{◌≡◌, ◌⊎◌, ◌≤◌, ◌<◌, ℕ, zero, suc, ◌+◌, ◌-◌, ◌*◌, ◌/◌, ◌%◌, ◌==◌, Bool, false, List, [], ◌∷◌, length, map, Some}
use Rattle.std.proofs.Common.{All, IsTrue, Option, None, option_map, refl, sym, ap, ◌∙◌, inl, inr, arith}
use Rattle.std.proofs.lemmas.Bool.{cases_Bool, false≢true, eqb-true}
use Rattle.std.proofs.lemmas.List.Elements.{All-nil, All-cons, All-head, All-tail}
use Rattle.clock27.specs.Reference.{ticks_of, pcr_at, pcr_ticks}
use Rattle.own_slots.specs.Slots.{own_slots}
use Rattle.pes_packet.specs.AccessUnits.{AccessUnit}
use Rattle.pes_packet.specs.Encoding.{on_wire, pes_header_bytes, pes_packet_bytes}
use Rattle.pes_packet.specs.Laws.{written_header}
use Rattle.pes_packet.specs.StreamIds.{fits_packet}
use Rattle.pes_packet.proofs.Written.{written_is_read}
use Rattle.ts_packet.specs.declared.start.Start.{Start}
use Rattle.ts_packet.specs.declared.start.Start.TheVariants.{Continues, Begins, Access}
use Rattle.ts_packet.specs.Beginnings.{start_in}
use Rattle.ts_packet.specs.Packets.{field_of, pcr_view, stuffing_field}
use Rattle.ts_packet.specs.PcrBytes.{has_pcr}
use Rattle.ts_packet.specs.PidList.{Entry, payload_of}
use Rattle.description_parts.specs.Described.{Described}
use Rattle.description_parts.specs.Tables.{section_count}
use Rattle.slot_plan.specs.TableRounds.{section_starts}
use Rattle.table_rounds.specs.Tables.{not_yet}
use Rattle.table_rounds.specs.Payloads.{Begins as BeginsIn}
use Rattle.mux_core.specs.Scheduled.{Scheduled}
use Rattle.mux_core.specs.Histories.{TextsSoFar, past_of, from_of, table_over}
use Rattle.mux_core.specs.Headline.{IsPayloadAlone, IsClockAlone, TableKeptOver}
use Rattle.mux_core.specs.DecodedRuns.{IsClear, HasClock, HasStamps, SectionComes, decoding_stamp, has_discontinuity, pcr_of, presentation_stamp}

-- ---- packets

-- an adaptation field of stuffing has neither
stuffing_steady : (n : ℕ) → has_discontinuity (stuffing_field n) ≡ false
unfolding stuffing_field
stuffing_steady zero = refl
stuffing_steady (suc zero) = refl
stuffing_steady (suc (suc n)) = refl

stuffing_no_pcr : (n : ℕ) → has_pcr (stuffing_field n) ≡ false
unfolding stuffing_field
stuffing_no_pcr zero = refl
stuffing_no_pcr (suc zero) = refl
stuffing_no_pcr (suc (suc n)) = refl

field_steady : (start : Start) (n : ℕ) → has_discontinuity (field_of start n) ≡ false
unfolding field_of
field_steady Continues n = stuffing_steady n
field_steady Begins n = stuffing_steady n
field_steady Access n = refl

field_no_pcr : (start : Start) (n : ℕ) → has_pcr (field_of start n) ≡ false
unfolding field_of
field_no_pcr Continues n = stuffing_no_pcr n
field_no_pcr Begins n = stuffing_no_pcr n
field_no_pcr Access n = refl

abbrev IsAlone : Described → Entry → Type 0
IsAlone d e = IsPayloadAlone e.packet ⊎ IsClockAlone d e.packet

abbrev ClearIn : Described → Entry → Type 0
ClearIn d e = IsClear d e.packet

one_clear : (d : Described) (e : Entry) → IsAlone d e → ClearIn d e
one_clear d e (inl alone) =
    let none : has_pcr e.packet.adaptation ≡ false =
    ap (λ p. has_pcr p.adaptation) alone ∙ field_no_pcr (start_in e.packet) (184 - length (payload_of e.packet)) in
    record {
      scrambling = ap (λ p. p.header.transport_scrambling_control) alone;
      steady = ap (λ p. has_discontinuity p.adaptation) alone ∙ field_steady (start_in e.packet) (184 - length (payload_of e.packet));
      clock = λ some. absurd (false≢true (sym none ∙ some));
    }
one_clear d e (inr clock) = record {
  scrambling = ap (λ p. p.header.transport_scrambling_control) clock.alone;
  steady = ap (λ p. has_discontinuity p.adaptation) clock.alone;
  clock = λ some. (clock.program, clock.named);
}

pub all_in_the_clear : (d : Described) (es : List Entry) → All (λ e. IsPayloadAlone e.packet ⊎ IsClockAlone d e.packet) es → All (λ e. IsClear d e.packet) es
all_in_the_clear d [] all = All-nil (ClearIn d)
all_in_the_clear d (e ∷ es) all = All-cons (ClearIn d) e es (one_clear d e (All-head (IsAlone d) e es all))
    (all_in_the_clear d es (All-tail (IsAlone d) e es all))

-- ---- clock references

ticks_again : (t : ℕ) → 300 * (t / 300) + t % 300 ≡ t
ticks_again t = omega arith

has_clock : (rate base0 pid : ℕ) (e : Entry) → e.packet ≡ pcr_view pid (pcr_at rate base0 (188 * e.index + 10)) → HasClock rate base0 e
has_clock rate base0 pid e is =
    ap (λ p. option_map ticks_of (pcr_of p.adaptation)) is ∙ ap Some (ticks_again (pcr_ticks rate base0 (188 * e.index + 10)))

pub have_clocks : (rate base0 pid : ℕ) (es : List Entry) → map (λ e. e.packet) es ≡ map (λ e. pcr_view pid (pcr_at rate base0 (188 * e.index + 10))) es →
    All (HasClock rate base0) es
have_clocks rate base0 pid [] h = All-nil (HasClock rate base0)
have_clocks rate base0 pid (e ∷ es) h =
    let first : e.packet ≡ pcr_view pid (pcr_at rate base0 (188 * e.index + 10)) = cc in
    let others : map (λ e. e.packet) es ≡ map (λ e. pcr_view pid (pcr_at rate base0 (188 * e.index + 10))) es = cc in
    All-cons (HasClock rate base0) e es (has_clock rate base0 pid e first) (have_clocks rate base0 pid es others)

-- ---- stamps

written_pts : (id size : ℕ) (u : AccessUnit) (pts dts : ℕ) → presentation_stamp (written_header id size u.marks pts dts).stamps ≡ Some (on_wire pts)
unfolding written_header
written_pts id size u pts dts = elim (cases_Bool (on_wire pts == on_wire dts)) [ inl y ↦ rw y refl | inr n ↦ rw n refl ]

written_dts : (id size : ℕ) (u : AccessUnit) (pts dts : ℕ) → decoding_stamp (written_header id size u.marks pts dts).stamps ≡ Some (on_wire dts)
unfolding written_header
written_dts id size u pts dts = elim (cases_Bool (on_wire pts == on_wire dts)) [
  | inl y ↦ rw y (ap Some (eqb-true (on_wire pts) (on_wire dts) y))
  | inr n ↦ rw n refl
]

pub has_stamps : (id base0 : ℕ) (u : AccessUnit) → IsTrue (fits_packet id (length u.bytes)) →
    HasStamps (pes_packet_bytes id base0 u) (on_wire (u.pts + base0)) (on_wire (u.dts + base0))
unfolding pes_packet_bytes
has_stamps id base0 u fits = record {
  header = written_header id (length u.bytes) u.marks (u.pts + base0) (u.dts + base0);
  size = length (pes_header_bytes id (length u.bytes) u.marks (u.pts + base0) (u.dts + base0));
  read = written_is_read id (length u.bytes) u.marks (u.pts + base0) (u.dts + base0) u.bytes fits;
  presentation = written_pts id (length u.bytes) u (u.pts + base0) (u.dts + base0);
  decoding = written_dts id (length u.bytes) u (u.pts + base0) (u.dts + base0);
}

-- ---- sections

abbrev BeginsAt : Scheduled → TextsSoFar → ℕ → ℕ → List ℕ → ℕ → Type 0
BeginsAt d changes t j bytes s = BeginsIn (table_over d changes t) j s bytes

each_begins : (d : Scheduled) (changes : TextsSoFar) (t slots : ℕ) (bytes : List ℕ) (j s n : ℕ) → from_of (past_of changes) t ≡ None → TableKeptOver d changes t slots bytes →
    j < section_count d.description t → s + n ≤ slots → All (BeginsAt d changes t j bytes) (own_slots (section_starts d.description d.schedule t j) s n)
unfolding own_slots
each_begins d changes t slots bytes j s zero first kept within le = All-nil (BeginsAt d changes t j bytes)
each_begins d changes t slots bytes j s (suc n) first kept within le =
    let own : ℕ → Bool = section_starts d.description d.schedule t j in
    let rest = each_begins d changes t slots bytes j (suc s) n first kept within (omega (arith, le)) in
    elim (cases_Bool (section_starts d.description d.schedule t j s)) [
      | inl y ↦ rw y (All-cons (BeginsAt d changes t j bytes) s (own_slots own (suc s) n) (kept.begins j s within (ap (λ (from : Option ℕ). not_yet from s) first) (omega (arith, le)) y) rest)
      | inr k ↦ rw k rest
    ]

pub section_comes : (d : Scheduled) (changes : TextsSoFar) (t slots : ℕ) (bytes : List ℕ) (j : ℕ) → from_of (past_of changes) t ≡ None → TableKeptOver d changes t slots bytes →
    j < section_count d.description t → SectionComes d changes t j slots bytes
section_comes d changes t slots bytes j first kept within = record {
  starts = own_slots (section_starts d.description d.schedule t j) 0 slots;
  begins = each_begins d changes t slots bytes j 0 slots first kept within (omega arith);
  recur = kept.sections_recur j within;
}
