-- The known state before a packet of a stream, the lasting part of its entry, and the number of counted excesses
use Rattle.std.proofs.Common.{◌≡◌, ◌∙◌, sym, ℕ, ◌+◌, ◌^◌, ◌<◌, List, [], ◌∷◌, ◌++◌, length, Option, Some, None, refl, ap, arith}
use Rattle.std.specs.Prelude.{flat_map, slice_get}
use Rattle.std.specs.Option.{option_to_list}
use Rattle.std.proofs.lemmas.List.{length-append}
use Rattle.ts_packet.specs.Views.{PacketView}
use Rattle.ts_packet.specs.Reading.{packet_at}
use Rattle.tstd_rows.specs.declared.excess.Excess.{Excess}
use Rattle.tstd_rows.specs.Entering.{EnteredView}
use Rattle.ts_watch.specs.Choices.{RequestView}
use Rattle.es_events.specs.EntryEvents.{with_one}
use Rattle.es_events.specs.Clocks.{clock_of}
use Rattle.es_view.specs.Entries.{EntryState}
use Rattle.es_events.specs.Tallies.{more}
use Rattle.ts_report.specs.Views.{ViewState, after_all, start}
use Rattle.laws_view.specs.StreamPackets.{Before, Followed, known_after, known_after_all, sound_packet}
use Rattle.laws_view.proofs.Entries.{Agree}
use Rattle.laws_view.proofs.Steps.{after_sound, clock_known, excesses_more, next, packet_is, sound_agrees, sound_options, sound_packets, sound_steps}
use Rattle.laws_view.proofs.StreamIndices.{index_more}

-- What a view knows before a packet

pub record Knows (s : ViewState) (f : Followed) (b : Before) : Type 0 where
  pub options : s.seen.options ≡ f.options
  pub index : b.index ≡ s.seen.packets
  pub clock : b.clock ≡ clock_of s.seen.clocks f.clock_pid

pub sound_clock : (s : ViewState) (f : Followed) (b : Before) (o : Option PacketView) → Knows s f b →
    (known_after f b o).clock ≡ clock_of (after_sound s o).seen.clocks f.clock_pid
unfolding known_after after_sound
sound_clock s f b None k = k.clock
sound_clock s f b (Some packet) k = rw (k.index, k.clock, sym k.options) (sym (clock_known s.seen.options f.clock_pid s.seen.packets packet s.seen.clocks))

pub knows_all : (s : ViewState) (f : Followed) (b : Before) (packets : List (List ℕ)) → Knows s f b → s.seen.packets + length packets < 2 ^ 64 →
    Knows (after_all s packets) f (known_after_all f b packets)
unfolding after_all known_after_all
knows_all s f b [] k few = k
knows_all s f b (bytes ∷ packets) k few =
    let o = sound_packet (packet_at bytes) in
    let count = sound_packets s o (omega (arith, few)) in
    let one : Knows (next s bytes) f (known_after f b o) = record {
      options = sound_options s o ∙ k.options;
      index = index_more f b o ∙ ap (λ (n : ℕ). n + 1) k.index ∙ sym count;
      clock = sound_clock s f b o k;
    } in
    rw (packet_is s bytes) (knows_all (next s bytes) f (known_after f b o) packets one (omega (arith, few, count)))

pub index_all : (f : Followed) (b : Before) (packets : List (List ℕ)) → (known_after_all f b packets).index ≡ b.index + length packets
unfolding known_after_all
index_all f b [] = omega arith
index_all f b (bytes ∷ packets) =
    let o = sound_packet (packet_at bytes) in
    omega (arith, index_all f (known_after f b o) packets, index_more f b o)

pub none_agree : (request : RequestView) → Agree (start request).table
none_agree request = record { at = λ pid j h. absurd (let no : ⊥ = cc in no); of = λ j e h. absurd (none j e h) }
  where
    none : (j : ℕ) (e : EntryState) → slice_get [] j ≡ Some e → ⊥
    none j e h = cc

-- An entry keeps its place and its PID.
pub entry_stays : (s : ViewState) (packets : List (List ℕ)) (j : ℕ) (e : EntryState) → Agree s.table → s.seen.packets + length packets < 2 ^ 64 →
    slice_get s.table.entries j ≡ Some e →
    (e' : EntryState) × ((slice_get (after_all s packets).table.entries j ≡ Some e') × (e'.pid ≡ e.pid))
unfolding after_all
entry_stays s [] j e agree few there = (e, (there, refl))
entry_stays s (bytes ∷ packets) j e agree few there =
    let o : Option PacketView = sound_packet (packet_at bytes) in
    let one : s.seen.packets + 1 < 2 ^ 64 = omega (arith, few) in
    let step = sound_steps s o j e agree one there in
    let count = sound_packets s o one in
    let rest = entry_stays (next s bytes) packets j step.0 (sound_agrees s o agree) (omega (arith, few, count)) step.1.0 in
    let same : rest.0.pid ≡ e.pid = rest.1.1 ∙ ap (λ (x : Followed). x.pid) step.1.1.same_stream in
    (rest.0, (ap (λ (x : ViewState). slice_get (after_all x packets).table.entries j) (packet_is s bytes) ∙ rest.1.0, same))

-- The counted excesses

pub excesses_exact : (n : ℕ) (vs : List EnteredView) → n + length (flat_map (λ v. v.transport) vs) < 2 ^ 64 →
    excesses_more n vs ≡ n + length (flat_map (λ v. v.transport) vs)
unfolding excesses_more
excesses_exact n [] few = omega arith
excesses_exact n (v ∷ vs) few =
    let both = length-append v.transport (flat_map (λ v. v.transport) vs) in
    let one : more n (length v.transport) ≡ n + length v.transport = omega (arith, few, both) in
    rw one (omega (arith, excesses_exact (n + length v.transport) vs (omega (arith, few, both)), both))

pub one_counted : (n : ℕ) (es : List Excess) (o : Option Excess) → n ≡ length es → with_one n o ≡ length (es ++ option_to_list o)
one_counted n es None e = omega (arith, e, length-append es [])
one_counted n es (Some x) e = omega (arith, e, length-append es (x ∷ []))
