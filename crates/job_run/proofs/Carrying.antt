-- The carried bytes of an arriving stream go through a demultiplexer.
use Rattle.std.proofs.Common.{◌≡◌, ◌≤◌, ℕ, ◌+◌, ◌-◌, Bool, true, false, List, [], ◌++◌, length, length-append, take, drop, refl, sym, ap, ap₂, subst, ◌∙◌}
use Rattle.std.proofs.Common.{arith, append_assoc, append-nil, drop-drop}
use Rattle.std.proofs.Math.Seq.{drop-append-add}
use Rattle.std.proofs.lemmas.List.{drop_all, drop-append-le, take-append-drop}
use Rattle.stamp_repair.specs.References.{LogView, logged, no_packet, references_in}
use Rattle.packet_pcr.specs.declared.pcr_reading.FoundPcr.{FoundPcr}
use Rattle.stamp_repair.proofs.LoggedBytes.{logged_append}
use Rattle.demux.specs.Stream.{StreamState, finished, pushed, start}
use Rattle.demux.proofs.PushedBytes.{pushed_append}
use Rattle.joined_parts.specs.declared.gap_search.ClockGap.{ClockGap}
use Rattle.joined_parts.specs.declared.recodings.Recoding.{Recoding}
use Rattle.packet_sync.specs.Notes.{IsNoted, NotesView, SayAlike, no_notes}
use Rattle.packet_sync.specs.Slips.{carried}
use Rattle.packet_sync.specs.Stretches.{IsStretch}
use Rattle.packet_sync.specs.declared.left_out.FieldLeftOut.{FieldLeftOut}
use Rattle.packet_sync.specs.declared.slip.Slip.{Slip}
use Rattle.packet_sync.specs.declared.stretch.Stretch.{Stretch}
use Rattle.packet_sync.proofs.Noted.{all_noted}
use Rattle.packet_sync.proofs.Stretches.{carried_few}
use Rattle.job_run.specs.Streams.{CarriedView, IsCarriedTo, IsOfPackets, PacketsView, with_bytes}

-- 1. The notes

alike_at : (old new : NotesView) (a b x y : List ℕ) → a ≡ b → x ≡ y → SayAlike old b new y → SayAlike old a new x
alike_at old new a b x y e f so = subst (λ (r : List ℕ). SayAlike old r new x) (sym e) (subst (λ (r : List ℕ). SayAlike old b new r) (sym f) so)

alike_then : (a b c : NotesView) (xs ys zs : List ℕ) → SayAlike a xs b ys → SayAlike b ys c zs → SayAlike a xs c zs
alike_then a b c xs ys zs one two = record { slips = one.slips ∙ two.slips; fields = one.fields ∙ two.fields }

-- 2. More bytes, or no more

pub more_came : (stream piece held : List ℕ) (s : CarriedView) → held ≡ s.held ++ piece → IsCarriedTo stream false s →
    IsCarriedTo (stream ++ piece) false (record { held = held; packets = s.packets })
more_came stream piece held s is so =
    let whole : (more : List ℕ) → (stream ++ piece) ++ more ≡ stream ++ (piece ++ more) = λ more. append_assoc stream piece more in
    let rest : (more : List ℕ) → held ++ more ≡ s.held ++ (piece ++ more) = λ more. ap (λ (r : List ℕ). r ++ more) is ∙ append_assoc s.held piece more in
    record {
      gone = so.gone;
      carries = λ more none. ap carried (whole more) ∙ so.carries (piece ++ more) (λ e. absurd cc)
          ∙ ap (λ (r : List ℕ). so.gone ++ carried r) (sym (rest more));
      said = λ more none. alike_at no_notes s.packets.notes ((stream ++ piece) ++ more) (stream ++ (piece ++ more)) (held ++ more) (s.held ++ (piece ++ more))
          (whole more) (rest more)
          (so.said (piece ++ more) (λ e. absurd cc));
      log_is = so.log_is;
      demux_is = so.demux_is;
      size_is = so.size_is;
    }

pub no_more : (stream : List ℕ) (s : CarriedView) → IsCarriedTo stream false s → IsCarriedTo stream true s
no_more stream s so = record {
  gone = so.gone;
  carries = λ more none. so.carries more (λ e. absurd cc);
  said = λ more none. so.said more (λ e. absurd cc);
  log_is = so.log_is;
  demux_is = so.demux_is;
  size_is = so.size_is;
}

-- Equal bytes and an equal state
pub carried_as : (stream other : List ℕ) (ended : Bool) (s t : CarriedView) → stream ≡ other → s.held ≡ t.held → s.packets ≡ t.packets →
    IsCarriedTo stream ended s → IsCarriedTo other ended t
carried_as stream other ended s t e f p so =
    let same : s ≡ t = ap₂ (λ (h : List ℕ) (q : PacketsView). record { held = h; packets = q }) f p in
    subst (λ (r : List ℕ). IsCarriedTo r ended t) e (subst (λ (x : CarriedView). IsCarriedTo stream ended x) same so)

-- 3. A stretch

pub stretch_carried : (stream bytes : List ℕ) (ended : Bool) (at : ℕ) (rest taking : List ℕ) (s : Stretch) (notes : NotesView) (old new : PacketsView) →
    rest ≡ drop at bytes → taking ≡ take s.in_step rest → IsStretch rest ended s → IsNoted old.notes notes rest ended s →
    new ≡ with_bytes taking (record { notes = notes; log = old.log; demux = old.demux; size = old.size }) →
    IsCarriedTo stream ended (record { held = drop at bytes; packets = old }) →
    IsCarriedTo stream ended (record { held = drop (at + (s.in_step + s.slipped)) bytes; packets = new })
stretch_carried stream bytes ended at rest taking s notes old new is takes stretch noted e so =
    let size = s.in_step + s.slipped in
    let left : drop size rest ≡ drop (at + size) bytes = ap (λ (r : List ℕ). drop size r) is ∙ drop-drop size at bytes in
    record {
      gone = so.gone ++ taking;
      carries = λ more none. so.carries more none
          ∙ ap (λ (r : List ℕ). so.gone ++ r)
          (ap (λ (r : List ℕ). carried (r ++ more)) (sym is) ∙ stretch more none
          ∙ ap₂ (λ (x y : List ℕ). x ++ carried (y ++ more)) (sym takes) left)
          ∙ sym (append_assoc so.gone taking (carried (drop (at + size) bytes ++ more)));
      said = λ more none. alike_then no_notes old.notes new.notes (stream ++ more) (drop at bytes ++ more) (drop (at + size) bytes ++ more) (so.said more none)
          (subst (λ (n : NotesView). SayAlike old.notes (drop at bytes ++ more) n (drop (at + size) bytes ++ more)) (sym (ap (λ (q : PacketsView). q.notes) e))
          (alike_at old.notes notes (drop at bytes ++ more) (rest ++ more) (drop (at + size) bytes ++ more) (drop size rest ++ more)
          (ap (λ (r : List ℕ). r ++ more) (sym is)) (ap (λ (r : List ℕ). r ++ more) (sym left))
          (noted more none)));
      log_is = ap (λ (q : PacketsView). q.log) e ∙ ap (λ (l : LogView). logged l taking) so.log_is ∙ sym (logged_append no_packet so.gone taking);
      demux_is = ap (λ (q : PacketsView). q.demux) e ∙ ap (λ (d : StreamState). pushed d taking) so.demux_is ∙ sym (pushed_append start so.gone taking);
      size_is = ap (λ (q : PacketsView). q.size) e ∙ ap (λ (n : ℕ). n + length taking) so.size_is ∙ sym (length-append so.gone taking);
    }

-- 4. A piece: its first bytes are joined with the held bytes

pub front_taken : (stream piece held front later joined : List ℕ) (at n : ℕ) (s : CarriedView) (p q : PacketsView) → record { held = held; packets = p } ≡ s →
    front ≡ take n piece → later ≡ drop n piece →
    joined ≡ held ++ front →
    (IsCarriedTo (stream ++ front) false (record { held = joined; packets = p }) →
    IsCarriedTo (stream ++ front) false (record { held = drop at joined; packets = q })) →
    IsCarriedTo stream false s → IsCarriedTo (stream ++ piece) false (record { held = drop at joined ++ later; packets = q })
front_taken stream piece held front later joined at n s p q view f l j step so =
    let before = subst (λ (x : CarriedView). IsCarriedTo stream false x) (sym view) so in
    let taken = step (more_came stream front joined (record { held = held; packets = p }) j before) in
    let whole : (stream ++ front) ++ later ≡ stream ++ piece =
    append_assoc stream front later ∙ ap (λ (r : List ℕ). stream ++ r) (ap₂ (λ (x y : List ℕ). x ++ y) f l ∙ take-append-drop n piece) in
    carried_as ((stream ++ front) ++ later) (stream ++ piece) false (record { held = drop at joined ++ later; packets = q })
    (record { held = drop at joined ++ later; packets = q }) whole refl refl
    (more_came (stream ++ front) later (drop at joined ++ later) (record { held = drop at joined; packets = q }) refl taken)

-- If all held bytes were taken, the rest of the piece remains.
pub rest_is : (piece held front later joined : List ℕ) (at n : ℕ) → front ≡ take n piece → later ≡ drop n piece → joined ≡ held ++ front → length held ≤ at →
    at ≤ length joined →
    drop at joined ++ later ≡ drop (at - length held) piece
rest_is piece held front later joined at n f l j past within =
    let k = at - length held in
    let place : at ≡ length held + k = omega (arith, past) in
    let size : length joined ≡ length held + length front = ap (length {A = ℕ}) j ∙ length-append held front in
    let fits : k ≤ length front = omega (arith, within, size, past) in
    ap₂ (λ (i : ℕ) (r : List ℕ). drop i r ++ later) place j
    ∙ ap (λ (r : List ℕ). r ++ later) (drop-append-add held front k)
    ∙ sym (drop-append-le k front later fits)
    ∙ ap (λ (r : List ℕ). drop k r) (ap₂ (λ (x y : List ℕ). x ++ y) f l ∙ take-append-drop n piece)

-- 5. The end

pub stream_ended : (bytes held : List ℕ) (at : ℕ) (p : PacketsView) (lost : List Slip) (fields : List FieldLeftOut) (recodings : List Recoding) (jumps : List ClockGap)
    (falling : List ℕ) (references : List FoundPcr) (demux : StreamState) → lost ≡ p.notes.slips →
    fields ≡ p.notes.fields → length held ≤ at → IsCarriedTo bytes true (record { held = drop at held; packets = p }) → recodings ≡ [] → jumps ≡ [] → falling ≡ [] → references ≡ p.log.found →
    demux ≡ finished p.demux →
    IsOfPackets bytes (record { slips = lost; fields = fields; recodings = recodings; gaps = jumps; falling = falling }) references demux.found p.size
stream_ended bytes held at p lost fields recodings jumps falling references demux a b past so e j g r f =
    let none : drop at held ≡ [] = drop_all at held past in
    let whole : bytes ++ [] ≡ bytes = append-nil bytes in
    let left : drop at held ++ [] ≡ [] = append-nil (drop at held) ∙ none in
    let all : carried bytes ≡ so.gone =
    ap carried (sym whole) ∙ so.carries [] (λ e. refl) ∙ ap (λ (r : List ℕ). so.gone ++ carried r) left
    ∙ ap (λ (r : List ℕ). so.gone ++ r) (carried_few [] (omega arith)) ∙ append-nil so.gone in
    let said = all_noted bytes p.notes
    (alike_at no_notes p.notes bytes (bytes ++ []) [] (drop at held ++ []) (sym whole) (sym left) (so.said [] (λ e. refl))) in
    record {
      notes_are = ap₂
          (λ (z : List Recoding) (x : List ClockGap). record { slips = lost; fields = fields; recodings = z; gaps = x; falling = falling }) e j
          ∙ ap (λ (z : List ℕ). record { slips = lost; fields = fields; recodings = []; gaps = []; falling = z }) g
          ∙ ap₂ (λ (x : List Slip) (y : List FieldLeftOut). record { slips = x; fields = y; recodings = []; gaps = []; falling = [] }) (a ∙ said.0) (b ∙ said.1);
      references_are = r ∙ ap (λ (l : LogView). l.found) so.log_is ∙ ap references_in (sym all);
      found_is = ap (λ (d : StreamState). d.found) f ∙ ap (λ (d : StreamState). (finished d).found) so.demux_is
          ∙ ap (λ (r : List ℕ). (finished (pushed start r)).found) (sym all);
      size_is = so.size_is ∙ ap length (sym all);
    }
