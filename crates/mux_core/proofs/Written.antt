-- The written bytes and the waiting bytes, after one more packet, after a written part, and after a part that failed.
use Rattle.std.proofs.Common.{◌≡◌, ℕ, ◌+◌, ◌<◌, ◌≤◌, Bool, true, false, List, [], ◌∷◌, ◌++◌, length, take, Option, Some, Result, Ok, Err, refl, sym, ap, ◌∙◌}
use Rattle.std.proofs.Common.{subst, arith, append_assoc, append-nil}
use Rattle.std.proofs.lemmas.List.{length-append, length-set, take-append-le, take_all, take_more, take-set, get_or-set_same}
use Rattle.std.proofs.lemmas.Grind.{flat_map-append}
use Rattle.std.proofs.lemmas.Option.{get_or_from_slice_get, slice_get-get_or, slice_get_within}
use Rattle.std.proofs.Math.Seq.{take-append-add}
use Rattle.std.specs.List.{flat_map, slice_get}
use Rattle.std.specs.Prelude.{IfOk, IfErr, OnOk}
use Rattle.std.specs.Io.KnownBytes.{Appends}
use Rattle.std.proofs.KnownBytes.{Appends-trans, Appends-nil}
use Rattle.mux_core.specs.Buffer.{byte_count, waiting_of, with_next, Buffered, HasNext, IsOutput, Took, TookPart}
use Rattle.mux_core.specs.Formats.{formatted}
use Rattle.mux_core.specs.declared.output.OutputFault.{OutputFault}

-- 1. The waiting bytes

-- The bytes of packets, joined.
abbrev pub joined : List (List ℕ) → List ℕ
joined packets = flat_map (λ packet. packet) packets

-- One more packet waits.
joined_more : (rooms : List (List ℕ)) (n : ℕ) (packet : List ℕ) → slice_get rooms n ≡ Some packet → joined (take (n + 1) rooms) ≡ joined (take n rooms)
    ++ packet
joined_more rooms n packet at =
    let inside = slice_get_within rooms n packet at in
    ap joined (take_more rooms n [] inside ∙ ap (λ (x : List ℕ). take n rooms ++ x ∷ []) (get_or_from_slice_get rooms n packet [] at))
    ∙ flat_map-append (λ packet. packet) (take n rooms) (packet ∷ []) ∙ ap (λ (x : List ℕ). joined (take n rooms) ++ x) (append-nil packet)

-- Only lines wait.
pub lines_alone : (lines : List ℕ) (rooms : List (List ℕ)) (n : ℕ) → n ≡ 0 → lines ≡ lines ++ joined (take n rooms)
lines_alone lines rooms n none = sym (ap (λ (k : ℕ). lines ++ joined (take k rooms)) none ∙ append-nil lines)

-- Packets wait in all rooms, and no lines wait.
pub rooms_alone : (lines : List ℕ) (rooms : List (List ℕ)) (n : ℕ) → lines ≡ [] → length rooms ≤ n → joined rooms ≡ lines ++ joined (take n rooms)
rooms_alone lines rooms n none all = ap joined (sym (take_all n rooms all)) ∙ ap (λ (x : List ℕ). x ++ joined (take n rooms)) (sym none)

-- Nothing is collected yet.
pub holds_none : (start : Option (List ℕ)) (buffer : Buffered) → waiting_of buffer ≡ [] → buffer.sent ≡ 0 → IsOutput start start buffer []
holds_none start buffer none unsent = record { written = []; taken = Appends-nil start; is = sym none; sent = unsent }

-- A packet in the next free room does not wait yet.
pub next_put : (start now : Option (List ℕ)) (old : Buffered) (all packet : List ℕ) → IsOutput start now old all → IsOutput start now (with_next old packet) all
next_put start now old all packet h = record {
  written = h.written;
  taken = h.taken;
  is = h.is ∙ ap (λ (x : List (List ℕ)). h.written ++ (old.lines ++ joined x)) (sym (take-set old.rooms old.count packet));
  sent = h.sent;
}

pub next_is : (old : Buffered) (packet : List ℕ) → old.count < length old.rooms → HasNext (with_next old packet) packet
next_is old packet room =
    let rooms = (with_next old packet).rooms in
    let size : length rooms ≡ length old.rooms = length-set old.rooms old.count packet in
    slice_get-get_or rooms old.count packet (omega (arith, size, room)) ∙ ap Some (get_or-set_same old.rooms old.count packet packet room)

-- 2. One more packet

-- More bytes wait.
holds_more : (start now : Option (List ℕ)) (old new : Buffered) (all part : List ℕ) → IsOutput start now old all →
    waiting_of new ≡ waiting_of old ++ part → new.sent ≡ old.sent → IsOutput start now new (all ++ part)
holds_more start now old new all part h more same = record {
  written = h.written;
  taken = h.taken;
  is = ap (λ (t : List ℕ). t ++ part) h.is ∙ append_assoc h.written (waiting_of old) part ∙ ap (λ (t : List ℕ). h.written ++ t) (sym more);
  sent = same ∙ h.sent;
}

-- The packet waits as its bytes, and the next room is the room after it.
packet_waits : (start now : Option (List ℕ)) (old : Buffered) (all packet : List ℕ) → old.hex ≡ false → HasNext old packet → IsOutput start now old all →
    IsOutput start now (record old { count = old.count + 1 }) (all ++ formatted old.hex packet)
unfolding formatted
packet_waits start now old all packet bytes next h =
    subst (λ (x : Bool). IsOutput start now (record old { count = old.count + 1 }) (all ++ formatted x packet)) (sym bytes)
    (holds_more start now old (record old { count = old.count + 1 }) all packet h
    (ap (λ (x : List ℕ). old.lines ++ x) (joined_more old.rooms old.count packet next)
    ∙ sym (append_assoc old.lines (joined (take old.count old.rooms)) packet)) refl)

-- The packet waits as a line.
line_waits : (start now : Option (List ℕ)) (old : Buffered) (all packet lines first : List ℕ) → old.hex ≡ true → old.count ≡ 0 → HasNext old packet →
    slice_get old.rooms 0 ≡ Some first → lines ≡ old.lines ++ formatted true first → IsOutput start now old all →
    IsOutput start now (record old { lines = lines }) (all ++ formatted old.hex packet)
line_waits start now old all packet lines first hex none next there line h =
    let at : slice_get old.rooms 0 ≡ Some packet = subst (λ (n : ℕ). slice_get old.rooms n ≡ Some packet) none next in
    let same : first ≡ packet = sym (get_or_from_slice_get old.rooms 0 first [] there) ∙ get_or_from_slice_get old.rooms 0 packet [] at in
    subst (λ (x : Bool). IsOutput start now (record old { lines = lines }) (all ++ formatted x packet)) (sym hex)
    (holds_more start now old (record old { lines = lines }) all (formatted true packet) h
    (sym (lines_alone lines old.rooms old.count none) ∙ line ∙ ap (λ (x : List ℕ). old.lines ++ formatted true x) same
    ∙ ap (λ (x : List ℕ). x ++ formatted true packet) (lines_alone old.lines old.rooms old.count none)) refl)

-- The packet waits, with the fields inside a struct.
pub packet_waits_inside : (start now : Option (List ℕ)) (inside old : Buffered) (all packet : List ℕ) → inside ≡ old → inside.hex ≡ false → HasNext old packet →
    IsOutput start now old all → IsOutput start now (record inside { count = inside.count + 1 }) (all ++ formatted old.hex packet)
packet_waits_inside start now inside old all packet same bytes =
    subst (λ (b : Buffered). HasNext b packet → IsOutput start now b all →
    IsOutput start now (record inside { count = inside.count + 1 }) (all ++ formatted b.hex packet)) same
    (packet_waits start now inside all packet bytes)

pub line_waits_inside : (start now : Option (List ℕ)) (inside old : Buffered) (all packet lines first : List ℕ) → inside ≡ old → inside.hex ≡ true →
    inside.count ≡ 0 →
    HasNext old packet → slice_get inside.rooms 0 ≡ Some first → lines ≡ inside.lines ++ formatted true first → IsOutput start now old all →
    IsOutput start now (record inside { lines = lines }) (all ++ formatted old.hex packet)
line_waits_inside start now inside old all packet lines first same hex none next at line =
    subst (λ (b : Buffered). HasNext b packet → IsOutput start now b all → IsOutput start now (record inside { lines = lines }) (all ++ formatted b.hex packet))
    same
    (λ there h. line_waits start now inside all packet lines first hex none there at line h) next

-- 3. The waiting bytes are written

-- The result of writing a part after `before` bytes.
pub record Wrote (now later : Option (List ℕ)) (part : List ℕ) (before : ℕ) (result : Result ℕ OutputFault) : Type 0 where
  pub ok : IfOk result (λ n. n ≡ byte_count (before + length part))
  pub bytes : OnOk result (Appends now later part)
  pub err : IfErr result (λ fault. TookPart now later part before fault.sent)

-- The waiting bytes are written, or writing them failed.
pub record PartOut (start now later : Option (List ℕ)) (all : List ℕ) (result : Result ℕ OutputFault) : Type 0 where
  pub buffer : Buffered
  pub holds : IsOutput start now buffer all
  pub wrote : Wrote now later (waiting_of buffer) buffer.sent result

-- Writing a part that is all waiting bytes.
pub part_out : (start now later : Option (List ℕ)) (buffer : Buffered) (all part : List ℕ) (before : ℕ) (result : Result ℕ OutputFault) →
    IsOutput start now buffer all →
    part ≡ waiting_of buffer → before ≡ buffer.sent → IfOk result (λ n. n ≡ byte_count (before + length part)) → OnOk result (Appends now later part) →
    IfErr result (λ fault. TookPart now later part before fault.sent) → PartOut start now later all result
part_out start now later buffer all part before result h is same ok bytes err =
    let wrote : Wrote now later part before result = record { ok = ok; bytes = bytes; err = err } in record {
      buffer = buffer;
      holds = h;
      wrote = subst (λ (n : ℕ). Wrote now later (waiting_of buffer) n result) same (subst (λ (x : List ℕ). Wrote now later x before result) is wrote);
    }

counts_on : (a b : ℕ) → byte_count (byte_count a + b) ≡ byte_count (a + b)
counts_on a b = omega arith

pub out_whole : (start now later : Option (List ℕ)) (new : Buffered) (all : List ℕ) (result : Result ℕ OutputFault) → PartOut start now later all result →
    result ≡ Ok new.sent →
    waiting_of new ≡ [] → IsOutput start later new all
out_whole start now later new all result out ok none =
    let h = out.holds in
    let waiting = waiting_of out.buffer in
    let wrote : Wrote now later waiting out.buffer.sent (Ok new.sent) =
    subst (λ (r : Result ℕ OutputFault). Wrote now later waiting out.buffer.sent r) ok out.wrote in record {
      written = h.written ++ waiting;
      taken = Appends-trans start now later h.written waiting h.taken wrote.bytes;
      is = h.is ∙ sym (append-nil (h.written ++ waiting)) ∙ ap (λ (x : List ℕ). (h.written ++ waiting) ++ x) (sym none);
      sent = wrote.ok ∙ ap (λ (n : ℕ). byte_count (n + length waiting)) h.sent ∙ counts_on (length h.written) (length waiting)
          ∙ ap byte_count (sym (length-append h.written waiting));
    }

pub out_in_part : (start now later : Option (List ℕ)) (all : List ℕ) (result : Result ℕ OutputFault) (fault : OutputFault) →
    PartOut start now later all result → result ≡ Err fault →
    Took start later fault.sent all
out_in_part start now later all result fault out err =
    let h = out.holds in
    let waiting = waiting_of out.buffer in
    let wrote : Wrote now later waiting out.buffer.sent (Err fault) =
    subst (λ (r : Result ℕ OutputFault). Wrote now later waiting out.buffer.sent r) err out.wrote in
    let t : TookPart now later waiting out.buffer.sent fault.sent = wrote.err in record {
      count = length h.written + t.count;
      within = omega (arith, t.within, length-append h.written waiting, ap (length {A = ℕ}) h.is);
      taken =
          let front : take (length h.written + t.count) all ≡ h.written ++ take t.count waiting =
          ap (take {A = ℕ} (length h.written + t.count)) h.is ∙ take-append-add h.written waiting t.count in
          subst (λ (x : List ℕ). Appends start later x) (sym front)
          (Appends-trans start now later h.written (take t.count waiting) h.taken t.taken);
      sent_is = t.sent_is ∙ ap (λ (n : ℕ). byte_count (n + t.count)) h.sent ∙ counts_on (length h.written) t.count;
    }

-- If the writer took the first bytes of an output, they are the first bytes of any longer output.
pub took_longer : (start now : Option (List ℕ)) (sent : ℕ) (all more : List ℕ) → Took start now sent all → Took start now sent (all ++ more)
took_longer start now sent all more t = record {
  count = t.count;
  within = omega (arith, t.within, length-append all more);
  taken = rw (take-append-le t.count all more t.within) t.taken;
  sent_is = t.sent_is;
}

-- If writing the last part fails, the writer took the first bytes of the output.
pub out_ends : (start now later : Option (List ℕ)) (all : List ℕ) (result : Result ℕ OutputFault) → PartOut start now later all result →
    IfErr result (λ fault. Took start later fault.sent all)
out_ends start now later all (Ok n) out = tt
out_ends start now later all (Err fault) out = out_in_part start now later all (Err fault) fault out refl
