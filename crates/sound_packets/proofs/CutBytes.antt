-- What cut packets keep
use Rattle.std.proofs.Common.{◌≡◌, ◌∙◌, ◌≤◌, ◌<◌, ◌+◌, ◌-◌, ◌++◌, ◌&&◌, ℕ, min, nat_lt, Bool, true, false, List, [], ◌∷◌, length, take, drop, map, flat_map, Option, Some, None, refl, sym, subst, ap, arith}
use Rattle.std.proofs.Common.{append-nil, ltb-true, take-append-drop}
use Rattle.std.specs.Prelude.{if◌then◌else◌}
use Rattle.std.proofs.lemmas.Grind.{flat_map-append}
use Rattle.demux.specs.Laws.{has_pid}
use Rattle.pes_packet.specs.declared.reading.PesHeader.{PesHeader}
use Rattle.pid_findings.specs.Views.{FindingView, WhatView, IsDuplicate, BreaksCounter, IsScrambled, IsTruncated, IsSection, IsBadSection, IsPes, IsBadPes, IsBadPacket}
use Rattle.pid_findings.specs.Views.{IsErrored, IsStray}
use Rattle.sound_frames.specs.declared.frame_headers.FrameKind.{FrameKind}
use Rattle.sound_frames.specs.declared.frame_walk.FramePart.{FramePart}
use Rattle.sound_packets.specs.CutPackets.{body_of, cut, cut_by, cut_packet, cut_time, packet_by}
use Rattle.sound_packets.specs.KnownFrames.{KnownFrames, frames_on, known_frames}
use Rattle.sound_packets.specs.Laws.{AreFew, FewFrames, SameBytes, bytes_on}
use Rattle.sound_packets.specs.Pieces.{later_frames, piece_count, piece_of, pieces, pieces_from}
use Rattle.sound_packets.specs.declared.known_frames.SoundFrames.{SoundFrames}
use Rattle.sound_packets.specs.declared.pieces.CutPacket.{CutPacket}

-- 1. The pieces of a packet have its bytes.

abbrev bytes_in : List (ℕ × List ℕ) → List ℕ
bytes_in ps = flat_map (λ (p : ℕ × List ℕ). p.1) ps

joined : (n all parts rest first count at : ℕ) (later : List FramePart) (bytes : List ℕ) →
    bytes_in (pieces_from n all parts rest first count at later bytes) ≡ bytes
unfolding pieces_from
joined n all parts rest first count at [] bytes = append-nil bytes
joined n all parts rest first count at (p ∷ ps) bytes =
    step (nat_lt count n && nat_lt (rest + parts) all) (joined n all parts (rest + parts) first (count + 1) at ps bytes)
    (joined n all parts (rest + parts - all) (first + count) 1 p.place ps (drop (min (p.place - at) (length bytes)) bytes))
  where
    size : ℕ
    size = min (p.place - at) (length bytes)

    step : (b : Bool) → bytes_in (pieces_from n all parts (rest + parts) first (count + 1) at ps bytes) ≡ bytes →
        bytes_in (pieces_from n all parts (rest + parts - all) (first + count) 1 p.place ps (drop size bytes)) ≡ drop size bytes →
        bytes_in (if b then pieces_from n all parts (rest + parts) first (count + 1) at ps bytes
        else (first, take size bytes) ∷ pieces_from n all parts (rest + parts - all) (first + count) 1 p.place ps (drop size bytes)) ≡ bytes
    step true whole left = whole
    step false whole left = ap (λ (l : List ℕ). take size bytes ++ l) left ∙ take-append-drop size bytes

-- 2. So do the findings of a PID.

none_if : (b : Bool) → ◌≡◌ {A = List ℕ} [] (if b then [] else [])
none_if true = refl
none_if false = refl

both_if : (b : Bool) (some more : List ℕ) → (if b then some else []) ++ (if b then more else []) ≡ (if b then some ++ more else [])
both_if true some more = refl
both_if false some more = refl

of_pieces : (c : CutPacket) (pid : ℕ) (ps : List (ℕ × List ℕ)) →
    flat_map (bytes_on pid) (map (piece_of c) ps) ≡ (if has_pid pid c.pid then bytes_in ps else [])
unfolding body_of
of_pieces c pid [] = none_if (has_pid pid c.pid)
of_pieces c pid (p ∷ ps) =
    ap (λ (l : List ℕ). (if has_pid pid c.pid then p.1 else []) ++ l) (of_pieces c pid ps) ∙ both_if (has_pid pid c.pid) p.1 (bytes_in ps)

single : (pid : ℕ) (f : FindingView) → flat_map (bytes_on pid) (f ∷ []) ≡ bytes_on pid f
single pid f = append-nil (bytes_on pid f)

of_packet : (n : ℕ) (pid : ℕ) (f : FindingView) (c : CutPacket) → c.pid ≡ f.pid → flat_map (bytes_on pid) (cut_by n f (Some c)) ≡ bytes_on pid f
unfolding cut_by
of_packet n pid f c same =
    let body = body_of f.what in
    of_pieces c pid (pieces n c.kind body)
    ∙ ap (λ (l : List ℕ). if has_pid pid c.pid then l else []) (joined n (length (later_frames c.kind body) + 1) (piece_count n (length (later_frames c.kind body) + 1)) 0 0 1 0 (later_frames c.kind body) body)
    ∙ ap (λ (p : Option ℕ). if has_pid pid p then body else []) same

of_time : (n : ℕ) (pid : ℕ) (f : FindingView) (header : PesHeader) (kind : FrameKind) (t : Option ℕ) →
    flat_map (bytes_on pid) (cut_by n f (elim t [
      | None ↦ None
      | Some time ↦ Some (record { packet = f.packet; pid = f.pid; begun = f.begun; header = header; kind = kind; time = time })
    ])) ≡ bytes_on pid f
unfolding cut_by
of_time n pid f header kind None = single pid f
of_time n pid f header kind (Some time) =
    of_packet n pid f (record { packet = f.packet; pid = f.pid; begun = f.begun; header = header; kind = kind; time = time }) refl

of_what : (n : ℕ) (pid : ℕ) (s : SoundFrames) (f : FindingView) (what : WhatView) → flat_map (bytes_on pid) (cut_by n f (packet_by n s f what)) ≡ bytes_on pid f
unfolding cut_by packet_by
of_what n pid s f IsDuplicate = single pid f
of_what n pid s f (BreaksCounter expected found) = single pid f
of_what n pid s f IsScrambled = single pid f
of_what n pid s f (IsTruncated bytes) = single pid f
of_what n pid s f (IsSection bytes) = single pid f
of_what n pid s f (IsBadSection error) = single pid f
of_what n pid s f (IsPes header unended body) = of_time n pid f header s.kind (cut_time n s header unended body)
of_what n pid s f (IsBadPes error) = single pid f
of_what n pid s f (IsBadPacket error) = single pid f
of_what n pid s f IsErrored = single pid f
of_what n pid s f (IsStray size) = single pid f

of_sound : (n : ℕ) (pid : ℕ) (f : FindingView) (o : Option SoundFrames) →
    flat_map (bytes_on pid) (cut_by n f (elim o [ None ↦ None | Some s ↦ packet_by n s f f.what ])) ≡ bytes_on pid f
unfolding cut_by
of_sound n pid f None = single pid f
of_sound n pid f (Some s) = of_what n pid s f f.what

of_finding : (n : ℕ) (pid : ℕ) (known : KnownFrames) (f : FindingView) → flat_map (bytes_on pid) (cut n known f) ≡ bytes_on pid f
unfolding cut_packet
of_finding n pid known f = of_sound n pid f (frames_on known f.pid)

of_all : (n : ℕ) (pid : ℕ) (known : KnownFrames) (fs : List FindingView) →
    flat_map (bytes_on pid) (flat_map (cut n known) fs) ≡ flat_map (bytes_on pid) fs
of_all n pid known [] = refl
of_all n pid known (f ∷ fs) =
    flat_map-append (bytes_on pid) (cut n known f) (flat_map (cut n known) fs)
    ∙ ap (λ (l : List ℕ). l ++ flat_map (bytes_on pid) (flat_map (cut n known) fs)) (of_finding n pid known f)
    ∙ ap (λ (l : List ℕ). bytes_on pid f ++ l) (of_all n pid known fs)

pub same_bytes_law : SameBytes
same_bytes_law n sounds findings pid = of_all n pid (known_frames sounds findings) findings

-- 3. Few frames begin in a piece.

-- The pieces from a place on begin with the frame of this number.
pub record BeginsWith (first : ℕ) (ps : List (ℕ × List ℕ)) : Type 0 where
  pub bytes : List ℕ
  pub more : List (ℕ × List ℕ)
  pub are : ps ≡ (first, bytes) ∷ more

begins : (n all parts rest first count at : ℕ) (later : List FramePart) (bytes : List ℕ) →
    BeginsWith first (pieces_from n all parts rest first count at later bytes)
unfolding pieces_from
begins n all parts rest first count at [] bytes = record { bytes = bytes; more = []; are = refl }
begins n all parts rest first count at (p ∷ ps) bytes =
    step (nat_lt count n && nat_lt (rest + parts) all) (begins n all parts (rest + parts) first (count + 1) at ps bytes)
  where
    size : ℕ
    size = min (p.place - at) (length bytes)

    step : (b : Bool) → BeginsWith first (pieces_from n all parts (rest + parts) first (count + 1) at ps bytes) →
        BeginsWith first (if b then pieces_from n all parts (rest + parts) first (count + 1) at ps bytes
        else (first, take size bytes) ∷ pieces_from n all parts (rest + parts - all) (first + count) 1 p.place ps (drop size bytes))
    step true later = later
    step false later = record {
      bytes = take size bytes;
      more = pieces_from n all parts (rest + parts - all) (first + count) 1 p.place ps (drop size bytes);
      are = refl;
    }

one_more : (n all first next : ℕ) (bytes : List ℕ) (ps : List (ℕ × List ℕ)) → BeginsWith next ps → next ≤ first + n → AreFew n all ps →
    AreFew n all ((first, bytes) ∷ ps)
unfolding AreFew
one_more n all first next bytes ps b near few =
    subst (λ (l : List (ℕ × List ℕ)). AreFew n all ((first, bytes) ∷ l)) (sym b.are) (near, subst (AreFew n all) b.are few)

less : (count n : ℕ) (b : Bool) → (nat_lt count n && b) ≡ true → count < n
less count n b both = ltb-true count n (left (nat_lt count n) b both)
  where
    left : (a b : Bool) → (a && b) ≡ true → a ≡ true
    left true b both = refl
    left false b both = both

are_few : (n total all parts rest first count at : ℕ) (later : List FramePart) (bytes : List ℕ) → 1 ≤ n → count ≤ n → total ≡ first + (count + length later) →
    AreFew n total (pieces_from n all parts rest first count at later bytes)
unfolding AreFew pieces_from
are_few n total all parts rest first count at [] bytes some within is = omega (arith, within, is)
are_few n total all parts rest first count at (p ∷ ps) bytes some within is =
    step (nat_lt count n && nat_lt (rest + parts) all) refl
    (λ (more : count < n). are_few n total all parts (rest + parts) first (count + 1) at ps bytes some (omega (arith, more)) (omega (arith, is)))
    (are_few n total all parts (rest + parts - all) (first + count) 1 p.place ps (drop (min (p.place - at) (length bytes)) bytes) some some
    (omega (arith, is)))
  where
    size : ℕ
    size = min (p.place - at) (length bytes)

    step : (b : Bool) → (nat_lt count n && nat_lt (rest + parts) all) ≡ b →
        (count < n → AreFew n total (pieces_from n all parts (rest + parts) first (count + 1) at ps bytes)) →
        AreFew n total (pieces_from n all parts (rest + parts - all) (first + count) 1 p.place ps (drop size bytes)) →
        AreFew n total (if b then pieces_from n all parts (rest + parts) first (count + 1) at ps bytes
        else (first, take size bytes) ∷ pieces_from n all parts (rest + parts - all) (first + count) 1 p.place ps (drop size bytes))
    step true is_less whole left = whole (less count n (nat_lt (rest + parts) all) is_less)
    step false is_less whole left = one_more n total first (first + count) (take size bytes)
        (pieces_from n all parts (rest + parts - all) (first + count) 1 p.place ps (drop size bytes))
        (begins n all parts (rest + parts - all) (first + count) 1 p.place ps (drop size bytes)) (omega (arith, within)) left

pub few_frames_law : FewFrames
few_frames_law n kind unit some =
    let later = later_frames kind unit in
    let all = length later + 1 in
    are_few n all all (piece_count n all) 0 0 1 0 later unit some some (omega arith)
