-- A stream whose findings the caller takes away after each step.
use Rattle.std.proofs.Common.{◌≡◌, ℕ, Bool, true, false, List, [], ◌∷◌, ◌++◌, length, refl, sym, ap, ◌∙◌, append_assoc}
use Rattle.std.specs.Prelude.{if◌then◌else◌, ◌==◌}
use Rattle.std.specs.List.{concat}
use Rattle.std.proofs.lemmas.List.{append-nil}
use Rattle.std.proofs.lemmas.List.Elements.{All-head, All-tail}
use Rattle.pid_findings.specs.Views.{FindingView}
use Rattle.demux.specs.Laws.{found_of}
use Rattle.demux.specs.Stream.{StreamState, start, is_aligned, completed, ended_found, finished, found_in, held_found, packet_pushed, pushed, taken}
use Rattle.demux.specs.FoundSoFar.{FoundSoFar, NothingAtFirst, PacketAdds, PacketsAdd, PieceAdds, AllAreFound, PidFoundSoFar, found_in_all, taken_all}
use Rattle.demux.specs.FoundSoFar.{with_found}
use Rattle.demux.proofs.PushedBytes.{pushed_append, taken_as_pushed}
use Rattle.demux.proofs.WholeStream.{each_pid_alone}

-- Earlier findings remain in front.
completed_if : (b : Bool) (front : List FindingView) (s : StreamState) (held : List ℕ) →
    (if b then packet_pushed (with_found (front ++ s.found) s) held else record (with_found (front ++ s.found) s) { held = held })
    ≡ with_found (front ++ (if b then packet_pushed s held else record s { held = held }).found) (if b then packet_pushed s held else record s { held = held })
unfolding taken found_in
completed_if true front s held =
    ap (λ (found : List FindingView). record (taken s held) { held = []; found = found }) (append_assoc front s.found (found_in s held))
completed_if false front s held = refl

completed_after : (front : List FindingView) (s : StreamState) (held : List ℕ) →
    completed (with_found (front ++ s.found) s) held ≡ with_found (front ++ (completed s held).found) (completed s held)
unfolding completed
completed_after front s held = completed_if (length held == 188) front s held

pub pushed_after : (front : List FindingView) (s : StreamState) (bytes : List ℕ) →
    pushed (with_found (front ++ s.found) s) bytes ≡ with_found (front ++ (pushed s bytes).found) (pushed s bytes)
pushed_after front s [] = refl
pushed_after front s (byte ∷ bytes) =
    ap (λ (t : StreamState). pushed t bytes) (completed_after front s (s.held ++ byte ∷ []))
    ∙ pushed_after front (completed s (s.held ++ byte ∷ [])) bytes

finished_if : (b : Bool) (front more : List FindingView) (s : StreamState) →
    (if b then with_found (front ++ s.found) s else record s { held = []; found = (front ++ s.found) ++ more; ended = true }).found
    ≡ front ++ (if b then s else record s { held = []; found = s.found ++ more; ended = true }).found
finished_if true front more s = refl
finished_if false front more s = append_assoc front s.found more

finished_after : (front : List FindingView) (s : StreamState) → (finished (with_found (front ++ s.found) s)).found ≡ front ++ (finished s).found
finished_after front s = finished_if s.ended front (held_found s.packets s.held ++ ended_found s.packets s.states) s

-- A state without findings is the same with the earlier findings in front.
pub cleared : (front : List FindingView) (s : StreamState) → s.found ≡ [] → with_found front s ≡ with_found (front ++ s.found) s
cleared front s e = ap (λ (found : List FindingView). with_found found s) (sym (ap (λ (found : List FindingView). front ++ found) e ∙ append-nil front))

pub nothing_at_first : NothingAtFirst
nothing_at_first = record { none = refl; state = refl }

pub packet_adds : PacketAdds
unfolding taken found_in
packet_adds bytes packet s found h aligned size = record {
  none = h.none;
  state = pushed_append start bytes packet ∙ ap (λ (t : StreamState). pushed t packet) h.state ∙ taken_as_pushed (with_found found s) packet aligned size;
}

taken_aligned : (s : StreamState) (packet : List ℕ) → is_aligned s ≡ true → is_aligned (taken s packet) ≡ true
unfolding taken
taken_aligned s packet aligned = aligned

same_so_far : (bytes others : List ℕ) (s : StreamState) (found alike : List FindingView) → bytes ≡ others → found ≡ alike →
    FoundSoFar bytes s found → FoundSoFar others s alike
same_so_far bytes others s found alike b f h =
    record { none = h.none; state = ap (pushed start) (sym b) ∙ h.state ∙ ap (λ (x : List FindingView). with_found x s) f }

abbrev is_packet : List ℕ → Type 0
is_packet packet = length packet ≡ 188

pub packets_add : PacketsAdd
unfolding taken_all found_in_all
packets_add bytes [] s found h aligned sizes = same_so_far bytes (bytes ++ []) s found (found ++ []) (sym (append-nil bytes)) (sym (append-nil found)) h
packets_add bytes (packet ∷ packets) s found h aligned sizes =
    let next = packets_add (bytes ++ packet) packets (taken s packet) (found ++ found_in s packet)
    (packet_adds bytes packet s found h aligned (All-head is_packet packet packets sizes))
    (taken_aligned s packet aligned) (All-tail is_packet packet packets sizes) in
    same_so_far ((bytes ++ packet) ++ concat packets) (bytes ++ (packet ++ concat packets)) (taken_all (taken s packet) packets)
    ((found ++ found_in s packet) ++ found_in_all (taken s packet) packets) (found ++ (found_in s packet ++ found_in_all (taken s packet) packets))
    (append_assoc bytes packet (concat packets)) (append_assoc found (found_in s packet) (found_in_all (taken s packet) packets)) next

pushed_on : (bytes piece : List ℕ) (s : StreamState) (found : List FindingView) → FoundSoFar bytes s found →
    pushed start (bytes ++ piece) ≡ with_found (found ++ (pushed s piece).found) (pushed s piece)
pushed_on bytes piece s found h =
    pushed_append start bytes piece ∙ ap (λ (t : StreamState). pushed t piece) (h.state ∙ cleared found s h.none) ∙ pushed_after found s piece

pub piece_adds : PieceAdds
piece_adds bytes piece s found h = record { none = refl; state = pushed_on bytes piece s found h }

pub all_are_found : AllAreFound
all_are_found bytes piece s found h = (
  ap (λ (t : StreamState). t.found) h.state,
  ap (λ (t : StreamState). t.found) (pushed_on bytes piece s found h),
  ap (λ (t : StreamState). (finished t).found) (pushed_on bytes piece s found h) ∙ finished_after found (pushed s piece),
)

pub pid_found_so_far : PidFoundSoFar
pid_found_so_far pid bytes s found h p n =
    let alone = each_pid_alone pid bytes p n in
    let so_far : (pushed start bytes).found ≡ found = ap (λ (t : StreamState). t.found) h.state in
    let ended : (finished (pushed start bytes)).found ≡ found ++ (finished s).found =
    ap (λ (t : StreamState). (finished t).found) (h.state ∙ cleared found s h.none) ∙ finished_after found s in
    (ap (found_of pid) (sym so_far) ∙ alone.0, ap (found_of pid) (sym ended) ∙ alone.1)
