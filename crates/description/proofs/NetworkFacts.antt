-- The facts about a network that its writers need.
use Rattle.std.proofs.Common.{◌≡◌, ℕ, zero, suc, ◌+◌, ◌-◌, ◌<◌, ◌≤◌, List, [], ◌∷◌, ◌++◌, length, map, take, drop, sum_by, slice_get, slice_range, Option, None, Some}
use Rattle.std.proofs.Common.{option_map, All, refl, ap, subst, ◌∙◌, arith, drop-drop, take-add}
use Rattle.std.proofs.lemmas.List.{map-append}
use Rattle.std.proofs.lemmas.List.Elements.{All-head}
use Rattle.std.proofs.lemmas.List.Sums.{sum_by-append, sum_by-cons}
use Rattle.std.specs.Option.{option_to_list}
use Rattle.dvb_tables.specs.TransportStreams.{TransportStreamView}
use Rattle.description_parts.specs.Described.{DescribedNetwork, network_stream_view}
use Rattle.description_parts.specs.Tables.{network_stream_length}
use Rattle.description_parts.specs.declared.network_stream.NetworkStream.{NetworkStream}

pub of_some : (P : DescribedNetwork → Type 0) (o : Option DescribedNetwork) (n : DescribedNetwork) → o ≡ Some n → All P (option_to_list o) → P n
of_some P None n is h = absurd (cc)
of_some P (Some m) n is h = let same : m ≡ n = cc in subst P same (All-head P m [] h)

-- The transport streams from one place up to another, and one more
abbrev pub viewed : List NetworkStream → List TransportStreamView
viewed ss = map network_stream_view ss

pub one_more : (ss : List NetworkStream) (begin place end : ℕ) → begin ≤ place → place ≤ end
    → slice_range ss begin end ≡ slice_range ss begin place ++ slice_range ss place end
one_more ss begin place end low high =
    let all : end - begin ≡ (place - begin) + (end - place) = omega (arith, low, high) in
    let at : begin + (place - begin) ≡ place = omega (arith, low) in
    ap (λ (n : ℕ). take n (drop begin ss)) all ∙ take-add (place - begin) (end - place) (drop begin ss)
    ∙ ap (λ (xs : List NetworkStream). slice_range ss begin place ++ take (end - place) xs)
    (drop-drop (place - begin) begin ss ∙ ap (λ (n : ℕ). drop n ss) at)

pub views_more : (ss : List NetworkStream) (begin place : ℕ) → begin ≤ place
    → viewed (slice_range ss begin (place + 1)) ≡ viewed (slice_range ss begin place) ++ viewed (slice_range ss place (place + 1))
views_more ss begin place low =
    ap viewed (one_more ss begin place (place + 1) low (omega arith)) ∙ map-append network_stream_view (slice_range ss begin place) (slice_range ss place (place + 1))

pub bytes_more : (ss : List NetworkStream) (begin place end : ℕ) → begin ≤ place → place ≤ end
    → sum_by network_stream_length (slice_range ss begin end)
    ≡ sum_by network_stream_length (slice_range ss begin place) + sum_by network_stream_length (slice_range ss place end)
bytes_more ss begin place end low high =
    ap (sum_by network_stream_length) (one_more ss begin place end low high)
    ∙ sum_by-append network_stream_length (slice_range ss begin place) (slice_range ss place end)

pub none_between : (ss : List NetworkStream) (place : ℕ) → slice_range ss place place ≡ []
none_between ss place =
    let none : place - place ≡ 0 = omega arith in
    ap (λ (n : ℕ). take n (drop place ss)) none

-- There is room for the next one.
pub room_for : (ss : List NetworkStream) (begin place end : ℕ) → begin ≤ place → place < end
    → sum_by network_stream_length (slice_range ss begin place) + sum_by network_stream_length (slice_range ss place (place + 1))
    ≤ sum_by network_stream_length (slice_range ss begin end)
room_for ss begin place end low high =
    omega (arith, bytes_more ss begin place end low (omega (arith, high)), bytes_more ss place (place + 1) end (omega arith) (omega (arith, high)))

-- The transport stream at a place
at_or_none : (ss : List NetworkStream) (place : ℕ) → option_map network_stream_view (slice_get ss place) ≡ None → take 1 (drop place ss) ≡ []
at_or_none [] zero e = refl
at_or_none [] (suc place) e = refl
at_or_none (s ∷ ss) zero e = absurd (cc)
at_or_none (s ∷ ss) (suc place) e = at_or_none ss place e

record IsOne (ss : List NetworkStream) (v : TransportStreamView) : Type 0 where
  views : viewed ss ≡ v ∷ []
  bytes : sum_by network_stream_length ss ≡ 6 + length v.descriptors

at_some : (ss : List NetworkStream) (place : ℕ) (v : TransportStreamView) → option_map network_stream_view (slice_get ss place) ≡ Some v →
    IsOne (take 1 (drop place ss)) v
at_some [] place v e = absurd (cc)
at_some (s ∷ ss) zero v e =
    let same : network_stream_view s ≡ v = cc in
    record {
      views = ap (λ (w : TransportStreamView). w ∷ []) same;
      bytes = sum_by-cons network_stream_length s [] ∙ ap (λ (w : TransportStreamView). 6 + length w.descriptors + 0) same ∙ omega arith;
    }
at_some (s ∷ ss) (suc place) v e = at_some ss place v e

single : (ss : List NetworkStream) (place : ℕ) → slice_range ss place (place + 1) ≡ take 1 (drop place ss)
single ss place =
    let one : place + 1 - place ≡ 1 = omega arith in
    ap (λ (n : ℕ). take n (drop place ss)) one

pub none_here : (ss : List NetworkStream) (place : ℕ) → option_map network_stream_view (slice_get ss place) ≡ None → slice_range ss place (place + 1) ≡ []
none_here ss place e = single ss place ∙ at_or_none ss place e

pub views_here : (ss : List NetworkStream) (place : ℕ) (v : TransportStreamView) → option_map network_stream_view (slice_get ss place) ≡ Some v
    → viewed (slice_range ss place (place + 1)) ≡ v ∷ []
views_here ss place v e = ap viewed (single ss place) ∙ (at_some ss place v e).views

pub bytes_here : (ss : List NetworkStream) (place : ℕ) (v : TransportStreamView) → option_map network_stream_view (slice_get ss place) ≡ Some v
    → sum_by network_stream_length (slice_range ss place (place + 1)) ≡ 6 + length v.descriptors
bytes_here ss place v e = ap (sum_by network_stream_length) (single ss place) ∙ (at_some ss place v e).bytes
