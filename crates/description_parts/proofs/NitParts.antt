-- The transport streams in the sections of the NIT
use Rattle.std.proofs.Common.{◌≡◌, ℕ, suc, ◌+◌, ◌-◌, ◌≤◌, ◌==◌, Bool, true, false, List, [], ◌∷◌, ◌++◌, length, map, take, drop}
use Rattle.std.proofs.Common.{get_or, slice_get, sum_by, Option, None, Some, refl, ap, sym, ◌∙◌, arith, if◌then◌else◌, All, subst}
use Rattle.std.proofs.lemmas.Bool.Decides.{nat_tests}
use Rattle.std.proofs.lemmas.List.{append-nil, length-take-le, map-append, take-map, drop-map, take_all, take_more}
use Rattle.std.proofs.lemmas.List.Elements.{All-nil, All-cons, All-weaker, All-head}
use Rattle.std.proofs.lemmas.Option.{get_or_from_slice_get, slice_get_within}
use Rattle.std.specs.Option.{option_to_list}
use Rattle.description_parts.specs.Cuts.{cut, joined, places}
use Rattle.description_parts.specs.Described.{Described, DescribedNetwork}
use Rattle.description_parts.specs.NitParts.{AreNitParts, NitPartsLaw}
use Rattle.description_parts.specs.Ranges.{IsNetwork, IsNetworkStream, longest_section}
use Rattle.description_parts.specs.Tables.{most_bytes, most_network_bytes, network_stream_length, network_streams, nit_length, nit_lengths, nit_parts, room_length}
use Rattle.description_parts.specs.declared.network_stream.NetworkStream.{NetworkStream}
use Rattle.description_parts.proofs.Cuts.{AreFew, Fit, few, fits, none_of_places, one_part, part_of_places, past_none, places_map, sum_map, whole}

-- Each section has room for its transport streams.
later_fits : (n : DescribedNetwork) (place : ℕ) (parts : List (List NetworkStream)) → Fit network_stream_length most_network_bytes 0 parts
    → All (λ l. l ≤ longest_section) (nit_lengths n (suc place) parts)
later_fits n place [] h = All-nil (λ l. l ≤ longest_section)
later_fits n place (part ∷ parts) h =
    let next : suc place + 1 ≡ suc (suc place) = omega arith in
    let rest : All (λ l. l ≤ longest_section) (nit_lengths n (suc place + 1) parts) = rw next (later_fits n (suc place) parts h.1) in
    let off : (suc place == 0) ≡ false = grind (arith, nat_tests) in
    let fits : nit_length n (suc place) part ≤ longest_section = rw off (omega (arith, h.0)) in
    All-cons (λ l. l ≤ longest_section) (nit_length n (suc place) part) (nit_lengths n (suc place + 1) parts) fits rest

each_fits : (n : DescribedNetwork) (parts : List (List NetworkStream))
    → Fit network_stream_length most_network_bytes (length n.network_descriptors) parts → All (λ l. l ≤ longest_section) (nit_lengths n 0 parts)
each_fits n [] h = All-nil (λ l. l ≤ longest_section)
each_fits n (part ∷ parts) h =
    All-cons (λ l. l ≤ longest_section) (nit_length n 0 part) (nit_lengths n 1 parts) (omega (arith, h.0)) (later_fits n 0 parts h.1)

-- An empty section has room for each transport stream.
other_fits : (s : NetworkStream) → IsNetworkStream s → network_stream_length s ≤ most_network_bytes
other_fits s is = omega (arith, is.descriptors.fits)

all_fit : (d : Described) (n : DescribedNetwork) → IsNetwork n → All (λ s. network_stream_length s ≤ most_network_bytes) (network_streams d n)
all_fit d n is =
    All-cons (λ s. network_stream_length s ≤ most_network_bytes) _ n.streams (omega (arith, is.descriptors.fits))
    (All-weaker IsNetworkStream (λ s. network_stream_length s ≤ most_network_bytes) other_fits n.streams is.streams)

parts_are : (b : Bool) (n : DescribedNetwork) (ss : List NetworkStream) → length n.network_descriptors ≤ 902
    → All (λ s. network_stream_length s ≤ most_network_bytes) ss
    → AreNitParts b n ss (if b then cut network_stream_length most_network_bytes (length n.network_descriptors) [] ss else ss ∷ [])
parts_are true n ss small h =
    let used = length n.network_descriptors in
    record {
      whole = whole network_stream_length most_network_bytes used [] ss;
      some = (few network_stream_length most_network_bytes used [] ss).some;
      most = (few network_stream_length most_network_bytes used [] ss).most;
      one = λ room. one_part network_stream_length most_network_bytes used [] ss room;
      fit = λ is. each_fits n (cut network_stream_length most_network_bytes used [] ss)
          (fits network_stream_length most_network_bytes used [] ss (omega (arith, small)) h);
    }
parts_are false n ss small h = record {
  whole = append-nil ss;
  some = omega arith;
  most = omega arith;
  one = λ room. refl;
  fit = λ is. absurd (cc);
}

pub nit_parts_are : (d : Described) (n : DescribedNetwork) → IsNetwork n → AreNitParts d.is_transponder n (network_streams d n) (nit_parts d n)
nit_parts_are d n is = parts_are d.is_transponder n (network_streams d n) is.network_descriptors.fits (all_fit d n is)

pub nit_parts_law : NitPartsLaw
nit_parts_law d h n is = nit_parts_are d n (All-head IsNetwork n [] (subst (λ o. All IsNetwork (option_to_list o)) is h.network))

-- All transport streams, in order, in at most one section more
whole_if : (b : Bool) (used : ℕ) (ss : List NetworkStream)
    → joined (if b then cut network_stream_length most_network_bytes used [] ss else ss ∷ []) ≡ ss
whole_if true used ss = whole network_stream_length most_network_bytes used [] ss
whole_if false used ss = append-nil ss

nit_whole : (d : Described) (n : DescribedNetwork) → joined (nit_parts d n) ≡ network_streams d n
nit_whole d n = whole_if d.is_transponder (length n.network_descriptors) (network_streams d n)

few_if : (b : Bool) (used : ℕ) (ss : List NetworkStream)
    → length (if b then cut network_stream_length most_network_bytes used [] ss else ss ∷ []) ≤ suc (length ss)
few_if true used ss = (few network_stream_length most_network_bytes used [] ss).most
few_if false used ss = omega arith

pub nit_few : (d : Described) (n : DescribedNetwork) → length (nit_parts d n) ≤ suc (length (network_streams d n))
nit_few d n = few_if d.is_transponder (length n.network_descriptors) (network_streams d n)

-- The places of the transport streams of a section, by their lengths
pub places_are : (d : Described) (n : DescribedNetwork) (r : Option (ℕ × ℕ)) (ls : List ℕ) (used part : ℕ) → d.is_transponder ≡ true
    → ls ≡ map network_stream_length (network_streams d n) → used ≡ length n.network_descriptors
    → r ≡ places 0 (cut (λ l. l) most_network_bytes used [] ls) part → r ≡ places 0 (nit_parts d n) part
places_are d n r ls used part b l m h =
    h ∙ rw (l, m, b) (places_map network_stream_length most_network_bytes (length n.network_descriptors) part (network_streams d n))

-- The lengths of one more section
lengths_after : (n : DescribedNetwork) (place : ℕ) (parts : List (List NetworkStream)) (part : List NetworkStream)
    → nit_lengths n place (parts ++ part ∷ []) ≡ nit_lengths n place parts ++ nit_length n (place + length parts) part ∷ []
lengths_after n place [] part = let at : place + 0 ≡ place = omega arith in ap (λ (i : ℕ). nit_length n i part ∷ []) (sym at)
lengths_after n place (one ∷ parts) part =
    let at : place + 1 + length parts ≡ place + suc (length parts) = omega arith in
    ap (λ ls. nit_length n place one ∷ ls) (lengths_after n (place + 1) parts part
    ∙ ap (λ (i : ℕ). nit_lengths n (place + 1) parts ++ nit_length n i part ∷ []) at)

sums_are : (ss : List NetworkStream) (ls : List ℕ) (k b : ℕ) → ls ≡ map network_stream_length ss
    → sum_by (λ l. l) (take k (drop b ls)) ≡ sum_by network_stream_length (take k (drop b ss))
sums_are ss ls k b is =
    ap (λ xs. sum_by (λ l. l) (take k (drop b xs))) is ∙ ap (λ xs. sum_by (λ l. l) (take k xs)) (drop-map network_stream_length b ss)
    ∙ ap (sum_by (λ l. l)) (take-map network_stream_length k (drop b ss)) ∙ sum_map network_stream_length (take k (drop b ss))

grown : (n : DescribedNetwork) (parts : List (List NetworkStream)) (i : ℕ) (part : List NetworkStream) → slice_get parts i ≡ Some part
    → nit_lengths n 0 (take (i + 1) parts) ≡ nit_lengths n 0 (take i parts) ++ nit_length n i part ∷ []
grown n parts i part at =
    let within = slice_get_within parts i part at in
    let long : 0 + length (take i parts) ≡ i = omega (arith, length-take-le i parts (omega (arith, within))) in
    ap (nit_lengths n 0) (take_more parts i part within)
    ∙ ap (λ p. nit_lengths n 0 (take i parts ++ p ∷ [])) (get_or_from_slice_get parts i part part at)
    ∙ lengths_after n 0 (take i parts) part
    ∙ ap (λ (k : ℕ). nit_lengths n 0 (take i parts) ++ nit_length n k part ∷ []) long

pub lengths_pushed : (d : Described) (n : DescribedNetwork) (i b e : ℕ) (lengths new streams : List ℕ) (text room : ℕ) → new ≡ lengths ++ room ∷ []
    → lengths ≡ map (room_length most_bytes d.rooms.nit) (nit_lengths n 0 (take i (nit_parts d n)))
    → streams ≡ map network_stream_length (network_streams d n) → room ≡ room_length most_bytes d.rooms.nit text
    → text ≡ 16 + (if i == 0 then length n.network_descriptors else 0) + sum_by (λ l. l) (take (e - b) (drop b streams))
    → places 0 (nit_parts d n) i ≡ Some (b, e)
    → new ≡ map (room_length most_bytes d.rooms.nit) (nit_lengths n 0 (take (i + 1) (nit_parts d n)))
lengths_pushed d n i b e lengths new streams text room pushed before are sized is at =
    let parts = nit_parts d n in
    let part = take (e - b) (drop b (network_streams d n)) in
    let here = part_of_places (network_streams d n) parts 0 i b e (nit_whole d n) at in
    let whole_text : text ≡ nit_length n i part =
    is ∙ ap (λ (s : ℕ). 16 + (if i == 0 then length n.network_descriptors else 0) + s) (sums_are (network_streams d n) streams (e - b) b are) in
    let f = room_length most_bytes d.rooms.nit in
    rw (pushed, before, sized, whole_text) (sym (ap (map f) (grown n parts i part here)
    ∙ map-append f (nit_lengths n 0 (take i parts)) (nit_length n i part ∷ [])))

pub lengths_all : (d : Described) (n : DescribedNetwork) (i : ℕ) → length (nit_parts d n) ≤ i
    → map (room_length most_bytes d.rooms.nit) (nit_lengths n 0 (take i (nit_parts d n)))
    ≡ map (room_length most_bytes d.rooms.nit) (nit_lengths n 0 (nit_parts d n))
lengths_all d n i h = ap (λ parts. map (room_length most_bytes d.rooms.nit) (nit_lengths n 0 parts)) (take_all i (nit_parts d n) h)

pub lengths_ended : (d : Described) (n : DescribedNetwork) (i : ℕ) → places 0 (nit_parts d n) i ≡ None
    → map (room_length most_bytes d.rooms.nit) (nit_lengths n 0 (take i (nit_parts d n)))
    ≡ map (room_length most_bytes d.rooms.nit) (nit_lengths n 0 (nit_parts d n))
lengths_ended d n i h = lengths_all d n i (past_none (nit_parts d n) i (none_of_places (nit_parts d n) 0 i h))
