-- The services in the sections of the SDT
use Rattle.std.proofs.Common.{◌≡◌, ℕ, ◌+◌, ◌-◌, ◌≤◌, Bool, true, false, List, [], ◌∷◌, ◌++◌, length, map, take, drop}
use Rattle.std.proofs.Common.{get_or, slice_get, sum_by, Option, None, Some, refl, ap, sym, ◌∙◌, arith, if◌then◌else◌, All}
use Rattle.std.proofs.lemmas.List.{append-nil, map-append, take_all, take_more}
use Rattle.std.proofs.lemmas.List.Elements.{All-nil, All-cons, All-weaker}
use Rattle.std.proofs.lemmas.Option.{get_or_from_slice_get, slice_get_within}
use Rattle.description_parts.specs.Cuts.{cut, places}
use Rattle.description_parts.specs.Described.{DescribedProgram}
use Rattle.description_parts.specs.Ranges.{IsProgram}
use Rattle.description_parts.specs.SdtParts.{AreSdtParts, SdtPartsLaw}
use Rattle.description_parts.specs.Tables.{most_services, service_length}
use Rattle.description_parts.proofs.Cuts.{AreFew, Fit, few, fits, kept, none_of_places, one_part, part_of_places, places_map, whole}

-- At most as many sections as services: the first service is in the first section.
pub most_parts : (b : Bool) (ps : List DescribedProgram) → 1 ≤ length ps
    → length (if b then cut service_length most_services 0 [] ps else ps ∷ []) ≤ length ps
most_parts b [] some = absurd (omega (arith, some))
most_parts true (p ∷ ps) some = (few service_length most_services 0 (p ∷ []) ps).most
most_parts false (p ∷ ps) some = omega arith

-- Each section has room for its services.
each_fits : (parts : List (List DescribedProgram)) → Fit service_length most_services 0 parts
    → All (λ part. sum_by service_length part ≤ most_services) parts
each_fits [] h = All-nil (λ part. sum_by service_length part ≤ most_services)
each_fits (part ∷ parts) h =
    All-cons (λ part. sum_by service_length part ≤ most_services) part parts (omega (arith, h.0)) (each_fits parts h.1)

service_fits : (p : DescribedProgram) → IsProgram p → service_length p ≤ most_services
service_fits p is = omega (arith, is.service_descriptors.fits)

parts_are : (b : Bool) (ps : List DescribedProgram) → 1 ≤ length ps → All IsProgram ps
    → AreSdtParts b ps (if b then cut service_length most_services 0 [] ps else ps ∷ [])
parts_are true ps some h = record {
  whole = whole service_length most_services 0 [] ps;
  some = (few service_length most_services 0 [] ps).some;
  most = most_parts true ps some;
  programs = kept IsProgram service_length most_services 0 [] ps (All-nil IsProgram) h;
  one = λ small. one_part service_length most_services 0 [] ps (omega (arith, small));
  fit = λ is. each_fits (cut service_length most_services 0 [] ps) (fits service_length most_services 0 [] ps (omega arith)
      (All-weaker IsProgram (λ p. service_length p ≤ most_services) service_fits ps h));
}
parts_are false ps some h = record {
  whole = append-nil ps;
  some = omega arith;
  most = most_parts false ps some;
  programs = All-cons (All IsProgram) ps [] h (All-nil (All IsProgram));
  one = λ small. refl;
  fit = λ is. absurd (cc);
}

pub sdt_parts_law : SdtPartsLaw
sdt_parts_law d h = parts_are d.is_transponder d.programs h.some_programs h.programs

-- The services of a section, by the places of their lengths
by_lengths : (ps : List DescribedProgram) (ls : List ℕ) (j : ℕ) (r : Option (ℕ × ℕ)) → ls ≡ map service_length ps
    → r ≡ places 0 (cut (λ l. l) most_services 0 [] ls) j → places 0 (cut service_length most_services 0 [] ps) j ≡ r
by_lengths ps ls j r is h = sym (h ∙ rw is (places_map service_length most_services 0 j ps))

pub part_none : (ps : List DescribedProgram) (ls : List ℕ) (j : ℕ) → ls ≡ map service_length ps
    → None ≡ places 0 (cut (λ l. l) most_services 0 [] ls) j → None ≡ slice_get (cut service_length most_services 0 [] ps) j
part_none ps ls j is h = sym (none_of_places (cut service_length most_services 0 [] ps) 0 j (by_lengths ps ls j None is h))

pub part_some : (ps : List DescribedProgram) (ls : List ℕ) (j b e : ℕ) → ls ≡ map service_length ps
    → Some (b, e) ≡ places 0 (cut (λ l. l) most_services 0 [] ls) j
    → Some (take (e - b) (drop b ps)) ≡ slice_get (cut service_length most_services 0 [] ps) j
part_some ps ls j b e is h =
    sym (part_of_places ps (cut service_length most_services 0 [] ps) 0 j b e (whole service_length most_services 0 [] ps)
    (by_lengths ps ls j (Some (b, e)) is h))

-- The lengths of one more section
lengths_more : (f : List DescribedProgram → ℕ) (parts : List (List DescribedProgram)) (i : ℕ) (ps : List DescribedProgram)
    → slice_get parts i ≡ Some ps → map f (take i parts) ++ f ps ∷ [] ≡ map f (take (i + 1) parts)
lengths_more f parts i ps h =
    let within = slice_get_within parts i ps h in
    sym (ap (map f) (take_more parts i ps within) ∙ map-append f (take i parts) (get_or parts i ps ∷ [])
    ∙ ap (λ (x : List DescribedProgram). map f (take i parts) ++ f x ∷ []) (get_or_from_slice_get parts i ps ps h))

pub lengths_pushed : (f : List DescribedProgram → ℕ) (parts : List (List DescribedProgram)) (i : ℕ) (ps : List DescribedProgram)
    (lengths new : List ℕ) (n : ℕ)
    → new ≡ lengths ++ n ∷ [] → lengths ≡ map f (take i parts) → n ≡ f ps → slice_get parts i ≡ Some ps → new ≡ map f (take (i + 1) parts)
lengths_pushed f parts i ps lengths new n pushed before one h = rw (pushed, before, one) (lengths_more f parts i ps h)

pub lengths_all : (f : List DescribedProgram → ℕ) (parts : List (List DescribedProgram)) (i : ℕ) → length parts ≤ i
    → map f (take i parts) ≡ map f parts
lengths_all f parts i h = ap (map f) (take_all i parts h)
