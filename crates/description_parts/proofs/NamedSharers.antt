-- `shared_with` names declared programs, each once, and not the stream's own.
use Rattle.std.proofs.Common.{◌≡◌, ℕ, ◌==◌, ◌&&◌, not, nat_eq, nat_le, Bool, true, false, List, [], ◌∷◌, length, Option, None, Some, unwrap_or, refl, sym}
use Rattle.std.proofs.Common.{subst, ◌≤◌, arith, All, Contains, codes, if◌then◌else◌}
use Rattle.std.proofs.lemmas.Bool.{and_parts, eqb-false}
use Rattle.std.proofs.lemmas.Bool.Decides.{nat_tests}
use Rattle.std.proofs.lemmas.List.Elements.{All-nil, All-cons}
use Rattle.std.specs.List.{list_all, filter_map, cons_option, IsDistinct}
use Rattle.toml.specs.Data.{Data, get}
use Rattle.description_values.specs.Values.{elements_in, array_in, is_distinct}
use Rattle.description_keys.specs.StreamKeys.{owner_number, declares, is_owned_by, has_owner, number_in, names_another, are_sharers, has_sharers, sharers_of}
use Rattle.description_keys.specs.StreamKeys.{stream_sharers}
use Rattle.description_keys.specs.TopKeys.{limit_in}
use Rattle.description_parts.specs.Ranges.{program_numbers}
use Rattle.description_parts.specs.Contents.{described}
use Rattle.description_parts.proofs.Counts.{limit_most, not_true}
use Rattle.description_parts.proofs.Distinct.{IsDistinct-is}
use Rattle.description_parts.proofs.Declared.{number_declared}

pub record AreSharers (document stream : Data) (ns : List ℕ) : Type 0 where
  pub declared : All (Contains (program_numbers (described document))) ns
  pub others : All (λ n. n ≡ unwrap_or (owner_number stream) 1 → ⊥) ns
  pub once : IsDistinct nat_eq ns

another : (document : Data) (n : ℕ) (o : Option ℕ) → (elim o as (λ _. Bool) [ None ↦ false | Some m ↦ declares document m ]) ≡ true
    → (elim o as (λ _. Bool) [ None ↦ false | Some m ↦ m == n ]) ≡ false → n ≡ unwrap_or o 1 → ⊥
another document n None own not_own same = absurd (cc)
another document n (Some m) own not_own same = eqb-false m n not_own (sym same)

-- One element, and the remaining elements
one_declared : (document stream : Data) (o : Option ℕ) (ns : List ℕ)
    → (elim o as (λ _. Bool) [ None ↦ false | Some n ↦ declares document n && not (is_owned_by n stream) ]) ≡ true
    → All (Contains (program_numbers (described document))) ns → All (Contains (program_numbers (described document))) (cons_option o ns)
one_declared document stream None ns h rest = absurd (cc)
one_declared document stream (Some n) ns h rest =
    All-cons (Contains (program_numbers (described document))) n ns
    (number_declared document n (and_parts (declares document n) (not (is_owned_by n stream)) h).0) rest

all_declared : (document stream : Data) (ds : List Data) → list_all (names_another document stream) ds ≡ true
    → All (Contains (program_numbers (described document))) (filter_map number_in ds)
all_declared document stream [] h = All-nil (Contains (program_numbers (described document)))
all_declared document stream (d ∷ ds) h =
    let parts = and_parts (names_another document stream d) (list_all (names_another document stream) ds) h in
    one_declared document stream (number_in d) (filter_map number_in ds) parts.0 (all_declared document stream ds parts.1)

one_other : (document stream : Data) (o : Option ℕ) (ns : List ℕ) → has_owner document stream ≡ true
    → (elim o as (λ _. Bool) [ None ↦ false | Some n ↦ declares document n && not (is_owned_by n stream) ]) ≡ true
    → All (λ n. n ≡ unwrap_or (owner_number stream) 1 → ⊥) ns → All (λ n. n ≡ unwrap_or (owner_number stream) 1 → ⊥) (cons_option o ns)
one_other document stream None ns own h rest = absurd (cc)
one_other document stream (Some n) ns own h rest =
    All-cons (λ m. m ≡ unwrap_or (owner_number stream) 1 → ⊥) n ns
    (another document n (owner_number stream) own (not_true (is_owned_by n stream) (and_parts (declares document n) (not (is_owned_by n stream)) h).1)) rest

all_others : (document stream : Data) (ds : List Data) → has_owner document stream ≡ true → list_all (names_another document stream) ds ≡ true
    → All (λ n. n ≡ unwrap_or (owner_number stream) 1 → ⊥) (filter_map number_in ds)
all_others document stream [] own h = All-nil (λ n. n ≡ unwrap_or (owner_number stream) 1 → ⊥)
all_others document stream (d ∷ ds) own h =
    let parts = and_parts (names_another document stream d) (list_all (names_another document stream) ds) h in
    one_other document stream (number_in d) (filter_map number_in ds) own parts.0 (all_others document stream ds own parts.1)

no_sharers : (document stream : Data) → AreSharers document stream []
unfolding IsDistinct
no_sharers document stream = record {
  declared = All-nil (Contains (program_numbers (described document)));
  others = All-nil (λ n. n ≡ unwrap_or (owner_number stream) 1 → ⊥);
  once = tt;
}

within_limit : (n limit most : ℕ) → nat_le n limit ≡ true → limit ≤ most → nat_le n most ≡ true
within_limit n limit most h le = grind (arith, nat_tests, h, le)

kept_whole : (b : Bool) (ns : List ℕ) → b ≡ true → (if b then ns else []) ≡ ns
kept_whole true ns h = refl
kept_whole false ns h = absurd (cc)

in_array : (document stream : Data) (o : Option (List Data)) → has_owner document stream ≡ true
    → (elim o as (λ _. Bool) [
      | None ↦ false
      | Some ds ↦ nat_le (length ds) (limit_in document 15 63) && (list_all (names_another document stream) ds && is_distinct (filter_map number_in ds))
    ]) ≡ true
    → AreSharers document stream (sharers_of (unwrap_or o []))
in_array document stream None own h = absurd (cc)
in_array document stream (Some ds) own h =
    let few = and_parts (nat_le (length ds) (limit_in document 15 63)) (list_all (names_another document stream) ds && is_distinct (filter_map number_in ds)) h
    in
    let most = within_limit (length ds) (limit_in document 15 63) 63 few.0 (limit_most document 15 63 (omega arith)) in
    let both = and_parts (list_all (names_another document stream) ds) (is_distinct (filter_map number_in ds)) few.1 in
    subst (AreSharers document stream) (sym (kept_whole (nat_le (length ds) 63) (filter_map number_in ds) most))
    (record {
      declared = all_declared document stream ds both.0;
      others = all_others document stream ds own both.0;
      once = IsDistinct-is (filter_map number_in ds) both.1;
    })

at_value : (document stream : Data) (o : Option Data) → has_owner document stream ≡ true
    → (elim o as (λ _. Bool) [ None ↦ true | Some value ↦ are_sharers document stream value ]) ≡ true
    → AreSharers document stream (sharers_of (elim o as (λ _. List Data) [ None ↦ [] | Some value ↦ elements_in value ]))
at_value document stream None own h = no_sharers document stream
at_value document stream (Some value) own h = in_array document stream (array_in value) own h

pub sharers_are : (document stream : Data) → has_owner document stream ≡ true → has_sharers document stream ≡ true →
    AreSharers document stream (stream_sharers stream)
sharers_are document stream own h = at_value document stream (get (codes "shared_with") stream) own h
