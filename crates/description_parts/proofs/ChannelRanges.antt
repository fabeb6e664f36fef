-- The descriptors of channel numbers are bytes, at most 266.
use Rattle.std.proofs.Common.{◌≡◌, ℕ, ◌+◌, ◌*◌, ◌≤◌, ◌<◌, nat_le, Bool, true, false, List, [], ◌∷◌, ◌++◌, length, Option, None, Some, IfSome}
use Rattle.std.proofs.Common.{unwrap_or, refl, arith, if◌then◌else◌, codes, length-append, take, drop}
use Rattle.std.proofs.Common.{min, ◌==◌, sym, ap, ◌∙◌, inl, inr}
use Rattle.std.proofs.lemmas.List.{append_assoc, drop_all, length-drop, length-take, take_all}
use Rattle.std.proofs.lemmas.Bool.{cases_lt, leb-true}
use Rattle.std.proofs.lemmas.List.Elements.{All-append, All-drop, All-from_recursion, All-take}
use Rattle.toml.specs.Data.{Data}
use Rattle.description_keys.specs.ProgramKeys.{channel_of, program_number}
use Rattle.description_parts.specs.Channels.{channel_descriptor, channel_descriptors, channel_entries, channel_entry, described_channels, entry_of}
use Rattle.description_parts.specs.Ranges.{IsBytes}
use Rattle.description_parts.proofs.KeyRanges.{Within, integer_at-within, optional_integer-within}
use Rattle.description_parts.proofs.TextRanges.{no_bytes}

-- Bytes, and bytes after them
pub two_are : (a b : ℕ) (xs ys : List ℕ) → IsBytes a xs → IsBytes b ys → IsBytes (a + b) (xs ++ ys)
two_are a b xs ys x y = record {
  fits = omega (arith, length-append xs ys, x.fits, y.fits);
  octets = All-append (λ n. n < 256) xs ys x.octets y.octets;
}

one_is : (number channel : ℕ) → number ≤ 65535 → channel ≤ 1023 → IsBytes 4 (channel_entry number channel)
one_is number channel n c = record {
  fits = omega arith;
  octets = All-from_recursion (λ x. x < 256) (channel_entry number channel) (omega (arith, n), (omega arith, (omega (arith, c), (omega arith, tt))));
}

entry_by : (number : ℕ) (o : Option ℕ) → number ≤ 65535 → IfSome o (Within 1 1023) → IsBytes 4 (elim o [ None ↦ [] | Some channel ↦ channel_entry number channel ])
entry_by number None n c = no_bytes 4
entry_by number (Some channel) n c = one_is number channel n c.most

entry_is : (d : Data) → IsBytes 4 (entry_of d)
entry_is d =
    entry_by (unwrap_or (program_number d) 1) (channel_of d) (integer_at-within (codes "number") 1 65535 1 d (omega arith) (omega arith)).most
    (optional_integer-within (codes "lcn") 1 1023 d)

entries_are : (ds : List Data) → IsBytes (4 * length ds) (channel_entries ds)
entries_are [] = no_bytes 0
entries_are (d ∷ ds) =
    let both = two_are 4 (4 * length ds) (entry_of d) (channel_entries ds) (entry_is d) (entries_are ds) in
    record { fits = omega (arith, both.fits); octets = both.octets }

specifier_is : IsBytes 6 (0x5F ∷ 4 ∷ 0 ∷ 0 ∷ 0 ∷ 0x28 ∷ [])
specifier_is = record {
  fits = omega arith;
  octets = All-from_recursion (λ x. x < 256) (0x5F ∷ 4 ∷ 0 ∷ 0 ∷ 0 ∷ 0x28 ∷ [])
      (omega arith, (omega arith, (omega arith, (omega arith, (omega arith, (omega arith, tt))))));
}

start_is : (n : ℕ) → n < 256 → IsBytes 2 (0x83 ∷ n ∷ [])
start_is n h = record { fits = omega arith; octets = All-from_recursion (λ x. x < 256) (0x83 ∷ n ∷ []) (omega arith, (h, tt)) }

descriptor_is : (n : ℕ) (entries : List ℕ) → n < 256 → IsBytes n entries → IsBytes (2 + n) (channel_descriptor entries)
descriptor_is n [] few h = no_bytes (2 + n)
descriptor_is n (b ∷ rest) few h = two_are 2 n _ (b ∷ rest) (start_is (length (b ∷ rest)) (omega (arith, h.fits, few))) h

descriptors_are : (entries : List ℕ) → IsBytes 256 entries → IsBytes 266 (channel_descriptors entries)
descriptors_are [] h = no_bytes 266
descriptors_are (b ∷ rest) h =
    let xs : List ℕ = b ∷ rest in
    let first : IsBytes 252 (take 252 xs) =
    record { fits = omega (arith, length-take 252 xs); octets = All-take (λ x. x < 256) 252 xs h.octets } in
    let second : IsBytes 4 (drop 252 xs) =
    record { fits = omega (arith, length-drop 252 xs, h.fits); octets = All-drop (λ x. x < 256) 252 xs h.octets } in
    two_are 6 260 _ _ specifier_is
    (two_are 254 6 _ _ (descriptor_is 252 (take 252 xs) (omega arith) first) (descriptor_is 4 (drop 252 xs) (omega arith) second))

if_few : (few : Bool) (ds : List Data) → (few ≡ true → length ds ≤ 64) → IsBytes 266 (if few then channel_descriptors (channel_entries ds) else [])
if_few false ds h = no_bytes 266
if_few true ds h =
    let are = entries_are ds in
    let n = h refl in
    descriptors_are (channel_entries ds) (record { fits = omega (arith, are.fits, n); octets = are.octets })

pub channels_are : (ds : List Data) → IsBytes 266 (described_channels ds)
channels_are ds = if_few (nat_le (length ds) 64) ds (leb-true (length ds) 64)

-- The entries of a first descriptor and of a second
first_cut : (xs : List ℕ) (n : ℕ) → n ≡ min (length xs) 252 → take n xs ≡ take 252 xs
first_cut xs n is = elim (cases_lt (length xs) 252) [
  | inl short ↦ take_all n xs (omega (arith, is)) ∙ sym (take_all 252 xs (omega arith))
  | inr long ↦ let most : n ≡ 252 = omega (arith, is) in ap (λ (k : ℕ). take k xs) most
]

last_cut : (xs : List ℕ) (n : ℕ) → n ≡ min (length xs) 252 → drop n xs ≡ drop 252 xs
last_cut xs n is = elim (cases_lt (length xs) 252) [
  | inl short ↦ drop_all n xs (omega (arith, is)) ∙ sym (drop_all 252 xs (omega arith))
  | inr long ↦ let most : n ≡ 252 = omega (arith, is) in ap (λ (k : ℕ). drop k xs) most
]

pub descriptors_pushed : (entries : List ℕ) (n : ℕ) (out start middle end xs ys : List ℕ) → (length entries == 0) ≡ false → n ≡ min (length entries) 252
    → start ≡ out ++ (0x5F ∷ 4 ∷ 0 ∷ 0 ∷ 0 ∷ 0x28 ∷ []) → middle ≡ start ++ channel_descriptor xs → end ≡ middle ++ channel_descriptor ys
    → xs ≡ take n entries → ys ≡ drop n entries → end ≡ out ++ channel_descriptors entries
descriptors_pushed [] n out start middle end xs ys some is s m e x y = absurd (cc)
descriptors_pushed (b ∷ rest) n out start middle end xs ys some is s m e x y =
    let first : List ℕ = channel_descriptor (take 252 (b ∷ rest)) in
    let last : List ℕ = channel_descriptor (drop 252 (b ∷ rest)) in
    let specifier : List ℕ = 0x5F ∷ 4 ∷ 0 ∷ 0 ∷ 0 ∷ 0x28 ∷ [] in
    let one : channel_descriptor xs ≡ first = ap channel_descriptor (x ∙ first_cut (b ∷ rest) n is) in
    let two : channel_descriptor ys ≡ last = ap channel_descriptor (y ∙ last_cut (b ∷ rest) n is) in
    rw (e, m, s, one, two) (append_assoc (out ++ specifier) first last ∙ append_assoc out specifier (first ++ last))
