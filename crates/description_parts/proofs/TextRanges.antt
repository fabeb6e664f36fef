-- The texts, languages, descriptors and sections at keys have allowed lengths and consist of octets.
use Rattle.std.proofs.Common.{◌≡◌, ℕ, ◌≤◌, ◌<◌, ◌&&◌, nat_le, Bool, true, false, List, [], ◌∷◌, length, Option, None, Some, IfSome, unwrap_or, option_map}
use Rattle.std.proofs.Common.{option_and_then, refl, arith, if◌then◌else◌, All, Result, Ok, Err, codes}
use Rattle.std.proofs.lemmas.Bool.{and_parts, leb-true}
use Rattle.std.proofs.lemmas.Bool.Decides.{nat_tests}
use Rattle.std.proofs.lemmas.List.Elements.{All-nil, All-cons, All-from_get_or}
use Rattle.std.specs.Option.{option_to_list}
use Rattle.std.specs.List.{list_all, filter_map, cons_option}
use Rattle.hex.specs.Hex.{decode_of}
use Rattle.hex.specs.declared.error.FromHexError.{FromHexError}
use Rattle.hex.proofs.HexLemmas.{decode_of-ok}
use Rattle.psi_tables.specs.Reading.{section_at, section_start_at}
use Rattle.dvb_tables.specs.CharacterCoding.{text_bytes}
use Rattle.toml.specs.Data.{Data, as_str}
use Rattle.dvb_tables.specs.DescriptorLoops.{are_whole_descriptors}
use Rattle.description_parts.specs.Ranges.{IsBytes, IsLanguage}
use Rattle.description_values.specs.Values.{is_octet, are_octets, text_in, text_at, text_or, is_letter, language_of, language_in, language_at}
use Rattle.description_values.specs.Values.{optional_language, hex_bytes, descriptors_in, descriptors_or_none, descriptors_at, is_one_section, section_in}
use Rattle.description_parts.proofs.KeyRanges.{holds_of, at_key-all, then_all, map_all}
use Rattle.description_values.proofs.Octets.{All_octets}

-- An empty list of bytes
pub no_bytes : (most : ℕ) → IsBytes most []
no_bytes most = record { fits = omega arith; octets = All-nil (λ b. b < 256) }

tested_octets : (most : ℕ) (bytes : List ℕ) (fits octets : Bool) → (fits ≡ true → length bytes ≤ most) → (octets ≡ true → All (λ b. b < 256) bytes)
    → IfSome (if fits && octets then Some bytes else None) (IsBytes most)
tested_octets most bytes true true f o = record { fits = f refl; octets = o refl }
tested_octets most bytes true false f o = tt
tested_octets most bytes false o' f o = tt

coded-is : (most : ℕ) (bytes : List ℕ) → IfSome (if are_octets most bytes then Some bytes else None) (IsBytes most)
coded-is most bytes = tested_octets most bytes (nat_le (length bytes) most) (list_all is_octet bytes) (leb-true (length bytes) most) (All_octets bytes)

text_of : (most : ℕ) (o : Option (List ℕ))
    → IfSome (elim o [ None ↦ None | Some text ↦ if are_octets most (text_bytes text) then Some (text_bytes text) else None ]) (IsBytes most)
text_of most None = tt
text_of most (Some text) = coded-is most (text_bytes text)

text_in-is : (most : ℕ) (d : Data) → IfSome (text_in most d) (IsBytes most)
text_in-is most d = text_of most (as_str d)

pub text_at-is : (most : ℕ) (key : List ℕ) (d : Data) → IsBytes most (unwrap_or (text_at most key d) [])
text_at-is most key d =
    holds_of (IsBytes most) (text_at most key d) [] (at_key-all (IsBytes most) key None (text_in most) d tt (text_in-is most)) (no_bytes most)

pub text_or-is : (most : ℕ) (key : List ℕ) (d : Data) → IsBytes most (unwrap_or (text_or most key d) [])
text_or-is most key d =
    holds_of (IsBytes most) (text_or most key d) [] (at_key-all (IsBytes most) key (Some []) (text_in most) d (no_bytes most) (text_in-is most)) (no_bytes most)

-- Hexadecimal bytes
fitting : (most : ℕ) (bytes : List ℕ) (fits : Bool) → (fits ≡ true → length bytes ≤ most) → All (λ b. b < 256) bytes
    → IfSome (if fits then Some bytes else None) (IsBytes most)
fitting most bytes true f o = record { fits = f refl; octets = o }
fitting most bytes false f o = tt

hex_of : (most : ℕ) (text : List ℕ) (r : Result (List ℕ) FromHexError) → decode_of text ≡ r
    → IfSome (elim r as (λ _. Option (List ℕ)) [ Ok bytes ↦ if nat_le (length bytes) most then Some bytes else None | Err e ↦ None ]) (IsBytes most)
hex_of most text (Err e) is = tt
hex_of most text (Ok bytes) is =
    let bytes_of = (decode_of-ok text bytes is).3 in
    fitting most bytes (nat_le (length bytes) most) (leb-true (length bytes) most) (All-from_get_or (λ b. b < 256) bytes 0 (λ i within. bytes_of i))

hex_bytes-is : (most : ℕ) (text : List ℕ) → IfSome (hex_bytes most text) (IsBytes most)
hex_bytes-is most text = hex_of most text (decode_of text) refl

-- A value that passes a test keeps its property.
passed : {X : Type 0} (P : X → Type 0) (test : X → Bool) (x : X) (b : Bool) → test x ≡ b → P x
    → IfSome (if b then Some x else None) (λ x. P x × (test x ≡ true))
passed P test x true is h = (h, is)
passed P test x false is h = tt

pub then_tested : {X : Type 0} (P : X → Type 0) (test : X → Bool) (o : Option X) → IfSome o P
    → IfSome (option_and_then (λ x. if test x then Some x else None) o) (λ x. P x × (test x ≡ true))
then_tested P test None h = tt
then_tested P test (Some x) h = passed P test x (test x) refl h

pub weaker : {X : Type 0} (P Q : X → Type 0) (o : Option X) → ((x : X) → P x → Q x) → IfSome o P → IfSome o Q
weaker P Q None h p = tt
weaker P Q (Some x) h p = h x p

descriptors_in-is : (most : ℕ) (d : Data) → IfSome (descriptors_in most d) (IsBytes most)
descriptors_in-is most d =
    weaker (λ bytes. IsBytes most bytes × (are_whole_descriptors bytes ≡ true)) (IsBytes most) (descriptors_in most d) (λ bytes p. p.0)
    (then_tested (IsBytes most) are_whole_descriptors (option_and_then (hex_bytes most) (as_str d))
    (then_all (IsBytes most) (hex_bytes most) (as_str d) (hex_bytes-is most)))

pub descriptors-is : (most : ℕ) (key : List ℕ) (d : Data) → IsBytes most (unwrap_or (descriptors_or_none most key d) [])
descriptors-is most key d =
    holds_of (IsBytes most) (descriptors_or_none most key d) []
    (at_key-all (IsBytes most) key (Some []) (descriptors_in most) d (no_bytes most) (descriptors_in-is most)) (no_bytes most)

pub descriptors_at-is : (most : ℕ) (key : List ℕ) (d : Data) → IsBytes most (unwrap_or (descriptors_at most key d) [])
descriptors_at-is most key d =
    holds_of (IsBytes most) (descriptors_at most key d) []
    (at_key-all (IsBytes most) key None (descriptors_in most) d tt (descriptors_in-is most)) (no_bytes most)

-- A section has at least its first three bytes.
at_least_three : (bytes : List ℕ) → is_one_section bytes ≡ true → 3 ≤ length bytes
unfolding section_at section_start_at
at_least_three [] h = absurd (cc)
at_least_three (a ∷ []) h = absurd (cc)
at_least_three (a ∷ b ∷ []) h = absurd (cc)
at_least_three (a ∷ b ∷ c ∷ rest) h = omega arith

pub record IsSectionBytes (bytes : List ℕ) : Type 0 where
  pub octets : IsBytes 4096 bytes
  pub three : 3 ≤ length bytes
  pub whole : is_one_section bytes ≡ true

pub section_in-is : (d : Data) → IfSome (section_in d) IsSectionBytes
section_in-is d =
    weaker (λ bytes. IsBytes 4096 bytes × (is_one_section bytes ≡ true)) IsSectionBytes (section_in d)
    (λ bytes p. record { octets = p.0; three = at_least_three bytes p.1; whole = p.1 })
    (then_tested (IsBytes 4096) is_one_section (option_and_then (hex_bytes 4096) (as_str d))
    (then_all (IsBytes 4096) (hex_bytes 4096) (as_str d) (hex_bytes-is 4096)))

one_more : (o : Option (List ℕ)) (xs : List (List ℕ)) → IfSome o IsSectionBytes → All IsSectionBytes xs → All IsSectionBytes (cons_option o xs)
one_more None xs h all = all
one_more (Some x) xs h all = All-cons IsSectionBytes x xs h all

pub sections-are : (ds : List Data) → All IsSectionBytes (filter_map section_in ds)
sections-are [] = All-nil IsSectionBytes
sections-are (d ∷ ds) = one_more (section_in d) (filter_map section_in ds) (section_in-is d) (sections-are ds)

-- Languages
letter_below : (c : ℕ) → is_letter c ≡ true → c < 128
letter_below c h = grind (arith, nat_tests, h)

letters : (a b c : ℕ) (test : Bool) → (test ≡ true → IsLanguage (a ∷ b ∷ c ∷ [])) → IfSome (if test then Some (a ∷ b ∷ c ∷ []) else None) IsLanguage
letters a b c true h = h refl
letters a b c false h = tt

language_of-is : (text : List ℕ) → IfSome (language_of text) IsLanguage
language_of-is [] = tt
language_of-is (a ∷ []) = tt
language_of-is (a ∷ b ∷ []) = tt
language_of-is (a ∷ b ∷ c ∷ []) =
    letters a b c (is_letter a && is_letter b && is_letter c) (λ h.
    let two = and_parts (is_letter a && is_letter b) (is_letter c) h in
    let one = and_parts (is_letter a) (is_letter b) two.0 in
    record {
      letters = refl;
      octets = All-cons (λ x. x < 128) a (b ∷ c ∷ []) (letter_below a one.0)
          (All-cons (λ x. x < 128) b (c ∷ []) (letter_below b one.1) (All-cons (λ x. x < 128) c [] (letter_below c two.1) (All-nil (λ x. x < 128))));
    })
language_of-is (a ∷ b ∷ c ∷ d ∷ rest) = tt

language_in-is : (d : Data) → IfSome (language_in d) IsLanguage
language_in-is d = then_all IsLanguage language_of (as_str d) language_of-is

pub undefined : IsLanguage (codes "und")
undefined = language_of-is (codes "und")

pub language_at-is : (key : List ℕ) (d : Data) → IsLanguage (unwrap_or (language_at key d) (codes "und"))
language_at-is key d = holds_of IsLanguage (language_at key d) (codes "und") (at_key-all IsLanguage key None language_in d tt language_in-is) undefined

-- A language that may be absent

pub optional_language-is : (key : List ℕ) (d : Data) → All IsLanguage (option_to_list (unwrap_or (optional_language key d) None))
optional_language-is key d =
    holds_of (λ o. All IsLanguage (option_to_list o)) (optional_language key d) None
    (at_key-all (λ o. All IsLanguage (option_to_list o)) key (Some None) (λ v. option_map Some (language_in v)) d (All-nil IsLanguage)
    (λ v. map_all (λ o. All IsLanguage (option_to_list o)) IsLanguage Some (language_in v) (λ x q. All-cons IsLanguage x [] q (All-nil IsLanguage))
    (language_in-is v)))
    (All-nil IsLanguage)
