-- Bytes that are a text, and bytes that are none
use Rattle.std.proofs.Common.{◌≡◌, ℕ, Bool, true, false, List, sym, ap, ◌∙◌, Err}
use Rattle.std.specs.Prelude.{if◌then◌else◌}
use Rattle.std.specs.Str.{IsUtf8, is_utf8}
use Rattle.std.proofs.lemmas.Str.{IsUtf8-from_is_utf8, is_utf8-from_IsUtf8}
use Rattle.toml.specs.Parse.{parse_document}
use Rattle.changed_texts.specs.Reading.{description_in}
use Rattle.description.specs.Reading.{description_of}
use Rattle.description_keys.specs.declared.fault.DescFault.TheVariants as fault
use Rattle.description_keys.specs.declared.fault.DescError.TheVariants as refused_by

-- A text that is UTF-8 is read as a description.
pub described_text : (bytes text : List ℕ) → text ≡ bytes → IsUtf8 bytes → description_of (parse_document text) ≡ description_in bytes
unfolding description_in
described_text bytes text e u = ap (λ (x : List ℕ). description_of (parse_document x)) e
    ∙ sym (ap (λ (b : Bool). if b then description_of (parse_document bytes) else Err (refused_by.Refused fault.Text)) (is_utf8-from_IsUtf8 bytes u))

not_utf8 : (bytes : List ℕ) (b : Bool) → is_utf8 bytes ≡ b → ¬ (IsUtf8 bytes) → b ≡ false
not_utf8 bytes true e n = absurd (n (IsUtf8-from_is_utf8 bytes e))
not_utf8 bytes false e n = cc

pub no_text : (bytes : List ℕ) → ¬ (IsUtf8 bytes) → Err (refused_by.Refused fault.Text) ≡ description_in bytes
unfolding description_in
no_text bytes n =
    sym (ap (λ (b : Bool). if b then description_of (parse_document bytes) else Err (refused_by.Refused fault.Text))
    (not_utf8 bytes (is_utf8 bytes) (let same : is_utf8 bytes ≡ is_utf8 bytes = cc in same) n))
