-- The terms of a run, if each of its numbers is present
use Rattle.std.proofs.Common.{◌≡◌, ℕ, Option, Some, ap, ◌∙◌}
use Rattle.tsair_cli.specs.Arguments.{air_terms, terms_by}

pub all_given : (w a : Option ℕ) (s r : Option (Option ℕ)) (wait ahead : ℕ) (slots room : Option ℕ) → Some wait ≡ w → Some ahead ≡ a → Some slots ≡ s →
    Some room ≡ r →
    Some (air_terms wait ahead slots room) ≡ terms_by w a s r
all_given w a s r wait ahead slots room ew ea es er =
    ap (λ (x : Option ℕ). terms_by x (Some ahead) (Some slots) (Some room)) ew
    ∙ ap (λ (x : Option ℕ). terms_by w x (Some slots) (Some room)) ea
    ∙ ap (λ (x : Option (Option ℕ)). terms_by w a x (Some room)) es
    ∙ ap (λ (x : Option (Option ℕ)). terms_by w a s x) er
