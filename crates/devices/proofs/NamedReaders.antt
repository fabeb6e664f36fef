-- Why a file is not read to its end.
use Rattle.std.proofs.Common.{◌≡◌, ◌⊎◌, ℕ, Bool, true, false, List, subst, inl, inr}
use Rattle.std.proofs.lemmas.Bool.{cases_Bool}
use Rattle.devices.specs.Devices.{Device, HasFailed}
use Rattle.devices.specs.Files.{Files, IsOpened, IsUnread}
use Rattle.devices.specs.WholeInput.{IsLong}

not_true : (b : Bool) → (b ≡ true → ⊥) → b ≡ false
not_true b never = elim (cases_Bool b) [ inl is ↦ absurd (never is) | inr other ↦ other ]

pub is_unread : (files : Files) (name : List ℕ) (input : Device) → IsOpened files name → input.before.bytes ≡ files.contents name →
    (files.never_fails ≡ true → HasFailed input → ⊥) →
    HasFailed input ⊎ IsLong input.before.bytes → IsUnread files name
is_unread files name input opened same never (inl failed) = (opened, inl (not_true files.never_fails (λ e. never e failed)))
is_unread files name input opened same never (inr long) = (opened, inr (subst IsLong same long))
