-- A front that grows by bytes of the input
use Rattle.std.proofs.Common.{◌≡◌, ◌⊎◌, ◌≤◌, ◌<◌, ◌+◌, ℕ, suc, min, Bool, List, [], ◌∷◌, ◌++◌, length, take, drop, Option, Some, None, Result, Ok, Err, inl}
use Rattle.std.proofs.Common.{inr, refl, sym, ap, ◌∙◌, subst, arith, append-nil, append_assoc, length-append}
use Rattle.std.specs.Prelude.{slice_index}
use Rattle.std.specs.Io.KnownBytes.{Consumes, IsAtEnd}
use Rattle.std.proofs.KnownBytes.{Consumes-nil, Consumes-trans}
use Rattle.std.proofs.lemmas.List.{take-append-drop}
use Rattle.counted_io.specs.Device.{ReadsPart}
use Rattle.devices.specs.Devices.{Port, between}
use Rattle.devices.specs.declared.halt.Halt.TheVariants.{Read, Write, Memory}
use Rattle.checked_jobs.specs.declared.jobs.JobPlans.{JobPlans}
use Rattle.tsair_cli.specs.Fronts.{EndsInZero, Grows, HasRead, IsFrontOf, IsSpent, IsWhole, ReadsFront}
use Rattle.tsair_cli.specs.declared.front.FrontError.{FrontError}
use Rattle.tsair_cli.specs.declared.front.FrontError.TheVariants.{Fault, Stopped}
use Rattle.tsair_cli.specs.declared.front.FrontFault.TheVariants.{Job, Unended}

pub grown_none : (port : Port) (text : List ℕ) → Grows (between port port) text text
grown_none port text = record { bytes = []; grown = sym (append-nil text); read = Consumes-nil port.bytes; clean = refl }

pub grown_more : (before mid after : Port) (old now new bytes : List ℕ) → Grows (between before mid) old now → Consumes mid.bytes after.bytes bytes →
    after.failed ≡ mid.failed →
    new ≡ now ++ bytes → Grows (between before after) old new
grown_more before mid after old now new bytes g read clean is = record {
  bytes = g.bytes ++ bytes;
  grown = is ∙ ap (λ (l : List ℕ). l ++ bytes) g.grown ∙ append_assoc old g.bytes bytes;
  read = Consumes-trans before.bytes mid.bytes after.bytes g.bytes bytes g.read read;
  clean = clean ∙ g.clean;
}

pub grown_on : (before mid after : Port) (old now new : List ℕ) → Grows (between before mid) old now → Grows (between mid after) now new →
    Grows (between before after) old new
grown_on before mid after old now new g h = grown_more before mid after old now new h.bytes g h.read h.clean h.grown

-- The bytes that a read returned
pub part_read : (a b : Option (List ℕ)) (part : List ℕ) (n : ℕ) → ((xs : List ℕ) → a ≡ Some xs → ReadsPart xs b part (Ok n)) → Consumes a b (take n part)
part_read None b part n known = tt
part_read (Some xs) b part n known =
    let r = known xs refl in
    subst (λ (left : Option (List ℕ)). Consumes (Some xs) left (take n part)) (sym r.1.rest)
    (sym (take-append-drop n xs) ∙ ap (λ (l : List ℕ). l ++ drop n xs) (sym r.1.front))

none_left : (xs : List ℕ) (n : ℕ) → 0 ≡ min (suc n) (length xs) → xs ≡ []
none_left [] n e = refl
none_left (x ∷ xs) n e = absurd (omega (arith, e))

pub end_read : (mid after : Port) (part : List ℕ) → length part ≡ 1 → ((xs : List ℕ) → mid.bytes ≡ Some xs → ReadsPart xs after.bytes part (Ok 0)) →
    IsSpent (between mid after)
end_read mid after part size known xs is =
    let r = known xs is in
    let none : xs ≡ [] = none_left xs 0 (r.0 ∙ ap (λ (n : ℕ). min n (length xs)) size) in
    subst IsAtEnd (sym r.1.rest) none

-- Bytes that were known before a read are known after it.
still_known : (a b : Option (List ℕ)) (bytes xs : List ℕ) → Consumes a b bytes → a ≡ Some xs → (ys : List ℕ) × (b ≡ Some ys)
still_known None b bytes xs c e = absurd (let no : ⊥ = cc in no)
still_known (Some zs) None bytes xs c e = absurd c
still_known (Some zs) (Some ys) bytes xs c e = (ys, refl)

pub spent_on : (before mid after : Port) (old now : List ℕ) → Grows (between before mid) old now → IsSpent (between mid after) → IsSpent (between before after)
spent_on before mid after old now g spent xs is = let k = still_known before.bytes mid.bytes g.bytes xs g.read is in spent k.0 k.1

pub longer : (before mid : Port) (old now new : List ℕ) (x : ℕ) → Grows (between before mid) old now → new ≡ now ++ (x ∷ []) → length old < length new
longer before mid old now new x g is =
    let grown : length now ≡ length (old ++ g.bytes) = ap length g.grown in
    let first : length (old ++ g.bytes) ≡ length old + length g.bytes = length-append old g.bytes in
    let size : length new ≡ length (now ++ (x ∷ [])) = ap length is in
    let more : length (now ++ (x ∷ [])) ≡ length now + 1 = length-append now (x ∷ []) in
    omega (arith, grown, first, size, more)

-- A byte 0 is the last.
pub zero_last : (now new : List ℕ) (x : ℕ) → new ≡ now ++ (x ∷ []) → x ≡ 0 → EndsInZero new
zero_last now new x is zero = (now, is ∙ ap (λ (n : ℕ). now ++ (n ∷ [])) zero)

one : (part : List ℕ) → length part ≡ 1 → take 1 part ≡ slice_index part 0 ∷ []
one [] e = absurd (omega (arith, e))
one (x ∷ []) e = refl
one (x ∷ (y ∷ rest)) e = absurd (omega (arith, e))

pub byte_read : (a b : Option (List ℕ)) (part : List ℕ) (n : ℕ) → length part ≡ 1 → n ≤ 1 → 0 < n → ((xs : List ℕ) → a ≡ Some xs → ReadsPart xs b part (Ok n)) →
    Consumes a b (slice_index part 0 ∷ [])
byte_read a b part n size upper some known =
    let all : n ≡ 1 = omega (arith, upper, some) in
    subst (Consumes a b) (ap (λ (m : ℕ). take m part) all ∙ one part size) (part_read a b part n known)

-- A read at the end, and a read of one byte
pub end_on : (before mid after : Port) (old now part : List ℕ) (n : ℕ) → n ≡ 0 → length part ≡ 1 → Grows (between before mid) old now →
    ((xs : List ℕ) → mid.bytes ≡ Some xs → ReadsPart xs after.bytes part (Ok n)) → after.failed ≡ mid.failed →
    Grows (between before after) old now × IsSpent (between before after)
end_on before mid after old now part n none size g known clean =
    let at : (xs : List ℕ) → mid.bytes ≡ Some xs → ReadsPart xs after.bytes part (Ok 0) =
    λ xs e. subst (λ (m : ℕ). ReadsPart xs after.bytes part (Ok m)) none (known xs e) in (
      grown_more before mid after old now now [] g (part_read mid.bytes after.bytes part 0 at) clean (sym (append-nil now)),
      spent_on before mid after old now g (end_read mid after part size at),
    )

pub byte_on : (before mid after : Port) (old now new part : List ℕ) (n : ℕ) → length part ≡ 1 → n ≤ 1 → 0 < n → Grows (between before mid) old now →
    ((xs : List ℕ) → mid.bytes ≡ Some xs → ReadsPart xs after.bytes part (Ok n)) → after.failed ≡ mid.failed → new ≡ now ++ (slice_index part 0 ∷ []) →
    Grows (between before after) old new
byte_on before mid after old now new part n size upper some g known clean is =
    grown_more before mid after old now new (slice_index part 0 ∷ []) g (byte_read mid.bytes after.bytes part n size upper some known) clean is

-- If no more bytes are read, the front is read as its job.
pub front_read : (switch : Bool) (before after : Port) (text got : List ℕ) (r : Result JobPlans FrontError) → Grows (between before after) [] text →
    IsWhole switch text (between before after) →
    got ≡ text → IsFrontOf switch got r → ReadsFront switch (between before after) r
front_read switch before after text got r g whole same is =
    by r (subst (λ (l : List ℕ). IsFrontOf switch l r) same is)
  where
    has : HasRead (between before after) text
    has = record { read = rw (sym g.grown) at g.read; clean = g.clean }

    by : (r : Result JobPlans FrontError) → IsFrontOf switch text r → ReadsFront switch (between before after) r
    by (Ok plans) h = record { front = text; has_read = has; plans_are = h }
    by (Err (Fault (Job line))) h = record { front = text; has_read = has; is = (h, whole) }
    by (Err (Fault Unended)) h = record { front = text; has_read = has; is = inr h }
    by (Err (Stopped Read)) h = absurd cc
    by (Err (Stopped Write)) h = absurd cc
    by (Err (Stopped Memory)) h = g.clean

-- The front ends: no byte is left, or the last byte is 0.
pub front_ended : (before mid after : Port) (old now new : List ℕ) → Grows (between before mid) old now → IsSpent (between mid after) ⊎ EndsInZero new →
    IsSpent (between before after) ⊎ EndsInZero new
front_ended before mid after old now new g (inl spent) = inl (spent_on before mid after old now g spent)
front_ended before mid after old now new g (inr zero) = inr zero
