-- The value that a key gives is in the key's range.
use Rattle.std.proofs.Common.{◌≡◌, ℕ, ℤ, pos, negsuc, ◌≤◌, ◌&&◌, nat_le, Bool, true, false, List, Option, None, Some, IfSome, unwrap_or, option_map}
use Rattle.std.proofs.Common.{option_and_then, refl, arith, if◌then◌else◌}
use Rattle.std.proofs.lemmas.Bool.Decides.{nat_tests}
use Rattle.toml.specs.Data.{Data, get, as_integer, as_str}
use Rattle.description_values.specs.Moments.{has_time_shape, text_seconds, moment_of, moment_in, moment_at}
use Rattle.description_parts.specs.Ranges.{last_moment}
use Rattle.description_values.specs.Values.{at_key, in_range, integer_in, integer_at, integer_or, optional_integer}

-- A number from `low` to `high`
pub record Within (low high n : ℕ) : Type 0 where
  pub least : low ≤ n
  pub most : n ≤ high

-- If a value and its default satisfy P, so does the result.
pub holds_of : {X : Type 0} (P : X → Type 0) (o : Option X) (x : X) → IfSome o P → P x → P (unwrap_or o x)
holds_of P None x h p = p
holds_of P (Some y) x h p = h

at_value : {X : Type 0} (P : X → Type 0) (absent : Option X) (read : Data → Option X) (o : Option Data)
    → IfSome absent P → ((v : Data) → IfSome (read v) P) → IfSome (elim o [ None ↦ absent | Some value ↦ read value ]) P
at_value P absent read None a r = a
at_value P absent read (Some v) a r = r v

-- If the default of a key and each value that is read satisfy P, so does the key's result.
pub at_key-all : {X : Type 0} (P : X → Type 0) (key : List ℕ) (absent : Option X) (read : Data → Option X) (d : Data)
    → IfSome absent P → ((v : Data) → IfSome (read v) P) → IfSome (at_key key absent read d) P
at_key-all P key absent read d a r = at_value P absent read (get key d) a r

pub then_all : {X Y : Type 0} (P : Y → Type 0) (f : X → Option Y) (o : Option X) → ((x : X) → IfSome (f x) P) → IfSome (option_and_then f o) P
then_all P f None h = tt
then_all P f (Some x) h = h x

pub map_all : {X Y : Type 0} (P : Y → Type 0) (Q : X → Type 0) (f : X → Y) (o : Option X) → ((x : X) → Q x → P (f x)) → IfSome o Q → IfSome (option_map f o) P
map_all P Q f None h q = tt
map_all P Q f (Some x) h q = h x q

pub tested : (low high k : ℕ) (b c : Bool) → (b ≡ true → low ≤ k) → (c ≡ true → k ≤ high) → IfSome (if b && c then Some k else None) (Within low high)
tested low high k true true l h = record { least = l refl; most = h refl }
tested low high k true false l h = tt
tested low high k false c l h = tt

in_range-within : (low high : ℕ) (z : ℤ) → IfSome (in_range (pos low) (pos high) z) (Within low high)
in_range-within low high (negsuc k) = tt
in_range-within low high (pos k) = tested low high k (nat_le low k) (nat_le k high) (λ e. grind (arith, nat_tests)) (λ e. grind (arith, nat_tests))

pub integer_in-within : (low high : ℕ) (d : Data) → IfSome (integer_in (pos low) (pos high) d) (Within low high)
integer_in-within low high d = then_all (Within low high) (in_range (pos low) (pos high)) (as_integer d) (in_range-within low high)

-- The number at a key, or the default if the key is absent
pub integer_at-within : (key : List ℕ) (low high other : ℕ) (d : Data) → low ≤ other → other ≤ high
    → Within low high (unwrap_or (integer_at key (pos low) (pos high) d) other)
integer_at-within key low high other d l h =
    holds_of (Within low high) (integer_at key (pos low) (pos high) d) other
    (at_key-all (Within low high) key None (integer_in (pos low) (pos high)) d tt (integer_in-within low high))
    (record { least = l; most = h })

pub integer_or-within : (key : List ℕ) (low high default other : ℕ) (d : Data) → low ≤ default → default ≤ high → low ≤ other → other ≤ high
    → Within low high (unwrap_or (integer_or default key (pos low) (pos high) d) other)
integer_or-within key low high default other d dl dh l h =
    holds_of (Within low high) (integer_or default key (pos low) (pos high) d) other
    (at_key-all (Within low high) key (Some default) (integer_in (pos low) (pos high)) d (record { least = dl; most = dh }) (integer_in-within low high))
    (record { least = l; most = h })

-- The number at a key that may be absent
pub optional_integer-within : (key : List ℕ) (low high : ℕ) (d : Data)
    → IfSome (unwrap_or (optional_integer key (pos low) (pos high) d) None) (Within low high)
optional_integer-within key low high d =
    holds_of (λ o. IfSome o (Within low high)) (optional_integer key (pos low) (pos high) d) None
    (at_key-all (λ o. IfSome o (Within low high)) key (Some None) (λ v. option_map Some (integer_in (pos low) (pos high) v)) d tt
    (λ v. map_all (λ o. IfSome o (Within low high)) (Within low high) Some (integer_in (pos low) (pos high) v) (λ n w. w) (integer_in-within low high v)))
    tt

pub if_all : {X : Type 0} (P : X → Type 0) (b : Bool) (o : Option X) → IfSome o P → IfSome (if b then o else None) P
if_all P true o h = h
if_all P false o h = tt

moment_of-within : (text : List ℕ) → IfSome (moment_of text) (Within 0 last_moment)
moment_of-within text =
    if_all (Within 0 last_moment) (has_time_shape text) (option_and_then (in_range (pos 0) (pos 2145916799)) (text_seconds text))
    (then_all (Within 0 last_moment) (in_range (pos 0) (pos 2145916799)) (text_seconds text) (in_range-within 0 2145916799))

pub moment_at-within : (key : List ℕ) (d : Data) → Within 0 last_moment (unwrap_or (moment_at key d) 0)
moment_at-within key d =
    holds_of (Within 0 last_moment) (moment_at key d) 0
    (at_key-all (Within 0 last_moment) key None moment_in d tt (λ v. then_all (Within 0 last_moment) moment_of (as_str v) moment_of-within))
    (record { least = omega arith; most = omega arith })
