-- An input that is read piece by piece to its end: the next bytes are at the front of each piece, and only the last piece may be partly filled.
use Rattle.std.proofs.Common.{◌≡◌, ℕ, ◌+◌, ◌%◌, ◌<◌, ◌≤◌, List, [], ◌++◌, length, take, drop, min, refl, sym, ap, subst, ◌∙◌, arith, append_assoc}
use Rattle.std.proofs.Common.{length-append, Option, Some, None, Result, Ok, Err, inr}
use Rattle.std.proofs.lemmas.List.{append-nil, drop_all, length-take-le, take-append-drop}
use Rattle.std.proofs.lemmas.Nat.Gcd.{dvd-zero, dvd_of_mod-eq-zero, mod-eq-zero_of_dvd}
use Rattle.std.proofs.Math.Nat.{dvd-add}
use Rattle.std.specs.Prelude.{IfOk, IfErr}
use Rattle.counted_io.specs.Device.{IsFront}
use Rattle.devices.specs.Devices.{Port, between}
use Rattle.devices.specs.WholeInput.{IsLong, IsShort, IsWhole, ReadsFront, ReadsInput, TakesInput, longest_input}
use Rattle.devices.specs.declared.halt.Halt.{Halt}
use Rattle.devices.specs.declared.halt.Halt.TheVariants.{Read}

-- 1. If the bytes of the input are known, these bytes were read and the rest is left

abbrev pub IsAfter : Port → Port → List ℕ → Type 0
IsAfter old now bytes = (xs : List ℕ) → old.bytes ≡ Some xs → (left : List ℕ) × (xs ≡ bytes ++ left) × (now.bytes ≡ Some left)

-- The next n bytes of the input are at the front of the piece.
abbrev IsRead : Port → Port → List ℕ → ℕ → Type 0
IsRead mid new piece n = (xs : List ℕ) → mid.bytes ≡ Some xs → (n ≡ min (length piece) (length xs)) × IsFront xs new.bytes piece n

-- The whole input was read.
abbrev IsEnd : Port → Port → List ℕ → Type 0
IsEnd old new bytes = (xs : List ℕ) → old.bytes ≡ Some xs → (xs ≡ bytes) × (new.bytes ≡ Some [])

after_none : (port : Port) → IsAfter port port []
after_none port xs e = (xs, refl, e)

after_more : (old mid new : Port) (bytes piece : List ℕ) (n : ℕ) → IsAfter old mid bytes → IsRead mid new piece n → IsAfter old new (bytes ++ take n piece)
after_more old mid new bytes piece n b p xs e =
    let h = b xs e in
    let k = p h.0 h.2 in (
      drop n h.0,
      h.1 ∙ ap (λ (x : List ℕ). bytes ++ x) (sym (take-append-drop n h.0)) ∙ sym (append_assoc bytes (take n h.0) (drop n h.0))
          ∙ ap (λ (x : List ℕ). (bytes ++ x) ++ drop n h.0) (sym k.1.front),
      k.1.rest,
    )

-- If the piece is not full, the input ended.
end_read : (old mid new : Port) (bytes piece : List ℕ) (n : ℕ) → IsAfter old mid bytes → IsRead mid new piece n → n < length piece →
    IsEnd old new (bytes ++ take n piece)
unfolding after_more
end_read old mid new bytes piece n b p s xs e =
    let h = b xs e in
    let k = p h.0 h.2 in
    let size : n ≡ min (length piece) (length h.0) = k.0 in
    let none : drop n h.0 ≡ [] = drop_all n h.0 (omega (arith, size, s)) in
    let m = after_more old mid new bytes piece n b p xs e in
    (m.1 ∙ ap (λ (x : List ℕ). (bytes ++ take n piece) ++ x) none ∙ append-nil (bytes ++ take n piece), k.1.rest ∙ ap Some none)

whole_if : (known left : Option (List ℕ)) (bytes : List ℕ) → ((xs : List ℕ) → known ≡ Some xs → (xs ≡ bytes) × (left ≡ Some [])) → IsWhole known bytes
whole_if None left bytes h = tt
whole_if (Some xs) left bytes h = sym (h xs refl).0

short_if : (known left : Option (List ℕ)) (bytes : List ℕ) → length bytes ≤ longest_input →
    ((xs : List ℕ) → known ≡ Some xs → (xs ≡ bytes) × (left ≡ Some [])) → IsShort known
short_if None left bytes s h = tt
short_if (Some xs) left bytes s h = subst (λ (x : List ℕ). length x ≤ longest_input) (sym (h xs refl).0) s

long_if : (known : Option (List ℕ)) (bytes : List ℕ) → longest_input < length bytes →
    ((xs : List ℕ) → known ≡ Some xs → (left : List ℕ) × (xs ≡ bytes ++ left)) → IsLong known
long_if None bytes s h = tt
long_if (Some xs) bytes s h =
    let k = h xs refl in
    let all : length xs ≡ length bytes + length k.0 = ap length k.1 ∙ length-append bytes k.0 in
    omega (arith, all, s)

-- 2. A part of the input was taken

pub record TakesFront (HasTaken : List ℕ → Type 0) (unit : ℕ) (old now : Port) (size : ℕ) : Type 0 where
  pub bytes : List ℕ
  pub size_is : size ≡ length bytes
  pub whole : length bytes % unit ≡ 0
  pub taken : HasTaken bytes
  pub known : IsAfter old now bytes
  pub clean : now.failed ≡ old.failed

pub front_none : (HasTaken : List ℕ → Type 0) (unit : ℕ) (port : Port) → HasTaken [] → TakesFront HasTaken unit port port 0
front_none HasTaken unit port h = record {
  bytes = [];
  size_is = refl;
  whole = mod-eq-zero_of_dvd unit (dvd-zero unit);
  taken = h;
  known = after_none port;
  clean = refl;
}

front_size : (size n : ℕ) (bytes piece : List ℕ) → size ≡ length bytes → n ≤ length piece → size + n ≡ length (bytes ++ take n piece)
front_size size n bytes piece s f =
    let both : length (bytes ++ take n piece) ≡ length bytes + length (take n piece) = length-append bytes (take n piece) in
    let part : length (take n piece) ≡ n = length-take-le n piece f in
    omega (arith, both, part, s)

whole_more : (unit a b c : ℕ) → a % unit ≡ 0 → b % unit ≡ 0 → c ≡ a + b → c % unit ≡ 0
whole_more unit a b c p q e =
    subst (λ (n : ℕ). n % unit ≡ 0) (sym e) (mod-eq-zero_of_dvd unit (dvd-add unit (dvd_of_mod-eq-zero unit p) (dvd_of_mod-eq-zero unit q)))

-- One more full piece was taken.
pub front_more : (HasTaken Then : List ℕ → Type 0) (unit : ℕ) (old mid new : Port) (size n : ℕ) (piece : List ℕ) → TakesFront HasTaken unit old mid size →
    ReadsFront (between mid new) piece n → ((bytes : List ℕ) → length bytes % unit ≡ 0 → HasTaken bytes → Then (bytes ++ take n piece)) →
    length piece % unit ≡ 0 → length piece ≤ n → TakesFront Then unit old new (size + n)
front_more HasTaken Then unit old mid new size n piece f r t u full =
    let fits : n ≤ length piece = r.fits in
    let all : size + n ≡ length (f.bytes ++ take n piece) = front_size size n f.bytes piece f.size_is fits in
    let so_far : size ≡ length f.bytes = f.size_is in
    record {
      bytes = f.bytes ++ take n piece;
      size_is = all;
      whole = whole_more unit (length f.bytes) (length piece) (length (f.bytes ++ take n piece)) f.whole u (omega (arith, all, so_far, fits, full));
      taken = t f.bytes f.whole f.taken;
      known = after_more old mid new f.bytes piece n f.known r.known;
      clean = r.clean ∙ f.clean;
    }

-- The last piece was taken, to the end of the input.
pub front_end : (HasTaken Then : List ℕ → Type 0) (unit : ℕ) (old mid new : Port) (size n : ℕ) (piece : List ℕ) (r : Result ℕ Halt) →
    TakesFront HasTaken unit old mid size →
    ReadsFront (between mid new) piece n → ((bytes : List ℕ) → length bytes % unit ≡ 0 → HasTaken bytes → Then (bytes ++ take n piece)) → n < length piece →
    IfOk r (λ whole. (whole ≡ size + n) × (size + n ≤ longest_input)) → IfErr r (λ halt. (halt ≡ Read) × (longest_input < size + n)) →
    TakesInput Then (between old new) r
front_end HasTaken Then unit old mid new size n piece (Ok whole) f r t s k e =
    let bytes = f.bytes ++ take n piece in
    let all : size + n ≡ length bytes = front_size size n f.bytes piece f.size_is r.fits in
    let end : IsEnd old new bytes = end_read old mid new f.bytes piece n f.known r.known s in
    let short : length bytes ≤ longest_input = subst (λ (x : ℕ). x ≤ longest_input) all k.1 in
    record {
      bytes = bytes;
      size_is = k.0 ∙ all;
      short = short;
      read = (
        whole_if old.bytes new.bytes bytes end,
        record { short = short_if old.bytes new.bytes bytes short end; ends = λ xs known. (end xs known).1; clean = r.clean ∙ f.clean },
      );
      taken = t f.bytes f.whole f.taken;
    }
front_end HasTaken Then unit old mid new size n piece (Err halt) f r t s k e =
    let bytes = f.bytes ++ take n piece in
    let all : size + n ≡ length bytes = front_size size n f.bytes piece f.size_is r.fits in
    let after : IsAfter old new bytes = after_more old mid new f.bytes piece n f.known r.known in
    subst (λ (x : Halt). ReadsInput (between old new) (Err x)) (sym e.0)
    (inr (long_if old.bytes bytes (subst (λ (x : ℕ). longest_input < x) all e.1) (λ xs known. let h = after xs known in (h.0, h.1))))
