-- Scaling lists, step by step
use Rattle.std.proofs.Common.{◌≡◌, ℕ, zero, suc, ◌+◌, ◌-◌, ◌<◌, rules, false, ◌==◌, refl, arith, List, None, Some}
use Rattle.stream_coding.specs.Rbsp.{ue}
use Rattle.stream_coding.specs.Avc.{next_scale, scaling_list, scaling_list_at, scaling_matrix}

pub list_done : (left last : ℕ) (bytes : List ℕ) (at : ℕ) → left ≡ 0 → scaling_list left last bytes at ≡ Some at
unfolding scaling_list
list_done left last bytes at done = rw done refl

pub list_end : (left last : ℕ) (bytes : List ℕ) (at : ℕ) → 0 < left → ue bytes at ≡ None → scaling_list left last bytes at ≡ None
unfolding scaling_list
list_end zero last bytes at more is = absurd (omega (arith, more))
list_end (suc left) last bytes at more is = rw is refl

pub list_stop : (left last : ℕ) (bytes : List ℕ) (at delta next : ℕ) → 0 < left → ue bytes at ≡ Some (delta, next) → next_scale last delta ≡ 0 →
    scaling_list left last bytes at ≡ Some next
unfolding scaling_list
list_stop zero last bytes at delta next more is none = absurd (omega (arith, more))
list_stop (suc left) last bytes at delta next more is none = rw is (rw none refl)

pub list_step : (left last : ℕ) (bytes : List ℕ) (at delta next : ℕ) → 0 < left → ue bytes at ≡ Some (delta, next) → (next_scale last delta ≡ 0 → ⊥) →
    scaling_list left last bytes at ≡ scaling_list (left - 1) (next_scale last delta) bytes next
unfolding scaling_list
list_step zero last bytes at delta next more is some = absurd (omega (arith, more))
list_step (suc left) last bytes at delta next more is some =
    let less : suc left - 1 ≡ left = omega arith in
    let other : (next_scale last delta == 0) ≡ false = search (rules) in
    rw (is, less) (rw other refl)

pub matrix_done : (left i : ℕ) (bytes : List ℕ) (at : ℕ) → left ≡ 0 → scaling_matrix left i bytes at ≡ Some at
unfolding scaling_matrix
matrix_done left i bytes at done = rw done refl

matrix_next : (left less i : ℕ) (bytes : List ℕ) (at next : ℕ) → left ≡ suc less → scaling_list_at i bytes at ≡ Some next →
    scaling_matrix left i bytes at ≡ scaling_matrix less (i + 1) bytes next
unfolding scaling_matrix
matrix_next left less i bytes at next one is = rw one (rw is refl)

pub matrix_step : (count i : ℕ) (bytes : List ℕ) (at next : ℕ) → i < count → scaling_list_at i bytes at ≡ Some next →
    scaling_matrix (count - i) i bytes at ≡ scaling_matrix (count - (i + 1)) (i + 1) bytes next
matrix_step count i bytes at next more is = matrix_next (count - i) (count - (i + 1)) i bytes at next (omega (arith, more)) is

matrix_none : (left less i : ℕ) (bytes : List ℕ) (at : ℕ) → left ≡ suc less → scaling_list_at i bytes at ≡ None → scaling_matrix left i bytes at ≡ None
unfolding scaling_matrix
matrix_none left less i bytes at one is = rw one (rw is refl)

pub matrix_end : (count i : ℕ) (bytes : List ℕ) (at : ℕ) → i < count → scaling_list_at i bytes at ≡ None → scaling_matrix (count - i) i bytes at ≡ None
matrix_end count i bytes at more is = matrix_none (count - i) (count - (i + 1)) i bytes at (omega (arith, more)) is
