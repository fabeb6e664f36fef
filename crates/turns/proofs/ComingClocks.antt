-- Clock references that come on air in a slot: those of a whole run from the slot on. They recur from there on, and say what they said.
use Rattle.std.proofs.Common.{◌≡◌, ℕ, zero, suc, ◌+◌, ◌*◌, ◌<◌, ◌≤◌, nat_le, true, false, List, [], ◌∷◌, map, refl, sym, ap, ◌∙◌, subst, inl, inr, arith}
use Rattle.std.proofs.lemmas.Bool.{cases_Bool, cases_lt, lt-leb}
use Rattle.clock27.specs.Recurrence.{Recur}
use Rattle.ts_packet.specs.Views.{PacketView}
use Rattle.ts_packet.specs.PidList.{Entry, is_of_pid}
use Rattle.slot_contents.specs.Contents.{Content, view_of, entry_at}
use Rattle.slot_contents.proofs.Runs.{all_entries}
use Rattle.turns.proofs.TurnLists.{on, after, all_after}

-- The places of clock references: byte 10 of their packets
abbrev pub tenth_bytes : List Entry → List ℕ
tenth_bytes es = map (λ (e : Entry). 188 * e.index + 10) es

recur_later : (rate limit from at : ℕ) (bytes : List ℕ) (until : ℕ) → from ≤ at → Recur rate limit from bytes until → Recur rate limit at bytes until
unfolding Recur
recur_later rate limit from at [] until le recur = omega (arith, le, recur)
recur_later rate limit from at (byte ∷ bytes) until le recur = (omega (arith, le, recur.0), recur.1)

without_first : (rate limit from byte : ℕ) (bytes : List ℕ) (until : ℕ) → Recur rate limit from (byte ∷ bytes) until → Recur rate limit byte bytes until
unfolding Recur
without_first rate limit from byte bytes until recur = recur.1

-- Clock references of later slots recur from slot `at` on, if they recur from anywhere before it.
abbrev Later : ℕ → ℕ → ℕ → ℕ → List Entry → ℕ → Type 0
Later pid rate limit at es until =
    (from : ℕ) → from ≤ 188 * at → Recur rate limit from (tenth_bytes es) until → Recur rate limit (188 * at) (tenth_bytes (after at es)) until

passes : (pid rate limit at s from until : ℕ) (c : Content) (es : List Entry) → Later pid rate limit at (on pid es) until → from ≤ 188 * at →
    is_of_pid pid (view_of c) ≡ false → Recur rate limit from (tenth_bytes (on pid (entry_at s c ∷ es))) until →
    Recur rate limit (188 * at) (tenth_bytes (after at (on pid (entry_at s c ∷ es)))) until
passes pid rate limit at s from until c es later le k recur =
    let same : on pid (entry_at s c ∷ es) ≡ on pid es = rw k refl in
    subst (λ (l : List Entry). Recur rate limit (188 * at) (tenth_bytes (after at l)) until) (sym same)
    (later from le (subst (λ (l : List Entry). Recur rate limit from (tenth_bytes l) until) same recur))

drops : (pid rate limit at s from until : ℕ) (c : Content) (es : List Entry) → Later pid rate limit at (on pid es) until → s < at →
    is_of_pid pid (view_of c) ≡ true → Recur rate limit from (tenth_bytes (on pid (entry_at s c ∷ es))) until →
    Recur rate limit (188 * at) (tenth_bytes (after at (on pid (entry_at s c ∷ es)))) until
drops pid rate limit at s from until c es later early y recur =
    let here : on pid (entry_at s c ∷ es) ≡ entry_at s c ∷ on pid es = rw y refl in
    let gone : after at (entry_at s c ∷ on pid es) ≡ after at (on pid es) = let passed : nat_le at s ≡ false = lt-leb at s early in rw passed refl in
    let rest : Recur rate limit (188 * s + 10) (tenth_bytes (on pid es)) until =
    without_first rate limit from (188 * s + 10) (tenth_bytes (on pid es)) until
    (subst (λ (l : List Entry). Recur rate limit from (tenth_bytes l) until) here recur) in
    subst (λ (l : List Entry). Recur rate limit (188 * at) (tenth_bytes l) until) (sym (ap (after at) here ∙ gone))
    (later (188 * s + 10) (omega (arith, early)) rest)

pub recur_after : (pid rate limit at : ℕ) (f : ℕ → Content) (s n from until : ℕ) → from ≤ 188 * at →
    Recur rate limit from (tenth_bytes (on pid (all_entries f s n))) until →
    Recur rate limit (188 * at) (tenth_bytes (after at (on pid (all_entries f s n)))) until
unfolding all_entries
recur_after pid rate limit at f s zero from until le recur = recur_later rate limit from (188 * at) [] until le recur
recur_after pid rate limit at f s (suc n) from until le recur = elim (cases_lt s at) [
  | inl early ↦ elim (cases_Bool (is_of_pid pid (view_of (f s)))) [
    | inl y ↦ drops pid rate limit at s from until (f s) (all_entries f (suc s) n)
        (λ begin small so. recur_after pid rate limit at f (suc s) n begin until small so) early y recur
    | inr k ↦ passes pid rate limit at s from until (f s) (all_entries f (suc s) n)
        (λ begin small so. recur_after pid rate limit at f (suc s) n begin until small so) le k recur
  ]
  | inr late ↦
      subst (λ (es : List Entry). Recur rate limit (188 * at) (tenth_bytes es) until) (sym (all_after at pid f s (suc n) late))
      (recur_later rate limit from (188 * at) (tenth_bytes (on pid (all_entries f s (suc n)))) until le recur)
]

-- What is so of each packet is so of those from a slot on.
pub says_after : (at : ℕ) (f g : Entry → PacketView) (es : List Entry) → map f es ≡ map g es → map f (after at es) ≡ map g (after at es)
says_after at f g [] same = refl
says_after at f g (e ∷ es) same =
    let first : f e ≡ g e = cc in
    let others : map f es ≡ map g es = cc in
    let rest : map f (after at es) ≡ map g (after at es) = says_after at f g es others in
    elim (cases_Bool (nat_le at e.index)) [ inl y ↦ rw (y, first, rest) refl | inr n ↦ rw (n, rest) refl ]
