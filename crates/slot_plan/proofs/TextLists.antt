-- The texts that the readers of lists of slots and of entries accept.
use Rattle.std.specs.Prelude.{ℕ, zero, suc, ◌+◌, ◌-◌, ◌%◌, ◌<◌, ◌≤◌, ◌==◌, ◌||◌, true, false, List, [], ◌∷◌, ◌++◌, Option, None, Some, Result, Ok, Err, All}
use Rattle.std.specs.Prelude.{length}
use Rattle.std.specs.List.{list_all}
use Rattle.std.proofs.Common.{◌≡◌, refl, ap, sym, subst, ◌∙◌, append_assoc, arith, inl, inr}
use Rattle.std.proofs.lemmas.Bool.{cases_Bool}
use Rattle.std.proofs.lemmas.Bool.Decides.{nat_tests}
use Rattle.std.proofs.lemmas.List.Elements.{All-nil, All-cons, All-head, All-tail}
use Rattle.slot_plan.specs.declared.slot.Slot.{Slot}
use Rattle.slot_plan.specs.declared.certificate.StreamEntry.{StreamEntry}
use Rattle.slot_plan.specs.declared.certificate.ProgramEntry.{ProgramEntry}
use Rattle.slot_plan.specs.Numbered.{numbered}
use Rattle.slot_plan.specs.Planned.{is_small_stream, is_small_program}
use Rattle.slot_plan.specs.Plans.{IsByteSlot}
use Rattle.slot_plan.specs.Text.{slot_ending, slot_word, stream_line, program_line}
use Rattle.slot_plan.specs.Readers.{slot_at, slots_at, continued, with_first, line_of_slot, begins_with, stream_at, streams_at, program_at, programs_at}
use Rattle.slot_plan.proofs.TextLines.{slot-exact, stream-exact, program-exact}

pub ending-small : (n i : ℕ) → slot_ending n i < 48
ending-small n i = elim (cases_Bool (((suc i) % 24 == 0) || (suc i == n))) [ inl y ↦ rw y (omega arith) | inr z ↦ rw z (omega arith) ]

-- The first element that is read, if any
pub first-some : {X : Type 0} (line : ℕ) (next : List ℕ → Result (List X × List ℕ) ℕ) (o : Option (X × List ℕ)) (x : X) (r : List ℕ) →
    o ≡ Some (x, r) → continued line next o ≡ with_first x (next r)
first-some line next o x r e = rw e refl

pub record First {X : Type 0} (next : List ℕ → Result (List X × List ℕ) ℕ) (o : Option (X × List ℕ)) (xs : List X) (rest : List ℕ) : Type 0 where
  pub first : X
  pub others : List X
  pub following : List ℕ
  pub is_first : o ≡ Some (first, following)
  pub is_next : next following ≡ Ok (others, rest)
  pub are : xs ≡ first ∷ others

pub ok_same : {X : Type 0} (x y : X) → ◌≡◌ {A = Result X ℕ} (Ok x) (Ok y) → x ≡ y
ok_same x y e = cc

pub first-read : {X : Type 0} (line : ℕ) (next : List ℕ → Result (List X × List ℕ) ℕ) (o : Option (X × List ℕ)) (xs : List X) (rest : List ℕ) →
    continued line next o ≡ Ok (xs, rest) → First next o xs rest
first-read line next None xs rest e = absurd (cc)
first-read {X} line next (Some p) xs rest e = after (next p.1) refl e
  where
    after : (r : Result (List X × List ℕ) ℕ) → next p.1 ≡ r → with_first p.0 r ≡ Ok (xs, rest) → First next (Some p) xs rest
    after (Ok q) is w =
        let same : (p.0 ∷ q.0, q.1) ≡ (xs, rest) = ok_same _ _ w in
        let tail : q.1 ≡ rest = ap (λ (t : List X × List ℕ). t.1) same in
        record { first = p.0; others = q.0; following = p.1; is_first = refl; is_next = rw (← tail) is; are = sym (ap (λ (t : List X × List ℕ). t.0) same) }
    after (Err bad) is w = absurd (cc)

pub slots-complete : (n k : ℕ) (ss : List Slot) (rest : List ℕ) → length ss ≡ k → k ≤ n → All IsByteSlot ss →
    slots_at n k (numbered (slot_word n) (n - k) ss ++ rest) ≡ Ok (ss, rest)
slots-complete n zero [] rest e le small = refl
slots-complete n zero (s ∷ ss) rest e le small = absurd (omega arith)
slots-complete n (suc k) [] rest e le small = absurd (omega arith)
slots-complete n (suc k) (s ∷ ss) rest e le small =
    let i : suc (n - suc k) ≡ n - k = omega arith in
    let here = slot-exact (slot_ending n (n - suc k)) (ending-small n (n - suc k)) in
    rw (append_assoc (slot_word n (n - suc k) s) (numbered (slot_word n) (suc (n - suc k)) ss) rest)
    (first-some (line_of_slot (n - suc k)) (slots_at n k) _ s _
    (here.complete s (numbered (slot_word n) (suc (n - suc k)) ss ++ rest) (All-head IsByteSlot s ss small))
    ∙ (rw (i, slots-complete n k ss rest (omega arith) (omega arith) (All-tail IsByteSlot s ss small)) refl))

pub record SlotsRead (n k : ℕ) (xs : List ℕ) (ss : List Slot) (rest : List ℕ) : Type 0 where
  pub count : length ss ≡ k
  pub small : All IsByteSlot ss
  pub text : xs ≡ numbered (slot_word n) (n - k) ss ++ rest

one_more_word : (n j i : ℕ) (s : Slot) (ss : List Slot) (xs following rest : List ℕ) → suc j ≡ i → xs ≡ slot_word n j s ++ following →
    following ≡ numbered (slot_word n) i ss ++ rest → xs ≡ numbered (slot_word n) j (s ∷ ss) ++ rest
one_more_word n j i s ss xs following rest e f g = rw (f, g, ← e) (sym (append_assoc (slot_word n j s) (numbered (slot_word n) (suc j) ss) rest))

pub slots-sound : (n k : ℕ) (xs : List ℕ) (ss : List Slot) (rest : List ℕ) → k ≤ n → slots_at n k xs ≡ Ok (ss, rest) → SlotsRead n k xs ss rest
slots-sound n zero xs ss rest le e =
    let same : ([], xs) ≡ (ss, rest) = ok_same _ _ e in
    subst (λ t. SlotsRead n zero xs t.0 t.1) same (record { count = refl; small = All-nil IsByteSlot; text = refl })
slots-sound n (suc k) xs ss rest le e =
    let f = first-read (line_of_slot (n - suc k)) (slots_at n k) (slot_at (slot_ending n (n - suc k)) xs) ss rest e in
    let here = (slot-exact (slot_ending n (n - suc k)) (ending-small n (n - suc k))).sound xs f.first f.following f.is_first in
    let more = slots-sound n k f.following f.others rest (omega arith) f.is_next in
    subst (λ t. SlotsRead n (suc k) xs t rest) (sym f.are) (record {
      count = ap suc more.count;
      small = All-cons IsByteSlot f.first f.others here.0 more.small;
      text = one_more_word n (n - suc k) (n - k) f.first f.others xs f.following rest (omega arith) here.1 more.text;
    })

pub streams-complete : (m line k : ℕ) (es : List StreamEntry) (rest : List ℕ) → length es ≤ m → k + m ≤ 256 → list_all is_small_stream es ≡ true →
    begins_with 115 rest ≡ false →
    streams_at m line k (numbered stream_line k es ++ rest) ≡ Ok (es, rest)
unfolding streams_at
streams-complete zero line k [] rest le few small ends = refl
streams-complete zero line k (e ∷ es) rest le few small ends = absurd (omega arith)
streams-complete (suc m) line k [] rest le few small ends = rw ends refl
streams-complete (suc m) line k (e ∷ es) rest le few small ends =
    let here = stream-exact k (omega arith) in
    let both : (is_small_stream e ≡ true) × (list_all is_small_stream es ≡ true) = grind (arith, nat_tests) in
    rw (append_assoc (stream_line k e) (numbered stream_line (suc k) es) rest)
    (first-some (line + k) (streams_at m line (suc k)) _ e _ (here.complete e (numbered stream_line (suc k) es ++ rest) both.0)
    ∙ (rw (streams-complete m line (suc k) es rest (omega arith) (omega arith) both.1 ends) refl))

pub record StreamsRead (m k : ℕ) (xs : List ℕ) (es : List StreamEntry) (rest : List ℕ) : Type 0 where
  pub few : length es ≤ m
  pub small : list_all is_small_stream es ≡ true
  pub text : xs ≡ numbered stream_line k es ++ rest

pub streams-sound : (m line k : ℕ) (xs : List ℕ) (es : List StreamEntry) (rest : List ℕ) → k + m ≤ 256 → streams_at m line k xs ≡ Ok (es, rest) →
    StreamsRead m k xs es rest
unfolding streams_at
streams-sound zero line k xs es rest few e =
    let same : ([], xs) ≡ (es, rest) = ok_same _ _ e in
    subst (λ t. StreamsRead zero k xs t.0 t.1) same (record { few = omega arith; small = refl; text = refl })
streams-sound (suc m) line k xs es rest few e = elim (cases_Bool (begins_with 115 xs)) [
  | inl begins ↦ (let f = first-read (line + k) (streams_at m line (suc k)) (stream_at k xs) es rest (rw begins at e) in
      let here = (stream-exact k (omega arith)).sound xs f.first f.following f.is_first in
      let more = streams-sound m line (suc k) f.following f.others rest (omega arith) f.is_next in
      let fine : list_all is_small_stream (f.first ∷ f.others) ≡ true = rw (here.0, more.small) refl in
      subst (λ t. StreamsRead (suc m) k xs t rest) (sym f.are) (record {
        few = omega (arith, more.few);
        small = fine;
        text = here.1 ∙ ap (λ t. stream_line k f.first ++ t) more.text
            ∙ sym (append_assoc (stream_line k f.first) (numbered stream_line (suc k) f.others) rest);
      }))
  | inr other ↦ (let same : ([], xs) ≡ (es, rest) = ok_same _ _ (rw other at e) in
      subst (λ t. StreamsRead (suc m) k xs t.0 t.1) same (record { few = omega arith; small = refl; text = refl }))
]

pub programs-complete : (m line k : ℕ) (es : List ProgramEntry) (rest : List ℕ) → length es ≤ m → k + m ≤ 256 → list_all is_small_program es ≡ true →
    begins_with 112 rest ≡ false →
    programs_at m line k (numbered program_line k es ++ rest) ≡ Ok (es, rest)
unfolding programs_at
programs-complete zero line k [] rest le few small ends = refl
programs-complete zero line k (e ∷ es) rest le few small ends = absurd (omega arith)
programs-complete (suc m) line k [] rest le few small ends = rw ends refl
programs-complete (suc m) line k (e ∷ es) rest le few small ends =
    let here = program-exact k (omega arith) in
    let both : (is_small_program e ≡ true) × (list_all is_small_program es ≡ true) = grind (arith, nat_tests) in
    rw (append_assoc (program_line k e) (numbered program_line (suc k) es) rest)
    (first-some (line + k) (programs_at m line (suc k)) _ e _ (here.complete e (numbered program_line (suc k) es ++ rest) both.0)
    ∙ (rw (programs-complete m line (suc k) es rest (omega arith) (omega arith) both.1 ends) refl))

pub record ProgramsRead (m k : ℕ) (xs : List ℕ) (es : List ProgramEntry) (rest : List ℕ) : Type 0 where
  pub few : length es ≤ m
  pub small : list_all is_small_program es ≡ true
  pub text : xs ≡ numbered program_line k es ++ rest

pub programs-sound : (m line k : ℕ) (xs : List ℕ) (es : List ProgramEntry) (rest : List ℕ) → k + m ≤ 256 → programs_at m line k xs ≡ Ok (es, rest) →
    ProgramsRead m k xs es rest
unfolding programs_at
programs-sound zero line k xs es rest few e =
    let same : ([], xs) ≡ (es, rest) = ok_same _ _ e in
    subst (λ t. ProgramsRead zero k xs t.0 t.1) same (record { few = omega arith; small = refl; text = refl })
programs-sound (suc m) line k xs es rest few e = elim (cases_Bool (begins_with 112 xs)) [
  | inl begins ↦ (let f = first-read (line + k) (programs_at m line (suc k)) (program_at k xs) es rest (rw begins at e) in
      let here = (program-exact k (omega arith)).sound xs f.first f.following f.is_first in
      let more = programs-sound m line (suc k) f.following f.others rest (omega arith) f.is_next in
      let fine : list_all is_small_program (f.first ∷ f.others) ≡ true = rw (here.0, more.small) refl in
      subst (λ t. ProgramsRead (suc m) k xs t rest) (sym f.are) (record {
        few = omega (arith, more.few);
        small = fine;
        text = here.1 ∙ ap (λ t. program_line k f.first ++ t) more.text
            ∙ sym (append_assoc (program_line k f.first) (numbered program_line (suc k) f.others) rest);
      }))
  | inr other ↦ (let same : ([], xs) ≡ (es, rest) = ok_same _ _ (rw other at e) in
      subst (λ t. ProgramsRead (suc m) k xs t.0 t.1) same (record { few = omega arith; small = refl; text = refl }))
]
