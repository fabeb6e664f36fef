-- Sequences of values, and the entries of a loop that encode them
use Rattle.std.proofs.Common.{◌≡◌, ℕ, ◌<◌, suc, true, refl, List, [], ◌∷◌, ◌++◌, length, map, sym, ap, ap₂, ◌∙◌, subst, append-nil, arith, length-append}
use Rattle.std.specs.Prelude.{flat_map, is_some, Option, All, unwrap_or}
use Rattle.bit_fields.specs.Fields.{IsBytes}
use Rattle.bit_fields.proofs.ByteLists.{IsBytes-append_left, IsBytes-append_right}
use Rattle.psi_tables.specs.Loops.{EntryView, IsEntry, AreEntries, entry_bytes, loop_at, entries_in}
use Rattle.psi_tables.proofs.LoopParts.{loop_at-is, loop_at-read, whole_is, AreEntries-append}
use Rattle.std.proofs.lemmas.List.{map-append}
use Rattle.dvb_tables.specs.Sequences.{IsSequence}

-- A whole loop is split into entries.
pub whole_entries : (k : ℕ) (bytes : List ℕ) → is_some (loop_at k bytes) ≡ true → AreEntries k bytes (entries_in k bytes)
whole_entries k bytes h = loop_at-is k bytes (entries_in k bytes) (whole_is k bytes h)

-- If each entry is the bytes of its value, a list of entries is a sequence of values.
pub sequence_of : {A : Type 0} (k : ℕ) (Is : List ℕ → A → Type 0) (of : EntryView → A)
    → ((e : EntryView) → IsEntry k e → IsBytes (entry_bytes e) → Is (entry_bytes e) (of e))
    → (bytes : List ℕ) (es : List EntryView) → IsBytes bytes → AreEntries k bytes es → IsSequence Is bytes (map of es)
sequence_of k Is of each bytes [] fits h = h
sequence_of k Is of each bytes (e ∷ es) fits h =
    let all : IsBytes (entry_bytes e ++ h.0) = subst IsBytes h.1 fits in (
      entry_bytes e,
      h.0,
      h.1,
      each e h.2 (IsBytes-append_left (entry_bytes e) h.0 all),
      sequence_of k Is of each h.0 es (IsBytes-append_right (entry_bytes e) h.0 all) h.3,
    )

-- An entry that encodes a value
pub record Says {A : Type 0} (k : ℕ) (of : EntryView → A) (bytes : List ℕ) (x : A) : Type 0 where
  pub said : EntryView
  pub is : bytes ≡ entry_bytes said
  pub entry : IsEntry k said
  pub value : of said ≡ x

-- Entries that encode a list of values
pub record SaysAll {A : Type 0} (k : ℕ) (of : EntryView → A) (bytes : List ℕ) (xs : List A) : Type 0 where
  pub es : List EntryView
  pub entries : AreEntries k bytes es
  pub values : map of es ≡ xs

-- A sequence of values is encoded by entries.
pub entries_of : {A : Type 0} (k : ℕ) (Is : List ℕ → A → Type 0) (of : EntryView → A)
    → ((one : List ℕ) (x : A) → Is one x → IsBytes one → Says k of one x)
    → (bytes : List ℕ) (xs : List A) → IsBytes bytes → IsSequence Is bytes xs → SaysAll k of bytes xs
entries_of k Is of each bytes [] fits h = record { es = []; entries = h; values = refl }
entries_of k Is of each bytes (x ∷ xs) fits h =
    let all : IsBytes (h.0 ++ h.1) = subst IsBytes h.2 fits in
    let one = each h.0 x h.3 (IsBytes-append_left h.0 h.1 all) in
    let more = entries_of k Is of each h.1 xs (IsBytes-append_right h.0 h.1 all) h.4 in
    record {
      es = one.said ∷ more.es;
      entries = (h.1, h.2 ∙ ap (λ (t : List ℕ). t ++ h.1) one.is, one.entry, more.entries);
      values = ap₂ (λ y ys. y ∷ ys) one.value more.values;
    }

-- Writing the values of entries yields as many bytes as the entries have.
pub written_length : {A : Type 0} (k : ℕ) (of : EntryView → A) (encode : A → List ℕ)
    → ((e : EntryView) → IsEntry k e → length (encode (of e)) ≡ length (entry_bytes e))
    → (bytes : List ℕ) (es : List EntryView) → AreEntries k bytes es → length (flat_map encode (map of es)) ≡ length bytes
written_length k of encode each bytes [] h = rw h refl
written_length k of encode each bytes (e ∷ es) h =
    let one : length (encode (of e)) ≡ length (entry_bytes e) = each e h.2 in
    let more : length (flat_map encode (map of es)) ≡ length h.0 = written_length k of encode each h.0 es h.3 in
    let all : length bytes ≡ length (entry_bytes e ++ h.0) = ap (length {A = ℕ}) h.1 in
    omega (arith, one, more, all, length-append (encode (of e)) (flat_map encode (map of es)), length-append (entry_bytes e) h.0)

-- Writing the values of entries yields the bytes of the entries.
pub written_same : {A : Type 0} (k : ℕ) (of : EntryView → A) (encode : A → List ℕ)
    → ((e : EntryView) → IsEntry k e → IsBytes (entry_bytes e) → encode (of e) ≡ entry_bytes e)
    → (bytes : List ℕ) (es : List EntryView) → IsBytes bytes → AreEntries k bytes es → flat_map encode (map of es) ≡ bytes
written_same k of encode each bytes [] fits h = sym h
written_same k of encode each bytes (e ∷ es) fits h =
    let all : IsBytes (entry_bytes e ++ h.0) = subst IsBytes h.1 fits in
    let one : encode (of e) ≡ entry_bytes e = each e h.2 (IsBytes-append_left (entry_bytes e) h.0 all) in
    let more : flat_map encode (map of es) ≡ h.0 = written_same k of encode each h.0 es (IsBytes-append_right (entry_bytes e) h.0 all) h.3 in
    ap₂ (λ x y. x ++ y) one more ∙ sym h.1

pub all_head : {A : Type 0} (P : A → Type 0) (x : A) (xs : List A) → All P (x ∷ xs) → P x
all_head P x xs h = h 0 x (omega arith)

pub all_tail : {A : Type 0} (P : A → Type 0) (x : A) (xs : List A) → All P (x ∷ xs) → All P xs
all_tail P x xs h k d less = h (suc k) d (omega arith)

-- Values written one after another are a sequence.
pub written_sequence : {A : Type 0} (Is : List ℕ → A → Type 0) (encode : A → List ℕ) (Fits : A → Type 0)
    → ((x : A) → Fits x → Is (encode x) x) → (xs : List A) → All Fits xs → IsSequence Is (flat_map encode xs) xs
written_sequence Is encode Fits each [] h = refl
written_sequence Is encode Fits each (x ∷ xs) h =
    (encode x, flat_map encode xs, refl, each x (all_head Fits x xs h), written_sequence Is encode Fits each xs (all_tail Fits x xs h))

-- Values written one after another are encoded by entries.
pub written_entries : {A : Type 0} (k : ℕ) (of : EntryView → A) (encode : A → List ℕ) (Fits : A → Type 0)
    → ((x : A) → Fits x → Says k of (encode x) x) → (xs : List A) → All Fits xs → SaysAll k of (flat_map encode xs) xs
written_entries k of encode Fits each [] h = record { es = []; entries = refl; values = refl }
written_entries k of encode Fits each (x ∷ xs) h =
    let one = each x (all_head Fits x xs h) in
    let more = written_entries k of encode Fits each xs (all_tail Fits x xs h) in
    record {
      es = one.said ∷ more.es;
      entries = (flat_map encode xs, ap (λ (t : List ℕ). t ++ flat_map encode xs) one.is, one.entry, more.entries);
      values = ap₂ (λ y ys. y ∷ ys) one.value more.values;
    }

-- Entries one after another are a whole loop.
pub entries_whole : (k : ℕ) (bytes : List ℕ) (es : List EntryView) → 0 < k → AreEntries k bytes es → is_some (loop_at k bytes) ≡ true
entries_whole k bytes es some h = ap is_some (loop_at-read k bytes es some h)

-- Values that entries encode are read back.
pub values_read : {A : Type 0} (k : ℕ) (of : EntryView → A) (bytes : List ℕ) (xs : List A) → 0 < k → SaysAll k of bytes xs → map of (entries_in k bytes) ≡ xs
values_read k of bytes xs some h =
    ap (λ (o : Option (List EntryView)). map of (unwrap_or o [])) (loop_at-read k bytes h.es some h.entries) ∙ h.values

-- One more value after a loop
pub values_after : {A : Type 0} (k : ℕ) (of : EntryView → A) (bytes added : List ℕ) (es : List EntryView) (x : A) → AreEntries k bytes es → Says k of added x
    → SaysAll k of (bytes ++ added) (map of es ++ x ∷ [])
values_after k of bytes added es x before one =
    let last : AreEntries k added (one.said ∷ []) = ([], one.is ∙ sym (append-nil (entry_bytes one.said)), one.entry, refl) in
    record {
      es = es ++ one.said ∷ [];
      entries = AreEntries-append k bytes added es (one.said ∷ []) before last;
      values = map-append of es (one.said ∷ []) ∙ ap (λ y. map of es ++ y ∷ []) one.value;
    }
