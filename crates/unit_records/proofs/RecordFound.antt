-- The parts that are read, one after another, are the bytes of a record.
use Rattle.std.proofs.Common.{◌≡◌, ◌≤◌, ℕ, List, ◌++◌, length, drop, slice_index, sym, ap, ap₂, subst, ◌∙◌, arith, append_assoc, drop_at}
use Rattle.std.proofs.lemmas.List.{length-append, drop-drop}
use Rattle.byteorder.specs.Endian.{big_number}
use Rattle.pes_packet.specs.AccessUnits.{AccessUnit}
use Rattle.unit_records.specs.OpenRecords.{entry_of}
use Rattle.unit_records.specs.Records.{IsRecord, after_record, byte_at, bytes_in, marks_in, record_at, size_at}
use Rattle.unit_records.specs.RecordParts.{HoldsStamps, HoldsStart}
use Rattle.unit_records.proofs.RecordTaking.{byte_front, first_front, size_front, unit_same, whole_front}

entry_same : (s t : ℕ) (u v : AccessUnit) → s ≡ t → u ≡ v → ◌≡◌ {A = ℕ × AccessUnit} (s, u) (t, v)
entry_same s t u v a b = ap₂ (λ (n : ℕ) (x : AccessUnit). (n, x)) a b

-- The start, the stamps and the bytes behind them make a record.
pub found : (first second body : List ℕ) (start : ℕ × ℕ × ℕ) (stamps : ℕ × ℕ) → HoldsStart first start → HoldsStamps second stamps → length body ≡ start.2 →
    IsRecord ((first ++ second) ++ body)
    (start.0, record { dts = stamps.0; pts = stamps.1; marks = marks_in start.1 body; bytes = bytes_in start.1 body })
found first second body start stamps s t b =
    let head = first ++ second in
    let five : length first ≡ 5 = s.0 in
    let full : length head ≡ 21 = omega (arith, length-append first second, five, t.0) in
    let named : start.2 ≡ size_at first = ap (λ (x : ℕ × ℕ × ℕ). x.2) s.1 in
    let size : size_at head ≡ length body = size_front first second (omega (arith, five)) ∙ sym named ∙ sym b in
    let most : length body ≤ 4_000_000 = omega (arith, b, named, s.2) in
    let stream : slice_index head 0 ≡ start.0 = first_front first second (omega (arith, five)) ∙ sym (ap (λ (x : ℕ × ℕ × ℕ). x.0) s.1) in
    let byte : byte_at head ≡ start.1 = byte_front first second (omega (arith, five)) ∙ sym (ap (λ (x : ℕ × ℕ × ℕ). x.1) s.1) in
    let after : drop 5 head ≡ second = drop_at first second 5 five in
    let dts : big_number 8 (drop 5 head) ≡ stamps.0 = ap (big_number 8) after ∙ sym t.1 in
    let pts : big_number 8 (drop 13 head) ≡ stamps.1 = ap (big_number 8) (sym (drop-drop 8 5 head) ∙ ap (drop {A = ℕ} 8) after) ∙ sym t.2 in
    let unit = unit_same _ _ _ _ _ _ _ _ dts pts (ap (λ (n : ℕ). marks_in n body) byte) (ap (λ (n : ℕ). bytes_in n body) byte) in
    let same : entry_of head body ≡ (start.0, record { dts = stamps.0; pts = stamps.1; marks = marks_in start.1 body; bytes = bytes_in start.1 body }) =
    entry_same _ _ _ _ stream unit in
    subst (λ (entry : ℕ × AccessUnit). IsRecord (head ++ body) entry) same (record {
      record_is = λ later. ap record_at (append_assoc head body later) ∙ (whole_front head body later full size most).0;
      rest_is = λ later. ap (λ (xs : List ℕ). after_record xs) (append_assoc head body later) ∙ (whole_front head body later full size most).1;
    })
