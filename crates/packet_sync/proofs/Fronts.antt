-- The first bytes of an arriving stream, and what they show.
use Rattle.std.proofs.Common.{◌≡◌, ◌≤◌, ◌<◌, ◌==◌, ◌&&◌, ℕ, ◌+◌, ◌-◌, min, nat_lt, nat_le, not, ◌||◌, Bool, true, false, List, [], ◌++◌, length, length-append, length-take, take, drop, refl, sym}
use Rattle.std.proofs.Common.{ap, ap₂, subst, ◌∙◌, arith, append-nil, Option, Some, None, is_some}
use Rattle.std.proofs.Math.Seq.{take-append-add}
use Rattle.std.proofs.lemmas.Bool.{cases_eq, eq-eqb, ne_eqb}
use Rattle.std.proofs.lemmas.List.{length-take-le, take_all, take_min, take-append-drop, take-take, take-append-le}
use Rattle.packet_sync.specs.OtherPackets.{other_packets}
use Rattle.packet_sync.specs.PacketSearch.{FiveView, IsSearchOf, IsSearched, SearchView}
use Rattle.packet_sync.specs.FileForms.{is_known}
use Rattle.packet_sync.specs.FrontForms.{form_in, form_of}
use Rattle.packet_sync.specs.NoStreams.{five_within, has_five, lacks_five, no_stream, no_stream_by}
use Rattle.packet_sync.specs.declared.packet_sizes.OtherPackets.{OtherPackets}
use Rattle.packet_sync.specs.declared.file_form.FileForm.{FileForm}
use Rattle.packet_sync.proofs.FrontBytes.{other_front}

-- 1. The first bytes are kept

least_taken : (n m : ℕ) (xs : List ℕ) → n ≡ min m (length xs) → (b : Bool) → nat_lt m (length xs) ≡ b → take n xs ≡ take m xs
least_taken n m xs is true t = let less : m < length xs = search (arith, t) in ap (λ (k : ℕ). take k xs) (omega (arith, is, less))
least_taken n m xs is false t =
    let past : length xs ≤ m = search (arith, t) in
    take_all n xs (omega (arith, is, past)) ∙ sym (take_all m xs past)

front_by : (size : ℕ) (front stream piece : List ℕ) (n : ℕ) → front ≡ take size stream → n ≡ min (size - length front) (length piece) → (b : Bool) →
    nat_lt (length stream) size ≡ b →
    front ++ take n piece ≡ take size (stream ++ piece)
front_by size front stream piece n e is false t =
    let long : size ≤ length stream = search (arith, t) in
    let full : length front ≡ size = ap (length {A = ℕ}) e ∙ length-take-le size stream long in
    let none : n ≡ 0 = omega (arith, is, full) in
    ap (λ (k : ℕ). front ++ take k piece) none ∙ append-nil front ∙ e ∙ sym (take-append-le size stream piece long)
front_by size front stream piece n e is true t =
    let short : length stream < size = search (arith, t) in
    let few : length stream ≤ size = omega (arith, short) in
    let all : front ≡ stream = e ∙ take_all size stream few in
    let left : length stream + (size - length stream) ≡ size = omega (arith, short) in
    let least : n ≡ min (size - length stream) (length piece) = is ∙ ap (λ (r : List ℕ). min (size - length r) (length piece)) all in
    ap₂ (λ (r x : List ℕ). r ++ x) all (least_taken n (size - length stream) piece least (nat_lt (size - length stream) (length piece)) refl)
    ∙ sym (take-append-add stream piece (size - length stream)) ∙ ap (λ (k : ℕ). take k (stream ++ piece)) left

pub front_came : (front stream piece : List ℕ) (n : ℕ) → front ≡ take 409 stream → n ≡ min (409 - length front) (length piece) →
    front ++ take n piece ≡ take 409 (stream ++ piece)
front_came front stream piece n e is = front_by 409 front stream piece n e is (nat_lt (length stream) 409) refl

-- 2. The packet size that the first bytes show

known_by : (size : ℕ) (bytes front : List ℕ) (result : Option OtherPackets) → front ≡ take size bytes → result ≡ other_packets front →
    ((more : List ℕ) → size ≤ length front → result ≡ other_packets (front ++ more)) → (b : Bool) → nat_lt (length bytes) size ≡ b →
    result ≡ other_packets bytes
known_by size bytes front result f e known true t =
    let short : length bytes < size = search (arith, t) in
    let few : length bytes ≤ size = omega (arith, short) in
    e ∙ ap other_packets (f ∙ take_all size bytes few)
known_by size bytes front result f e known false t =
    let long : size ≤ length bytes = search (arith, t) in
    let full : length front ≡ size = ap (length {A = ℕ}) f ∙ length-take-le size bytes long in
    known (drop size bytes) (omega (arith, full)) ∙ ap (λ (x : List ℕ). other_packets (x ++ drop size bytes)) f ∙ ap other_packets (take-append-drop size bytes)

pub packets_known : (bytes front : List ℕ) (result : Option OtherPackets) → front ≡ take 409 bytes → result ≡ other_packets front →
    ((more : List ℕ) → 409 ≤ length front → result ≡ other_packets (front ++ more)) → result ≡ other_packets bytes
packets_known bytes front result f e known = known_by 409 bytes front result f e known (nat_lt (length bytes) 409) refl

-- 3. More bytes are searched

more_taken_by : (size : ℕ) (stream piece : List ℕ) (b : Bool) → nat_lt (length stream) size ≡ b →
    take size stream ++ take (size - length (take size stream)) piece ≡ take size (stream ++ piece)
more_taken_by size stream piece false t =
    let long : size ≤ length stream = search (arith, t) in
    let none : size - length (take size stream) ≡ 0 = omega (arith, length-take-le size stream long) in
    ap (λ (k : ℕ). take size stream ++ take k piece) none ∙ append-nil (take size stream) ∙ sym (take-append-le size stream piece long)
more_taken_by size stream piece true t =
    let short : length stream < size = search (arith, t) in
    let all : take size stream ≡ stream = take_all size stream (omega (arith, short)) in
    let left : length stream + (size - length stream) ≡ size = omega (arith, short) in
    ap (λ (r : List ℕ). r ++ take (size - length r) piece) all
    ∙ sym (take-append-add stream piece (size - length stream)) ∙ ap (λ (k : ℕ). take k (stream ++ piece)) left

more_taken : (size : ℕ) (stream piece : List ℕ) → take size stream ++ take (size - length (take size stream)) piece ≡ take size (stream ++ piece)
more_taken size stream piece = more_taken_by size stream piece (nat_lt (length stream) size) refl

search_as : (limit : ℕ) (bytes piece next : List ℕ) (old new : FiveView) → next ≡ take (limit - old.size) piece →
    IsSearchOf (take limit bytes) old →
    (IsSearchOf (take limit bytes) old → IsSearchOf (take limit bytes ++ next) new) →
    IsSearchOf (take limit (bytes ++ piece)) new
search_as limit bytes piece next old new is s step =
    let part : take limit bytes ++ next ≡ take limit (bytes ++ piece) =
    ap (λ (r : List ℕ). take limit bytes ++ r) (is ∙ ap (λ (k : ℕ). take (limit - k) piece) s.size_is) ∙ more_taken limit bytes piece in
    subst (λ (r : List ℕ). IsSearchOf r new) part (step s)

pub piece_searched : (bytes piece next : List ℕ) (old new : FiveView) → next ≡ take (4194304 - old.size) piece →
    ((part : List ℕ) → IsSearchOf part old → IsSearchOf (part ++ next) new) → IsSearchOf (take 4194304 bytes) old →
    IsSearchOf (take 4194304 (bytes ++ piece)) new
piece_searched bytes piece next old new is step s = search_as 4194304 bytes piece next old new is s (step (take 4194304 bytes))

-- 4. What is settled

full_by : (limit : ℕ) (bytes : List ℕ) (f : FiveView) → IsSearchOf (take limit bytes) f → (b : Bool) → nat_le limit (length bytes) ≡ b →
    ((f.size == limit) && not f.found) ≡ (nat_le limit (length bytes) && not (has_five (take limit bytes)))
full_by limit bytes f s true t =
    let long : limit ≤ length bytes = search (arith, t) in
    let full : f.size ≡ limit = omega (arith, s.size_is, length-take-le limit bytes long) in
    ap₂ (λ (x y : Bool). x && not y) (eq-eqb f.size limit full ∙ sym t) s.found_is
full_by limit bytes f s false t =
    let short : length bytes < limit = search (arith, t) in
    let few : f.size ≡ limit → ⊥ = λ e. omega (arith, e, s.size_is, length-take limit bytes, short) in
    ap₂ (λ (x y : Bool). x && not y) (ne_eqb f.size limit few ∙ sym t) s.found_is

pub lacks_is : (bytes : List ℕ) (f : FiveView) → IsSearchOf (take 4194304 bytes) f → ((f.size == 4194304) && not f.found) ≡ lacks_five bytes
lacks_is bytes f s = full_by 4194304 bytes f s (nat_le 4194304 (length bytes)) refl

pub full_lacks : (bytes : List ℕ) (f : FiveView) → (f.size == 4194304) ≡ true → IsSearchOf (take 4194304 bytes) f → not f.found ≡ lacks_five bytes
full_lacks bytes f full s = ap (λ (x : Bool). x && not f.found) (sym full) ∙ lacks_is bytes f s

part_by : (limit : ℕ) (f : FiveView) → (f.size ≡ limit → ⊥) → (f.size == limit) ≡ ((f.size == limit) && not f.found)
part_by limit f few = ne_eqb f.size limit few ∙ ap (λ (x : Bool). x && not f.found) (sym (ne_eqb f.size limit few))

pub part_lacks : (bytes : List ℕ) (f : FiveView) → (f.size ≡ 4194304 → ⊥) → IsSearchOf (take 4194304 bytes) f → (f.size == 4194304) ≡ lacks_five bytes
part_lacks bytes f few s = part_by 4194304 f few ∙ lacks_is bytes f s

-- With more bytes the searched bytes stay, if all of them came.
and_first : (x y : Bool) → (x && y) ≡ true → x ≡ true
and_first true y e = refl
and_first false y e = absurd cc

lacks_more_by : (limit : ℕ) (bytes more : List ℕ) → (nat_le limit (length bytes) && not (has_five (take limit bytes))) ≡ true →
    (nat_le limit (length (bytes ++ more)) && not (has_five (take limit (bytes ++ more)))) ≡ true
lacks_more_by limit bytes more lacks =
    let t = and_first (nat_le limit (length bytes)) (not (has_five (take limit bytes))) lacks in
    let long : limit ≤ length bytes = search (arith, t) in
    let longer : limit ≤ length (bytes ++ more) = omega (arith, long, length-append bytes more) in
    let full : nat_le limit (length (bytes ++ more)) ≡ true = search (arith, longer) in
    ap₂ (λ (x y : Bool). x && y) (full ∙ sym t) (ap (λ (r : List ℕ). not (has_five r)) (take-append-le limit bytes more long)) ∙ lacks

lacks_more : (bytes more : List ℕ) → lacks_five bytes ≡ true → lacks_five (bytes ++ more) ≡ true
lacks_more bytes more lacks = lacks_more_by 4194304 bytes more lacks

none_by : (o : Option OtherPackets) (lacks more : Bool) (form : FileForm) → o ≡ None → lacks ≡ true → is_some (no_stream_by o (lacks || more) form) ≡ true
unfolding no_stream_by
none_by None true more form e f = refl
none_by None false more form e f = absurd cc
none_by (Some packets) lacks more form e f = absurd cc

long_by : (limit : ℕ) (bytes : List ℕ) (x : Bool) → (nat_le limit (length bytes) && x) ≡ true → limit ≤ length bytes
long_by limit bytes x lacks = let t = and_first (nat_le limit (length bytes)) x lacks in search (arith, t)

pub settled : (bytes more : List ℕ) → None ≡ other_packets bytes → lacks_five bytes ≡ true → is_some (no_stream (bytes ++ more)) ≡ true
settled bytes more none lacks =
    let long : 4194304 ≤ length bytes = long_by 4194304 bytes (not (has_five (take 4194304 bytes))) lacks in
    let other : other_packets (bytes ++ more) ≡ None = sym (other_front bytes more (omega (arith, long))) ∙ sym none in
    none_by (other_packets (bytes ++ more)) (lacks_five (bytes ++ more)) (is_known (form_of (bytes ++ more)) && not (has_five (take 4194304 (bytes ++ more))))
    (form_of (bytes ++ more)) other (lacks_more bytes more lacks)

-- The form of the first 409 bytes is the form of all.
pub form_known : (bytes front : List ℕ) → front ≡ take 409 bytes → form_of front ≡ form_of bytes
form_known bytes front f = ap form_in (ap (take 188) f ∙ take-take 188 409 bytes (omega arith))

pub no_stream_is : (bytes : List ℕ) (o : Option OtherPackets) (lacks known five : Bool) (form : FileForm) (r : Option FileForm) → o ≡ other_packets bytes →
    lacks ≡ lacks_five bytes → form ≡ form_of bytes → known ≡ is_known form → five ≡ has_five (take 4194304 bytes) →
    r ≡ no_stream_by o (lacks || known && not five) form → r ≡ no_stream bytes
no_stream_is bytes o lacks known five form r e f g m h is =
    is ∙ ap (λ (x : Option OtherPackets). no_stream_by x (lacks || known && not five) form) e
    ∙ ap (λ (x : Bool). no_stream_by (other_packets bytes) (x || known && not five) form) f
    ∙ ap₂ (λ (x y : Bool). no_stream_by (other_packets bytes) (lacks_five bytes || x && not y) form) m h
    ∙ ap (λ (x : FileForm). no_stream_by (other_packets bytes) (lacks_five bytes || is_known x && not (has_five (take 4194304 bytes))) x) g

-- 5. Before the first byte

pub none_searched : (bytes : List ℕ) (f : FiveView) → bytes ≡ [] → f.size ≡ 0 → f.found ≡ false → f.tail ≡ [] → IsSearchOf bytes f
unfolding five_within
none_searched bytes f none size found tail =
    subst (λ (r : List ℕ). IsSearchOf r f) (sym none) (record { size_is = size; found_is = found; tail_is = λ e. tail })

pub none_came : (bytes : List ℕ) (s : SearchView) → bytes ≡ [] → s.front ≡ [] → ((part : List ℕ) → part ≡ [] → IsSearchOf part s.five) → IsSearched bytes s
none_came bytes s none front five = record {
  front_is = front ∙ sym (ap (take 409) none ∙ take_all {A = ℕ} 409 [] (omega arith));
  search_is = five (take 4194304 bytes) (ap (take 4194304) none ∙ take_all {A = ℕ} 4194304 [] (omega arith));
}
