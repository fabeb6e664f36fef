-- A stream that is being read: whether it is refused, and how much of it is read.
use Rattle.std.proofs.Common.{◌≡◌, ◌≤◌, ◌<◌, ◌==◌, ◌&&◌, ◌⊎◌, Bool, true, false, not, nat_le, List, [], ◌∷◌, ◌++◌, ℕ, ◌+◌, length, take, drop, min, refl, sym, ap, ap₂}
use Rattle.std.proofs.Common.{subst, ◌∙◌, append_assoc, append-nil, length-append, Option, Some, None, is_some, Result, Ok, Err, inl, inr}
use Rattle.std.proofs.Common.{arith, eq-eqb, eqb-true, leb-false, leb-true, ◌||◌, if◌then◌else◌, ◌-◌}
use Rattle.std.proofs.lemmas.List.{drop_all, length-take-le, take-append-drop, take-append-le}
use Rattle.std.specs.Io.KnownBytes.{Consumes}
use Rattle.counted_io.specs.Device.{Failed, IsFront}
use Rattle.devices.specs.Devices.{Port, between}
use Rattle.devices.specs.WholeInput as rooms
use Rattle.devices.specs.WholeInput.{IsLong, IsShort, IsWhole, ReadsInput, TakesAll, TakesInput, longest_input}
use Rattle.devices.specs.declared.halt.Halt.{Halt}
use Rattle.devices.specs.declared.halt.Halt.TheVariants.{Read, Write, Memory}
use Rattle.devices.proofs.TakenInput.{front_end, front_none}
use Rattle.packet_sync.specs.PacketSearch.{IsSearched, SearchView}
use Rattle.packet_sync.specs.FileForms.{is_known}
use Rattle.packet_sync.specs.FrontForms.{form_in, form_of}
use Rattle.packet_sync.specs.NoStreams.{has_five, lacks_five, no_stream, no_stream_by, searched}
use Rattle.packet_sync.specs.OtherPackets.{front_of as bytes_before, other_packets}
use Rattle.packet_sync.specs.PacketBytes.{AreInner, AreNext, inner_in, packet_bytes, packets_in}
use Rattle.packet_sync.specs.Slips.{are_apart, is_sync}
use Rattle.packet_sync.specs.declared.packet_sizes.OtherPackets.{OtherPackets}
use Rattle.packet_sync.specs.declared.file_form.FileForm.{FileForm}
use Rattle.packet_sync.proofs.FrontBytes.{other_front}
use Rattle.job_run.specs.Streams.{CarriedView, HasFront, HasPackets, InnerView, IsCarriedTo, IsInner, IsRead, ReadingView, ReadsStream, TakesFront, TakesPackets}
use Rattle.job_run.specs.Streams.{ReadsFront, whole_stream}

-- 1. More bytes

-- of a stream that is refused
pub still_refused : (bytes piece : List ℕ) (search : SearchView) (r : ReadingView) → r.refused ≡ true → IsSearched (bytes ++ piece) search → IsRead bytes r →
    IsRead (bytes ++ piece) (record { search = search; refused = r.refused; stream = r.stream })
still_refused bytes piece search r is_so s so = record {
  searched = s;
  settled = λ e more. subst (λ (x : List ℕ). is_some (no_stream x) ≡ true) (sym (append_assoc bytes piece more)) (so.settled is_so (piece ++ more));
  so_far = λ e. absurd (let both : true ≡ false = sym is_so ∙ e in cc);
}

-- that are known to be no stream
pub refused_now : (bytes : List ℕ) (search : SearchView) (stream : InnerView) → IsSearched bytes search →
    ((more : List ℕ) → is_some (no_stream (bytes ++ more)) ≡ true) → IsRead bytes (record { search = search; refused = true; stream = stream })
refused_now bytes search stream s no_packets = record {
  searched = s;
  settled = λ e more. no_packets more;
  so_far = λ e. absurd cc;
}

-- that are carried
pub read_on : (bytes : List ℕ) (search : SearchView) (refused : Bool) (stream : InnerView) → refused ≡ false → IsSearched bytes search →
    IsInner bytes stream → IsRead bytes (record { search = search; refused = refused; stream = stream })
read_on bytes search refused stream off s so = record {
  searched = s;
  settled = λ is_so. absurd (let both : false ≡ true = sym off ∙ is_so in cc);
  so_far = λ e. so;
}

-- 2. A stream of packets of 188 bytes

unrefused_by : (bytes : List ℕ) (r : ReadingView) → IsRead bytes r → no_stream bytes ≡ None → (b : Bool) → r.refused ≡ b → r.refused ≡ false
unrefused_by bytes r so none false t = t
unrefused_by bytes r so none true t =
    let no_packets : is_some (no_stream bytes) ≡ true =
    subst (λ (x : List ℕ). is_some (no_stream x) ≡ true) (append-nil bytes) (so.settled t []) in
    absurd (let no : false ≡ true = sym (ap is_some none) ∙ no_packets in cc)

pub unrefused : (bytes : List ℕ) (r : ReadingView) → IsRead bytes r → no_stream bytes ≡ None → r.refused ≡ false
unrefused bytes r so none = unrefused_by bytes r so none r.refused refl

-- 3. More bytes after the first ones

any_more : (limit : ℕ) (bytes more : List ℕ) → limit ≤ length bytes →
    (nat_le limit (length (bytes ++ more)) && not (has_five (take limit (bytes ++ more)))) ≡ (nat_le limit (length bytes) && not (has_five (take limit bytes)))
any_more limit bytes more long =
    let longer : limit ≤ length (bytes ++ more) = omega (arith, long, length-append bytes more) in
    let some : nat_le limit (length bytes) ≡ true = search (arith, long) in
    let all : nat_le limit (length (bytes ++ more)) ≡ true = search (arith, longer) in
    ap₂ (λ (x y : Bool). x && y) (all ∙ sym some) (ap (λ (r : List ℕ). not (has_five r)) (take-append-le limit bytes more long))

-- The first 4 MiB determine whether bytes are no transport stream.
pub form_stays : (front more : List ℕ) → length front ≡ searched → no_stream (front ++ more) ≡ no_stream front
form_stays front more size =
    let same : take 4194304 (front ++ more) ≡ take 4194304 front = take-append-le 4194304 front more (omega (arith, size)) in
    let form : form_of (front ++ more) ≡ form_of front = ap form_in (take-append-le 188 front more (omega (arith, size))) in
    ap₂
    (λ (o : Option OtherPackets) (lacks : Bool). no_stream_by o (lacks || is_known (form_of (front ++ more)) && not (has_five (take 4194304 (front ++ more))))
    (form_of (front ++ more)))
    (sym (other_front front more (omega (arith, size)))) (any_more 4194304 front more (omega (arith, size)))
    ∙ ap₂ (λ (f : FileForm) (r : List ℕ). no_stream_by (other_packets front) (lacks_five front || is_known f && not (has_five r)) f) form same

-- 4. The packets of more bytes, after none or after all that show their size

none_inner : (other : Option OtherPackets) → packet_bytes other [] ≡ []
unfolding packet_bytes inner_in
none_inner None = refl
none_inner (Some packets) = drop_all (bytes_before packets) [] (omega arith)

no_packets : other_packets [] ≡ None
unfolding other_packets are_apart is_sync
no_packets = refl

first_left : (more : List ℕ) (s : InnerView) → s.other ≡ None → s.held ≡ [] → (409 ≤ length {A = ℕ} []) ⊎ (more ≡ []) →
    packets_in more ≡ packet_bytes s.other (s.held ++ more)
unfolding packets_in
first_left more s other held (inl long) = absurd (let no : ⊥ = omega (arith, long) in no)
first_left more s other held (inr none) = ap₂ packet_bytes (ap other_packets none ∙ no_packets ∙ sym other) (ap (λ (h : List ℕ). h ++ more) (sym held))

pub none_yet : (bytes : List ℕ) (s : InnerView) → bytes ≡ [] → s.other ≡ None → s.held ≡ [] → IsCarriedTo [] false s.stream → IsInner bytes s
none_yet bytes s none other held so = subst (λ (b : List ℕ). IsInner b s) (sym none) (record {
  other_is = other ∙ sym no_packets;
  gone = [];
  so_far = so;
  none = λ e. held;
  left_is = λ more known. first_left more s other held known;
})

empty_parts : (xs ys : List ℕ) → xs ++ ys ≡ [] → (xs ≡ []) × (ys ≡ [])
empty_parts [] ys e = (refl, e)
empty_parts (x ∷ xs) ys e = absurd cc

-- Whatever bytes come
left_after : (stream rest : List ℕ) (s : InnerView) (so : IsInner stream s) → (stream ≡ []) ⊎ (409 ≤ length stream) →
    packets_in (stream ++ rest) ≡ so.gone ++ packet_bytes (other_packets (stream ++ rest)) (s.held ++ rest)
unfolding packets_in
left_after stream rest s so (inl none) =
    let p = empty_parts so.gone s.held (so.none none) in
    ap (λ (r : List ℕ). packet_bytes (other_packets (stream ++ rest)) (r ++ rest)) (none ∙ sym p.1)
    ∙ ap (λ (r : List ℕ). r ++ packet_bytes (other_packets (stream ++ rest)) (s.held ++ rest)) (sym p.0)
left_after stream rest s so (inr long) =
    so.left_is rest (inl long)
    ∙ ap (λ (o : Option OtherPackets). so.gone ++ packet_bytes o (s.held ++ rest)) (so.other_is ∙ other_front stream rest long)

same_other : (stream more : List ℕ) → (409 ≤ length stream) ⊎ (more ≡ []) → other_packets stream ≡ other_packets (stream ++ more)
same_other stream more (inl long) = other_front stream more long
same_other stream more (inr none) = ap other_packets (sym (append-nil stream) ∙ ap (λ (m : List ℕ). stream ++ m) (sym none))

-- No bytes, and no packets of them
none_after : (stream piece bytes : List ℕ) (other : Option OtherPackets) (used : ℕ) (s : InnerView) (next : CarriedView) (so : IsInner stream s)
    (t : TakesPackets other bytes false s.stream next used) → bytes ≡ s.held ++ piece → stream ++ piece ≡ [] → (so.gone ++ t.found) ++ drop used bytes ≡ []
none_after stream piece bytes other used s next so t whole e =
    let p = empty_parts stream piece e in
    let q = empty_parts so.gone s.held (so.none p.0) in
    let none : bytes ≡ [] = whole ∙ ap₂ (λ (x y : List ℕ). x ++ y) q.1 p.1 in
    let all : t.found ++ packet_bytes other (drop used bytes ++ []) ≡ [] =
    sym (t.is [] (λ e. absurd cc)) ∙ ap (λ (r : List ℕ). packet_bytes other (r ++ [])) none ∙ none_inner other in
    let left : drop used bytes ≡ [] = ap (drop used) none ∙ drop_all used [] (omega arith) in
    ap₂ (λ (x y : List ℕ). x ++ y) (ap₂ (λ (x y : List ℕ). x ++ y) q.0 (empty_parts t.found (packet_bytes other (drop used bytes ++ [])) all).0) left

pub taken_inner : (stream piece bytes : List ℕ) (other : Option OtherPackets) (used : ℕ) (s new : InnerView) → bytes ≡ s.held ++ piece →
    (stream ≡ []) ⊎ (409 ≤ length stream) → other ≡ other_packets (stream ++ piece) → TakesPackets other bytes false s.stream new.stream used →
    new.other ≡ other → new.held ≡ drop used bytes → IsInner stream s → IsInner (stream ++ piece) new
taken_inner stream piece bytes other used s new whole known is t so_other so_held so =
    let all : (more : List ℕ) → (stream ++ piece) ++ more ≡ stream ++ (piece ++ more) = λ more. append_assoc stream piece more in
    let rest : (more : List ℕ) → s.held ++ (piece ++ more) ≡ bytes ++ more =
    λ more. sym (append_assoc s.held piece more) ∙ ap (λ (r : List ℕ). r ++ more) (sym whole) in
    record {
      other_is = so_other ∙ is;
      gone = so.gone ++ t.found;
      so_far = t.taken so.gone so.so_far;
      none = λ e. ap (λ (r : List ℕ). (so.gone ++ t.found) ++ r) so_held ∙ none_after stream piece bytes other used s new.stream so t whole e;
      left_is = λ more enough.
          ap packets_in (all more) ∙ left_after stream (piece ++ more) s so known
          ∙ ap₂ (λ (o : Option OtherPackets) (r : List ℕ). so.gone ++ packet_bytes o r)
          (ap other_packets (sym (all more)) ∙ sym (same_other (stream ++ piece) more enough) ∙ sym is) (rest more)
          ∙ ap (λ (r : List ℕ). so.gone ++ r) (t.is more (λ e. absurd cc))
          ∙ sym (append_assoc so.gone t.found (packet_bytes other (drop used bytes ++ more)))
          ∙ ap₂ (λ (o : Option OtherPackets) (r : List ℕ). (so.gone ++ t.found) ++ packet_bytes o (r ++ more)) (sym so_other) (sym so_held);
    }

pub ended_inner : (bytes : List ℕ) (s : InnerView) (next : CarriedView) (used : ℕ) → TakesPackets s.other s.held true s.stream next used → used ≡ length s.held →
    IsInner bytes s → IsCarriedTo (packets_in bytes) false next
ended_inner bytes s next used t whole so =
    let past : drop used s.held ≡ [] = drop_all used s.held (omega (arith, whole)) in
    let all : packets_in bytes ≡ so.gone ++ t.found =
    ap packets_in (sym (append-nil bytes)) ∙ so.left_is [] (inr refl)
    ∙ ap (λ (r : List ℕ). so.gone ++ r)
    (t.is [] (λ e. refl) ∙ ap (λ (r : List ℕ). t.found ++ r) (ap (λ (r : List ℕ). packet_bytes s.other (r ++ [])) past ∙ none_inner s.other)
    ∙ append-nil t.found) in
    subst (λ (r : List ℕ). IsCarriedTo r false next) (sym all) (t.taken so.gone so.so_far)

pub plain_taken : (bytes : List ℕ) (other : Option OtherPackets) (ended : Bool) (old new : CarriedView) → other ≡ None →
    ((gone : List ℕ) → IsCarriedTo gone false old → IsCarriedTo (gone ++ bytes) false new) → TakesPackets other bytes ended old new (length bytes)
unfolding packet_bytes
plain_taken bytes other ended old new none taken = record {
  found = bytes;
  is = λ more last. subst (λ (o : Option OtherPackets). AreNext o bytes more bytes (length bytes)) (sym none)
      (ap (λ (r : List ℕ). bytes ++ (r ++ more)) (sym (drop_all (length bytes) bytes (omega arith))));
  taken = taken;
}

pub other_taken : (bytes packets : List ℕ) (other : Option OtherPackets) (size : OtherPackets) (ended : Bool) (old new : CarriedView) (used : ℕ) →
    other ≡ Some size → AreInner (Some size) bytes ended packets used →
    ((gone : List ℕ) → IsCarriedTo gone false old → IsCarriedTo (gone ++ packets) false new) → TakesPackets other bytes ended old new used
other_taken bytes packets other size ended old new used is are taken = record {
  found = packets;
  is = subst (λ (o : Option OtherPackets). AreInner o bytes ended packets used) (sym is) are;
  taken = taken;
}

-- 5. The first 4 MiB of an input

consumed : (old new : Option (List ℕ)) (piece : List ℕ) (n : ℕ) →
    ((xs : List ℕ) → old ≡ Some xs → (n ≡ min (length piece) (length xs)) × IsFront xs new piece n) → Consumes old new (take n piece)
consumed None new piece n known = tt
consumed (Some xs) new piece n known =
    let k = (known xs refl).1 in
    subst (λ (x : Option (List ℕ)). Consumes (Some xs) x (take n piece)) (sym k.rest)
    (sym (take-append-drop n xs) ∙ ap (λ (x : List ℕ). x ++ drop n xs) (sym k.front))

-- They were read.
front_of : (old new : Port) (piece : List ℕ) (n : ℕ) (r : ReadingView) → n ≡ searched → rooms.ReadsFront (between old new) piece n →
    IsRead (take n piece) r → HasFront (between old new) (take n piece) r
front_of old new piece n r size f is = record {
  size_is = length-take-le n piece f.fits ∙ size;
  read = consumed old.bytes new.bytes piece n f.known;
  clean = f.clean;
  is = is;
}

-- The input ended before.
short_of : (old new : Port) (piece : List ℕ) (n : ℕ) (r : ReadingView) → n < searched → length piece ≡ searched → rooms.ReadsFront (between old new) piece n →
    IsRead (take n piece) r → ReadsStream (between old new) (Ok r)
short_of old new piece n r few room f is =
    let size : length (take n piece) ≡ n = length-take-le n piece f.fits in
    let all = front_end (λ bytes. bytes ≡ []) (λ bytes. IsRead bytes r × HasPackets bytes) 1 old old new 0 n piece (Ok n)
    (front_none (λ bytes. bytes ≡ []) 1 old refl) f
    (λ bytes whole none. subst (λ (x : List ℕ). IsRead (x ++ take n piece) r × HasPackets (x ++ take n piece)) (sym none)
    (is, λ long. absurd (let no : ⊥ = omega (arith, long, size, few) in no)))
    (omega (arith, few, room)) (omega arith, omega (arith, few)) tt in
    inl (record { bytes = all.bytes; read = all.read; is = all.taken })

taken_by : (old new : Port) (piece : List ℕ) (n : ℕ) (r : ReadingView) (result : Bool) (w : Option FileForm) (b : Bool) → length piece ≡ searched →
    rooms.ReadsFront (between old new) piece n → IsRead (take n piece) r → no_stream (take n piece) ≡ w → (n == searched) ≡ b →
    result ≡ (not b || is_some w) → TakesFront (between old new) r (Ok result)
taken_by old new piece n r result w false room f is e at same =
    subst (λ (x : Bool). TakesFront (between old new) r (Ok x)) (sym same)
    (let fits : n ≤ length piece = f.fits in
    let other : n ≡ searched → ⊥ = λ x. let no : false ≡ true = sym at ∙ eq-eqb n searched x in absurd cc in
    short_of old new piece n r (omega (arith, fits, room, other)) room f is)
taken_by old new piece n r result None true room f is e at same =
    subst (λ (x : Bool). TakesFront (between old new) r (Ok x)) (sym same) (take n piece, (front_of old new piece n r (eqb-true n searched at) f is, e))
taken_by old new piece n r result (Some w) true room f is e at same =
    subst (λ (x : Bool). TakesFront (between old new) r (Ok x)) (sym same)
    (inr (record { front = take n piece; has = front_of old new piece n r (eqb-true n searched at) f is; form = ap is_some e }))

pub front_taken : (old new : Port) (piece : List ℕ) (n : ℕ) (r : ReadingView) (result : Bool) → length piece ≡ searched →
    rooms.ReadsFront (between old new) piece n → IsRead (take n piece) r → result ≡ (not (n == searched) || is_some (no_stream (take n piece))) →
    TakesFront (between old new) r (Ok result)
front_taken old new piece n r result room f is same =
    taken_by old new piece n r result (no_stream (take n piece)) (n == searched) room f is refl refl same

-- 6. The bytes after them

whole_of : (old mid : Option (List ℕ)) (front rest : List ℕ) → Consumes old mid front → IsWhole mid rest → IsWhole old (front ++ rest)
whole_of None mid front rest c w = tt
whole_of (Some xs) None front rest c w = absurd c
whole_of (Some xs) (Some ys) front rest c w = ap (λ (x : List ℕ). front ++ x) w ∙ sym c

short_all : (old mid : Option (List ℕ)) (front rest : List ℕ) → length (front ++ rest) ≤ longest_input → Consumes old mid front → IsWhole mid rest →
    IsShort old
short_all None mid front rest s c w = tt
short_all (Some xs) None front rest s c w = absurd c
short_all (Some xs) (Some ys) front rest s c w =
    subst (λ (x : List ℕ). length x ≤ longest_input) (whole_of (Some xs) (Some ys) front rest c w) s

ends_all : (old mid new : Option (List ℕ)) (front : List ℕ) → Consumes old mid front → ((ys : List ℕ) → mid ≡ Some ys → new ≡ Some []) → (xs : List ℕ) →
    old ≡ Some xs → new ≡ Some []
ends_all None mid new front c ends xs e = absurd cc
ends_all (Some xs) None new front c ends zs e = absurd c
ends_all (Some xs) (Some ys) new front c ends zs e = ends ys refl

long_all : (old mid : Option (List ℕ)) (front : List ℕ) → Consumes old mid front → IsLong mid → IsLong old
long_all None mid front c l = tt
long_all (Some xs) None front c l = absurd c
long_all (Some xs) (Some ys) front c l =
    let all : length xs ≡ length front + length ys = ap length c ∙ length-append front ys in omega (arith, all, l)

long_sum : (old mid : Option (List ℕ)) (front rest : List ℕ) → longest_input < length front + length rest → Consumes old mid front → IsWhole mid rest →
    IsLong old
long_sum None mid front rest l c w = tt
long_sum (Some xs) None front rest l c w = absurd c
long_sum (Some xs) (Some ys) front rest l c w =
    let all : length xs ≡ length front + length ys = ap length c ∙ length-append front ys in
    let same : length rest ≡ length ys = ap length w in
    omega (arith, all, same, l)

later_failed : (a b c : ℕ) → b ≡ a → Failed b c → Failed a c
later_failed a b c e f = subst (λ (n : ℕ). Failed n c) e f

-- The whole input was read, if it is not too long.
rest_taken : (old mid new : Port) (front : List ℕ) (s r : ReadingView) (size : ℕ) (b : Bool) → HasFront (between old mid) front s →
    no_stream front ≡ None → TakesAll (λ bytes. (before : List ℕ) → 409 ≤ length before → IsRead before s → IsRead (before ++ bytes) r) (between mid new) size →
    nat_le size (longest_input - searched) ≡ b → ReadsStream (between old new) (if b then Ok r else Err Read)
rest_taken old mid new front s r size true has none all within =
    let few : size ≤ longest_input - searched = leb-true size (longest_input - searched) within in
    let many : length (front ++ all.bytes) ≡ length front + length all.bytes = length-append front all.bytes in
    let whole : length (front ++ all.bytes) ≤ longest_input = omega (arith, many, has.size_is, all.size_is, few) in
    inl (record {
      bytes = front ++ all.bytes;
      read = (
        whole_of old.bytes mid.bytes front all.bytes has.read all.read.0,
        record {
          short = short_all old.bytes mid.bytes front all.bytes whole has.read all.read.0;
          ends = λ xs known. ends_all old.bytes mid.bytes new.bytes front has.read all.read.1.ends xs known;
          clean = all.read.1.clean ∙ has.clean;
        },
      );
      is = (all.taken front (omega (arith, has.size_is)) has.is, λ long. form_stays front all.bytes has.size_is ∙ none);
    })
rest_taken old mid new front s r size false has none all within =
    let many : longest_input - searched < size = leb-false size (longest_input - searched) within in
    inr (long_sum old.bytes mid.bytes front all.bytes (omega (arith, many, has.size_is, all.size_is)) has.read all.read.0)

rest_failed : (old mid new : Port) (front : List ℕ) (s : ReadingView) (halt : Halt) → HasFront (between old mid) front s →
    ReadsInput (between mid new) (Err halt) → ReadsStream (between old new) (Err halt)
rest_failed old mid new front s Read has (inl failed) = inl (later_failed old.failed mid.failed new.failed has.clean failed)
rest_failed old mid new front s Read has (inr long) = inr (long_all old.bytes mid.bytes front has.read long)
rest_failed old mid new front s Write has f = absurd f
rest_failed old mid new front s Memory has clean = clean ∙ has.clean

pub rest_read : (old mid new : Port) (s r : ReadingView) (read : Result ℕ Halt) → TakesFront (between old mid) s (Ok false) →
    TakesInput (λ bytes. (before : List ℕ) → 409 ≤ length before → IsRead before s → IsRead (before ++ bytes) r) (between mid new) read →
    ReadsStream (between old new) (whole_stream read r)
unfolding whole_stream
rest_read old mid new s r (Ok size) t all = rest_taken old mid new t.0 s r size (nat_le size (longest_input - searched)) t.1.0 t.1.1 all refl
rest_read old mid new s r (Err halt) t failed = rest_failed old mid new t.0 s halt t.1.0 failed
