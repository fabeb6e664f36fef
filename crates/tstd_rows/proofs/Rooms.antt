-- When the elementary stream buffer of video has room: the kept times say when each byte goes.
use Rattle.std.proofs.Common.{◌≡◌, ◌∙◌, sym, ℕ, zero, suc, ◌+◌, ◌-◌, ◌<◌, ◌≤◌, ◌^◌, max, min, List, [], ◌∷◌, ◌++◌, length, replicate, take, drop, append_assoc}
use Rattle.std.proofs.Common.{refl, ap, ap₂, arith}
use Rattle.std.proofs.lemmas.List.{append-nil, length-append, length-replicate, length-drop, drop-append-le, drop-drop}
use Rattle.clock27.specs.Departure.{departures, last_left}
use Rattle.clock27.proofs.Departures.{length-departures, last_left-append}
use Rattle.unit_timing.specs.LeakMethod.{rooms_of}
use Rattle.tstd_rows.specs.History.{Part, last_of, left_after, payload_left, until_of}
use Rattle.tstd_rows.specs.History.Part.{Passes, Carries, Begins}
use Rattle.tstd_rows.specs.VideoViewed.{last_leaked, last_transfer, last_transferred, removed_of}
use Rattle.tstd_rows.specs.RoomTimes.{capped, raised}
use Rattle.tstd_rows.specs.Rooms.{AreRooms, rooms_next, rooms_now}
use Rattle.tstd_rows.specs.declared.eb_rooms.EbRooms.{EbRooms}
use Rattle.tstd_rows.specs.declared.unit_seen.DueTime.{DueTime}

-- 1. Times that are raised

head_of : (x y : ℕ) (xs ys : List ℕ) → x ∷ xs ≡ y ∷ ys → x ≡ y
head_of x y xs ys h = cc

tail_of : (x y : ℕ) (xs ys : List ℕ) → x ∷ xs ≡ y ∷ ys → xs ≡ ys
tail_of x y xs ys h = cc

-- The rests of two lists are raised alike, if the lists are.
rest_of : (a x y : ℕ) (xs ys : List ℕ) → max a x ∷ raised (max a x) xs ≡ max a y ∷ raised (max a y) ys → raised (max a x) xs ≡ raised (max a x) ys
rest_of a x y xs ys h =
    tail_of (max a x) (max a y) (raised (max a x) xs) (raised (max a y) ys) h
    ∙ ap (λ (m : ℕ). raised m ys) (sym (head_of (max a x) (max a y) (raised (max a x) xs) (raised (max a y) ys) h))

-- Lists that are equal once raised to a moment are equal once raised to any later moment.
pub raised_up : (a b : ℕ) (xs ys : List ℕ) → a ≤ b → raised a xs ≡ raised a ys → raised b xs ≡ raised b ys
unfolding raised
raised_up a b [] [] le h = refl
raised_up a b [] (y ∷ ys) le h = absurd cc
raised_up a b (x ∷ xs) [] le h = absurd cc
raised_up a b (x ∷ xs) (y ∷ ys) le h =
    let same = head_of (max a x) (max a y) (raised (max a x) xs) (raised (max a y) ys) h in
    let first : max b x ≡ max b y = omega (arith, le, same) in
    let up : max a x ≤ max b x = omega (arith, le) in
    ap₂ (λ (m : ℕ) (l : List ℕ). m ∷ l) first (raised_up (max a x) (max b x) xs ys up (rest_of a x y xs ys h) ∙ ap (λ (m : ℕ). raised m ys) first)

-- Lists that are equal once raised remain equal if the same times are appended to both.
pub raised_more : (a : ℕ) (xs ys zs : List ℕ) → raised a xs ≡ raised a ys → raised a (xs ++ zs) ≡ raised a (ys ++ zs)
unfolding raised
raised_more a [] [] zs h = refl
raised_more a [] (y ∷ ys) zs h = absurd cc
raised_more a (x ∷ xs) [] zs h = absurd cc
raised_more a (x ∷ xs) (y ∷ ys) zs h =
    let same = head_of (max a x) (max a y) (raised (max a x) xs) (raised (max a y) ys) h in
    ap₂ (λ (m : ℕ) (l : List ℕ). m ∷ l) same (raised_more (max a x) xs ys zs (rest_of a x y xs ys h) ∙ ap (λ (m : ℕ). raised m (ys ++ zs)) same)

-- Lists that are equal once raised remain equal if the same times are put before both.
pub raised_after : (from : ℕ) (xs ys zs : List ℕ) → ((a : ℕ) → from ≤ a → raised a xs ≡ raised a ys) → raised from (zs ++ xs) ≡ raised from (zs ++ ys)
unfolding raised
raised_after from xs ys [] h = h from (omega arith)
raised_after from xs ys (z ∷ zs) h = ap (λ (l : List ℕ). max from z ∷ l) (raised_after (max from z) xs ys zs (λ a le. h a (omega (arith, le))))

-- Times that are past make no difference.
pub raised_past : (a now until n : ℕ) (xs : List ℕ) → now ≤ a → until ≤ now → raised a (replicate n 0 ++ xs) ≡ raised a (replicate n until ++ xs)
unfolding raised
raised_past a now until zero xs le past = refl
raised_past a now until (suc n) xs le past =
    let first : max a 0 ≡ max a until = omega (arith, le, past) in
    let stays : max a 0 ≡ a = omega arith in
    ap₂ (λ (m : ℕ) (l : List ℕ). m ∷ l) first
    (ap (λ (m : ℕ). raised m (replicate n 0 ++ xs)) stays ∙ raised_past a now until n xs le past
    ∙ ap (λ (m : ℕ). raised m (replicate n until ++ xs)) (sym stays ∙ first))

-- A time that is no later than a time before it makes no difference.
raised_low : (a until low n : ℕ) (xs : List ℕ) → until ≤ a → low ≤ until → raised a (replicate n until ++ xs) ≡ raised a (replicate n low ++ xs)
unfolding raised
raised_low a until low zero xs le lower = refl
raised_low a until low (suc n) xs le lower =
    let first : max a until ≡ max a low = omega (arith, le, lower) in
    let stays : max a until ≡ a = omega (arith, le) in
    ap₂ (λ (m : ℕ) (l : List ℕ). m ∷ l) first
    (ap (λ (m : ℕ). raised m (replicate n until ++ xs)) stays ∙ raised_low a until low n xs le lower
    ∙ ap (λ (m : ℕ). raised m (replicate n low ++ xs)) (sym stays ∙ first))

pub raised_joined : (a until low m n : ℕ) (xs : List ℕ) → low ≤ until → 0 < m →
    raised a (replicate m until ++ (replicate n until ++ xs)) ≡ raised a (replicate m until ++ (replicate n low ++ xs))
unfolding raised
raised_joined a until low zero n xs lower some = absurd (omega (arith, some))
raised_joined a until low (suc m) n xs lower some =
    ap (λ (l : List ℕ). max a until ∷ l)
    (raised_after_if m until (max a until) (omega arith) (replicate n until ++ xs) (replicate n low ++ xs) (λ b le. raised_low b until low n xs le lower))
  where
    raised_after_if : (m until a : ℕ) → until ≤ a → (xs ys : List ℕ) → ((b : ℕ) → until ≤ b → raised b xs ≡ raised b ys) →
        raised a (replicate m until ++ xs) ≡ raised a (replicate m until ++ ys)
    raised_after_if zero until a le xs ys h = h a le
    raised_after_if (suc m) until a le xs ys h = ap (λ (l : List ℕ). max a until ∷ l) (raised_after_if m until (max a until) (omega arith) xs ys h)

-- 2. When bytes go

-- Lists of rooms that are equal once raised give equal times.
transfer_same : (leak from : ℕ) (ts xs ys : List ℕ) → raised from xs ≡ raised from ys → last_transfer leak from ts xs ≡ last_transfer leak from ts ys
unfolding raised last_transfer
transfer_same leak from [] xs ys h = refl
transfer_same leak from (t ∷ ts) [] [] h = refl
transfer_same leak from (t ∷ ts) [] (y ∷ ys) h = absurd cc
transfer_same leak from (t ∷ ts) (x ∷ xs) [] h = absurd cc
transfer_same leak from (t ∷ ts) (x ∷ xs) (y ∷ ys) h =
    let same = head_of (max from x) (max from y) (raised (max from x) xs) (raised (max from y) ys) h in
    let next : max (max t x) from + leak ≡ max (max t y) from + leak = omega (arith, same) in
    let up : max from x ≤ max (max t x) from + leak = omega arith in
    transfer_same leak (max (max t x) from + leak) ts xs ys (raised_up (max from x) (max (max t x) from + leak) xs ys up (rest_of from x y xs ys h))
    ∙ ap (λ (p : ℕ). last_transfer leak p ts ys) next

-- The rooms of the next bytes are equal once raised too.
transfer_next : (leak from : ℕ) (ts xs ys : List ℕ) → raised from xs ≡ raised from ys →
    raised (last_transfer leak from ts xs) (drop (length ts) xs) ≡ raised (last_transfer leak from ts xs) (drop (length ts) ys)
unfolding raised last_transfer
transfer_next leak from [] xs ys h = h
transfer_next leak from (t ∷ ts) [] [] h = refl
transfer_next leak from (t ∷ ts) [] (y ∷ ys) h = absurd cc
transfer_next leak from (t ∷ ts) (x ∷ xs) [] h = absurd cc
transfer_next leak from (t ∷ ts) (x ∷ xs) (y ∷ ys) h =
    let up : max from x ≤ max (max t x) from + leak = omega arith in
    transfer_next leak (max (max t x) from + leak) ts xs ys (raised_up (max from x) (max (max t x) from + leak) xs ys up (rest_of from x y xs ys h))

-- The later of two departures is the departure of a byte that waits for both queues.
both_later : (leak p q t x : ℕ) → max (max t p + leak) (max x q + leak) ≡ max (max t x) (max p q) + leak
both_later leak p q t x = omega arith

pub last_both : (leak p q : ℕ) (ts xs : List ℕ) → length ts ≤ length xs →
    max (last_left leak p ts) (last_left leak q (take (length ts) xs)) ≡ last_transfer leak (max p q) ts xs
unfolding last_left last_transfer
last_both leak p q [] xs few = refl
last_both leak p q (t ∷ ts) [] few = absurd (omega (arith, few))
last_both leak p q (t ∷ ts) (x ∷ xs) few =
    last_both leak (max t p + leak) (max x q + leak) ts xs (omega (arith, few)) ∙ ap (λ (m : ℕ). last_transfer leak m ts xs) (both_later leak p q t x)

-- If two times are equal once limited to `cap`, the next departures are equal once limited.
stopped : (leak cap p q t x : ℕ) → min p cap ≡ min q cap → min (max (max t x) p + leak) cap ≡ min (max (max t x) q + leak) cap
stopped leak cap p q t x h = omega (arith, h)

transfer_stopped : (leak cap p q : ℕ) (ts xs : List ℕ) → min p cap ≡ min q cap → min (last_transfer leak p ts xs) cap ≡ min (last_transfer leak q ts xs) cap
unfolding last_transfer
transfer_stopped leak cap p q [] xs h = h
transfer_stopped leak cap p q (t ∷ ts) [] h = h
transfer_stopped leak cap p q (t ∷ ts) (x ∷ xs) h =
    transfer_stopped leak cap (max (max t x) p + leak) (max (max t x) q + leak) ts xs (stopped leak cap p q t x h)

-- The bytes of two lists go in turn.
transfer_append : (leak from : ℕ) (ts us xs : List ℕ) → length ts ≤ length xs →
    last_transfer leak from (ts ++ us) xs ≡ last_transfer leak (last_transfer leak from ts xs) us (drop (length ts) xs)
unfolding last_transfer
transfer_append leak from [] us xs few = refl
transfer_append leak from (t ∷ ts) us [] few = absurd (omega (arith, few))
transfer_append leak from (t ∷ ts) us (x ∷ xs) few = transfer_append leak (max (max t x) from + leak) ts us xs (omega (arith, few))

transfer_longer : (leak from : ℕ) (ts xs ys : List ℕ) → length ts ≤ length xs → last_transfer leak from ts (xs ++ ys) ≡ last_transfer leak from ts xs
unfolding last_transfer
transfer_longer leak from [] xs ys few = refl
transfer_longer leak from (t ∷ ts) [] ys few = absurd (omega (arith, few))
transfer_longer leak from (t ∷ ts) (x ∷ xs) ys few = transfer_longer leak (max (max t x) from + leak) ts xs ys (omega (arith, few))

-- 3. The parts of a stream

-- Each payload byte has a time at which it is removed.
pub as_many : (rate : ℕ) (parts : List Part) → length (removed_of parts) ≡ length (payload_left rate parts)
unfolding removed_of payload_left
as_many rate [] = refl
as_many rate (Passes ts ∷ before) = as_many rate before
as_many rate (Carries ts ∷ before) =
    length-append (removed_of before) (replicate (length ts) (until_of before))
    ∙ ap₂ (λ (m n : ℕ). m + n) (as_many rate before) (length-replicate (length ts) (until_of before) ∙ sym (length-departures rate (last_of rate before) ts))
    ∙ sym (length-append (payload_left rate before) (left_after rate before ts))
as_many rate (Begins due ∷ before) = as_many rate before

enough : (rate size : ℕ) (parts : List Part) → length (payload_left rate parts) ≤ length (rooms_of size (removed_of parts))
enough rate size parts = omega (arith, length-append (replicate size 0) (removed_of parts), as_many rate parts)

-- Once payload bytes have arrived, the rooms of the next bytes begin after the rooms of these bytes.
pub carried_next : (rate size : ℕ) (parts : List Part) (times : List ℕ) →
    rooms_next rate size (Carries times ∷ parts) ≡ drop (length (left_after rate parts times))
    (rooms_next rate size parts ++ replicate (length times) (until_of parts))
unfolding removed_of payload_left
carried_next rate size parts times =
    let paid = payload_left rate parts in
    let these = left_after rate parts times in
    let removed = removed_of parts in
    let more : List ℕ = replicate (length times) (until_of parts) in
    let rooms = rooms_of size removed in
    let all : replicate size 0 ++ (removed ++ more) ≡ rooms ++ more = sym (append_assoc (replicate size 0) removed more) in
    let len : length (paid ++ these) ≡ length paid + length these = length-append paid these in
    ap₂ (λ (n : ℕ) (l : List ℕ). drop n l) len all
    ∙ sym (drop-drop (length these) (length paid) (rooms ++ more))
    ∙ ap (drop (length these)) (drop-append-le (length paid) rooms more (enough rate size parts))

pub carried_last : (rate leak size : ℕ) (parts : List Part) (times : List ℕ) →
    last_transferred rate leak size (Carries times ∷ parts)
    ≡ last_transfer leak (last_transferred rate leak size parts) (left_after rate parts times)
    (rooms_next rate size parts ++ replicate (length times) (until_of parts))
unfolding removed_of payload_left
carried_last rate leak size parts times =
    let paid = payload_left rate parts in
    let these = left_after rate parts times in
    let removed = removed_of parts in
    let more : List ℕ = replicate (length times) (until_of parts) in
    let rooms = rooms_of size removed in
    let all : replicate size 0 ++ (removed ++ more) ≡ rooms ++ more = sym (append_assoc (replicate size 0) removed more) in
    let few : length paid ≤ length (rooms ++ more) = omega (arith, enough rate size parts, length-append rooms more) in
    ap (last_transfer leak 0 (paid ++ these)) all
    ∙ transfer_append leak 0 paid these (rooms ++ more) few
    ∙ ap₂ (λ (p : ℕ) (l : List ℕ). last_transfer leak p these l) (transfer_longer leak 0 paid rooms more (enough rate size parts))
    (drop-append-le (length paid) rooms more (enough rate size parts))

-- With an EB that is never full, bytes leave MB no later.
pub alone_first : (rate leak size : ℕ) (parts : List Part) → last_leaked rate leak parts ≤ last_transferred rate leak size parts
alone_first rate leak size parts = omega (arith, last_both leak 0 0 (payload_left rate parts) (rooms_of size (removed_of parts)) (enough rate size parts))

carried_alone : (rate leak : ℕ) (parts : List Part) (times : List ℕ) →
    last_leaked rate leak (Carries times ∷ parts) ≡ last_left leak (last_leaked rate leak parts) (left_after rate parts times)
unfolding payload_left
carried_alone rate leak parts times = last_left-append leak 0 (payload_left rate parts) (left_after rate parts times)

-- 4. The kept times after bytes have arrived

later_stopped : (cap a p q : ℕ) → q ≡ min p cap → min (max a q) cap ≡ min (max a p) cap
later_stopped cap a p q is = omega (arith, is)

pub rooms_carried : (old settled new : EbRooms) (rate leak size n : ℕ) (parts : List Part) (times : List ℕ) → AreRooms old rate leak size parts →
    n ≡ length times →
    ((from : ℕ) → last_leaked rate leak parts ≤ from → raised from (rooms_now settled) ≡ raised from (rooms_now old)) →
    length (rooms_now settled) ≡ length (rooms_now old) →
    settled.last ≡ old.last → settled.current.until ≡ old.current.until →
    rooms_now new ≡ drop n (rooms_now settled ++ replicate n settled.current.until) →
    new.last ≡ capped (last_left leak settled.last (take n (rooms_now settled ++ replicate n settled.current.until))) →
    new.current.until ≡ settled.current.until →
    AreRooms new rate leak size (Carries times ∷ parts)
unfolding until_of
rooms_carried old settled new rate leak size n parts times k many rooms len last until next goes stays =
    let these = left_after rate parts times in
    let alone = last_leaked rate leak parts in
    let so_far = last_transferred rate leak size parts in
    let mine : List ℕ = rooms_now settled ++ replicate n settled.current.until in
    let true_ones : List ℕ = rooms_next rate size parts ++ replicate (length times) (until_of parts) in
    let count : n ≡ length these = many ∙ sym (length-departures rate (last_of rate parts) times) in
    let ends : settled.current.until ≡ until_of parts = until ∙ k.until in
    let same : raised so_far (rooms_now settled) ≡ raised so_far (rooms_next rate size parts) = rooms so_far (alone_first rate leak size parts) ∙ k.next in
    let alike : raised so_far mine ≡ raised so_far true_ones =
    ap₂ (λ (m u : ℕ). raised so_far (rooms_now settled ++ replicate m u)) many ends
    ∙ raised_more so_far (rooms_now settled) (rooms_next rate size parts) (replicate (length times) (until_of parts)) same in
    let long : length mine ≡ length (rooms_now settled) + n = length-append (rooms_now settled) (replicate n settled.current.until)
    ∙ ap (λ (m : ℕ). length (rooms_now settled) + m) (length-replicate n settled.current.until) in
    let few : length these ≤ length mine = omega (arith, long, count) in
    let all : last_transferred rate leak size (Carries times ∷ parts) ≡ last_transfer leak so_far these mine =
    carried_last rate leak size parts times ∙ sym (transfer_same leak so_far these mine true_ones alike) in
    record {
      last =
          ap (λ (a : ℕ). capped (max a new.last)) (carried_alone rate leak parts times)
          ∙ later_stopped (2 ^ 128 - 1) (last_left leak alone these) (last_left leak old.last (take (length these) mine)) new.last
          (goes ∙ ap₂ (λ (q m : ℕ). capped (last_left leak q (take m mine))) last count)
          ∙ ap (λ (m : ℕ). capped m) (last_both leak alone old.last these mine few)
          ∙ transfer_stopped leak (2 ^ 128 - 1) (max alone old.last) so_far these mine k.last
          ∙ ap (λ (m : ℕ). capped m) (sym all);
      next =
          ap₂ (λ (m : ℕ) (l : List ℕ). raised m l) all (next ∙ ap (λ (m : ℕ). drop m mine) count)
          ∙ transfer_next leak so_far these mine true_ones alike
          ∙ ap₂ (λ (m : ℕ) (l : List ℕ). raised m l) (sym all) (sym (carried_next rate size parts times));
      many = ap length next ∙ length-drop n mine ∙ rest (length mine) (length (rooms_now settled)) n size long (len ∙ k.many);
      until = stays ∙ ends;
    }
  where
    rest : (l m n size : ℕ) → l ≡ m + n → m ≡ size → l - n ≡ size
    rest l m n size long is = omega (arith, long, is)

-- A unit that begins, and bytes that stop at the transport buffer, change no room.
pub rooms_begun : (old new : EbRooms) (rate leak size : ℕ) (parts : List Part) (due : DueTime) → AreRooms old rate leak size parts →
    ((from : ℕ) → raised from (rooms_now new) ≡ raised from (rooms_now old)) → length (rooms_now new) ≡ length (rooms_now old) → new.last ≡ old.last →
    new.current.until ≡ due.until →
    AreRooms new rate leak size (Begins due ∷ parts)
unfolding removed_of payload_left until_of
rooms_begun old new rate leak size parts due k rooms len last until = record {
  last = ap (λ (q : ℕ). capped (max (last_leaked rate leak parts) q)) last ∙ k.last;
  next = rooms (last_transferred rate leak size parts) ∙ k.next;
  many = len ∙ k.many;
  until = until;
}

pub rooms_passed : (rooms : EbRooms) (rate leak size : ℕ) (parts : List Part) (times : List ℕ) → AreRooms rooms rate leak size parts →
    AreRooms rooms rate leak size (Passes times ∷ parts)
unfolding removed_of payload_left until_of
rooms_passed rooms rate leak size parts times k = record { last = k.last; next = k.next; many = k.many; until = k.until }

-- Before any byte has arrived, the kept times are all 0.
pub rooms_empty : (rooms : EbRooms) (rate leak size : ℕ) → rooms_now rooms ≡ replicate size 0 → rooms.last ≡ 0 → rooms.current.until ≡ 0 →
    AreRooms rooms rate leak size []
unfolding removed_of payload_left until_of last_left last_transfer
rooms_empty rooms rate leak size all last until = record {
  last = ap (λ (q : ℕ). capped (max 0 q)) last;
  next = ap (raised 0) (all ∙ sym (append-nil (replicate size 0)));
  many = ap length all ∙ length-replicate size 0;
  until = until;
}
