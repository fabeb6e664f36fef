-- The bytes of a main buffer, each with the moment when it is gone
use Rattle.std.proofs.Common.{◌≡◌, ◌∙◌, sym, ℕ, zero, suc, ◌+◌, ◌≤◌, cond, List, [], ◌∷◌, ◌++◌, length, take}
use Rattle.std.proofs.Common.{drop, replicate, refl, ap, ap₂, arith, All}
use Rattle.std.specs.List.{sum}
use Rattle.std.proofs.lemmas.Bool.Decides.{nat_tests}
use Rattle.std.proofs.lemmas.List.{length-append, length-replicate, take_at, drop_at}
use Rattle.std.proofs.lemmas.List.Elements.{All-head, All-tail}
use Rattle.std.proofs.lemmas.List.Sums.{sum_by-cons}
use Rattle.clock27.proofs.Departures.{length-departures}
use Rattle.unit_timing.specs.AccessUnits.{FramedPacket, access_units_held, framed_fullness}
use Rattle.unit_timing.proofs.MainBufferBytes.{kept}
use Rattle.tstd.specs.Removal.{removal_time}
use Rattle.tstd_rows.specs.RowEntry.{entered, has_entered}
use Rattle.tstd_rows.specs.History.{Part, last_of, left_after, main_fullness, payload_left, until_of}
use Rattle.tstd_rows.specs.History.Part.{Passes, Carries, Begins}
use Rattle.laws_view.specs.FrameExcesses.{GoneBy, gone_cut, gone_seen, gone_units}
use Rattle.laws_view.proofs.KeptBytes.{entered_kept}

-- The number of bytes in the main buffer at x, if bytes leave the transport buffer at the times `left` and are gone at the times `us`
unfoldable pub bytes_held : ℕ → List ℕ → List ℕ → ℕ
bytes_held x [] left = 0
bytes_held x (u ∷ us) [] = 0
bytes_held x (u ∷ us) (d ∷ left) = cond (has_entered u x d) 1 0 + bytes_held x us left

-- Bytes in two parts

none_left : (x : ℕ) (us : List ℕ) → bytes_held x us [] ≡ 0
unfolding bytes_held
none_left x [] = refl
none_left x (u ∷ us) = refl

pub held_split : (x : ℕ) (us vs left : List ℕ) →
    bytes_held x (us ++ vs) left ≡ bytes_held x us (take (length us) left) + bytes_held x vs (drop (length us) left)
unfolding bytes_held
held_split x [] vs left = omega arith
held_split x (u ∷ us) vs [] = omega (arith, none_left x vs)
held_split x (u ∷ us) vs (d ∷ left) = omega (arith, held_split x us vs left)

pub held_two : (x : ℕ) (us vs left more : List ℕ) → length us ≡ length left →
    bytes_held x (us ++ vs) (left ++ more) ≡ bytes_held x us left + bytes_held x vs more
held_two x us vs left more same =
    held_split x us vs (left ++ more)
    ∙ ap₂ (λ (l m : List ℕ). bytes_held x us l + bytes_held x vs m) (take_at left more (length us) (sym same)) (drop_at left more (length us) (sym same))

-- The bytes of one unit in the main buffer
entered_more : (u x d : ℕ) (ds : List ℕ) → entered u x (d ∷ ds) ≡ cond (has_entered u x d) 1 0 + entered u x ds
entered_more u x d ds = sum_by-cons (λ t. cond (has_entered u x t) 1 0) d ds

pub held_one : (x u n : ℕ) (left : List ℕ) → bytes_held x (replicate n u) (take n left) ≡ entered u x (take n left)
unfolding bytes_held
held_one x u zero left = refl
held_one x u (suc n) [] = refl
held_one x u (suc n) (d ∷ left) =
    let more : entered u x (take (suc n) (d ∷ left)) ≡ cond (has_entered u x d) 1 0 + entered u x (take n left) = entered_more u x d (take n left) in
    omega (arith, held_one x u n left, more)

take_whole : (left : List ℕ) → take (length left) left ≡ left
take_whole [] = refl
take_whole (d ∷ left) = ap (λ (l : List ℕ). d ∷ l) (take_whole left)

held_all : (x u : ℕ) (left : List ℕ) → bytes_held x (replicate (length left) u) left ≡ entered u x left
held_all x u left =
    ap (λ (l : List ℕ). bytes_held x (replicate (length left) u) l) (sym (take_whole left)) ∙ held_one x u (length left) left
    ∙ ap (λ (l : List ℕ). entered u x l) (take_whole left)

-- The bytes of a view

-- Each byte that passes on to the main buffer has a moment when it is gone.
pub many_gone : (rate : ℕ) (parts : List Part) → length (gone_seen parts) ≡ length (payload_left rate parts)
unfolding gone_seen payload_left
many_gone rate [] = refl
many_gone rate (Passes times ∷ before) = many_gone rate before
many_gone rate (Begins due ∷ before) = many_gone rate before
many_gone rate (Carries times ∷ before) =
    let ds : List ℕ = left_after rate before times in
    omega (
      arith,
      many_gone rate before,
      length-append (gone_seen before) (replicate (length times) (until_of before)),
      length-replicate (length times) (until_of before),
      length-append (payload_left rate before) ds,
      length-departures rate (last_of rate before) times,
    )

pub view_held : (rate x : ℕ) (parts : List Part) → main_fullness rate parts x ≡ bytes_held x (gone_seen parts) (payload_left rate parts)
unfolding main_fullness gone_seen payload_left bytes_held
view_held rate x [] = refl
view_held rate x (Passes times ∷ before) = view_held rate x before
view_held rate x (Begins due ∷ before) = view_held rate x before
view_held rate x (Carries times ∷ before) =
    let ds : List ℕ = left_after rate before times in
    let u : ℕ = until_of before in
    let many : length ds ≡ length times = length-departures rate (last_of rate before) times in
    let two : bytes_held x (gone_seen before ++ replicate (length times) u) (payload_left rate before ++ ds)
    ≡ bytes_held x (gone_seen before) (payload_left rate before) + bytes_held x (replicate (length times) u) ds =
    held_two x (gone_seen before) (replicate (length times) u) (payload_left rate before) ds (many_gone rate before) in
    let last : bytes_held x (replicate (length times) u) ds ≡ entered u x ds =
    ap (λ (n : ℕ). bytes_held x (replicate n u) ds) (sym many) ∙ held_all x u ds in
    omega (arith, view_held rate x before, two, last)

-- The bytes of a cut

pub many_units : (rate r apart due : ℕ) (sizes : List ℕ) → length (gone_units rate r apart due sizes) ≡ sum sizes
unfolding gone_units
many_units rate r apart due [] = refl
many_units rate r apart due (size ∷ sizes) =
    let all : sum (size ∷ sizes) ≡ size + sum sizes = sum_by-cons (λ (n : ℕ). n) size sizes in
    omega (
      arith,
      all,
      many_units rate r apart (due + apart) sizes,
      length-append (replicate size (removal_time rate r due)) (gone_units rate r apart (due + apart) sizes),
      length-replicate size (removal_time rate r due),
    )

pub units_held : (rate r x apart due : ℕ) (sizes left : List ℕ) →
    access_units_held rate r x apart due sizes left ≡ bytes_held x (gone_units rate r apart due sizes) left
unfolding access_units_held gone_units bytes_held kept
units_held rate r x apart due [] left = refl
units_held rate r x apart due (size ∷ sizes) left =
    let u : ℕ = removal_time rate r due in
    let us : List ℕ = replicate size u in
    let more : List ℕ = gone_units rate r apart (due + apart) sizes in
    let many : length us ≡ size = length-replicate size u in
    let two : bytes_held x (us ++ more) left ≡ bytes_held x us (take size left) + bytes_held x more (drop size left) =
    held_split x us more left ∙ ap (λ (n : ℕ). bytes_held x us (take n left) + bytes_held x more (drop n left)) many in
    omega (
      arith,
      two,
      held_one x u size left,
      entered_kept rate r due x (take size left),
      units_held rate r x apart (due + apart) sizes (drop size left),
    )

pub cut_held : (rate r x apart : ℕ) (packets : List FramedPacket) (left : List ℕ) → All (λ p. sum p.access_units ≡ p.packet.size) packets →
    framed_fullness rate r x apart packets left ≡ bytes_held x (gone_cut rate r apart packets) left
unfolding framed_fullness gone_cut bytes_held
cut_held rate r x apart [] left whole = refl
cut_held rate r x apart (p ∷ packets) left whole =
    let us : List ℕ = gone_units rate r apart p.packet.dts p.access_units in
    let more : List ℕ = gone_cut rate r apart packets in
    let many : length us ≡ p.packet.size =
    many_units rate r apart p.packet.dts p.access_units ∙ All-head (λ p. sum p.access_units ≡ p.packet.size) p packets whole in
    let two : bytes_held x (us ++ more) left ≡ bytes_held x us (take p.packet.size left) + bytes_held x more (drop p.packet.size left) =
    held_split x us more left ∙ ap (λ (n : ℕ). bytes_held x us (take n left) + bytes_held x more (drop n left)) many in
    omega (
      arith,
      two,
      units_held rate r x apart p.packet.dts p.access_units (take p.packet.size left),
      cut_held rate r x apart packets (drop p.packet.size left) (All-tail (λ p. sum p.access_units ≡ p.packet.size) p packets whole),
    )

-- The view holds no more bytes than the cut.

later_gone : (x t u d : ℕ) → t ≤ u → (let n : ℕ = cond (has_entered t x d) 1 0 in n) ≤ (let n : ℕ = cond (has_entered u x d) 1 0 in n)
later_gone x t u d le = grind (arith, nat_tests)

pub held_by : (x : ℕ) (ts us left : List ℕ) → GoneBy ts us → bytes_held x ts left ≤ bytes_held x us left
unfolding GoneBy bytes_held
held_by x [] us left by = omega arith
held_by x (t ∷ ts) [] left by = absurd by
held_by x (t ∷ ts) (u ∷ us) [] by = omega arith
held_by x (t ∷ ts) (u ∷ us) (d ∷ left) by = omega (arith, later_gone x t u d by.0, held_by x ts us left by.1)

-- Later bytes alone are at most as many as all bytes.
pub held_later : (x : ℕ) (us left more : List ℕ) → bytes_held x (drop (length left) us) more ≤ bytes_held x us (left ++ more)
unfolding bytes_held
held_later x us [] more = omega arith
held_later x [] (d ∷ left) more = omega arith
held_later x (u ∷ us) (d ∷ left) more = omega (arith, held_later x us left more)
