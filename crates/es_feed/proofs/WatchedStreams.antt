-- The slips of a stream while its bytes arrive.
use Rattle.std.proofs.Common.{◌≡◌, ◌∙◌, ◌≤◌, ℕ, ◌+◌, ◌++◌, ◌==◌, ◌/◌, ◌||◌, if◌then◌else◌, Bool, true, false, Ok, Err, List, [], ◌∷◌, length, drop, refl, sym}
use Rattle.std.proofs.Common.{ap, subst, arith, drop-drop}
use Rattle.std.specs.List.{flat_map}
use Rattle.std.proofs.lemmas.Grind.{flat_map-append}
use Rattle.std.proofs.lemmas.List.{append_assoc, append-nil}
use Rattle.packet_sync.specs.Notes.{NotesView, SayAlike, no_notes, with_slip, with_stretch}
use Rattle.packet_sync.specs.PacketBytes.{packets_in}
use Rattle.packet_sync.specs.Slips.{slips}
use Rattle.packet_sync.specs.Stretches.{IsOfPackets, IsSteppedSoFar}
use Rattle.packet_sync.specs.declared.slip.Slip.{Slip}
use Rattle.packet_sync.specs.declared.stretch.Stretch.{Stretch}
use Rattle.packet_sync.proofs.Noted.{all_noted, stretch_noted}
use Rattle.es_feed.specs.EachStream.{has_fault, have_fault}
use Rattle.es_feed.specs.FedLines.{have_refusal, is_refusal}
use Rattle.fed_streams.specs.Feeding.{Fed, FeedView}
use Rattle.es_feed.specs.StreamFeeding.{fed_of}
use Rattle.es_feed.specs.Watching.{AreRounds, AreSlips, IsWatchedOf, Round, all_of, notes_at, place_with, slips_fed, slips_with}
use Rattle.es_feed.specs.declared.slip_watch.StreamPlace.{StreamPlace}
use Rattle.es_feed.proofs.Restarts.{fault_split}

-- 1. One more stretch

-- The noted slips do not depend on the fields of the notes.
after_slip : (s : Stretch) (rest : List ℕ) (found : List Slip) (p : StreamPlace) (n : NotesView) → n.slips ≡ found → n.packet ≡ p.packet → n.start ≡ p.start →
    (none : Bool) → (s.slipped == 0) ≡ none →
    with_slip s.slipped (with_stretch s.in_step rest n) ≡ notes_at (with_stretch s.in_step rest n).fields (slips_with s p found) (place_with s p)
after_slip s rest found p n is packet start true none =
    let zero : s.slipped ≡ 0 = no_more s.slipped none in
    let still : (p.start + s.in_step) + 0 ≡ p.start + s.in_step = omega arith in
    rw (none, is, packet, start, zero, still) refl
  where
    no_more : (m : ℕ) → (m == 0) ≡ true → m ≡ 0
    no_more m e = search (arith, e)
after_slip s rest found p n is packet start false some = rw (some, is, packet, start) refl

pub slips_more : (stream bytes : List ℕ) (ended : Bool) (at : ℕ) (rest : List ℕ) (s : Stretch) (p : StreamPlace) (gone before : List Slip) →
    rest ≡ drop at bytes → s.in_step + s.slipped ≤ length rest → IsSteppedSoFar rest ended s → IsOfPackets (length rest) ended s →
    AreSlips stream ended (drop at bytes) p (gone ++ before) →
    AreSlips stream ended (drop (at + (s.in_step + s.slipped)) bytes) (place_with s p) (gone ++ slips_with s p before)
slips_more stream bytes ended at rest s p gone before is within stepped packets so =
    let old = notes_at so.fields (gone ++ before) p in
    let middle = with_stretch s.in_step rest old in
    let next = with_slip s.slipped middle in
    let noted = stretch_noted rest ended s old middle next within stepped packets refl refl in
    let left : drop (s.in_step + s.slipped) rest ≡ drop (at + (s.in_step + s.slipped)) bytes = ap (λ (r : List ℕ). drop (s.in_step + s.slipped) r) is
    ∙ drop-drop (s.in_step + s.slipped) at bytes in
    let joined : slips_with s p (gone ++ before) ≡ gone ++ slips_with s p before = slips_after (s.slipped == 0) in
    let after : next ≡ notes_at middle.fields (gone ++ slips_with s p before) (place_with s p) =
    after_slip s rest (gone ++ before) p old refl refl refl (s.slipped == 0) refl
    ∙ ap (λ (found : List Slip). notes_at middle.fields found (place_with s p)) joined in
    record {
      fields = middle.fields;
      so = λ more none.
          let early = so.so more none in
          let step : SayAlike old (rest ++ more) next (drop (s.in_step + s.slipped) rest ++ more) = noted more none in
          let same : SayAlike old (drop at bytes ++ more) (notes_at middle.fields (gone ++ slips_with s p before) (place_with s p))
          (drop (at + (s.in_step + s.slipped)) bytes ++ more) =
          subst (λ (r : List ℕ). SayAlike old (r ++ more) (notes_at middle.fields (gone ++ slips_with s p before) (place_with s p))
          (drop (at + (s.in_step + s.slipped)) bytes ++ more)) is
          (subst (λ (r : List ℕ). SayAlike old (rest ++ more) (notes_at middle.fields (gone ++ slips_with s p before) (place_with s p)) (r ++ more)) left
          (subst (λ (n : NotesView). SayAlike old (rest ++ more) n (drop (s.in_step + s.slipped) rest ++ more)) after step)) in
          record { slips = early.slips ∙ same.slips; fields = early.fields ∙ same.fields };
    }
  where
    slips_after : (none : Bool) →
        (if none then gone ++ before else (gone ++ before) ++ record { packet = p.packet + s.in_step / 188; start = p.start + s.in_step; size = s.slipped } ∷
        [])
        ≡ gone ++ (if none then before else before ++ record { packet = p.packet + s.in_step / 188; start = p.start + s.in_step; size = s.slipped } ∷ [])
    slips_after true = refl
    slips_after false = append_assoc gone before (record { packet = p.packet + s.in_step / 188; start = p.start + s.in_step; size = s.slipped } ∷ [])

-- 2. A piece, and the end

pub piece_watched : (stream piece held old : List ℕ) (p : StreamPlace) (found : List Slip) → held ≡ old ++ piece → AreSlips stream false old p found →
    AreSlips (stream ++ piece) false held p found
piece_watched stream piece held old p found is so = record {
  fields = so.fields;
  so = λ more none.
      subst (λ (r : List ℕ). SayAlike no_notes r (notes_at so.fields found p) (held ++ more)) (sym (append_assoc stream piece more))
      (subst (λ (r : List ℕ). SayAlike no_notes (stream ++ (piece ++ more)) (notes_at so.fields found p) r)
      (sym (append_assoc old piece more) ∙ ap (λ (h : List ℕ). h ++ more) (sym is))
      (so.so (piece ++ more) (λ e. absurd cc)));
}

pub then_over : (stream held : List ℕ) (p : StreamPlace) (found : List Slip) → AreSlips stream false held p found → AreSlips stream true held p found
then_over stream held p found so = record { fields = so.fields; so = λ more none. so.so more (λ e. absurd cc) }

pub all_slips : (stream held : List ℕ) (p : StreamPlace) (found : List Slip) → held ≡ [] → AreSlips stream true held p found → found ≡ slips stream
all_slips stream held p found none so =
    let last : SayAlike no_notes stream (notes_at so.fields found p) [] =
    subst (λ (r : List ℕ). SayAlike no_notes r (notes_at so.fields found p) []) (append-nil stream)
    (subst (λ (r : List ℕ). SayAlike no_notes (stream ++ []) (notes_at so.fields found p) r) (ap (λ (h : List ℕ). h ++ []) none) (so.so [] (λ e. refl))) in
    (all_noted stream (notes_at so.fields found p) last).0

-- 3. Rounds

pub no_rounds : AreRounds [] [] []
no_rounds = record { rounds = []; fed_is = refl; found_is = refl; all_is = refl }

pub round_more : (fed more : List Fed) (found next : List Slip) (all : List Fed) → AreRounds fed found all →
    AreRounds (fed ++ more) (found ++ next) (all ++ (more ++ slips_fed next))
round_more fed more found next all r =
    let last : Round = record { fed = more; found = next } in
    record {
      rounds = r.rounds ++ last ∷ [];
      fed_is = flat_map-append (λ (x : Round). x.fed) r.rounds (last ∷ [])
          ∙ ap (λ (xs : List Fed). flat_map (λ (x : Round). x.fed) r.rounds ++ xs) (append-nil more)
          ∙ ap (λ (xs : List Fed). xs ++ more) r.fed_is;
      found_is = flat_map-append (λ (x : Round). x.found) r.rounds (last ∷ [])
          ∙ ap (λ (xs : List Slip). flat_map (λ (x : Round). x.found) r.rounds ++ xs) (append-nil next)
          ∙ ap (λ (xs : List Slip). xs ++ next) r.found_is;
      all_is = flat_map-append all_of r.rounds (last ∷ []) ∙ ap (λ (xs : List Fed). flat_map all_of r.rounds ++ xs) (append-nil (more ++ slips_fed next))
          ∙ ap (λ (xs : List Fed). xs ++ (more ++ slips_fed next)) r.all_is;
    }

-- If no fault is reported, there is no slip.
no_slip : (found : List Slip) → have_fault (slips_fed found) ≡ false → slips_fed found ≡ []
unfolding has_fault
no_slip [] none = refl
no_slip (s ∷ found) none = absurd cc

rounds_clear : (rounds : List Round) → have_fault (flat_map all_of rounds) ≡ false → flat_map all_of rounds ≡ flat_map (λ (r : Round). r.fed) rounds
rounds_clear [] none = refl
rounds_clear (r ∷ rounds) none =
    let two = fault_split (all_of r) (flat_map all_of rounds) none in
    let own : all_of r ≡ r.fed = ap (λ (xs : List Fed). r.fed ++ xs) (no_slip r.found (fault_split r.fed (slips_fed r.found) two.0).1) ∙ append-nil r.fed in
    ap (λ (xs : List Fed). xs ++ flat_map all_of rounds) own ∙ ap (λ (xs : List Fed). r.fed ++ xs) (rounds_clear rounds two.1)

pub clear_is_fed : (first : FeedView) (bytes : List ℕ) (all : List Fed) → IsWatchedOf first bytes all → have_fault all ≡ false →
    all ≡ fed_of first (packets_in bytes)
clear_is_fed first bytes all w none =
    let r = w.rounds in
    sym r.all_is ∙ rounds_clear r.rounds (ap have_fault r.all_is ∙ none) ∙ r.fed_is

-- 4. A description of another stream is reported

head_clear : (x : Fed) → has_fault x ≡ false → is_refusal x ≡ false
unfolding has_fault is_refusal
head_clear (n, Ok u) none = refl
head_clear (n, Err fault) none = absurd cc

both_false : (a b : Bool) → (a || b) ≡ false → (a ≡ false) × (b ≡ false)
both_false true b none = absurd cc
both_false false b none = (refl, none)

neither : (fed : List Fed) → have_fault fed ≡ false → have_refusal fed ≡ false
neither [] none = refl
neither (x ∷ fed) none =
    let two = both_false (has_fault x) (have_fault fed) none in
    ap (λ (b : Bool). b || have_refusal fed) (head_clear x two.0) ∙ neither fed two.1

pub refusal_reported : (fed : List Fed) → have_fault fed ≡ false → have_refusal fed ≡ true → ⊥
refusal_reported fed none refused = let no : true ≡ false = sym refused ∙ neither fed none in cc
