-- Presentation time stamps that come too late, by the packets before them.
use Rattle.std.proofs.Common.{◌≡◌, ◌∙◌, ℕ, ◌-◌, ◌<◌, ◌==◌, ◌&&◌, Bool, true, false, cond, nat_eq, nat_lt, List, [], ◌∷◌, ◌++◌, find, Contains, Option}
use Rattle.std.proofs.Common.{Some, None, option_map, refl, sym, ap, ap₂, subst, subst₂, arith}
use Rattle.std.specs.Map.{lookup}
use Rattle.std.proofs.lemmas.Bool.Decides.{nat_tests}
use Rattle.indexmap.specs.IndexMap.{insert_entry}
use Rattle.tr101290.specs.Intervals.{time_between}
use Rattle.tr101290.specs.Stamps.{StampState, has_pts, taken, too_late}
use Rattle.tr101290.specs.declared.intervals.TableTiming.{TableTiming}
use Rattle.tr101290.specs.declared.stamps.PtsError.{PtsError}
use Rattle.tr101290.specs.declared.stamps.TheConstants.{GREATEST_PTS_INTERVAL}
use Rattle.laws_view.specs.StampHistories.{IsLateStamp, LateStampLaw, PlacedPacket, error_after, errors_of, same_stamps, state_of}
use Rattle.laws_view.proofs.GivenItems.{found_at, finds, given_at, given_in}
use Rattle.laws_view.proofs.InsertedEntries as entries

-- 1. The last place of each PID

abbrev pid_at : PlacedPacket → ℕ
pid_at p = p.packet.header.pid

abbrev is_on : ℕ → PlacedPacket → Bool
is_on pid p = has_pts p.said p.packet && (p.packet.header.pid == pid)

abbrev last_place : ℕ → List PlacedPacket → Option ℕ
last_place pid earlier = option_map (λ (p : PlacedPacket). p.place) (find (is_on pid) earlier)

-- the last place of a PID after a packet, by what is known of the packet
last_by : (pid : ℕ) (p : PlacedPacket) (earlier : List PlacedPacket) (t u : Bool) → has_pts p.said p.packet ≡ t → (pid_at p == pid) ≡ u →
    last_place pid (p ∷ earlier) ≡ option_map (λ (q : PlacedPacket). q.place) (cond (t && u) (Some p) (find (is_on pid) earlier))
last_by pid p earlier t u e f =
    ap₂ (λ (a b : Bool). option_map (λ (q : PlacedPacket). q.place) (cond (a && b) (Some p) (find (is_on pid) earlier))) e f

abbrev with_place : StampState → PlacedPacket → StampState
with_place s p = record { timing = s.timing; lasts = insert_entry nat_eq s.lasts p.packet.header.pid p.place }

taken_is : (s : StampState) (p : PlacedPacket) (t : Bool) → has_pts p.said p.packet ≡ t → taken s p.place p.said p.packet ≡ cond t (with_place s p) s
taken_is s p t e = ap (λ (u : Bool). cond u (with_place s p) s) e

place_after : (pid : ℕ) (s : StampState) (p : PlacedPacket) (earlier : List PlacedPacket) → lookup (nat_eq pid) s.lasts ≡ last_place pid earlier →
    lookup (nat_eq pid) (taken s p.place p.said p.packet).lasts ≡ last_place pid (p ∷ earlier)
place_after pid s p earlier h = by (has_pts p.said p.packet) refl (pid_at p == pid) refl
  where
    by : (t : Bool) → has_pts p.said p.packet ≡ t → (u : Bool) → (pid_at p == pid) ≡ u →
        lookup (nat_eq pid) (taken s p.place p.said p.packet).lasts ≡ last_place pid (p ∷ earlier)
    by false e u f = ap (λ (d : StampState). lookup (nat_eq pid) d.lasts) (taken_is s p false e) ∙ h ∙ sym (last_by pid p earlier false u e f)
    by true e true f =
        ap (λ (d : StampState). lookup (nat_eq pid) d.lasts) (taken_is s p true e)
        ∙ entries.kept pid (pid_at p) p.place s.lasts true f
        ∙ sym (last_by pid p earlier true true e f)
    by true e false f =
        ap (λ (d : StampState). lookup (nat_eq pid) d.lasts) (taken_is s p true e)
        ∙ entries.kept pid (pid_at p) p.place s.lasts false f
        ∙ h
        ∙ sym (last_by pid p earlier true false e f)

places : (timing : TableTiming) (pid : ℕ) (earlier : List PlacedPacket) → lookup (nat_eq pid) (state_of timing earlier).lasts ≡ last_place pid earlier
unfolding state_of
places timing pid [] = refl
places timing pid (p ∷ earlier) = place_after pid (state_of timing earlier) p earlier (places timing pid earlier)

timing_stays : (s : StampState) (p : PlacedPacket) → (taken s p.place p.said p.packet).timing ≡ s.timing
timing_stays s p = by (has_pts p.said p.packet)
  where
    by : (t : Bool) → (cond t (with_place s p) s).timing ≡ s.timing
    by true = refl
    by false = refl

same_timing : (timing : TableTiming) (earlier : List PlacedPacket) → (state_of timing earlier).timing ≡ timing
unfolding state_of
same_timing timing [] = refl
same_timing timing (p ∷ earlier) = timing_stays (state_of timing earlier) p ∙ same_timing timing earlier

-- 2. The error of a packet

abbrev late : TableTiming → PlacedPacket → ℕ → PtsError
late timing p before =
    record { pid = p.packet.header.pid; packet = p.index; value = time_between timing (p.place - before); limit = GREATEST_PTS_INTERVAL }

record LateAfter (timing : TableTiming) (p : PlacedPacket) (o : Option ℕ) (error : PtsError) : Type 0 where
  before : ℕ
  there : o ≡ Some before
  long : GREATEST_PTS_INTERVAL < time_between timing (p.place - before)
  named : error ≡ late timing p before

late_after : (timing : TableTiming) (p : PlacedPacket) (o : Option ℕ) (error : PtsError) → too_late timing (pid_at p) p.index p.place o ≡ Some error →
    LateAfter timing p o error
unfolding too_late
late_after timing p None error e = absurd cc
late_after timing p (Some b) error e = by (nat_lt GREATEST_PTS_INTERVAL (time_between timing (p.place - b))) refl e
  where
    by : (t : Bool) → nat_lt GREATEST_PTS_INTERVAL (time_between timing (p.place - b)) ≡ t → cond t (Some (late timing p b)) None ≡ Some error →
        LateAfter timing p (Some b) error
    by true s h =
        let long : GREATEST_PTS_INTERVAL < time_between timing (p.place - b) = grind (arith, nat_tests) in
        let named : error ≡ late timing p b = cc in
        record { before = b; there = refl; long = long; named = named }
    by false s h = absurd cc

late_is : (timing : TableTiming) (p : PlacedPacket) (b : ℕ) → GREATEST_PTS_INTERVAL < time_between timing (p.place - b) →
    too_late timing (pid_at p) p.index p.place (Some b) ≡ Some (late timing p b)
unfolding too_late
late_is timing p b n =
    let test : nat_lt GREATEST_PTS_INTERVAL (time_between timing (p.place - b)) ≡ true = grind (arith, nat_tests) in
    ap (λ (t : Bool). cond t (Some (late timing p b)) None) test

of_place : (o : Option PlacedPacket) (b : ℕ) → option_map (λ (p : PlacedPacket). p.place) o ≡ Some b → (p : PlacedPacket) × (o ≡ Some p) × (p.place ≡ b)
of_place None b e = absurd cc
of_place (Some p) b e = let same : p.place ≡ b = cc in (p, refl, same)

-- 3. The law

module _ (timing : TableTiming) (item : PlacedPacket) (earlier : List PlacedPacket) (error : PtsError) where
  abbrev before_item : StampState
  before_item = state_of timing earlier

  record LateItem : Type 0 where
    before : PlacedPacket
    found : find (same_stamps item) earlier ≡ Some before
    stamped : has_pts item.said item.packet ≡ true
    long : GREATEST_PTS_INTERVAL < time_between timing (item.place - before.place)
    named : error ≡ late timing item before.place

  late_item : error_after timing earlier item ≡ Some error → LateItem
  late_item e = by (has_pts item.said item.packet) refl e
    where
      by : (t : Bool) → has_pts item.said item.packet ≡ t →
          cond t (too_late before_item.timing (pid_at item) item.index item.place (lookup (nat_eq (pid_at item)) before_item.lasts)) None ≡ Some error →
          LateItem
      by false f g = absurd cc
      by true f g =
          let r = late_after before_item.timing item (lookup (nat_eq (pid_at item)) before_item.lasts) error g in
          let w = of_place (find (same_stamps item) earlier) r.before (sym (places timing (pid_at item) earlier) ∙ r.there) in
          record {
            before = w.0;
            found = w.1;
            stamped = f;
            long = subst₂ (λ (t : TableTiming) (b : ℕ). GREATEST_PTS_INTERVAL < time_between t (item.place - b)) (same_timing timing earlier) (sym w.2) r.long;
            named = r.named ∙ ap₂ (λ (t : TableTiming) (b : ℕ). late t item b) (same_timing timing earlier) (sym w.2);
          }

  gives : LateItem → error_after timing earlier item ≡ Some error
  gives r =
      ap (λ (t : Bool). cond t (too_late before_item.timing (pid_at item) item.index item.place (lookup (nat_eq (pid_at item)) before_item.lasts)) None)
      r.stamped
      ∙ ap₂ (λ (t : TableTiming) (o : Option ℕ). too_late t (pid_at item) item.index item.place o) (same_timing timing earlier)
      (places timing (pid_at item) earlier ∙ ap (option_map (λ (p : PlacedPacket). p.place)) r.found)
      ∙ late_is timing item r.before.place r.long
      ∙ ap (λ (e : PtsError). Some e) (sym r.named)

is_late : (timing : TableTiming) (packets : List PlacedPacket) (error : PtsError) → Contains (errors_of timing packets) error →
    IsLateStamp timing packets error
is_late timing packets error c =
    let r = given_at (error_after timing) error packets c in
    let s = late_item timing r.item r.earlier error r.gives in
    let f = found_at (same_stamps r.item) s.before r.earlier s.found in
    record {
      before = s.before;
      item = r.item;
      follows = record {
        later = r.later;
        between = f.between;
        earlier = f.earlier;
        parts = r.parts ∙ ap (λ (rest : List PlacedPacket). r.later ++ r.item ∷ rest) f.parts;
        alike = f.passes;
        none_between = f.none_between;
      };
      stamped = s.stamped;
      long = s.long;
      named = s.named;
    }

late_is_named : (timing : TableTiming) (packets : List PlacedPacket) (error : PtsError) → IsLateStamp timing packets error →
    Contains (errors_of timing packets) error
late_is_named timing packets error r =
    subst (λ (all : List PlacedPacket). Contains (errors_of timing all) error) (sym r.follows.parts)
    (given_in (error_after timing) error r.follows.later r.item rest (gives timing r.item rest error (record {
      before = r.before;
      found = finds (same_stamps r.item) r.before r.follows.between r.follows.earlier r.follows.alike r.follows.none_between;
      stamped = r.stamped;
      long = r.long;
      named = r.named;
    })))
  where
    rest : List PlacedPacket
    rest = r.follows.between ++ r.before ∷ r.follows.earlier

pub late_law : LateStampLaw
late_law timing packets error = (is_late timing packets error, late_is_named timing packets error)
