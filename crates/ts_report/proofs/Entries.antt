-- Streams one by one
use Rattle.std.proofs.Common.{◌≡◌, ◌∙◌, sym, ℕ, zero, suc, Bool, true, false, ◌&&◌, List, [], ◌∷◌, ◌++◌, length, Some, None, ◌≤◌, drop, refl, ap, subst}
use Rattle.std.proofs.Common.{append_assoc, append-nil, arith}
use Rattle.std.specs.Prelude.{flat_map, set, slice_get}
use Rattle.std.specs.List.{list_all}
use Rattle.events.specs.declared.event.Event.{Event}
use Rattle.es_view.specs.declared.stream_entry.StreamEntry.{StreamEntry}
use Rattle.es_view.specs.Entries.{EntryState, IsEntry}
use Rattle.ts_report.specs.StreamTables.{AreEntries}

pub same_length : (bs : List StreamEntry) (es : List EntryState) → AreEntries bs es → length bs ≡ length es
unfolding AreEntries
same_length [] [] a = refl
same_length [] (e ∷ es) a = absurd a
same_length (b ∷ bs) [] a = absurd a
same_length (b ∷ bs) (e ∷ es) a = ap suc (same_length bs es a.1)

-- One more stream
pub one_more : (bs : List StreamEntry) (es : List EntryState) (b : StreamEntry) (e : EntryState) → AreEntries bs es → IsEntry b e →
    AreEntries (bs ++ b ∷ []) (es ++ e ∷ [])
unfolding AreEntries
one_more [] [] b e a i = (i, tt)
one_more [] (f ∷ es) b e a i = absurd a
one_more (c ∷ bs) [] b e a i = absurd a
one_more (c ∷ bs) (f ∷ es) b e a i = (a.0, one_more bs es b e a.1 i)

-- The stream at a place
pub none_at : (bs : List StreamEntry) (es : List EntryState) (n : ℕ) → AreEntries bs es → slice_get bs n ≡ None → slice_get es n ≡ None
unfolding AreEntries
none_at [] [] n a is = refl
none_at [] (e ∷ es) n a is = absurd a
none_at (b ∷ bs) [] n a is = absurd a
none_at (b ∷ bs) (e ∷ es) zero a is = absurd cc
none_at (b ∷ bs) (e ∷ es) (suc n) a is = none_at bs es n a.1 is

pub record EntryAt (b : StreamEntry) (es : List EntryState) (n : ℕ) : Type 0 where
  pub entry : EntryState
  pub at : slice_get es n ≡ Some entry
  pub is : IsEntry b entry

pub some_at : (bs : List StreamEntry) (es : List EntryState) (n : ℕ) (b : StreamEntry) → AreEntries bs es → slice_get bs n ≡ Some b → EntryAt b es n
unfolding AreEntries
some_at [] es n b a is = absurd cc
some_at (c ∷ bs) [] n b a is = absurd a
some_at (c ∷ bs) (e ∷ es) zero b a is = let same : c ≡ b = cc in record { entry = e; at = refl; is = subst (λ (x : StreamEntry). IsEntry x e) same a.0 }
some_at (c ∷ bs) (e ∷ es) (suc n) b a is = let s = some_at bs es n b a.1 is in record { entry = s.entry; at = s.at; is = s.is }

pub set_at : (bs : List StreamEntry) (es : List EntryState) (n : ℕ) (b : StreamEntry) (e : EntryState) → AreEntries bs es → IsEntry b e →
    AreEntries (set bs n b) (set es n e)
unfolding AreEntries
set_at [] [] n b e a i = tt
set_at [] (f ∷ es) n b e a i = absurd a
set_at (c ∷ bs) [] n b e a i = absurd a
set_at (c ∷ bs) (f ∷ es) zero b e a i = (i, a.1)
set_at (c ∷ bs) (f ∷ es) (suc n) b e a i = (a.0, set_at bs es n b e a.1 i)

-- The streams that a walk has not reached, and the events that they still give
pub record Ahead (bs : List StreamEntry) (f : EntryState → List Event) (events whole : List Event) : Type 0 where
  pub left : List EntryState
  pub are : AreEntries bs left
  pub same : events ++ flat_map f left ≡ whole

written_by : (f : EntryState → List Event) (b : StreamEntry) (bs : List StreamEntry) (events events' whole : List Event) →
    ((e : EntryState) → IsEntry b e → events' ≡ events ++ f e) →
    (left : List EntryState) → AreEntries (b ∷ bs) left → events ++ flat_map f left ≡ whole → Ahead bs f events' whole
unfolding AreEntries
written_by f b bs events events' whole writes [] are same = absurd are
written_by f b bs events events' whole writes (e ∷ es) are same = record {
  left = es;
  are = are.1;
  same = ap (λ (t : List Event). t ++ flat_map f es) (writes e are.0) ∙ append_assoc events (f e) (flat_map f es) ∙ same;
}

pub one_written : (f : EntryState → List Event) (b : StreamEntry) (bs : List StreamEntry) (events events' whole : List Event) →
    ((e : EntryState) → IsEntry b e → events' ≡ events ++ f e) →
    Ahead (b ∷ bs) f events whole → Ahead bs f events' whole
one_written f b bs events events' whole writes a = written_by f b bs events events' whole writes a.left a.are a.same

none_ahead : (f : EntryState → List Event) (events whole : List Event) (left : List EntryState) → AreEntries [] left → events ++ flat_map f left ≡ whole →
    events ≡ whole
unfolding AreEntries
none_ahead f events whole [] are same = sym (append-nil events) ∙ same
none_ahead f events whole (e ∷ es) are same = absurd are

pub all_written : (f : EntryState → List Event) (events whole : List Event) → Ahead [] f events whole → events ≡ whole
all_written f events whole a = none_ahead f events whole a.left a.are a.same

-- Whether all streams that a walk has not reached are good
pub record Unjudged (bs : List StreamEntry) (f : EntryState → Bool) (whole : Bool) : Type 0 where
  pub left : List EntryState
  pub are : AreEntries bs left
  pub same : list_all f left ≡ whole

good_by : (f : EntryState → Bool) (b : StreamEntry) (bs : List StreamEntry) (whole good : Bool) → ((e : EntryState) → IsEntry b e → good ≡ f e) → good ≡ true →
    (left : List EntryState) → AreEntries (b ∷ bs) left → list_all f left ≡ whole → Unjudged bs f whole
unfolding AreEntries
good_by f b bs whole good judged is [] are same = absurd are
good_by f b bs whole good judged is (e ∷ es) are same = record {
  left = es;
  are = are.1;
  same = ap (λ (g : Bool). g && list_all f es) (sym is ∙ judged e are.0) ∙ same;
}

pub one_good : (f : EntryState → Bool) (b : StreamEntry) (bs : List StreamEntry) (whole good : Bool) → ((e : EntryState) → IsEntry b e → good ≡ f e) →
    good ≡ true →
    Unjudged (b ∷ bs) f whole → Unjudged bs f whole
one_good f b bs whole good judged is a = good_by f b bs whole good judged is a.left a.are a.same

bad_by : (f : EntryState → Bool) (b : StreamEntry) (bs : List StreamEntry) (whole good : Bool) → ((e : EntryState) → IsEntry b e → good ≡ f e) → good ≡ false →
    (left : List EntryState) → AreEntries (b ∷ bs) left → list_all f left ≡ whole → false ≡ whole
unfolding AreEntries
bad_by f b bs whole good judged is [] are same = absurd are
bad_by f b bs whole good judged is (e ∷ es) are same = ap (λ (g : Bool). g && list_all f es) (sym is ∙ judged e are.0) ∙ same

pub one_bad : (f : EntryState → Bool) (b : StreamEntry) (bs : List StreamEntry) (whole good : Bool) → ((e : EntryState) → IsEntry b e → good ≡ f e) →
    good ≡ false →
    Unjudged (b ∷ bs) f whole → false ≡ whole
one_bad f b bs whole good judged is a = bad_by f b bs whole good judged is a.left a.are a.same

none_unjudged : (f : EntryState → Bool) (whole : Bool) (left : List EntryState) → AreEntries [] left → list_all f left ≡ whole → true ≡ whole
unfolding AreEntries
none_unjudged f whole [] are same = same
none_unjudged f whole (e ∷ es) are same = absurd are

pub all_good : (f : EntryState → Bool) (whole : Bool) → Unjudged [] f whole → true ≡ whole
all_good f whole a = none_unjudged f whole a.left a.are a.same
