-- The findings of a PID, before and after PES packets whose stamps are alone out of order are damaged ones
use Rattle.std.proofs.Common.{◌≡◌, ◌∙◌, ℕ, zero, suc, ◌&&◌, ◌||◌, Bool, true, false, cond, Option, Some, None, List, [], ◌∷◌}
use Rattle.std.proofs.Common.{map, slice_get, refl, sym, ap, ap₂, eqb-true, is_some}
use Rattle.std.proofs.lemmas.List.{length-map}
use Rattle.std.proofs.lemmas.Option.{same_Some}
use Rattle.std.specs.List.{list_any}
use Rattle.demux.specs.Laws.{found_of, has_pid}
use Rattle.pid_findings.specs.Views.{FindingView}
use Rattle.stamp_repair.specs.LoneLaws.{AllElseStays, as_damaged}
use Rattle.stamp_repair.specs.LoneStamps.{damaged, damaged_if, is_at, is_lone_pes, is_on, lone_damaged, lone_in}
use Rattle.stamp_repair.specs.PesStamps.{begin_of, stamp_at}
use Rattle.stamp_repair.specs.declared.search.LonePes.{LonePes}

-- 1. Each finding at its place

same_damage : (b : Bool) (f : FindingView) → b ≡ false → damaged_if b f ≡ f
unfolding damaged_if
same_damage b f none = rw none refl

made_damage : (b : Bool) (f : FindingView) → b ≡ true → damaged_if b f ≡ as_damaged f
unfolding damaged_if
made_damage b f is = rw is refl

changed_at : (change : FindingView → FindingView) (fs : List FindingView) (k : ℕ) (f g : FindingView) → slice_get fs k ≡ Some f → change f ≡ g →
    slice_get (map change fs) k ≡ Some g
changed_at change [] k f g at made = absurd cc
changed_at change (x ∷ fs) zero f g at made = let same : x ≡ f = same_Some x f at in ap (λ (y : FindingView). Some (change y)) same ∙ ap Some made
changed_at change (x ∷ fs) (suc k) f g at made = changed_at change fs k f g at made

pub all_else : AllElseStays
unfolding lone_damaged
all_else falling findings =
    let lone : List LonePes = lone_in falling findings in (
      length-map findings (damaged lone),
      λ k f at. (
        λ none. changed_at (damaged lone) findings k f f at (same_damage (is_lone_pes lone f) f none),
        λ is. changed_at (damaged lone) findings k f (as_damaged f) at (made_damage (is_lone_pes lone f) f is),
      ),
    )

-- 2. The findings of a PID, changed

pub own_changes : (pid : ℕ) (change other : FindingView → FindingView) (fs : List FindingView) → ((f : FindingView) → (change f).pid ≡ f.pid) →
    ((f : FindingView) → has_pid pid f.pid ≡ true → change f ≡ other f) → found_of pid (map change fs) ≡ map other (found_of pid fs)
own_changes pid change other [] keeps same = refl
own_changes pid change other (f ∷ fs) keeps same =
    let later : List FindingView = found_of pid (map change fs) in
    ap (λ (p : Option ℕ). cond (has_pid pid p) (change f ∷ later) later) (keeps f)
    ∙ by (has_pid pid f.pid) refl (own_changes pid change other fs keeps same)
  where
    by : (b : Bool) → has_pid pid f.pid ≡ b → found_of pid (map change fs) ≡ map other (found_of pid fs) →
        cond b (change f ∷ found_of pid (map change fs)) (found_of pid (map change fs)) ≡ map other (cond b (f ∷ found_of pid fs) (found_of pid fs))
    by true own rest = ap₂ (λ (x : FindingView) (xs : List FindingView). x ∷ xs) (same f own) rest
    by false own rest = rest

pub own_pid : (pid : ℕ) (p : Option ℕ) → has_pid pid p ≡ true → p ≡ Some pid
own_pid pid None is = absurd cc
own_pid pid (Some other) is = ap Some (eqb-true other pid is)

same_pid_if : (b : Bool) (f : FindingView) → (damaged_if b f).pid ≡ f.pid
unfolding damaged_if
same_pid_if true f = refl
same_pid_if false f = refl

pub same_pid : (lone : List LonePes) (f : FindingView) → (damaged lone f).pid ≡ f.pid
same_pid lone f = same_pid_if (is_lone_pes lone f) f

-- 3. The same PES packets of the PID, the same findings of it

pub own_damage : (lone own : List LonePes) (pid : ℕ) (fs : List FindingView) →
    ((packet : ℕ) → list_any (is_at (Some pid) packet) lone ≡ list_any (is_at (Some pid) packet) own) →
    found_of pid (map (damaged lone) fs) ≡ map (damaged own) (found_of pid fs)
own_damage lone own pid fs alike = own_changes pid (damaged lone) (damaged own) fs (same_pid lone) same
  where
    own_pes : (ls : List LonePes) (f : FindingView) → has_pid pid f.pid ≡ true →
        list_any (is_at f.pid (begin_of f.begun f.packet)) ls ≡ list_any (is_at (Some pid) (begin_of f.begun f.packet)) ls
    own_pes ls f is = ap (λ (p : Option ℕ). list_any (is_at p (begin_of f.begun f.packet)) ls) (own_pid pid f.pid is)

    same : (f : FindingView) → has_pid pid f.pid ≡ true → damaged lone f ≡ damaged own f
    same f is =
        ap (λ (b : Bool). damaged_if (b && is_some (stamp_at f)) f) (own_pes lone f is ∙ alike (begin_of f.begun f.packet) ∙ sym (own_pes own f is))

-- 4. No PES packets of the PID

neither : (a b : Bool) → (a || b) ≡ false → (a ≡ false) × (b ≡ false)
neither true b none = absurd cc
neither false b none = (refl, none)

not_here : (pid packet : ℕ) (l : LonePes) → is_on pid l ≡ false → is_at (Some pid) packet l ≡ false
unfolding is_at
not_here pid packet l other = rw other refl

not_at : (pid packet : ℕ) (lone : List LonePes) → list_any (is_on pid) lone ≡ false → list_any (is_at (Some pid) packet) lone ≡ false
not_at pid packet [] none = refl
not_at pid packet (l ∷ ls) none =
    let both = neither (is_on pid l) (list_any (is_on pid) ls) none in
    rw (not_here pid packet l both.0) (not_at pid packet ls both.1)

-- no finding is damaged without PES packets
none_damaged : (fs : List FindingView) → map (damaged []) fs ≡ fs
unfolding damaged_if
none_damaged [] = refl
none_damaged (f ∷ fs) = ap (λ (gs : List FindingView). f ∷ gs) (none_damaged fs)

pub unfound_stay : (lone : List LonePes) (pid : ℕ) (fs : List FindingView) → list_any (is_on pid) lone ≡ false →
    found_of pid (map (damaged lone) fs) ≡ found_of pid fs
unfound_stay lone pid fs none = own_damage lone [] pid fs (λ packet. not_at pid packet lone none) ∙ none_damaged (found_of pid fs)
