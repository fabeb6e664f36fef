-- Sections of one table, and PES packets with a PTS: the state has the places at which the findings begin.
use Rattle.std.proofs.Common.{◌≡◌, ℕ, ◌-◌, ◌*◌, ◌==◌, Bool, true, false, cond, nat_eq, List, [], ◌∷◌, ◌++◌, map, Option, Some, None, refl, sym, ap, ap₂, ◌∙◌}
use Rattle.std.proofs.Common.{append_assoc}
use Rattle.std.specs.Prelude.{◌&&◌}
use Rattle.std.specs.List.{filter_map, cons_option, flat_map}
use Rattle.std.specs.Map.{lookup}
use Rattle.std.proofs.lemmas.List.{append-nil, map-append}
use Rattle.pid_findings.specs.declared.finding.Kind.{Kind}
use Rattle.pid_findings.specs.declared.finding.Kind.TheVariants.{Table, Pes}
use Rattle.pid_findings.specs.Views.{PidFinding, FindingView, WhatView}
use Rattle.demux.specs.Laws.{found_of, has_pid, with_pid_at}
use Rattle.monitor.specs.declared.fault.Rule.{Rule}
use Rattle.monitor.specs.declared.fault.StreamFault.{StreamFault}
use Rattle.monitor.specs.Gaps.{is_long, late}
use Rattle.monitor.specs.Laws.{places_of}
use Rattle.monitor.specs.Recurrences.{RecurrenceState, marked, marked_all, no_marks, late_at}
use Rattle.monitor.specs.TableStates.{TableState}
use Rattle.monitor.specs.Reports.{late_fault}
use Rattle.monitor.specs.Rules.{fault}
use Rattle.monitor.specs.Begins.{table_begin, pts_begin, table_begins, pts_begins}
use Rattle.monitor.proofs.LatePlaces.{after, after_all, found_if, same_number, step}
use Rattle.monitor.proofs.PacketSteps.{marked_append}
use Rattle.monitor.proofs.FindingSteps.{table_begun, table_on, table_of_all, pts_begun, pts_on, pts_of_all}

-- 1. One PID alone

abbrev pub on_pid : ℕ → List ℕ → List (ℕ × ℕ)
on_pid pid xs = map (λ x. (pid, x)) xs

late_step : (rule : Rule) (limit_times_rate pid : ℕ) (o : Option ℕ) (x : ℕ) →
    map (late_fault rule) (late_at limit_times_rate pid o x) ≡ map (fault rule (Some pid)) (step limit_times_rate o x)
unfolding late_at
late_step rule limit_times_rate pid None x = refl
late_step rule limit_times_rate pid (Some before) x = by (is_long limit_times_rate (x - before))
  where
    by : (t : Bool) → map (late_fault rule) (cond t (record { pid = pid; packet = x } ∷ []) []) ≡ map (fault rule (Some pid)) (cond t (x ∷ []) [])
    by true = refl
    by false = refl

pub late_alone : (rule : Rule) (pid : ℕ) (s : RecurrenceState) (xs : List ℕ) → (pid == pid) ≡ true →
    map (late_fault rule) (marked_all s (on_pid pid xs)).late ≡ map (late_fault rule) s.late
    ++ map (fault rule (Some pid)) (after s.limit_times_rate (lookup (nat_eq pid) s.last) xs)
unfolding marked_all
late_alone rule pid s [] e = sym (append-nil (map (late_fault rule) s.late))
late_alone rule pid s (x ∷ xs) e =
    late_alone rule pid (marked s pid x) xs e
    ∙ ap₂ (λ (l : List StreamFault) (o : Option ℕ). l ++ map (fault rule (Some pid)) (after s.limit_times_rate o xs))
    (map-append (late_fault rule) s.late (late_at s.limit_times_rate pid (lookup (nat_eq pid) s.last) x)
    ∙ ap (λ (l : List StreamFault). map (late_fault rule) s.late ++ l) (late_step rule s.limit_times_rate pid (lookup (nat_eq pid) s.last) x))
    (found_if pid pid x s.last true e)
    ∙ append_assoc (map (late_fault rule) s.late) (map (fault rule (Some pid)) (step s.limit_times_rate (lookup (nat_eq pid) s.last) x))
    (map (fault rule (Some pid)) (after s.limit_times_rate (Some x) xs))
    ∙ ap (λ (l : List StreamFault). map (late_fault rule) s.late ++ l)
    (sym (map-append (fault rule (Some pid)) (step s.limit_times_rate (lookup (nat_eq pid) s.last) x) (after s.limit_times_rate (Some x) xs)))

pub late_from_none : (rule : Rule) (rate limit pid : ℕ) (xs : List ℕ) → (pid == pid) ≡ true →
    map (late_fault rule) (marked_all (no_marks (limit * rate)) (on_pid pid xs)).late ≡ map (fault rule (Some pid)) (late rate limit xs)
late_from_none rule rate limit pid xs e =
    late_alone rule pid (no_marks (limit * rate)) xs e ∙ ap (map (fault rule (Some pid))) (after_all rate limit xs)

-- 2. Sections of a table

-- The packets where sections of a table begin, among the findings of a PID
abbrev pub begins_in : ℕ → ℕ → List FindingView → List ℕ
begins_in pid table_id found = filter_map (λ f. table_begin table_id f.begun) (found_of pid found)

table_step : (s : TableState) (pid : ℕ) (begun : Option (ℕ × Kind)) (rest : List ℕ) → table_begun s pid begun ≡ record s {
  marks = marked_all s.marks (on_pid s.pid (cond (pid == s.pid) (cons_option (table_begin s.table_id begun) []) []));
}
unfolding table_begun table_begin marked_all
table_step s pid None rest = by (pid == s.pid)
  where
    by : (t : Bool) → s ≡ record s { marks = marked_all s.marks (on_pid s.pid (cond t [] [])) }
    by true = refl
    by false = refl
table_step s pid (Some (packet, Pes stamped access)) rest = by (pid == s.pid)
  where
    by : (t : Bool) → s ≡ record s { marks = marked_all s.marks (on_pid s.pid (cond t [] [])) }
    by true = refl
    by false = refl
table_step s pid (Some (packet, Table table_id)) rest = by (pid == s.pid) (table_id == s.table_id) refl
  where
    by : (t u : Bool) → (pid == s.pid) ≡ t → cond (t && u) (record { pid = s.pid; table_id = s.table_id; marks = marked s.marks pid packet }) s ≡ record s {
      marks = marked_all s.marks (on_pid s.pid (cond t (cons_option (cond u (Some packet) None) []) []));
    }
    by true true e = ap (λ (k : ℕ). record s { marks = marked s.marks k packet }) (same_number pid s.pid e)
    by true false e = refl
    by false true e = refl
    by false false e = refl

abbrev finding : ℕ → Option ℕ → Option (ℕ × Kind) → WhatView → FindingView
finding packet pid begun what = record { packet = packet; pid = pid; begun = begun; what = what }

table_next : (s : TableState) (packet : ℕ) (pid : Option ℕ) (begun : Option (ℕ × Kind)) (what : WhatView) →
    table_on s pid begun ≡ record s { marks = marked_all s.marks (on_pid s.pid (begins_in s.pid s.table_id (finding packet pid begun what ∷ []))) }
unfolding table_on marked_all
table_next s packet None begun what = refl
table_next s packet (Some pid) begun what =
    table_step s pid begun [] ∙ ap (λ (xs : List ℕ). record s { marks = marked_all s.marks (on_pid s.pid xs) }) (inner (pid == s.pid))
  where
    inner : (t : Bool) →
        cond t (cons_option (table_begin s.table_id begun) []) [] ≡ filter_map (λ g. table_begin s.table_id g.begun)
        (cond t (finding packet (Some pid) begun what ∷ []) [])
    inner true = refl
    inner false = refl

begins_more : (pid table_id : ℕ) (f : FindingView) (found : List FindingView) → begins_in pid table_id (f ∷ found) ≡ begins_in pid table_id (f ∷ [])
    ++ begins_in pid table_id found
begins_more pid table_id f found = by (has_pid pid f.pid)
  where
    step_in : (o : Option ℕ) (xs : List ℕ) → cons_option o xs ≡ cons_option o [] ++ xs
    step_in None xs = refl
    step_in (Some x) xs = refl

    by : (t : Bool) → filter_map (λ g. table_begin table_id g.begun) (cond t (f ∷ found_of pid found) (found_of pid found))
        ≡ filter_map (λ g. table_begin table_id g.begun) (cond t (f ∷ []) []) ++ begins_in pid table_id found
    by true = step_in (table_begin table_id f.begun) (begins_in pid table_id found)
    by false = refl

pub table_is : (s : TableState) (found : List FindingView) →
    table_of_all s found ≡ record s { marks = marked_all s.marks (on_pid s.pid (begins_in s.pid s.table_id found)) }
unfolding table_of_all marked_all
table_is s [] = refl
table_is s (f ∷ found) =
    let new = begins_in s.pid s.table_id (f ∷ []) in
    let rest = begins_in s.pid s.table_id found in
    ap (λ (t : TableState). table_of_all t found) (table_next s f.packet f.pid f.begun f.what)
    ∙ table_is (record s { marks = marked_all s.marks (on_pid s.pid new) }) found
    ∙ ap (λ (m : RecurrenceState). record s { marks = m })
    (sym (marked_append s.marks (on_pid s.pid new) (on_pid s.pid rest))
    ∙ ap (marked_all s.marks) (sym (map-append (λ x. (s.pid, x)) new rest) ∙ ap (on_pid s.pid) (sym (begins_more s.pid s.table_id f found))))

-- The begins in a PID's findings are the same among the findings of the stream.
pub begins_reported : (table_id pid : ℕ) (found : List PidFinding) →
    filter_map (λ f. table_begin table_id f.begun) (map (with_pid_at pid) found) ≡ table_begins table_id found
begins_reported table_id pid [] = refl
begins_reported table_id pid (x ∷ found) = ap (λ (xs : List ℕ). cons_option (table_begin table_id x.found.begun) xs) (begins_reported table_id pid found)

-- 3. PES packets with a PTS

abbrev pub pts_pair : ℕ → Option ℕ → List (ℕ × ℕ)
pts_pair pid None = []
pts_pair pid (Some packet) = (pid, packet) ∷ []

abbrev pub pts_pairs_on : Option ℕ → Option (ℕ × Kind) → List (ℕ × ℕ)
pts_pairs_on None begun = []
pts_pairs_on (Some pid) begun = pts_pair pid (pts_begin begun)

abbrev pub pts_pairs : List FindingView → List (ℕ × ℕ)
pts_pairs found = flat_map (λ f. pts_pairs_on f.pid f.begun) found

pts_next : (s : RecurrenceState) (pid : Option ℕ) (begun : Option (ℕ × Kind)) → pts_on s pid begun ≡ marked_all s (pts_pairs_on pid begun)
unfolding pts_on pts_begun pts_begin marked_all
pts_next s None begun = refl
pts_next s (Some pid) None = refl
pts_next s (Some pid) (Some (packet, Table table_id)) = refl
pts_next s (Some pid) (Some (packet, Pes true access)) = refl
pts_next s (Some pid) (Some (packet, Pes false access)) = refl

pub pts_is : (s : RecurrenceState) (found : List FindingView) → pts_of_all s found ≡ marked_all s (pts_pairs found)
unfolding pts_of_all marked_all
pts_is s [] = refl
pts_is s (f ∷ found) =
    ap (λ (t : RecurrenceState). pts_of_all t found) (pts_next s f.pid f.begun)
    ∙ pts_is (marked_all s (pts_pairs_on f.pid f.begun)) found
    ∙ sym (marked_append s (pts_pairs_on f.pid f.begun) (pts_pairs found))

pts_place : (pid packet : ℕ) (q : Option ℕ) (begun : Option (ℕ × Kind)) (what : WhatView) (rest : List (ℕ × ℕ)) (found : List FindingView) →
    places_of pid rest ≡ filter_map (λ f. pts_begin f.begun) found →
    places_of pid (pts_pairs_on q begun ++ rest) ≡ filter_map (λ f. pts_begin f.begun) (cond (has_pid pid q) (finding packet q begun what ∷ found) found)
pts_place pid packet None begun what rest found h = h
pts_place pid packet (Some q) begun what rest found h = by (pts_begin begun) refl (q == pid) refl
  where
    by : (o : Option ℕ) → pts_begin begun ≡ o → (t : Bool) → (q == pid) ≡ t →
        places_of pid (pts_pair q (pts_begin begun) ++ rest) ≡ filter_map (λ f. pts_begin f.begun)
        (cond (q == pid) (finding packet (Some q) begun what ∷ found) found)
    by None f true e = rw (f, e, f) h
    by None f false e = rw (f, e) h
    by (Some x) f true e = rw (f, e, f) (ap (λ (xs : List ℕ). x ∷ xs) h)
    by (Some x) f false e = rw (f, e) h

pub pts_places_of : (pid : ℕ) (found : List FindingView) → places_of pid (pts_pairs found) ≡ filter_map (λ f. pts_begin f.begun) (found_of pid found)
pts_places_of pid [] = refl
pts_places_of pid (f ∷ found) = pts_place pid f.packet f.pid f.begun f.what (pts_pairs found) (found_of pid found) (pts_places_of pid found)

pub pts_reported : (pid : ℕ) (found : List PidFinding) → filter_map (λ f. pts_begin f.begun) (map (with_pid_at pid) found) ≡ pts_begins found
pts_reported pid [] = refl
pts_reported pid (x ∷ found) = ap (λ (xs : List ℕ). cons_option (pts_begin x.found.begun) xs) (pts_reported pid found)
