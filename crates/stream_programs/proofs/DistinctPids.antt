-- Lists of PIDs without a repeated PID.
use Rattle.std.proofs.Common.{◌≡◌, ◌≤◌, ◌<◌, ℕ, suc, ◌+◌, ◌==◌, ◌||◌, nat_eq, nat_le, nat_lt, Bool, true, false, if◌then◌else◌, List, [], ◌∷◌, ◌++◌, length}
use Rattle.std.proofs.Common.{map, append_assoc, append-nil, Option, None, Some, refl, sym, subst, ap, ◌∙◌, inl, inr, arith}
use Rattle.std.proofs.lemmas.Bool.{and_parts, cases_Bool, not-true, or_parts, leb-false, eqb-false, ne_eqb}
use Rattle.std.proofs.lemmas.List.{map-append, length-append, length-map}
use Rattle.std.proofs.lemmas.List.Elements.{All-push, All-nil}
use Rattle.std.proofs.lemmas.List.Folds.{list_any-append}
use Rattle.std.proofs.lemmas.List.Sorted.{IsPermutation-append_comm, IsPermutation-append_right, All-permutation}
use Rattle.std.proofs.lemmas.Map.Keys.{IsDistinct-push, IsDistinct-IsPermutation}
use Rattle.std.proofs.lemmas.Option.{option_and_then_some}
use Rattle.std.specs.Cmp.{nat_eq_equiv}
use Rattle.std.specs.List.{list_any, IsDistinct}
use Rattle.std.specs.Option.{option_or}
use Rattle.std.specs.Prelude.{is_none, not}
use Rattle.psi_tables.specs.ProgramMap.{StreamView, PmtView}
use Rattle.psi_tables.specs.declared.pat.programs.Program.{Program}
use Rattle.pid_findings.specs.Views.{FindingView}
use Rattle.stream_programs.specs.FreePids.{is_taken, least_free}
use Rattle.stream_programs.specs.Laws.{PidsAreDistinct, EachHasPids}
use Rattle.stream_programs.specs.PidAssignment.{IsPid, AreDistinctPids, stream_pids, map_pids, assigned_map_pid, assigned_map_pids, with_pcr_pids}
use Rattle.stream_programs.specs.PidAssignment.{assigned_pids, all_pids}
use Rattle.program_tables.specs.ProgramMaps.{program_map}
use Rattle.stream_programs.specs.Programs.{FoundProgramsView, FoundProgramView, nothing, can_place, can_share, holder_in, with_left_out, with_table}
use Rattle.stream_programs.specs.Programs.{with_shared, with_stream_if, with_stream, with_streams, is_scrambled_map, is_multiplexed_map, with_multiplex}
use Rattle.stream_programs.specs.Programs.{with_access, with_program_if, with_map, with_program_by, with_programs, programs_of, kept_stream, kept_program}
use Rattle.stream_programs.specs.Streams.{FoundStreamView, is_reserved, has_no_pes, holder, is_stream_of, taken, omission_of}
use Rattle.stream_programs.specs.declared.omission.TableOmission.{TableOmission}
use Rattle.stream_programs.specs.declared.omission.TableOmission.TheVariants.{NoMap, ConditionalAccess, Multiplex, NoPes, Reserved, Taken, SharedOtherwise}
use Rattle.stream_programs.specs.declared.omission.TableOmission.TheVariants.{NoStream}
use Rattle.stream_programs.specs.declared.pid_assignment.ProgramPids.{ProgramPids}
use Rattle.stream_programs.proofs.LeastFreePid.{free_is}
use Rattle.stream_programs.proofs.Sharers.{shared_pids}

-- 1. One more PID

other_way : (pid : ℕ) (pids : List ℕ) → is_taken pid pids ≡ false → list_any (nat_eq pid) pids ≡ false
unfolding is_taken
other_way pid [] free = refl
other_way pid (p ∷ pids) free =
    let parts = or_parts (p == pid) (list_any (λ o. o == pid) pids) free in
    rw (ne_eqb pid p (λ same. eqb-false p pid parts.0 (sym same)), other_way pid pids parts.1) refl

one_more : (pids : List ℕ) (pid : ℕ) → AreDistinctPids pids → is_taken pid pids ≡ false → IsPid pid → AreDistinctPids (pids ++ pid ∷ [])
one_more pids pid h free is = record {
  range = All-push IsPid pids pid h.range is;
  apart = IsDistinct-push nat_eq_equiv pids pid h.apart (other_way pid pids free);
}

-- A PID that is not in two joined lists is in neither list.
neither : (pid : ℕ) (xs ys : List ℕ) → is_taken pid (xs ++ ys) ≡ false → (is_taken pid xs ≡ false) × (is_taken pid ys ≡ false)
unfolding is_taken
neither pid xs ys free = or_parts (list_any (λ o. o == pid) xs) (list_any (λ o. o == pid) ys) (sym (list_any-append (λ o. o == pid) xs ys) ∙ free)

both : (pid : ℕ) (xs ys : List ℕ) → is_taken pid xs ≡ false → is_taken pid ys ≡ false → is_taken pid (xs ++ ys) ≡ false
unfolding is_taken
both pid xs ys one other = list_any-append (λ o. o == pid) xs ys ∙ rw (one, other) refl

is_pid : (pid : ℕ) → is_reserved pid ≡ false → IsPid pid
unfolding is_reserved
is_pid pid h =
    let parts = or_parts (nat_lt pid 32) (nat_le 8191 pid) h in
    let low = leb-false (suc pid) 32 parts.0 in
    let high = leb-false 8191 pid parts.1 in
    record { low = omega (arith, low); high = omega (arith, high) }

new_pid : (from pid : ℕ) → from ≤ pid → pid < 8191 → 32 ≤ from → IsPid pid
new_pid from pid after below low = record { low = omega (arith, after, low); high = omega (arith, below) }

-- 2. Maps

place_is : (streams maps given : List ℕ) (pid place : ℕ) → assigned_map_pid streams given (streams ++ maps ++ given) pid ≡ Some place →
    (is_taken place (streams ++ given) ≡ false) × IsPid place
unfolding assigned_map_pid
place_is streams maps given pid place is = elim (cases_Bool (is_reserved pid || (is_taken pid streams || is_taken pid given))) [
  | inl moved ↦
      let new : least_free 32 (streams ++ maps ++ given) ≡ Some place = rw moved at is in
      let free = free_is 32 (streams ++ maps ++ given) place new in
      let old = neither place (streams ++ maps) given free.free in
      (both place streams given (neither place streams maps old.0).0 old.1, new_pid 32 place free.after free.below (omega arith))
  | inr stays ↦
      let own : Some pid ≡ Some place = rw stays at is in
      let same : pid ≡ place = cc in
      let parts = or_parts (is_reserved pid) (is_taken pid streams || is_taken pid given) stays in
      let apart = or_parts (is_taken pid streams) (is_taken pid given) parts.1 in
      subst (λ (p : ℕ). (is_taken p (streams ++ given) ≡ false) × IsPid p) same (both pid streams given apart.0 apart.1, is_pid pid parts.0)
]

maps_apart : (streams maps given pids out : List ℕ) → AreDistinctPids (streams ++ given) → assigned_map_pids streams maps given pids ≡ Some out →
    AreDistinctPids (streams ++ out)
unfolding assigned_map_pids
maps_apart streams maps given [] out h is = let same : given ≡ out = cc in subst (λ (o : List ℕ). AreDistinctPids (streams ++ o)) same h
maps_apart streams maps given (pid ∷ pids) out h is =
    option_and_then_some (λ (place : ℕ). assigned_map_pids streams maps (given ++ place ∷ []) pids)
    (assigned_map_pid streams given (streams ++ maps ++ given) pid) out is
    (λ place at rest. let free = place_is streams maps given pid place at in
    maps_apart streams maps (given ++ place ∷ []) pids out
    (subst (λ (ps : List ℕ). AreDistinctPids ps) (append_assoc streams given (place ∷ [])) (one_more (streams ++ given) place h free.0 free.1)) rest)

maps_many : (streams maps given pids out : List ℕ) → assigned_map_pids streams maps given pids ≡ Some out → length out ≡ length given + length pids
unfolding assigned_map_pids
maps_many streams maps given [] out is = let same : given ≡ out = cc in rw (sym same) (let none : length given ≡ length given + 0 = omega arith in none)
maps_many streams maps given (pid ∷ pids) out is =
    option_and_then_some (λ (place : ℕ). assigned_map_pids streams maps (given ++ place ∷ []) pids)
    (assigned_map_pid streams given (streams ++ maps ++ given) pid) out is
    (λ place at rest. let more = maps_many streams maps (given ++ place ∷ []) pids out rest in let one = length-append given (place ∷ []) in
    omega (arith, more, one))

-- 3. Clocks

clocks_apart : (front used : List ℕ) (given : List ProgramPids) (ms : List ℕ) (out : List ProgramPids) →
    used ≡ front ++ map (λ (p : ProgramPids). p.pcr_pid) given → AreDistinctPids used →
    with_pcr_pids used given ms ≡ Some out → AreDistinctPids (front ++ map (λ (p : ProgramPids). p.pcr_pid) out)
unfolding with_pcr_pids
clocks_apart front used given [] out made h is =
    let same : given ≡ out = cc in
    subst (λ (o : List ProgramPids). AreDistinctPids (front ++ map (λ (p : ProgramPids). p.pcr_pid) o)) same (subst (λ (u : List ℕ). AreDistinctPids u) made h)
clocks_apart front used given (m ∷ ms) out made h is =
    option_and_then_some (λ (clock : ℕ). with_pcr_pids (used ++ clock ∷ []) (given ++ record { map_pid = m; pcr_pid = clock } ∷ []) ms) (least_free 256 used)
    out is
    (λ clock at rest. let free = free_is 256 used clock at in
    clocks_apart front (used ++ clock ∷ []) (given ++ record { map_pid = m; pcr_pid = clock } ∷ []) ms out
    (rw (made, map-append (λ (p : ProgramPids). p.pcr_pid) given (record { map_pid = m; pcr_pid = clock } ∷ []))
    (append_assoc front (map (λ (p : ProgramPids). p.pcr_pid) given) (clock ∷ [])))
    (one_more used clock h free.free (new_pid 256 clock free.after free.below (omega arith))) rest)

clocks_keep : (used : List ℕ) (given : List ProgramPids) (ms : List ℕ) (out : List ProgramPids) → with_pcr_pids used given ms ≡ Some out →
    map (λ (p : ProgramPids). p.map_pid) out ≡ map (λ (p : ProgramPids). p.map_pid) given ++ ms
unfolding with_pcr_pids
clocks_keep used given [] out is = let same : given ≡ out = cc in rw (sym same) (sym (append-nil (map (λ (p : ProgramPids). p.map_pid) given)))
clocks_keep used given (m ∷ ms) out is =
    option_and_then_some (λ (clock : ℕ). with_pcr_pids (used ++ clock ∷ []) (given ++ record { map_pid = m; pcr_pid = clock } ∷ []) ms) (least_free 256 used)
    out is
    (λ clock at rest. clocks_keep (used ++ clock ∷ []) (given ++ record { map_pid = m; pcr_pid = clock } ∷ []) ms out rest
    ∙ rw (map-append (λ (p : ProgramPids). p.map_pid) given (record { map_pid = m; pcr_pid = clock } ∷ []))
    (append_assoc (map (λ (p : ProgramPids). p.map_pid) given) (m ∷ []) ms))

-- 4. All PIDs

permuted : (xs ys : List ℕ) → AreDistinctPids (xs ++ ys) → AreDistinctPids (ys ++ xs)
permuted xs ys h =
    let same = IsPermutation-append_comm xs ys in
    record {
      range = All-permutation IsPid (xs ++ ys) (ys ++ xs) same h.range;
      apart =
          IsDistinct-IsPermutation nat_eq nat_eq_equiv.symm (xs ++ ys) (ys ++ xs) same h.apart;
    }

in_order : (streams ms clocks : List ℕ) → AreDistinctPids (streams ++ ms ++ clocks) → AreDistinctPids (ms ++ clocks ++ streams)
in_order streams ms clocks h = permuted streams (ms ++ clocks) (subst (λ (ps : List ℕ). AreDistinctPids ps) (append_assoc streams ms clocks) h)

placed_apart : (found : FoundProgramsView) (places : List ProgramPids) → AreDistinctPids (stream_pids found) → assigned_pids found ≡ Some places →
    AreDistinctPids (all_pids places (stream_pids found))
unfolding assigned_pids
placed_apart found places h is =
    let streams = stream_pids found in
    let maps = map_pids found in
    option_and_then_some (λ (ms : List ℕ). with_pcr_pids (streams ++ ms) [] ms) (assigned_map_pids streams maps [] maps) places is
    (λ ms at rest.
    let first = maps_apart streams maps [] maps ms (subst (λ (ps : List ℕ). AreDistinctPids ps) (sym (append-nil streams)) h) at in
    let all = clocks_apart (streams ++ ms) (streams ++ ms) [] ms places (sym (append-nil (streams ++ ms))) first rest in
    subst (λ (ks : List ℕ). AreDistinctPids (ks ++ map (λ (p : ProgramPids). p.pcr_pid) places ++ streams))
    (sym (clocks_keep (streams ++ ms) [] ms places rest))
    (in_order streams ms (map (λ (p : ProgramPids). p.pcr_pid) places) all))

-- 5. The streams that are kept

no_holder : (pid : ℕ) (kept : List FoundStreamView) → holder pid kept ≡ None → is_taken pid (map (λ (s : FoundStreamView). s.pid) kept) ≡ false
unfolding holder is_taken
no_holder pid [] none = refl
no_holder pid (s ∷ kept) none = elim (cases_Bool (s.pid == pid)) [
  | inl own ↦ absurd (let no : ⊥ = cc in no)
  | inr other ↦ rw (other, no_holder pid kept (rw other at none)) refl
]

not_taken : (program pid : ℕ) (o : Option ℕ) → taken program pid o ≡ None → o ≡ None
not_taken program pid None none = refl
not_taken program pid (Some other) none = absurd (let no : ⊥ = cc in no)

neither_has : (one other : Option ℕ) → option_or one other ≡ None → (one ≡ None) × (other ≡ None)
neither_has None other none = (refl, none)
neither_has (Some x) other none = absurd (let no : ⊥ = cc in no)

none_has : (found : FoundProgramsView) (pid : ℕ) → holder_in found pid ≡ None → is_taken pid (stream_pids found) ≡ false
unfolding holder_in
none_has found pid none =
    let parts = neither_has (holder pid found.streams) (holder pid found.tables) none in
    both pid (map (λ (s : FoundStreamView). s.pid) found.streams) (map (λ (s : FoundStreamView). s.pid) found.tables)
    (no_holder pid found.streams parts.0) (no_holder pid found.tables parts.1)

kept_free : (found : FoundProgramsView) (program type pid : ℕ) → omission_of program type pid (holder_in found pid) ≡ None →
    (is_taken pid (stream_pids found) ≡ false) × IsPid pid
unfolding omission_of
kept_free found program type pid none = elim (cases_Bool (has_no_pes type)) [
  | inl sections ↦ absurd (let other = rw sections at none in let no : ⊥ = cc in no)
  | inr pes ↦ elim (cases_Bool (is_reserved pid)) [
    | inl reserved ↦ absurd (let other = rw (pes, reserved) at none in let no : ⊥ = cc in no)
    | inr usual ↦ (none_has found pid (not_taken program pid (holder_in found pid) (rw (pes, usual) at none)), is_pid pid usual)
  ]
]

-- The PIDs are still distinct if a new stream is inserted before the sections.
one_before : (xs ys : List ℕ) (pid : ℕ) → AreDistinctPids ((xs ++ ys) ++ pid ∷ []) → AreDistinctPids ((xs ++ pid ∷ []) ++ ys)
one_before xs ys pid h =
    let last : AreDistinctPids (xs ++ (ys ++ pid ∷ [])) = subst (λ (ps : List ℕ). AreDistinctPids ps) (append_assoc xs ys (pid ∷ [])) h in
    let moved = IsPermutation-append_comm ys (pid ∷ []) in
    let same = IsPermutation-append_right xs (ys ++ pid ∷ []) (pid ∷ ys) moved in
    subst (λ (ps : List ℕ). AreDistinctPids ps) (sym (append_assoc xs (pid ∷ []) ys))
    (record {
      range = All-permutation IsPid (xs ++ (ys ++ pid ∷ [])) (xs ++ (pid ∷ ys)) same last.range;
      apart =
          IsDistinct-IsPermutation nat_eq nat_eq_equiv.symm (xs ++ (ys ++ pid ∷ [])) (xs ++ (pid ∷ ys)) same last.apart;
    })

none_is : (o : Option ℕ) → is_none o ≡ true → o ≡ None
none_is None h = refl
none_is (Some x) h = absurd (let no : ⊥ = cc in no)

-- Keeping a table's PID, or skipping it, keeps the PIDs distinct.
placed_if : (b : Bool) (found : FoundProgramsView) (s : FoundStreamView) → can_place found s.pid ≡ b → AreDistinctPids (stream_pids found) →
    AreDistinctPids
    (map (λ (t : FoundStreamView). t.pid) found.streams ++ map (λ (t : FoundStreamView). t.pid) (if b then found.tables ++ s ∷ [] else found.tables))
unfolding can_place
placed_if false found s is h = h
placed_if true found s is h =
    let parts = and_parts (not (is_reserved s.pid)) (is_none (holder_in found s.pid)) is in
    let free = none_has found s.pid (none_is (holder_in found s.pid) parts.1) in
    let usual = not-true (is_reserved s.pid) parts.0 in
    subst (λ (ps : List ℕ). AreDistinctPids (map (λ (t : FoundStreamView). t.pid) found.streams ++ ps))
    (sym (map-append (λ (t : FoundStreamView). t.pid) found.tables (s ∷ [])))
    (subst (λ (ps : List ℕ). AreDistinctPids ps)
    (append_assoc (map (λ (t : FoundStreamView). t.pid) found.streams) (map (λ (t : FoundStreamView). t.pid) found.tables) (s.pid ∷ []))
    (one_more (stream_pids found) s.pid h free (is_pid s.pid usual)))

table_kept : (found : FoundProgramsView) (s : FoundStreamView) → AreDistinctPids (stream_pids found) → AreDistinctPids (stream_pids (with_table found s))
unfolding with_table
table_kept found s h = placed_if (can_place found s.pid) found s refl h

-- Sharing a stream does not change the PIDs.
shared_kept : (found : FoundProgramsView) (holder : ℕ) (s : FoundStreamView) → stream_pids (with_shared found holder s) ≡ stream_pids found
unfolding with_shared
shared_kept found holder s = ap (λ (ps : List ℕ). ps ++ map (λ (t : FoundStreamView). t.pid) found.tables) (shared_pids s.program s.pid found.streams)

taken_kept : (b : Bool) (found : FoundProgramsView) (program pid holder : ℕ) (s : FoundStreamView) →
    stream_pids (if b then with_shared found holder s else with_left_out found (Taken program pid holder)) ≡ stream_pids found
taken_kept true found program pid holder s = shared_kept found holder s
taken_kept false found program pid holder s = refl

left_kept : (found : FoundProgramsView) (pcr_pid : ℕ) (s : FoundStreamView) (why : TableOmission) → AreDistinctPids (stream_pids found) →
    AreDistinctPids (stream_pids (with_stream_if (Some why) found pcr_pid s))
unfolding with_stream_if
left_kept found pcr_pid s (Taken program pid holder) h =
    subst AreDistinctPids (sym (taken_kept (can_share found holder pcr_pid s) found program pid holder s)) h
left_kept found pcr_pid s (NoPes program pid type) h = table_kept found s h
left_kept found pcr_pid s (NoMap program) h = h
left_kept found pcr_pid s (ConditionalAccess program) h = h
left_kept found pcr_pid s (Multiplex program) h = h
left_kept found pcr_pid s (Reserved program pid) h = h
left_kept found pcr_pid s (SharedOtherwise program pid holder) h = h
left_kept found pcr_pid s (NoStream program) h = h

one_kept : (found : FoundProgramsView) (program pcr_pid : ℕ) (s : StreamView) (why : Option TableOmission) →
    omission_of program s.stream_type s.elementary_pid (holder_in found s.elementary_pid) ≡ why →
    AreDistinctPids (stream_pids found) → AreDistinctPids (stream_pids (with_stream_if why found pcr_pid (kept_stream program s)))
unfolding with_stream_if
one_kept found program pcr_pid s (Some why) is h = left_kept found pcr_pid (kept_stream program s) why h
one_kept found program pcr_pid s None is h =
    let free = kept_free found program s.stream_type s.elementary_pid is in
    let streams = map (λ (t : FoundStreamView). t.pid) found.streams in
    let tables = map (λ (t : FoundStreamView). t.pid) found.tables in
    subst (λ (ps : List ℕ). AreDistinctPids (ps ++ tables)) (sym (map-append (λ (t : FoundStreamView). t.pid) found.streams (kept_stream program s ∷ [])))
    (one_before streams tables s.elementary_pid (one_more (stream_pids found) s.elementary_pid h free.0 free.1))

all_kept : (found : FoundProgramsView) (program pcr_pid : ℕ) (ss : List StreamView) → AreDistinctPids (stream_pids found) →
    AreDistinctPids (stream_pids (with_streams found program pcr_pid ss))
unfolding with_streams with_stream
all_kept found program pcr_pid [] h = h
all_kept found program pcr_pid (s ∷ ss) h =
    all_kept (with_stream found program pcr_pid s) program pcr_pid ss
    (one_kept found program pcr_pid s (omission_of program s.stream_type s.elementary_pid (holder_in found s.elementary_pid)) refl h)

access_same : (found : FoundProgramsView) (program : ℕ) (pmt : PmtView) → stream_pids (with_access found program pmt) ≡ stream_pids found
unfolding with_access
access_same found program pmt = elim (cases_Bool (is_scrambled_map pmt)) [
  | inl scrambled ↦ rw scrambled refl
  | inr clear ↦ rw clear refl
]

multiplex_same : (found : FoundProgramsView) (program : ℕ) (pmt : PmtView) → stream_pids (with_multiplex found program pmt) ≡ stream_pids found
unfolding with_multiplex
multiplex_same found program pmt = elim (cases_Bool (is_multiplexed_map pmt)) [
  | inl some ↦ rw some refl
  | inr none ↦ rw none refl
]

program_same : (found : FoundProgramsView) (p : FoundProgramView) → stream_pids (with_program_if found p) ≡ stream_pids found
unfolding with_program_if
program_same found p = elim (cases_Bool (list_any (is_stream_of p.number) found.streams)) [
  | inl some ↦ rw some refl
  | inr none ↦ rw none refl
]

map_kept : (found : FoundProgramsView) (p : Program) (pmt : PmtView) → AreDistinctPids (stream_pids found) →
    AreDistinctPids (stream_pids (with_map found p pmt))
unfolding with_map
map_kept found p pmt h =
    let access = with_access found p.program_number pmt in
    let multiplex = with_multiplex access p.program_number pmt in
    let same = multiplex_same access p.program_number pmt ∙ access_same found p.program_number pmt in
    let streams = with_streams multiplex p.program_number pmt.pcr_pid pmt.streams in
    subst (λ (ps : List ℕ). AreDistinctPids ps) (sym (program_same streams (kept_program p pmt)))
    (all_kept multiplex p.program_number pmt.pcr_pid pmt.streams (subst (λ (ps : List ℕ). AreDistinctPids ps) (sym same) h))

program_kept : (found : FoundProgramsView) (p : Program) (pmt : Option PmtView) → AreDistinctPids (stream_pids found) →
    AreDistinctPids (stream_pids (with_program_by found p pmt))
unfolding with_program_by
program_kept found p None h = h
program_kept found p (Some pmt) h = map_kept found p pmt h

programs_kept : (found : FoundProgramsView) (ps : List Program) (fs : List FindingView) → AreDistinctPids (stream_pids found) →
    AreDistinctPids (stream_pids (with_programs found ps fs))
unfolding with_programs
programs_kept found [] fs h = h
programs_kept found (p ∷ ps) fs h = programs_kept (with_program_by found p (program_map p fs)) ps fs (program_kept found p (program_map p fs) h)

no_pids : AreDistinctPids []
unfolding IsDistinct
no_pids = record { range = All-nil IsPid; apart = tt }

-- 6. The laws

pub are_apart : PidsAreDistinct
unfolding programs_of
are_apart named findings places is = placed_apart (programs_of named findings) places (programs_kept nothing named findings no_pids) is

pub each_placed : EachHasPids
unfolding assigned_pids
each_placed found places is =
    let streams = stream_pids found in
    let maps = map_pids found in
    option_and_then_some (λ (ms : List ℕ). with_pcr_pids (streams ++ ms) [] ms) (assigned_map_pids streams maps [] maps) places is
    (λ ms at rest.
    let many = maps_many streams maps [] maps ms at in
    let kept = ap (length {A = ℕ}) (clocks_keep (streams ++ ms) [] ms places rest) in
    let one = length-map places (λ (p : ProgramPids). p.map_pid) in
    let other = length-map found.programs (λ (p : FoundProgramView). p.map_pid) in
    omega (arith, many, kept, one, other))
