-- The monitor finds that PES packets with a PTS begin where units begin.
use Rattle.std.proofs.Common.{◌≡◌, ℕ, ◌+◌, ◌*◌, ◌==◌, nat_le, List, [], ◌∷◌, ◌++◌, length, map, Some, None, refl, ap, inl, inr}
use Rattle.std.specs.List.{filter_map}
use Rattle.std.proofs.lemmas.Bool.{cases_Bool}
use Rattle.pes_packet.specs.AccessUnits.{AccessUnit}
use Rattle.pes_packet.specs.Encoding.{pes_packet_bytes}
use Rattle.pid_findings.specs.Views.{PidFinding, FindingView}
use Rattle.demux.specs.Laws.{with_pid_at}
use Rattle.monitor.specs.Begins.{pts_begin, pts_begins}
use Rattle.unit_queue.specs.OwnedStreams.{has_access}
use Rattle.laws_run.specs.Sent.{Sending, Ending, if_sent, each_found}
use Rattle.laws_run.specs.Units.{carried_in, unit_header, unit_found}
use Rattle.laws_run.specs.Sections.{section_found}

-- The same begins, in the findings of the whole stream

abbrev pub reported_stamps : List FindingView → List ℕ
reported_stamps found = filter_map (λ f. pts_begin f.begun) found

pub stamps_reported : (pid : ℕ) (xs : List PidFinding) → reported_stamps (map (with_pid_at pid) xs) ≡ pts_begins xs
stamps_reported pid [] = refl
stamps_reported pid (x ∷ xs) = let rest = stamps_reported pid xs in rw rest refl

-- The begins of units

-- The first of these packets, if any
abbrev pub head_in : List ℕ → List ℕ
head_in [] = []
head_in (i ∷ is) = i ∷ []

-- The first sent packet of each unit, if any
unfoldable pub heads : List (Sending AccessUnit) → List ℕ
heads [] = []
heads (x ∷ xs) = head_in x.packets ++ heads xs

unit_begins : (id base0 : ℕ) (e : Ending) (u : AccessUnit) (i : ℕ) (is : List ℕ) → pts_begin (unit_found id base0 e u i is).found.begun ≡ Some i
unfolding pts_begin unit_found
unit_begins id base0 e u i is = elim (cases_Bool ((unit_header id base0 u).len == 0)) [
  | inl y ↦ rw y refl
  | inr n ↦ elim (cases_Bool (nat_le (length (pes_packet_bytes id base0 u)) (carried_in (has_access u) (i ∷ is))))
      [ inl y ↦ rw (n, y) refl | inr k ↦ rw (n, k) refl ]
]

one_head : (id base0 : ℕ) (e : Ending) (u : AccessUnit) (packets : List ℕ) (found : List PidFinding) (rest : List ℕ) → pts_begins found ≡ rest →
    pts_begins (if_sent (unit_found id base0 e u) packets ++ found) ≡ head_in packets ++ rest
unfolding if_sent
one_head id base0 e u [] found rest h = h
one_head id base0 e u (i ∷ is) found rest h =
    let here = unit_begins id base0 e u i is in
    rw here (ap (λ (l : List ℕ). i ∷ l) h)

pub unit_heads : (id base0 n : ℕ) (xs : List (Sending AccessUnit)) → pts_begins (each_found (unit_found id base0) n xs) ≡ heads xs
unfolding each_found heads
unit_heads id base0 n [] = refl
unit_heads id base0 n (x ∷ xs) = one_head id base0 _ x.item x.packets _ (heads xs) (unit_heads id base0 n xs)

-- Sections, which have no PTS

no_stamp : (e : Ending) (text : List ℕ) (i : ℕ) (is : List ℕ) → pts_begin (section_found e text i is).found.begun ≡ None
unfolding pts_begin section_found
no_stamp e text i is = elim (cases_Bool (nat_le (1 + length text) (184 * length (i ∷ is)))) [ inl y ↦ rw y refl | inr k ↦ rw k refl ]

none_more : (e : Ending) (text packets : List ℕ) (found : List PidFinding) → pts_begins found ≡ [] →
    pts_begins (if_sent (section_found e text) packets ++ found) ≡ []
unfolding if_sent
none_more e text [] found h = h
none_more e text (i ∷ is) found h =
    let here = no_stamp e text i is in
    rw here h

pub no_heads : (n : ℕ) (xs : List (Sending (List ℕ))) → pts_begins (each_found section_found n xs) ≡ []
unfolding each_found
no_heads n [] = refl
no_heads n (x ∷ xs) = none_more _ x.item x.packets _ (no_heads n xs)
