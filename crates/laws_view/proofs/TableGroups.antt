-- The faults of a stream by a rule of tables or time stamps are the faults of one group.
use Rattle.std.proofs.Common.{◌≡◌, ◌∙◌, ℕ, Bool, List, [], ◌++◌, map, filter, Some, refl}
use Rattle.monitor.specs.declared.fault.StreamFault.{StreamFault}
use Rattle.monitor.specs.declared.fault.Rule.TheVariants as rules
use Rattle.monitor.specs.InOrder.{rule_number}
use Rattle.monitor.specs.Begins.{found_on}
use Rattle.monitor.specs.NamedPids.{namings}
use Rattle.monitor.specs.Faults.{faults_of, faults_of_findings, faults_of_packets, map_late, on_each, packet_pids, pat_late, pts_late, table_late}
use Rattle.monitor.specs.Rules.{fault}
use Rattle.laws_view.specs.FaultsByRule.{is_by}
use Rattle.laws_view.proofs.FaultGroups.{Without, findings_alone, findings_part, none_by_packets, none_of_pids}
use Rattle.laws_view.proofs.FaultLists.{left_alone, none_at, none_on_each, right_alone}

-- 1. The groups of findings, in order

abbrev pats : ℕ → List ℕ → List StreamFault
pats rate bytes = map (fault rules.Pat (Some 0x00)) (pat_late rate bytes)

abbrev pmts : ℕ → List ℕ → List StreamFault
pmts rate bytes = on_each rules.Pmt (map_late rate bytes) (map (λ naming. naming.0) (namings (found_on 0 bytes)))

abbrev nits : ℕ → List ℕ → List StreamFault
nits rate bytes = map (fault rules.Nit (Some 0x10)) (table_late rate 10000 0x10 0x40 bytes)

abbrev sdts : ℕ → List ℕ → List StreamFault
sdts rate bytes = map (fault rules.Sdt (Some 0x11)) (table_late rate 2000 0x11 0x42 bytes)

abbrev eits : ℕ → List ℕ → List StreamFault
eits rate bytes = map (fault rules.Eit (Some 0x12)) (table_late rate 2000 0x12 0x4E bytes)

abbrev tdts : ℕ → List ℕ → List StreamFault
tdts rate bytes = map (fault rules.Tdt (Some 0x14)) (table_late rate 30000 0x14 0x70 bytes)

abbrev ptss : ℕ → List ℕ → List StreamFault
ptss rate bytes = on_each rules.Pts (pts_late rate bytes) (packet_pids bytes)

-- Each group, joined to the groups before it.
abbrev to_pat : ℕ → List ℕ → List StreamFault
to_pat rate bytes = findings_part bytes ++ pats rate bytes

abbrev to_pmt : ℕ → List ℕ → List StreamFault
to_pmt rate bytes = to_pat rate bytes ++ pmts rate bytes

abbrev to_nit : ℕ → List ℕ → List StreamFault
to_nit rate bytes = to_pmt rate bytes ++ nits rate bytes

abbrev to_sdt : ℕ → List ℕ → List StreamFault
to_sdt rate bytes = to_nit rate bytes ++ sdts rate bytes

abbrev to_eit : ℕ → List ℕ → List StreamFault
to_eit rate bytes = to_sdt rate bytes ++ eits rate bytes

abbrev to_tdt : ℕ → List ℕ → List StreamFault
to_tdt rate bytes = to_eit rate bytes ++ tdts rate bytes

-- 2. The groups before the group of a rule

module _ (p : StreamFault → Bool) (rate : ℕ) (bytes : List ℕ) where
  no_finding : Without p rules.Counter → Without p rules.Crc → Without p rules.Section → filter p (findings_part bytes) ≡ []
  no_finding = none_of_pids p bytes (packet_pids bytes)

  no_pat : filter p (findings_part bytes) ≡ [] → Without p rules.Pat → filter p (to_pat rate bytes) ≡ []
  no_pat before pat = right_alone p (findings_part bytes) (pats rate bytes) before ∙ none_at p rules.Pat (Some 0x00) (pat_late rate bytes) (pat (Some 0x00))

  no_pmt : filter p (to_pat rate bytes) ≡ [] → Without p rules.Pmt → filter p (to_pmt rate bytes) ≡ []
  no_pmt before pmt = right_alone p (to_pat rate bytes) (pmts rate bytes) before
      ∙ none_on_each p rules.Pmt (map_late rate bytes) (map (λ naming. naming.0) (namings (found_on 0 bytes))) pmt

  no_nit : filter p (to_pmt rate bytes) ≡ [] → Without p rules.Nit → filter p (to_nit rate bytes) ≡ []
  no_nit before nit = right_alone p (to_pmt rate bytes) (nits rate bytes) before
      ∙ none_at p rules.Nit (Some 0x10) (table_late rate 10000 0x10 0x40 bytes) (nit (Some 0x10))

  no_sdt : filter p (to_nit rate bytes) ≡ [] → Without p rules.Sdt → filter p (to_sdt rate bytes) ≡ []
  no_sdt before sdt = right_alone p (to_nit rate bytes) (sdts rate bytes) before
      ∙ none_at p rules.Sdt (Some 0x11) (table_late rate 2000 0x11 0x42 bytes) (sdt (Some 0x11))

  no_eit : filter p (to_sdt rate bytes) ≡ [] → Without p rules.Eit → filter p (to_eit rate bytes) ≡ []
  no_eit before eit = right_alone p (to_sdt rate bytes) (eits rate bytes) before
      ∙ none_at p rules.Eit (Some 0x12) (table_late rate 2000 0x12 0x4E bytes) (eit (Some 0x12))

  no_tdt : filter p (to_eit rate bytes) ≡ [] → Without p rules.Tdt → filter p (to_tdt rate bytes) ≡ []
  no_tdt before tdt = right_alone p (to_eit rate bytes) (tdts rate bytes) before
      ∙ none_at p rules.Tdt (Some 0x14) (table_late rate 30000 0x14 0x70 bytes) (tdt (Some 0x14))

  -- 3. The groups after the group of a rule

  but_pmt : Without p rules.Pmt → filter p (to_pat rate bytes ++ pmts rate bytes) ≡ filter p (to_pat rate bytes)
  but_pmt pmt =
      left_alone p (to_pat rate bytes) (pmts rate bytes)
      (none_on_each p rules.Pmt (map_late rate bytes) (map (λ naming. naming.0) (namings (found_on 0 bytes))) pmt)

  but_nit : Without p rules.Nit → filter p (to_pmt rate bytes ++ nits rate bytes) ≡ filter p (to_pmt rate bytes)
  but_nit nit = left_alone p (to_pmt rate bytes) (nits rate bytes) (none_at p rules.Nit (Some 0x10) (table_late rate 10000 0x10 0x40 bytes) (nit (Some 0x10)))

  but_sdt : Without p rules.Sdt → filter p (to_nit rate bytes ++ sdts rate bytes) ≡ filter p (to_nit rate bytes)
  but_sdt sdt = left_alone p (to_nit rate bytes) (sdts rate bytes) (none_at p rules.Sdt (Some 0x11) (table_late rate 2000 0x11 0x42 bytes) (sdt (Some 0x11)))

  but_eit : Without p rules.Eit → filter p (to_sdt rate bytes ++ eits rate bytes) ≡ filter p (to_sdt rate bytes)
  but_eit eit = left_alone p (to_sdt rate bytes) (eits rate bytes) (none_at p rules.Eit (Some 0x12) (table_late rate 2000 0x12 0x4E bytes) (eit (Some 0x12)))

  but_tdt : Without p rules.Tdt → filter p (to_eit rate bytes ++ tdts rate bytes) ≡ filter p (to_eit rate bytes)
  but_tdt tdt = left_alone p (to_eit rate bytes) (tdts rate bytes) (none_at p rules.Tdt (Some 0x14) (table_late rate 30000 0x14 0x70 bytes) (tdt (Some 0x14)))

  but_pts : Without p rules.Pts → filter p (to_tdt rate bytes ++ ptss rate bytes) ≡ filter p (to_tdt rate bytes)
  but_pts pts = left_alone p (to_tdt rate bytes) (ptss rate bytes) (none_on_each p rules.Pts (pts_late rate bytes) (packet_pids bytes) pts)

-- 4. The group of each rule

by_findings : (p : StreamFault → Bool) (rate limit : ℕ) (bytes : List ℕ) → Without p rules.Sync → Without p rules.Packet → Without p rules.Error →
    Without p rules.Cut → Without p rules.Pcr → filter p (faults_of rate limit bytes) ≡ filter p (faults_of_findings rate bytes)
unfolding faults_of
by_findings p rate limit bytes s q e c r =
    right_alone p (faults_of_packets rate limit bytes) (faults_of_findings rate bytes) (none_by_packets p rate limit bytes s q e c r)

-- Rule 5: refused check words
pub crc_group : (rate limit : ℕ) (bytes : List ℕ) → filter (is_by 5) (faults_of rate limit bytes) ≡ filter (is_by 5) (findings_part bytes)
unfolding rule_number
crc_group rate limit bytes =
    by_findings (is_by 5) rate limit bytes (λ o k. refl) (λ o k. refl) (λ o k. refl) (λ o k. refl) (λ o k. refl)
    ∙ findings_alone (is_by 5) rate bytes (λ o k. refl) (λ o k. refl) (λ o k. refl) (λ o k. refl) (λ o k. refl) (λ o k. refl) (λ o k. refl)

-- Rule 6: sections that are refused for another reason
pub section_group : (rate limit : ℕ) (bytes : List ℕ) → filter (is_by 6) (faults_of rate limit bytes) ≡ filter (is_by 6) (findings_part bytes)
unfolding rule_number
section_group rate limit bytes =
    by_findings (is_by 6) rate limit bytes (λ o k. refl) (λ o k. refl) (λ o k. refl) (λ o k. refl) (λ o k. refl)
    ∙ findings_alone (is_by 6) rate bytes (λ o k. refl) (λ o k. refl) (λ o k. refl) (λ o k. refl) (λ o k. refl) (λ o k. refl) (λ o k. refl)

-- Rule 7: PAT
pub pat_group : (rate limit : ℕ) (bytes : List ℕ) → filter (is_by 7) (faults_of rate limit bytes) ≡ filter (is_by 7) (pats rate bytes)
unfolding rule_number
pat_group rate limit bytes =
    by_findings (is_by 7) rate limit bytes (λ o k. refl) (λ o k. refl) (λ o k. refl) (λ o k. refl) (λ o k. refl)
    ∙ but_pts (is_by 7) rate bytes (λ o k. refl)
    ∙ but_tdt (is_by 7) rate bytes (λ o k. refl)
    ∙ but_eit (is_by 7) rate bytes (λ o k. refl)
    ∙ but_sdt (is_by 7) rate bytes (λ o k. refl)
    ∙ but_nit (is_by 7) rate bytes (λ o k. refl)
    ∙ but_pmt (is_by 7) rate bytes (λ o k. refl)
    ∙ right_alone (is_by 7) (findings_part bytes) (pats rate bytes) (no_finding (is_by 7) rate bytes (λ o k. refl) (λ o k. refl) (λ o k. refl))

-- Rule 8: PMT
pub pmt_group : (rate limit : ℕ) (bytes : List ℕ) → filter (is_by 8) (faults_of rate limit bytes) ≡ filter (is_by 8) (pmts rate bytes)
unfolding rule_number
pmt_group rate limit bytes =
    by_findings (is_by 8) rate limit bytes (λ o k. refl) (λ o k. refl) (λ o k. refl) (λ o k. refl) (λ o k. refl)
    ∙ but_pts (is_by 8) rate bytes (λ o k. refl)
    ∙ but_tdt (is_by 8) rate bytes (λ o k. refl)
    ∙ but_eit (is_by 8) rate bytes (λ o k. refl)
    ∙ but_sdt (is_by 8) rate bytes (λ o k. refl)
    ∙ but_nit (is_by 8) rate bytes (λ o k. refl)
    ∙ right_alone (is_by 8) (to_pat rate bytes) (pmts rate bytes) (no_pat (is_by 8) rate bytes
    (no_finding (is_by 8) rate bytes (λ o k. refl) (λ o k. refl) (λ o k. refl)) (λ o k. refl))

-- Rule 9: NIT
pub nit_group : (rate limit : ℕ) (bytes : List ℕ) → filter (is_by 9) (faults_of rate limit bytes) ≡ filter (is_by 9) (nits rate bytes)
unfolding rule_number
nit_group rate limit bytes =
    by_findings (is_by 9) rate limit bytes (λ o k. refl) (λ o k. refl) (λ o k. refl) (λ o k. refl) (λ o k. refl)
    ∙ but_pts (is_by 9) rate bytes (λ o k. refl)
    ∙ but_tdt (is_by 9) rate bytes (λ o k. refl)
    ∙ but_eit (is_by 9) rate bytes (λ o k. refl)
    ∙ but_sdt (is_by 9) rate bytes (λ o k. refl)
    ∙ right_alone (is_by 9) (to_pmt rate bytes) (nits rate bytes) (no_pmt (is_by 9) rate bytes
    (no_pat (is_by 9) rate bytes
    (no_finding (is_by 9) rate bytes (λ o k. refl) (λ o k. refl) (λ o k. refl)) (λ o k. refl)) (λ o k. refl))

-- Rule 10: SDT
pub sdt_group : (rate limit : ℕ) (bytes : List ℕ) → filter (is_by 10) (faults_of rate limit bytes) ≡ filter (is_by 10) (sdts rate bytes)
unfolding rule_number
sdt_group rate limit bytes =
    by_findings (is_by 10) rate limit bytes (λ o k. refl) (λ o k. refl) (λ o k. refl) (λ o k. refl) (λ o k. refl)
    ∙ but_pts (is_by 10) rate bytes (λ o k. refl)
    ∙ but_tdt (is_by 10) rate bytes (λ o k. refl)
    ∙ but_eit (is_by 10) rate bytes (λ o k. refl)
    ∙ right_alone (is_by 10) (to_nit rate bytes) (sdts rate bytes) (no_nit (is_by 10) rate bytes
    (no_pmt (is_by 10) rate bytes
    (no_pat (is_by 10) rate bytes
    (no_finding (is_by 10) rate bytes (λ o k. refl) (λ o k. refl) (λ o k. refl)) (λ o k. refl)) (λ o k. refl)) (λ o k. refl))

-- Rule 11: EIT
pub eit_group : (rate limit : ℕ) (bytes : List ℕ) → filter (is_by 11) (faults_of rate limit bytes) ≡ filter (is_by 11) (eits rate bytes)
unfolding rule_number
eit_group rate limit bytes =
    by_findings (is_by 11) rate limit bytes (λ o k. refl) (λ o k. refl) (λ o k. refl) (λ o k. refl) (λ o k. refl)
    ∙ but_pts (is_by 11) rate bytes (λ o k. refl)
    ∙ but_tdt (is_by 11) rate bytes (λ o k. refl)
    ∙ right_alone (is_by 11) (to_sdt rate bytes) (eits rate bytes) (no_sdt (is_by 11) rate bytes
    (no_nit (is_by 11) rate bytes
    (no_pmt (is_by 11) rate bytes
    (no_pat (is_by 11) rate bytes
    (no_finding (is_by 11) rate bytes (λ o k. refl) (λ o k. refl) (λ o k. refl)) (λ o k. refl)) (λ o k. refl)) (λ o k. refl)) (λ o k. refl))

-- Rule 12: TDT
pub tdt_group : (rate limit : ℕ) (bytes : List ℕ) → filter (is_by 12) (faults_of rate limit bytes) ≡ filter (is_by 12) (tdts rate bytes)
unfolding rule_number
tdt_group rate limit bytes =
    by_findings (is_by 12) rate limit bytes (λ o k. refl) (λ o k. refl) (λ o k. refl) (λ o k. refl) (λ o k. refl)
    ∙ but_pts (is_by 12) rate bytes (λ o k. refl)
    ∙ right_alone (is_by 12) (to_eit rate bytes) (tdts rate bytes) (no_eit (is_by 12) rate bytes
    (no_sdt (is_by 12) rate bytes
    (no_nit (is_by 12) rate bytes
    (no_pmt (is_by 12) rate bytes
    (no_pat (is_by 12) rate bytes
    (no_finding (is_by 12) rate bytes (λ o k. refl) (λ o k. refl) (λ o k. refl)) (λ o k. refl)) (λ o k. refl)) (λ o k. refl)) (λ o k. refl)) (λ o k. refl))

-- Rule 14: PTS
pub pts_group : (rate limit : ℕ) (bytes : List ℕ) → filter (is_by 14) (faults_of rate limit bytes) ≡ filter (is_by 14) (ptss rate bytes)
unfolding rule_number
pts_group rate limit bytes =
    by_findings (is_by 14) rate limit bytes (λ o k. refl) (λ o k. refl) (λ o k. refl) (λ o k. refl) (λ o k. refl)
    ∙ right_alone (is_by 14) (to_tdt rate bytes) (ptss rate bytes) (no_tdt (is_by 14) rate bytes
    (no_eit (is_by 14) rate bytes
    (no_sdt (is_by 14) rate bytes
    (no_nit (is_by 14) rate bytes
    (no_pmt (is_by 14) rate bytes
    (no_pat (is_by 14) rate bytes
    (no_finding (is_by 14) rate bytes (λ o k. refl) (λ o k. refl) (λ o k. refl)) (λ o k. refl)) (λ o k. refl)) (λ o k. refl)) (λ o k. refl)) (λ o k. refl))
    (λ o k. refl))
