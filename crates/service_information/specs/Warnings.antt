-- Warnings about service information that is not taken unchanged.
use Rattle.std.specs.Prelude.{ℕ, ◌&&◌, Bool, true, false, List, [], ◌∷◌, ◌++◌, map, flat_map, option_to_list}
use Rattle.demux.specs.Laws.{has_pid}
use Rattle.pid_findings.specs.Views.{WhatView, IsBadSection, FindingView}
use Rattle.service_information.specs.Events.{stream_events}
use Rattle.service_information.specs.EventSurplus.{event_surplus}
use Rattle.service_information.specs.FirstFindings.{first_packet}
use Rattle.service_information.specs.StreamTime.{time_surplus}
use Rattle.service_information.specs.declared.warning.InformationWarning.{InformationWarning}
use Rattle.service_information.specs.declared.warning.InformationWarning.TheVariants.{EventSurplus, TimeSurplus, BadSection}

-- 1. Sections that can't be read: NIT, SDT and BAT, EIT, TDT and TOT (EN 300 468, table 1)

unfoldable pub is_bad : WhatView → Bool
is_bad (IsBadSection error) = true
is_bad _ = false

unfoldable pub is_bad_on : ℕ → FindingView → Bool
is_bad_on pid finding = has_pid pid finding.pid && is_bad finding.what

abbrev pub bad_section : List FindingView → ℕ → List InformationWarning
bad_section findings pid = map (BadSection pid) (option_to_list (first_packet (is_bad_on pid) findings))

abbrev pub information_pids : List ℕ
information_pids = 0x10 ∷ 0x11 ∷ 0x12 ∷ 0x14 ∷ []

abbrev pub bad_sections : List FindingView → List InformationWarning
bad_sections findings = flat_map (bad_section findings) information_pids

-- 2. All of them

unfoldable pub information_warnings : List ℕ → List FindingView → List InformationWarning
information_warnings numbers findings =
    (bad_sections findings ++ map TimeSurplus (option_to_list (time_surplus findings)))
    ++ map EventSurplus (option_to_list (event_surplus numbers (stream_events numbers findings) findings))
