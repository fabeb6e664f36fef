-- Network information tables, finding by finding
use Rattle.std.proofs.Common.{◌≡◌, ◌≤◌, ◌<◌, ℕ, ◌+◌, true, false, List, length, map, drop, get_or, Option, Some, None, refl}
use Rattle.dvb_tables.specs.TransportStreams.{TransportStreamView}
use Rattle.pid_findings.specs.Views.{FindingView}
use Rattle.program_tables.proofs.Slices.{more, done}
use Rattle.ts_services.specs.NetworkInformation.{FoundNetworkView, nit_found}
use Rattle.job_programs.specs.OtherStreams.{is_surplus, surplus_from, with_findings, with_table}

-- 1. The transport streams that are taken

pub streams_more : {X : Type 0} (view : X → FindingView) (id : ℕ) (n : FoundNetworkView) (i : ℕ) (fs : List X) (f : X) (taken after : List TransportStreamView) →
    i < length fs → f ≡ get_or fs i f → after ≡ with_table id n taken (nit_found (view f)) →
    with_findings id n taken (map view (drop i fs)) ≡ with_findings id n after (map view (drop (i + 1) fs))
unfolding with_findings
streams_more view id n i fs f taken after below at made = rw (more view i fs f below at, made) refl

pub streams_end : {X : Type 0} (view : X → FindingView) (id : ℕ) (n : FoundNetworkView) (i : ℕ) (fs : List X) (taken : List TransportStreamView) → length fs ≤ i →
    with_findings id n taken (map view (drop i fs)) ≡ taken
unfolding with_findings
streams_end view id n i fs taken over = rw (done view i fs over) refl

-- 2. The first section with anything else

pub surplus_later : {X : Type 0} (view : X → FindingView) (id : ℕ) (n : Option FoundNetworkView) (others : List TransportStreamView) (i : ℕ) (fs : List X) (f : X) →
    i < length fs → f ≡ get_or fs i f → is_surplus id n others (view f) ≡ false →
    surplus_from id n others (map view (drop i fs)) ≡ surplus_from id n others (map view (drop (i + 1) fs))
unfolding surplus_from
surplus_later view id n others i fs f below at stays = rw (more view i fs f below at, stays) refl

pub surplus_here : {X : Type 0} (view : X → FindingView) (id : ℕ) (n : Option FoundNetworkView) (others : List TransportStreamView) (i : ℕ) (fs : List X) (f : X) →
    i < length fs → f ≡ get_or fs i f → is_surplus id n others (view f) ≡ true → surplus_from id n others (map view (drop i fs)) ≡ Some (view f).packet
unfolding surplus_from
surplus_here view id n others i fs f below at differs = rw (more view i fs f below at, differs) refl

pub surplus_end : {X : Type 0} (view : X → FindingView) (id : ℕ) (n : Option FoundNetworkView) (others : List TransportStreamView) (i : ℕ) (fs : List X) →
    length fs ≤ i → surplus_from id n others (map view (drop i fs)) ≡ None
unfolding surplus_from
surplus_end view id n others i fs over = rw (done view i fs over) refl
