-- The findings in a packet that was read.
use Rattle.std.proofs.Common.{◌≡◌, ℕ, ◌==◌, Ok, Bool, false, List, [], ◌∷◌, ◌++◌, map, refl, sym, ap, ◌∙◌}
use Rattle.std.specs.Prelude.{◌&&◌, if◌then◌else◌}
use Rattle.ts_packet.specs.Views.{PacketView}
use Rattle.pid_findings.specs.Machine.{found_by}
use Rattle.demux.specs.Stream.{States, entry_of, findings_by, state_of, without_pid, within_by}
use Rattle.pid_findings.specs.Views.{Found, FindingView, IsErrored}
use Rattle.pid_findings.specs.declared.finding.Finding.{Finding}
use Rattle.pid_findings.specs.declared.place.Place.{Place}
use Rattle.pid_findings.specs.Shown.{Finds, finding_view, is_span, with_pid}
use Rattle.pid_findings.proofs.FoundViews.{says, spans}

otherwise : {X : Type 0} (a b : Bool) (x y z : X) → a ≡ false → b ≡ false → (if a then x else (if b then y else z)) ≡ z
otherwise a b x y z e p = rw (e, p) refl

-- The findings in a packet without an error, unless it is a null packet, are the findings of its PID's state.
pub read_says : {A : Type 0} (index : ℕ) (bytes : List ℕ) (states : States) (packet : PacketView) (borrowed : Bool) (old new : List (Finding A)) →
    packet.header.transport_error_indicator ≡ false → (packet.header.pid == 8191) ≡ false →
    Finds (record { packet = index; pid = packet.header.pid; borrowed = borrowed }) old new
    (found_by (state_of packet.header.pid states) (entry_of index bytes packet)) →
    map finding_view new ≡ map finding_view old ++ findings_by index bytes states (Ok packet)
unfolding findings_by
read_says index bytes states packet borrowed old new e p h =
    let place : Place = record { packet = index; pid = packet.header.pid; borrowed = borrowed } in
    let found = found_by (state_of packet.header.pid states) (entry_of index bytes packet) in
    says place old new found h
    ∙ ap (λ (more : List FindingView). map finding_view old ++ more)
    (sym (otherwise packet.header.transport_error_indicator (packet.header.pid == 8191) (without_pid index IsErrored ∷ []) []
    (map (with_pid packet.header.pid index) found) e p))

pub read_spans : {A : Type 0} (index : ℕ) (bytes : List ℕ) (states : States) (packet : PacketView) (borrowed : Bool) (old new : List (Finding A)) →
    packet.header.transport_error_indicator ≡ false → (packet.header.pid == 8191) ≡ false →
    Finds (record { packet = index; pid = packet.header.pid; borrowed = borrowed }) old new
    (found_by (state_of packet.header.pid states) (entry_of index bytes packet)) →
    map is_span new ≡ map is_span old ++ map (λ (within : Bool). within && borrowed) (within_by index bytes states (Ok packet))
unfolding within_by
read_spans index bytes states packet borrowed old new e p h =
    let place : Place = record { packet = index; pid = packet.header.pid; borrowed = borrowed } in
    let found = found_by (state_of packet.header.pid states) (entry_of index bytes packet) in
    spans place old new found h
    ∙ ap (λ (within : List Bool). map is_span old ++ map (λ (b : Bool). b && borrowed) within)
    (sym (otherwise packet.header.transport_error_indicator (packet.header.pid == 8191) (false ∷ []) [] (map (λ (f : Found). f.within) found) e p))
