-- From the finding of each sending to the findings of all sendings.
use Rattle.std.proofs.Common.{◌≡◌, ℕ, true, List, [], ◌∷◌, ◌++◌, map, All, Option, sym, ap, ap₂, ◌∙◌, append_assoc, append-nil}
use Rattle.std.proofs.lemmas.List.Elements.{All-head, All-tail}
use Rattle.ts_packet.specs.declared.start.Start.{Start}
use Rattle.slot_contents.specs.Contents.{Payload}
use Rattle.pid_findings.specs.Views.{PidFinding}
use Rattle.pid_findings.specs.OpenUnits.{OpenUnit}
use Rattle.pid_findings.specs.Findings.{at_packet, ended}
use Rattle.laws_run.specs.Sent.{cut, Sending, Ending, begin_or, next_of, if_sent, each_found}
use Rattle.laws_run.proofs.PidSteps.{finds, leaves, finds_append, leaves_append, Waits, leaves_waits}

-- The payloads of all sendings
unfoldable pub sent_payloads : {X : Type 0} → (X → Start) → (X → List ℕ) → List (Sending X) → List Payload
sent_payloads start text [] = []
sent_payloads start text (x ∷ xs) = cut (start x.item) (text x.item) x.packets ++ sent_payloads start text xs

-- The findings if the open unit ends at this packet
abbrev pub ends_at : Ending → Option OpenUnit → List PidFinding
ends_at e held = map (at_packet e.packet) (ended e.open_ended held)

-- A sending gives its one finding, whatever follows it; a unit that is open before it ends in its first packet.
abbrev pub Gives : {X : Type 0} → (X → Start) → (X → List ℕ) → (Ending → X → ℕ → List ℕ → PidFinding) → Sending X → Type 0
Gives start text found x = (e : Ending) (held : Option OpenUnit) → Waits held →
    finds (cut (start x.item) (text x.item) x.packets) held ++ ends_at e (leaves (cut (start x.item) (text x.item) x.packets) held)
    ≡ ends_at (begin_or e x.packets) held ++ if_sent (found e x.item) x.packets

regroup : (a b c d g h : List PidFinding) → b ++ c ≡ d ++ g → a ++ d ≡ h → (a ++ b) ++ c ≡ h ++ g
regroup a b c d g h rest first =
    append_assoc a b c ∙ ap (λ (xs : List PidFinding). a ++ xs) rest ∙ sym (append_assoc a d g) ∙ ap (λ (xs : List PidFinding). xs ++ g) first

pub all_give : {X : Type 0} (start : X → Start) (text : X → List ℕ) (found : Ending → X → ℕ → List ℕ → PidFinding) (count : ℕ) (xs : List (Sending X))
    (held : Option OpenUnit) →
    Waits held → All (Gives start text found) xs →
    finds (sent_payloads start text xs) held ++ map (at_packet count) (ended true (leaves (sent_payloads start text xs) held))
    ≡ ends_at (next_of count xs) held ++ each_found found count xs
unfolding sent_payloads next_of each_found finds leaves
all_give start text found count [] held w g = sym (append-nil (map (at_packet count) (ended true held)))
all_give start text found count (x ∷ xs) held w g =
    let one : List Payload = cut (start x.item) (text x.item) x.packets in
    let more : List Payload = sent_payloads start text xs in
    let e : Ending = next_of count xs in
    let first = All-head (Gives start text found) x xs g e held w in
    let rest = all_give start text found count xs (leaves one held) (leaves_waits one held w) (All-tail (Gives start text found) x xs g) in
    ap₂ (λ (a : List PidFinding) (b : Option OpenUnit). a ++ map (at_packet count) (ended true b)) (finds_append one more held) (leaves_append one more held)
    ∙ regroup (finds one held) (finds more (leaves one held)) (map (at_packet count) (ended true (leaves more (leaves one held))))
    (ends_at e (leaves one held)) (each_found found count xs)
    (ends_at (begin_or e x.packets) held ++ if_sent (found e x.item) x.packets) rest first
    ∙ append_assoc (ends_at (begin_or e x.packets) held) (if_sent (found e x.item) x.packets) (each_found found count xs)
