-- `monitor`: an input that is taken in pieces of whole packets, except for the last piece, and the report on the whole input.
use Rattle.std.proofs.Common.{◌≡◌, ℕ, zero, suc, ◌*◌, ◌/◌, ◌%◌, ◌≤◌, List, [], ◌∷◌, ◌++◌, length, take, drop, refl, sym, ap, subst, ◌∙◌, arith, append_assoc}
use Rattle.std.proofs.Common.{append-nil, Result, Ok, Err}
use Rattle.std.specs.Prelude.{OnOk, not, ◌==◌}
use Rattle.std.proofs.lemmas.List.{length-drop, length-take-le, take-append-drop}
use Rattle.ts_packet.specs.PidList.{cut_packets}
use Rattle.ts_packet.proofs.Listing.{first_cut}
use Rattle.monitor.specs.Reports.{ReportView}
use Rattle.monitor.specs.Taken.{HasTaken, Takes}
use Rattle.monitor.specs.MonitorStates.{MonitorState}
use Rattle.devices.specs.Devices.{Device}
use Rattle.devices.specs.WholeInput.{ReadsInput, TakesInput, longest_input}
use Rattle.devices.specs.declared.halt.Halt.{Halt}
use Rattle.tsmux_cli.specs.Monitoring.{Concludes, ReportsOn}
use Rattle.tsmux_cli.specs.declared.request.MonitorOptions.{MonitorOptions}

-- 1. Whole packets, and bytes after them

cut_both : (count : ℕ) (bytes more : List ℕ) → length bytes ≡ 188 * count → cut_packets (bytes ++ more) ≡ cut_packets bytes ++ cut_packets more
cut_both zero [] more e = refl
cut_both zero (x ∷ bytes) more e = absurd (omega arith)
cut_both (suc count) bytes more e =
    let front = take 188 bytes in
    let back = drop 188 bytes in
    let joined : front ++ back ≡ bytes = take-append-drop 188 bytes in
    let size : length front ≡ 188 = length-take-le 188 bytes (omega arith) in
    let left : length back ≡ 188 * count = omega (arith, length-drop 188 bytes) in
    ap (λ (x : List ℕ). cut_packets (x ++ more)) (sym joined)
    ∙ ap (λ (x : List ℕ). cut_packets x) (append_assoc front back more)
    ∙ first_cut front (back ++ more) size
    ∙ ap (λ (x : List (List ℕ)). front ∷ x) (cut_both count back more left)
    ∙ ap (λ (x : List (List ℕ)). x ++ cut_packets more) (sym (first_cut front back size))
    ∙ ap (λ (x : List ℕ). cut_packets x ++ cut_packets more) joined

pub takes_none : (monitor : MonitorState) → Takes (cut_packets []) monitor monitor
takes_none monitor rate limit packets t = subst (λ (xs : List (List ℕ)). HasTaken rate limit xs monitor) (sym (append-nil packets)) t

pub takes_more : {V E : Type 0} (first before after : MonitorState) (bytes piece : List ℕ) (r : Result V E) → length bytes % 188 ≡ 0 →
    Takes (cut_packets bytes) first before → OnOk r (Takes (cut_packets piece) before after) → OnOk r (Takes (cut_packets (bytes ++ piece)) first after)
takes_more first before after bytes piece (Ok v) whole b a = λ rate limit packets t.
    let count : length bytes ≡ 188 * (length bytes / 188) = omega (arith, whole) in
    subst (λ (xs : List (List ℕ)). HasTaken rate limit xs after)
    (append_assoc packets (cut_packets bytes) (cut_packets piece)
    ∙ ap (λ (xs : List (List ℕ)). packets ++ xs) (sym (cut_both (length bytes / 188) bytes piece count)))
    (a rate limit (packets ++ cut_packets bytes) (b rate limit packets t))
takes_more first before after bytes piece (Err e) whole b a = tt

-- 2. The report on the bytes that were taken is the report on the whole stream

pub reports_on : (options : MonitorOptions) (input : Device) (first marks : MonitorState) (taken : Result ℕ Halt) (result : Result ReportView Halt) →
    HasTaken options.rate options.pcr_limit [] first → TakesInput (λ bytes. Takes (cut_packets bytes) first marks) input taken → Concludes marks taken result →
    ReportsOn options input result
reports_on options input first marks (Ok size) (Ok report) f t c =
    let fits : length t.bytes ≤ longest_input = t.short in
    record {
      bytes = t.bytes;
      read = t.read;
      is = c options.rate options.pcr_limit (cut_packets t.bytes) t.bytes (t.taken options.rate options.pcr_limit [] f)
          (record { packets_are = refl; cut_is = ap (λ (x : ℕ). not (x % 188 == 0)) (sym t.size_is) }) (omega (arith, fits));
    }
reports_on options input first marks (Ok size) (Err halt) f t c = subst (λ (h : Halt). ReadsInput input (Err h)) (sym c) t.read.1.clean
reports_on options input first marks (Err halt) (Ok report) f t c = absurd cc
reports_on options input first marks (Err halt) (Err other) f t c =
    subst (λ (h : Halt). ReadsInput input (Err h)) (sym (let same : other ≡ halt = cc in same)) t
