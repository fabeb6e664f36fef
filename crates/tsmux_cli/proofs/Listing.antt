-- The lines of a stream's findings, piece by piece and at its end.
use Rattle.std.proofs.Common.{◌≡◌, ℕ, Bool, false, List, [], ◌++◌, refl, sym, ap, subst, ◌∙◌, Ok}
use Rattle.std.specs.Prelude.{◌||◌}
use Rattle.pid_findings.specs.Views.{FindingView}
use Rattle.demux.specs.Stream.{StreamState, pushed, start}
use Rattle.demux.specs.FoundSoFar.{with_found}
use Rattle.pid_findings.specs.Bodies.{all_without_body}
use Rattle.demux.specs.StreamBodies.{HeadersSoFar, headers_pushed}
use Rattle.demux.proofs.StreamBodies.{headers_are_found, no_headers_at_first}
use Rattle.devices.specs.Devices.{Device}
use Rattle.devices.specs.WholeInput.{ReadsInput}
use Rattle.tsmux_cli.specs.FindingLines.{finding_lines, has_fault}
use Rattle.tsmux_cli.specs.Demultiplexing.{ListsSome, ListsWhole, found_at_end, findings_of}
use Rattle.tsmux_cli.proofs.HeaderLines.{both_faults, both_lines, faults_alike, lines_alike}

-- 1. The findings so far

pub lists_none : (demux : StreamState) (lines : List ℕ) → demux ≡ start → lines ≡ [] → ListsSome [] demux false lines
lists_none demux lines d l = record {
  found = [];
  so_far = subst (λ (s : StreamState). HeadersSoFar [] s []) (sym d) no_headers_at_first;
  faults = refl;
  lines_are = l;
}

pub lists_more : (bytes piece : List ℕ) (demux next : StreamState) (faulty here : Bool) (lines more : List ℕ) → ListsSome bytes demux faulty lines →
    next ≡ with_found [] (headers_pushed demux piece) → here ≡ has_fault (pushed demux piece).found → more ≡ lines ++ finding_lines (pushed demux piece).found →
    ListsSome (bytes ++ piece) next (faulty || here) more
lists_more bytes piece demux next faulty here lines more l n h m =
    let found = (pushed demux piece).found in record {
      found = l.found ++ found;
      so_far = subst (λ (s : StreamState). HeadersSoFar (bytes ++ piece) s (l.found ++ found)) (sym n) (headers_are_found bytes piece demux l.found l.so_far).0;
      faults = rw (l.faults, h) (sym (both_faults l.found found));
      lines_are = m ∙ ap (λ (x : List ℕ). x ++ finding_lines found) l.lines_are ∙ sym (both_lines l.found found);
    }

-- Without their bodies, all findings are the findings so far and the findings at the end.
all_of : (bytes : List ℕ) (demux : StreamState) (found : List FindingView) → HeadersSoFar bytes demux found →
    all_without_body (findings_of bytes) ≡ all_without_body (found ++ found_at_end demux)
all_of bytes demux found s = (headers_are_found bytes [] demux found s).1

-- 2. The findings at the end are listed too

pub end_listed : (input : Device) (bytes : List ℕ) (demux : StreamState) (faulty ended : Bool) (lines more : List ℕ) → ReadsInput input (Ok bytes) →
    ListsSome bytes demux faulty lines → more ≡ lines ++ finding_lines (found_at_end demux) → ended ≡ has_fault (found_at_end demux) →
    ListsWhole input more (faulty || ended)
end_listed input bytes demux faulty ended lines more r l m e =
    let found = found_at_end demux in
    let all = all_of bytes demux l.found l.so_far in
    record {
      bytes = bytes;
      read = r;
      faults = rw (l.faults, e) (sym (both_faults l.found found) ∙ sym (faults_alike (findings_of bytes) (l.found ++ found) all));
      lines_are = m ∙ ap (λ (x : List ℕ). x ++ finding_lines found) l.lines_are ∙ sym (both_lines l.found found)
          ∙ sym (lines_alike (findings_of bytes) (l.found ++ found) all);
    }
