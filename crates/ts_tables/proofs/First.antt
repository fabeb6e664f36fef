-- The known streams are the streams that the first packets name.
use Rattle.std.proofs.Common.{◌≡◌, ◌∙◌, sym, ℕ, ◌+◌, suc, min, is_some, Bool, true, false, List, [], ◌∷◌, ◌++◌, length, Option, Some, None, true≢false, refl}
use Rattle.std.proofs.Common.{ap, arith}
use Rattle.std.proofs.lemmas.Bool.Decides.{nat_tests}
use Rattle.demux.specs.Stream.{StreamState, start, pushed}
use Rattle.demux.proofs.PushedBytes.{pushed_append}
use Rattle.stream_programs.specs.Programs.{FoundProgramsView}
use Rattle.ts_tables.specs.NamedStreams.{NamedView, taken_if, is_last, next_packet, streams_at}
use Rattle.ts_tables.specs.Laws.{state_of, bytes_of, first_streams, FirstLaw}

-- A state after packets; until the streams are known, it has all findings of these packets, and their number.
record IsAfter (packets : List (List ℕ)) (s : NamedView) : Type 0 where
  streams : s.streams ≡ first_streams packets
  found : s.streams ≡ None → s.demux ≡ pushed start (bytes_of packets)
  count : s.streams ≡ None → s.packets ≡ min (length packets) 4294967295

-- The counter, which stops at its greatest value, marks the last packet where the exact number does.
last_same : (n : ℕ) → is_last (min (min n 4294967295 + 1) 4294967295) ≡ is_last (suc n)
last_same n = by (is_last (min (min n 4294967295 + 1) 4294967295)) (is_last (suc n)) refl refl
  where
    by : (s t : Bool) → is_last (min (min n 4294967295 + 1) 4294967295) ≡ s → is_last (suc n) ≡ t → s ≡ t
    by true true p q = refl
    by false false p q = refl
    by true false p q = absurd (grind (arith, nat_tests))
    by false true p q = absurd (grind (arith, nat_tests))

is_some_none : (streams : FoundProgramsView) (o : Option FoundProgramsView) → o ≡ Some streams → o ≡ None → true ≡ false
is_some_none streams o some none = ap (λ (x : Option FoundProgramsView). is_some x) (sym some ∙ none)

after_one : (packet : List ℕ) (earlier : List (List ℕ)) (s : NamedView) (o : Option FoundProgramsView) → s.streams ≡ o → IsAfter earlier s →
    IsAfter (packet ∷ earlier) (taken_if s o packet)
unfolding taken_if first_streams bytes_of
after_one packet earlier s (Some streams) e is = record {
  streams = let f : first_streams earlier ≡ Some streams = sym is.streams ∙ e in rw f e;
  found = λ none. absurd (true≢false (is_some_none streams s.streams e none));
  count = λ none. absurd (true≢false (is_some_none streams s.streams e none));
}
after_one packet earlier s None e is =
    let f : first_streams earlier ≡ None = sym is.streams ∙ e in
    let d : pushed s.demux packet ≡ pushed start (bytes_of earlier ++ packet) =
    ap (λ (state : StreamState). pushed state packet) (is.found e) ∙ sym (pushed_append start (bytes_of earlier) packet) in
    let n : next_packet s.packets ≡ min (min (length earlier) 4294967295 + 1) 4294967295 = ap (λ (k : ℕ). next_packet k) (is.count e) in
    let l : is_last (next_packet s.packets) ≡ is_last (suc (length earlier)) = ap (λ (k : ℕ). is_last k) n ∙ last_same (length earlier) in
    record {
      streams = rw f (ap (λ (state : StreamState). streams_at (is_last (next_packet s.packets)) state.found) d
          ∙ ap (λ (last : Bool). streams_at last (pushed start (bytes_of earlier ++ packet)).found) l);
      found = λ none. d;
      count = λ none. n ∙ omega arith;
    }

after_all : (packets : List (List ℕ)) → IsAfter packets (state_of packets)
unfolding state_of first_streams bytes_of
after_all [] = record { streams = refl; found = λ none. refl; count = λ none. refl }
after_all (packet ∷ earlier) = after_one packet earlier (state_of earlier) (state_of earlier).streams refl (after_all earlier)

pub first_law : FirstLaw
first_law packets = (after_all packets).streams
