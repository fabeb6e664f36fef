use Rattle.std.proofs.Common.{◌≡◌, ◌+◌, drop, map}
use Rattle.std.specs.List.{position_or_len}
use Rattle.tsjob_cli.specs.FileMark.{is_mark}
use Rattle.tsjob_cli.proofs.file_mark.mark_place.Given as goal

abbrev pub invariant-loop-place : goal.invariant-loop-place
invariant-loop-place l = position_or_len is_mark (map (λ s. s.now) l.words) ≡ l.place + position_or_len is_mark (drop l.place (map (λ s. s.now) l.words))
