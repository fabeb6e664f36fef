use Rattle.std.proofs.Common.{◌≤◌, arith}
use Rattle.tstd.proofs.BufferCounts.{bytes_pushed, until_pushed, there_pushed, none_there, nothing_there}
use Rattle.tstd.proofs.main_buffer.MainBuffer.begin.Goals as goal
use Rattle.tstd.proofs.main_buffer.MainBuffer.begin.Goals.{then-self-gt0+in_ok-push, else-self-gt0}

pub returns-clause-sound : goal.returns-clause-sound
returns-clause-sound g c =
    let b = c.args.self.now in
    let s = c.requires.sound in
    elim c.if-self-gt0.branch [
      | then-self-gt0+in_ok-push w ↦
          let least = w.min-self.ensures in
          let low : w.min-self.result ≤ b.next = omega (arith, least) in
          let last : w.min-self.result ≤ b.current.until = omega (arith, least) in
          rw (w.self-is, w.in_ok-push.ensures.items) (record {
            all = omega (arith, s.all, bytes_pushed b.earlier.items b.current);
            early = until_pushed b.next w.min-self.result b.earlier.items b.current low last s.early;
          })
      | else-self-gt0 w ↦ rw w.self-is (record { all = omega (arith, s.all, w.if-self-gt0.false); early = s.early })
    ]

pub returns-clause-there : goal.returns-clause-there
returns-clause-there g c = λ x.
    let b = c.args.self.now in
    elim c.if-self-gt0.branch [
      | then-self-gt0+in_ok-push w ↦ rw (w.self-is, w.in_ok-push.ensures.items)
          (omega (arith, none_there x c.args.until, there_pushed x b.earlier.items b.current))
      | else-self-gt0 w ↦ rw w.self-is (omega (arith, none_there x c.args.until, nothing_there x b.current w.if-self-gt0.false))
    ]
