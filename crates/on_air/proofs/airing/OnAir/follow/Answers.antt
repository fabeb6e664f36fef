use Rattle.on_air.proofs.Aired.{follow_fails, followed_on, stays_ahead, stays_fed, stays_line_up, stays_texts}
use Rattle.on_air.proofs.airing.OnAir.follow.Goals as goal

pub returns-in-Followed-clause-ok : goal.returns-in-Followed-clause-ok
returns-in-Followed-clause-ok g c = λ run a start h.
    followed_on run a c.args.refusal _ _ c.in-Followed.due start _ _ c.write_until.result c.in-Followed.is (c.write_until.ensures.ok run a start h)

pub returns-in-Followed-clause-err : goal.returns-in-Followed-clause-err
returns-in-Followed-clause-err g c = λ run a start h.
    follow_fails run a c.args.refusal _ _ c.in-Followed.due start _ c.write_until.result c.in-Followed.is (c.write_until.ensures.err run a start h)

pub returns-in-Ahead-clause-ok : goal.returns-in-Ahead-clause-ok
returns-in-Ahead-clause-ok g c = λ run a start h. stays_ahead run a c.args.refusal c.in-Ahead.field-0 start _ _ c.in-Ahead.is h

pub returns-in-Feed-clause-ok : goal.returns-in-Feed-clause-ok
returns-in-Feed-clause-ok g c = λ run a start h. stays_fed run a c.args.refusal c.in-Feed.field-0 start _ _ c.in-Feed.is h

pub returns-in-Texts-clause-ok : goal.returns-in-Texts-clause-ok
returns-in-Texts-clause-ok g c = λ run a start h. stays_texts run a c.args.refusal c.in-Texts.field-0 start _ _ c.in-Texts.is h

pub returns-in-LineUp-clause-ok : goal.returns-in-LineUp-clause-ok
returns-in-LineUp-clause-ok g c = λ run a start h. stays_line_up run a c.args.refusal c.in-LineUp.field-0 start _ _ c.in-LineUp.is h
