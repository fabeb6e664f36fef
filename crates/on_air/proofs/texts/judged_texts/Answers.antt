use Rattle.on_air.specs.Airing.{job_of}
use Rattle.on_air.proofs.TextsOn.{accepted_texts, refused_texts, unread_by}
use Rattle.on_air.proofs.texts.judged_texts.Goals as goal

pub returns-in-Err : goal.returns-in-Err
returns-in-Err g c = λ run a carries. unread_by run a c.args.bytes.now c.in-Err.error c.unread.result _ c.in-Err.is c.unread.ensures c.read_description.ensures

pub returns-in-None : goal.returns-in-None
returns-in-None g c = λ run a carries.
    accepted_texts run a c.args.bytes.now c.in-Ok.texts _ c.args.mux.now c.text_fault.result c.in-Ok.is c.read_description.ensures carries
    (c.text_fault.ensures (job_of a) carries.represents) c.in-None.is

pub returns-in-Some : goal.returns-in-Some
returns-in-Some g c = λ run a carries.
    refused_texts run a c.args.bytes.now c.in-Ok.texts _ c.args.mux.now c.text_fault.result c.in-Some.fault c.in-Ok.is c.read_description.ensures carries
    (c.text_fault.ensures (job_of a) carries.represents) c.in-Some.is
