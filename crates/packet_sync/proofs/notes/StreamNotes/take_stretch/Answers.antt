use Rattle.packet_sync.proofs.Noted.{stretch_noted}
use Rattle.packet_sync.proofs.notes.StreamNotes.take_stretch.Goals as goal

pub returns-clause-noted : goal.returns-clause-noted
returns-clause-noted g c =
    let s = c.next_stretch-stretch.ensures in
    stretch_noted c.args.bytes.now c.args.ended c.next_stretch-stretch.result c.args.self.now c.note_stretch.new.self c.note_slip.new.self s.within s.stepped
    s.packets
    c.in_ok-note_stretch.ensures c.in_ok-note_slip.ensures
