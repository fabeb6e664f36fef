-- Laws of the two buffers of a video stream
use Rattle.std.proofs.Common.{◌∙◌, max, refl, arith, inl, inr}
use Rattle.std.proofs.lemmas.Bool.{cases_lt, lt-ltb, le-ltb}
use Rattle.unit_timing.specs.LeakMethod.{rooms_of}
use Rattle.unit_timing.proofs.LeakMethodLemmas.{transfers_law}
use Rattle.tstd_rows.specs.History.{payload_left}
use Rattle.tstd_rows.specs.VideoViewed.{removed_of, cause_of, CauseLaw, TransferredLaw}

pub cause_law : CauseLaw
unfolding cause_of
cause_law deadline alone room = elim (cases_lt deadline alone) [
  | inl late ↦ lt-ltb deadline (max alone room) (omega (arith, late)) ∙ rw (lt-ltb deadline alone late) refl
  | inr by ↦ elim (cases_lt deadline room) [
    | inl full ↦ lt-ltb deadline (max alone room) (omega (arith, full)) ∙ rw (le-ltb deadline alone by, lt-ltb deadline room full) refl
    | inr free ↦ le-ltb deadline (max alone room) (omega (arith, by, free)) ∙ rw (le-ltb deadline alone by, le-ltb deadline room free) refl
  ]
]

pub transferred_law : TransferredLaw
transferred_law step leak size parts = transfers_law leak 0 0 (payload_left step parts) (rooms_of size (removed_of parts))
