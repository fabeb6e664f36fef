use Rattle.std.proofs.Common.{refl}
use Rattle.devices.proofs.SavedFiles.{saved}
use Rattle.devices.proofs.saving.save_file.Goals as goal

pub returns-in-Ok : goal.returns-in-Ok
returns-in-Ok g c = saved _ _ _ _ _ _ _ _ c.in-Ok.ensures c.keep.ensures refl
