-- What a view of a stream holds after these parts of it.
use Rattle.std.specs.Prelude.{◌≡◌, ℕ, ◌≤◌, List, None}
use Rattle.tstd_rows.specs.Excesses.{excess_after}
use Rattle.tstd.specs.BufferState.{fullness_at}
use Rattle.tstd_rows.specs.History.{Part, arrivals_of, transport_of, main_fullness, main_peak, until_of, unit_of}
use Rattle.tstd_rows.specs.declared.viewed_buffers.StreamView.{StreamView}

-- the view has received these parts: its transport buffer and current excess follow from their bytes, its main buffer holds their payload at each moment from
-- the last departure on, its peak is the most bytes at an entry, and its current unit is the last unit of these parts
pub record IsViewOf {A : Type 0} (view : StreamView A) (parts : List Part) : Type 0 where
  pub arrived : view.transport ≡ transport_of view.transport.step parts
  pub watched : view.watch.under_way ≡ excess_after view.transport.step view.watch.size 0 None (arrivals_of parts)
  pub held : (x : ℕ) → view.transport.last ≤ x → fullness_at view.main x ≡ main_fullness view.transport.step parts x
  pub most : view.main.peak ≡ main_peak view.transport.step parts
  pub until : view.main.current.until ≡ until_of parts
  pub unit : view.unit ≡ unit_of view.transport.step parts
