-- The present and the following event of a service (EN 300 468, 5.2.4).
use Rattle.std.specs.Prelude.{ℕ, Bool, ◌+◌, ◌&&◌, nat_le, nat_lt}
use Rattle.dvb_tables.specs.declared.schedule.Event.{Event}

-- the event is on at the moment
unfoldable pub is_present : ℕ → Event → Bool
is_present moment event = nat_le event.start moment && nat_lt moment (event.start + event.duration)

-- the event begins after the moment
unfoldable pub is_following : ℕ → Event → Bool
is_following moment event = nat_lt moment event.start
