-- The definitions of intervals, with numbers.
use Rattle.std.proofs.Common.{◌≡◌, ℕ, Some, None, refl}
use Rattle.tr101290.specs.Intervals.{time_between, time_of_packets, no_section, taken, error_at, error_if, part_before, parts_after, places_after}
use Rattle.tr101290.specs.declared.intervals.TableTiming.TheVariants.{ConstantRate}
use Rattle.tr101290.specs.declared.intervals.SectionBegin.{SectionBegin}
use Rattle.tr101290.specs.Limits.{milliseconds}

-- 1,504,000 bits a second are 1,000 packets a second: 500 packets take 500 ms, and 501 take a millisecond more.
in_time : time_of_packets 1504000 500 ≡ 13500000
in_time = refl

late : time_of_packets 1504000 501 ≡ 13527000
late = refl

-- At a rate that is 1 bit a second higher, the time is 8 ticks shorter, rounded up.
rounded : time_of_packets 1504001 500 ≡ 13499992
rounded = refl

-- So the second of these sections of a PAT is late.
error : error_at (taken (no_section (ConstantRate 1504000)) (record { pid = 0; table_id = 0; part = None; packet = 7; place = 7 }))
    (record { pid = 0; table_id = 0; part = None; packet = 508; place = 508 })
    ≡ Some (record { section = record { pid = 0; table_id = 0; part = None; packet = 508; place = 508 }; value = 13527000; limit = 13500000 })
unfolding milliseconds error_if places_after time_between
error = refl

-- More than two seconds pass between sections of a service's following event, though its present event is between (1 ms a packet).
eit : ℕ → ℕ → SectionBegin
eit part packet = record { pid = 18; table_id = 78; part = Some part; packet = packet; place = packet }

part_error : error_at (taken (taken (no_section (ConstantRate 1504000)) (eit 1 7)) (eit 0 1500)) (eit 1 2008) ≡ Some
    (record { section = eit 1 2008; value = 54027000; limit = 54000000 })
unfolding eit milliseconds error_if part_before parts_after places_after time_between
part_error = refl
