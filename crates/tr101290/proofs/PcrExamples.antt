-- The definitions of clock references, with numbers.
use Rattle.std.proofs.Common.{◌≡◌, refl}
use Rattle.tr101290.specs.Measures.{rate_on, time_of_bytes, nanoseconds_off, off_neighbours}

-- 52,500 bytes at 4,200,000 bits a second take 100 ms; one byte more takes 51 ticks and a fraction more.
in_time : time_of_bytes 4200000 52500 ≡ 2700000
in_time = refl

late : time_of_bytes 4200000 52501 ≡ 2700052
late = refl

-- Two references that are 52,500 bytes and 100 ms apart give this rate.
rate : rate_on (record { byte = 10; moment = 2576980377600; bytes = 52500; ticks = 2700000 }) ≡ 4200000
rate = refl

-- With 13 ticks too many a reference is off by 481.5 ns, with 14 too few by 518.5 ns; both are rounded up.
thirteen : nanoseconds_off (record { byte = 10; moment = 2576980377600; bytes = 52500; ticks = 2700013 }) 4200000 216000000 ≡ 482
thirteen = refl

fourteen : nanoseconds_off (record { byte = 10; moment = 2576980377600; bytes = 52500; ticks = 2699986 }) 4200000 216000000 ≡ 519
fourteen = refl

-- Compared with its two neighbours at equal distances, a reference is off by half of 28 ticks.
between : off_neighbours (record { byte = 10; moment = 2576980377600; bytes = 52500; ticks = 2700014 })
    (record { byte = 52510; moment = 2576983077614; bytes = 52500; ticks = 2699986 })
    ≡ record { byte = 52510; nanoseconds = 519 }
between = refl
