-- Numbers as text of a page.
use Rattle.std.specs.Prelude.{ℕ, ◌*◌, ◌/◌, ◌%◌, max, nat_lt, if◌then◌else◌, List, [], ◌++◌, codes, decimal, flat_map}
use Rattle.page_curves.specs.declared.numbers.TheConstants.{THOUSANDS}

-- three digits of a number below 1,000, after a narrow space
unfoldable pub three_digits : ℕ → List ℕ
three_digits count = codes "&#8239;" ++ (decimal (count / 100) ++ (decimal (count / 10 % 10) ++ decimal (count % 10)))

-- the group of three digits of a number that counts this unit: none before the first group, which has no space and no zeros
abbrev pub group : ℕ → ℕ → List ℕ
group value unit = if nat_lt value unit then []
    else if nat_lt (value / max unit 1) 1000 then decimal (value / max unit 1)
    else three_digits (value / max unit 1 % 1000)

-- in groups of three digits from 10,000 on
unfoldable pub grouped : ℕ → List ℕ
grouped value = if nat_lt value 10000 then decimal value else flat_map (group value) THOUSANDS

-- a number in a unit of this size, with one decimal place, rounded down
unfoldable pub tenths : ℕ → ℕ → List ℕ
tenths value unit = grouped (value / unit) ++ (codes "." ++ decimal (value % unit * 10 / unit))
