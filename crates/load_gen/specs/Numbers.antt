-- The numbers that a drill draws: Marsaglia's xorshift generator of 64 bits, with the shifts 13, 7 and 17.
use Rattle.std.specs.Prelude.{ℕ, ◌*◌, ◌/◌, ◌%◌, ◌^◌, ◌==◌, if◌then◌else◌, bit_xor}

-- a number xor itself shifted left, or right, by so many bits
unfoldable pub left_xor : ℕ → ℕ → ℕ
left_xor bits x = bit_xor x (x * 2 ^ bits % 2 ^ 64)

unfoldable pub right_xor : ℕ → ℕ → ℕ
right_xor bits x = bit_xor x (x / 2 ^ bits)

-- the number after x
unfoldable pub next_number : ℕ → ℕ
next_number x = left_xor 17 (right_xor 7 (left_xor 13 x))

-- The number before the first that is drawn. It isn't 0, after which only 0 would come.
abbrev pub seed_number : ℕ → ℕ
seed_number start = if start == 0 then 1 else start
