-- Sizes that hold whatever the settings are.
use Rattle.std.specs.Prelude.{ℕ, ◌^◌}

-- the greatest count of one READ or WRITE, in bytes
abbrev pub max_transfer : ℕ
max_transfer = 1048576

-- what a pending write or a ready job weighs beside its bytes, in bytes
abbrev pub base_weight : ℕ
base_weight = 1024

-- the requests that may wait for one sync
abbrev pub max_waiting : ℕ
max_waiting = 1024

-- the end of a file is below this number of bytes
abbrev pub end_limit : ℕ
end_limit = 2 ^ 63

-- the writes that one opening of a file accepts at most
abbrev pub max_history : ℕ
max_history = 131072
