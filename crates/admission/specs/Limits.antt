-- The limits of a policy and of what is offered, by their numbers; the code has constants of the same names.
use Rattle.std.specs.Prelude.{ℕ}

-- the most samples of a window
abbrev pub MAX_WINDOW : ℕ
MAX_WINDOW = 4096

-- the most admitted requests from one control to the next
abbrev pub MAX_EVERY : ℕ
MAX_EVERY = 4096

-- the most by which a control raises a rate
abbrev pub MAX_UP : ℕ
MAX_UP = 1000000000

-- the least and the greatest divisor of a rate that a control lowers, in hundredths
abbrev pub MIN_DOWN : ℕ
MIN_DOWN = 101

abbrev pub MAX_DOWN : ℕ
MAX_DOWN = 10000

-- the greatest target, in ticks
abbrev pub MAX_TARGET : ℕ
MAX_TARGET = 1000000000000

-- the longest service, in ticks
abbrev pub MAX_SERVICE : ℕ
MAX_SERVICE = 20000000000

-- the most servers of a pool
abbrev pub MAX_SERVERS : ℕ
MAX_SERVERS = 1024

-- the most pools beside the default one
abbrev pub MAX_POOLS : ℕ
MAX_POOLS = 16

-- the longest delay, in ticks
abbrev pub MAX_DELAY : ℕ
MAX_DELAY = 1000000000

-- the most requests that are offered
abbrev pub MAX_OFFERS : ℕ
MAX_OFFERS = 536870912
