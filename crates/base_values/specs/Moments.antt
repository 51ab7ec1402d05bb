-- Moments, in whole seconds since 1970-01-01T00:00:00Z.
use Rattle.std.specs.Prelude.{ℕ, ◌≤◌}

-- 9998-12-31T23:59:59Z
abbrev pub last_moment : ℕ
last_moment = 253370764799

-- a moment is a second from 1970 on, up to the last one
abbrev pub IsMoment : ℕ → Type 0
IsMoment at = at ≤ last_moment
