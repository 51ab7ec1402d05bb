-- The ticks of `feed`.
use Rattle.std.specs.Prelude.{ℕ, zero, suc, ◌+◌, ◌*◌, min, List, [], ◌∷◌, ◌++◌}
use Rattle.std.specs.Int.{bytes_high_first}
use Rattle.base_values.specs.Moments.{last_moment}
use Rattle.base_devices.specs.declared.device.Tick.{Tick}

-- The tick after so many earlier ones: its moment is as many steps after the first one, and the last moment where that is
-- beyond it; its draw is its number, from 1, in sixteen bytes, the greatest first.
abbrev pub feed_tick : ℕ → ℕ → ℕ → Tick
feed_tick from step earlier = record {
  clock = min (from + earlier * step) last_moment;
  draw = record { bytes = bytes_high_first 16 (earlier + 1) };
}

-- the first ticks
abbrev pub feed_ticks : ℕ → ℕ → ℕ → List Tick
feed_ticks from step zero = []
feed_ticks from step (suc n) = feed_ticks from step n ++ feed_tick from step n ∷ []
