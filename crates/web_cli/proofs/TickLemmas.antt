-- One more tick of `feed`.
use Rattle.std.proofs.Common.{◌≡◌, ℕ, ◌+◌, ◌*◌, ◌-◌, ◌^◌, min, List, [], ◌∷◌, ◌++◌, Option, Some, sym, ap, ap₂, ◌∙◌, add-one, arith}
use Rattle.std.specs.Int.{bytes_high_first}
use Rattle.base_values.specs.Moments.{last_moment}
use Rattle.base_devices.specs.declared.device.Tick.{Tick}
use Rattle.web_cli.specs.FeedTicks.{feed_tick, feed_ticks}

abbrev pub some_ticks : List Tick → Option (List Tick)
some_ticks ts = Some ts

abbrev pub tick_of : ℕ → List ℕ → Tick
tick_of clock bytes = record { clock = clock; draw = record { bytes = bytes } }

pub saturated : (from x : ℕ) → min (from + min x (2 ^ 64 - 1)) last_moment ≡ min (from + x) last_moment
saturated from x = omega arith

pub one_more : (from step told number clock : ℕ) (bytes : List ℕ) → number ≡ told + 1 → clock ≡ min (from + told * step) last_moment
    → bytes ≡ bytes_high_first 16 number → some_ticks (feed_ticks from step number) ≡ some_ticks (feed_ticks from step told ++ tick_of clock bytes ∷ [])
one_more from step told number clock bytes is at draw =
    let same : tick_of clock bytes ≡ feed_tick from step told = ap₂ tick_of at (draw ∙ ap (bytes_high_first 16) is) in
    ap some_ticks (ap (feed_ticks from step) (is ∙ add-one told) ∙ ap (λ (t : Tick). feed_ticks from step told ++ t ∷ []) (sym same))
