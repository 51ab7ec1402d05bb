use Rattle.std.proofs.Common.{refl, inl, sym, subst}
use Rattle.model_invariant.specs.Sound.{IsSound}
use Rattle.model_invariant.proofs.Sound.{sound_empty}
use Rattle.file_tables.specs.Made.{nothing_yet}
use Rattle.file_open.proofs.crashes.a_made_shop_runs.Goals as goal

pub returns : goal.returns
returns g c = λ words first made. record {
  views = record { state_is = refl; held = made.holds; one = tt };
  sound = sound_empty;
  leaves = λ left may. (nothing_yet, inl refl, made.leaves left may);
  leaves_sound = λ left may. subst IsSound (sym (made.leaves left may).state) sound_empty;
}
