use Rattle.std.proofs.Common.{inl, inr, refl, sym, subst}
use Rattle.model_invariant.specs.Sound.{IsSound}
use Rattle.file_open.proofs.crashes.a_token_leaves_a_shop_running.Goals as goal

pub returns : goal.returns
returns g c = λ words s r running holds leaves. record {
  views = record { state_is = running.views.state_is; held = holds r.shop.state r.shop.kept running.views.held; one = running.views.one };
  sound = running.sound;
  leaves = λ left may. elim (leaves left may) [ inl was ↦ running.leaves left was | inr so ↦ (r.shop, inl refl, so r.shop.state r.shop.kept running.views.held) ];
  leaves_sound = λ left may. elim (leaves left may) [ inl was ↦ running.leaves_sound left was | inr so ↦ subst IsSound (sym (so r.shop.state r.shop.kept running.views.held).state) running.sound ];
}
