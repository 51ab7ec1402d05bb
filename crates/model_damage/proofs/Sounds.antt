-- The rules of a file and the rules of a sound box office.
use Rattle.std.proofs.Common.{◌≡◌}
use Rattle.base_values.specs.Slugs.{IsSlug}
use Rattle.model_invariant.specs.Sound.{IsSound}
use Rattle.model_damage.specs.declared.rule.Rule.{Rule}
use Rattle.model_damage.specs.declared.rule.Rule.TheVariants as rules
use Rattle.model_damage.specs.Rules.{File, IsCounted, Keeps}

pub sound_of : (file : File) → ((rule : Rule) → Keeps rule file) → IsSound file.state
sound_of file all =
    let limits = all rules.Limits in
    let names = all rules.Names in
    record {
      range = (all rules.Shop).range;
      few = limits.few;
      limits = limits.values;
      ids = all rules.Ids;
      members = names.members;
      targets = names.targets;
      whole = names.whole;
      varied = names.varied;
      products = names.products;
      sent = names.sent;
      fit = names.fit;
      codes = names.codes;
      ordered = record { each = names.each; whole = all rules.Positions };
      door = names.door;
      headroom = all rules.Headroom;
      budgets = all rules.Budgets;
    }

pub keeps_all : (file : File) (rule : Rule) → IsSlug file.organizer → IsSlug file.event → IsSound file.state → IsCounted file → Keeps rule file
keeps_all file rules.Shop organizer event sound counted = record { organizer = organizer; event = event; range = sound.range }
keeps_all file rules.Limits organizer event sound counted = record {
  values = sound.limits;
  from_one = record {
    items = sound.ids.items.from_one;
    variations = sound.ids.variations.from_one;
    quotas = sound.ids.quotas.from_one;
    vouchers = sound.ids.vouchers.from_one;
    carts = sound.ids.carts.from_one;
    orders = sound.ids.orders.from_one;
    positions = sound.ids.positions.from_one;
    waiting = sound.ids.waiting.from_one;
    checkin_lists = sound.ids.checkin_lists.from_one;
    checkins = sound.ids.checkins.from_one;
  };
  few = sound.few;
}
keeps_all file rules.Ids organizer event sound counted = sound.ids
keeps_all file rules.Names organizer event sound counted = record {
  members = sound.members;
  targets = sound.targets;
  whole = sound.whole;
  varied = sound.varied;
  products = sound.products;
  sent = sound.sent;
  fit = sound.fit;
  codes = sound.codes;
  each = sound.ordered.each;
  door = sound.door;
}
keeps_all file rules.Positions organizer event sound counted = sound.ordered.whole
keeps_all file rules.Headroom organizer event sound counted = sound.headroom
keeps_all file rules.Counters organizer event sound counted = counted
keeps_all file rules.Budgets organizer event sound counted = sound.budgets
