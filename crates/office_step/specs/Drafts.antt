-- What a decision sees of its draft, passed on.
pub use Rattle.decide_orders.specs.Drafts.{DraftState, now, Extends}
