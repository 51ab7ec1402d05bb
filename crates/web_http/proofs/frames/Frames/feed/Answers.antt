use Rattle.std.proofs.Common.{drop, arith, ◌∙◌}
use Rattle.std.specs.Result.{is_ok}
use Rattle.web_http.proofs.KnownLemmas.{Known_fed}
use Rattle.web_http.proofs.frames.Frames.feed.Goals as goal

pub invariant_of-self : goal.invariant_of-self
invariant_of-self c =
    let rest = c.drop-drain.ensures.items ∙ c.drain.ensures.kept in
    let fed = rw rest at c.extend_from_slice.ensures.items in
    record {
      start = omega arith;
      base = omega arith;
      room = c.self.invariant.room;
      known = Known_fed (is_ok c.extend_from_slice.result) (drop c.self.inside.start c.self.inside.buffer.items) c.args.piece.now _ _ _ fed c.self.invariant.known;
      within = tt;
    }
